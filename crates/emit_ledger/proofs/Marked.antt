-- Marks of regions.
use Rattle.std.proofs.Common.{◌≡◌, ◌↔◌, ℕ, zero, suc, ◌+◌, ◌<◌, IsTrue, Bool, false, length, get_or, arith, List, [], ◌∷◌, ◌++◌, Option, None, Some, map, take, slice_get, slice_set, sym, ap, refl, ◌∙◌, subst}
use Rattle.std.proofs.lemmas.Slice.Zip.{all_zipped_more}
use Rattle.branch_state.specs.Posed.{Posed}
use Rattle.branch_state.proofs.CodeReads.{take_next}
use Rattle.emit_ledger.specs.Regions.{RegionView}
use Rattle.emit_ledger.specs.Pool.{Tells, IsMarked}

-- a region is taken out of its place
pub marked_out : (p : Posed) (marks : List Bool) (pool : List (Option RegionView)) (place : ℕ) → IsMarked p marks pool → IsMarked p marks (slice_set pool place None)
marked_out p [] [] place is = is
marked_out p [] (s ∷ ss) place is = absurd is
marked_out p (m ∷ ms) [] place is = absurd is
marked_out p (m ∷ ms) (s ∷ ss) zero is = (tt, is.1)
marked_out p (m ∷ ms) (s ∷ ss) (suc k) is = (is.0, marked_out p ms ss k is.1)

-- a mark tells of what stands in its place
pub marked_at : (p : Posed) (marks : List Bool) (pool : List (Option RegionView)) (place : ℕ) (slot : Option RegionView) → IsMarked p marks pool → place < length marks →
    slot ≡ get_or pool place slot → Tells p (get_or marks place false) slot
marked_at p [] pool place slot is inside at = absurd (omega (arith, inside))
marked_at p (m ∷ ms) [] place slot is inside at = absurd is
marked_at p (m ∷ ms) (s ∷ ss) zero slot is inside at = subst (Tells p m) (sym at) is.0
marked_at p (m ∷ ms) (s ∷ ss) (suc k) slot is inside at = marked_at p ms ss k slot is.1 (omega (arith, inside)) at

map_push : (xs : List RegionView) (x : RegionView) → map Some (xs ++ x ∷ []) ≡ map Some xs ++ Some x ∷ []
map_push [] x = refl
map_push (y ∷ ys) x = ap (λ l. Some y ∷ l) (map_push ys x)

-- one more region is marked
pub marked_more : (p : Posed) (marks : List Bool) (regions : List RegionView) (k : ℕ) (m : Bool) (r : RegionView) → slice_get regions k ≡ Some r → (IsTrue m ↔ (r.problem ≡ p)) →
    IsMarked p marks (map Some (take k regions)) → IsMarked p (marks ++ m ∷ []) (map Some (take (k + 1) regions))
marked_more p marks regions k m r at tells so =
    subst (IsMarked p (marks ++ m ∷ [])) (sym (ap (map Some) (take_next regions k r at) ∙ map_push (take k regions) r))
    (all_zipped_more (Tells p) marks (map Some (take k regions)) m (Some r) so tells)
