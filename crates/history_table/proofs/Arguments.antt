-- The indexes of arguments, one after another.
use Rattle.std.proofs.Common.{◌≡◌, ℕ, zero, suc, ◌+◌, List, [], ◌∷◌, ◌++◌, length, drop, refl, sym, ap, ◌∙◌, append_assoc, append-nil, arith, Option, None, Some, option_map, slice_get}
use Rattle.std.specs.Option.{option_and_then}
use Rattle.std.proofs.lemmas.Option.{none-some, same_Some}
use Rattle.trio_types.specs.World.{World}
use Rattle.history_table.specs.declared.line.Value.{Value}
use Rattle.history_table.specs.Rows.{value_index, arg_indexes}

-- an index before those that follow it
before : Option ℕ → Option (List ℕ) → Option (List ℕ)
before o is = option_and_then (λ i. option_map (λ more. i ∷ more) is) o

before_none : (o : Option ℕ) → before o None ≡ None
unfolding before
before_none None = refl
before_none (Some i) = refl

pub other_number : (w : World) (ds : List ℕ) (values : List Value) → (length ds ≡ length values → ⊥) → arg_indexes w ds values ≡ None
unfolding before
other_number w [] [] differs = absurd (differs refl)
other_number w [] (v ∷ vs) differs = refl
other_number w (d ∷ ds) [] differs = refl
other_number w (d ∷ ds) (v ∷ vs) differs = ap (before (value_index w d v)) (other_number w ds vs (λ same. differs (ap suc same))) ∙ before_none (value_index w d v)

-- what is found before what is left
pub behind : List ℕ → Option (List ℕ) → Option (List ℕ)
behind found is = option_map (λ more. found ++ more) is

pub behind_none : (found : List ℕ) → behind found None ≡ None
unfolding behind
behind_none found = refl

pub behind_start : (is : Option (List ℕ)) → is ≡ behind [] is
unfolding behind
behind_start None = refl
behind_start (Some more) = refl

one_more : (found : List ℕ) (i : ℕ) (is : Option (List ℕ)) → behind found (before (Some i) is) ≡ behind (found ++ i ∷ []) is
unfolding behind before
one_more found i None = refl
one_more found i (Some more) = ap Some (sym (append_assoc found (i ∷ []) more))

split : (w : World) (ds : List ℕ) (values : List Value) (k d : ℕ) (v : Value) → slice_get ds k ≡ Some d → slice_get values k ≡ Some v →
    arg_indexes w (drop k ds) (drop k values) ≡ before (value_index w d v) (arg_indexes w (drop (k + 1) ds) (drop (k + 1) values))
unfolding before
split w [] values k d v at at_value = absurd (none-some d at)
split w (e ∷ ds) [] k d v at at_value = absurd (none-some v at_value)
split w (e ∷ ds) (u ∷ values) zero d v at at_value = ap (λ x. before (value_index w x u) (arg_indexes w ds values)) (same_Some e d at) ∙ ap (λ y. before (value_index w d y) (arg_indexes w ds values)) (same_Some u v at_value)
split w (e ∷ ds) (u ∷ values) (suc k) d v at at_value =
    let next : suc k + 1 ≡ suc (k + 1) = omega arith in rw next (split w ds values k d v at at_value)

pub found_index : (w : World) (ds : List ℕ) (values : List Value) (found : List ℕ) (k d : ℕ) (v : Value) (i : ℕ) → slice_get ds k ≡ Some d → slice_get values k ≡ Some v →
    arg_indexes w ds values ≡ behind found (arg_indexes w (drop k ds) (drop k values)) → value_index w d v ≡ Some i →
    arg_indexes w ds values ≡ behind (found ++ i ∷ []) (arg_indexes w (drop (k + 1) ds) (drop (k + 1) values))
found_index w ds values found k d v i at at_value so_far is =
    let rest = arg_indexes w (drop (k + 1) ds) (drop (k + 1) values) in
    so_far ∙ ap (behind found) (split w ds values k d v at at_value ∙ ap (λ o. before o rest) is) ∙ one_more found i rest

pub no_index : (w : World) (ds : List ℕ) (values : List Value) (found : List ℕ) (k d : ℕ) (v : Value) → slice_get ds k ≡ Some d → slice_get values k ≡ Some v →
    arg_indexes w ds values ≡ behind found (arg_indexes w (drop k ds) (drop k values)) → value_index w d v ≡ None → arg_indexes w ds values ≡ None
unfolding before
no_index w ds values found k d v at at_value so_far is =
    let rest = arg_indexes w (drop (k + 1) ds) (drop (k + 1) values) in
    so_far ∙ ap (behind found) (split w ds values k d v at at_value ∙ ap (λ o. before o rest) is) ∙ behind_none found

pub all_found : (w : World) (ds : List ℕ) (values : List Value) (found : List ℕ) (k : ℕ) → length ds ≡ length values → length ds ≡ k →
    arg_indexes w ds values ≡ behind found (arg_indexes w (drop k ds) (drop k values)) → arg_indexes w ds values ≡ Some found
unfolding behind
all_found w ds values found k same all so_far = so_far ∙ ap (behind found) (end ds values k same all) ∙ ap Some (append-nil found)
  where
    end : (ds : List ℕ) (values : List Value) (k : ℕ) → length ds ≡ length values → length ds ≡ k → arg_indexes w (drop k ds) (drop k values) ≡ Some []
    end [] [] zero same all = refl
    end [] [] (suc k) same all = absurd (omega (arith, all))
    end [] (v ∷ vs) k same all = absurd (omega (arith, same))
    end (d ∷ ds) [] k same all = absurd (omega (arith, same))
    end (d ∷ ds) (v ∷ vs) zero same all = absurd (omega (arith, all))
    end (d ∷ ds) (v ∷ vs) (suc k) same all = end ds vs k (omega (arith, same)) (omega (arith, all))
