-- What the code finds of a branch in a table.
use Rattle.std.proofs.Common.{◌≡◌, ℕ, ◌+◌, ◌≤◌, ℤ, Bool, true, false, not, List, [], ◌∷◌, ◌++◌, map, take, length, zip, Some, slice_get, refl, sym, ap, ◌∙◌, arith}
use Rattle.std.specs.List.{list_all}
use Rattle.std.proofs.lemmas.Bool.{and_from, false_from_ne_true, false≢true}
use Rattle.std.proofs.lemmas.List.Folds.{list_all_more}
use Rattle.std.proofs.lemmas.List.{take_all, map-append}
use Rattle.std.proofs.lemmas.Slice.Zip.{length-zip}
use Rattle.std.proofs.lemmas.Option.{slice_get_within, get_or_from_slice_get}
use Rattle.trio_types.specs.Cells.{IsTable}
use Rattle.trio_types.proofs.Lists.{each_of}
use Rattle.trio_core.specs.declared.nodes.Core.{Core}
use Rattle.trio_core.specs.declared.nodes.Three.{Three}
use Rattle.trio_core.specs.declared.nodes.Three.TheVariants as three
use Rattle.trio_core.specs.Core.{core_truth_from}
use Rattle.trio_core.specs.Sets.{set_has, AreSets}
use Rattle.trio_core.specs.Three.{sure, core_truth3}
use Rattle.trio_core.specs.Stands.{world_of_core, NodeAsked}
use Rattle.trio_core.proofs.Looks.{zip_at}
use Rattle.trio_core.proofs.Standing.{same_world}
use Rattle.branch_state.specs.declared.branch.Want.{Want}
use Rattle.branch_state.specs.Posed.{Posed, IsPosed, world_of_problem}
use Rattle.branch_state.specs.Branches.{single_set, lies_in, has_sign, want_holds, WantFits}
use Rattle.branch_state.proofs.CodeReads.{take_next}
use Rattle.branch_state.proofs.SureInTable.{singles_are_sets, sure_in_table}

-- one more element passes
all_next : {X : Type 0} (p : X → Bool) (xs : List X) (n : ℕ) (x : X) → slice_get xs n ≡ Some x → p x ≡ true → list_all p (take n xs) ≡ true → list_all p (take (n + 1) xs) ≡ true
all_next p xs n x at here before =
    list_all_more p xs n x (slice_get_within xs n x at)
    ∙ and_from (list_all p (take n xs)) (p _) before (ap p (get_or_from_slice_get xs n x x at) ∙ here)

-- an element does not
all_fails : {X : Type 0} (p : X → Bool) (xs : List X) (n : ℕ) (x : X) → slice_get xs n ≡ Some x → p x ≡ false → list_all p xs ≡ false
all_fails p xs n x at here = false_from_ne_true (list_all p xs) (λ all. false≢true (sym here ∙ each_of p xs all n x at))

-- one more index is in the set of its cell, or one is not
pub cell_next : (sets table : List ℕ) (n set v : ℕ) → slice_get sets n ≡ Some set → slice_get table n ≡ Some v → set_has set v ≡ true →
    list_all (λ p. set_has p.0 p.1) (take n (zip sets table)) ≡ true → list_all (λ p. set_has p.0 p.1) (take (n + 1) (zip sets table)) ≡ true
cell_next sets table n set v at there has before = all_next (λ p. set_has p.0 p.1) (zip sets table) n (set, v) (zip_at sets table n set v at there) has before

pub cell_fails : (sets table : List ℕ) (n set v : ℕ) → slice_get sets n ≡ Some set → slice_get table n ≡ Some v → set_has set v ≡ false → lies_in sets table ≡ false
cell_fails sets table n set v at there out = all_fails (λ p. set_has p.0 p.1) (zip sets table) n (set, v) (zip_at sets table n set v at there) out

pub cells_end : (sets table : List ℕ) (n : ℕ) → length table ≤ n → list_all (λ p. set_has p.0 p.1) (take n (zip sets table)) ≡ true → lies_in sets table ≡ true
cells_end sets table n past all = ap (list_all (λ p. set_has p.0 p.1)) (sym (take_all n (zip sets table) (omega (arith, past, length-zip sets table)))) ∙ all

-- one more single set
pub single_next : (table : List ℕ) (n v : ℕ) → slice_get table n ≡ Some v → map single_set (take (n + 1) table) ≡ map single_set (take n table) ++ single_set v ∷ []
single_next table n v at = ap (map single_set) (take_next table n v at) ∙ map-append single_set (take n table) (v ∷ [])

-- a table of a problem is one of its core
in_core : (p : Posed) → IsPosed p → (table : List ℕ) → IsTable (world_of_problem p) table → IsTable (world_of_core p.core) table
in_core p posed table is = rw (same_world p.core p.spec posed.stands) is

pub singles_fit_core : (p : Posed) → IsPosed p → (core : Core) → core ≡ p.core → (table singles : List ℕ) → IsTable (world_of_problem p) table → singles ≡ map single_set table →
    AreSets (world_of_core core) singles
singles_fit_core p posed core same table singles is are = rw (same, are) (singles_are_sets (world_of_core p.core) table (in_core p posed table is))

pub want_asked : (p : Posed) (core : Core) → core ≡ p.core → (w : Want) → WantFits p w → (values : List ℤ) → values ≡ w.env → NodeAsked core w.node w.from w.now values
want_asked p core same w fits values under = rw (same, under) fits

-- what is found under the single sets of a table is the truth in it
pub record IsFound (p : Posed) (table : List ℕ) (w : Want) (found : Three) : Type 0 where
  pub is : found ≡ sure (core_truth_from (world_of_core p.core) p.core.nodes w.node w.from w.env table w.now)

pub found_is : (p : Posed) → IsPosed p → (core : Core) → core ≡ p.core → (table singles : List ℕ) → IsTable (world_of_problem p) table → singles ≡ map single_set table →
    (w : Want) (values : List ℤ) → values ≡ w.env → (found : Three) → found ≡ core_truth3 (world_of_core core) core.nodes w.node w.from values singles w.now → IsFound p table w found
found_is p posed core same table singles is are w values under found finds =
    let decided : core_truth3 (world_of_core core) core.nodes w.node w.from values singles w.now ≡ sure (core_truth_from (world_of_core p.core) p.core.nodes w.node w.from w.env table w.now) =
    rw (same, are, under) (sure_in_table (world_of_core p.core) p.core.nodes table (in_core p posed table is) w.node w.from w.env w.now) in
    record { is = finds ∙ decided }

sure_unknown : (b : Bool) → three.Unknown ≡ sure b → ⊥
sure_unknown true e = cc
sure_unknown false e = cc

sure_true : (b sign : Bool) → three.True ≡ sure b → sign ≡ has_sign sign b
sure_true true true e = refl
sure_true true false e = refl
sure_true false sign e = absurd (cc)

sure_false : (b sign : Bool) → three.False ≡ sure b → not sign ≡ has_sign sign b
sure_false false true e = refl
sure_false false false e = refl
sure_false true sign e = absurd (cc)

pub never_unknown : (p : Posed) (table : List ℕ) (w : Want) → IsFound p table w three.Unknown → ⊥
never_unknown p table w found = sure_unknown (core_truth_from (world_of_core p.core) p.core.nodes w.node w.from w.env table w.now) found.is

pub holds_where_true : (p : Posed) (table : List ℕ) (w : Want) → IsFound p table w three.True → w.sign ≡ want_holds p table w
unfolding want_holds
holds_where_true p table w found = sure_true (core_truth_from (world_of_core p.core) p.core.nodes w.node w.from w.env table w.now) w.sign found.is

pub holds_where_false : (p : Posed) (table : List ℕ) (w : Want) → IsFound p table w three.False → not w.sign ≡ want_holds p table w
unfolding want_holds
holds_where_false p table w found = sure_false (core_truth_from (world_of_core p.core) p.core.nodes w.node w.from w.env table w.now) w.sign found.is
