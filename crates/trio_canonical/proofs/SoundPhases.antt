-- What makes each phase find no fault, and the limits.
use Rattle.std.proofs.Common.{◌≡◌, ℕ, Bool, true, false, not, nat_lt, nat_le, if◌then◌else◌, List, [], ◌∷◌, ◌++◌, map, filter, find, None, Some, refl, ap, ◌∙◌, ⊎_elim}
use Rattle.std.specs.List.{list_all, flat_map}
use Rattle.std.specs.Option.{option_map}
use Rattle.std.proofs.lemmas.Bool.{and_parts, and_from, false≢true, cases_Bool, cond-false, le-ltb, leb-true}
use Rattle.trio_types.specs.declared.spec.Axiom.{Axiom}
use Rattle.trio_types.specs.declared.spec.Which.{Which}
use Rattle.trio_types.specs.Parts.{Parts}
use Rattle.trio_types.specs.Limits.{count_of, limit_of, counted}
use Rattle.trio_types.specs.WellFormed.{limits_are_met}
use Rattle.trio_types.proofs.Lists.{all_left, all_right}
use Rattle.trio_limits.specs.Given.{given_count}
use Rattle.trio_limits.specs.Limits.{count_fault}
use Rattle.trio_syntax.specs.declared.tree.ClaimTree.{ClaimTree}
use Rattle.trio_syntax.specs.declared.tree.SpecTree.{SpecTree}
use Rattle.trio_scope.specs.Places.{unless}
use Rattle.trio_reader.specs.Erasure.{is_wanted, axiom_from, claims_from}
use Rattle.trio_reader.specs.Reading.{tree_fault}
use Rattle.trio_reader.proofs.FormedPhases.{IsClean}
use Rattle.trio_types.proofs.Inductions.{Each}

-- the tree has no fault where no phase finds one
pub sound_from : (tree : SpecTree) → IsClean tree → tree_fault tree ≡ None
sound_from tree c = rw (c.known, c.once, c.kinds, c.ranges, c.limits) refl

-- lists with nothing in them
pub both_empty : {A : Type 0} (xs ys : List A) → xs ≡ [] → ys ≡ [] → xs ++ ys ≡ []
both_empty [] ys first second = second
both_empty (x ∷ xs) ys first second = cc

pub passes : (b : Bool) (p : ℕ) → b ≡ true → unless b p ≡ []
passes b p is = ap (λ c. unless c p) is

-- nothing is found in an element, since it passes a test
pub each_empty : {X : Type 0} (P : X → Type 0) (found : X → List ℕ) (q : X → Bool) → ((x : X) → P x → q x ≡ true → found x ≡ []) → (xs : List X) → Each P xs →
    list_all q xs ≡ true → flat_map found xs ≡ []
each_empty P found q give [] each all = refl
each_empty P found q give (x ∷ xs) each all =
    let both = and_parts (q x) (list_all q xs) all in
    both_empty (found x) (flat_map found xs) (give x each.0 both.0) (each_empty P found q give xs each.1 both.1)

pub all_empty : {X : Type 0} (found : X → List ℕ) (q : X → Bool) → ((x : X) → q x ≡ true → found x ≡ []) → (xs : List X) →
    list_all q xs ≡ true → flat_map found xs ≡ []
all_empty found q give [] all = refl
all_empty found q give (x ∷ xs) all =
    let both = and_parts (q x) (list_all q xs) all in
    both_empty (found x) (flat_map found xs) (give x both.0) (all_empty found q give xs both.1)

-- what holds of each axiom and goal holds of each claim
module _ (tree : SpecTree) (q : Axiom → Bool) where
  one_claim : (b : Bool) (c : ClaimTree) (cs : List ClaimTree) → list_all q (map (axiom_from tree) (if b then c ∷ cs else cs)) ≡ true →
      (b ≡ true → q (axiom_from tree c) ≡ true) × (list_all q (map (axiom_from tree) cs) ≡ true)
  one_claim true c cs all = let both = and_parts (q (axiom_from tree c)) (list_all q (map (axiom_from tree) cs)) all in (λ is. both.0, both.1)
  one_claim false c cs all = (λ is. absurd (false≢true is), all)

  of_both : (claims : List ClaimTree) → list_all q (claims_from tree false claims) ≡ true → list_all q (claims_from tree true claims) ≡ true →
      list_all (λ c. q (axiom_from tree c)) claims ≡ true
  of_both [] axioms goals = refl
  of_both (c ∷ cs) axioms goals =
      let first = one_claim (not c.goal) c (filter (is_wanted false) cs) axioms in
      let second = one_claim c.goal c (filter (is_wanted true) cs) goals in
      and_from (q (axiom_from tree c)) (list_all (λ c. q (axiom_from tree c)) cs)
      (⊎_elim (λ yes. second.0 yes) (λ no. first.0 (ap not no)) (cases_Bool c.goal)) (of_both cs first.1 second.1)

  pub claims_each : (claims : List ClaimTree) → list_all q (claims_from tree false claims ++ claims_from tree true claims) ≡ true →
      list_all (λ c. q (axiom_from tree c)) claims ≡ true
  claims_each claims all =
      of_both claims (all_left q (claims_from tree false claims) (claims_from tree true claims) all)
      (all_right q (claims_from tree false claims) (claims_from tree true claims) all)

-- the counts
none_above : (parts : Parts) (ws : List Which) → list_all (λ w. nat_le (count_of w parts) (limit_of w)) ws ≡ true →
    find (λ w. nat_lt (limit_of w) (count_of w parts)) ws ≡ None
none_above parts [] met = refl
none_above parts (w ∷ ws) met =
    let both = and_parts (nat_le (count_of w parts) (limit_of w)) (list_all (λ w. nat_le (count_of w parts) (limit_of w)) ws) met in
    cond-false (nat_lt (limit_of w) (count_of w parts)) (Some w) (find (λ w. nat_lt (limit_of w) (count_of w parts)) ws)
    (le-ltb (limit_of w) (count_of w parts) (leb-true (count_of w parts) (limit_of w) both.0))
    ∙ none_above parts ws both.1

pub no_count_above : (parts : Parts) → limits_are_met parts ≡ true → count_fault parts ≡ None
unfolding count_fault
no_count_above parts met = ap (option_map (λ w. (w, given_count (count_of w parts)))) (none_above parts counted met)
