-- The answers to the goals of `variables_are_those_of_quantifiers`.
use Rattle.std.proofs.Common.{◌≡◌, ◌↔◌, ℕ, Bool, true, ◌&&◌, List, [], Contains, subst}
use Rattle.std.proofs.lemmas.Bool.{and_parts, and_from}
use Rattle.trio_types.specs.Names.{variables_of, is_new, variables_are_new}
use Rattle.trio_types.proofs.Contained.{all_law, cons_law, append_law, flat_law, none_contained, both_law, along_test, along_list, new_law}
use Rattle.trio_types.proofs.NamesAt.{variables_of-Lone, variables_of-Compare, variables_of-Not, variables_of-And, variables_of-Or, variables_of-Implies, variables_of-Iff, variables_of-All, variables_of-Ex, variables_of-One, variables_of-Far, variables_of-Pair}
use Rattle.trio_types.proofs.NamesAt.{variables_are_new-Lone, variables_are_new-Compare, variables_are_new-Not, variables_are_new-And, variables_are_new-Or, variables_are_new-Implies, variables_are_new-Iff, variables_are_new-All, variables_are_new-Ex, variables_are_new-One, variables_are_new-Far, variables_are_new-Pair}
use Rattle.trio_types.proofs.laws.variables_are_those_of_quantifiers.Goals as goal

none : (vs : List (List ℕ)) (v : List ℕ) → vs ≡ [] → Contains vs v → ⊥
none vs v is has = none_contained v (subst (λ us. Contains us v) is has)

itself : (vs : List (List ℕ)) (v : List ℕ) → Contains vs v ↔ Contains vs v
itself vs v = (λ has. has, λ has. has)

pub returns-clause-names : goal.returns-clause-names
returns-clause-names c = record {
  lone = λ x v. none _ v (variables_of-Lone x);
  compare = λ r x y v. none _ v (variables_of-Compare r x y);
  no = λ f v. along_list _ _ v _ (variables_of-Not f) (itself _ v);
  both = λ fs v. along_list _ _ v _ (variables_of-And fs) (flat_law variables_of fs v);
  either = λ fs v. along_list _ _ v _ (variables_of-Or fs) (flat_law variables_of fs v);
  implies = λ f g v. along_list _ _ v _ (variables_of-Implies f g) (append_law _ _ v);
  iff = λ f g v. along_list _ _ v _ (variables_of-Iff f g) (append_law _ _ v);
  every = λ name d f v. along_list _ _ v _ (variables_of-All name d f) (cons_law name _ v);
  some = λ name d f v. along_list _ _ v _ (variables_of-Ex name d f) (cons_law name _ v);
  one = λ o f v. along_list _ _ v _ (variables_of-One o f) (itself _ v);
  far = λ o f x v. along_list _ _ v _ (variables_of-Far o f x) (itself _ v);
  pair = λ o f g v. along_list _ _ v _ (variables_of-Pair o f g) (append_law _ _ v);
}

same_test : (a : Bool) → (a ≡ true) ↔ (a ≡ true)
same_test a = (λ h. h, λ h. h)

body_law : (name : List ℕ) (taken : List (List ℕ)) (b : Bool) → ((is_new name taken && b) ≡ true) ↔ ((Contains taken name → ⊥) × (b ≡ true))
body_law name taken b = (
  λ h. let both = and_parts _ _ h in ((new_law name taken).0 both.0, both.1),
  λ h. and_from _ _ ((new_law name taken).1 h.0) h.1,
)

pub returns-clause-new : goal.returns-clause-new
returns-clause-new c = record {
  lone = variables_are_new-Lone;
  compare = variables_are_new-Compare;
  no = λ f taken. along_test _ _ _ (variables_are_new-Not f taken) (same_test _);
  both = λ fs taken. along_test _ _ _ (variables_are_new-And fs taken) (all_law (λ f. variables_are_new f taken) fs);
  either = λ fs taken. along_test _ _ _ (variables_are_new-Or fs taken) (all_law (λ f. variables_are_new f taken) fs);
  implies = λ f g taken. along_test _ _ _ (variables_are_new-Implies f g taken) (both_law _ _);
  iff = λ f g taken. along_test _ _ _ (variables_are_new-Iff f g taken) (both_law _ _);
  every = λ name d f taken. along_test _ _ _ (variables_are_new-All name d f taken) (body_law name taken _);
  some = λ name d f taken. along_test _ _ _ (variables_are_new-Ex name d f taken) (body_law name taken _);
  one = λ o f taken. along_test _ _ _ (variables_are_new-One o f taken) (same_test _);
  far = λ o f x taken. along_test _ _ _ (variables_are_new-Far o f x taken) (same_test _);
  pair = λ o f g taken. along_test _ _ _ (variables_are_new-Pair o f g taken) (both_law _ _);
}
