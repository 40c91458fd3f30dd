-- Whether names are distinct, and variables new, does not depend on the order of the names.
use Rattle.std.proofs.Common.{◌≡◌, ℕ, ◌≤◌, Bool, true, false, not, ◌&&◌, cond, List, [], ◌∷◌, ◌++◌, refl, sym, ap, ◌∙◌, arith}
use Rattle.std.specs.List.{list_all, list_any, count_by}
use Rattle.std.specs.List.Sorted.{IsPermutation}
use Rattle.std.specs.Str.{bytes_eq}
use Rattle.std.proofs.Math.Logic.{⊎_elim}
use Rattle.std.proofs.lemmas.Bool.{and_parts, and_from, not-true, not_from_false, or_parts, cases_Bool}
use Rattle.std.proofs.lemmas.List.Sums.{sum_by-cons}
use Rattle.std.proofs.lemmas.List.Sorted.{IsPermutation-append_left, sum_by-IsPermutation, list_any-IsPermutation}
use Rattle.std.proofs.lemmas.Slice.Eq.{bytes_eq-Decides}
use Rattle.trio_types.specs.declared.formula.Formula.{Formula}
use Rattle.trio_types.specs.Names.{are_distinct, is_new, variables_are_new}
use Rattle.trio_types.proofs.NamesAt.{variables_are_new-Lone, variables_are_new-Compare, variables_are_new-Not, variables_are_new-And, variables_are_new-Or, variables_are_new-Implies, variables_are_new-Iff, variables_are_new-All, variables_are_new-Ex, variables_are_new-One, variables_are_new-Far, variables_are_new-Pair}
use Rattle.trio_types.proofs.Inductions.{Each, every_formula}

-- what no element passes counts none
none_counted : {X : Type 0} (p : X → Bool) (xs : List X) → list_any p xs ≡ false → count_by p xs ≡ 0
none_counted p [] none = refl
none_counted p (x ∷ xs) none =
    let each = or_parts (p x) (list_any p xs) none in
    let here : cond {A = ℕ} (p x) 1 0 ≡ 0 = ap (λ b. cond b 1 0) each.0 in
    omega (arith, sum_by-cons (λ y. cond (p y) 1 0) x xs, here, none_counted p xs each.1)

none_of_none : {X : Type 0} (p : X → Bool) (xs : List X) → count_by p xs ≡ 0 → list_any p xs ≡ false
none_of_none p [] none = refl
none_of_none p (x ∷ xs) none =
    ⊎_elim
    (λ yes. let here : cond {A = ℕ} (p x) 1 0 ≡ 1 = ap (λ b. cond b 1 0) yes in
    absurd (omega (arith, sum_by-cons (λ y. cond (p y) 1 0) x xs, here, none)))
    (λ no. rw no (none_of_none p xs (omega (arith, sum_by-cons (λ y. cond (p y) 1 0) x xs, none))))
    (cases_Bool (p x))

-- names are distinct exactly where each stands at most once
once : (names : List (List ℕ)) → are_distinct names ≡ true → (name : List ℕ) → count_by (bytes_eq name) names ≤ 1
once [] are name = omega arith
once (n ∷ names) are name =
    let parts = and_parts (not (list_any (bytes_eq n) names)) (are_distinct names) are in
    ⊎_elim
    (λ yes. let same : name ≡ n = (bytes_eq-Decides name n).0 yes in
    let none : count_by (bytes_eq name) names ≡ 0 = rw same (none_counted (bytes_eq n) names (not-true (list_any (bytes_eq n) names) parts.0)) in
    let here : cond {A = ℕ} (bytes_eq name n) 1 0 ≡ 1 = ap (λ b. cond b 1 0) yes in
    omega (arith, sum_by-cons (λ y. cond (bytes_eq name y) 1 0) n names, here, none))
    (λ no. let here : cond {A = ℕ} (bytes_eq name n) 1 0 ≡ 0 = ap (λ b. cond b 1 0) no in
    omega (arith, sum_by-cons (λ y. cond (bytes_eq name y) 1 0) n names, here, once names parts.1 name))
    (cases_Bool (bytes_eq name n))

distinct_from_once : (names : List (List ℕ)) → ((name : List ℕ) → count_by (bytes_eq name) names ≤ 1) → are_distinct names ≡ true
distinct_from_once [] each = refl
distinct_from_once (n ∷ names) each =
    let here : cond {A = ℕ} (bytes_eq n n) 1 0 ≡ 1 = ap (λ b. cond b 1 0) ((bytes_eq-Decides n n).1 refl) in
    and_from (not (list_any (bytes_eq n) names)) (are_distinct names)
    (not_from_false (list_any (bytes_eq n) names)
    (none_of_none (bytes_eq n) names (omega (arith, each n, sum_by-cons (λ y. cond (bytes_eq n y) 1 0) n names, here))))
    (distinct_from_once names (λ name. omega (arith, each name, sum_by-cons (λ y. cond (bytes_eq name y) 1 0) n names)))

pub distinct_permuted : (xs ys : List (List ℕ)) → IsPermutation xs ys → are_distinct xs ≡ true → are_distinct ys ≡ true
distinct_permuted xs ys order are =
    distinct_from_once ys (λ name. omega (arith, once xs are name, sum_by-IsPermutation (λ y. cond (bytes_eq name y) 1 0) xs ys order))

-- variables are new beside names in any order
abbrev pub NewInAnyOrder : Formula → Type 0
NewInAnyOrder f = (taken others : List (List ℕ)) → IsPermutation taken others → variables_are_new f taken ≡ variables_are_new f others

each_new : (fs : List Formula) → Each NewInAnyOrder fs → (taken others : List (List ℕ)) → IsPermutation taken others →
    list_all (λ f. variables_are_new f taken) fs ≡ list_all (λ f. variables_are_new f others) fs
each_new [] each taken others order = refl
each_new (f ∷ fs) each taken others order = rw (each.0 taken others order, each_new fs each.1 taken others order) refl

both_same : (a b c d : Bool) → a ≡ b → c ≡ d → (a && c) ≡ (b && d)
both_same a b c d first second = rw (first, second) refl

both_new : (f g : Formula) → NewInAnyOrder f → NewInAnyOrder g → (taken others : List (List ℕ)) → IsPermutation taken others →
    (variables_are_new f taken && variables_are_new g taken) ≡ (variables_are_new f others && variables_are_new g others)
both_new f g first second taken others order = both_same _ _ _ _ (first taken others order) (second taken others order)

quantified_new : (name : List ℕ) (f : Formula) → NewInAnyOrder f → (taken others : List (List ℕ)) → IsPermutation taken others →
    (is_new name taken && variables_are_new f (taken ++ name ∷ [])) ≡ (is_new name others && variables_are_new f (others ++ name ∷ []))
quantified_new name f same taken others order =
    both_same _ _ _ _ (ap not (list_any-IsPermutation (bytes_eq name) taken others order))
    (same (taken ++ name ∷ []) (others ++ name ∷ []) (IsPermutation-append_left (name ∷ []) taken others order))

pub new_in_any_order : (f : Formula) → NewInAnyOrder f
new_in_any_order = every_formula NewInAnyOrder (record {
  at_lone = λ x taken others order. variables_are_new-Lone x taken ∙ sym (variables_are_new-Lone x others);
  at_compare = λ r x y taken others order. variables_are_new-Compare r x y taken ∙ sym (variables_are_new-Compare r x y others);
  at_not = λ f same taken others order. variables_are_new-Not f taken ∙ same taken others order ∙ sym (variables_are_new-Not f others);
  at_and = λ fs each taken others order. variables_are_new-And fs taken ∙ each_new fs each taken others order ∙ sym (variables_are_new-And fs others);
  at_or = λ fs each taken others order. variables_are_new-Or fs taken ∙ each_new fs each taken others order ∙ sym (variables_are_new-Or fs others);
  at_implies = λ f g first second taken others order. variables_are_new-Implies f g taken ∙ both_new f g first second taken others order ∙ sym (variables_are_new-Implies f g others);
  at_iff = λ f g first second taken others order. variables_are_new-Iff f g taken ∙ both_new f g first second taken others order ∙ sym (variables_are_new-Iff f g others);
  at_all = λ name d f same taken others order. variables_are_new-All name d f taken ∙ quantified_new name f same taken others order ∙ sym (variables_are_new-All name d f others);
  at_ex = λ name d f same taken others order. variables_are_new-Ex name d f taken ∙ quantified_new name f same taken others order ∙ sym (variables_are_new-Ex name d f others);
  at_one = λ o f same taken others order. variables_are_new-One o f taken ∙ same taken others order ∙ sym (variables_are_new-One o f others);
  at_far = λ o f x same taken others order. variables_are_new-Far o f x taken ∙ same taken others order ∙ sym (variables_are_new-Far o f x others);
  at_pair = λ o f g first second taken others order. variables_are_new-Pair o f g taken ∙ both_new f g first second taken others order ∙ sym (variables_are_new-Pair o f g others);
})
