-- The answers to the goals of `connectives_are_classical`.
use Rattle.std.proofs.Common.{◌≡◌, ◌↔◌, Bool, true, false, not, ◌||◌, refl, sym, ◌∙◌}
use Rattle.std.proofs.lemmas.Bool.{not-true, not_from_false}
use Rattle.trio_types.specs.Truth.{truth, is_iff}
use Rattle.trio_types.proofs.TruthAt.{truth-Not, truth-And, truth-Or, truth-Implies, truth-Iff}
use Rattle.trio_types.proofs.Lists.{each_of, all_from_each, some_of, any_from_some}
use Rattle.trio_types.proofs.laws.connectives_are_classical.Goals as goal

pub returns-clause-no : goal.returns-clause-no
returns-clause-no c = λ w f e t i. (λ h. not-true _ (sym (truth-Not w f e t i) ∙ h), λ h. truth-Not w f e t i ∙ not_from_false _ h)

pub returns-clause-both : goal.returns-clause-both
returns-clause-both c = λ w fs e t i. (
  λ h. each_of (λ f. truth w f e t i) fs (sym (truth-And w fs e t i) ∙ h),
  λ h. truth-And w fs e t i ∙ all_from_each (λ f. truth w f e t i) fs h,
)

pub returns-clause-either : goal.returns-clause-either
returns-clause-either c = λ w fs e t i. (
  λ h. let r = some_of (λ f. truth w f e t i) fs (sym (truth-Or w fs e t i) ∙ h) in
      record { place = r.0; part = r.1; stands = r.2; true_there = r.3 },
  λ h. truth-Or w fs e t i ∙ any_from_some (λ f. truth w f e t i) fs h.place h.part h.stands h.true_there,
)

implied : (a b : Bool) → (not a || b) ≡ true → a ≡ true → b ≡ true
implied true b h is = h
implied false b h is = cc

implies : (a b : Bool) → (a ≡ true → b ≡ true) → (not a || b) ≡ true
implies true b h = h refl
implies false b h = refl

pub returns-clause-implies : goal.returns-clause-implies
returns-clause-implies c = λ w f g e t i. (
  λ h. implied (truth w f e t i) (truth w g e t i) (sym (truth-Implies w f g e t i) ∙ h),
  λ h. truth-Implies w f g e t i ∙ implies (truth w f e t i) (truth w g e t i) h,
)

same : (a b : Bool) → (is_iff a b ≡ true) ↔ (a ≡ b)
same true b = (λ h. sym h, λ h. sym h)
same false b = (λ h. sym (not-true b h), λ h. not_from_false b (sym h))

pub returns-clause-iff : goal.returns-clause-iff
returns-clause-iff c = λ w f g e t i. let law = same (truth w f e t i) (truth w g e t i) in
    (λ h. law.0 (sym (truth-Iff w f g e t i) ∙ h), λ h. truth-Iff w f g e t i ∙ law.1 h)
