-- The answers to the goals of `every_is_not_some_not`.
use Rattle.std.proofs.Common.{not, ap, sym, ◌∙◌}
use Rattle.trio_types.specs.declared.formula.Formula.TheVariants as formula
use Rattle.trio_types.specs.World.{instants_of, values_in}
use Rattle.trio_types.specs.Values.{value}
use Rattle.trio_types.specs.Truth.{after, before, ahead, behind}
use Rattle.trio_types.proofs.TruthAt.{truth-Alw, truth-Som, truth-AlwF, truth-SomF, truth-AlwP, truth-SomP, truth-Lasts, truth-WithinF, truth-Lasted, truth-WithinP, truth-All, truth-Ex}
use Rattle.trio_types.proofs.Operators.{opposite, quantifier_opposite}
use Rattle.trio_types.proofs.laws.every_is_not_some_not.Goals as goal

pub returns-clause-one : goal.returns-clause-one
returns-clause-one c = λ w f e t i. (
  truth-Alw w f e t i ∙ opposite w f e t (instants_of w) ∙ ap not (sym (truth-Som w (formula.Not f) e t i)),
  truth-AlwF w f e t i ∙ opposite w f e t (after w i) ∙ ap not (sym (truth-SomF w (formula.Not f) e t i)),
  truth-AlwP w f e t i ∙ opposite w f e t (before w i) ∙ ap not (sym (truth-SomP w (formula.Not f) e t i)),
)

pub returns-clause-far : goal.returns-clause-far
returns-clause-far c = λ w s f x e t i. (
  truth-Lasts w s f x e t i ∙ opposite w f e t (ahead w s i (value w x e t i)) ∙ ap not (sym (truth-WithinF w s (formula.Not f) x e t i)),
  truth-Lasted w s f x e t i ∙ opposite w f e t (behind w s i (value w x e t i)) ∙ ap not (sym (truth-WithinP w s (formula.Not f) x e t i)),
)

pub returns-clause-quantifier : goal.returns-clause-quantifier
returns-clause-quantifier c = λ w name d f e t i.
    truth-All w name d f e t i ∙ quantifier_opposite w f e t i (values_in w.domains d) ∙ ap not (sym (truth-Ex w name d (formula.Not f) e t i))
