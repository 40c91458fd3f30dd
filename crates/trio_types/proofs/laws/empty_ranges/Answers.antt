-- The answers to the goals of `empty_ranges`.
use Rattle.trio_base.specs.declared.operators.FarOp.TheVariants as far
use Rattle.trio_types.specs.declared.formula.Formula.TheVariants as formula
use Rattle.trio_types.specs.Truth.{truth}
use Rattle.trio_types.specs.Laws.{Ahead, Behind}
use Rattle.trio_types.proofs.Operators.{lasts_law, within_f_law, lasted_law, within_p_law, none_each, none_some}
use Rattle.trio_types.proofs.laws.empty_ranges.Goals as goal

pub returns-clause-ahead : goal.returns-clause-ahead
returns-clause-ahead c = λ w s f x e t i none. (
  (lasts_law w s f x e t i).1 (none_each w f x e t i (Ahead s i) none),
  none_some w f x e t i (Ahead s i) (truth w (formula.Far (far.WithinF s) f x) e t i) none (within_f_law w s f x e t i),
)

pub returns-clause-behind : goal.returns-clause-behind
returns-clause-behind c = λ w s f x e t i none. (
  (lasted_law w s f x e t i).1 (none_each w f x e t i (Behind s i) none),
  none_some w f x e t i (Behind s i) (truth w (formula.Far (far.WithinP s) f x) e t i) none (within_p_law w s f x e t i),
)
