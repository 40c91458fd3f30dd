-- The halves of a fork fit its problem.
use Rattle.std.proofs.Common.{ap, ◌∙◌, subst}
use Rattle.branch_state.specs.Posed.{Posed}
use Rattle.branch_state.specs.Branches.{Fits}
use Rattle.decompose.specs.Held.{ForkView}
use Rattle.trio_tests.proofs.tests.branches.half.Goals as goal

abbrev problem : ForkView → Posed
problem view = view.problem

pub returns-then-is_left : goal.returns-then-is_left
returns-then-is_left c =
    let parts = c.into_parts-left in
    subst (λ p. Fits p parts.result.left) (ap problem parts.ensures.is ∙ c.requires) parts.ensures.law.halves.left_fits

pub returns-else-is_left : goal.returns-else-is_left
returns-else-is_left c =
    let parts = c.into_parts-left in
    subst (λ p. Fits p parts.result.right) (ap problem parts.ensures.is ∙ c.requires) parts.ensures.law.halves.right_fits
