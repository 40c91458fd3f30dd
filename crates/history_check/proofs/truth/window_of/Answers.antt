-- The answers to the goals of `window_of`.
use Rattle.std.proofs.Common.{ap, ◌∙◌, arith}
use Rattle.trio_types.specs.Truth.{one_truth}
use Rattle.trio_types.specs.Verdict.{world_of, parts_of}
use Rattle.trio_types.proofs.Specs.{formed, few_instants}
use Rattle.history_check.proofs.Searches.{alw_window, som_window, alw_f_window, som_f_window, alw_p_window, som_p_window}
use Rattle.history_check.proofs.truth.window_of.Goals as goal

pub overflow_add-after : goal.overflow_add-after
overflow_add-after c = omega (arith, c.requires, few_instants (parts_of c.args.spec.now) (formed c.args.spec.now))

pub returns-in-Alw-clause-is : goal.returns-in-Alw-clause-is
returns-in-Alw-clause-is c = λ f. ap (λ o. one_truth (world_of c.args.spec.now) o f c.args.instant) c.in-Alw.is ∙ alw_window (world_of c.args.spec.now) f c.args.instant

pub returns-in-Som-clause-is : goal.returns-in-Som-clause-is
returns-in-Som-clause-is c = λ f. ap (λ o. one_truth (world_of c.args.spec.now) o f c.args.instant) c.in-Som.is ∙ som_window (world_of c.args.spec.now) f c.args.instant

pub returns-in-AlwF-clause-is : goal.returns-in-AlwF-clause-is
returns-in-AlwF-clause-is c = λ f. ap (λ o. one_truth (world_of c.args.spec.now) o f c.args.instant) c.in-AlwF.is ∙ alw_f_window (world_of c.args.spec.now) f c.args.instant c.requires

pub returns-in-SomF-clause-is : goal.returns-in-SomF-clause-is
returns-in-SomF-clause-is c = λ f. ap (λ o. one_truth (world_of c.args.spec.now) o f c.args.instant) c.in-SomF.is ∙ som_f_window (world_of c.args.spec.now) f c.args.instant c.requires

pub returns-in-AlwP-clause-is : goal.returns-in-AlwP-clause-is
returns-in-AlwP-clause-is c = λ f. ap (λ o. one_truth (world_of c.args.spec.now) o f c.args.instant) c.in-AlwP.is ∙ alw_p_window (world_of c.args.spec.now) f c.args.instant c.requires

pub returns-in-SomP-clause-is : goal.returns-in-SomP-clause-is
returns-in-SomP-clause-is c = λ f. ap (λ o. one_truth (world_of c.args.spec.now) o f c.args.instant) c.in-SomP.is ∙ som_p_window (world_of c.args.spec.now) f c.args.instant c.requires
