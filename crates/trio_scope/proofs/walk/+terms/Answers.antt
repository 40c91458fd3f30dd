-- The answers to the goals of the walk over a term.
use Rattle.std.proofs.Common.{[], true, refl}
use Rattle.trio_syntax.specs.declared.tree.TermTree.{TermTree}
use Rattle.trio_syntax.specs.declared.tree.PartTree.{PartTree, out-PartTree}
use Rattle.trio_scope.specs.declared.walk.Role.TheVariants as role
use Rattle.trio_scope.specs.Gather.{variables_from, places_in_term}
use Rattle.trio_scope.proofs.Least.{least-append, least_next}
use Rattle.trio_scope.proofs.Gathers.{in-term, in-Number, in-Truth, in-Named, in-Call, in-Sum, in-Times}
use Rattle.trio_scope.proofs.walk.+terms.Goals as goal

pub first_in_term-returns : goal.first_in_term-returns
first_in_term-returns g t c = rw (in-term, least-append, ← c.term-own.ensures, ← c.first_in_shape.ensures) c.earlier.ensures

pub first_in_shape-returns-in-Number : goal.first_in_shape-returns-in-Number
first_in_shape-returns-in-Number g t c = rw (c.in-Number.is, in-Number) refl

pub first_in_shape-returns-in-Truth : goal.first_in_shape-returns-in-Truth
first_in_shape-returns-in-Truth g t c = rw (c.in-Truth.is, in-Truth) refl

pub first_in_shape-returns-in-Named : goal.first_in_shape-returns-in-Named
first_in_shape-returns-in-Named g t c = rw (c.in-Named.is, in-Named) refl

pub first_in_shape-returns-in-Call : goal.first_in_shape-returns-in-Call
first_in_shape-returns-in-Call g t c = rw (c.in-Call.is, in-Call, ← c.as_slice.ensures) c.first_in_arguments.ensures

pub first_in_shape-returns-in-Sum : goal.first_in_shape-returns-in-Sum
first_in_shape-returns-in-Sum g t c = rw (c.in-Sum.is, in-Sum, ← c.as_slice-in-Sum.ensures) c.first_in_sum.ensures

pub first_in_shape-returns-in-Times : goal.first_in_shape-returns-in-Times
first_in_shape-returns-in-Times g t c = rw (c.in-Times.is, in-Times, ← c.get.ensures) c.first_in_term.ensures

pub first_in_arguments-loop-argument-preserved : goal.first_in_arguments-loop-argument-preserved
first_in_arguments-loop-argument-preserved g t c =
    least_next (λ (a : TermTree). places_in_term (g.R.Rule.finding c.args.rule.now) a (variables_from c.args.around.now) role.Argument true) [] refl
    c.loop-argument.argument-index c.argument-item.result c.loop-argument-test.true c.argument-item.is c.loop-argument.invariant
    c.first_in_term.ensures c.earlier-first.ensures

pub first_in_sum-loop-part-preserved : goal.first_in_sum-loop-part-preserved
first_in_sum-loop-part-preserved g t c =
    least_next (λ (p : PartTree). places_in_term (g.R.Rule.finding c.args.rule.now) (out-PartTree p).term (variables_from c.args.around.now) role.Part c.args.inside) []
    refl c.loop-part.part-index c.part-item.result c.loop-part-test.true c.part-item.is c.loop-part.invariant c.first_in_term.ensures c.earlier-first.ensures
