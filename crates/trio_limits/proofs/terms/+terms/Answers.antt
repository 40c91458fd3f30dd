-- The answers to the goals of the counts of terms.
use Rattle.std.proofs.Common.{◌*◌, ap, ◌∙◌, arith}
use Rattle.trio_limits.specs.Given.{given_count}
use Rattle.trio_limits.specs.Ground.{world_of_ground}
use Rattle.trio_limits.specs.Counting.{leaf, arguments_of, part_counts, term_counts_of}
use Rattle.trio_limits.proofs.TermCounts.{counts-Number, counts-Value, counts-Var, counts-Read, counts-Sum, counts-Times, arguments_next, parts_next}
use Rattle.trio_limits.proofs.terms.+terms.Goals as goal

pub counts_of-returns-in-Number : goal.counts_of-returns-in-Number
counts_of-returns-in-Number t c =
    rw c.in-Number.is (c.of_leaf.ensures ∙ ap leaf c.from.ensures ∙ counts-Number (world_of_ground c.args.ground.now) c.args.variables.now c.in-Number.number
    (omega (arith, c.from.type_inv, c.from.ensures)))

pub counts_of-returns-in-Value : goal.counts_of-returns-in-Value
counts_of-returns-in-Value t c =
    rw c.in-Value.is (c.of_leaf-in-Value.ensures ∙ counts-Value (world_of_ground c.args.ground.now) c.args.variables.now c.in-Value.domain c.in-Value.field-1
    c.bound_of.result c.bound_of.ensures.is c.bound_of.ensures.small)

pub counts_of-returns-in-Var : goal.counts_of-returns-in-Var
counts_of-returns-in-Var t c =
    rw c.in-Var.is (c.of_leaf-in-Var.ensures ∙ counts-Var (world_of_ground c.args.ground.now) c.args.variables.now c.in-Var.level
    c.variable_bound.result c.variable_bound.ensures.is c.variable_bound.ensures.small)

pub counts_of-returns-in-Read : goal.counts_of-returns-in-Read
counts_of-returns-in-Read t c =
    rw c.in-Read.is (counts-Read (world_of_ground c.args.ground.now) c.args.variables.now c.in-Read.item c.in-Read.arguments c.item_bound-own.result c.max.result
    c.item_bound-own.ensures.is c.item_bound-own.ensures.small c.arguments_of-arguments.result
    (c.arguments_of-arguments.ensures ∙ ap (arguments_of (world_of_ground c.args.ground.now) c.args.variables.now) c.as_slice.ensures) c.max.ensures)

pub counts_of-returns-in-Sum : goal.counts_of-returns-in-Sum
counts_of-returns-in-Sum t c =
    rw c.in-Sum.is (counts-Sum (world_of_ground c.args.ground.now) c.args.variables.now c.in-Sum.parts c.parts_of-parts.result
    (c.parts_of-parts.ensures ∙ ap (part_counts (world_of_ground c.args.ground.now) c.args.variables.now) c.as_slice-in-Sum.ensures) c.max-in-Sum.result
    c.saturating_add-bracketed.result c.max-in-Sum.ensures c.saturating_add-bracketed.ensures)

pub counts_of-returns-in-Times : goal.counts_of-returns-in-Times
counts_of-returns-in-Times t c =
    rw c.in-Times.is (counts-Times (world_of_ground c.args.ground.now) c.args.variables.now c.in-Times.number c.in-Times.factor c.counts_of-factor.result
    (c.counts_of-factor.ensures ∙ ap (term_counts_of (world_of_ground c.args.ground.now) c.args.variables.now) c.get.ensures) c.saturating_mul-own.result
    c.max-in-Times.result c.saturating_add.result
    (c.saturating_mul-own.ensures ∙ ap (λ n. given_count (n * c.counts_of-factor.result.own)) c.from-in-Times.ensures) c.max-in-Times.ensures c.saturating_add.ensures)

pub arguments_of-loop-argument-preserved : goal.arguments_of-loop-argument-preserved
arguments_of-loop-argument-preserved t c =
    arguments_next (world_of_ground c.args.ground.now) c.args.variables.now c.args.arguments.now c.loop-argument.argument-index c.argument-item.result
    c.loop-argument-test.true c.argument-item.is c.loop-argument.counts c.loop-argument.invariant c.counts_of-more.result c.counts_of-more.ensures
    c.max.result c.saturating_add.result c.max-in-loop-argument.result c.max.ensures c.saturating_add.ensures c.max-in-loop-argument.ensures

pub parts_of-loop-part-preserved : goal.parts_of-loop-part-preserved
parts_of-loop-part-preserved t c =
    parts_next (world_of_ground c.args.ground.now) c.args.variables.now c.args.parts.now c.loop-part.part-index c.part-item.result c.loop-part-test.true
    c.part-item.is c.loop-part.counts c.loop-part.invariant c.counts_of-more.result c.counts_of-more.ensures c.saturating_add.result c.max.result
    c.max-in-loop-part.result c.saturating_add.ensures c.max.ensures c.max-in-loop-part.ensures
