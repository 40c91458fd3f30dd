-- The answers to the goals of the counts of formulas.
use Rattle.std.proofs.Common.{ap, ◌∙◌, refl}
use Rattle.trio_limits.specs.Ground.{world_of_ground}
use Rattle.trio_limits.specs.Counting.{term_counts_of, counts_of}
use Rattle.trio_limits.proofs.FormulaCounts.{counts-Lone, counts-Compare, counts-Not, counts-And, counts-Or, counts-Implies, counts-Iff, counts-All, counts-Ex, counts-One, counts-Far, counts-Pair, formulas_next}
use Rattle.trio_limits.proofs.formulas.+formulas.Goals as goal

pub counts_of-returns-in-Lone-clause-made : goal.counts_of-returns-in-Lone-clause-made
counts_of-returns-in-Lone-clause-made t c =
    rw c.in-Lone.is (c.unbracketed.ensures ∙ counts-Lone (world_of_ground c.args.ground.now) c.args.variables.now.items c.in-Lone.term c.counts_of-term.result
    (c.counts_of-term.ensures ∙ ap (λ vs. term_counts_of (world_of_ground c.args.ground.now) vs c.in-Lone.term) (c.as_slice.ensures.value)))

pub counts_of-returns-in-Compare-clause-made : goal.counts_of-returns-in-Compare-clause-made
counts_of-returns-in-Compare-clause-made t c =
    rw c.in-Compare.is (c.bracketed.ensures ∙ counts-Compare (world_of_ground c.args.ground.now) c.args.variables.now.items c.in-Compare.field-0 c.in-Compare.left c.in-Compare.right
    c.counts_of-left.result c.counts_of-right.result (c.counts_of-left.ensures ∙ ap (λ vs. term_counts_of (world_of_ground c.args.ground.now) vs c.in-Compare.left) (c.as_slice-in-Compare.ensures.value))
    (c.counts_of-right.ensures ∙ ap (λ vs. term_counts_of (world_of_ground c.args.ground.now) vs c.in-Compare.right) (c.as_slice-in-Compare-2.ensures.value)) c.max.result c.max-plain.result c.max.ensures c.max-plain.ensures)

pub counts_of-returns-in_ok-part-in-Not-clause-made : goal.counts_of-returns-in_ok-part-in-Not-clause-made
counts_of-returns-in_ok-part-in-Not-clause-made t c =
    rw c.in-Not.is (c.bracketed-in-Not.ensures ∙ counts-Not (world_of_ground c.args.ground.now) c.args.variables.now.items c.in-Not.part c.in_ok-part-in-Not.part
    (c.in_ok-part-in-Not.ensures.made ∙ ap (counts_of (world_of_ground c.args.ground.now) c.args.variables.now.items) c.get.ensures) c.saturating_add-instances.result c.saturating_add-instances.ensures)

pub counts_of-returns-in-And-clause-made : goal.counts_of-returns-in-And-clause-made
counts_of-returns-in-And-clause-made t c =
    rw (c.in-And.is, ← counts-And (world_of_ground c.args.ground.now) c.args.variables.now.items c.in-And.parts, ← c.as_slice-in-And.ensures) c.joined.ensures.made

pub counts_of-returns-in-Or-clause-made : goal.counts_of-returns-in-Or-clause-made
counts_of-returns-in-Or-clause-made t c =
    rw (c.in-Or.is, ← counts-Or (world_of_ground c.args.ground.now) c.args.variables.now.items c.in-Or.parts, ← c.as_slice-in-Or.ensures) c.joined-in-Or.ensures.made

pub counts_of-returns-in_ok-right-in-Implies-clause-made : goal.counts_of-returns-in_ok-right-in-Implies-clause-made
counts_of-returns-in_ok-right-in-Implies-clause-made t c =
    rw c.in-Implies.is (c.implication.ensures ∙ counts-Implies (world_of_ground c.args.ground.now) c.args.variables.now.items c.in-Implies.left c.in-Implies.right
    c.in_ok-left-in-Implies.left c.in_ok-right-in-Implies.right (c.in_ok-left-in-Implies.ensures.made ∙ ap (counts_of (world_of_ground c.args.ground.now) c.args.variables.now.items) c.get-in-Implies.ensures)
    (c.in_ok-right-in-Implies.ensures.made ∙ ap (λ vs. counts_of (world_of_ground c.args.ground.now) vs c.get-in-Implies-2.result.now) c.in_ok-left-in-Implies.ensures.kept
    ∙ ap (counts_of (world_of_ground c.args.ground.now) c.args.variables.now.items) c.get-in-Implies-2.ensures) _ _ _ _ refl refl refl refl)

pub counts_of-returns-in_ok-right-in-Iff-clause-made : goal.counts_of-returns-in_ok-right-in-Iff-clause-made
counts_of-returns-in_ok-right-in-Iff-clause-made t c =
    rw c.in-Iff.is (c.equivalence.ensures ∙ counts-Iff (world_of_ground c.args.ground.now) c.args.variables.now.items c.in-Iff.left c.in-Iff.right
    c.in_ok-left-in-Iff.left c.in_ok-right-in-Iff.right (c.in_ok-left-in-Iff.ensures.made ∙ ap (counts_of (world_of_ground c.args.ground.now) c.args.variables.now.items) c.get-in-Iff.ensures)
    (c.in_ok-right-in-Iff.ensures.made ∙ ap (λ vs. counts_of (world_of_ground c.args.ground.now) vs c.get-in-Iff-2.result.now) c.in_ok-left-in-Iff.ensures.kept
    ∙ ap (counts_of (world_of_ground c.args.ground.now) c.args.variables.now.items) c.get-in-Iff-2.ensures) _ _ _ _ refl refl refl refl)

pub counts_of-returns-in-All-clause-made : goal.counts_of-returns-in-All-clause-made
counts_of-returns-in-All-clause-made t c =
    rw (c.in-All.is, ← counts-All (world_of_ground c.args.ground.now) c.args.variables.now.items c.in-All.field-0 c.in-All.domain c.in-All.body, ← c.get-in-All.ensures) c.quantified.ensures.made

pub counts_of-returns-in-Ex-clause-made : goal.counts_of-returns-in-Ex-clause-made
counts_of-returns-in-Ex-clause-made t c =
    rw (c.in-Ex.is, ← counts-Ex (world_of_ground c.args.ground.now) c.args.variables.now.items c.in-Ex.field-0 c.in-Ex.domain c.in-Ex.body, ← c.get-in-Ex.ensures) c.quantified-in-Ex.ensures.made

pub counts_of-returns-in-One-clause-made : goal.counts_of-returns-in-One-clause-made
counts_of-returns-in-One-clause-made t c = rw (c.in-One.is, ← c.get-in-One.ensures) c.everywhere.ensures.made

pub counts_of-returns-in-Far-clause-made : goal.counts_of-returns-in-Far-clause-made
counts_of-returns-in-Far-clause-made t c = rw (c.in-Far.is, ← c.get-in-Far.ensures) c.far.ensures.made

pub counts_of-returns-in_ok-second-in-Pair-clause-made : goal.counts_of-returns-in_ok-second-in-Pair-clause-made
counts_of-returns-in_ok-second-in-Pair-clause-made t c =
    rw c.in-Pair.is (c.pair.ensures ∙ counts-Pair (world_of_ground c.args.ground.now) c.args.variables.now.items c.in-Pair.field-0 c.in-Pair.first c.in-Pair.second
    c.in_ok-first-in-Pair.first c.in_ok-second-in-Pair.second (c.in_ok-first-in-Pair.ensures.made ∙ ap (counts_of (world_of_ground c.args.ground.now) c.args.variables.now.items) c.get-in-Pair.ensures)
    (c.in_ok-second-in-Pair.ensures.made ∙ ap (λ vs. counts_of (world_of_ground c.args.ground.now) vs c.get-in-Pair-2.result.now) c.in_ok-first-in-Pair.ensures.kept
    ∙ ap (counts_of (world_of_ground c.args.ground.now) c.args.variables.now.items) c.get-in-Pair-2.ensures) c.from.result _ _ _ _ c.from.ensures refl refl refl refl)

pub everywhere-returns-clause-made : goal.everywhere-returns-clause-made
everywhere-returns-clause-made t c =
    c.unbracketed.ensures ∙ counts-One (world_of_ground c.args.ground.now) c.args.variables.now.items c.args._op c.args.part.now c.in_ok-part.part
    c.in_ok-part.ensures.made c.from.result c.times_more.result c.saturating_add.result c.from.ensures c.times_more.ensures c.saturating_add.ensures

pub far-returns-clause-made : goal.far-returns-clause-made
far-returns-clause-made t c =
    c.unbracketed.ensures ∙ counts-Far (world_of_ground c.args.ground.now) c.args.variables.now.items c.args.op c.args.part.now c.args.distance.now c.in_ok-part.part
    c.counts_of-distance.result c.in_ok-part.ensures.made
    (c.counts_of-distance.ensures ∙ ap (λ vs. term_counts_of (world_of_ground c.args.ground.now) vs c.args.distance.now) (c.as_slice.ensures.value ∙ c.in_ok-part.ensures.kept)) c.from.result c.max.result
    c.far_instances.result c.max-2.result c.saturating_add.result c.from.ensures c.max.ensures c.far_instances.ensures
    c.max-2.ensures c.saturating_add.ensures

pub all_counts-loop-formula-preserved : goal.all_counts-loop-formula-preserved
all_counts-loop-formula-preserved t c = (
  c.in_ok-more.ensures.kept ∙ c.loop-formula.invariant.0,
  formulas_next (world_of_ground c.args.ground.now) c.args.variables.now.items c.args.formulas.now c.loop-formula.formula-index c.formula-item.result c.loop-formula-test.true
      c.formula-item.is c.loop-formula.counts c.loop-formula.invariant.1 c.in_ok-more.more
      (c.in_ok-more.ensures.made ∙ ap (λ vs. counts_of (world_of_ground c.args.ground.now) vs c.formula-item.result) c.loop-formula.invariant.0)
      c.max.result c.saturating_add.result c.max-in-loop-formula.result c.max.ensures c.saturating_add.ensures c.max-in-loop-formula.ensures,
)
