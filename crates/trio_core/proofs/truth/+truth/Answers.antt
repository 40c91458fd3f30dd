-- The answers to the goals of `node_truth` and `for_some`.
use Rattle.std.proofs.Common.{refl, sym, ap, ◌∙◌, arith}
use Rattle.std.proofs.lemmas.Int.{ints}
use Rattle.trio_core.specs.declared.nodes.Three.TheVariants as three
use Rattle.trio_core.specs.Three.{not3, and3, or3}
use Rattle.trio_core.proofs.NodeTruths.{truth_under, atom_node, not_node, and_node, or_node, distance, dist_node, exists_node, step, found_one, all_seen, passed_back}
use Rattle.trio_core.proofs.truth.+truth.Goals.{node_truth-else-target-ge0-via-then-target-ge0+else-target-from, node_truth-else-target-ge0-via-else-target-ge0}
use Rattle.trio_core.proofs.truth.+truth.Goals as goal

pub for_some-node_truth-requires : goal.for_some-node_truth-requires
for_some-node_truth-requires t c =
    let s = step c.args.under.now c.args.part c.args.from c.args.instant c.args.low c.args.high c.loop-index.index c.loop-index.inner c.loop-index.found c.number_of-index-end.result c.from.result
    c.requires.body c.loop-index.invariant c.number_of-index-end.ensures c.loop-index-test.true c.from.ensures in
    (omega (arith, c.decreases), (c.requires.sets_fit, s.asked))

pub for_some-returns-in-True : goal.for_some-returns-in-True
for_some-returns-in-True t c =
    let s = step c.args.under.now c.args.part c.args.from c.args.instant c.args.low c.args.high c.loop-index.index c.loop-index.inner c.loop-index.found c.number_of-index-end.result c.from.result
    c.requires.body c.loop-index.invariant c.number_of-index-end.ensures c.loop-index-test.true c.from.ensures in
    passed_back c.args.under.now c.args.part c.args.from c.args.instant c.args.low c.args.high c.either-found.result c.requires.body (found_one (s.more c.node_truth.result c.either-found.result c.node_truth.ensures c.either-found.ensures) c.in-True.is)

pub for_some-loop-index-preserved : goal.for_some-loop-index-preserved
for_some-loop-index-preserved t c =
    let s = step c.args.under.now c.args.part c.args.from c.args.instant c.args.low c.args.high c.loop-index.index c.loop-index.inner c.loop-index.found c.number_of-index-end.result c.from.result
    c.requires.body c.loop-index.invariant c.number_of-index-end.ensures c.loop-index-test.true c.from.ensures in
    s.more c.node_truth.result c.either-found.result c.node_truth.ensures c.either-found.ensures

pub for_some-returns : goal.for_some-returns
for_some-returns t c =
    passed_back c.args.under.now c.args.part c.args.from c.args.instant c.args.low c.args.high c.loop-index.found c.requires.body (all_seen c.loop-index.invariant (omega (arith, c.loop-index-test.false, c.number_of-index-end.ensures, c.loop-index.auto)))

pub node_truth-quick_value-left-requires-clause-term_fits : goal.node_truth-quick_value-left-requires-clause-term_fits
node_truth-quick_value-left-requires-clause-term_fits t c =
    (atom_node c.args.under.now c.args.node c.args.from c.args.instant c.get.result.now c.in-Atom.rel c.in-Atom.left c.in-Atom.right c.requires.asked c.get.ensures c.in-Atom.is).left

pub node_truth-quick_value-right-requires-clause-term_fits : goal.node_truth-quick_value-right-requires-clause-term_fits
node_truth-quick_value-right-requires-clause-term_fits t c =
    (atom_node c.args.under.now c.args.node c.args.from c.args.instant c.get.result.now c.in-Atom.rel c.in-Atom.left c.in-Atom.right c.requires.asked c.get.ensures c.in-Atom.is).right

pub node_truth-node_truth-requires : goal.node_truth-node_truth-requires
node_truth-node_truth-requires t c =
    let of = not_node c.args.under.now c.args.node c.args.from c.args.instant c.get.result.now c.in-Not.part c.requires.asked c.get.ensures c.in-Not.is in
    (omega (arith, of.part.before, c.decreases), (c.requires.sets_fit, of.part.asked))

pub node_truth-node_truth-requires-in-And : goal.node_truth-node_truth-requires-in-And
node_truth-node_truth-requires-in-And t c =
    let of = and_node c.args.under.now c.args.node c.args.from c.args.instant c.get.result.now c.in-And.left c.in-And.right c.requires.asked c.get.ensures c.in-And.is in
    (omega (arith, of.left.before, c.decreases), (c.requires.sets_fit, of.left.asked))

pub node_truth-node_truth-requires-in-Unknown : goal.node_truth-node_truth-requires-in-Unknown
node_truth-node_truth-requires-in-Unknown t c =
    let of = and_node c.args.under.now c.args.node c.args.from c.args.instant c.get.result.now c.in-And.left c.in-And.right c.requires.asked c.get.ensures c.in-And.is in
    (omega (arith, of.right.before, c.decreases), (c.requires.sets_fit, of.right.asked))

pub node_truth-node_truth-requires-in-True : goal.node_truth-node_truth-requires-in-True
node_truth-node_truth-requires-in-True t c =
    let of = and_node c.args.under.now c.args.node c.args.from c.args.instant c.get.result.now c.in-And.left c.in-And.right c.requires.asked c.get.ensures c.in-And.is in
    (omega (arith, of.right.before, c.decreases), (c.requires.sets_fit, of.right.asked))

pub node_truth-node_truth-requires-in-Or : goal.node_truth-node_truth-requires-in-Or
node_truth-node_truth-requires-in-Or t c =
    let of = or_node c.args.under.now c.args.node c.args.from c.args.instant c.get.result.now c.in-Or.left c.in-Or.right c.requires.asked c.get.ensures c.in-Or.is in
    (omega (arith, of.left.before, c.decreases), (c.requires.sets_fit, of.left.asked))

pub node_truth-node_truth-requires-in-False-node_truth : goal.node_truth-node_truth-requires-in-False-node_truth
node_truth-node_truth-requires-in-False-node_truth t c =
    let of = or_node c.args.under.now c.args.node c.args.from c.args.instant c.get.result.now c.in-Or.left c.in-Or.right c.requires.asked c.get.ensures c.in-Or.is in
    (omega (arith, of.right.before, c.decreases), (c.requires.sets_fit, of.right.asked))

pub node_truth-node_truth-requires-in-Unknown-node_truth : goal.node_truth-node_truth-requires-in-Unknown-node_truth
node_truth-node_truth-requires-in-Unknown-node_truth t c =
    let of = or_node c.args.under.now c.args.node c.args.from c.args.instant c.get.result.now c.in-Or.left c.in-Or.right c.requires.asked c.get.ensures c.in-Or.is in
    (omega (arith, of.right.before, c.decreases), (c.requires.sets_fit, of.right.asked))

pub node_truth-for_some-requires : goal.node_truth-for_some-requires
node_truth-for_some-requires t c =
    let of = exists_node c.args.under.now c.args.node c.args.from c.args.instant c.get.result.now c.in-Exists.low c.in-Exists.high c.in-Exists.part c.requires.asked c.get.ensures c.in-Exists.is in
    (omega (arith, of.before, c.decreases), (c.requires.sets_fit, of.body))

pub node_truth-quick_value-requires-clause-term_fits : goal.node_truth-quick_value-requires-clause-term_fits
node_truth-quick_value-requires-clause-term_fits t c =
    (distance c.args.under.now c.args.node c.args.from c.args.instant c.get.result.now c.in-Dist.part c.in-Dist.distance c.requires.asked c.get.ensures c.in-Dist.is).fits

pub node_truth-unreachable-requires : goal.node_truth-unreachable-requires
node_truth-unreachable-requires t c =
    let of = distance c.args.under.now c.args.node c.args.from c.args.instant c.get.result.now c.in-Dist.part c.in-Dist.distance c.requires.asked c.get.ensures c.in-Dist.is in
    c.in_default.not-One of.value (c.quick_value.ensures ∙ of.known)

pub node_truth-overflow_add-target : goal.node_truth-overflow_add-target
node_truth-overflow_add-target t c =
    (dist_node c.args.under.now c.args.node c.args.from c.args.instant c.get.result.now c.in-Dist.part c.in-Dist.distance c.quick_value.result c.in-One.distance c.from.result c.requires.asked c.get.ensures c.in-Dist.is
    c.quick_value.ensures c.in-One.is c.from.ensures).fits

pub node_truth-overflow_cast-target : goal.node_truth-overflow_cast-target
node_truth-overflow_cast-target t c =
    let of = dist_node c.args.under.now c.args.node c.args.from c.args.instant c.get.result.now c.in-Dist.part c.in-Dist.distance c.quick_value.result c.in-One.distance c.from.result c.requires.asked c.get.ensures c.in-Dist.is
    c.quick_value.ensures c.in-One.is c.from.ensures in
    let at = of.inside (omega (arith, ints, c.if-target-ge0.true)) (omega (arith, ints, of.few, c.if-target-from.true, c.from-then-target-ge0.ensures)) in
    at.cast

pub node_truth-node_truth-requires-then-target-from : goal.node_truth-node_truth-requires-then-target-from
node_truth-node_truth-requires-then-target-from t c =
    let of = dist_node c.args.under.now c.args.node c.args.from c.args.instant c.get.result.now c.in-Dist.part c.in-Dist.distance c.quick_value.result c.in-One.distance c.from.result c.requires.asked c.get.ensures c.in-Dist.is
    c.quick_value.ensures c.in-One.is c.from.ensures in
    let at = of.inside (omega (arith, ints, c.if-target-ge0.true)) (omega (arith, ints, of.few, c.if-target-from.true, c.from-then-target-ge0.ensures)) in
    (omega (arith, at.part.before, c.decreases), (c.requires.sets_fit, at.part.asked))

pub node_truth-returns-in-Atom : goal.node_truth-returns-in-Atom
node_truth-returns-in-Atom t c =
    c.compare.ensures ∙ (atom_node c.args.under.now c.args.node c.args.from c.args.instant c.get.result.now c.in-Atom.rel c.in-Atom.left c.in-Atom.right c.requires.asked c.get.ensures c.in-Atom.is).answer c.quick_value-left.result c.quick_value-right.result c.quick_value-left.ensures c.quick_value-right.ensures

pub node_truth-returns-in-Not : goal.node_truth-returns-in-Not
node_truth-returns-in-Not t c =
    c.opposite.ensures ∙ ap not3 c.node_truth.ensures ∙ (not_node c.args.under.now c.args.node c.args.from c.args.instant c.get.result.now c.in-Not.part c.requires.asked c.get.ensures c.in-Not.is).answer

pub node_truth-returns-in-False : goal.node_truth-returns-in-False
node_truth-returns-in-False t c =
    let of = and_node c.args.under.now c.args.node c.args.from c.args.instant c.get.result.now c.in-And.left c.in-And.right c.requires.asked c.get.ensures c.in-And.is in
    of.answer three.False (truth_under c.args.under.now c.in-And.right 0 c.args.instant) (sym c.node_truth-in-And.ensures ∙ c.in-False.is) refl

pub node_truth-returns-in-Unknown : goal.node_truth-returns-in-Unknown
node_truth-returns-in-Unknown t c =
    let of = and_node c.args.under.now c.args.node c.args.from c.args.instant c.get.result.now c.in-And.left c.in-And.right c.requires.asked c.get.ensures c.in-And.is in
    c.both.ensures ∙ ap (and3 three.Unknown) c.node_truth-in-Unknown.ensures ∙ of.answer three.Unknown (truth_under c.args.under.now c.in-And.right 0 c.args.instant) (sym c.node_truth-in-And.ensures ∙ c.in-Unknown.is) refl

pub node_truth-returns-in-True : goal.node_truth-returns-in-True
node_truth-returns-in-True t c =
    let of = and_node c.args.under.now c.args.node c.args.from c.args.instant c.get.result.now c.in-And.left c.in-And.right c.requires.asked c.get.ensures c.in-And.is in
    c.node_truth-in-True.ensures ∙ of.answer three.True (truth_under c.args.under.now c.in-And.right 0 c.args.instant) (sym c.node_truth-in-And.ensures ∙ c.in-True.is) refl

pub node_truth-returns-in-False-node_truth : goal.node_truth-returns-in-False-node_truth
node_truth-returns-in-False-node_truth t c =
    let of = or_node c.args.under.now c.args.node c.args.from c.args.instant c.get.result.now c.in-Or.left c.in-Or.right c.requires.asked c.get.ensures c.in-Or.is in
    c.node_truth-in-False-node_truth.ensures ∙ of.answer three.False (truth_under c.args.under.now c.in-Or.right 0 c.args.instant) (sym c.node_truth-in-Or.ensures ∙ c.in-False-node_truth.is) refl

pub node_truth-returns-in-Unknown-node_truth : goal.node_truth-returns-in-Unknown-node_truth
node_truth-returns-in-Unknown-node_truth t c =
    let of = or_node c.args.under.now c.args.node c.args.from c.args.instant c.get.result.now c.in-Or.left c.in-Or.right c.requires.asked c.get.ensures c.in-Or.is in
    c.either.ensures ∙ ap (or3 three.Unknown) c.node_truth-in-Unknown-node_truth.ensures ∙ of.answer three.Unknown (truth_under c.args.under.now c.in-Or.right 0 c.args.instant) (sym c.node_truth-in-Or.ensures ∙ c.in-Unknown-node_truth.is) refl

pub node_truth-returns-in-True-node_truth : goal.node_truth-returns-in-True-node_truth
node_truth-returns-in-True-node_truth t c =
    let of = or_node c.args.under.now c.args.node c.args.from c.args.instant c.get.result.now c.in-Or.left c.in-Or.right c.requires.asked c.get.ensures c.in-Or.is in
    of.answer three.True (truth_under c.args.under.now c.in-Or.right 0 c.args.instant) (sym c.node_truth-in-Or.ensures ∙ c.in-True-node_truth.is) refl

pub node_truth-returns-in-Exists : goal.node_truth-returns-in-Exists
node_truth-returns-in-Exists t c =
    c.for_some.ensures ∙ (exists_node c.args.under.now c.args.node c.args.from c.args.instant c.get.result.now c.in-Exists.low c.in-Exists.high c.in-Exists.part c.requires.asked c.get.ensures c.in-Exists.is).answer

pub node_truth-returns-then-target-from : goal.node_truth-returns-then-target-from
node_truth-returns-then-target-from t c =
    let of = dist_node c.args.under.now c.args.node c.args.from c.args.instant c.get.result.now c.in-Dist.part c.in-Dist.distance c.quick_value.result c.in-One.distance c.from.result c.requires.asked c.get.ensures c.in-Dist.is
    c.quick_value.ensures c.in-One.is c.from.ensures in
    let at = of.inside (omega (arith, ints, c.if-target-ge0.true)) (omega (arith, ints, of.few, c.if-target-from.true, c.from-then-target-ge0.ensures)) in
    c.node_truth-then-target-from.ensures ∙ at.answer

pub node_truth-returns-else-target-ge0 : goal.node_truth-returns-else-target-ge0
node_truth-returns-else-target-ge0 t c =
    let of = dist_node c.args.under.now c.args.node c.args.from c.args.instant c.get.result.now c.in-Dist.part c.in-Dist.distance c.quick_value.result c.in-One.distance c.from.result c.requires.asked c.get.ensures c.in-Dist.is
    c.quick_value.ensures c.in-One.is c.from.ensures in
    of.outside (λ j below is. elim c.else-target-ge0.branch [
      | node_truth-else-target-ge0-via-then-target-ge0+else-target-from b ↦ omega (arith, ints, is, below, of.few, b.from-then-target-ge0.ensures, b.if-target-from.false)
      | node_truth-else-target-ge0-via-else-target-ge0 b ↦ omega (arith, ints, is, b.if-target-ge0.false)
    ])
