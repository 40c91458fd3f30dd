-- At each form of formula: what was appended is its shape.
use Rattle.std.proofs.Common.{◌≡◌, ℕ, ◌+◌, map, arith, refl, ap, ◌∙◌}
use Rattle.trio_base.specs.declared.operators.Rel.TheVariants as rel
use Rattle.trio_base.specs.declared.operators.Ends.TheVariants as ends
use Rattle.trio_types.specs.declared.formula.Term.TheVariants as term
use Rattle.trio_types.specs.Verdict.{world_of}
use Rattle.derived_ops.specs.Shape.{atom, no, exists, dist}
use Rattle.derived_ops.specs.Rewriting.{Levels, renamed, all_joined, towards, within, up_to, written}
use Rattle.derived_ops.specs.Distances.{lowest, highest}
use Rattle.derived_ops.specs.Adding.{negated, many_opposite, negations_of}
use Rattle.derived_ops.proofs.Weights.{weight, weights, weight-Not, weight-And, weight-Or, weight-Implies, weight-Iff, weight-All, weight-Ex, weight-One, weight-Far, weight-Pair, front_weight, back_weight}
use Rattle.derived_ops.proofs.Halves.{half_of, halved, halves}
use Rattle.derived_ops.proofs.WrittenAt.{written-Lone, written-Compare, written-Not, written-And, written-Or, written-Implies, written-Iff, written-All, written-Ex, written-One, written-Far, written-Pair}
use Rattle.derived_ops.proofs.Writing.{as_shape, as_written, framed, popped, add_atom, add_no, add_exists, add_dist, add_both, add_either, add_two, one_is}
use Rattle.derived_ops.proofs.writer.Writer.+formulas.Goals as goal

pub formula-returns-in_ok-at-in-Lone : goal.formula-returns-in_ok-at-in-Lone
formula-returns-in_ok-at-in-Lone t c =
    rw (c.in-Lone.is, written-Lone) (add_atom c.in_ok-at-in-Lone.ensures)

pub formula-returns-in_ok-at-in-Compare : goal.formula-returns-in_ok-at-in-Compare
formula-returns-in_ok-at-in-Compare t c =
    rw (c.in-Compare.is, written-Compare) (add_atom c.in_ok-at-in-Compare.ensures)

pub formula-returns-in_ok-at-in-Not : goal.formula-returns-in_ok-at-in-Not
formula-returns-in_ok-at-in-Not t c =
    rw (c.in-Not.is, written-Not) (add_no (as_written (world_of c.args.spec.now) c.get.ensures refl refl c.in_ok-part-in-Not.ensures) c.in_ok-at-in-Not.ensures)

pub formula-returns-in-And : goal.formula-returns-in-And
formula-returns-in-And t c = rw (c.in-And.is, written-And, ← c.as_slice.ensures) c.joined.ensures

pub formula-returns-in-Or : goal.formula-returns-in-Or
formula-returns-in-Or t c = rw (c.in-Or.is, written-Or, ← c.as_slice-in-Or.ensures) c.joined-in-Or.ensures

pub formula-returns-in-Implies : goal.formula-returns-in-Implies
formula-returns-in-Implies t c =
    rw (c.in-Implies.is, written-Implies, ← c.get-in-Implies.ensures, ← c.get-in-Implies-2.ensures) c.implies.ensures

pub formula-returns-in_ok-at-in-Iff : goal.formula-returns-in_ok-at-in-Iff
formula-returns-in_ok-at-in-Iff t c =
    let w = world_of c.args.spec.now in
    rw (c.in-Iff.is, written-Iff) (c.in_ok-at-in-Iff.ensures _ _ _ _ (as_written w c.get-in-Iff.ensures refl refl c.in_ok-left-in-Iff.ensures)
    (as_written w c.get-in-Iff-2.ensures refl c.in_ok-left-in-Iff.ensures.levels c.in_ok-right-in-Iff.ensures))

pub formula-returns-in-All : goal.formula-returns-in-All
formula-returns-in-All t c = rw (c.in-All.is, written-All, ← c.get-in-All.ensures) c.quantified.ensures

pub formula-returns-in-Ex : goal.formula-returns-in-Ex
formula-returns-in-Ex t c = rw (c.in-Ex.is, written-Ex, ← c.get-in-Ex.ensures) c.quantified-in-Ex.ensures

pub formula-returns-in-One : goal.formula-returns-in-One
formula-returns-in-One t c = rw (c.in-One.is, written-One, ← c.get-in-One.ensures) c.one.ensures

pub formula-returns-in-Far : goal.formula-returns-in-Far
formula-returns-in-Far t c = rw (c.in-Far.is, written-Far, ← c.get-in-Far.ensures) c.far.ensures

pub formula-returns-in-Pair : goal.formula-returns-in-Pair
formula-returns-in-Pair t c =
    rw (c.in-Pair.is, written-Pair, ← c.way_of.ensures, ← c.get-in-Pair.ensures, ← c.get-in-Pair-2.ensures) c.until.ensures

-- parts are smaller
pub formula-formula-requires : goal.formula-formula-requires
formula-formula-requires t c = (omega (arith, c.decreases, ap weight c.in-Not.is, weight-Not c.in-Not.part, ap weight c.get.ensures), tt)

pub formula-joined-requires : goal.formula-joined-requires
formula-joined-requires t c = (omega (arith, c.decreases, ap weight c.in-And.is, weight-And c.in-And.parts, ap weights c.as_slice.ensures), tt)

pub formula-joined-requires-in-Or : goal.formula-joined-requires-in-Or
formula-joined-requires-in-Or t c = (omega (arith, c.decreases, ap weight c.in-Or.is, weight-Or c.in-Or.parts, ap weights c.as_slice-in-Or.ensures), tt)

pub formula-implies-requires : goal.formula-implies-requires
formula-implies-requires t c = (
  omega (
    arith,
    c.decreases,
    ap weight c.in-Implies.is,
    weight-Implies c.in-Implies.left c.in-Implies.right,
    ap weight c.get-in-Implies.ensures,
    ap weight c.get-in-Implies-2.ensures,
  ),
  tt,
)

pub formula-formula-requires-in-Iff : goal.formula-formula-requires-in-Iff
formula-formula-requires-in-Iff t c = (omega (arith, c.decreases, ap weight c.in-Iff.is, weight-Iff c.in-Iff.left c.in-Iff.right, ap weight c.get-in-Iff.ensures), tt)

pub formula-formula-requires-in-Iff-2 : goal.formula-formula-requires-in-Iff-2
formula-formula-requires-in-Iff-2 t c = (omega (arith, c.decreases, ap weight c.in-Iff.is, weight-Iff c.in-Iff.left c.in-Iff.right, ap weight c.get-in-Iff-2.ensures), tt)

pub formula-quantified-requires : goal.formula-quantified-requires
formula-quantified-requires t c = (
  omega (arith, c.decreases, ap weight c.in-All.is, weight-All c.in-All.field-0 c.in-All.domain c.in-All.body, ap weight c.get-in-All.ensures),
  tt,
)

pub formula-quantified-requires-in-Ex : goal.formula-quantified-requires-in-Ex
formula-quantified-requires-in-Ex t c = (
  omega (arith, c.decreases, ap weight c.in-Ex.is, weight-Ex c.in-Ex.field-0 c.in-Ex.domain c.in-Ex.body, ap weight c.get-in-Ex.ensures),
  tt,
)

pub formula-one-requires : goal.formula-one-requires
formula-one-requires t c = (omega (arith, c.decreases, ap weight c.in-One.is, weight-One c.in-One.op c.in-One.part, ap weight c.get-in-One.ensures), tt)

pub formula-far-requires : goal.formula-far-requires
formula-far-requires t c = (
  omega (arith, c.decreases, ap weight c.in-Far.is, weight-Far c.in-Far.op c.in-Far.part c.in-Far.distance, ap weight c.get-in-Far.ensures),
  tt,
)

pub formula-until-requires : goal.formula-until-requires
formula-until-requires t c = (
  omega (
    arith,
    c.decreases,
    ap weight c.in-Pair.is,
    weight-Pair c.in-Pair.op c.in-Pair.first c.in-Pair.second,
    ap weight c.get-in-Pair.ensures,
    ap weight c.get-in-Pair-2.ensures,
  ),
  tt,
)

-- the operators
pub implies-returns : goal.implies-returns
implies-returns t c =
    let w = world_of c.args.spec.now in
    let no_left = add_no c.in_ok-left.ensures c.in_ok-no_left.ensures in
    add_either no_left (as_written w refl refl no_left.levels c.in_ok-right.ensures) c.in_ok-at.ensures

pub joined-joined-requires : goal.joined-joined-requires
joined-joined-requires t c =
    let h = halved c.args.parts.now c.if-is_empty.ensures c.if-parts-eq1.false in
    (omega (arith, c.decreases, front_weight c.args.parts.now c.split_at.result.0.now (half_of c.args.parts.now) c.split_at.ensures.front h.1), tt)

pub joined-joined-requires-2 : goal.joined-joined-requires-2
joined-joined-requires-2 t c =
    let h = halved c.args.parts.now c.if-is_empty.ensures c.if-parts-eq1.false in
    (omega (arith, c.decreases, back_weight c.args.parts.now c.split_at.result.1.now (half_of c.args.parts.now) c.split_at.ensures.back h.0 (omega (arith, h.1))), tt)

pub joined-returns : goal.joined-returns
joined-returns t c =
    let w = world_of c.args.spec.now in
    let back = λ (ls : Levels). all_joined c.args.joint (map (λ f. written w f c.args.level ls) c.split_at.result.1.now) in
    as_shape
    (halves c.args.joint (λ f. written w f c.args.level c.args.self.now.levels.items) c.args.parts.now c.split_at.result.0.now c.split_at.result.1.now
    c.if-is_empty.ensures c.if-parts-eq1.false c.split_at.ensures.front c.split_at.ensures.back)
    (add_two c.args.joint c.in_ok-front.ensures (as_shape (ap back c.in_ok-front.ensures.levels) c.in_ok-back.ensures) c.in_ok-at-3.ensures)

pub quantified-returns : goal.quantified-returns
quantified-returns t c =
    let w = world_of c.args.spec.now in
    let body = as_written w refl c.in_ok-inner.ensures c.in_ok-push.ensures.items c.in_ok-body.ensures in
    let levels = popped c.args.self.now.levels.items c.args.level c.formula.new.self.levels.items c.pop.new.self.items c.formula.new.self.levels.len
    (c.in_ok-body.ensures.levels ∙ c.in_ok-push.ensures.items) c.formula.new.self.levels.ok.0 c.pop.ensures.rest in
    let part = c.in_ok-part.ensures _ _ (framed refl refl levels body) in
    c.in_ok-at.ensures _ _ (add_exists refl refl part c.in_ok-some.ensures)

pub one-returns : goal.one-returns
one-returns t c =
    let w = world_of c.args.spec.now in
    let body = as_written w refl c.in_ok-inner.ensures refl c.in_ok-body.ensures in
    let inside = as_shape (ap (λ n. negated n (written w c.args.part.now (c.args.level + 1) c.args.self.now.levels.items)) c.negations_of.ensures) (c.in_ok-part.ensures _ _ body) in
    let some = add_exists refl refl (add_dist refl inside c.in_ok-there.ensures) c.in_ok-some.ensures in
    let around = λ (n : ℕ). negated n (exists (lowest w c.args.op) (highest w c.args.op)
    (dist (negated (negations_of c.args.op) (written w c.args.part.now (c.args.level + 1) c.args.self.now.levels.items)) (term.Var c.args.level))) in
    as_shape (ap around c.negations_of-2.ensures ∙ one_is w c.args.op (written w c.args.part.now) c.args.level c.args.self.now.levels.items) (c.in_ok-at.ensures _ _ some)

pub far-returns-in_ok-at-in-Dist : goal.far-returns-in_ok-at-in-Dist
far-returns-in_ok-at-in-Dist t c =
    rw c.in-Dist.is (add_dist (ap (λ ls. renamed ls c.args.distance.now) c.in_ok-part-in-Dist.ensures.levels) c.in_ok-part-in-Dist.ensures c.in_ok-at-in-Dist.ensures)

pub at_far-returns : goal.at_far-returns
at_far-returns t c =
    let w = world_of c.args.spec.now in
    let levels = c.in_ok-part.ensures.levels ∙ c.in_ok-first.ensures.levels in
    add_both (add_atom c.in_ok-first.ensures)
    (add_dist (ap (λ ls. towards c.args.way (renamed ls c.args.distance.now)) levels) (as_written w refl refl c.in_ok-first.ensures.levels c.in_ok-part.ensures) c.in_ok-there.ensures)
    c.in_ok-at.ensures

pub within-returns : goal.within-returns
within-returns t c =
    let w = world_of c.args.spec.now in
    let body = as_written w refl c.in_ok-inner.ensures c.in_ok-near.ensures.levels c.in_ok-body.ensures in
    let there = add_dist refl (c.in_ok-part.ensures _ _ body) c.in_ok-there.ensures in
    add_exists refl refl (add_both (add_atom c.in_ok-near.ensures) there c.in_ok-both.ensures) c.in_ok-at.ensures

pub throughout-returns : goal.throughout-returns
throughout-returns t c = add_no c.in_ok-some.ensures c.in_ok-at.ensures

pub next-returns : goal.next-returns
next-returns t c =
    let w = world_of c.args.spec.now in
    let never = λ (ls : Levels). no (within w c.args.way ends.Bare (many_opposite 2 (written w c.args.part.now)) c.args.distance.now c.args.level ls) in
    add_both c.in_ok-there.ensures (as_shape (ap never c.in_ok-there.ensures.levels) c.in_ok-never.ensures) c.in_ok-at.ensures

pub until-returns : goal.until-returns
until-returns t c =
    let w = world_of c.args.spec.now in
    let there = add_dist refl (as_written w refl c.in_ok-inner.ensures refl c.in_ok-second.ensures) c.in_ok-there.ensures in
    let never = as_shape (ap (up_to w c.args.way (written w c.args.first.now) c.args.level) there.levels) c.in_ok-never.ensures in
    add_exists refl refl (add_both there never c.in_ok-both.ensures) c.in_ok-at.ensures

pub up_to-returns : goal.up_to-returns
up_to-returns t c =
    let w = world_of c.args.spec.now in
    let deep : c.in_ok-deep.deep ≡ c.args.level + 2 = omega (arith, c.in_ok-deep.ensures, c.in_ok-inner.ensures) in
    let near = as_shape (ap (λ k. atom rel.Lt (term.Var k) (term.Var c.args.level)) c.in_ok-inner.ensures) (add_atom c.in_ok-near.ensures) in
    let body = as_written w refl deep near.levels c.in_ok-part.ensures in
    let there = add_dist (ap (λ k. towards c.args.way (term.Var k)) c.in_ok-inner.ensures) (add_no body c.in_ok-no_part.ensures) c.in_ok-there.ensures in
    add_no (add_exists refl refl (add_both near there c.in_ok-both.ensures) c.in_ok-some.ensures) c.in_ok-at.ensures
