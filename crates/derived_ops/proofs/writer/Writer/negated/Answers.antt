-- The negations so far, and all of them.
use Rattle.std.proofs.Common.{◌≡◌, sym, ap, arith, add-one}
use Rattle.derived_ops.specs.Adding.{negated}
use Rattle.derived_ops.proofs.Writing.{as_shape, add_no}
use Rattle.derived_ops.proofs.writer.Writer.negated.Goals as goal

pub loop-init : goal.loop-init
loop-init c = λ s first adds. adds

pub loop-preserved : goal.loop-preserved
loop-preserved c = λ s first adds. as_shape (ap (λ n. negated n s) (sym (add-one c.loop.counter))) (add_no (c.loop.invariant s first adds) c.in_ok-at.ensures)

pub returns : goal.returns
returns c = λ s first adds. let all : c.loop.counter ≡ c.args.count = omega arith in as_shape (ap (λ n. negated n s) all) (c.loop.invariant s first adds)
