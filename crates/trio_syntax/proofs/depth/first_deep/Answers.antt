-- The loop counts the open brackets of the tokens so far.
use Rattle.std.proofs.Common.{◌+◌, ◌≤◌, ◌<◌, take, sym, subst, arith, below_more}
use Rattle.trio_syntax.specs.Depth.{open_behind}
use Rattle.trio_syntax.proofs.Depths.{open_none, open_after_here, deep_here, deep_nowhere}
use Rattle.trio_syntax.proofs.depth.first_deep.Goals as goal

pub loop-place-init : goal.loop-place-init
loop-place-init c = (sym (open_none c.args.lexemes.now), omega arith, λ j less. absurd (omega arith))

pub returns-then-opened : goal.returns-then-opened
returns-then-opened c =
    let next = open_after_here c.args.lexemes.now c.loop-place.place c.loop-place.opened c.open_after-opened.result c.index-lexemes-place.result
    c.loop-place-test.true c.loop-place.invariant.0 c.index-lexemes-place.is c.open_after-opened.ensures in
    deep_here c.args.lexemes.now c.loop-place.place c.loop-place-test.true c.loop-place.invariant.2 (subst (λ n. 100 < n) next c.if-opened.true)

pub loop-place-preserved : goal.loop-place-preserved
loop-place-preserved c =
    let next = open_after_here c.args.lexemes.now c.loop-place.place c.loop-place.opened c.open_after-opened.result c.index-lexemes-place.result
    c.loop-place-test.true c.loop-place.invariant.0 c.index-lexemes-place.is c.open_after-opened.ensures in (
      next,
      c.if-opened.false,
      below_more (λ j. open_behind (take (j + 1) c.args.lexemes.now) ≤ 100) c.loop-place.place c.loop-place.invariant.2 (subst (λ n. n ≤ 100) next c.if-opened.false),
    )

pub returns : goal.returns
returns c = deep_nowhere c.args.lexemes.now (λ j less. c.loop-place.invariant.2 j (omega (arith, less, c.loop-place-test.false)))
