-- The lines so far are not the one that is looked for.
use Rattle.std.proofs.Common.{◌≡◌, drop}
use Rattle.trio_syntax.specs.Exact.{by_sign}
use Rattle.trio_syntax.proofs.steps.by_sign.Given as goal

abbrev pub invariant-loop-line : goal.invariant-loop-line
invariant-loop-line g l = by_sign l.table l.symbol ≡ by_sign (drop l.line-index l.table) l.symbol
