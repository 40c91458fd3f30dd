-- The lines so far are not the one that is looked for.
use Rattle.std.proofs.Common.{◌≡◌, drop}
use Rattle.trio_syntax.specs.Exact.{by_word}
use Rattle.trio_syntax.proofs.steps.by_word.Given as goal

abbrev pub invariant-loop-line : goal.invariant-loop-line
invariant-loop-line g l = by_word l.table l.word ≡ by_word (drop l.line-index l.table) l.word
