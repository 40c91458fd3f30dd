-- The value is the one that so many values more are up to.
use Rattle.std.proofs.Common.{◌≡◌, ◌-◌}
use Rattle.explain_answers.specs.RowForm.{value_from, value_of}
use Rattle.explain_answers.proofs.source.Source.value.Given as goal

abbrev pub invariant-loop-token : goal.invariant-loop-token
invariant-loop-token l = value_from l.self.tokens.now l.line.end l.left l.token (l.line.end - l.token) ≡ value_of l.self.tokens.now l.line l.number
