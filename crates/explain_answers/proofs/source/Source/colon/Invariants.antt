-- No `:` stands before.
use Rattle.std.proofs.Common.{◌≡◌, ◌-◌}
use Rattle.explain_answers.specs.RowForm.{colon_from, colon_of}
use Rattle.explain_answers.proofs.source.Source.colon.Given as goal

abbrev pub invariant-loop-token : goal.invariant-loop-token
invariant-loop-token l = colon_from l.self.tokens.now l.line.end l.token (l.line.end - l.token) ≡ colon_of l.self.tokens.now l.line
