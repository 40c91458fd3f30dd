-- The axiom is the one that so many axioms more are up to.
use Rattle.std.proofs.Common.{◌≡◌, ◌+◌, ◌-◌, length}
use Rattle.explain_answers.specs.VerdictWords.{axiom_from, axiom_name_token}
use Rattle.explain_answers.proofs.source.Source.axiom_name.Given as goal

abbrev pub invariant-loop-token : goal.invariant-loop-token
invariant-loop-token l =
    axiom_from l.self.tokens.now (length l.self.tokens.now) l.left l.token (length l.self.tokens.now - l.token) + 1 ≡ axiom_name_token l.self.tokens.now l.number
