-- A token is passed, or counted.
use Rattle.std.proofs.Common.{length}
use Rattle.explain_answers.proofs.Scanned.{axiom_passed, axiom_counted}
use Rattle.explain_answers.proofs.source.Source.axiom_name.Goals as goal
use Rattle.explain_answers.proofs.source.Source.axiom_name.Goals.{then-is_axiom+else-left-eq0, else-is_axiom}

pub loop-token-preserved : goal.loop-token-preserved
loop-token-preserved c =
    let tokens = c.args.self.tokens.now in
    elim c.if-is_axiom.branch [
      | then-is_axiom+else-left-eq0 w ↦
          let h = axiom_counted tokens (length tokens) c.loop-token.left c.loop-token.token c.loop-token-test.true (cc) w.if-left-eq0.false in cc
      | else-is_axiom w ↦ let h = axiom_passed tokens (length tokens) c.loop-token.left c.loop-token.token c.loop-token-test.true (cc) in cc
    ]
