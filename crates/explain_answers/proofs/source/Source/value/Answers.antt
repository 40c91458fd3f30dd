-- A token is passed, or counted.
use Rattle.explain_answers.proofs.Scanned.{value_passed, value_counted}
use Rattle.explain_answers.proofs.source.Source.value.Goals as goal
use Rattle.explain_answers.proofs.source.Source.value.Goals.{then-begins_value+else-left-le1, else-begins_value}

pub loop-token-preserved : goal.loop-token-preserved
loop-token-preserved c =
    let tokens = c.args.self.tokens.now in
    let end = c.args.line.end in
    elim c.if-begins_value.branch [
      | then-begins_value+else-left-le1 w ↦
          let h = value_counted tokens end c.loop-token.left c.loop-token.token c.loop-token-test.true (cc) w.if-left-le1.false in cc
      | else-begins_value w ↦ let h = value_passed tokens end c.loop-token.left c.loop-token.token c.loop-token-test.true (cc) in cc
    ]
