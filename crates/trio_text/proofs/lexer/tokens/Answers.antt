-- each step of the loop goes past a blank, a comment or a token
use Rattle.std.proofs.Common.{◌+◌, List, length, subst, sym, ap, ◌∙◌, arith}
use Rattle.trio_text.specs.declared.token.Token.{Token}
use Rattle.trio_text.specs.Reading.{ReadsTokens}
use Rattle.trio_text.proofs.Steps.{reads_none, reads_past, all_read, no_error, reads_next, reads_all, reads_fault, some_left}
use Rattle.trio_text.proofs.lexer.tokens.Goals as goal

pub loop-lexer-init : goal.loop-lexer-init
loop-lexer-init c =
    subst (λ (ts : List Token). ReadsTokens 0 1 c.args.text.now ts 0 1 c.args.text.now) (sym c.new-found.ensures) (reads_none 0 1 c.args.text.now)

pub returns-in_err-token : goal.returns-in_err-token
returns-in_err-token c =
    reads_fault _ _ _ _ _ _ _ _ c.in_err-token.field-0.0 c.loop-lexer.invariant (some_left _ (sym c.is_empty.ensures ∙ c.loop-lexer-test.true)) c.if-not-skips.ensures.none
    c.if-not-skips.ensures.stays.0 c.if-not-skips.ensures.stays.1 c.in_err-token.ensures.read c.from_residual.ensures.1

pub loop-lexer-smaller-else-is_err : goal.loop-lexer-smaller-else-is_err
loop-lexer-smaller-else-is_err c =
    omega (arith, c.in_ok-token.ensures.shorter, ap length c.if-not-skips.ensures.stays.0)

pub loop-lexer-preserved-else-is_err : goal.loop-lexer-preserved-else-is_err
loop-lexer-preserved-else-is_err c =
    subst (λ (ts : List Token). ReadsTokens 0 1 c.args.text.now ts c.token.new.self.place (c.token.new.self.newlines + 1) c.token.new.self.rest.now) (sym (no_error c.push.result c.if-is_err.ensures.value c.push.ensures.ok))
    (reads_next _ _ _ _ _ _ _ _ _ _ _ _ c.loop-lexer.invariant c.if-not-skips.ensures.stays c.in_ok-token.ensures.read)

pub loop-lexer-preserved : goal.loop-lexer-preserved
loop-lexer-preserved c = reads_past _ _ _ _ _ _ _ _ _ _ c.loop-lexer.invariant c.if-not-skips.ensures.skipped

pub returns : goal.returns
returns c = reads_all _ _ _ _ _ c.loop-lexer.invariant (all_read _ c.loop-lexer-test.ensures)
