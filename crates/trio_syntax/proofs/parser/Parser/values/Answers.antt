-- At each exit: the only values of a domain, or where none go on.
use Rattle.std.proofs.Common.{refl}
use Rattle.trio_text.specs.declared.token.Symbol.TheVariants as signs
use Rattle.trio_syntax.specs.Grammar.{a_sign, a_name, behind_sign, listed, int, domain_values}
use Rattle.trio_syntax.proofs.Left.{left_read, left_stuck, left_right, left_first, left_seq, seq_stuck, reads_one, fronts_taken}
use Rattle.trio_syntax.proofs.Filled.{fill}
use Rattle.trio_syntax.proofs.Exits.{passed_on}
use Rattle.trio_syntax.proofs.parser.Parser.values.Goals as goal

pub returns-in_err-names : goal.returns-in_err-names
returns-in_err-names c =
    passed_on domain_values (listed signs.Comma a_name) _ _ _ _ _ c.from_residual.ensures.1 c.in_err-names.ensures
    (λ stuck. left_stuck (left_first refl (fronts_taken c.if-takes_sign.ensures.taken)) (left_stuck (left_seq refl (reads_one c.if-takes_sign.ensures.taken)) (seq_stuck (fill (a_sign signs.RightBrace)) refl stuck)))

pub returns-in_err-sign : goal.returns-in_err-sign
returns-in_err-sign c =
    passed_on domain_values (a_sign signs.RightBrace) _ _ _ _ _ c.from_residual-in_err-sign.ensures.1 c.in_err-sign.ensures
    (λ stuck. left_stuck (left_first refl (fronts_taken c.if-takes_sign.ensures.taken)) (left_stuck (left_seq refl (reads_one c.if-takes_sign.ensures.taken)) (left_stuck (left_seq refl c.in_ok-names.ensures) (stuck))))

pub returns-then-takes_sign : goal.returns-then-takes_sign
returns-then-takes_sign c =
    left_read (left_first refl (fronts_taken c.if-takes_sign.ensures.taken)) (left_read (left_seq refl (reads_one c.if-takes_sign.ensures.taken)) (left_read (left_seq refl c.in_ok-names.ensures) (c.in_ok-sign.ensures)))

pub returns-in_err-least : goal.returns-in_err-least
returns-in_err-least c =
    passed_on domain_values int _ _ _ _ _ c.from_residual-in_err-least.ensures.1 c.in_err-least.ensures
    (λ stuck. left_stuck (left_right refl c.if-takes_sign.ensures.left) (seq_stuck (fill (behind_sign signs.Span int)) refl stuck))

pub returns-in_err-sign-2 : goal.returns-in_err-sign-2
returns-in_err-sign-2 c =
    passed_on domain_values (a_sign signs.Span) _ _ _ _ _ c.from_residual-in_err-sign-2.ensures.1 c.in_err-sign-2.ensures
    (λ stuck. left_stuck (left_right refl c.if-takes_sign.ensures.left) (left_stuck (left_seq refl c.in_ok-least.ensures) (seq_stuck (fill int) refl stuck)))

pub returns-in_err-greatest : goal.returns-in_err-greatest
returns-in_err-greatest c =
    passed_on domain_values int _ _ _ _ _ c.from_residual-in_err-greatest.ensures.1 c.in_err-greatest.ensures
    (λ stuck. left_stuck (left_right refl c.if-takes_sign.ensures.left) (left_stuck (left_seq refl c.in_ok-least.ensures) (left_stuck (left_seq refl c.in_ok-sign-2.ensures) (stuck))))

pub returns : goal.returns
returns c =
    left_read (left_right refl c.if-takes_sign.ensures.left) (left_read (left_seq refl c.in_ok-least.ensures) (left_read (left_seq refl c.in_ok-sign-2.ensures) (c.in_ok-greatest.ensures)))
