-- At each exit: the only rest of a domain, or where none goes on.
use Rattle.std.proofs.Common.{refl}
use Rattle.trio_text.specs.declared.token.Symbol.TheVariants as signs
use Rattle.trio_syntax.specs.Grammar.{a_sign, a_name, behind_sign, before_sign, domain_values, domain_rest}
use Rattle.trio_syntax.proofs.Left.{left_read, left_stuck, left_seq, seq_stuck}
use Rattle.trio_syntax.proofs.Filled.{fill}
use Rattle.trio_syntax.proofs.Exits.{passed_on}
use Rattle.trio_syntax.proofs.parser.Parser.domain_rest.Goals as goal

pub returns-in_err-name : goal.returns-in_err-name
returns-in_err-name c =
    passed_on domain_rest a_name _ _ _ _ _ c.from_residual.ensures.1 c.in_err-name.ensures
    (λ stuck. seq_stuck (fill (behind_sign signs.Eq (before_sign domain_values signs.Semi))) refl stuck)

pub returns-in_err-sign : goal.returns-in_err-sign
returns-in_err-sign c =
    passed_on domain_rest (a_sign signs.Eq) _ _ _ _ _ c.from_residual-in_err-sign.ensures.1 c.in_err-sign.ensures
    (λ stuck. left_stuck (left_seq refl c.in_ok-name.ensures) (seq_stuck (fill (before_sign domain_values signs.Semi)) refl stuck))

pub returns-in_err-values : goal.returns-in_err-values
returns-in_err-values c =
    passed_on domain_rest domain_values _ _ _ _ _ c.from_residual-in_err-values.ensures.1 c.in_err-values.ensures
    (λ stuck. left_stuck (left_seq refl c.in_ok-name.ensures) (left_stuck (left_seq refl c.in_ok-sign.ensures) (seq_stuck (fill (a_sign signs.Semi)) refl stuck)))

pub returns-in_err-sign-2 : goal.returns-in_err-sign-2
returns-in_err-sign-2 c =
    passed_on domain_rest (a_sign signs.Semi) _ _ _ _ _ c.from_residual-in_err-sign-2.ensures.1 c.in_err-sign-2.ensures
    (λ stuck. left_stuck (left_seq refl c.in_ok-name.ensures) (left_stuck (left_seq refl c.in_ok-sign.ensures) (left_stuck (left_seq refl c.in_ok-values.ensures) (stuck))))

pub returns : goal.returns
returns c =
    left_read (left_seq refl c.in_ok-name.ensures) (left_read (left_seq refl c.in_ok-sign.ensures) (left_read (left_seq refl c.in_ok-values.ensures) (c.in_ok-sign-2.ensures)))
