-- At each exit: the only rest of an axiom or a goal, or where none goes on.
use Rattle.std.proofs.Common.{refl}
use Rattle.trio_text.specs.declared.token.Symbol.TheVariants as signs
use Rattle.trio_syntax.specs.Forms.{row, formula}
use Rattle.trio_syntax.specs.Grammar.{a_sign, a_name, behind_sign, before_sign, both, instant, claim_rest}
use Rattle.trio_syntax.proofs.Left.{left_read, left_stuck, left_seq, seq_stuck}
use Rattle.trio_syntax.proofs.Filled.{fill}
use Rattle.trio_syntax.proofs.Exits.{passed_on}
use Rattle.trio_syntax.proofs.parser.Parser.claim_rest.Goals as goal

pub returns-in_err-name : goal.returns-in_err-name
returns-in_err-name c =
    passed_on claim_rest a_name _ _ _ _ _ c.from_residual.ensures.1 c.in_err-name.ensures
    (λ stuck. seq_stuck (fill (both instant (behind_sign signs.Colon (before_sign (row formula) signs.Semi)))) refl stuck)

pub returns-in_err-at : goal.returns-in_err-at
returns-in_err-at c =
    passed_on claim_rest instant _ _ _ _ _ c.from_residual-in_err-at.ensures.1 c.in_err-at.ensures
    (λ stuck. left_stuck (left_seq refl c.in_ok-name.ensures) (seq_stuck (fill (behind_sign signs.Colon (before_sign (row formula) signs.Semi))) refl stuck))

pub returns-in_err-sign : goal.returns-in_err-sign
returns-in_err-sign c =
    passed_on claim_rest (a_sign signs.Colon) _ _ _ _ _ c.from_residual-in_err-sign.ensures.1 c.in_err-sign.ensures
    (λ stuck. left_stuck (left_seq refl c.in_ok-name.ensures) (left_stuck (left_seq refl c.in_ok-at.ensures) (seq_stuck (fill (before_sign (row formula) signs.Semi)) refl stuck)))

pub returns-in_err-formula : goal.returns-in_err-formula
returns-in_err-formula c =
    passed_on claim_rest (before_sign (row formula) signs.Semi) _ _ _ _ _ c.from_residual-in_err-formula.ensures.1 c.in_err-formula.ensures
    (λ stuck. left_stuck (left_seq refl c.in_ok-name.ensures) (left_stuck (left_seq refl c.in_ok-at.ensures) (left_stuck (left_seq refl c.in_ok-sign.ensures) (stuck))))

pub returns : goal.returns
returns c =
    left_read (left_seq refl c.in_ok-name.ensures) (left_read (left_seq refl c.in_ok-at.ensures) (left_read (left_seq refl c.in_ok-sign.ensures) (c.in_ok-formula.ensures)))
