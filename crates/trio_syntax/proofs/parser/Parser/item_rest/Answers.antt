-- At each exit: the only rest of an item, or where none goes on.
use Rattle.std.proofs.Common.{refl}
use Rattle.trio_text.specs.declared.token.Symbol.TheVariants as signs
use Rattle.trio_syntax.specs.Grammar.{a_sign, a_name, behind_sign, before_sign, both, ref, refs, item_rest}
use Rattle.trio_syntax.proofs.Left.{left_read, left_stuck, left_seq, seq_stuck}
use Rattle.trio_syntax.proofs.Filled.{fill}
use Rattle.trio_syntax.proofs.Exits.{passed_on}
use Rattle.trio_syntax.proofs.parser.Parser.item_rest.Goals as goal

pub returns-in_err-name : goal.returns-in_err-name
returns-in_err-name c =
    passed_on item_rest a_name _ _ _ _ _ c.from_residual.ensures.1 c.in_err-name.ensures
    (λ stuck. seq_stuck (fill (both refs (behind_sign signs.Colon (before_sign ref signs.Semi)))) refl stuck)

pub returns-in_err-args : goal.returns-in_err-args
returns-in_err-args c =
    passed_on item_rest refs _ _ _ _ _ c.from_residual-in_err-args.ensures.1 c.in_err-args.ensures
    (λ stuck. left_stuck (left_seq refl c.in_ok-name.ensures) (seq_stuck (fill (behind_sign signs.Colon (before_sign ref signs.Semi))) refl stuck))

pub returns-in_err-sign : goal.returns-in_err-sign
returns-in_err-sign c =
    passed_on item_rest (a_sign signs.Colon) _ _ _ _ _ c.from_residual-in_err-sign.ensures.1 c.in_err-sign.ensures
    (λ stuck. left_stuck (left_seq refl c.in_ok-name.ensures) (left_stuck (left_seq refl c.in_ok-args.ensures) (seq_stuck (fill (before_sign ref signs.Semi)) refl stuck)))

pub returns-in_err-value : goal.returns-in_err-value
returns-in_err-value c =
    passed_on item_rest ref _ _ _ _ _ c.from_residual-in_err-value.ensures.1 c.in_err-value.ensures
    (λ stuck. left_stuck (left_seq refl c.in_ok-name.ensures) (left_stuck (left_seq refl c.in_ok-args.ensures) (left_stuck (left_seq refl c.in_ok-sign.ensures) (seq_stuck (fill (a_sign signs.Semi)) refl stuck))))

pub returns-in_err-sign-2 : goal.returns-in_err-sign-2
returns-in_err-sign-2 c =
    passed_on item_rest (a_sign signs.Semi) _ _ _ _ _ c.from_residual-in_err-sign-2.ensures.1 c.in_err-sign-2.ensures
    (λ stuck. left_stuck (left_seq refl c.in_ok-name.ensures) (left_stuck (left_seq refl c.in_ok-args.ensures) (left_stuck (left_seq refl c.in_ok-sign.ensures) (left_stuck (left_seq refl c.in_ok-value.ensures) (stuck)))))

pub returns : goal.returns
returns c =
    left_read (left_seq refl c.in_ok-name.ensures) (left_read (left_seq refl c.in_ok-args.ensures) (left_read (left_seq refl c.in_ok-sign.ensures) (left_read (left_seq refl c.in_ok-value.ensures) (c.in_ok-sign-2.ensures))))
