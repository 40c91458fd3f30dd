-- At each exit: the only parameters, or where none go on.
use Rattle.std.proofs.Common.{refl}
use Rattle.trio_text.specs.declared.token.Symbol.TheVariants as signs
use Rattle.trio_syntax.specs.Grammar.{a_sign, listed, ref, refs}
use Rattle.trio_syntax.proofs.Left.{left_read, left_stuck, left_right, left_first, left_seq, seq_stuck, reads_one, reads_empty, fronts_taken}
use Rattle.trio_syntax.proofs.Filled.{fill}
use Rattle.trio_syntax.proofs.Exits.{passed_on, reads_as}
use Rattle.trio_syntax.proofs.parser.Parser.parameters.Goals as goal

pub returns-then-not-takes_sign : goal.returns-then-not-takes_sign
returns-then-not-takes_sign c =
    reads_as c.new.ensures (left_read (left_right refl c.if-not-takes_sign.ensures.left) reads_empty)

pub returns-in_err-ranges : goal.returns-in_err-ranges
returns-in_err-ranges c =
    passed_on refs (listed signs.Comma ref) _ _ _ _ _ c.from_residual.ensures.1 c.in_err-ranges.ensures
    (λ stuck. left_stuck (left_first refl (fronts_taken c.if-not-takes_sign.ensures.taken)) (left_stuck (left_seq refl (reads_one c.if-not-takes_sign.ensures.taken)) (seq_stuck (fill (a_sign signs.RightRound)) refl stuck)))

pub returns-in_err-sign : goal.returns-in_err-sign
returns-in_err-sign c =
    passed_on refs (a_sign signs.RightRound) _ _ _ _ _ c.from_residual-in_err-sign.ensures.1 c.in_err-sign.ensures
    (λ stuck. left_stuck (left_first refl (fronts_taken c.if-not-takes_sign.ensures.taken)) (left_stuck (left_seq refl (reads_one c.if-not-takes_sign.ensures.taken)) (left_stuck (left_seq refl c.in_ok-ranges.ensures) (stuck))))

pub returns : goal.returns
returns c =
    left_read (left_first refl (fronts_taken c.if-not-takes_sign.ensures.taken)) (left_read (left_seq refl (reads_one c.if-not-takes_sign.ensures.taken)) (left_read (left_seq refl c.in_ok-ranges.ensures) (c.in_ok-sign.ensures)))
