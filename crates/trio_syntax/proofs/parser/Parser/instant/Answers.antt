-- At each exit: the only instant or none, or where it does not go on.
use Rattle.std.proofs.Common.{refl}
use Rattle.trio_syntax.specs.Grammar.{a_number, instant}
use Rattle.trio_syntax.proofs.Left.{left_read, left_stuck, left_right, left_first, left_seq, reads_one, reads_empty, fronts_taken}
use Rattle.trio_syntax.proofs.Exits.{passed_on}
use Rattle.trio_syntax.proofs.parser.Parser.instant.Goals as goal

pub returns-then-not-takes_word : goal.returns-then-not-takes_word
returns-then-not-takes_word c =
    left_read (left_right refl c.if-not-takes_word.ensures.left) reads_empty

pub returns-in_err-number : goal.returns-in_err-number
returns-in_err-number c =
    passed_on instant a_number _ _ _ _ _ c.from_residual.ensures.1 c.in_err-number.ensures
    (λ stuck. left_stuck (left_first refl (fronts_taken c.if-not-takes_word.ensures.taken)) (left_stuck (left_seq refl (reads_one c.if-not-takes_word.ensures.taken)) (stuck)))

pub returns : goal.returns
returns c =
    left_read (left_first refl (fronts_taken c.if-not-takes_word.ensures.taken)) (left_read (left_seq refl (reads_one c.if-not-takes_word.ensures.taken)) (c.in_ok-number.ensures))
