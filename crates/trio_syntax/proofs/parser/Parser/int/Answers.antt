-- At each exit: the only number with its sign, or where none goes on.
use Rattle.std.proofs.Common.{refl}
use Rattle.trio_syntax.specs.Grammar.{a_number, int}
use Rattle.trio_syntax.proofs.Left.{left_read, left_stuck, left_seq}
use Rattle.trio_syntax.proofs.Exits.{passed_on, reads_signed}
use Rattle.trio_syntax.proofs.parser.Parser.int.Goals as goal

pub returns-in_err-number : goal.returns-in_err-number
returns-in_err-number c =
    passed_on int a_number _ _ _ _ _ c.from_residual.ensures.1 c.in_err-number.ensures
    (λ stuck. left_stuck (left_seq refl (reads_signed c.takes_sign-minus.result c.takes_sign-minus.ensures.taken c.takes_sign-minus.ensures.left)) (stuck))

pub returns : goal.returns
returns c =
    left_read (left_seq refl (reads_signed c.takes_sign-minus.result c.takes_sign-minus.ensures.taken c.takes_sign-minus.ensures.left)) (c.in_ok-number.ensures)
