-- At each exit: the only atom, or where none goes on.
use Rattle.std.proofs.Common.{refl, Some}
use Rattle.trio_syntax.specs.Forms.{relation, row, term, seq}
use Rattle.trio_syntax.specs.Grammar.{a, optional, atom}
use Rattle.trio_syntax.proofs.Left.{left_read, left_stuck, left_right, left_first, left_seq, seq_stuck, reads_one, reads_empty, fronts_taken}
use Rattle.trio_syntax.proofs.Filled.{fill}
use Rattle.trio_syntax.proofs.Exits.{passed_on}
use Rattle.trio_syntax.proofs.parser.Parser.atom.Goals as goal

pub returns-in_err-left : goal.returns-in_err-left
returns-in_err-left c =
    passed_on atom (row term) _ _ _ _ _ c.from_residual.ensures.1 c.in_err-left.ensures
    (λ stuck. seq_stuck (fill (optional (seq (a relation) (row term) (λ p r t. Some (r, p, t))))) refl stuck)

pub returns-in_default : goal.returns-in_default
returns-in_default c =
    left_read (left_seq refl c.in_ok-left.ensures) (left_read (left_right refl c.in_default.ensures) reads_empty)

pub returns-in_err-right : goal.returns-in_err-right
returns-in_err-right c =
    passed_on atom (row term) _ _ _ _ _ c.from_residual-in_err-right.ensures.1 c.in_err-right.ensures
    (λ stuck. left_stuck (left_seq refl c.in_ok-left.ensures) (left_stuck (left_first refl (fronts_taken c.in-Some.ensures)) (left_stuck (left_seq refl (reads_one c.in-Some.ensures)) (stuck))))

pub returns : goal.returns
returns c =
    left_read (left_seq refl c.in_ok-left.ensures) (left_read (left_first refl (fronts_taken c.in-Some.ensures)) (left_read (left_seq refl (reads_one c.in-Some.ensures)) (c.in_ok-right.ensures)))
