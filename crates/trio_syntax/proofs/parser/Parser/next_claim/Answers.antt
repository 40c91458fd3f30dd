-- At each exit: the next axiom or goal, where one begins.
use Rattle.std.proofs.Common.{refl}
use Rattle.trio_syntax.specs.Grammar.{claim_rest, claim}
use Rattle.trio_syntax.proofs.Left.{left_read, left_stuck, left_seq, reads_one, fronts_taken}
use Rattle.trio_syntax.proofs.Exits.{passed_next}
use Rattle.trio_syntax.proofs.parser.Parser.next_claim.Goals as goal

pub returns-in_err-name : goal.returns-in_err-name
returns-in_err-name c =
    passed_next claim claim_rest _ _ _ _ _ c.from_residual.ensures.1 c.in_err-name.ensures (fronts_taken c.in-Some.ensures)
    (λ stuck. left_stuck (left_seq refl (reads_one c.in-Some.ensures)) stuck)

pub returns : goal.returns
returns c =
    (fronts_taken c.in-Some.ensures, left_read (left_seq refl (reads_one c.in-Some.ensures)) c.in_ok-name.ensures)
