-- Lines that are written in pieces.
use Rattle.std.proofs.Common.{◌≡◌, ℕ, List, [], ◌++◌, Result, codes, decimal, subst, arith}
use Rattle.std.proofs.lemmas.Grind.{common_steps}
use Rattle.trio_io.specs.Outside.{SinkView, Wrote}
use Rattle.trio_io.specs.declared.sink.SinkFault.{SinkFault}
use Rattle.trio_jobs.specs.Message.{numbered}

five : (a b c d e : List ℕ) → a ++ (b ++ (c ++ (d ++ (e ++ [])))) ≡ a ++ b ++ c ++ d ++ e
five a b c d e = grind (arith, common_steps)

pub value_pieces : (old new : SinkView) (r : Result (Unit {0}) SinkFault) (line column : List ℕ) (l k : ℕ) → line ≡ decimal l →
    column ≡ decimal k →
    Wrote old new (codes "refused history value " ++ (line ++ (codes " " ++ (column ++ (codes "\n" ++ []))))) r →
    Wrote old new (numbered (codes "refused history value " ++ decimal l ++ codes " ") k) r
value_pieces old new r line column l k is also wrote =
    subst (λ text. Wrote old new text r) (five (codes "refused history value ") (decimal l) (codes " ") (decimal k) (codes "\n"))
    (rw (is, also) at wrote)
