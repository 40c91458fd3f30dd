-- Those before this place are printed.
use Rattle.std.proofs.Common.{take, flat_map}
use Rattle.trio_print.specs.Canonical.{claim_text}
use Rattle.trio_print.specs.Printing.{Prints}
use Rattle.trio_print.proofs.printer.Printer.claims.Given as goal

abbrev pub invariant-loop-claim : goal.invariant-loop-claim
invariant-loop-claim l = Prints (λ parts names. flat_map (claim_text parts l.is_goal) (take l.claim-index l.claims)) l.fn.self l.self
