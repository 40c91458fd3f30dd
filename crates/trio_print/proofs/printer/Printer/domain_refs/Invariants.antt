-- Those before this place are printed.
use Rattle.std.proofs.Common.{map, take}
use Rattle.trio_print.specs.Canonical.{joined_pieces, comma, ref_pieces}
use Rattle.trio_print.specs.Printing.{Prints}
use Rattle.trio_print.proofs.printer.Printer.domain_refs.Given as goal

abbrev pub invariant-loop-place : goal.invariant-loop-place
invariant-loop-place l = Prints (λ parts names. joined_pieces comma (map (ref_pieces parts) (take l.place l.domains))) l.fn.self l.self
