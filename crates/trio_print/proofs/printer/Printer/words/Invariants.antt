-- Those before this place are printed.
use Rattle.std.proofs.Common.{map, take}
use Rattle.trio_print.specs.Canonical.{joined_pieces, comma, name_}
use Rattle.trio_print.specs.Printing.{Prints}
use Rattle.trio_print.proofs.printer.Printer.words.Given as goal

abbrev pub invariant-loop-place : goal.invariant-loop-place
invariant-loop-place l = Prints (λ parts names. joined_pieces comma (map name_ (take l.place l.words))) l.fn.self l.self
