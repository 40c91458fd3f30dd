-- Those before this place are printed.
use Rattle.std.proofs.Common.{take, flat_map}
use Rattle.trio_print.specs.Canonical.{item_text}
use Rattle.trio_print.specs.Printing.{Prints}
use Rattle.trio_print.proofs.printer.Printer.items.Given as goal

abbrev pub invariant-loop-item : goal.invariant-loop-item
invariant-loop-item l = Prints (λ parts names. flat_map (item_text parts) (take l.item-index l.items)) l.fn.self l.self
