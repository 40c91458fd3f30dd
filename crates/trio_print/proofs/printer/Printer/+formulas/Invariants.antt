-- The loop over parts has printed those before this place.
use Rattle.std.proofs.Common.{map, take}
use Rattle.trio_print.specs.Canonical.{joined_pieces, spaced, text_of_formula}
use Rattle.trio_print.specs.Printing.{Prints}
use Rattle.trio_print.proofs.printer.Printer.+formulas.Given as goal

abbrev pub invariant-groups-loop-place : goal.invariant-groups-loop-place
invariant-groups-loop-place l =
    Prints (λ parts names. joined_pieces (spaced l.symbol) (map (λ f. (text_of_formula parts f).grouped names) (take l.place l.formulas))) l.fn.self l.self
