-- The loops over arguments and over parts have printed those before this place.
use Rattle.std.proofs.Common.{map, take}
use Rattle.trio_print.specs.Canonical.{joined_pieces, comma, sum_text, term_plain}
use Rattle.trio_print.specs.Printing.{Prints, text_of_part}
use Rattle.trio_print.proofs.printer.Printer.+terms.Given as goal

abbrev pub invariant-sum-loop-place : goal.invariant-sum-loop-place
invariant-sum-loop-place l = Prints (λ parts. sum_text (map (text_of_part parts) (take l.place l.parts))) l.fn.self l.self

abbrev pub invariant-terms-loop-place : goal.invariant-terms-loop-place
invariant-terms-loop-place l = Prints (λ parts names. joined_pieces comma (map (λ x. term_plain parts x names) (take l.place l.terms))) l.fn.self l.self
