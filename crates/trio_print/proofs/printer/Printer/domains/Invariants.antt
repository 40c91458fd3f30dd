-- Those before this place are printed.
use Rattle.std.proofs.Common.{take, flat_map}
use Rattle.trio_print.specs.Canonical.{domain_text}
use Rattle.trio_print.specs.Printing.{Prints}
use Rattle.trio_print.proofs.printer.Printer.domains.Given as goal

abbrev pub invariant-loop-domain : goal.invariant-loop-domain
invariant-loop-domain l = Prints (λ parts names. flat_map domain_text (take l.domain-index l.domains)) l.fn.self l.self
