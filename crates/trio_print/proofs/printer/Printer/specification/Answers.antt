-- The statements behind one another are the whole text.
use Rattle.std.proofs.Common.{refl}
use Rattle.trio_print.specs.Canonical.{spec_pieces}
use Rattle.trio_print.proofs.Combining.{told_here, behind}
use Rattle.trio_print.proofs.printer.Printer.specification.Goals as goal

pub returns : goal.returns
unfolding spec_pieces
returns c =
    told_here {q = λ parts names. spec_pieces parts} (rw (c.other_domains.ensures, c.as_slice.ensures, c.as_slice-2.ensures, c.as_slice-3.ensures, c.as_slice-4.ensures) refl)
    (behind (behind (behind (behind c.in_ok-time.ensures c.in_ok-domains.ensures) c.in_ok-items.ensures) c.in_ok-claims.ensures) c.in_ok-claims-2.ensures)
