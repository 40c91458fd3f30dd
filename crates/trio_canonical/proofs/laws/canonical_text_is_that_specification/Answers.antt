-- The answers to the goals of `canonical_text_is_that_specification`.
use Rattle.trio_types.specs.Verdict.{parts_of}
use Rattle.trio_print.proofs.CanonicalSpaced.{canonical_spaced}
use Rattle.trio_canonical.specs.Laws.{canonical_text}
use Rattle.trio_canonical.proofs.ReadAgain.{canonical_reading}
use Rattle.trio_canonical.proofs.laws.canonical_text_is_that_specification.Goals as goal

pub returns : goal.returns
returns c spec =
    let reading = canonical_reading spec spec.well_formed (canonical_spaced (parts_of spec) spec.well_formed) in
    record { reading = reading; only = λ other read. c.text_has_one_specification.ensures (canonical_text spec) other spec read reading }
