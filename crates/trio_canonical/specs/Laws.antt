-- What the canonical text of a specification is read as.
use Rattle.std.specs.Prelude.{◌≡◌, ℕ, List}
use Rattle.trio_types.specs.declared.spec.Spec.{Spec}
use Rattle.trio_types.specs.Verdict.{parts_of}
use Rattle.trio_print.specs.Pieces.{pieces_text}
use Rattle.trio_print.specs.Canonical.{spec_pieces}
use Rattle.trio_reader.specs.Reading.{IsSpecText}

-- the canonical text
abbrev pub canonical_text : Spec → List ℕ
canonical_text spec = pieces_text (spec_pieces (parts_of spec))

-- the canonical text of the specification is that specification and no other
pub record IsOnlyReading (spec : Spec) : Type 0 where
  pub reading : IsSpecText (canonical_text spec) spec
  pub only : (other : Spec) → IsSpecText (canonical_text spec) other → parts_of other ≡ parts_of spec

abbrev pub CanonicalTextLaw : Type 0
CanonicalTextLaw = (spec : Spec) → IsOnlyReading spec
