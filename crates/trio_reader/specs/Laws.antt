-- What texts and specifications have to do with each other.
use Rattle.std.specs.Prelude.{◌≡◌, ◌⊎◌, ℕ, List}
use Rattle.trio_types.specs.declared.spec.Spec.{Spec}
use Rattle.trio_types.specs.Verdict.{parts_of}
use Rattle.trio_reader.specs.declared.fault.SpecFault.{SpecFault}
use Rattle.trio_reader.specs.Reading.{IsSpecText, HasFault}

-- a text is one specification at most
abbrev pub OneSpecification : Type 0
OneSpecification = (text : List ℕ) (a b : Spec) → IsSpecText text a → IsSpecText text b → parts_of a ≡ parts_of b

-- a text has one first fault at most
abbrev pub OneFault : Type 0
OneFault = (text : List ℕ) (f g : SpecFault) → HasFault text f → HasFault text g → f ≡ g

-- a text with a fault is no specification
abbrev pub FaultyIsNone : Type 0
FaultyIsNone = (text : List ℕ) (f : SpecFault) (spec : Spec) → HasFault text f → IsSpecText text spec → ⊥

-- a text is a specification or has a fault
abbrev pub SpecificationOrFault : Type 0
SpecificationOrFault =
    (text : List ℕ) → ((spec : Spec) × IsSpecText text spec) ⊎ ((f : SpecFault) × HasFault text f)
