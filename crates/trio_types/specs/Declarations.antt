-- What declarations speak of.
use Rattle.trio_types.specs.declared.spec.Declarations.{Declarations}
use Rattle.trio_types.specs.World.{World}
use Rattle.trio_types.specs.Parts.{Parts, declarations_of}

abbrev pub declared_world : Declarations → World
declared_world declared = record { instants = declared.instants; domains = declared.domains.now; items = declared.items.now }

abbrev pub declared_parts : Declarations → Parts
declared_parts declared = declarations_of (declared_world declared)
