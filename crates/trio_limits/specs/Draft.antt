-- The parts of a specification that code has put together.
use Rattle.trio_types.specs.Parts.{Parts}
use Rattle.trio_limits.specs.declared.draft.Draft.{Draft}

abbrev pub parts_of_draft : Draft → Parts
parts_of_draft draft = record { instants = draft.instants; domains = draft.domains; items = draft.items; axioms = draft.axioms; goals = draft.goals }
