-- The parts of a specification, well formed or not, so that one over its limits can be spoken of.
use Rattle.std.specs.Prelude.{ℕ, List, [], ◌++◌}
use Rattle.trio_types.specs.declared.spec.Domain.{Domain}
use Rattle.trio_types.specs.declared.spec.Item.{Item}
use Rattle.trio_types.specs.declared.spec.Axiom.{Axiom}
use Rattle.trio_types.specs.World.{World}

pub record Parts : Type 0 where
  pub instants : ℕ
  pub domains : List Domain
  pub items : List Item
  pub axioms : List Axiom
  pub goals : List Axiom

-- what its formulas speak of
abbrev pub world_of_parts : Parts → World
world_of_parts parts = record { instants = parts.instants; domains = parts.domains; items = parts.items }

-- its axioms, and its goals behind them
abbrev pub claims_of : Parts → List Axiom
claims_of parts = parts.axioms ++ parts.goals

-- the instants, domains and items alone, as a specification without axioms and goals
abbrev pub declarations_of : World → Parts
declarations_of world = record { instants = world.instants; domains = world.domains; items = world.items; axioms = []; goals = [] }
