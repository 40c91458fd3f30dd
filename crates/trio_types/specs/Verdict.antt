-- The truth of a specification in a table, and its first false axiom and instant.
use Rattle.std.specs.Prelude.{ℕ, Bool, not, List, [], ◌∷◌, Option, None, Some, map, find}
use Rattle.std.specs.List.{list_all, enumerate_from, flat_map}
use Rattle.std.specs.Option.{option_map}
use Rattle.trio_types.specs.declared.spec.Axiom.{Axiom}
use Rattle.trio_types.specs.declared.spec.Spec.{Spec}
use Rattle.trio_types.specs.World.{World, instants_of}
use Rattle.trio_types.specs.Parts.{Parts, world_of_parts}
use Rattle.trio_types.specs.Truth.{truth}

abbrev pub parts_of : Spec → Parts
parts_of spec = record { instants = spec.instants; domains = spec.domains; items = spec.items; axioms = spec.axioms; goals = spec.goals }

abbrev pub world_of : Spec → World
world_of spec = world_of_parts (parts_of spec)

-- that an axiom, by its number, holds at an instant
pub record Demand : Type 0 where
  pub number : ℕ
  pub axiom_ : Axiom
  pub instant : ℕ

-- the instants at which an axiom has to hold
abbrev pub instants_asked : World → Option ℕ → List ℕ
instants_asked world None = instants_of world
instants_asked world (Some k) = k ∷ []

abbrev pub demands_of_axiom : World → ℕ → Axiom → List Demand
demands_of_axiom world number a =
    map (λ i. record { number = number; axiom_ = a; instant = i }) (instants_asked world a.at)

-- all that the axioms demand, axiom after axiom, each at its instants in order
unfoldable pub demands_of : Spec → List Demand
demands_of spec = flat_map (λ p. demands_of_axiom (world_of spec) p.0 p.1) (enumerate_from 0 spec.axioms)

abbrev pub is_met : Spec → List ℕ → Demand → Bool
is_met spec table demand = truth (world_of spec) demand.axiom_.formula [] table demand.instant

-- every axiom is true at each of its instants
abbrev pub is_true_in : Spec → List ℕ → Bool
is_true_in spec table = list_all (is_met spec table) (demands_of spec)

-- the number of the first axiom that is false at one of its instants, and the first such instant
abbrev pub first_false : Spec → List ℕ → Option (ℕ × ℕ)
first_false spec table =
    option_map (λ demand. (demand.number, demand.instant)) (find (λ demand. not (is_met spec table demand)) (demands_of spec))
