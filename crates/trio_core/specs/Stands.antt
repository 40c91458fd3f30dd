-- The truth of a core, when a core stands for a specification, and which nodes may be asked for.
use Rattle.std.specs.Prelude.{◌≡◌, ℕ, ◌<◌, ℤ, Bool, true, false, ◌&&◌, ◌==◌, nat_le, int_le, List, [], ◌∷◌, Option, None, Some, length, slice_get}
use Rattle.std.specs.List.{list_all}
use Rattle.trio_types.specs.declared.spec.Axiom.{Axiom}
use Rattle.trio_types.specs.declared.spec.Spec.{Spec}
use Rattle.trio_types.specs.World.{World}
use Rattle.trio_types.specs.Truth.{truth}
use Rattle.trio_types.specs.Verdict.{instants_asked}
use Rattle.trio_core.specs.declared.nodes.Node.{Node}
use Rattle.trio_core.specs.declared.nodes.Node.TheVariants as node
use Rattle.trio_core.specs.declared.nodes.Root.{Root}
use Rattle.trio_core.specs.declared.nodes.Core.{Core}
use Rattle.trio_core.specs.declared.nodes.Three.{Three}
use Rattle.trio_core.specs.Core.{numbers, core_truth}
use Rattle.trio_core.specs.CoreShape.{CoreParts, world_of_core_parts, Ranges, ranges_round}
use Rattle.trio_core.specs.Three.{core_truth3, all3}

abbrev pub parts_of_core : Core → CoreParts
parts_of_core core = record { instants = core.instants; domains = core.domains; items = core.items; nodes = core.nodes; roots = core.roots }

-- what a core's nodes speak of
abbrev pub world_of_core : Core → World
world_of_core core = world_of_core_parts (parts_of_core core)

-- a root is true at each of its instants
abbrev pub root_truth : Core → List ℕ → Root → Bool
root_truth core table root =
    list_all (λ i. core_truth (world_of_core core) core.nodes root.node [] table i) (instants_asked (world_of_core core) root.at)

-- every root is
abbrev pub is_core_true_in : Core → List ℕ → Bool
is_core_true_in core table = list_all (root_truth core table) core.roots

-- the three-valued truth of a root under sets: the conjunction over its instants
abbrev pub root_truth3 : Core → List ℕ → Root → Three
root_truth3 core sets root =
    all3 (λ i. core_truth3 (world_of_core core) core.nodes root.node 0 [] sets i) (instants_asked (world_of_core core) root.at)

-- and of a core: the conjunction over its roots
abbrev pub spec_truth3 : Core → List ℕ → Three
spec_truth3 core sets = all3 (root_truth3 core sets) core.roots

-- a root stands for an axiom: it asks at the same instants, and under every table and at every instant it is true exactly where the axiom is
pub record RootStandsFor (world : World) (nodes : List Node) (root : Root) (claim : Axiom) : Type 0 where
  pub at : root.at ≡ claim.at
  pub same : (table : List ℕ) (i : ℕ) → i < world.instants → core_truth world nodes root.node [] table i ≡ truth world claim.formula [] table i

-- a core stands for a specification: it has its instants, domains and items, and a root for each axiom, in order
pub record StandsFor (core : Core) (spec : Spec) : Type 0 where
  pub instants : core.instants ≡ spec.instants
  pub domains : core.domains ≡ spec.domains
  pub items : core.items ≡ spec.items
  pub as_many : length core.roots ≡ length spec.axioms
  pub each : (k : ℕ) (root : Root) (claim : Axiom) → slice_get core.roots k ≡ Some root → slice_get spec.axioms k ≡ Some claim →
      RootStandsFor (world_of_core core) core.nodes root claim

-- each value is one of its range
abbrev pub lie_in : List ℤ → Ranges → Bool
lie_in [] [] = true
lie_in (z ∷ zs) (r ∷ rs) = (int_le r.low z && int_le z r.high) && lie_in zs rs
lie_in zs rs = false

-- an index up to the number of values of an Exists, and 0 for another node
abbrev pub from_fits : ℕ → Option Node → Bool
from_fits from None = false
from_fits from (Some (node.Exists low high a)) = nat_le from (length (numbers low high))
from_fits from (Some n) = from == 0

-- a node of the core may be asked for, from an index, at an instant, under these values of the variables
pub record NodeAsked (core : Core) (a from i : ℕ) (values : List ℤ) : Type 0 where
  pub inside : i < core.instants
  pub from_in : from_fits from (slice_get core.nodes a) ≡ true
  pub values_in : lie_in values (ranges_round core.nodes a) ≡ true
