-- The laws of three-valued truth, in words.
use Rattle.std.specs.Prelude.{◌≡◌, ℕ, ℤ, Bool, List}
use Rattle.trio_types.specs.World.{World}
use Rattle.trio_types.specs.declared.spec.Spec.{Spec}
use Rattle.trio_types.specs.Verdict.{is_true_in}
use Rattle.trio_core.specs.declared.nodes.Node.{Node}
use Rattle.trio_core.specs.declared.nodes.Core.{Core}
use Rattle.trio_core.specs.Core.{core_truth_from}
use Rattle.trio_core.specs.Sets.{LiesIn, Shrink, AreSingle}
use Rattle.trio_core.specs.Three.{sure, core_truth3}
use Rattle.trio_core.specs.Stands.{world_of_core, is_core_true_in, spec_truth3, StandsFor}

-- a decided value is the truth in every table that lies in the sets
abbrev pub TruthLaw : Type 0
TruthLaw = (w : World) (nodes : List Node) (sets table : List ℕ) → LiesIn w sets table → (a from : ℕ) (e : List ℤ) (i : ℕ) (b : Bool) →
    core_truth3 w nodes a from e sets i ≡ sure b → core_truth_from w nodes a from e table i ≡ b

abbrev pub WholeTruthLaw : Type 0
WholeTruthLaw = (core : Core) (sets table : List ℕ) → LiesIn (world_of_core core) sets table → (b : Bool) →
    spec_truth3 core sets ≡ sure b → is_core_true_in core table ≡ b

-- a decided value stays where sets shrink
abbrev pub ShrinkLaw : Type 0
ShrinkLaw = (w : World) (nodes : List Node) (sets less : List ℕ) → Shrink w sets less → (a from : ℕ) (e : List ℤ) (i : ℕ) (b : Bool) →
    core_truth3 w nodes a from e sets i ≡ sure b → core_truth3 w nodes a from e less i ≡ sure b

abbrev pub WholeShrinkLaw : Type 0
WholeShrinkLaw = (core : Core) (sets less : List ℕ) → Shrink (world_of_core core) sets less → (b : Bool) →
    spec_truth3 core sets ≡ sure b → spec_truth3 core less ≡ sure b

-- where every set has one member alone the value is decided
abbrev pub SingleSetsLaw : Type 0
SingleSetsLaw = (w : World) (nodes : List Node) (sets : List ℕ) → AreSingle w sets → (a from : ℕ) (e : List ℤ) (i : ℕ) →
    (b : Bool) × (core_truth3 w nodes a from e sets i ≡ sure b)

abbrev pub WholeSingleLaw : Type 0
WholeSingleLaw = (core : Core) (sets : List ℕ) → AreSingle (world_of_core core) sets → (b : Bool) × (spec_truth3 core sets ≡ sure b)

-- a core that stands for a specification is true in the tables that make the specification true
abbrev pub CoreStandsLaw : Type 0
CoreStandsLaw = (core : Core) (spec : Spec) → StandsFor core spec → (table : List ℕ) → is_core_true_in core table ≡ is_true_in spec table
