-- The laws of three-valued truth, of nodes and of whole cores.
use Rattle.std.proofs.Common.{◌≡◌, Bool, true, false, ℕ, ℤ, List, [], refl, sym, ◌∙◌}
use Rattle.trio_types.specs.World.{World}
use Rattle.trio_types.specs.Cells.{Cell, number_at}
use Rattle.trio_core.specs.declared.nodes.Core.{Core}
use Rattle.trio_core.specs.declared.nodes.Three.{Three}
use Rattle.trio_core.specs.Core.{core_truth, core_truth_from}
use Rattle.trio_core.specs.declared.nodes.Known.{Known}
use Rattle.trio_core.specs.Three.{known_of_option, known_at, sure, core_truth3_by, all3}
use Rattle.trio_core.specs.Stands.{world_of_core, root_truth, is_core_true_in}
use Rattle.trio_core.specs.declared.nodes.Root.{Root}
use Rattle.trio_types.specs.Verdict.{instants_asked}
use Rattle.trio_core.specs.Laws.{TruthLaw, WholeTruthLaw, ShrinkLaw, WholeShrinkLaw, SingleSetsLaw, WholeSingleLaw}
use Rattle.trio_core.proofs.Stays.{Stays, stays_all, MoreKnown}
use Rattle.trio_core.proofs.Sure.{IsKnown, sure_all}
use Rattle.trio_core.proofs.Nodes3.{decided_stays, single_sure}
use Rattle.trio_core.proofs.Looks.{lies_known, shrink_known, only_table, single_known}

same_sure : (a b : Bool) → sure a ≡ sure b → a ≡ b
same_sure true true e = refl
same_sure true false e = cc
same_sure false true e = cc
same_sure false false e = refl

-- what the table says of each cell
abbrev table_look : World → List ℕ → Cell → Known ℤ
table_look w table c = known_of_option (number_at w table c)

table_known : (w : World) (table : List ℕ) → IsKnown w (table_look w table) table
table_known w table = record { each = λ c. refl }

pub truth_law : TruthLaw
truth_law w nodes sets table lies a from e i b is =
    same_sure (core_truth_from w nodes a from e table i) b
    (sym (single_sure w nodes a from (table_look w table) table (table_known w table) e i)
    ∙ (decided_stays w nodes a from (known_at w sets) (table_look w table) (lies_known w sets table lies) e i).stays b is)

pub shrink_law : ShrinkLaw
shrink_law w nodes sets less shrink a from e i b is =
    (decided_stays w nodes a from (known_at w sets) (known_at w less) (shrink_known w sets less shrink) e i).stays b is

pub single_law : SingleSetsLaw
single_law w nodes sets single a from e i =
    (core_truth_from w nodes a from e (only_table w sets) i, single_sure w nodes a from (known_at w sets) (only_table w sets) (single_known w sets single) e i)

-- the value of a root and of a core by what is known of cells
abbrev root_by : Core → (Cell → Known ℤ) → Root → Three
root_by core look root = all3 (λ i. core_truth3_by (world_of_core core) core.nodes root.node 0 [] look i) (instants_asked (world_of_core core) root.at)

abbrev whole_by : Core → (Cell → Known ℤ) → Three
whole_by core look = all3 (root_by core look) core.roots

whole_stays : (core : Core) (look less : Cell → Known ℤ) → MoreKnown look less → Stays (whole_by core look) (whole_by core less)
whole_stays core look less more =
    stays_all (root_by core look) (root_by core less)
    (λ root. stays_all (λ i. core_truth3_by (world_of_core core) core.nodes root.node 0 [] look i) (λ i. core_truth3_by (world_of_core core) core.nodes root.node 0 [] less i)
    (λ i. decided_stays (world_of_core core) core.nodes root.node 0 look less more [] i) (instants_asked (world_of_core core) root.at)) core.roots

whole_sure : (core : Core) (look : Cell → Known ℤ) (table : List ℕ) → IsKnown (world_of_core core) look table → whole_by core look ≡ sure (is_core_true_in core table)
whole_sure core look table known =
    sure_all (root_by core look) (root_truth core table)
    (λ root. sure_all (λ i. core_truth3_by (world_of_core core) core.nodes root.node 0 [] look i) (λ i. core_truth (world_of_core core) core.nodes root.node [] table i)
    (λ i. single_sure (world_of_core core) core.nodes root.node 0 look table known [] i) (instants_asked (world_of_core core) root.at)) core.roots

pub whole_truth_law : WholeTruthLaw
whole_truth_law core sets table lies b is =
    same_sure (is_core_true_in core table) b
    (sym (whole_sure core (table_look (world_of_core core) table) table (table_known (world_of_core core) table))
    ∙ (whole_stays core (known_at (world_of_core core) sets) (table_look (world_of_core core) table) (lies_known (world_of_core core) sets table lies)).stays b is)

pub whole_shrink_law : WholeShrinkLaw
whole_shrink_law core sets less shrink b is =
    (whole_stays core (known_at (world_of_core core) sets) (known_at (world_of_core core) less) (shrink_known (world_of_core core) sets less shrink)).stays b is

pub whole_single_law : WholeSingleLaw
whole_single_law core sets single =
    (is_core_true_in core (only_table (world_of_core core) sets), whole_sure core (known_at (world_of_core core) sets) (only_table (world_of_core core) sets) (single_known (world_of_core core) sets single))
