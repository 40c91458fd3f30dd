-- What a branch represents, which branches fit a problem, and the branches that are made from a problem and from a table.
use Rattle.std.specs.Prelude.{ℕ, ◌-◌, ◌^◌, Bool, true, false, not, ◌&&◌, List, [], Option, None, Some, map, filter}
use Rattle.std.specs.List.{All, list_all, flat_map, zip}
use Rattle.trio_types.specs.World.{World}
use Rattle.trio_types.specs.Cells.{cells_of, cell_size}
use Rattle.trio_types.specs.Verdict.{instants_asked}
use Rattle.trio_core.specs.declared.nodes.Root.{Root}
use Rattle.trio_core.specs.Core.{core_truth_from}
use Rattle.trio_core.specs.Sets.{set_has, Shrink}
use Rattle.trio_core.specs.Stands.{world_of_core, NodeAsked}
use Rattle.branch_state.specs.declared.branch.Want.{Want}
use Rattle.branch_state.specs.declared.branch.Branch.{Branch}
use Rattle.branch_state.specs.Posed.{Posed, world_of_problem}
use Rattle.branch_state.specs.Models.{models}

abbrev pub branch : List ℕ → List Want → Branch
branch sets wants = record { doms = sets; wants = wants }

-- each entry of a table is in the set of its cell, where there is a set for each cell
abbrev pub lies_in : List ℕ → List ℕ → Bool
lies_in sets table = list_all (λ p. set_has p.0 p.1) (zip sets table)

-- a truth is the one that is wanted
abbrev pub has_sign : Bool → Bool → Bool
has_sign true b = b
has_sign false b = not b

-- the truth of the want's node from its index, at its instant under its values, is as wanted
unfoldable pub want_holds : Posed → List ℕ → Want → Bool
want_holds p table want =
    has_sign want.sign (core_truth_from (world_of_core p.core) p.core.nodes want.node want.from want.env table want.now)

abbrev pub keeps : Posed → Branch → List ℕ → Bool
keeps p b table = lies_in b.doms table && list_all (want_holds p table) b.wants

-- the models whose values lie in the sets, and in which every want holds
unfoldable pub reps : Posed → Branch → List (List ℕ)
reps p b = filter (keeps p b) (models p)

abbrev pub reps_all : Posed → List Branch → List (List ℕ)
reps_all p bs = flat_map (reps p) bs

-- the set of all indexes below a size
abbrev pub full_set : ℕ → ℕ
full_set size = 2 ^ size - 1

-- the set of one index alone
abbrev pub single_set : ℕ → ℕ
single_set v = 2 ^ v

-- the set of a cell of this size: all of its values, or the given one alone
abbrev pub root_set : ℕ → Option ℕ → ℕ
root_set size None = full_set size
root_set size (Some v) = single_set v

unfoldable pub root_sets : Posed → List ℕ
root_sets p = map (λ q. root_set (cell_size (world_of_problem p) q.0) q.1) (zip (cells_of (world_of_problem p)) p.given)

-- that a root is true at an instant
abbrev pub root_want : Root → ℕ → Want
root_want root instant = record { node = root.node; now = instant; env = []; sign = true; from = 0 }

abbrev pub wants_of_root : World → Root → List Want
wants_of_root world root = map (root_want root) (instants_asked world root.at)

-- that every root is true at each of its instants, root after root, each at its instants in order
unfoldable pub root_wants : Posed → List Want
root_wants p = flat_map (wants_of_root (world_of_core p.core)) p.core.roots

abbrev pub root_branch : Posed → Branch
root_branch p = branch (root_sets p) (root_wants p)

-- the single sets of a table's entries, and no want
abbrev pub single_branch : List ℕ → Branch
single_branch table = branch (map single_set table) []

-- a want fits: its node is one of the core, its instant is inside time, its values are in the ranges round the node, and its index fits the node
abbrev pub WantFits : Posed → Want → Type 0
WantFits p want = NodeAsked p.core want.node want.from want.now want.env

-- a branch fits: each cell's set is not empty and is part of the root's set, and every want fits
pub record Fits (p : Posed) (b : Branch) : Type 0 where
  pub sets : Shrink (world_of_problem p) (root_sets p) b.doms
  pub wants : All (WantFits p) b.wants
