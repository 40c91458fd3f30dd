-- The weight of a branch: how much is left to decide in it.
use Rattle.std.specs.Prelude.{ℕ, ◌+◌, ◌-◌, ◌*◌, ◌^◌, List, [], Option, None, Some, take, length, slice_get, slice_index_or}
use Rattle.std.specs.List.{sum_by, zip}
use Rattle.trio_types.specs.World.{World}
use Rattle.trio_types.specs.Cells.{cells_of, cell_size}
use Rattle.trio_core.specs.declared.nodes.Node.{Node}
use Rattle.trio_core.specs.declared.nodes.Node.TheVariants as node
use Rattle.trio_core.specs.Core.{numbers, in_row}
use Rattle.trio_core.specs.Sets.{members}
use Rattle.branch_state.specs.declared.branch.Want.{Want}
use Rattle.branch_state.specs.declared.branch.Branch.{Branch}
use Rattle.branch_state.specs.Posed.{Posed, world_of_problem}

-- the count of a part; 1 for what is not there
abbrev pub part_count : List ℕ → ℕ → ℕ
part_count counts a = slice_index_or counts a 1

-- the count of a node by those of the nodes before it; an Exists ranges over its values from this index on
abbrev pub node_count : List ℕ → ℕ → Node → ℕ
node_count counts from (node.Atom r x y) = 1
node_count counts from (node.Not a) = part_count counts a + 1
node_count counts from (node.And a b) = part_count counts a + part_count counts b + 1
node_count counts from (node.Or a b) = part_count counts a + part_count counts b + 1
node_count counts from (node.Exists low high a) = (length (numbers low high) - from) * (part_count counts a + 1) + 1
node_count counts from (node.Dist a x) = part_count counts a + 1

-- the counts of nodes in a row
abbrev pub node_counts : List Node → List ℕ
node_counts = in_row (λ counts n. node_count counts 0 n) []

abbrev pub count_of_option : List ℕ → ℕ → Option Node → ℕ
count_of_option counts from None = 1
count_of_option counts from (Some n) = node_count counts from n

-- the count of the node of this number, taken from an index
unfoldable pub core_count : List Node → ℕ → ℕ → ℕ
core_count nodes a from = count_of_option (node_counts (take a nodes)) from (slice_get nodes a)

abbrev pub want_weight : Posed → Want → ℕ
want_weight p want = core_count p.core.nodes want.node want.from

-- the sum over the cells of what their sets have beside one value
unfoldable pub sets_weight : World → List ℕ → ℕ
sets_weight world sets = sum_by (λ q. length (members (cell_size world q.0) q.1) - 1) (zip (cells_of world) sets)

-- and the counts of the wants
abbrev pub weight : Posed → Branch → ℕ
weight p b = sets_weight (world_of_problem p) b.doms + sum_by (want_weight p) b.wants

-- a bound on the steps that branches take
abbrev pub bulk : Posed → List Branch → ℕ
bulk p bs = sum_by (λ b. 2 ^ (weight p b + 1) - 1) bs
