-- The rule of one step: what becomes of a branch, as a function.
use Rattle.std.specs.Prelude.{ℕ, zero, suc, ◌+◌, ◌-◌, ℤ, pos, ◌+ℤ◌, Bool, true, false, not, List, [], ◌∷◌, ◌++◌, Option, None, Some, map, slice_get, slice_set, slice_index_or, sum_by, zip}
use Rattle.trio_types.specs.World.{World}
use Rattle.trio_types.specs.Cells.{cells_of, cell_size}
use Rattle.trio_types.specs.Truth.{at_distance}
use Rattle.trio_core.specs.declared.nodes.Node.{Node}
use Rattle.trio_core.specs.declared.nodes.Node.TheVariants as node
use Rattle.trio_core.specs.declared.nodes.Known.{Known}
use Rattle.trio_core.specs.declared.nodes.Known.TheVariants.{Nothing, Several, One}
use Rattle.trio_core.specs.declared.nodes.Three.{Three}
use Rattle.trio_core.specs.declared.nodes.Three.TheVariants as three
use Rattle.trio_core.specs.Sets.{members}
use Rattle.trio_core.specs.Three.{value3, known_at, core_truth3}
use Rattle.trio_core.specs.Stands.{world_of_core, spec_truth3}
use Rattle.branch_state.specs.declared.branch.Want.{Want}
use Rattle.branch_state.specs.declared.branch.Branch.{Branch}
use Rattle.branch_state.specs.Posed.{Posed}
use Rattle.branch_state.specs.Branches.{branch, single_set}
use Rattle.branch_state.specs.Weight.{want_weight}
use Rattle.decompose.specs.declared.why.Why.{Why}
use Rattle.decompose.specs.declared.why.Why.TheVariants as why
use Rattle.decompose.specs.Reads.{members_at, first_undecided, all_cells, atom_cells}

-- what becomes of a branch
pub data Ruled : Type 0 where
  Closed : Why → Ruled
  Whole : List ℕ → Ruled
  Two : Branch → Branch → Ruled

-- what becomes of the first want of a branch
pub data Fate : Type 0 where
  -- it does not hold: the branch is closed
  Refuted : Fate
  -- these take its place
  Becomes : List Want → Fate
  -- the branch is parted: on the left the first of these take its place, on the right the others
  Parts : List Want → List Want → Fate
  -- it stays, and the branch is parted by the values of this cell
  Cuts : Option ℕ → Fate

-- New wants. They are at the want's instant and under its values of variables, and from index 0, where nothing else is said.

-- that a part of the node is true or false
abbrev pub part : Want → ℕ → Bool → Want
part want a sign = record { node = a; now = want.now; env = want.env; sign = sign; from = 0 }

-- that the part of a Dist is, as wanted of the Dist, at another instant
abbrev pub part_at : Want → ℕ → ℕ → Want
part_at want a instant = record { node = a; now = instant; env = want.env; sign = want.sign; from = 0 }

-- that the part of an Exists is true or false for the first of the values over which the want ranges
abbrev pub body : Want → ℤ → ℕ → Bool → Want
body want low a sign = record { node = a; now = want.now; env = want.env ++ (low +ℤ pos want.from) ∷ []; sign = sign; from = 0 }

-- the same want over the values behind that one
abbrev pub later : Want → Want
later want = record { node = want.node; now = want.now; env = want.env; sign = want.sign; from = want.from + 1 }

-- The rows for a want whose truth is not known, by its node and its sign.

abbrev pub and_row : Want → ℕ → ℕ → Bool → Fate
and_row want a b true = Becomes (part want a true ∷ part want b true ∷ [])
and_row want a b false = Parts (part want a false ∷ []) (part want a true ∷ part want b false ∷ [])

abbrev pub or_row : Want → ℕ → ℕ → Bool → Fate
or_row want a b false = Becomes (part want a false ∷ part want b false ∷ [])
or_row want a b true = Parts (part want a true ∷ []) (part want a false ∷ part want b true ∷ [])

abbrev pub exists_row : Want → ℤ → ℕ → Bool → Fate
exists_row want low a false = Becomes (body want low a false ∷ later want ∷ [])
exists_row want low a true = Parts (body want low a true ∷ []) (body want low a false ∷ later want ∷ [])

-- the part at the instant at a distance; the distance is known, since it reads no cell
abbrev pub dist_row : World → Want → ℕ → Known ℤ → Fate
dist_row world want a Nothing = Becomes []
dist_row world want a Several = Becomes []
dist_row world want a (One d) = Becomes (map (part_at want a) (at_distance world want.now (Some d)))

-- a want that fits has a node
abbrev pub row : World → List ℕ → Want → Option Node → Fate
row world sets want None = Cuts None
row world sets want (Some (node.Atom r x y)) = Cuts (first_undecided world sets (atom_cells world x y want.env sets want.now))
row world sets want (Some (node.Not a)) = Becomes (part want a (not want.sign) ∷ [])
row world sets want (Some (node.And a b)) = and_row want a b want.sign
row world sets want (Some (node.Or a b)) = or_row want a b want.sign
row world sets want (Some (node.Exists low high a)) = exists_row want low a want.sign
row world sets want (Some (node.Dist a x)) = dist_row world want a (value3 world x want.env (known_at world sets) want.now)

-- a want whose truth is known is dropped where it is as wanted
abbrev pub fate_by : Three → Bool → Fate → Fate
fate_by three.True true rest = Becomes []
fate_by three.True false rest = Refuted
fate_by three.False true rest = Refuted
fate_by three.False false rest = Becomes []
fate_by three.Unknown sign rest = rest

-- the three-valued truth of a want's node under sets
abbrev pub want_truth3 : Posed → List ℕ → Want → Three
want_truth3 p sets want = core_truth3 (world_of_core p.core) p.core.nodes want.node want.from want.env sets want.now

unfoldable pub fate : Posed → List ℕ → Want → Fate
fate p sets want = fate_by (want_truth3 p sets want) want.sign (row (world_of_core p.core) sets want (slice_get p.core.nodes want.node))

-- the least member of a set of indexes below a size, and those of all cells
abbrev pub least_member : ℕ → ℕ → ℕ
least_member size set = slice_index_or (members size set) 0 0

abbrev pub least_table : World → List ℕ → List ℕ
least_table world sets = map (λ q. least_member (cell_size world q.0) q.1) (zip (cells_of world) sets)

-- a cell's set is its least value alone, or all its other values
abbrev pub least_of_cell : World → List ℕ → ℕ → ℕ
least_of_cell world sets cell = single_set (slice_index_or (members_at world sets cell) 0 0)

abbrev pub least_alone : World → List ℕ → ℕ → List ℕ
least_alone world sets cell = slice_set sets cell (least_of_cell world sets cell)

abbrev pub least_left_out : World → List ℕ → ℕ → List ℕ
least_left_out world sets cell = slice_set sets cell (slice_index_or sets cell 0 - least_of_cell world sets cell)

-- on the left the cell has its least value, on the right its others
abbrev pub cut_cell : World → List ℕ → List Want → ℕ → Ruled
cut_cell world sets wants cell = Two (branch (least_alone world sets cell) wants) (branch (least_left_out world sets cell) wants)

-- for an atom: one that is not known reads a cell with several values
abbrev pub cut_for_atom : World → List ℕ → List Want → Option ℕ → Ruled
cut_for_atom world sets wants None = Closed why.Want
cut_for_atom world sets wants (Some cell) = cut_cell world sets wants cell

-- where nothing is wanted any more: one table is left where each set has one value
abbrev pub cut_or_whole : World → List ℕ → Option ℕ → Ruled
cut_or_whole world sets None = Whole (least_table world sets)
cut_or_whole world sets (Some cell) = cut_cell world sets [] cell

abbrev pub unwanted : World → List ℕ → Ruled
unwanted world sets = cut_or_whole world sets (first_undecided world sets (all_cells world))

-- by the fate of the first want; what else is wanted stays behind it
abbrev pub settle_by : (List Want → Ruled) → World → List ℕ → Want → List Want → Fate → Ruled
settle_by settle world sets want wants Refuted = Closed why.Want
settle_by settle world sets want wants (Becomes new) = settle (new ++ wants)
settle_by settle world sets want wants (Parts left right) = Two (branch sets (left ++ wants)) (branch sets (right ++ wants))
settle_by settle world sets want wants (Cuts cell) = cut_for_atom world sets (want ∷ wants) cell

-- the wants are settled one after the other, in at most this many steps
unfoldable pub settle : Posed → List ℕ → ℕ → List Want → Ruled
settle p sets fuel [] = unwanted (world_of_core p.core) sets
settle p sets zero (want ∷ wants) = Closed why.Want
settle p sets (suc fuel) (want ∷ wants) = settle_by (settle p sets fuel) (world_of_core p.core) sets want wants (fate p sets want)

-- each step lowers the sum of the wants' counts, so it bounds the steps
abbrev pub wants_weight : Posed → List Want → ℕ
wants_weight p wants = sum_by (want_weight p) wants

abbrev pub settled : Posed → List ℕ → List Want → Ruled
settled p sets wants = settle p sets (wants_weight p wants) wants

-- a branch under whose sets the specification is false is closed before any want is looked at
abbrev pub ruled_by : Three → Ruled → Ruled
ruled_by three.False rest = Closed why.False
ruled_by three.Unknown rest = rest
ruled_by three.True rest = rest

abbrev pub ruled : Posed → Branch → Ruled
ruled p b = ruled_by (spec_truth3 p.core b.doms) (settled p b.doms b.wants)
