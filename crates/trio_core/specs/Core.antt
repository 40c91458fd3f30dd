-- The truth of a node at an instant, under the values of the variables, in a table.
use Rattle.std.specs.Prelude.{ℕ, ℤ, false, not, ◌&&◌, ◌||◌, List, [], ◌∷◌, ◌++◌, Option, None, Some, take, drop, slice_get, slice_index_or}
use Rattle.std.specs.List.{list_any}
use Rattle.trio_base.specs.declared.operators.Rel.{Rel}
use Rattle.trio_types.specs.declared.formula.Term.{Term}
use Rattle.trio_types.specs.declared.spec.DomainKind.TheVariants as kind
use Rattle.trio_types.specs.World.{World, values_of}
use Rattle.trio_types.specs.Values.{value}
use Rattle.trio_types.specs.Truth.{Truth, relates, at_distance}
use Rattle.trio_core.specs.declared.nodes.Node.{Node}
use Rattle.trio_core.specs.declared.nodes.Node.TheVariants as node

-- the whole numbers from low to high in order; there are none where high is below low
abbrev pub numbers : ℤ → ℤ → List ℤ
numbers low high = values_of (kind.Range low high)

-- the truth of what is not there
unfoldable pub never : Truth
never e t i = false

abbrev pub atom_truth : World → Rel → Term → Term → Truth
atom_truth world r x y e t i = relates r (value world x e t i) (value world y e t i)

abbrev pub not_truth : Truth → Truth
not_truth p e t i = not (p e t i)

abbrev pub and_truth : Truth → Truth → Truth
and_truth p q e t i = p e t i && q e t i

abbrev pub or_truth : Truth → Truth → Truth
or_truth p q e t i = p e t i || q e t i

-- for some value of one more variable
abbrev pub exists_truth : List ℤ → Truth → Truth
exists_truth values p e t i = list_any (λ z. p (e ++ z ∷ []) t i) values

-- at the instant at a distance, where it is inside time
abbrev pub dist_truth : World → Truth → Term → Truth
dist_truth world p x e t i = list_any (p e t) (at_distance world i (value world x e t i))

abbrev pub part_truth : List Truth → ℕ → Truth
part_truth parts a = slice_index_or parts a never

-- the truth of a node by that of the nodes before it; an Exists ranges over its values from this index on
abbrev pub node_truth : World → List Truth → ℕ → Node → Truth
node_truth world parts from (node.Atom r x y) = atom_truth world r x y
node_truth world parts from (node.Not a) = not_truth (part_truth parts a)
node_truth world parts from (node.And a b) = and_truth (part_truth parts a) (part_truth parts b)
node_truth world parts from (node.Or a b) = or_truth (part_truth parts a) (part_truth parts b)
node_truth world parts from (node.Exists low high a) = exists_truth (drop from (numbers low high)) (part_truth parts a)
node_truth world parts from (node.Dist a x) = dist_truth world (part_truth parts a) x

-- what is made of nodes in a row, each by what was made of those before it
abbrev pub in_row : {T : Type 0} → (List T → Node → T) → List T → List Node → List T
in_row step parts [] = parts
in_row step parts (n ∷ ns) = in_row step (parts ++ step parts n ∷ []) ns

-- the truths of nodes in a row, behind these
abbrev pub truths_from : World → List Truth → List Node → List Truth
truths_from world = in_row (λ parts n. node_truth world parts 0 n)

abbrev pub truth_of_option : World → List Truth → ℕ → Option Node → Truth
truth_of_option world parts from None = never
truth_of_option world parts from (Some n) = node_truth world parts from n

-- the truth of the node of this number, taken from an index: an Exists ranges over its values from that index on
unfoldable pub core_truth_from : World → List Node → ℕ → ℕ → Truth
core_truth_from world nodes a from = truth_of_option world (truths_from world [] (take a nodes)) from (slice_get nodes a)

-- the truth of the node of this number
abbrev pub core_truth : World → List Node → ℕ → Truth
core_truth world nodes a = core_truth_from world nodes a 0
