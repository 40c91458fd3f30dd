-- Which instants, domains, items, nodes and roots make a core.
use Rattle.std.specs.Prelude.{ℕ, ◌+◌, ℤ, nat_abs, Bool, true, false, ◌&&◌, ◌==◌, if◌then◌else◌, nat_lt, nat_le, List, [], ◌∷◌, ◌++◌, map, length, slice_get, slice_index_or}
use Rattle.std.specs.List.{list_all, list_any, enumerate_from}
use Rattle.std.specs.Option.{option_map}
use Rattle.std.specs.Ordering.{int_eq}
use Rattle.trio_base.specs.declared.limits.TheConstants.{GREATEST_BOUND}
use Rattle.trio_types.specs.declared.spec.Domain.{Domain}
use Rattle.trio_types.specs.declared.spec.Item.{Item}
use Rattle.trio_types.specs.declared.formula.Term.{Term}
use Rattle.trio_types.specs.declared.formula.Term.TheOpen.{Term-F, SignedTerm-F}
use Rattle.trio_types.specs.declared.formula.Term.TheOpen as open_term
use Rattle.trio_types.specs.declared.formula.Term.TheFolds.{fold-Term}
use Rattle.trio_types.specs.World.{World}
use Rattle.trio_types.specs.Kinds.{has_kind, kind_of_constant, is_arity}
use Rattle.trio_types.specs.Bounds.{Bound, bounded, greatest, term_bound, part_bound}
use Rattle.trio_types.specs.Parts.{declarations_of}
use Rattle.trio_types.specs.WellFormed.{is_well_formed, is_written, instant_fits}
use Rattle.trio_core.specs.declared.nodes.TheConstants.{MOST_ROUND}
use Rattle.trio_core.specs.declared.nodes.Node.{Node}
use Rattle.trio_core.specs.declared.nodes.Node.TheVariants as node
use Rattle.trio_core.specs.declared.nodes.Root.{Root}
use Rattle.trio_core.specs.Core.{numbers}

-- the parts of a core, whether they make one or not
pub record CoreParts : Type 0 where
  pub instants : ℕ
  pub domains : List Domain
  pub items : List Item
  pub nodes : List Node
  pub roots : List Root

abbrev pub world_of_core_parts : CoreParts → World
world_of_core_parts core = record { instants = core.instants; domains = core.domains; items = core.items }

-- the values of a variable: the whole numbers from low to high
pub record Range : Type 0 where
  pub low : ℤ
  pub high : ℤ

-- those of the Exists nodes that stand round a node, from the outermost on
abbrev pub Ranges : Type 0
Ranges = List Range

abbrev pub same_ranges : Ranges → Ranges → Bool
same_ranges [] [] = true
same_ranges (r ∷ rs) (s ∷ ss) = (int_eq r.low s.low && int_eq r.high s.high) && same_ranges rs ss
same_ranges rs ss = false

-- the parts of a node
abbrev pub parts_of_node : Node → List ℕ
parts_of_node (node.Atom r x y) = []
parts_of_node (node.Not a) = a ∷ []
parts_of_node (node.And a b) = a ∷ b ∷ []
parts_of_node (node.Or a b) = a ∷ b ∷ []
parts_of_node (node.Exists low high a) = a ∷ []
parts_of_node (node.Dist a x) = a ∷ []

-- the ranges round the parts of a node, where these stand round the node
abbrev pub ranges_inside : Node → Ranges → Ranges
ranges_inside (node.Exists low high a) ranges = ranges ++ record { low = low; high = high } ∷ []
ranges_inside n ranges = ranges

abbrev pub has_part : ℕ → Node → Bool
has_part a n = list_any (λ p. p == a) (parts_of_node n)

-- what the first of these nodes that has the part puts round it; nothing where none has it
abbrev pub ranges_by_parent : ℕ → List Node → List Ranges → Ranges
ranges_by_parent a [] round = []
ranges_by_parent a (n ∷ ns) [] = []
ranges_by_parent a (n ∷ ns) (ranges ∷ round) = if has_part a n then ranges_inside n ranges else ranges_by_parent a ns round

-- the ranges round each of these nodes, of which the first has this number
abbrev pub ranges_from : ℕ → List Node → List Ranges
ranges_from a [] = []
ranges_from a (n ∷ ns) = let behind = ranges_from (a + 1) ns in ranges_by_parent a ns behind ∷ behind

-- the ranges round each node
unfoldable pub ranges_of : List Node → List Ranges
ranges_of nodes = ranges_from 0 nodes

-- the ranges round the node of this number
abbrev pub ranges_round : List Node → ℕ → Ranges
ranges_round nodes a = slice_index_or (ranges_of nodes) a []

-- whether a term's numbers are in range, by the number of variables in whose bodies it stands and whether it may read
abbrev pub Reach : Type 0
Reach = ℕ → Bool → Bool

abbrev pub is_item_with : World → ℕ → ℕ → Bool
is_item_with world number given = is_arity (option_map (λ item. length item.args) (slice_get world.items number)) given

abbrev pub term_reach : World → Term-F Reach Reach → Reach
term_reach world (open_term.Number n) variables reads = true
term_reach world (open_term.Value d v) variables reads = has_kind (kind_of_constant world d v)
term_reach world (open_term.Var level) variables reads = nat_lt level variables
term_reach world (open_term.Read number args) variables reads =
    reads && (is_item_with world number (length args) && list_all (λ a. a variables false) args)
term_reach world (open_term.Sum parts) variables reads = list_all (λ p. p variables reads) parts
term_reach world (open_term.Times n x) variables reads = x variables reads

abbrev pub part_reach : SignedTerm-F Reach Reach → Reach
part_reach p = p.term

-- values, variables, items and numbers of arguments are in range, and no argument reads, nor the term itself where it may not
unfoldable pub reaches : World → Term → Reach
reaches world = fold-Term Reach Reach (term_reach world) part_reach

abbrev pub term_bound_by : World → List ℕ → Term-F Bound Bound → Bound
term_bound_by world bounds (open_term.Var level) = bounded (slice_index_or bounds level 0) 0
term_bound_by world bounds x = term_bound world [] x

-- the bounds of a term by those of its variables
unfoldable pub bound_by : World → List ℕ → Term → Bound
bound_by world bounds = fold-Term Bound Bound (term_bound_by world bounds) part_bound

-- the greatest absolute value in a range
abbrev pub range_bound : Range → ℕ
range_bound range = greatest (map nat_abs (numbers range.low range.high))

abbrev pub term_fits : World → Ranges → Bool → Term → Bool
term_fits world ranges reads x =
    reaches world x (length ranges) reads && nat_le (bound_by world (map range_bound ranges) x).most GREATEST_BOUND

-- a node's own terms and ends, where these ranges stand round it
abbrev pub content_fits : World → Ranges → Node → Bool
content_fits world ranges (node.Atom r x y) = term_fits world ranges true x && term_fits world ranges true y
content_fits world ranges (node.Exists low high a) = is_written low && is_written high
content_fits world ranges (node.Dist a x) = term_fits world ranges false x
content_fits world ranges n = true

-- each part stands before its node, and has round it what the node puts there
abbrev pub parts_fit : List Node → ℕ → Node → Bool
parts_fit nodes a n =
    list_all (λ p. nat_lt p a && same_ranges (ranges_round nodes p) (ranges_inside n (ranges_round nodes a))) (parts_of_node n)

abbrev pub node_fits : World → List Node → ℕ → Node → Bool
node_fits world nodes a n =
    parts_fit nodes a n && (content_fits world (ranges_round nodes a) n && nat_le (length (ranges_round nodes a)) MOST_ROUND)

-- a root is a node without ranges round it, and its instant is inside time
abbrev pub root_fits : World → List Node → Root → Bool
root_fits world nodes root =
    nat_lt root.node (length nodes) && (same_ranges (ranges_round nodes root.node) [] && instant_fits world.instants root.at)

unfoldable pub is_core : CoreParts → Bool
is_core core =
    let world = world_of_core_parts core in
    is_well_formed (declarations_of world)
    && (list_all (λ p. node_fits world core.nodes p.0 p.1) (enumerate_from 0 core.nodes)
    && list_all (root_fits world core.nodes) core.roots)
