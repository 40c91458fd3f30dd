-- Three-valued truth of nodes under sets of values, by Kleene's strong tables.
use Rattle.std.specs.Prelude.{ℕ, ℤ, pos, ◌+ℤ◌, ◌*ℤ◌, neg_ℤ, Bool, true, false, if◌then◌else◌, List, [], ◌∷◌, ◌++◌, Option, None, Some, map, take, drop, slice_get, slice_index_or}
use Rattle.trio_base.specs.declared.operators.Rel.{Rel}
use Rattle.trio_types.specs.declared.formula.Term.{Term}
use Rattle.trio_types.specs.declared.formula.Term.TheOpen.{Term-F, SignedTerm-F}
use Rattle.trio_types.specs.declared.formula.Term.TheOpen as open_term
use Rattle.trio_types.specs.declared.formula.Term.TheFolds.{fold-Term}
use Rattle.trio_types.specs.World.{World}
use Rattle.trio_types.specs.Cells.{Cell, cell_values, cell_size, value_at}
use Rattle.trio_types.specs.Values.{read_cell}
use Rattle.trio_types.specs.Truth.{compares, at_distance}
use Rattle.trio_core.specs.declared.nodes.Node.{Node}
use Rattle.trio_core.specs.declared.nodes.Node.TheVariants as node
use Rattle.trio_core.specs.declared.nodes.Known.{Known}
use Rattle.trio_core.specs.declared.nodes.Known.TheVariants.{Nothing, Several, One}
use Rattle.trio_core.specs.declared.nodes.Three.{Three}
use Rattle.trio_core.specs.declared.nodes.Three.TheVariants as three
use Rattle.trio_core.specs.Core.{numbers, in_row}
use Rattle.trio_core.specs.Sets.{members}

-- of two values: that one of them is not there is known whatever the other is, and the result only where both are known
abbrev pub known_both : {X Y Z : Type 0} → (X → Y → Z) → Known X → Known Y → Known Z
known_both f Nothing y = Nothing
known_both f Several Nothing = Nothing
known_both f Several Several = Several
known_both f Several (One y) = Several
known_both f (One x) Nothing = Nothing
known_both f (One x) Several = Several
known_both f (One x) (One y) = One (f x y)

-- of one value
abbrev pub known_map : {X Y : Type 0} → (X → Y) → Known X → Known Y
known_map f Nothing = Nothing
known_map f Several = Several
known_map f (One x) = One (f x)

abbrev pub known_then : {X Y : Type 0} → (X → Known Y) → Known X → Known Y
known_then f Nothing = Nothing
known_then f Several = Several
known_then f (One x) = f x

abbrev pub known_of_option : {X : Type 0} → Option X → Known X
known_of_option None = Nothing
known_of_option (Some x) = One x

-- of several values together
abbrev pub known_all : List (Known ℤ) → Known (List (Option ℤ))
known_all [] = One []
known_all (x ∷ xs) = known_both (λ z zs. Some z ∷ zs) x (known_all xs)

-- by the indexes that a cell's value may have
abbrev pub known_of_members : List ℤ → List ℕ → Known ℤ
known_of_members values [] = Nothing
known_of_members values (v ∷ []) = known_of_option (slice_get values v)
known_of_members values (v ∷ w ∷ vs) = Several

abbrev pub known_of_set : List ℤ → ℕ → Option ℕ → Known ℤ
known_of_set values size None = Nothing
known_of_set values size (Some set) = known_of_members values (members size set)

-- what sets say of the value of a cell
unfoldable pub known_at : World → List ℕ → Cell → Known ℤ
known_at world sets cell = known_of_set (cell_values world cell) (cell_size world cell) (value_at world sets cell)

abbrev pub known_of_cell : (Cell → Known ℤ) → Option Cell → Known ℤ
known_of_cell look None = Nothing
known_of_cell look (Some cell) = look cell

-- what is known of a term's value, by the environment, what is known of cells, and the instant
abbrev pub Value3 : Type 0
Value3 = List ℤ → (Cell → Known ℤ) → ℕ → Known ℤ

abbrev pub known_sum : List (Known ℤ) → Known ℤ
known_sum [] = One (pos 0)
known_sum (x ∷ xs) = known_both (λ x y. x +ℤ y) x (known_sum xs)

abbrev pub term_value3 : World → Term-F Value3 Value3 → Value3
term_value3 world (open_term.Number n) e look i = One (pos n)
term_value3 world (open_term.Value d v) e look i = One (pos v)
term_value3 world (open_term.Var level) e look i = One (slice_index_or e level (pos 0))
term_value3 world (open_term.Read number args) e look i =
    known_then (λ zs. known_of_cell look (read_cell world number zs i)) (known_all (map (λ a. a e look i) args))
term_value3 world (open_term.Sum parts) e look i = known_sum (map (λ p. p e look i) parts)
term_value3 world (open_term.Times n x) e look i = known_map (λ z. pos n *ℤ z) (x e look i)

abbrev pub part_value3 : SignedTerm-F Value3 Value3 → Value3
part_value3 part e look i = if part.minus then known_map neg_ℤ (part.term e look i) else part.term e look i

-- what is known of the value of a term
unfoldable pub value3 : World → Term → Value3
value3 world = fold-Term Value3 Value3 (term_value3 world) part_value3

-- a truth that may not be known, by the same
abbrev pub Truth3 : Type 0
Truth3 = List ℤ → (Cell → Known ℤ) → ℕ → Three

-- a truth that is known
abbrev pub sure : Bool → Three
sure true = three.True
sure false = three.False

-- Kleene's strong tables
abbrev pub not3 : Three → Three
not3 three.False = three.True
not3 three.Unknown = three.Unknown
not3 three.True = three.False

abbrev pub and3 : Three → Three → Three
and3 three.False q = three.False
and3 three.True q = q
and3 three.Unknown three.False = three.False
and3 three.Unknown three.Unknown = three.Unknown
and3 three.Unknown three.True = three.Unknown

abbrev pub or3 : Three → Three → Three
or3 three.True q = three.True
or3 three.False q = q
or3 three.Unknown three.True = three.True
or3 three.Unknown three.Unknown = three.Unknown
or3 three.Unknown three.False = three.Unknown

-- all and some of a list
abbrev pub all3 : {X : Type 0} → (X → Three) → List X → Three
all3 p [] = three.True
all3 p (x ∷ xs) = and3 (p x) (all3 p xs)

abbrev pub any3 : {X : Type 0} → (X → Three) → List X → Three
any3 p [] = three.False
any3 p (x ∷ xs) = or3 (p x) (any3 p xs)

-- False where a term has no value, else Unknown where one is not known, else as the values compare
abbrev pub three_of_known : Known Bool → Three
three_of_known Nothing = three.False
three_of_known Several = three.Unknown
three_of_known (One b) = sure b

abbrev pub relates3 : Rel → Known ℤ → Known ℤ → Three
relates3 r x y = three_of_known (known_both (compares r) x y)

-- at the instant at a distance, and False where it is outside time
abbrev pub at_distance3 : World → ℕ → Known ℤ → (ℕ → Three) → Three
at_distance3 world i Nothing p = three.False
at_distance3 world i Several p = three.Unknown
at_distance3 world i (One d) p = any3 p (at_distance world i (Some d))

-- what is said of a node that is not there
unfoldable pub never3 : Truth3
never3 e look i = three.False

abbrev pub part_truth3 : List Truth3 → ℕ → Truth3
part_truth3 parts a = slice_index_or parts a never3

-- the three-valued truth of a node by that of the nodes before it; an Exists ranges over its values from this index on
abbrev pub node_truth3 : World → List Truth3 → ℕ → Node → Truth3
node_truth3 world parts from (node.Atom r x y) e look i = relates3 r (value3 world x e look i) (value3 world y e look i)
node_truth3 world parts from (node.Not a) e look i = not3 (part_truth3 parts a e look i)
node_truth3 world parts from (node.And a b) e look i = and3 (part_truth3 parts a e look i) (part_truth3 parts b e look i)
node_truth3 world parts from (node.Or a b) e look i = or3 (part_truth3 parts a e look i) (part_truth3 parts b e look i)
node_truth3 world parts from (node.Exists low high a) e look i =
    any3 (λ z. part_truth3 parts a (e ++ z ∷ []) look i) (drop from (numbers low high))
node_truth3 world parts from (node.Dist a x) e look i = at_distance3 world i (value3 world x e look i) (part_truth3 parts a e look)

abbrev pub truths3_from : World → List Truth3 → List Node → List Truth3
truths3_from world = in_row (λ parts n. node_truth3 world parts 0 n)

abbrev pub truth3_of_option : World → List Truth3 → ℕ → Option Node → Truth3
truth3_of_option world parts from None = never3
truth3_of_option world parts from (Some n) = node_truth3 world parts from n

-- the three-valued truth of the node of this number, taken from an index, by what is known of cells
unfoldable pub core_truth3_by : World → List Node → ℕ → ℕ → Truth3
core_truth3_by world nodes a from = truth3_of_option world (truths3_from world [] (take a nodes)) from (slice_get nodes a)

-- the same under sets of values
abbrev pub core_truth3 : World → List Node → ℕ → ℕ → List ℤ → List ℕ → ℕ → Three
core_truth3 world nodes a from e sets i = core_truth3_by world nodes a from e (known_at world sets) i
