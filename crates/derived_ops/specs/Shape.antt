-- Formulas by the nodes that they become, without the nodes' numbers.
use Rattle.std.specs.Prelude.{ℕ, ◌+◌, ℤ, List, [], ◌∷◌, ◌++◌}
use Rattle.trio_base.specs.declared.operators.Rel.{Rel}
use Rattle.trio_types.specs.declared.formula.Term.{Term}
use Rattle.trio_core.specs.declared.nodes.Node.{Node}
use Rattle.trio_core.specs.declared.nodes.Node.TheVariants as node

-- a tree with a form for each node, and one for an equivalence, which has each of its parts once
pub data Shape : Type 0 where
  atom : Rel → Term → Term → Shape
  no : Shape → Shape
  both : Shape → Shape → Shape
  either : Shape → Shape → Shape
  exists : ℤ → ℤ → Shape → Shape
  dist : Shape → Term → Shape
  equal : Shape → Shape → Shape

-- how many nodes a shape becomes before its last one
abbrev pub before_last : Shape → ℕ
before_last (atom r x y) = 0
before_last (no s) = before_last s + 1
before_last (both s u) = before_last s + 1 + before_last u + 1
before_last (either s u) = before_last s + 1 + before_last u + 1
before_last (exists low high s) = before_last s + 1
before_last (dist s x) = before_last s + 1
before_last (equal s u) = before_last s + 1 + before_last u + 5

-- behind the nodes of two parts, whose last ones have these numbers, the second the next number before them:
-- both are true, or neither is
abbrev pub equal_nodes : ℕ → ℕ → List Node
equal_nodes a b = node.And a b ∷ node.Not a ∷ node.Not b ∷ node.And (b + 2) (b + 3) ∷ node.Or (b + 1) (b + 4) ∷ []

-- the nodes of a shape, of which the first has this number: the parts' nodes, then its own
abbrev pub nodes_of : Shape → ℕ → List Node
nodes_of (atom r x y) n = node.Atom r x y ∷ []
nodes_of (no s) n = nodes_of s n ++ node.Not (n + before_last s) ∷ []
nodes_of (both s u) n =
    nodes_of s n ++ nodes_of u (n + before_last s + 1) ++ node.And (n + before_last s) (n + before_last s + 1 + before_last u) ∷ []
nodes_of (either s u) n =
    nodes_of s n ++ nodes_of u (n + before_last s + 1) ++ node.Or (n + before_last s) (n + before_last s + 1 + before_last u) ∷ []
nodes_of (exists low high s) n = nodes_of s n ++ node.Exists low high (n + before_last s) ∷ []
nodes_of (dist s x) n = nodes_of s n ++ node.Dist (n + before_last s) x ∷ []
nodes_of (equal s u) n =
    nodes_of s n ++ nodes_of u (n + before_last s + 1) ++ equal_nodes (n + before_last s) (n + before_last s + 1 + before_last u)
