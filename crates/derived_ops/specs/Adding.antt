-- What is appended to nodes that stand already.
use Rattle.std.specs.Prelude.{◌≡◌, ℕ, zero, suc, ◌+◌, [], ◌∷◌, ◌++◌, length}
use Rattle.trio_base.specs.declared.operators.OneOp.{OneOp}
use Rattle.trio_base.specs.declared.operators.OneOp.TheVariants as one
use Rattle.trio_core.specs.declared.nodes.Node.{Node}
use Rattle.trio_core.specs.declared.nodes.Node.TheVariants as node
use Rattle.derived_ops.specs.declared.joint.Joint.{Joint}
use Rattle.derived_ops.specs.declared.joint.Joint.TheVariants as joint
use Rattle.derived_ops.specs.declared.writer.Writer.{Writer}
use Rattle.derived_ops.specs.Shape.{Shape, no, equal, before_last, nodes_of}
use Rattle.derived_ops.specs.Rewriting.{Written}

-- one node, of this number
pub record AddsNode (n : Node) (old new : Writer) (at : ℕ) : Type 0 where
  pub nodes : new.nodes.items ≡ old.nodes.items ++ n ∷ []
  pub place : at ≡ length old.nodes.items
  pub levels : new.levels.items ≡ old.levels.items

-- the nodes of a shape, of which the last has this number
pub record AddsShape (s : Shape) (old new : Writer) (at : ℕ) : Type 0 where
  pub nodes : new.nodes.items ≡ old.nodes.items ++ nodes_of s (length old.nodes.items)
  pub place : at ≡ length old.nodes.items + before_last s
  pub levels : new.levels.items ≡ old.levels.items

abbrev pub node_of_two : Joint → ℕ → ℕ → Node
node_of_two joint.And left right = node.And left right
node_of_two joint.Or left right = node.Or left right

-- a shape under this many negations
abbrev pub negated : ℕ → Shape → Shape
negated zero s = s
negated (suc n) s = no (negated n s)

abbrev pub many_opposite : ℕ → Written → Written
many_opposite n f k levels = negated n (f k levels)

-- behind the nodes of a shape those that negate it
abbrev pub Negates : ℕ → ℕ → Writer → Writer → ℕ → Type 0
Negates n part old new at = (s : Shape) (first : Writer) → AddsShape s first old part → AddsShape (negated n s) first new at

-- behind the nodes of two shapes those that make them equal
abbrev pub Equates : ℕ → ℕ → Writer → Writer → ℕ → Type 0
Equates left right old new at =
    (s u : Shape) (first middle : Writer) → AddsShape s first middle left → AddsShape u middle old right → AddsShape (equal s u) first new at

-- how many negations stand round what is at some instant, and round its part: one each where it is to be at every instant
abbrev pub negations_of : OneOp → ℕ
negations_of one.Alw = 1
negations_of one.AlwF = 1
negations_of one.AlwP = 1
negations_of o = 0
