-- What a specification is rewritten into.
use Rattle.std.specs.Prelude.{◌≡◌, ℕ, ◌+◌, List, [], ◌∷◌, ◌++◌}
use Rattle.trio_types.specs.declared.formula.Formula.{Formula}
use Rattle.trio_types.specs.declared.spec.Axiom.{Axiom}
use Rattle.trio_types.specs.declared.spec.Spec.{Spec}
use Rattle.trio_types.specs.World.{World}
use Rattle.trio_types.specs.Verdict.{world_of}
use Rattle.trio_core.specs.declared.nodes.Node.{Node}
use Rattle.trio_core.specs.declared.nodes.Root.{Root}
use Rattle.trio_core.specs.declared.nodes.Core.{Core}
use Rattle.derived_ops.specs.Shape.{Shape, before_last, nodes_of}
use Rattle.derived_ops.specs.Rewriting.{written}

-- the shape of a formula that stands in no other
abbrev pub core_shape : World → Formula → Shape
core_shape world f = written world f 0 []

-- the nodes of axioms in a row, of which the first has this number
abbrev pub nodes_of_axioms : World → ℕ → List Axiom → List Node
nodes_of_axioms world n [] = []
nodes_of_axioms world n (a ∷ axioms) =
    nodes_of (core_shape world a.formula) n ++ nodes_of_axioms world (n + before_last (core_shape world a.formula) + 1) axioms

-- the last node of each
abbrev pub roots_of_axioms : World → ℕ → List Axiom → List Root
roots_of_axioms world n [] = []
roots_of_axioms world n (a ∷ axioms) =
    record { node = n + before_last (core_shape world a.formula); at = a.at }
    ∷ roots_of_axioms world (n + before_last (core_shape world a.formula) + 1) axioms

-- the core's nodes and roots are those of the axioms, axiom after axiom
pub record IsRewriting (core : Core) (spec : Spec) : Type 0 where
  pub nodes : core.nodes ≡ nodes_of_axioms (world_of spec) 0 spec.axioms
  pub roots : core.roots ≡ roots_of_axioms (world_of spec) 0 spec.axioms
