-- Which trees stand for a specification.
use Rattle.std.specs.Prelude.{◌≡◌, true, None}
use Rattle.trio_syntax.specs.declared.tree.SpecTree.{SpecTree}
use Rattle.trio_syntax.specs.Shape.{is_formed}
use Rattle.trio_reader.specs.Reading.{tree_fault}

-- the tree has the form of one that the grammar reads, and it has no fault
pub record IsSound (tree : SpecTree) : Type 0 where
  pub formed : is_formed tree ≡ true
  pub sound : tree_fault tree ≡ None
