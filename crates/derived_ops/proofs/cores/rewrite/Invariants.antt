-- The nodes and roots so far are those of the axioms so far.
use Rattle.std.proofs.Common.{◌≡◌, [], take}
use Rattle.trio_types.specs.Verdict.{world_of}
use Rattle.derived_ops.specs.Rewritten.{nodes_of_axioms, roots_of_axioms}
use Rattle.derived_ops.proofs.cores.rewrite.Given as goal

abbrev pub invariant-loop-claim : goal.invariant-loop-claim
invariant-loop-claim l = record {
  nodes : l.writer.nodes.items ≡ nodes_of_axioms (world_of l.fn.spec) 0 (take l.claim-index l.fn.spec.axioms);
  roots : l.roots.items ≡ roots_of_axioms (world_of l.fn.spec) 0 (take l.claim-index l.fn.spec.axioms);
  levels : l.writer.levels.items ≡ [];
}
