-- What the loop of `for_some` keeps, and that the nodes' numbers fall.
use Rattle.std.proofs.Common.{◌+◌, ◌*◌}
use Rattle.trio_core.specs.Core.{numbers}
use Rattle.trio_core.proofs.NodeTruths.{SoFar}
use Rattle.trio_core.proofs.truth.+truth.Given as goal

abbrev pub decreases-node_truth : goal.decreases-node_truth
decreases-node_truth l = 2 * l.node

abbrev pub decreases-for_some : goal.decreases-for_some
decreases-for_some l = 2 * l.part + 1

abbrev pub invariant-for_some-loop-index : goal.invariant-for_some-loop-index
invariant-for_some-loop-index l = SoFar l.under l.part l.from l.instant (numbers l.low l.high) l.index l.inner l.found
