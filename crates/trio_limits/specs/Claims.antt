-- The counts of axioms or goals as code keeps them.
use Rattle.std.specs.Prelude.{◌*◌, List, [], map, sum_by}
use Rattle.trio_types.specs.declared.spec.Axiom.{Axiom}
use Rattle.trio_types.specs.World.{World}
use Rattle.trio_types.specs.Bounds.{greatest, greatest_bound}
use Rattle.trio_types.specs.Instances.{instances}
use Rattle.trio_types.specs.Nest.{nest_of}
use Rattle.trio_limits.specs.declared.counts.ClaimCounts.{ClaimCounts}
use Rattle.trio_limits.specs.Given.{given_count}

abbrev pub claims_counts : World → List Axiom → ClaimCounts
claims_counts world claims = record {
  bound = given_count (greatest (map (λ a. greatest_bound world a.formula []) claims));
  instances = given_count (sum_by (λ a. world.instants * instances world a.formula) claims);
  plain = given_count (greatest (map (λ a. (nest_of a.formula).plain) claims));
}
