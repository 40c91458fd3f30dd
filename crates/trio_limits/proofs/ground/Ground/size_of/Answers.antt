-- The answer to the goal of `size_of`.
use Rattle.std.proofs.Common.{sym}
use Rattle.trio_types.specs.declared.spec.Domain.{Domain}
use Rattle.trio_types.specs.WellFormed.{values_fit}
use Rattle.trio_types.proofs.Lists.{each_of}
use Rattle.trio_limits.proofs.ground.Ground.size_of.Goals as goal

pub kind_size-requires : goal.kind_size-requires
kind_size-requires c =
    each_of (λ (domain : Domain). values_fit domain.kind) c.args.self.now.domains.now c.args.self.now.fit c.args.domain c.in-Some.found.now (sym c.in-Some.ensures)
