-- What formulas speak of, as code keeps it.
use Rattle.trio_types.specs.World.{World}
use Rattle.trio_limits.specs.declared.ground.Ground.{Ground}

abbrev pub world_of_ground : Ground → World
world_of_ground base = record { instants = base.instants; domains = base.domains.now; items = base.items.now }
