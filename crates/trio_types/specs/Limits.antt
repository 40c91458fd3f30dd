-- What is counted of a specification, and the limit of each count.
use Rattle.std.specs.Prelude.{ℕ, ◌*◌, ◌++◌, List, [], ◌∷◌, map, length, sum_by}
use Rattle.trio_base.specs.declared.limits.TheConstants.{MOST_ITEMS, MOST_CELLS, MOST_SIZES, GREATEST_BOUND, MOST_INSTANCES, MOST_OPEN}
use Rattle.trio_types.specs.declared.spec.Which.{Which}
use Rattle.trio_types.specs.declared.spec.Which.TheVariants as which
use Rattle.trio_types.specs.Cells.{cells_of, cell_size}
use Rattle.trio_types.specs.Parts.{Parts, world_of_parts, claims_of}
use Rattle.trio_types.specs.Bounds.{greatest, greatest_bound}
use Rattle.trio_types.specs.Instances.{instances}
use Rattle.trio_types.specs.Nest.{nest_of, item_nest}

abbrev pub count_of : Which → Parts → ℕ
count_of which.Items parts = length parts.items
count_of which.Cells parts = length (cells_of (world_of_parts parts))
count_of which.Sizes parts = sum_by (cell_size (world_of_parts parts)) (cells_of (world_of_parts parts))
count_of which.Bound parts = greatest (map (λ a. greatest_bound (world_of_parts parts) a.formula []) (claims_of parts))
count_of which.Instances parts = sum_by (λ a. parts.instants * instances (world_of_parts parts) a.formula) (claims_of parts)
count_of which.Nest parts = greatest (map item_nest parts.items ++ map (λ a. (nest_of a.formula).plain) (claims_of parts))

abbrev pub limit_of : Which → ℕ
limit_of which.Items = MOST_ITEMS
limit_of which.Cells = MOST_CELLS
limit_of which.Sizes = MOST_SIZES
limit_of which.Bound = GREATEST_BOUND
limit_of which.Instances = MOST_INSTANCES
limit_of which.Nest = MOST_OPEN

-- the counts in the order in which they are looked at
abbrev pub counted : List Which
counted = which.Items ∷ which.Cells ∷ which.Sizes ∷ which.Bound ∷ which.Instances ∷ which.Nest ∷ []
