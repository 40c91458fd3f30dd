-- What is said of counts above their limits, and of files that are too long.
use Rattle.std.specs.Prelude.{ℕ, Bool, true, false, List, ◌++◌, codes, decimal}
use Rattle.trio_base.specs.declared.limits.TheConstants.{MOST_HISTORY_BYTES, MOST_SPEC_BYTES}
use Rattle.trio_types.specs.declared.spec.Which.{Which}
use Rattle.trio_types.specs.declared.spec.Which.TheVariants as which
use Rattle.trio_types.specs.Limits.{limit_of}

-- what is counted
abbrev pub counted : Which → List ℕ
counted which.Items = codes "the number of items is "
counted which.Cells = codes "the number of cells, one for each item, tuple of arguments and instant, is "
counted which.Sizes = codes "the number of values of all cells together is "
counted which.Bound = codes "the greatest number that a term can reach is "
counted which.Instances = codes "the number of instances of formulas, over all values and instants, is "
counted which.Nest = codes "the number of brackets that are open at once in the canonical text is "

-- the line on a count that is above its limit; no place is named
abbrev pub limit_line : List ℕ → Which → ℕ → List ℕ
limit_line file which count =
    file ++ codes ": " ++ counted which ++ decimal count ++ codes ", and the limit is " ++ decimal (limit_of which) ++ codes "\n"

-- the line on a file that is longer than a specification's may be, or a history's
abbrev pub too_long_line : List ℕ → Bool → List ℕ
too_long_line file true = file ++ codes ": a specification has at most " ++ decimal MOST_SPEC_BYTES ++ codes " bytes, and this file is longer\n"
too_long_line file false = file ++ codes ": a history has at most " ++ decimal MOST_HISTORY_BYTES ++ codes " bytes, and this file is longer\n"
