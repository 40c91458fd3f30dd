-- The answers to the goals of `nest_is_open_brackets`.
use Rattle.trio_canonical.proofs.BracketsSpec.{nest_is_most_open}
use Rattle.trio_canonical.proofs.laws.nest_is_open_brackets.Goals as goal

pub returns : goal.returns
returns c = nest_is_most_open
