-- The answers to the goals of `first_above`.
use Rattle.std.proofs.Common.{arith}
use Rattle.trio_limits.proofs.FirstAbove.{first-Items, first-Cells, first-Sizes, first-Bound, first-Instances, first-Nest, first-none}
use Rattle.trio_limits.proofs.totals.Totals.first_above.Goals as goal

pub returns-then-self-from : goal.returns-then-self-from
returns-then-self-from c = first-Items c.args.self.now (omega arith)

pub returns-then-self-from-2 : goal.returns-then-self-from-2
returns-then-self-from-2 c = first-Cells c.args.self.now (omega arith) (omega arith)

pub returns-then-self-from-3 : goal.returns-then-self-from-3
returns-then-self-from-3 c = first-Sizes c.args.self.now (omega arith) (omega arith) (omega arith)

pub returns-then-self-gt-GREATEST_BOUND : goal.returns-then-self-gt-GREATEST_BOUND
returns-then-self-gt-GREATEST_BOUND c = first-Bound c.args.self.now (omega arith) (omega arith) (omega arith) (omega arith)

pub returns-then-self-from-4 : goal.returns-then-self-from-4
returns-then-self-from-4 c = first-Instances c.args.self.now (omega arith) (omega arith) (omega arith) (omega arith) (omega arith)

pub returns-then-self-from-5 : goal.returns-then-self-from-5
returns-then-self-from-5 c = first-Nest c.args.self.now (omega arith) (omega arith) (omega arith) (omega arith) (omega arith) (omega arith)

pub returns-else-self-from-5 : goal.returns-else-self-from-5
returns-else-self-from-5 c = first-none c.args.self.now (omega arith) (omega arith) (omega arith) (omega arith) (omega arith) (omega arith)
