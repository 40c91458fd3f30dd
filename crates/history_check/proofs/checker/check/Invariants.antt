-- What the loop of `check` keeps.
use Rattle.std.proofs.Common.{◌≡◌, drop}
use Rattle.trio_types.specs.Verdict.{world_of, first_false}
use Rattle.trio_types.proofs.Verdicts.{first_false_from}
use Rattle.history_check.proofs.checker.check.Given as goal

-- what is first false is first false among the axioms that are left
abbrev pub invariant-loop-number : goal.invariant-loop-number
invariant-loop-number l = first_false l.spec l.table ≡ first_false_from (world_of l.spec) l.table l.number (drop l.number l.axiom-items)
