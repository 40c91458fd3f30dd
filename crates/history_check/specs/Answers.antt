-- What the checker answers.
use Rattle.std.specs.Prelude.{ℕ, Option, None, Some}
use Rattle.history_check.specs.declared.checker.Verdict.{Verdict}
use Rattle.history_check.specs.declared.checker.Verdict.TheVariants as verdict

-- the verdict of a first false axiom and instant, where there is one
abbrev pub verdict_of : Option (ℕ × ℕ) → Verdict
verdict_of None = verdict.True
verdict_of (Some place) = verdict.False place.0 place.1
