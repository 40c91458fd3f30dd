-- The answers to the goals of `told_files_are_the_files`.
use Rattle.std.proofs.Common.{◌≡◌, ℕ, ◌<◌, List, Option, None, Some, length, refl, sym, subst}
use Rattle.std.specs.Prelude.{IsSomeAnd}
use Rattle.trio_io.proofs.laws.told_files_are_the_files.Goals as goal

pub returns-clause-holds : goal.returns-clause-holds
returns-clause-holds c = λ shelf name file told. (λ is. is told, λ is yes. is)

longer : (file : Option (List ℕ)) (max : ℕ) → IsSomeAnd file (λ bytes. max < length bytes) → (bytes : List ℕ) × (file ≡ Some bytes) × (max < length bytes)
longer None max is = absurd is
longer (Some bytes) max is = (bytes, refl, is)

pub returns-clause-longer : goal.returns-clause-longer
returns-clause-longer c = λ shelf name max told. (
  λ is. longer (shelf.file name) max (is told),
  λ w yes. subst (λ file. IsSomeAnd file (λ bytes. max < length bytes)) (sym w.1) w.2,
)
