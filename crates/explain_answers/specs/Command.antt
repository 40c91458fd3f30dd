-- Which words are which command.
use Rattle.std.specs.Prelude.{ℕ, ◌&&◌, if◌then◌else◌, List, [], ◌∷◌, Option, None, Some, codes}
use Rattle.std.specs.Str.{bytes_eq}
use Rattle.trio_io.specs.Words.{names_a_file}
use Rattle.explain_answers.specs.declared.command.Task.{Task}
use Rattle.explain_answers.specs.declared.command.Task.TheVariants as task

-- what is asked for: a task on the files of a specification and a history
pub record Asked : Type 0 where
  pub task_ : Task
  pub spec : List ℕ
  pub history : List ℕ

-- the task of a word
abbrev pub task_of : List ℕ → Option Task
task_of word =
    if bytes_eq word (codes "check") then Some task.Check
    else (if bytes_eq word (codes "complete") then Some task.Complete else None)

abbrev pub asked_on : List ℕ → List ℕ → Option Task → Option Asked
asked_on spec history None = None
asked_on spec history (Some found) = Some (record { task_ = found; spec = spec; history = history })

-- what the words ask for: `check` or `complete` with the names of a specification and a history; no other words are a command
abbrev pub asked_of : List (List ℕ) → Option Asked
asked_of (word ∷ spec ∷ history ∷ []) = if names_a_file spec && names_a_file history then asked_on spec history (task_of word) else None
asked_of words = None
