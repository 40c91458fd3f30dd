-- Which words are which command, and which files it reads and saves.
use Rattle.std.specs.Prelude.{ℕ, ◌+◌, ◌&&◌, if◌then◌else◌, List, [], ◌∷◌, Option, None, Some, codes}
use Rattle.std.specs.Str.{bytes_eq}
use Rattle.trio_io.specs.Words.{names_a_file}
use Rattle.trio_jobs.specs.declared.command.Command.{Command}
use Rattle.trio_jobs.specs.declared.command.Command.TheVariants as command

-- the command of this word with the names of a specification and a history
abbrev pub command_on : List ℕ → List ℕ → List ℕ → Option Command
command_on word spec history =
    if bytes_eq word (codes "check") then Some (command.Check spec history)
    else (if bytes_eq word (codes "complete") then Some (command.Complete spec history) else None)

-- the command is `check` or `complete` with the names of a specification and a history; no other words are one
abbrev pub command_of : List (List ℕ) → Option Command
command_of (word ∷ spec ∷ history ∷ []) = if names_a_file spec && names_a_file history then command_on word spec history else None
command_of words = None

-- how many files the command reads
abbrev pub files_read : Option Command → ℕ
files_read None = 0
files_read (Some (command.Check spec history)) = 2
files_read (Some (command.Complete spec history)) = 2

-- the name of the file that the command may save
abbrev pub saved_name : Option Command → Option (List ℕ)
saved_name None = None
saved_name (Some (command.Check spec history)) = None
saved_name (Some (command.Complete spec history)) = None

-- 1 where there is a name, and else 0
abbrev one_if_some : Option (List ℕ) → ℕ
one_if_some None = 0
one_if_some (Some name) = 1

-- how many places of files the command has
abbrev pub files_named : Option Command → ℕ
files_named asked = files_read asked + one_if_some (saved_name asked)
