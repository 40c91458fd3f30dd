-- What a command is to do.
use Rattle.std.specs.Prelude.{ℕ, List}
use Rattle.trio_io.specs.Outside.{ShelfView}
use Rattle.trio_jobs.specs.declared.status.Status.{Status}

-- The answer due of a command, and where its reading may break off: all that what is said of every command asks of one.
pub record Job : Type 1 where
  -- for the files of this shelf, this status and this text are due, and it takes this many files to know it
  pub due : ShelfView → ℕ → Status → List ℕ → Type 0
  -- the command reads a file at this place, counted from 1, and the files before it have been read
  pub reaches : ShelfView → ℕ → Type 0
