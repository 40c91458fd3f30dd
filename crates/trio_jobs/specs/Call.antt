-- A call seen from outside.
use Rattle.std.specs.Prelude.{◌≡◌, ℕ, List}
use Rattle.trio_io.specs.Outside.{ShelfView, BellView}

-- the shelf and the bell, before a call and now
pub record Call : Type 0 where
  pub before : ShelfView
  pub now : ShelfView
  pub bell : BellView
  pub rung : BellView

-- the call between these
abbrev pub call_of : ShelfView → ShelfView → BellView → BellView → Call
call_of before now bell rung = record { before = before; now = now; bell = bell; rung = rung }

-- what is said of a call that knows of no bell holds whichever bell is left alone beside it
abbrev pub Beside : ShelfView → ShelfView → (Call → Type 0) → Type 0
Beside before now says = (bell : BellView) → says (call_of before now bell bell)

-- every file is as it was
abbrev pub KeepsFiles : Call → Type 0
KeepsFiles call = (name : List ℕ) → call.now.file name ≡ call.before.file name
