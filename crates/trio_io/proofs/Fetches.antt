-- What a reader appended to a list.
use Rattle.std.proofs.Common.{◌≡◌, ℕ, ◌+◌, ◌≤◌, false, List, length, take, drop, arith}
use Rattle.std.proofs.lemmas.Grind.{common_steps}
use Rattle.trio_io.specs.Outside.{ShelfView, Fetched}

-- A list that still begins as it was has grown by a list of its own.
pub appended : (shelf : ShelfView) (name old new : List ℕ) (count max : ℕ) → shelf.tells ≡ false → take (length old) new ≡ old
    → length new ≡ length old + count → count ≤ max → Fetched shelf name max old new
appended shelf name old new count max untold front grown fits = record {
  bytes = drop (length old) new;
  added = grind (arith, common_steps);
  within = grind (arith, common_steps);
  told = λ told. cc;
}
