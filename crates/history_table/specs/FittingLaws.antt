-- Which table extends a given history, and which cell is its first unknown one, place by place.
use Rattle.std.specs.Prelude.{◌≡◌, ◌↔◌, ℕ, ◌<◌, true, List, Option, None, Some, length, slice_get}
use Rattle.history_table.specs.Fitting.{extends, first_unknown}

-- the table has as many entries, and each value that is given
pub record Extends (given : List (Option ℕ)) (table : List ℕ) : Type 0 where
  pub as_many : length table ≡ length given
  pub each : (k v : ℕ) → slice_get given k ≡ Some (Some v) → slice_get table k ≡ Some v

abbrev pub ExtendsLaw : Type 0
ExtendsLaw = (given : List (Option ℕ)) (table : List ℕ) → (extends given table ≡ true) ↔ Extends given table

-- nothing is known there, and something at each place before
pub record IsFirstUnknown (given : List (Option ℕ)) (n : ℕ) : Type 0 where
  pub here : slice_get given n ≡ Some None
  pub before : (k : ℕ) → k < n → (v : ℕ) × (slice_get given k ≡ Some (Some v))

abbrev pub FirstUnknownLaw : Type 0
FirstUnknownLaw = (given : List (Option ℕ)) (n : ℕ) → (first_unknown given ≡ Some n) ↔ IsFirstUnknown given n
