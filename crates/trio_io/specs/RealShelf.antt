-- What a shelf of real files is seen as.
use Rattle.std.specs.Prelude.{ℕ, false, None}
use Rattle.trio_io.specs.Outside.{ShelfView}

-- it tells no files, and counts failed fetches and failed puts alone
abbrev pub untold : ℕ → ℕ → ShelfView
untold failed_fetches failed_puts = record {
  tells = false;
  file = λ name. None;
  counts = record { absences = 0; failed_fetches = failed_fetches; failed_puts = failed_puts; calls = 0 };
}
