-- What shelves in memory hold and count, and what they answer.
use Rattle.std.specs.Prelude.{ℕ, ◌==◌, Bool, true, false, List, length, Option, Some, None, Result, Ok, Err, if◌then◌else◌}
use Rattle.std.specs.Bool.{nat_lt}
use Rattle.std.specs.List.{list_any}
use Rattle.std.specs.Option.{option_map}
use Rattle.std.specs.BTreeMap.{get_by_text}
use Rattle.trio_io.specs.Outside.{FileMap, ShelfCounts, ShelfView, raised}
use Rattle.trio_io.specs.declared.files.Files.{Files}
use Rattle.trio_io.specs.declared.memory_shelf.MemShelf.{MemShelf}
use Rattle.trio_io.specs.declared.sure.SureShelf.{SureShelf}
use Rattle.trio_io.specs.declared.shelf.ShelfFault.{ShelfFault}
use Rattle.trio_io.specs.declared.shelf.ShelfFault.TheVariants as fault

-- The bytes under each name.
abbrev pub files_of : Files → FileMap
files_of files name = option_map (λ bytes. bytes.items) (get_by_text files.entries name)

abbrev pub mem_files : MemShelf → FileMap
mem_files shelf = files_of shelf.files

abbrev pub mem_counts : MemShelf → ShelfCounts
mem_counts shelf = record {
  absences = shelf.absences;
  failed_fetches = shelf.failed_fetches;
  failed_puts = shelf.failed_puts;
  calls = shelf.calls;
}

-- It tells its files.
abbrev pub mem_seen : MemShelf → ShelfView
mem_seen shelf = record { tells = true; file = mem_files shelf; counts = mem_counts shelf }

-- Whether the next call is one of those that fail; calls are counted from 1.
abbrev pub mem_fails : MemShelf → Bool
mem_fails shelf = list_any (λ number. number == raised shelf.calls) shelf.failing

-- The counts after a fetch, where it was to fail or not, and of what was under the name.
abbrev pub fetch_counts : Bool → Option (List ℕ) → ShelfCounts → ShelfCounts
fetch_counts true file before = record before { failed_fetches = raised before.failed_fetches; calls = raised before.calls }
fetch_counts false None before = record before { absences = raised before.absences; calls = raised before.calls }
fetch_counts false (Some bytes) before = record before { calls = raised before.calls }

-- The answer of a fetch, want of memory aside.
abbrev pub fetch_answer : Bool → Option (List ℕ) → ℕ → Result (Unit {0}) ShelfFault
fetch_answer true file max = Err fault.Failed
fetch_answer false None max = Err fault.Failed
fetch_answer false (Some bytes) max = if nat_lt max (length bytes) then Err fault.TooLong else Ok tt

-- The counts after a put, where it was to fail or not.
abbrev pub put_counts : Bool → ShelfCounts → ShelfCounts
put_counts true before = record before { failed_puts = raised before.failed_puts; calls = raised before.calls }
put_counts false before = record before { calls = raised before.calls }

-- The answer of a put, want of memory aside.
abbrev pub put_answer : Bool → Result (Unit {0}) ShelfFault
put_answer true = Err fault.Failed
put_answer false = Ok tt

-- What a shelf whose calls never fail holds and counts: absences alone.
abbrev pub sure_seen : SureShelf → ShelfView
sure_seen shelf = record {
  tells = true;
  file = files_of shelf.files;
  counts = record { absences = shelf.absences; failed_fetches = 0; failed_puts = 0; calls = 0 };
}
