-- The entry of one cell more.
use Rattle.std.proofs.Common.{◌≡◌, ℕ, Bool, true, List, [], ◌∷◌, ◌++◌, length, Some, slice_get, zip}
use Rattle.std.specs.List.{list_all}
use Rattle.std.specs.Option.{option_map}
use Rattle.trio_types.specs.World.{World}
use Rattle.trio_types.specs.Cells.{cells_of, cell_size}
use Rattle.trio_types.proofs.Lists.{map_some}
use Rattle.trio_tests.proofs.More.{all_more}

-- where each entry is as its cell's size asks, so is one more
pub one_more_entry : (q : ℕ → ℕ → Bool) (w : World) (entries : List ℕ) (size entry : ℕ) →
    list_all (λ p. q (cell_size w p.0) p.1) (zip (cells_of w) entries) ≡ true →
    option_map (cell_size w) (slice_get (cells_of w) (length entries)) ≡ Some size → q size entry ≡ true →
    list_all (λ p. q (cell_size w p.0) p.1) (zip (cells_of w) (entries ++ entry ∷ [])) ≡ true
one_more_entry q w entries size entry all sized is =
    let cell = map_some (cell_size w) (slice_get (cells_of w) (length entries)) size sized in
    all_more (λ p. q (cell_size w p.0) p.1) (cells_of w) entries cell.0 entry all cell.1 (rw cell.2 is)
