-- The table that a given history is.
use Rattle.std.proofs.Common.{◌≡◌, ℕ, nat_lt, ◌&&◌, List, [], ◌∷◌, length, map, Option, Some, refl, sym, ◌∙◌, ap}
use Rattle.std.specs.List.{list_all, zip}
use Rattle.std.proofs.lemmas.List.{length-map}
use Rattle.trio_types.specs.World.{World}
use Rattle.trio_types.specs.Cells.{Cell, cells_of, cell_size, IsTable}
use Rattle.history_table.specs.Fitting.{is_below, IsGiven}

pub known_within : (w : World) (cells : List Cell) (table : List ℕ) →
    list_all (λ p. is_below p.1 (cell_size w p.0)) (zip cells (map Some table)) ≡ list_all (λ p. nat_lt p.1 (cell_size w p.0)) (zip cells table)
known_within w [] table = refl
known_within w (c ∷ cs) [] = refl
known_within w (c ∷ cs) (v ∷ vs) = ap (λ b. nat_lt v (cell_size w c) && b) (known_within w cs vs)

-- a given history in which every value is known is a table
pub table_fits : (w : World) (given : List (Option ℕ)) (table : List ℕ) → IsGiven w given → given ≡ map Some table → IsTable w table
table_fits w given table fits known = record {
  whole = sym (length-map table Some) ∙ ap length (sym known) ∙ fits.whole;
  within = sym (known_within w (cells_of w) table)
      ∙ ap (λ g. list_all (λ p. is_below p.1 (cell_size w p.0)) (zip (cells_of w) g)) (sym known) ∙ fits.within;
}
