-- The branch of a model's single sets: it fits, and represents that model alone.
use Rattle.std.proofs.Common.{◌≡◌, ℕ, true, List, [], ◌∷◌, map, ◌∙◌, sym, refl}
use Rattle.std.proofs.lemmas.Bool.{and_parts, and_from}
use Rattle.std.proofs.lemmas.List.Elements.{All-nil}
use Rattle.branch_state.specs.Posed.{Posed, IsPosed}
use Rattle.branch_state.specs.Models.{IsModel}
use Rattle.branch_state.specs.Branches.{single_set, lies_in, reps, single_branch, WantFits, Fits}
use Rattle.branch_state.proofs.Represented.{reps_one}
use Rattle.branch_state.proofs.SetsFit.{singles_shrink, lies_in_singles, only_in_singles}

pub single_fits : (p : Posed) → IsPosed p → (table : List ℕ) → IsModel p table → Fits p (single_branch table)
single_fits p posed table is = record {
  sets = singles_shrink p posed table is.is_table.whole is.is_table.within is.extends_given;
  wants = All-nil (WantFits p);
}

pub single_represents : (p : Posed) (table : List ℕ) → IsModel p table → reps p (single_branch table) ≡ table ∷ []
single_represents p table is =
    reps_one p (single_branch table) table is (and_from (lies_in (map single_set table) table) true (lies_in_singles table) refl)
    (λ other model kept. only_in_singles table other (model.is_table.whole ∙ sym is.is_table.whole) (and_parts (lies_in (map single_set table) other) true kept).0)
