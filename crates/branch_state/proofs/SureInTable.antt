-- The single sets of a table decide every node, as the table does.
use Rattle.std.proofs.Common.{◌≡◌, ℕ, ℤ, true, ◌==◌, nat_lt, List, [], ◌∷◌, map, length, zip, refl, sym, ap, ◌∙◌}
use Rattle.std.specs.List.{list_all}
use Rattle.std.proofs.lemmas.Bool.{and_parts, and_from, ltb-true, eq-eqb}
use Rattle.trio_types.specs.World.{World}
use Rattle.trio_types.specs.Cells.{Cell, IsTable, cells_of, cell_size}
use Rattle.trio_core.specs.declared.nodes.Node.{Node}
use Rattle.trio_core.specs.Core.{core_truth_from}
use Rattle.trio_core.specs.Sets.{members, AreSets, AreSingle, LiesIn}
use Rattle.trio_core.specs.Three.{sure, core_truth3}
use Rattle.trio_core.proofs.Sole.{one_bit}
use Rattle.trio_core.proofs.Decided.{truth_law, single_law}
use Rattle.branch_state.specs.Branches.{single_set}
use Rattle.branch_state.proofs.SetsFit.{single_is_set, singles_length, singles_fit, lies_in_singles}

singles_are_single : (w : World) (cells : List Cell) (table : List ℕ) → list_all (λ q. nat_lt q.1 (cell_size w q.0)) (zip cells table) ≡ true →
    list_all (λ q. length (members (cell_size w q.0) q.1) == 1) (zip cells (map single_set table)) ≡ true
singles_are_single w [] table below = refl
singles_are_single w (c ∷ cs) [] below = refl
singles_are_single w (c ∷ cs) (v ∷ vs) below =
    let under = and_parts (nat_lt v (cell_size w c)) (list_all (λ q. nat_lt q.1 (cell_size w q.0)) (zip cs vs)) below in
    let only = one_bit (cell_size w c) (single_set v) v (single_is_set (cell_size w c) v (ltb-true v (cell_size w c) under.0)) refl in
    and_from (length (members (cell_size w c) (single_set v)) == 1) (list_all (λ q. length (members (cell_size w q.0) q.1) == 1) (zip cs (map single_set vs)))
    (eq-eqb (length (members (cell_size w c) (single_set v))) 1 (ap length only)) (singles_are_single w cs vs under.1)

pub singles_are_sets : (w : World) (table : List ℕ) → IsTable w table → AreSets w (map single_set table)
singles_are_sets w table is = record { whole = singles_length table ∙ is.whole; each = singles_fit w (cells_of w) table is.within }

pub sure_in_table : (w : World) (nodes : List Node) (table : List ℕ) → IsTable w table → (a from : ℕ) (e : List ℤ) (i : ℕ) →
    core_truth3 w nodes a from e (map single_set table) i ≡ sure (core_truth_from w nodes a from e table i)
sure_in_table w nodes table is a from e i =
    let sets = map single_set table in
    let single : AreSingle w sets =
    record {
      are_sets = singles_are_sets w table is;
      each = singles_are_single w (cells_of w) table is.within;
    } in
    let lies : LiesIn w sets table = record { is_table = is; as_many = singles_length table; inside = lies_in_singles table } in
    let decided = single_law w nodes sets single a from e i in
    decided.1 ∙ ap sure (sym (truth_law w nodes sets table lies a from e i decided.0 decided.1))
