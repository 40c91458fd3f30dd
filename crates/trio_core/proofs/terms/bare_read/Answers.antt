-- The answers to the goals of `bare_read`.
use Rattle.std.proofs.Common.{◌≡◌, ℕ, [], Some, length, slice_get, true, sym, ap, ◌∙◌, arith}
use Rattle.std.proofs.lemmas.List.{nil_from_length}
use Rattle.trio_types.specs.declared.formula.Term.TheVariants as term
use Rattle.trio_types.specs.declared.spec.Declarations.{Declarations}
use Rattle.trio_types.specs.Cells.{the_cell, cells_of, are_indexes, item_takes, takes}
use Rattle.trio_types.specs.Values.{indexes}
use Rattle.trio_types.specs.Declarations.{declared_world}
use Rattle.trio_core.specs.declared.interpretation.Interpretation.{Interpretation}
use Rattle.trio_core.specs.Stands.{world_of_core}
use Rattle.trio_core.proofs.TermsFit.{world_is, read_item, cell_by_indexes}
use Rattle.trio_core.proofs.TermValues.{FitsUnder, ReadBy, read_by, read_declared}
use Rattle.trio_core.proofs.terms.bare_read.Goals as goal

-- an item without arguments takes none, and is read from the cell at none
record BareRead (under : Interpretation) (i n : ℕ) (declared : Declarations) : Type 0 where
  takes_none : takes (declared_world declared) n [] ≡ true
  by_cell : (m : ℕ) → slice_get (cells_of (declared_world declared)) m ≡ Some (the_cell n [] i) → ReadBy under i n [] m

bare : (under : Interpretation) (i n : ℕ) (declared : Declarations) → FitsUnder under (term.Read n []) → declared.instants ≡ under.core.now.instants → declared.domains.now ≡ under.core.now.domains → declared.items.now ≡ under.core.now.items →
    BareRead under i n declared
bare under i n declared fits instants domains items =
    let w = world_of_core under.core.now in
    let r = read_item w n [] under.values.now fits in
    let none = nil_from_length r.0.args r.2 in
    let same = world_is (declared_world declared) w instants domains items in
    record {
      takes_none = ap (λ w. takes w n []) same ∙ ap (λ o. item_takes w o []) r.1 ∙ ap (λ ds. are_indexes w.domains ds []) none;
      by_cell = λ m place.
          read_by under i n [] m (the_cell n [] i) fits (cell_by_indexes w n r.0 [] i (Some []) r.1 (ap (λ ds. indexes w.domains ds []) none)) (ap (λ w. slice_get (cells_of w) m) (sym same) ∙ place);
    }

pub cell_of-cell-requires-clause-item_in : goal.cell_of-cell-requires-clause-item_in
cell_of-cell-requires-clause-item_in c = omega (arith, read_declared c.args.item [] c.requires.term_fits, ap length c.declarations.ensures.items)

pub cell_of-cell-requires-clause-args_in : goal.cell_of-cell-requires-clause-args_in
cell_of-cell-requires-clause-args_in c =
    (bare c.args.under.now c.args.instant c.args.item c.declarations.result c.requires.term_fits c.declarations.ensures.instants c.declarations.ensures.domains c.declarations.ensures.items).takes_none

pub cell_value-requires-clause-cell_is : goal.cell_value-requires-clause-cell_is
cell_value-requires-clause-cell_is c =
    let of = bare c.args.under.now c.args.instant c.args.item c.declarations.result c.requires.term_fits c.declarations.ensures.instants c.declarations.ensures.domains c.declarations.ensures.items in
    (of.by_cell c.cell_of-cell.result c.cell_of-cell.ensures).cell_is

pub returns : goal.returns
returns c =
    let of = bare c.args.under.now c.args.instant c.args.item c.declarations.result c.requires.term_fits c.declarations.ensures.instants c.declarations.ensures.domains c.declarations.ensures.items in
    (of.by_cell c.cell_of-cell.result c.cell_of-cell.ensures).answer c.cell_value.result c.cell_value.ensures
