use Rattle.std.proofs.Common.{◌≡◌, ◌<◌, sym, ap, ◌∙◌, Some, None, length, take, map, get_or, set, subst, ◌+◌}
use Rattle.std.proofs.lemmas.List.{length-set}
use Rattle.history_table.specs.Fitting.{first_unknown}
use Rattle.history_table.proofs.Whole.{is_known, known_more}
use Rattle.history_table.proofs.given.Given.whole.Goals.{in-Some-index, in_default-index}
use Rattle.history_table.proofs.given.Given.whole.Goals as goal

pub loop-cell-preserved : goal.loop-cell-preserved
loop-cell-preserved c =
    let given = c.args.self.now in
    let cell = c.loop-cell.cell in
    let table = c.loop-cell.into in
    let same = c.as_slice-index-items.ensures in
    let inside : cell < length given = subst (λ xs. cell < length xs) same c.loop-cell-test.true in
    elim c.match-index.branch [
      | in-Some-index w ↦
          let is = sym (ap (λ xs. get_or xs cell None) (sym same) ∙ w.in-Some-index.is) in
          let more : c.match-index.into ≡ set table cell w.in-Some-index.index = w.into-is ∙ w.set.ensures in (
            known_more given table cell w.in-Some-index.index inside c.loop-cell.invariant.1 is c.loop-cell.invariant.0 ∙ ap (λ ys. map Some (take (cell + 1) ys)) (sym more),
            ap length more ∙ length-set table cell w.in-Some-index.index ∙ c.loop-cell.invariant.1,
          )
      | in_default-index w ↦
          let none = ap first_unknown (sym c.as_slice.ensures) ∙ sym (sym c.in_default.is ∙ c.first_unknown.ensures.is) in
          absurd (is_known given cell none inside (ap (λ xs. get_or xs cell None) (sym same) ∙ w.in_default-index.is))
    ]
