-- The answers to the goals of `undecided_of_atom`.
use Rattle.std.proofs.Common.{sym, ◌∙◌}
use Rattle.trio_core.specs.Stands.{world_of_core}
use Rattle.decompose.specs.Reads.{is_undecided}
use Rattle.decompose.proofs.Readings.{cells_read, first_of_both, second_of_both}
use Rattle.decompose.proofs.reads.undecided_of_atom.Goals as goal

pub returns-in-Some : goal.returns-in-Some
returns-in-Some c =
    let w = world_of_core c.args.under.core.now in
    let sets = c.args.under.doms.now in
    let e = c.args.under.values.now in
    let i = c.args.instant in
    let first = cells_read w sets e i c.args.left.now in
    let second = cells_read w sets e i c.args.right.now in
    sym (first_of_both (is_undecided w sets) first second c.in-Some.cell (sym c.undecided_of_term.ensures ∙ c.in-Some.is))

pub returns-in-None : goal.returns-in-None
returns-in-None c =
    let w = world_of_core c.args.under.core.now in
    let sets = c.args.under.doms.now in
    let e = c.args.under.values.now in
    let i = c.args.instant in
    let first = cells_read w sets e i c.args.left.now in
    let second = cells_read w sets e i c.args.right.now in
    sym (second_of_both (is_undecided w sets) first second c.undecided_of_term-in-None.result (sym c.undecided_of_term.ensures ∙ c.in-None.is) (sym c.undecided_of_term-in-None.ensures))
