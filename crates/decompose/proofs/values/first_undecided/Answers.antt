-- The answers to the goals of `first_undecided`.
use Rattle.std.proofs.Common.{◌≡◌, ◌<◌, length, sym, ap, ◌∙◌, arith, rules}
use Rattle.std.proofs.Math.Logic.{⊎_elim}
use Rattle.std.proofs.lemmas.Bool.{cases_lt}
use Rattle.trio_types.specs.Cells.{cells_of}
use Rattle.trio_core.specs.Stands.{world_of_core}
use Rattle.decompose.specs.Reads.{is_undecided}
use Rattle.decompose.proofs.Leasts.{few_sets, find_first, find_none}
use Rattle.decompose.proofs.values.first_undecided.Goals as goal

pub overflow_cast-cells : goal.overflow_cast-cells
overflow_cast-cells c =
    let few : length c.args.sets.now < 4294967296 = omega (arith, few_sets c.args.core.now c.args.sets.now c.requires) in
    search rules

pub returns-then-is_undecided : goal.returns-then-is_undecided
returns-then-is_undecided c =
    let w = world_of_core c.args.core.now in
    let sets = c.args.sets.now in
    sym (find_first (is_undecided w sets) 0 (length (cells_of w)) c.loop-cell.cell (omega arith)
    (omega (arith, c.loop-cell-test.true, c.requires.whole))
    (sym c.is_undecided.ensures ∙ c.if-is_undecided.true) (λ u start end. c.loop-cell.invariant u end))

pub loop-cell-preserved : goal.loop-cell-preserved
loop-cell-preserved c =
    let w = world_of_core c.args.core.now in
    let sets = c.args.sets.now in
    λ n below.
    ⊎_elim (λ less. c.loop-cell.invariant n less)
    (λ more. let same : n ≡ c.loop-cell.cell = omega (arith, below, more) in ap (is_undecided w sets) same ∙ sym c.is_undecided.ensures ∙ c.if-is_undecided.false)
    (cases_lt n c.loop-cell.cell)

pub returns : goal.returns
returns c =
    let w = world_of_core c.args.core.now in
    let sets = c.args.sets.now in
    sym (find_none (is_undecided w sets) 0 (length (cells_of w)) (λ u start end. c.loop-cell.invariant u (omega (arith, end, c.loop-cell-test.false, c.requires.whole))))
