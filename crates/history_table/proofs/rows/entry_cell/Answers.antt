use Rattle.std.proofs.Common.{sym, arith}
use Rattle.std.proofs.lemmas.Option.{slice_get_within}
use Rattle.trio_types.specs.Verdict.{parts_of}
use Rattle.trio_types.proofs.Specs.{formed, value_domain}
use Rattle.history_table.proofs.RowNumbers.{value_index_small}
use Rattle.history_table.proofs.rows.entry_cell.Goals as goal

pub value_index-requires : goal.value_index-requires
value_index-requires c =
    let d = value_domain (parts_of c.args.spec.now) (formed c.args.spec.now) c.args.item c.get.result.now c.get.ensures in
    slice_get_within c.args.spec.now.domains c.get.result.now.value d.0 d.1

pub overflow_cast-result : goal.overflow_cast-result
overflow_cast-result c =
    let d = value_domain (parts_of c.args.spec.now) (formed c.args.spec.now) c.args.item c.get.result.now c.get.ensures in
    let small =
    value_index_small c.args.spec.now c.get.result.now.value c.in-Some.value c.in_ok-index-in-Some.index (slice_get_within c.args.spec.now.domains c.get.result.now.value d.0 d.1)
    (sym c.in_ok-index-in-Some.ensures) in
    omega (arith, small)
