use Rattle.std.proofs.Common.{ap, arith, length}
use Rattle.trio_types.specs.declared.spec.Which.TheVariants as which
use Rattle.trio_types.specs.Verdict.{parts_of}
use Rattle.trio_types.proofs.Specs.{formed, within_limit}
use Rattle.history_table.proofs.rows.item_named.Goals as goal

pub overflow_cast-result : goal.overflow_cast-result
overflow_cast-result c =
    omega (arith, c.in_ok-place.ensures.within, ap length c.as_slice.ensures, within_limit (parts_of c.args.spec.now) (formed c.args.spec.now) which.Items)
