use Rattle.std.proofs.Common.{ap, arith, length}
use Rattle.trio_types.specs.Verdict.{parts_of}
use Rattle.trio_types.proofs.Specs.{formed, some_value}
use Rattle.trio_types.proofs.Domains.{count_of_values}
use Rattle.history_table.proofs.rows.value_index.Goals as goal

pub returns-in_err-place-in-Words-Word : goal.returns-in_err-place-in-Words-Word
returns-in_err-place-in-Words-Word c =
    rw (c.from_residual.ensures, c.get.ensures, c.in-Words-Word.is-0, c.in-Words-Word.is-1, ← c.as_slice.ensures, ← c.as_str.ensures) c.in_err-place-in-Words-Word.ensures.is

pub overflow_cast-result : goal.overflow_cast-result
overflow_cast-result c =
    let few = (some_value (parts_of c.args.spec.now) (formed c.args.spec.now) c.args.domain c.get.result.now c.get.ensures).1 in
    let same = ap count_of_values c.in-Words-Word.is-0 in
    omega (arith, c.in_ok-place-in-Words-Word.ensures.within, ap length c.as_slice.ensures, same, few)

pub returns-in_ok-place-in-Words-Word : goal.returns-in_ok-place-in-Words-Word
returns-in_ok-place-in-Words-Word c =
    rw (c.get.ensures, c.in-Words-Word.is-0, c.in-Words-Word.is-1, ← c.as_slice.ensures, ← c.as_str.ensures) c.in_ok-place-in-Words-Word.ensures.is
