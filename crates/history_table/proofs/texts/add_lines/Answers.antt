use Rattle.std.proofs.Common.{◌≡◌, ◌+◌, ◌*◌, ◌≤◌, ◌++◌, length, string_bytes, arith, refl, mul-le-mul_left}
use Rattle.trio_types.specs.Cells.{rows_of, cells_of}
use Rattle.trio_types.specs.Verdict.{world_of}
use Rattle.trio_types.proofs.CellNumbers.{cell_count_is}
use Rattle.history_table.specs.Texts.{lines_text, given_text}
use Rattle.history_table.specs.Decoding.{row_from}
use Rattle.history_table.proofs.PrintedLines.{line_more, lines_whole}
use Rattle.history_table.proofs.texts.add_lines.Goals as goal

pub loop-row-init : goal.loop-row-init
loop-row-init c = (refl, omega arith)

pub split_at-requires : goal.split_at-requires
split_at-requires c =
    let w = world_of c.args.spec.now in
    let n = c.args.spec.now.instants in
    let k = c.loop-row.row in
    let rows = length (rows_of w) in
    let some : k + 1 ≤ rows = omega (arith, c.loop-row-test.true, c.row_count-row-end.ensures) in
    let more : n * (k + 1) ≤ n * rows = mul-le-mul_left n some in
    let cells : length (cells_of w) ≡ rows * n = cell_count_is w in
    omega (arith, more, cells, c.requires, c.loop-row.invariant.1)

pub loop-row-preserved : goal.loop-row-preserved
loop-row-preserved c =
    let w = world_of c.args.spec.now in
    let k = c.loop-row.row in
    let rest = c.loop-row.rest.now in (
      line_more w (rows_of w) rest c.split_at.result.1.now c.split_at.result.0.now k (row_from c.in_ok-parts.parts) (string_bytes c.loop-row.text) (string_bytes c.add_line.new.text)
          (string_bytes c.args.text.now ++ lines_text w (rows_of w) c.args.entries.now) c.in_ok-parts.ensures c.split_at.ensures.front c.split_at.ensures.back c.loop-row.invariant.0 c.in_ok-add_line.ensures,
      omega (arith, c.split_at.ensures.back_len, c.loop-row.invariant.1),
    )

pub returns : goal.returns
returns c =
    let w = world_of c.args.spec.now in
    let past : length (rows_of w) ≤ c.loop-row.row = omega (arith, c.loop-row-test.false, c.row_count-row-end.ensures) in
    lines_whole w (rows_of w) c.loop-row.rest.now c.loop-row.row (string_bytes c.loop-row.text) (string_bytes c.args.text.now ++ given_text w c.args.entries.now) past c.loop-row.invariant.0
