use Rattle.std.proofs.Common.{◌≡◌, ◌+◌, ◌*◌, ◌++◌, drop, length, string_bytes}
use Rattle.trio_types.specs.Cells.{rows_of}
use Rattle.trio_types.specs.Verdict.{world_of}
use Rattle.history_table.specs.Texts.{lines_text}
use Rattle.history_table.proofs.texts.add_lines.Given as goal

-- what stands there, with the lines that are still to come, is the whole; each row that is left has its entries
abbrev pub invariant-loop-row : goal.invariant-loop-row
invariant-loop-row l =
    let w = world_of l.spec in
    (string_bytes l.text ++ lines_text w (drop l.row (rows_of w)) l.rest ≡ string_bytes l.initial.text ++ lines_text w (rows_of w) l.entries)
    × (length l.rest + l.row * w.instants ≡ length l.entries)
