use Rattle.std.proofs.Common.{◌≡◌, length}
use Rattle.trio_types.specs.Verdict.{world_of}
use Rattle.history_table.specs.Decoding.{lines_by, line_places}
use Rattle.history_table.proofs.LineSteps.{Behind}
use Rattle.history_table.proofs.lines.read_lines.Given as goal

abbrev pub invariant-loop-first : goal.invariant-loop-first
invariant-loop-first l = record {
  lines : Behind (world_of l.spec) (lines_by l.tokens l.lexemes) (lines_by l.tokens_left l.lexemes_left) l.found.lines;
  as_many : length l.lexemes_left ≡ length l.tokens_left;
  placed : l.found.places ≡ line_places (world_of l.spec) l.found.lines;
}

abbrev pub decreases-loop-first : goal.decreases-loop-first
decreases-loop-first l = length l.tokens_left
