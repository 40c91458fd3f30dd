use Rattle.std.proofs.Common.{◌≡◌, ◌++◌, drop, string_bytes, flat_map}
use Rattle.std.specs.List.{enumerate_from}
use Rattle.trio_types.specs.Verdict.{world_of}
use Rattle.history_table.specs.Texts.{numbered_text, list_text}
use Rattle.history_table.proofs.texts.list_text.Given as goal

-- what stands there, with the tables that are still to come, is the whole
abbrev pub invariant-loop-place : goal.invariant-loop-place
invariant-loop-place l =
    let w = world_of l.spec in
    string_bytes l.text ++ flat_map (numbered_text w) (drop l.place (enumerate_from 1 l.tables)) ≡ list_text w l.tables
