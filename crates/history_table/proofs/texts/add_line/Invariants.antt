use Rattle.std.proofs.Common.{◌≡◌, ◌++◌, drop, string_bytes, flat_map}
use Rattle.trio_types.specs.Verdict.{world_of}
use Rattle.history_table.specs.Texts.{entry_behind_blank}
use Rattle.history_table.proofs.texts.add_line.Given as goal

-- what stands there, with what is still to come, is the line without its end
abbrev pub invariant-loop-entry : goal.invariant-loop-entry
invariant-loop-entry l =
    let w = world_of l.spec in
    string_bytes l.text ++ flat_map (entry_behind_blank w l.domain) (drop l.entry-index l.entries)
    ≡ (string_bytes l.initial.text) ++ flat_map (entry_behind_blank w l.domain) l.entries
