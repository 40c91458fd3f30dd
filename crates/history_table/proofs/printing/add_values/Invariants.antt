use Rattle.std.proofs.Common.{◌≡◌, ◌++◌, drop, string_bytes}
use denote.Text.{Utf8}
use denote.Shadow.{shadow}
use Rattle.trio_types.specs.Verdict.{world_of}
use Rattle.history_table.specs.Printed.{values_text}
use Rattle.history_table.proofs.printing.add_values.Given as goal

-- each text that the loop changes is text; what stands there, with what is still to come, is the whole
abbrev pub invariant-loop-place : goal.invariant-loop-place
invariant-loop-place l =
    shadow (Utf8 l.sign)
    × (string_bytes l.text ++ values_text (world_of l.spec) l.sign (drop l.place l.domains) (drop l.place l.values)
    ≡ string_bytes l.initial.text ++ values_text (world_of l.spec) l.first l.domains l.values)
