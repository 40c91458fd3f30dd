-- What the loop over words keeps.
use Rattle.std.proofs.Common.{◌≡◌, map, take}
use Rattle.trio_reader.proofs.declaring.names_of.Given as goal

abbrev pub invariant-loop-mention : goal.invariant-loop-mention
invariant-loop-mention l = l.made.items ≡ map (λ m. m.name) (take l.mention-index l.mentions)
