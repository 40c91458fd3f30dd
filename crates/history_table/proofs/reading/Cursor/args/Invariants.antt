use Rattle.std.proofs.Common.{◌≡◌, length, true}
use Rattle.history_table.specs.Decoding.{args_from, args_front}
use Rattle.history_table.proofs.Decodes.{behind_args}
use Rattle.history_table.proofs.reading.Cursor.args.Given as goal

abbrev pub invariant-loop-found : goal.invariant-loop-found
invariant-loop-found l = args_front l.fn.self.rest.now ≡ behind_args l.found.items (args_from true l.self.rest.now)

abbrev pub decreases-loop-found : goal.decreases-loop-found
decreases-loop-found l = length l.self.rest.now
