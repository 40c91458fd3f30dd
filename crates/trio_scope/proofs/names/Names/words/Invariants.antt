-- What the loop of `words` keeps.
use Rattle.std.proofs.Common.{◌≡◌, take}
use Rattle.trio_scope.specs.Names.{words_from}
use Rattle.trio_scope.specs.Table.{AddsDeclarations}
use Rattle.trio_scope.proofs.names.Names.words.Given as goal

abbrev pub invariant-loop-word : goal.invariant-loop-word
invariant-loop-word l = (l.index ≡ l.word-index) × AddsDeclarations l.fn.self l.self (words_from l.domain 0 (take l.word-index l.words))
