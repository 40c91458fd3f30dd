-- what the tokens so far say
use Rattle.std.proofs.Common.{◌≡◌, take}
use Rattle.trio_text.specs.Lexemes.{lexemes_of}
use Rattle.trio_text.proofs.lexeme.lexemes.Given as goal

abbrev pub invariant-loop-token : goal.invariant-loop-token
invariant-loop-token l = l.found.items ≡ lexemes_of l.text (take l.token-index l.token-items)
