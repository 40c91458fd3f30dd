-- the tokens so far, and the rest of the text
use Rattle.std.proofs.Common.{◌+◌, length}
use Rattle.trio_text.specs.Reading.{ReadsTokens}
use Rattle.trio_text.proofs.lexer.tokens.Given as goal

abbrev pub invariant-loop-lexer : goal.invariant-loop-lexer
invariant-loop-lexer l = ReadsTokens 0 1 l.text l.found l.lexer.place (l.lexer.newlines + 1) l.lexer.rest.now

abbrev pub decreases-loop-lexer : goal.decreases-loop-lexer
decreases-loop-lexer l = length l.lexer.rest.now
