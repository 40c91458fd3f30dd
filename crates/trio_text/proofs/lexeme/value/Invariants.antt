-- the value of the digits so far, or one above the greatest
use Rattle.std.proofs.Common.{◌≡◌, min, take}
use Rattle.trio_text.specs.Lexemes.{number_of}
use Rattle.trio_text.proofs.lexeme.value.Given as goal

abbrev pub invariant-loop-digit : goal.invariant-loop-digit
invariant-loop-digit l = l.value ≡ min (number_of (take l.digit-index l.digits)) 1000001
