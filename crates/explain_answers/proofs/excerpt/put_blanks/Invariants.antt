-- What is as wide as the bytes so far stands there.
use Rattle.std.proofs.Common.{◌≡◌, ◌++◌, map, take}
use Rattle.explain_answers.specs.Excerpt.{blank}
use Rattle.explain_answers.proofs.excerpt.put_blanks.Given as goal

abbrev pub invariant-loop-byte : goal.invariant-loop-byte
invariant-loop-byte l = l.out.items ≡ l.fn.out.items ++ map blank (take l.byte-index l.bytes)
