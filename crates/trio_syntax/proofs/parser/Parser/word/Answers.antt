-- At each exit: the token, or that it is another.
use Rattle.trio_syntax.proofs.Left.{reads_one, stuck_one}
use Rattle.trio_syntax.proofs.parser.Parser.word.Goals as goal

pub returns-then-takes_word : goal.returns-then-takes_word
returns-then-takes_word c = reads_one c.if-takes_word.ensures.taken

pub returns-else-takes_word : goal.returns-else-takes_word
returns-else-takes_word c = stuck_one tt c.if-takes_word.ensures.left
