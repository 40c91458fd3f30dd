-- At each exit: the token, or that it is another.
use Rattle.trio_syntax.proofs.Left.{reads_one, stuck_one}
use Rattle.trio_syntax.proofs.parser.Parser.sign.Goals as goal

pub returns-then-takes_sign : goal.returns-then-takes_sign
returns-then-takes_sign c = reads_one c.if-takes_sign.ensures.taken

pub returns-else-takes_sign : goal.returns-else-takes_sign
returns-else-takes_sign c = stuck_one tt c.if-takes_sign.ensures.left
