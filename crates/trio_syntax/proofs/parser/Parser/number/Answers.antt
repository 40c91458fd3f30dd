-- At each exit: the number, or that none stands in front.
use Rattle.trio_syntax.proofs.Left.{reads_one, stuck_one}
use Rattle.trio_syntax.proofs.parser.Parser.number.Goals as goal

pub returns-in-Some : goal.returns-in-Some
returns-in-Some c = reads_one c.in-Some.ensures

pub returns-in-None : goal.returns-in-None
returns-in-None c = stuck_one 0 c.in-None.ensures
