-- By the table of the operators.
use Rattle.trio_syntax.proofs.Tokens.{finds_far}
use Rattle.trio_syntax.proofs.parser.Parser.takes_far_operator.Goals as goal

pub returns : goal.returns
returns c = finds_far c.args.self.now c.takes_word_of.new.self c.takes_word_of.result c.takes_word_of.ensures
