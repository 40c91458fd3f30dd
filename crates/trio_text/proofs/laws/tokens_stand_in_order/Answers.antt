-- by the derivation of the tokens
use Rattle.trio_text.proofs.Spans.{in_order}
use Rattle.trio_text.proofs.laws.tokens_stand_in_order.Goals as goal

pub returns : goal.returns
returns c = in_order
