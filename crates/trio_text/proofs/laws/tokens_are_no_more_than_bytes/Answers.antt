-- each token has a byte of its own
use Rattle.trio_text.proofs.Spans.{fewer}
use Rattle.trio_text.proofs.laws.tokens_are_no_more_than_bytes.Goals as goal

pub returns : goal.returns
returns c = fewer
