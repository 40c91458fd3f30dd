-- The answer to the goal of `token_lines_count_newlines`.
use Rattle.trio_text.proofs.Lines.{lines_count}
use Rattle.trio_text.proofs.laws.token_lines_count_newlines.Goals as goal

pub returns : goal.returns
returns c = λ text tokens k token lexes at. lines_count text tokens lexes k token at
