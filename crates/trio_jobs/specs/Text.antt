-- The text of an answer.
use Rattle.std.specs.Prelude.{ℕ, List}
use Rattle.std.specs.List.{flat_map}
use Rattle.trio_jobs.specs.declared.answer.Answer.{Answer}

-- its pieces, one behind another
abbrev pub text_of : Answer → List ℕ
text_of answer = flat_map (λ piece. piece.items) answer.pieces.items
