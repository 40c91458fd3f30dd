-- past the token at the front, which is not empty
use Rattle.trio_text.proofs.Steps.{reads_front, front_shorter}
use Rattle.trio_text.proofs.lexer.Lexer.token.Goals as goal

pub returns-clause-read : goal.returns-clause-read
returns-clause-read c =
    reads_front _ _ c.in-Some.kind _ c.in-Some.count _ _ _ c.in-Some.ensures c.advance.ensures.place c.advance.ensures.newlines c.advance.ensures.rest

pub returns-clause-shorter : goal.returns-clause-shorter
returns-clause-shorter c = front_shorter c.in-Some.kind _ c.in-Some.count _ c.in-Some.ensures c.advance.ensures.rest
