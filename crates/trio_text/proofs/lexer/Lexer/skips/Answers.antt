-- past a blank, with LF and without, and past a comment
use Rattle.std.proofs.Common.{◌+◌, ap, sym, ◌∙◌}
use Rattle.trio_text.proofs.Steps.{skips_blank, line_at_newline, line_elsewhere, skips_comment}
use Rattle.trio_text.proofs.lexer.Lexer.skips.Goals as goal

pub returns-then-first-eq10-clause-skipped : goal.returns-then-first-eq10-clause-skipped
returns-then-first-eq10-clause-skipped c =
    skips_blank _ _ c.in-Some.first.now _ _ _ _ _ c.in-Some.ensures.cases.0 c.if-is_blank.ensures c.advance.ensures.place
    (ap (λ n. n + 1 + 1) c.advance.ensures.newlines ∙ sym (line_at_newline _ _ c.if-first-eq10.true)) c.advance.ensures.rest

pub returns-else-first-eq10-clause-skipped : goal.returns-else-first-eq10-clause-skipped
returns-else-first-eq10-clause-skipped c =
    skips_blank _ _ c.in-Some.first.now _ _ _ _ _ c.in-Some.ensures.cases.0 c.if-is_blank.ensures c.advance.ensures.place
    (ap (λ n. n + 1) c.advance.ensures.newlines ∙ sym (line_elsewhere _ _ c.if-first-eq10.false)) c.advance.ensures.rest

pub returns-then-starts_with-clause-skipped : goal.returns-then-starts_with-clause-skipped
returns-then-starts_with-clause-skipped c =
    skips_comment _ _ _ _ _ _ _ c.if-starts_with.ensures.value c.line_length.ensures c.advance-then-starts_with.ensures.place
    (ap (λ n. n + 1) c.advance-then-starts_with.ensures.newlines) c.advance-then-starts_with.ensures.rest
