-- At each exit: the next declaration, where one begins.
use Rattle.std.proofs.Common.{refl}
use Rattle.trio_text.specs.declared.token.Reserved.TheVariants as words
use Rattle.trio_syntax.specs.Forms.{word, item_kind, either}
use Rattle.trio_syntax.specs.Grammar.{domain_rest, domain, item_rest, item}
use Rattle.trio_syntax.specs.Exact.{tokens_of}
use Rattle.trio_syntax.proofs.Left.{left_read, left_stuck, left_right, left_first, left_seq, reads_one, fronts_taken}
use Rattle.trio_syntax.proofs.Exits.{passed_next, fronts_one, fronts_other}
use Rattle.trio_syntax.proofs.parser.Parser.next_declaration.Goals as goal

pub returns-in_err-name : goal.returns-in_err-name
returns-in_err-name c =
    passed_next (either item domain) item_rest _ _ _ _ _ c.from_residual.ensures.1 c.in_err-name.ensures (fronts_one (tokens_of (word words.Domain)) (fronts_taken c.in-Some.ensures))
    (λ stuck. left_stuck (left_first refl (fronts_taken c.in-Some.ensures)) (left_stuck (left_seq refl (reads_one c.in-Some.ensures)) stuck))

pub returns-in-Some : goal.returns-in-Some
returns-in-Some c =
    ((fronts_one (tokens_of (word words.Domain)) (fronts_taken c.in-Some.ensures)), left_read (left_first refl (fronts_taken c.in-Some.ensures)) (left_read (left_seq refl (reads_one c.in-Some.ensures)) c.in_ok-name.ensures))

pub returns-in_err-name-2 : goal.returns-in_err-name-2
returns-in_err-name-2 c =
    passed_next (either item domain) domain_rest _ _ _ _ _ c.from_residual-in_err-name-2.ensures.1 c.in_err-name-2.ensures (fronts_other (tokens_of item_kind) c.in_default.ensures (fronts_taken c.if-takes_word.ensures.taken))
    (λ stuck. left_stuck (left_right refl c.in_default.ensures) (left_stuck (left_seq refl (reads_one c.if-takes_word.ensures.taken)) stuck))

pub returns-then-takes_word : goal.returns-then-takes_word
returns-then-takes_word c =
    ((fronts_other (tokens_of item_kind) c.in_default.ensures (fronts_taken c.if-takes_word.ensures.taken)), left_read (left_right refl c.in_default.ensures) (left_read (left_seq refl (reads_one c.if-takes_word.ensures.taken)) c.in_ok-name-2.ensures))
