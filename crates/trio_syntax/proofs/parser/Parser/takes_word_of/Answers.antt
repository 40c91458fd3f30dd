-- No word of the table stands in front.
use Rattle.std.proofs.Common.{sym, ap, subst, ◌∙◌}
use Rattle.trio_text.specs.Spelling.{word_text}
use Rattle.trio_syntax.specs.Exact.{has, texts_of_words, FindsWord}
use Rattle.trio_syntax.proofs.Lines.{unfound}
use Rattle.trio_syntax.proofs.Tokens.{no_word, stays_at}
use Rattle.trio_syntax.proofs.parser.Parser.takes_word_of.Goals as goal

pub returns-in_default : goal.returns-in_default
returns-in_default g c = stays_at c.in_ok-first.first.now c.in_ok-first.rest.now c.in_ok-first.ensures.cases.0 (no_word c.args.table.now c.in_ok-first.first.now c.in_default.not-Word)

pub returns-in_err-meaning : goal.returns-in_err-meaning
returns-in_err-meaning g c =
    let none = unfound word_text c.args.table.now (word_text c.in-Word.found) (sym c.by_word.ensures ∙ c.in_err-meaning.was) in
    let other = ap (has (texts_of_words c.args.table.now)) c.in-Word.is ∙ none in
    subst (λ r. FindsWord c.args.table.now c.args.self.now c.args.self.now r) (sym c.from_residual-in_err-meaning.ensures)
    (stays_at c.in_ok-first.first.now c.in_ok-first.rest.now c.in_ok-first.ensures.cases.0 other)
