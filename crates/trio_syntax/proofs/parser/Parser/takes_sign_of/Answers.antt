-- No symbol of the table stands in front.
use Rattle.std.proofs.Common.{sym, ap, subst, ◌∙◌}
use Rattle.trio_text.specs.Spelling.{symbol_text}
use Rattle.trio_syntax.specs.Exact.{has, texts_of_signs, FindsSign}
use Rattle.trio_syntax.proofs.Lines.{unfound}
use Rattle.trio_syntax.proofs.Tokens.{no_sign, stays_at}
use Rattle.trio_syntax.proofs.parser.Parser.takes_sign_of.Goals as goal

pub returns-in_default : goal.returns-in_default
returns-in_default g c = stays_at c.in_ok-first.first.now c.in_ok-first.rest.now c.in_ok-first.ensures.cases.0 (no_sign c.args.table.now c.in_ok-first.first.now c.in_default.not-Sign)

pub returns-in_err-meaning : goal.returns-in_err-meaning
returns-in_err-meaning g c =
    let none = unfound symbol_text c.args.table.now (symbol_text c.in-Sign.found) (sym c.by_sign.ensures ∙ c.in_err-meaning.was) in
    let other = ap (has (texts_of_signs c.args.table.now)) c.in-Sign.is ∙ none in
    subst (λ r. FindsSign c.args.table.now c.args.self.now c.args.self.now r) (sym c.from_residual-in_err-meaning.ensures)
    (stays_at c.in_ok-first.first.now c.in_ok-first.rest.now c.in_ok-first.ensures.cases.0 other)
