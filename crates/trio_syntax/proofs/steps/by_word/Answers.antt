-- The loop goes over the lines.
use Rattle.std.proofs.Common.{refl, sym, ap, ◌∙◌}
use Rattle.std.specs.Str.{bytes_eq}
use Rattle.trio_text.specs.Spelling.{word_text}
use Rattle.trio_syntax.proofs.Lines.{line_here, line_later, no_line}
use Rattle.trio_syntax.proofs.steps.by_word.Goals as goal

pub loop-line-init : goal.loop-line-init
loop-line-init g c = refl

pub returns-then-eq : goal.returns-then-eq
returns-then-eq g c =
    let same = ap (λ t. bytes_eq t (word_text c.args.word)) (sym c.text.ensures) ∙ ap (bytes_eq c.text.result.now) (sym c.text-in-loop-line.ensures) ∙ sym c.if-eq.ensures in
    sym (line_here word_text c.args.table.now (word_text c.args.word) c.loop-line.line-index c.line-item.result c.loop-line-test.true c.line-item.is c.loop-line.invariant same)

pub loop-line-preserved : goal.loop-line-preserved
loop-line-preserved g c =
    let other = ap (λ t. bytes_eq t (word_text c.args.word)) (sym c.text.ensures) ∙ ap (bytes_eq c.text.result.now) (sym c.text-in-loop-line.ensures) ∙ sym c.if-eq.ensures in
    line_later word_text c.args.table.now (word_text c.args.word) c.loop-line.line-index c.line-item.result c.loop-line-test.true c.line-item.is c.loop-line.invariant other

pub returns : goal.returns
returns g c = sym (no_line word_text c.args.table.now (word_text c.args.word) c.loop-line.line-index c.loop-line-test.false c.loop-line.invariant)
