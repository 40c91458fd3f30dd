use Rattle.std.proofs.Common.{sym, ap, ◌∙◌, subst, [], IfOk}
use Rattle.trio_types.specs.Verdict.{world_of}
use Rattle.history_table.specs.History.{lines_fault, IsHistoryAnswer}
use Rattle.history_table.specs.Decoding.{lines_by, placed_of, AreFound, IsFault}
use Rattle.history_table.specs.Fitting.{IsGiven}
use Rattle.history_table.proofs.Answered.{faulty, whole}
use Rattle.history_table.proofs.LineSteps.{passed_answer}
use Rattle.history_table.proofs.reader.read_history.Goals as goal

pub returns-in_err-found-clause-answer : goal.returns-in_err-found-clause-answer
returns-in_err-found-clause-answer c =
    let w = world_of c.args.spec.now in
    let said = subst (λ xs. IsFault (lines_fault w [] (placed_of (lines_by c.in-Ok.tokens xs))) c.in_err-found.field-0.0) c.as_slice-2.ensures
    (subst (λ ts. IsFault (lines_fault w [] (placed_of (lines_by ts c.as_slice-2.result.now))) c.in_err-found.field-0.0) c.as_slice.ensures c.in_err-found.ensures.fault) in
    passed_answer (IsHistoryAnswer w c.args.text.now) c.from_residual-in_err-found.result c.in_err-found.field-0.0 c.from_residual-in_err-found.ensures.1
    (faulty w c.args.text.now c.in-Ok.tokens c.in_ok-lexemes.lexemes c.in_err-found.field-0.0 c.in-Ok.ensures.0 c.in_ok-lexemes.ensures said)

read : (c : goal.After-drop-tokens-inside-2) → IsHistoryAnswer (world_of c.args.spec.now) c.args.text.now c.joined.result × IfOk c.joined.result (IsGiven (world_of c.args.spec.now))
read c =
    let w = world_of c.args.spec.now in
    let found = c.in_ok-found.found in
    let are = subst (λ xs. AreFound w (placed_of (lines_by c.in-Ok.tokens xs)) found.lines) c.as_slice-2.ensures
    (subst (λ ts. AreFound w (placed_of (lines_by ts c.as_slice-2.result.now)) found.lines) c.as_slice.ensures c.in_ok-found.ensures.found) in
    let sound = ap (λ xs. lines_fault w [] (placed_of (lines_by c.in-Ok.tokens xs))) (sym c.as_slice-2.ensures)
    ∙ ap (λ ts. lines_fault w [] (placed_of (lines_by ts c.as_slice-2.result.now))) (sym c.as_slice.ensures) ∙ c.in_ok-found.ensures.sound in
    whole w c.args.text.now c.in-Ok.tokens c.in_ok-lexemes.lexemes found.lines c.joined.result c.in-Ok.ensures.0 c.in_ok-lexemes.ensures are sound
    c.joined.ensures

pub returns-clause-answer : goal.returns-clause-answer
returns-clause-answer c = (read c).0

pub returns-clause-fits : goal.returns-clause-fits
returns-clause-fits c = (read c).1
