-- A text that is refused, with its fault and its tokens.
use Rattle.std.proofs.Common.{inr}
use Rattle.explain_answers.proofs.Refusals.{spec_refused}
use Rattle.explain_answers.proofs.explain.load_spec.Goals as goal

pub returns-in_ok-spec_refused-in-Err-read_spec-clause-loads : goal.returns-in_ok-spec_refused-in-Err-read_spec-clause-loads
returns-in_ok-spec_refused-in-Err-read_spec-clause-loads g c =
    inr (spec_refused (g.F.Shelf.seen c.args.shelf.now) c.args.name.now c.in-Ok.text.items c.as_slice.result.now c.as_slice-2.result.now
    c.as_slice-in-Err-read_spec.result.now c.in_ok-tokens.tokens c.as_slice-in-Err-read_spec-2.result.now c.in-Err-read_spec.fault
    c.in_ok-spec_refused-in-Err-read_spec.field-0.status c.in_ok-spec_refused-in-Err-read_spec.field-0.text.items
    c.as_slice.ensures.value c.as_slice-2.ensures.value c.as_slice-in-Err-read_spec.ensures.value c.as_slice-in-Err-read_spec-2.ensures
    (rw c.in-Ok.is at c.in_ok-text.ensures.loads) c.in_ok-tokens.ensures c.in-Err-read_spec.ensures
    c.in_ok-spec_refused-in-Err-read_spec.ensures)
