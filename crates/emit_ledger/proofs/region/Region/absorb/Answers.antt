-- The answer to the goal of `absorb`.
use Rattle.std.proofs.Common.{◌≡◌, ◌-◌, length, slice_get, Some, sym, ap, ◌∙◌}
use Rattle.emit_ledger.proofs.Joined.{absorbed_is}
use Rattle.emit_ledger.proofs.region.Region.absorb.Goals.{in-Ok, in-Err}
use Rattle.emit_ledger.proofs.region.Region.absorb.Goals as goal

pub invariant_of-self : goal.invariant_of-self
invariant_of-self c =
    let parts = c.into_parts-start.result in
    let it = c.self.inside in
    let same : parts.problem.now ≡ it.problem.now =
    ap (λ v. v.problem) c.into_parts-start.ensures.is ∙ c.requires.problem ∙ sym (ap (λ v. v.problem) c.self.view_is) in
    let last : slice_get it.given (length it.given - 1) ≡ Some parts.start =
    ap (λ v. slice_get v.given (length v.given - 1)) c.self.view_is ∙ c.requires.last ∙ sym (ap (λ v. Some v.start) c.into_parts-start.ensures.is) in
    elim c.match-join.branch [
      | in-Ok w ↦
          rw (w.in-Ok.ensures.found, w.in-Ok.ensures.given)
          (absorbed_is it.problem.now parts.problem.now same it.start parts.start it.found parts.found it.given parts.given last c.self.invariant c.into_parts-start.ensures.law)
      | in-Err w ↦ rw (w.in-Err.ensures.err.0, w.in-Err.ensures.err.1) c.self.invariant
    ]
