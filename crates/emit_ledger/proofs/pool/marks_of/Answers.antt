-- The answers to the goals of `marks_of`.
use Rattle.std.proofs.Common.{◌≡◌, ◌↔◌, ◌≤◌, IsTrue, Some, length, map, slice_get, refl, ap, ◌∙◌, sym, subst, arith}
use Rattle.std.proofs.lemmas.List.{take_all}
use Rattle.std.proofs.lemmas.Option.{slice_get_read}
use Rattle.emit_ledger.specs.Pool.{IsMarked}
use Rattle.emit_ledger.proofs.Marked.{marked_more}
use Rattle.emit_ledger.proofs.pool.marks_of.Goals as goal

pub loop-region-preserved : goal.loop-region-preserved
loop-region-preserved c =
    let p = c.args.problem.now in
    let all = c.as_slice-region-items.result.now in
    let r = c.region-item.result in
    let k = c.loop-region.region-index in
    let at : slice_get c.args.regions.now k ≡ Some r =
    ap (λ rs. slice_get rs k) (sym c.as_slice-region-items.ensures) ∙ slice_get_read all (length all) k r refl c.loop-region-test.true c.region-item.is in
    let tells : IsTrue c.same_problem.result ↔ (r.problem ≡ p) = subst (λ q. IsTrue c.same_problem.result ↔ (q ≡ p)) c.problem.ensures.is c.same_problem.ensures in
    rw c.in_ok-push.ensures.items (marked_more p c.loop-region.marks.items c.args.regions.now k c.same_problem.result r at tells c.loop-region.invariant)

pub returns : goal.returns
returns c =
    let whole : length c.args.regions.now ≤ c.loop-region.region-index = omega (arith, ap length c.as_slice-region-items.ensures, c.loop-region-test.false) in
    subst (λ rs. IsMarked c.args.problem.now c.loop-region.marks.items (map Some rs)) (take_all c.loop-region.region-index c.args.regions.now whole) c.loop-region.invariant
