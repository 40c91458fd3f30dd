-- The answers to the goals of `follow`.
use Rattle.std.proofs.Common.{◌≡◌, ◌++◌, ◌∷◌, [], ap, ◌∙◌, subst}
use Rattle.emit_ledger.specs.Regions.{IsRegion}
use Rattle.emit_ledger.proofs.Followed.{Followed, follow_first, follow_used, follow_left, follow_assembled, follow_covers, some_stand, measure_used}
use Rattle.emit_ledger.proofs.Marked.{marked_out}
use Rattle.emit_ledger.proofs.assembling.follow.Goals as goal

pub loop-branch-init : goal.loop-branch-init
loop-branch-init c =
    rw (c.in_ok-pool.ensures, c.new-all_found.ensures, c.new-rest.ensures, c.len-unused.ensures)
    (record { marked = c.in_ok-marks.ensures; followed = follow_first c.args.problem.now c.args.starts c.args.regions c.requires })

pub take_region-requires : goal.take_region-requires
take_region-requires c = rw c.as_slice.ensures.value c.loop-branch.invariant.marked

pub overflow_sub-unused : goal.overflow_sub-unused
overflow_sub-unused c =
    let taken = c.in-Some-take_region.ensures in
    some_stand c.args.problem.now c.args.starts c.args.regions c.loop-branch.pool.items c.loop-branch.todo c.loop-branch.all_found c.loop-branch.rest
    c.loop-branch.unused taken.place c.in-Some-take_region.region c.loop-branch.invariant.followed taken.at

pub loop-branch-smaller-in-Some-take_region : goal.loop-branch-smaller-in-Some-take_region
loop-branch-smaller-in-Some-take_region c =
    let taken = c.in-Some-take_region.ensures in
    let r = c.in-Some-take_region.region in
    let todo : c.append-in-Some-take_region.new.self ≡ c.pop.new.self ++ r.given =
    c.in_ok-append-in-Some-take_region-2.ensures.ok
    ∙ ap (λ bs. c.pop.new.self ++ bs) (ap (λ v. v.given) c.into_parts-found.ensures.is) in
    rw (taken.out, todo, c.in-Some.ensures) (measure_used c.loop-branch.pool.items c.pop.new.self c.in-Some.branch taken.place r taken.at)

pub loop-branch-preserved-in-Some-take_region : goal.loop-branch-preserved-in-Some-take_region
loop-branch-preserved-in-Some-take_region c =
    let p = c.args.problem.now in
    let at = c.loop-branch in
    let b = c.in-Some.branch in
    let taken = c.in-Some-take_region.ensures in
    let r = c.in-Some-take_region.region in
    let before : Followed p c.args.starts c.args.regions at.pool.items (c.pop.new.self ++ b ∷ []) at.all_found at.rest at.unused =
    subst (λ ts. Followed p c.args.starts c.args.regions at.pool.items ts at.all_found at.rest at.unused) c.in-Some.ensures at.invariant.followed in
    let todo : c.append-in-Some-take_region.new.self ≡ c.pop.new.self ++ r.given =
    c.in_ok-append-in-Some-take_region-2.ensures.ok
    ∙ ap (λ bs. c.pop.new.self ++ bs) (ap (λ v. v.given) c.into_parts-found.ensures.is) in
    let found : c.append.new.self ≡ at.all_found ++ r.found =
    c.in_ok-append-in-Some-take_region.ensures.ok
    ∙ ap (λ ts. at.all_found ++ ts) (ap (λ v. v.found) c.into_parts-found.ensures.is) in
    let law : IsRegion r.problem r.start r.found r.given =
    subst (λ v. IsRegion v.problem v.start v.found v.given) c.into_parts-found.ensures.is c.into_parts-found.ensures.law in
    rw (taken.out, todo, found)
    (record { marked = marked_out p c.in_ok-marks.marks.items at.pool.items taken.place at.invariant.marked; followed = follow_used p c.args.starts c.args.regions at.pool.items c.pop.new.self at.all_found at.rest at.unused b taken.place r before taken.at taken.start taken.problem law })

pub loop-branch-preserved : goal.loop-branch-preserved
loop-branch-preserved c =
    let p = c.args.problem.now in
    let at = c.loop-branch in
    let b = c.in-Some.branch in
    let before : Followed p c.args.starts c.args.regions at.pool.items (c.pop.new.self ++ b ∷ []) at.all_found at.rest at.unused =
    subst (λ ts. Followed p c.args.starts c.args.regions at.pool.items ts at.all_found at.rest at.unused) c.in-Some.ensures at.invariant.followed in
    rw (c.in-None.ensures.0, c.in_ok-add-in-None.ensures.ok)
    (record { marked = at.invariant.marked; followed = follow_left p c.args.starts c.args.regions at.pool.items c.pop.new.self at.all_found at.rest at.unused b before c.in-None.ensures.1 })

pub returns-clause-assembled : goal.returns-clause-assembled
returns-clause-assembled c =
    let p = c.args.problem.now in
    let at = c.loop-branch in
    (follow_assembled p c.args.starts c.args.regions at.pool.items at.all_found at.rest at.unused
    (subst (λ ts. Followed p c.args.starts c.args.regions at.pool.items ts at.all_found at.rest at.unused) c.in_default.ensures.0 at.invariant.followed))

pub returns-clause-covers : goal.returns-clause-covers
returns-clause-covers c =
    let p = c.args.problem.now in
    let at = c.loop-branch in
    (follow_covers p c.args.starts c.args.regions at.pool.items at.all_found at.rest at.unused
    (subst (λ ts. Followed p c.args.starts c.args.regions at.pool.items ts at.all_found at.rest at.unused) c.in_default.ensures.0 at.invariant.followed))
