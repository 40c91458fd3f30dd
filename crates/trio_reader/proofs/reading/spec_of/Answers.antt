-- What is put together is what the tree stands for, and no phase before the last one found a fault.
use Rattle.std.proofs.Common.{None, ap, sym, ◌∙◌}
use Rattle.trio_types.specs.WellFormed.{domains_fit}
use Rattle.trio_limits.specs.Limits.{count_fault}
use Rattle.trio_reader.proofs.Phases.{is_ranged, limit_is}
use Rattle.trio_reader.proofs.Made.{is_made, made, well_formed_made}
use Rattle.trio_reader.proofs.FormedDomains.{domains_fit_from_range}
use Rattle.trio_reader.proofs.reading.spec_of.Goals as goal

pub first_above_limit-requires : goal.first_above_limit-requires
first_above_limit-requires c =
    let m = is_made c.in_ok-world.ensures c.in_ok-world.world.has_domains c.in_ok-world.world.has_items c.in_ok-claims_of.ensures c.in_ok-claims_of-2.ensures in
    ap domains_fit (made m) ∙ domains_fit_from_range c.args.scope.now.tree.now c.requires (sym c.in_ok-place-4.ensures ∙ c.in_default-4.is)

pub returns-in-Some-5 : goal.returns-in-Some-5
returns-in-Some-5 c =
    let m = is_made c.in_ok-world.ensures c.in_ok-world.world.has_domains c.in_ok-world.world.has_items c.in_ok-claims_of.ensures c.in_ok-claims_of-2.ensures in
    let ranged =
    is_ranged c.args.scope.now.tree.now c.in_ok-world.world.scope.now.tree.now c.in_ok-world.ensures (sym c.in_ok-place.ensures ∙ c.in_default.is)
    (sym c.in_ok-place-2.ensures ∙ c.in_default-2.is) (sym c.in_ok-place-3.ensures ∙ c.in_default-3.is) (sym c.in_ok-place-4.ensures ∙ c.in_default-4.is) in
    limit_is c.args.scope.now.tree.now _ ranged (ap count_fault (sym (made m)) ∙ sym c.in_ok-which.ensures ∙ c.in-Some-5.is)

pub invariant_of-result : goal.invariant_of-result
invariant_of-result c =
    let m = is_made c.in_ok-world.ensures c.in_ok-world.world.has_domains c.in_ok-world.world.has_items c.in_ok-claims_of.ensures c.in_ok-claims_of-2.ensures in
    let ranged =
    is_ranged c.args.scope.now.tree.now c.in_ok-world.world.scope.now.tree.now c.in_ok-world.ensures (sym c.in_ok-place.ensures ∙ c.in_default.is)
    (sym c.in_ok-place-2.ensures ∙ c.in_default-2.is) (sym c.in_ok-place-3.ensures ∙ c.in_default-3.is) (sym c.in_ok-place-4.ensures ∙ c.in_default-4.is) in
    record {
      well_formed = well_formed_made c.args.scope.now.tree.now _ _ _ _ _ m c.requires ranged (sym c.in_ok-which.ensures ∙ c.in_default-5.is);
    }

pub returns : goal.returns
returns c =
    let m = is_made c.in_ok-world.ensures c.in_ok-world.world.has_domains c.in_ok-world.world.has_items c.in_ok-claims_of.ensures c.in_ok-claims_of-2.ensures in
    let ranged =
    is_ranged c.args.scope.now.tree.now c.in_ok-world.world.scope.now.tree.now c.in_ok-world.ensures (sym c.in_ok-place.ensures ∙ c.in_default.is)
    (sym c.in_ok-place-2.ensures ∙ c.in_default-2.is) (sym c.in_ok-place-3.ensures ∙ c.in_default-3.is) (sym c.in_ok-place-4.ensures ∙ c.in_default-4.is) in
    record {
      sound = limit_is c.args.scope.now.tree.now None ranged (ap count_fault (sym (made m)) ∙ sym c.in_ok-which.ensures ∙ c.in_default-5.is);
      stands = made m;
    }
