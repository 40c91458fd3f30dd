-- The answers to the goals of `row`.
use Rattle.std.proofs.Common.{◌≡◌, Some, true, subst, sym, ap, ◌∙◌, arith}
use Rattle.trio_types.specs.WellFormed.{is_written}
use Rattle.trio_core.specs.Stands.{NodeAsked}
use Rattle.trio_core.proofs.Evaluating.{passed_on}
use Rattle.trio_core.proofs.NodesFit.{atom_terms, exists_body, dist_term, dist_known}
use Rattle.decompose.proofs.Wanted.{few_numbers}
use Rattle.decompose.proofs.fates.row.Goals as goal

pub undecided_of_atom-requires-clause-left_fits : goal.undecided_of_atom-requires-clause-left_fits
undecided_of_atom-requires-clause-left_fits c =
    let core = c.core.result.now in
    let want = c.args.want.now in
    let e = c.as_slice.result.now in
    let there = subst (λ core. NodeAsked core want.node want.from want.now want.env) (sym c.core.ensures.is) c.requires.want_fits in
    let asked = subst (λ e. NodeAsked core want.node want.from want.now e) (sym c.as_slice.ensures) there in
    (atom_terms core want.node c.in-Atom-default.field-0-0 c.in-Atom-default.left c.in-Atom-default.right e (c.get.ensures ∙ ap Some c.in-Atom-default.is-0) asked.values_in).0

pub undecided_of_atom-requires-clause-right_fits : goal.undecided_of_atom-requires-clause-right_fits
undecided_of_atom-requires-clause-right_fits c =
    let core = c.core.result.now in
    let want = c.args.want.now in
    let e = c.as_slice.result.now in
    let there = subst (λ core. NodeAsked core want.node want.from want.now want.env) (sym c.core.ensures.is) c.requires.want_fits in
    let asked = subst (λ e. NodeAsked core want.node want.from want.now e) (sym c.as_slice.ensures) there in
    (atom_terms core want.node c.in-Atom-default.field-0-0 c.in-Atom-default.left c.in-Atom-default.right e (c.get.ensures ∙ ap Some c.in-Atom-default.is-0) asked.values_in).1

pub for_some-requires-clause-low_near : goal.for_some-requires-clause-low_near
for_some-requires-clause-low_near c =
    let core = c.core.result.now in
    let want = c.args.want.now in
    let e = c.as_slice.result.now in
    let there = subst (λ core. NodeAsked core want.node want.from want.now want.env) (sym c.core.ensures.is) c.requires.want_fits in
    let asked = subst (λ e. NodeAsked core want.node want.from want.now e) (sym c.as_slice.ensures) there in
    let low = c.in-Exists-true.low in
    let high = c.in-Exists-true.field-1-0 in
    let body = exists_body core want.node want.from want.now e low high c.in-Exists-true.a asked (c.get.ensures ∙ ap Some c.in-Exists-true.is-0) in
    subst (λ z. is_written z ≡ true) (passed_on low body.low_near) body.low_near

pub for_some-requires-clause-not_last : goal.for_some-requires-clause-not_last
for_some-requires-clause-not_last c =
    let core = c.core.result.now in
    let want = c.args.want.now in
    let e = c.as_slice.result.now in
    let there = subst (λ core. NodeAsked core want.node want.from want.now want.env) (sym c.core.ensures.is) c.requires.want_fits in
    let asked = subst (λ e. NodeAsked core want.node want.from want.now e) (sym c.as_slice.ensures) there in
    let low = c.in-Exists-true.low in
    let high = c.in-Exists-true.field-1-0 in
    let body = exists_body core want.node want.from want.now e low high c.in-Exists-true.a asked (c.get.ensures ∙ ap Some c.in-Exists-true.is-0) in
    omega (arith, body.from_in, few_numbers low high body.low_near body.high_near)

pub for_none-requires-clause-low_near : goal.for_none-requires-clause-low_near
for_none-requires-clause-low_near c =
    let core = c.core.result.now in
    let want = c.args.want.now in
    let e = c.as_slice.result.now in
    let there = subst (λ core. NodeAsked core want.node want.from want.now want.env) (sym c.core.ensures.is) c.requires.want_fits in
    let asked = subst (λ e. NodeAsked core want.node want.from want.now e) (sym c.as_slice.ensures) there in
    let low = c.in-Exists-false.low in
    let high = c.in-Exists-false.field-1-0 in
    let body = exists_body core want.node want.from want.now e low high c.in-Exists-false.a asked (c.get.ensures ∙ ap Some c.in-Exists-false.is-0) in
    subst (λ z. is_written z ≡ true) (passed_on low body.low_near) body.low_near

pub for_none-requires-clause-not_last : goal.for_none-requires-clause-not_last
for_none-requires-clause-not_last c =
    let core = c.core.result.now in
    let want = c.args.want.now in
    let e = c.as_slice.result.now in
    let there = subst (λ core. NodeAsked core want.node want.from want.now want.env) (sym c.core.ensures.is) c.requires.want_fits in
    let asked = subst (λ e. NodeAsked core want.node want.from want.now e) (sym c.as_slice.ensures) there in
    let low = c.in-Exists-false.low in
    let high = c.in-Exists-false.field-1-0 in
    let body = exists_body core want.node want.from want.now e low high c.in-Exists-false.a asked (c.get.ensures ∙ ap Some c.in-Exists-false.is-0) in
    omega (arith, body.from_in, few_numbers low high body.low_near body.high_near)

pub at_distance-requires-clause-term_fits : goal.at_distance-requires-clause-term_fits
at_distance-requires-clause-term_fits c =
    let core = c.core.result.now in
    let want = c.args.want.now in
    let e = c.as_slice.result.now in
    let there = subst (λ core. NodeAsked core want.node want.from want.now want.env) (sym c.core.ensures.is) c.requires.want_fits in
    let asked = subst (λ e. NodeAsked core want.node want.from want.now e) (sym c.as_slice.ensures) there in
    dist_term core want.node c.in-Dist-default.a c.in-Dist-default.distance e (c.get.ensures ∙ ap Some c.in-Dist-default.is-0) asked.values_in

pub at_distance-requires-clause-known : goal.at_distance-requires-clause-known
at_distance-requires-clause-known c =
    let core = c.core.result.now in
    let want = c.args.want.now in
    let e = c.as_slice.result.now in
    let there = subst (λ core. NodeAsked core want.node want.from want.now want.env) (sym c.core.ensures.is) c.requires.want_fits in
    let asked = subst (λ e. NodeAsked core want.node want.from want.now e) (sym c.as_slice.ensures) there in
    dist_known core want.node c.in-Dist-default.a c.in-Dist-default.distance e c.args.sets.now want.now (c.get.ensures ∙ ap Some c.in-Dist-default.is-0) asked.values_in
