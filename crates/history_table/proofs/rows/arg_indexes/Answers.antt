use Rattle.std.proofs.Common.{◌≡◌, ◌+◌, drop, refl, get_or, length, slice_get, sym, ap, ◌∙◌, arith, Some}
use Rattle.std.proofs.lemmas.Option.{slice_get-get_or, slice_get_read, slice_get_within}
use Rattle.trio_types.specs.Verdict.{parts_of, world_of}
use Rattle.trio_types.proofs.Specs.{formed, argument_domain}
use Rattle.history_table.specs.Rows.{arg_indexes}
use Rattle.trio_types.specs.Kinds.{args_of}
use Rattle.history_table.proofs.Arguments.{other_number, behind, behind_start, found_index, no_index, all_found}
use Rattle.history_table.proofs.rows.arg_indexes.Goals as goal

pub returns-then-domains-values : goal.returns-then-domains-values
returns-then-domains-values c =
    let same = ap args_of c.get.ensures ∙ sym c.as_slice-domains.ensures in
    sym (ap (λ ds. arg_indexes (world_of c.args.spec.now) ds c.args.values.now) same
    ∙ other_number (world_of c.args.spec.now) c.as_slice-domains.result.now c.args.values.now c.if-domains-values.true)

pub loop-place-init : goal.loop-place-init
loop-place-init c =
    let all = arg_indexes (world_of c.args.spec.now) c.as_slice-domains.result.now c.args.values.now in
    behind_start all ∙ ap (λ found. behind found all) (sym c.new-indexes.ensures.items)

pub value_index-requires : goal.value_index-requires
value_index-requires c =
    let at = slice_get-get_or c.as_slice-domains.result.now c.loop-place.place 0 c.loop-place-test.true in
    let d = argument_domain (parts_of c.args.spec.now) (formed c.args.spec.now) c.args.item c.get.result.now c.get.ensures c.loop-place.place _
    (ap (λ ds. slice_get ds c.loop-place.place) (sym c.as_slice-domains.ensures) ∙ at) in
    slice_get_within c.args.spec.now.domains _ d.0 d.1

pub returns-in_default : goal.returns-in_default
returns-in_default c =
    let w = world_of c.args.spec.now in
    let ds = c.as_slice-domains.result.now in
    let values = c.args.values.now in
    let place = c.loop-place.place in
    let v = c.index-values-place.result in
    let same = ap args_of c.get.ensures ∙ sym c.as_slice-domains.ensures in
    let at = slice_get-get_or ds place 0 c.loop-place-test.true in
    let at_value = slice_get_read values (length values) place v refl (omega (arith, c.loop-place-test.true, c.if-domains-values.false)) c.index-values-place.is in
    sym (ap (λ es. arg_indexes w es values) same
    ∙ no_index w ds values c.loop-place.indexes.items place (get_or ds place 0) v at at_value c.loop-place.invariant (sym c.value_index.ensures ∙ c.in_default.is))

pub loop-place-preserved : goal.loop-place-preserved
loop-place-preserved c =
    let w = world_of c.args.spec.now in
    let ds = c.as_slice-domains.result.now in
    let values = c.args.values.now in
    let place = c.loop-place.place in
    let v = c.index-values-place.result in
    let found = c.loop-place.indexes.items in
    let at = slice_get-get_or ds place 0 c.loop-place-test.true in
    let at_value = slice_get_read values (length values) place v refl (omega (arith, c.loop-place-test.true, c.if-domains-values.false)) c.index-values-place.is in
    found_index w ds values found place (get_or ds place 0) v c.in-Some.index at at_value c.loop-place.invariant (sym c.value_index.ensures ∙ c.in-Some.is)
    ∙ ap (λ is. behind is (arg_indexes w (drop (place + 1) ds) (drop (place + 1) values)))
    (sym c.in_ok-push.ensures.items)

pub returns : goal.returns
returns c =
    let w = world_of c.args.spec.now in
    let ds = c.as_slice-domains.result.now in
    let values = c.args.values.now in
    let same = ap args_of c.get.ensures ∙ sym c.as_slice-domains.ensures in
    let all : length ds ≡ c.loop-place.place = omega (arith, c.loop-place-test.false, c.loop-place.auto.place-end) in
    ap Some c.from_vec.ensures
    ∙ sym (ap (λ es. arg_indexes w es values) same ∙ all_found w ds values c.loop-place.indexes.items c.loop-place.place c.if-domains-values.false all c.loop-place.invariant)
