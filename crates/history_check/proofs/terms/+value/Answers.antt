-- The answers to the goals of `value_of`, `read` and `sum`.
use Rattle.std.proofs.Common.{pos, ◌*ℤ◌, nat_abs, length, map, take, sum, None, Some, slice_get, to_z, of_z, w64, refl, sym, ap, ◌∙◌, arith, rules}
use Rattle.std.specs.Option.{option_map}
use Rattle.std.proofs.lemmas.Int.{ints}
use Rattle.std.proofs.lemmas.List.{length-map, length-take-le, take_all}
use Rattle.std.proofs.lemmas.Option.{slice_get_within, same_Some}
use Rattle.trio_types.specs.declared.formula.SignedTerm.{out-SignedTerm}
use Rattle.trio_types.specs.declared.formula.Term.TheFolds.{the_lemmas}
use Rattle.trio_types.specs.World.{values_in}
use Rattle.trio_types.specs.Cells.{the_cell, cells_of, item_takes}
use Rattle.trio_types.specs.Values.{sum_of}
use Rattle.trio_types.specs.Verdict.{world_of}
use Rattle.trio_types.proofs.Arguments.{element_at, mapped_at, none_indexed, more_indexed, all_indexed, no_index}
use Rattle.trio_types.proofs.Bounded.{near_of, passed, signed_none, sum_stuck}
use Rattle.trio_types.proofs.CellNumbers.{size_from_item}
use Rattle.trio_types.proofs.CellOrder.{entry_below}
use Rattle.trio_types.proofs.Reading.{no_value_at, value-of_cell}
use Rattle.trio_types.proofs.ValueAt.{value-Sum, value-Times}
use Rattle.history_check.proofs.TermsFit.{read_within, small_value, sum_within, own_bound, times_part, var_inside}
use Rattle.history_check.proofs.TermValues.{valued, part_valued, fits_as, number_told, value_told, var_told, product, read_declared, read_arguments, argument_fits, argument_index, read_by, part_fits, summed_more}
use Rattle.history_check.proofs.terms.+value.Goals as goal

pub read-get-declared-requires : goal.read-get-declared-requires
read-get-declared-requires t c = read_declared c.args.item c.args.args.now c.requires.term_fits

pub read-loop-place-init : goal.read-loop-place-init
read-loop-place-init t c = none_indexed _ _ _ _ refl

pub read-value_of-requires : goal.read-value_of-requires
read-value_of-requires t c =
    (search (ints, rules, the_lemmas), (c.requires.table_fits, (argument_fits c.args.item c.args.args.now c.requires.term_fits c.loop-place.place c.index-args-place.result c.loop-place-test.true c.index-args-place.is, c.requires.instant_in)))

pub read-returns-in_default-clause-is : goal.read-returns-in_default-clause-is
read-returns-in_default-clause-is t c =
    let under = c.args.under in
    let args = c.args.args.now in
    let f = valued under c.args.instant in
    let k = c.loop-place.place in
    let a = read_arguments under.spec.now c.args.item c.args.args.now c.requires.term_fits c.get-declared.ensures c.as_slice-domains.ensures in
    let at = mapped_at f args k c.index-args-place.result None c.loop-place-test.true c.index-args-place.is (sym c.value_of.ensures.is ∙ c.in_default.is) in
    sym (read_by under c.args.item args c.args.instant c.get-declared.result.now None c.get-declared.ensures
    (no_value_at under.spec.now.domains c.get-declared.result.now.args (map f args) k (omega (arith, a.long, ap length a.are, c.loop-place-test.true)) at))

pub read-bounds-domains-place : goal.read-bounds-domains-place
read-bounds-domains-place t c =
    let a = read_arguments c.args.under.spec.now c.args.item c.args.args.now c.requires.term_fits c.get-declared.ensures c.as_slice-domains.ensures in omega (arith, a.long, c.loop-place-test.true)

pub read-index_of-requires : goal.read-index_of-requires
read-index_of-requires t c =
    let a = read_arguments c.args.under.spec.now c.args.item c.args.args.now c.requires.term_fits c.get-declared.ensures c.as_slice-domains.ensures in
    let x_fits = argument_fits c.args.item c.args.args.now c.requires.term_fits c.loop-place.place c.index-args-place.result c.loop-place-test.true c.index-args-place.is in
    let near = near_of c.in-Some.value (small_value x_fits c.value_of.ensures.bounded c.in-Some.is) in
    record {
      domain_in = a.inside c.loop-place.place c.loop-place-test.true;
      not_far_back = omega (arith, ints, near.not_far_back, near.not_far_on);
      not_far_on = omega (arith, ints, near.not_far_back, near.not_far_on);
    }

pub read-returns-in_default-index_of-clause-is : goal.read-returns-in_default-index_of-clause-is
read-returns-in_default-index_of-clause-is t c =
    let args = c.args.args.now in
    let a = read_arguments c.args.under.spec.now c.args.item args c.requires.term_fits c.get-declared.ensures c.as_slice-domains.ensures in
    let found = argument_index c.args.under c.args.instant c.as_slice-domains.result.now c.args.args.now c.loop-place.place c.index-args-place.result c.in-Some.value c.value_of.result c.index_of.result
    (argument_fits c.args.item c.args.args.now c.requires.term_fits c.loop-place.place c.index-args-place.result c.loop-place-test.true c.index-args-place.is)
    c.loop-place-test.true c.index-args-place.is c.value_of.ensures.is c.value_of.ensures.bounded c.in-Some.is c.index_of.ensures in
    sym (read_by c.args.under c.args.item args c.args.instant c.get-declared.result.now None c.get-declared.ensures
    (no_index a (map (valued c.args.under c.args.instant) args) c.loop-place.place c.in-Some.value c.loop-place-test.true found.value_at (found.index_is ∙ c.in_default-index_of.is)))

pub read-bounds-indexes-place : goal.read-bounds-indexes-place
read-bounds-indexes-place t c =
    let a = read_arguments c.args.under.spec.now c.args.item c.args.args.now c.requires.term_fits c.get-declared.ensures c.as_slice-domains.ensures in omega (arith, a.few, c.loop-place-test.true)

pub read-loop-place-preserved : goal.read-loop-place-preserved
read-loop-place-preserved t c =
    let a = read_arguments c.args.under.spec.now c.args.item c.args.args.now c.requires.term_fits c.get-declared.ensures c.as_slice-domains.ensures in
    let found = argument_index c.args.under c.args.instant c.as_slice-domains.result.now c.args.args.now c.loop-place.place c.index-args-place.result c.in-Some.value c.value_of.result c.index_of.result
    (argument_fits c.args.item c.args.args.now c.requires.term_fits c.loop-place.place c.index-args-place.result c.loop-place-test.true c.index-args-place.is)
    c.loop-place-test.true c.index-args-place.is c.value_of.ensures.is c.value_of.ensures.bounded c.in-Some.is c.index_of.ensures in
    more_indexed c.loop-place.invariant c.in-Some.value c.in-Some-index_of.index (omega (arith, a.long, c.loop-place-test.true)) (omega (arith, a.long, a.few)) found.value_at (found.index_is ∙ c.in-Some-index_of.is)

pub read-slice_bounds-indexes-end : goal.read-slice_bounds-indexes-end
read-slice_bounds-indexes-end t c =
    let a = read_arguments c.args.under.spec.now c.args.item c.args.args.now c.requires.term_fits c.get-declared.ensures c.as_slice-domains.ensures in omega (arith, a.few, c.loop-place.invariant.four)

pub read-slice_bounds-cell_of-end : goal.read-slice_bounds-cell_of-end
read-slice_bounds-cell_of-end t c =
    let a = read_arguments c.args.under.spec.now c.args.item c.args.args.now c.requires.term_fits c.get-declared.ensures c.as_slice-domains.ensures in
    sym (length-take-le (length c.args.args.now) c.loop-place.indexes (omega (arith, a.few, c.loop-place.invariant.four)))

pub read-cell_of-cell-requires-clause-item_in : goal.read-cell_of-cell-requires-clause-item_in
read-cell_of-cell-requires-clause-item_in t c = read_declared c.args.item c.args.args.now c.requires.term_fits

pub read-cell_of-cell-requires-clause-args_in : goal.read-cell_of-cell-requires-clause-args_in
read-cell_of-cell-requires-clause-args_in t c =
    let under = c.args.under in
    let args = c.args.args.now in
    let all = all_indexed (read_arguments under.spec.now c.args.item c.args.args.now c.requires.term_fits c.get-declared.ensures c.as_slice-domains.ensures) c.loop-place.invariant
    (length-map args (valued under c.args.instant)) c.loop-place-test.false (omega arith) in
    ap (λ o. item_takes (world_of under.spec.now) o (take (length args) c.loop-place.indexes)) c.get-declared.ensures ∙ all.fit

pub read-get-index-requires : goal.read-get-index-requires
read-get-index-requires t c =
    let cell = the_cell c.args.item (take (length c.args.args.now) c.loop-place.indexes) c.args.instant in
    omega (arith, c.requires.table_fits.whole, slice_get_within (cells_of (world_of c.args.under.spec.now)) c.cell_of-cell.result cell c.cell_of-cell.ensures)

pub read-value_at-requires : goal.read-value_at-requires
read-value_at-requires t c =
    let under = c.args.under in
    let w = world_of under.spec.now in
    let a = read_arguments under.spec.now c.args.item c.args.args.now c.requires.term_fits c.get-declared.ensures c.as_slice-domains.ensures in
    let cell = the_cell c.args.item (take (length c.args.args.now) c.loop-place.indexes) c.args.instant in
    let below = entry_below w under.table.now c.cell_of-cell.result c.get-index.result.now cell c.requires.table_fits c.cell_of-cell.ensures c.get-index.ensures in
    record { domain_in = a.value_inside; index_in = omega (arith, below, size_from_item w cell c.get-declared.result.now c.get-declared.ensures, c.from.ensures) }

pub read-returns : goal.read-returns
read-returns t c =
    let under = c.args.under in
    let spec = under.spec.now in
    let w = world_of spec in
    let n = c.args.item in
    let args = c.args.args.now in
    let fits = c.requires.term_fits in
    let at = c.get-declared.ensures in
    let declared = c.get-declared.result.now in
    let v = c.get-index.result.now in
    let vs = take (length args) c.loop-place.indexes in
    let all = all_indexed (read_arguments spec n args fits at c.as_slice-domains.ensures) c.loop-place.invariant (length-map args (valued under c.args.instant)) c.loop-place-test.false (omega arith) in
    let z = c.value_at.result in
    let value_is = ap (slice_get (values_in spec.domains declared.value)) (sym c.from.ensures) ∙ c.value_at.ensures in
    let near = read_within w n args fits.variables declared z v at value_is in
    let same = passed z (omega (arith, near.most, fits.bounded)) in
    record {
      is = sym (read_by under n args c.args.instant declared (Some vs) at all.found
          ∙ value-of_cell w under.table.now c.cell_of-cell.result v (the_cell n vs c.args.instant) declared z at c.requires.table_fits c.cell_of-cell.ensures c.get-index.ensures value_is
          ∙ ap Some same);
      bounded = λ vs are y is. read_within w n args vs declared y v at (value_is ∙ ap Some (same ∙ same_Some (to_z w64 (of_z w64 z)) y is));
    }

pub sum-value_of-requires : goal.sum-value_of-requires
sum-value_of-requires t c =
    (search (ints, rules, the_lemmas), (c.requires.table_fits, (part_fits c.args.parts.now c.requires.term_fits c.loop-part.part-index c.part-item.result c.loop-part-test.true c.part-item.is, c.requires.instant_in)))

pub sum-returns-in_default-clause-is : goal.sum-returns-in_default-clause-is
sum-returns-in_default-clause-is t c =
    let under = c.args.under in
    let p = c.part-item.result in
    let none = signed_none (out-SignedTerm p).minus (valued under c.args.instant (out-SignedTerm p).term) (sym c.value_of.ensures.is ∙ c.in_default.is) in
    sym (value-Sum (world_of under.spec.now) c.args.parts.now under.values.now under.table.now c.args.instant
    ∙ sum_stuck (part_valued under c.args.instant) c.args.parts.now c.loop-part.part-index p (element_at c.args.parts.now c.loop-part.part-index p c.loop-part-test.true c.part-item.is) none)

pub sum-signed-sum-requires : goal.sum-signed-sum-requires
sum-signed-sum-requires t c =
    let p_fits = part_fits c.args.parts.now c.requires.term_fits c.loop-part.part-index c.part-item.result c.loop-part-test.true c.part-item.is in
    let small = small_value p_fits c.value_of.ensures.bounded c.in-Some.is in
    omega (arith, ap nat_abs (passed c.in-Some.value small), small)

pub sum-overflow_add-sum : goal.sum-overflow_add-sum
sum-overflow_add-sum t c =
    (summed_more c.loop-part.invariant c.part-item.result c.value_of.result c.in-Some.value c.signed-sum.result c.requires.term_fits c.loop-part-test.true c.part-item.is
    c.value_of.ensures.is c.value_of.ensures.bounded c.in-Some.is c.signed-sum.ensures).fits

pub sum-loop-part-preserved : goal.sum-loop-part-preserved
sum-loop-part-preserved t c =
    (summed_more c.loop-part.invariant c.part-item.result c.value_of.result c.in-Some.value c.signed-sum.result c.requires.term_fits c.loop-part-test.true c.part-item.is
    c.value_of.ensures.is c.value_of.ensures.bounded c.in-Some.is c.signed-sum.ensures).more

pub sum-returns : goal.sum-returns
sum-returns t c =
    let under = c.args.under in
    let w = world_of under.spec.now in
    let parts = c.args.parts.now in
    let k = c.loop-part.part-index in
    let all = take_all k parts c.loop-part-test.false in
    record {
      is = sym c.loop-part.invariant.is ∙ ap (λ l. sum_of (map (part_valued under c.args.instant) l)) all ∙ sym (value-Sum w parts under.values.now under.table.now c.args.instant);
      bounded = λ vs are z is.
          sum_within w parts vs z (omega (arith, ap nat_abs (same_Some (to_z w64 c.loop-part.sum-bits) z is), ap (λ l. sum (map (own_bound w vs) l)) all, c.loop-part.invariant.small vs are));
    }

pub value_of-bounds-under-level : goal.value_of-bounds-under-level
value_of-bounds-under-level t c = var_inside _ _ _ (fits_as c.requires.term_fits c.in-Var.is)

pub value_of-returns-in-Var : goal.value_of-returns-in-Var
value_of-returns-in-Var t c = let told = var_told c.args.under c.args.instant c.in-Var.level c.args.term.now c.requires.term_fits c.in-Var.is in record { is = told.is; bounded = told.bounded }

pub value_of-returns-in-Number : goal.value_of-returns-in-Number
value_of-returns-in-Number t c =
    let told = number_told c.args.under c.args.instant c.in-Number.number c.args.term.now (to_z w64 (of_z w64 c.from.result)) c.in-Number.is (omega (arith, ints, c.from.ensures)) in
    record { is = told.is; bounded = told.bounded }

pub value_of-returns-in-Value : goal.value_of-returns-in-Value
value_of-returns-in-Value t c =
    let told = value_told c.args.under c.args.instant c.in-Value.field-0 c.in-Value.index c.args.term.now (to_z w64 (of_z w64 c.from-in-Value.result)) c.requires.term_fits c.in-Value.is (omega (arith, ints, c.from-in-Value.ensures)) in
    record { is = told.is; bounded = told.bounded }

pub value_of-value_of-requires : goal.value_of-value_of-requires
value_of-value_of-requires t c =
    let factor_fits = times_part _ _ _ _ (fits_as c.requires.term_fits c.in-Times.is) in
    (search (ints, rules, the_lemmas), (c.requires.table_fits, (fits_as factor_fits (sym c.get.ensures), c.requires.instant_in)))

pub value_of-returns-in-None-clause-is : goal.value_of-returns-in-None-clause-is
value_of-returns-in-None-clause-is t c =
    let under = c.args.under in
    let of = valued under c.args.instant in
    sym (ap of c.in-Times.is ∙ value-Times (world_of under.spec.now) c.in-Times.number c.in-Times.factor under.values.now under.table.now c.args.instant
    ∙ ap (option_map (λ z. pos c.in-Times.number *ℤ z)) (ap of (sym c.get.ensures) ∙ sym c.value_of.ensures.is ∙ c.in-None.is))

pub value_of-overflow_mul-result : goal.value_of-overflow_mul-result
value_of-overflow_mul-result t c =
    (product c.args.under c.args.instant c.in-Times.number c.args.term.now c.get.result.now c.in-Times.factor (to_z w64 (of_z w64 c.from-in-Some.result)) c.in-Some.value c.value_of.result
    c.requires.term_fits c.in-Times.is c.get.ensures (omega (arith, ints, c.from-in-Some.ensures)) c.value_of.ensures.is c.value_of.ensures.bounded c.in-Some.is).fits

pub value_of-returns-in-Some : goal.value_of-returns-in-Some
value_of-returns-in-Some t c =
    let of = product c.args.under c.args.instant c.in-Times.number c.args.term.now c.get.result.now c.in-Times.factor (to_z w64 (of_z w64 c.from-in-Some.result)) c.in-Some.value c.value_of.result
    c.requires.term_fits c.in-Times.is c.get.ensures (omega (arith, ints, c.from-in-Some.ensures)) c.value_of.ensures.is c.value_of.ensures.bounded c.in-Some.is in
    record { is = of.answer.is; bounded = of.answer.bounded }
