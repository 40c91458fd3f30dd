-- The answers to the goals of `term_value`, `read`, `cell_read` and `sum`.
use Rattle.std.proofs.Common.{ℤ, ◌+ℤ◌, length, map, take, None, Some, slice_get, to_z, of_z, w64, subst, refl, sym, ap, ◌∙◌, arith, rules}
use Rattle.std.specs.ControlFlow.{continue_value}
use Rattle.std.proofs.lemmas.Int.{ints}
use Rattle.std.proofs.lemmas.List.{length-map, length-take-le, take_all}
use Rattle.trio_types.specs.declared.formula.SignedTerm.{SignedTerm, out-SignedTerm}
use Rattle.trio_types.specs.declared.formula.Term.TheFolds.{the_lemmas}
use Rattle.trio_types.specs.Cells.{the_cell, cells_of, item_takes, takes}
use Rattle.trio_types.specs.Declarations.{declared_world}
use Rattle.trio_types.proofs.Arguments.{none_indexed, more_indexed, all_indexed, no_index}
use Rattle.trio_types.proofs.Bounded.{near_of}
use Rattle.trio_core.specs.declared.nodes.Known.{Known}
use Rattle.trio_core.specs.Three.{known_both, known_sum}
use Rattle.trio_core.specs.Stands.{world_of_core}
use Rattle.trio_core.specs.Fits.{IsCellRead}
use Rattle.trio_core.proofs.Value3At.{signed_value3, value3-Sum}
use Rattle.trio_core.proofs.KnownAt.{value_if_known, known_sum_more}
use Rattle.trio_core.proofs.TermsFit.{world_is, front_near, cell_by_indexes}
use Rattle.trio_core.proofs.TermValues.{told_of, known_value, known_near, number_told, value_told, var_told, var_inside, product, part_fits, signed_by, signed_near, read_declared, read_arguments, known_args, argument, argument_index, is_read, read_found, read_nowhere}
use Rattle.trio_core.proofs.terms.+value.Goals as goal

pub cell_read-get-requires : goal.cell_read-get-requires
cell_read-get-requires t c = read_declared c.args.item c.args.args.now c.requires.term_fits

pub cell_read-loop-place-init : goal.cell_read-loop-place-init
cell_read-loop-place-init t c = none_indexed _ _ _ _ refl

pub cell_read-term_value-requires : goal.cell_read-term_value-requires
cell_read-term_value-requires t c =
    let a = argument c.args.under c.args.instant c.args.item c.args.args.now c.loop-place.place c.index-args-place.result c.requires.term_fits c.loop-place-test.true c.index-args-place.is in
    (search (ints, rules, the_lemmas), (c.requires.sets_fit, (a.fits, c.requires.instant_in)))

pub cell_read-unreachable-requires : goal.cell_read-unreachable-requires
cell_read-unreachable-requires t c =
    let a = argument c.args.under c.args.instant c.args.item c.args.args.now c.loop-place.place c.index-args-place.result c.requires.term_fits c.loop-place-test.true c.index-args-place.is in
    c.in_default.not-One a.value (c.term_value.ensures ∙ a.known)

pub cell_read-bounds-domains-place : goal.cell_read-bounds-domains-place
cell_read-bounds-domains-place t c =
    let a = read_arguments c.args.under.core.now c.args.item c.args.args.now c.requires.term_fits c.get.ensures c.as_slice-domains.ensures in omega (arith, a.long, c.loop-place-test.true)

pub cell_read-index_of-requires : goal.cell_read-index_of-requires
cell_read-index_of-requires t c =
    let ds = read_arguments c.args.under.core.now c.args.item c.args.args.now c.requires.term_fits c.get.ensures c.as_slice-domains.ensures in
    let a = argument c.args.under c.args.instant c.args.item c.args.args.now c.loop-place.place c.index-args-place.result c.requires.term_fits c.loop-place-test.true c.index-args-place.is in
    let near = near_of c.in-One.value (known_near c.args.under c.args.instant c.index-args-place.result c.term_value.result a.fits c.term_value.ensures c.in-One.value c.in-One.is) in
    record {
      domain_in = omega (arith, ds.inside c.loop-place.place c.loop-place-test.true, ap length c.declarations-declared.ensures.domains);
      not_far_back = omega (arith, ints, near.not_far_back, near.not_far_on);
      not_far_on = omega (arith, ints, near.not_far_back, near.not_far_on);
    }

pub cell_read-bounds-indexes-place : goal.cell_read-bounds-indexes-place
cell_read-bounds-indexes-place t c =
    let a = read_arguments c.args.under.core.now c.args.item c.args.args.now c.requires.term_fits c.get.ensures c.as_slice-domains.ensures in omega (arith, a.few, c.loop-place-test.true, c.loop-place.invariant.four)

pub cell_read-loop-place-preserved : goal.cell_read-loop-place-preserved
cell_read-loop-place-preserved t c =
    let ds = read_arguments c.args.under.core.now c.args.item c.args.args.now c.requires.term_fits c.get.ensures c.as_slice-domains.ensures in
    let a = argument c.args.under c.args.instant c.args.item c.args.args.now c.loop-place.place c.index-args-place.result c.requires.term_fits c.loop-place-test.true c.index-args-place.is in
    let found = argument_index c.args.under c.args.instant c.as_slice-domains.result.now c.args.args.now c.loop-place.place c.index-args-place.result c.in-One.value c.term_value.result c.declarations-declared.result.domains.now c.index_of.result
    a.fits c.loop-place-test.true c.index-args-place.is c.term_value.ensures c.in-One.is c.declarations-declared.ensures.domains c.index_of.ensures in
    more_indexed c.loop-place.invariant c.in-One.value c.in_ok-index.index (omega (arith, ds.long, c.loop-place-test.true)) (omega (arith, ds.long, ds.few)) found.value_at
    (found.index_is ∙ c.branch-index.ensures ∙ ap continue_value c.in_ok-index.is)

pub cell_read-returns-in_err-index : goal.cell_read-returns-in_err-index
cell_read-returns-in_err-index t c =
    let w = world_of_core c.args.under.core.now in
    let args = c.args.args.now in
    let zs = known_args c.args.under c.args.instant args in
    let ds = read_arguments c.args.under.core.now c.args.item args c.requires.term_fits c.get.ensures c.as_slice-domains.ensures in
    let a = argument c.args.under c.args.instant c.args.item c.args.args.now c.loop-place.place c.index-args-place.result c.requires.term_fits c.loop-place-test.true c.index-args-place.is in
    let found = argument_index c.args.under c.args.instant c.as_slice-domains.result.now c.args.args.now c.loop-place.place c.index-args-place.result c.in-One.value c.term_value.result c.declarations-declared.result.domains.now c.index_of.result
    a.fits c.loop-place-test.true c.index-args-place.is c.term_value.ensures c.in-One.is c.declarations-declared.ensures.domains c.index_of.ensures in
    let none = no_index ds zs c.loop-place.place c.in-One.value c.loop-place-test.true found.value_at (found.index_is ∙ c.branch-index.ensures ∙ ap continue_value c.in_err-index.is) in
    is_read c.args.under c.args.instant c.args.item args c.from_residual.result c.requires.term_fits
    (subst (IsCellRead w c.args.item zs c.args.instant) (sym c.from_residual.ensures) (cell_by_indexes w c.args.item c.get.result.now zs c.args.instant None c.get.ensures none))

pub cell_read-slice_bounds-indexes-end : goal.cell_read-slice_bounds-indexes-end
cell_read-slice_bounds-indexes-end t c =
    let a = read_arguments c.args.under.core.now c.args.item c.args.args.now c.requires.term_fits c.get.ensures c.as_slice-domains.ensures in omega (arith, a.few, c.loop-place.invariant.four)

pub cell_read-slice_bounds-cell_of-end : goal.cell_read-slice_bounds-cell_of-end
cell_read-slice_bounds-cell_of-end t c =
    let a = read_arguments c.args.under.core.now c.args.item c.args.args.now c.requires.term_fits c.get.ensures c.as_slice-domains.ensures in
    sym (length-take-le (length c.args.args.now) c.loop-place.indexes (omega (arith, a.few, c.loop-place.invariant.four)))

pub cell_read-cell_of-requires-clause-item_in : goal.cell_read-cell_of-requires-clause-item_in
cell_read-cell_of-requires-clause-item_in t c = omega (arith, read_declared c.args.item c.args.args.now c.requires.term_fits, ap length c.declarations-declared.ensures.items)

pub cell_read-cell_of-requires-clause-args_in : goal.cell_read-cell_of-requires-clause-args_in
cell_read-cell_of-requires-clause-args_in t c =
    let w = world_of_core c.args.under.core.now in
    let args = c.args.args.now in
    let vs = take (length args) c.loop-place.indexes in
    let ds = read_arguments c.args.under.core.now c.args.item args c.requires.term_fits c.get.ensures c.as_slice-domains.ensures in
    let all = all_indexed ds c.loop-place.invariant (length-map args (λ a. value_if_known (known_value c.args.under c.args.instant a))) c.loop-place-test.false (omega arith) in
    let same = world_is (declared_world c.declarations-declared.result) w c.declarations-declared.ensures.instants c.declarations-declared.ensures.domains c.declarations-declared.ensures.items in
    ap (λ w. takes w c.args.item vs) same ∙ ap (λ o. item_takes w o vs) c.get.ensures ∙ all.fit

pub cell_read-returns : goal.cell_read-returns
cell_read-returns t c =
    let w = world_of_core c.args.under.core.now in
    let n = c.args.item in
    let i = c.args.instant in
    let args = c.args.args.now in
    let m = c.cell_of.result in
    let vs = take (length args) c.loop-place.indexes in
    let ds = read_arguments c.args.under.core.now n args c.requires.term_fits c.get.ensures c.as_slice-domains.ensures in
    let all = all_indexed ds c.loop-place.invariant (length-map args (λ a. value_if_known (known_value c.args.under i a))) c.loop-place-test.false (omega arith) in
    let same = world_is (declared_world c.declarations-declared.result) w c.declarations-declared.ensures.instants c.declarations-declared.ensures.domains c.declarations-declared.ensures.items in
    let is = cell_by_indexes w n c.get.result.now (known_args c.args.under i args) i (Some vs) c.get.ensures all.found in
    is_read c.args.under i n args (Some m) c.requires.term_fits (the_cell n vs i, is, ap (λ w. slice_get (cells_of w) m) (sym same) ∙ c.cell_of.ensures)

pub read-returns-in_default : goal.read-returns-in_default
read-returns-in_default t c = read_nowhere c.args.under c.args.instant c.args.item c.args.args.now c.cell_read.result c.requires.term_fits c.cell_read.ensures c.in_default.is

pub read-cell_value-requires-clause-cell_is : goal.read-cell_value-requires-clause-cell_is
read-cell_value-requires-clause-cell_is t c =
    (read_found c.args.under c.args.instant c.args.item c.args.args.now c.cell_read.result c.in-Some.cell c.requires.term_fits c.cell_read.ensures c.in-Some.is).cell_is

pub read-returns : goal.read-returns
read-returns t c =
    (read_found c.args.under c.args.instant c.args.item c.args.args.now c.cell_read.result c.in-Some.cell c.requires.term_fits c.cell_read.ensures c.in-Some.is).answer c.cell_value.result c.cell_value.ensures

pub sum-term_value-requires : goal.sum-term_value-requires
sum-term_value-requires t c =
    (search (ints, rules, the_lemmas), (c.requires.sets_fit, (part_fits c.args.parts.now c.requires.term_fits c.loop-part.part-index c.part-item.result c.loop-part-test.true c.part-item.is, c.requires.instant_in)))

pub sum-signed-requires : goal.sum-signed-requires
sum-signed-requires t c =
    known_near c.args.under c.args.instant (out-SignedTerm c.part-item.result).term c.term_value.result
    (part_fits c.args.parts.now c.requires.term_fits c.loop-part.part-index c.part-item.result c.loop-part-test.true c.part-item.is) c.term_value.ensures

pub sum-plus-sum-requires : goal.sum-plus-sum-requires
sum-plus-sum-requires t c =
    let under = c.args.under in
    let p = c.part-item.result in
    let p_fits = part_fits c.args.parts.now c.requires.term_fits c.loop-part.part-index p c.loop-part-test.true c.part-item.is in
    record {
      left_near = λ z is. front_near (world_of_core under.core.now) under.doms.now c.args.parts.now under.values.now c.args.instant c.loop-part.part-index c.requires.term_fits z (sym c.loop-part.invariant ∙ is);
      right_near = signed_near (out-SignedTerm p).minus c.term_value.result c.signed.result (known_near under c.args.instant (out-SignedTerm p).term c.term_value.result p_fits c.term_value.ensures) c.signed.ensures;
    }

pub sum-loop-part-preserved : goal.sum-loop-part-preserved
sum-loop-part-preserved t c =
    let parts = c.args.parts.now in
    let g : SignedTerm → Known ℤ = λ p. signed_value3 (world_of_core c.args.under.core.now) p c.args.under.values.now (told_of c.args.under) c.args.instant in
    let k = c.loop-part.part-index in
    let p = c.part-item.result in
    c.plus-sum.ensures ∙ ap (λ s. known_both (λ x y. x +ℤ y) s c.signed.result) c.loop-part.invariant
    ∙ ap (known_both (λ x y. x +ℤ y) (known_sum (map g (take k parts)))) (c.signed.ensures ∙ ap (signed_by (out-SignedTerm p).minus) c.term_value.ensures) ∙ sym (known_sum_more g parts k p c.loop-part-test.true c.part-item.is)

pub sum-returns : goal.sum-returns
sum-returns t c =
    let w = world_of_core c.args.under.core.now in
    let parts = c.args.parts.now in
    let g : SignedTerm → Known ℤ = λ p. signed_value3 w p c.args.under.values.now (told_of c.args.under) c.args.instant in
    c.loop-part.invariant ∙ ap (λ l. known_sum (map g l)) (take_all c.loop-part.part-index parts c.loop-part-test.false) ∙ sym (value3-Sum w parts c.args.under.values.now (told_of c.args.under) c.args.instant)

pub term_value-bounds-under-level : goal.term_value-bounds-under-level
term_value-bounds-under-level t c = var_inside c.in-Var.level c.requires.term_fits c.in-Var.is

pub term_value-term_value-requires : goal.term_value-term_value-requires
term_value-term_value-requires t c =
    let of = product c.args.under c.args.instant c.in-Times.number c.args.term.now c.get.result.now c.in-Times.factor (known_value c.args.under c.args.instant c.get.result.now) c.requires.term_fits c.in-Times.is c.get.ensures refl in
    (search (ints, rules, the_lemmas), (c.requires.sets_fit, (of.fits, c.requires.instant_in)))

pub term_value-times-requires : goal.term_value-times-requires
term_value-times-requires t c =
    let of = product c.args.under c.args.instant c.in-Times.number c.args.term.now c.get.result.now c.in-Times.factor c.term_value.result c.requires.term_fits c.in-Times.is c.get.ensures c.term_value.ensures in
    record { near = of.near; product_near = of.product_near }

pub term_value-returns-in-Number : goal.term_value-returns-in-Number
term_value-returns-in-Number t c = number_told c.args.under c.args.instant c.in-Number.number c.args.term.now (to_z w64 (of_z w64 c.from.result)) c.in-Number.is (omega (arith, ints, c.from.ensures))

pub term_value-returns-in-Value : goal.term_value-returns-in-Value
term_value-returns-in-Value t c =
    value_told c.args.under c.args.instant c.in-Value.field-0 c.in-Value.index c.args.term.now (to_z w64 (of_z w64 c.from-in-Value.result)) c.in-Value.is (omega (arith, ints, c.from-in-Value.ensures))

pub term_value-returns-in-Var : goal.term_value-returns-in-Var
term_value-returns-in-Var t c = var_told c.args.under c.args.instant c.in-Var.level c.args.term.now c.requires.term_fits c.in-Var.is

pub term_value-returns-in-Times : goal.term_value-returns-in-Times
term_value-returns-in-Times t c =
    c.times.ensures
    ∙ (product c.args.under c.args.instant c.in-Times.number c.args.term.now c.get.result.now c.in-Times.factor c.term_value.result c.requires.term_fits c.in-Times.is c.get.ensures c.term_value.ensures).answer
