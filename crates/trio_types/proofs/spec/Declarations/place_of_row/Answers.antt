-- The answers to the goals of `place_of_row`.
use Rattle.std.proofs.Common.{◌≡◌, ℕ, ◌<◌, List, length, get_or, Some, slice_get, sum_by, ap, sym, ◌∙◌, arith}
use Rattle.std.proofs.lemmas.List.{take_all}
use Rattle.std.proofs.lemmas.List.Sums.{sum_by_more}
use Rattle.std.proofs.lemmas.Option.{slice_get-get_or}
use Rattle.trio_types.specs.declared.spec.Item.{Item}
use Rattle.trio_types.specs.declared.spec.Which.TheVariants as which
use Rattle.trio_types.specs.Cells.{tuples}
use Rattle.trio_types.specs.Declarations.{declared_parts, declared_world}
use Rattle.trio_types.proofs.Specs.{declared_formed, within_limit}
use Rattle.trio_types.proofs.CellNumbers.{tuples_of_item, are_named, args_named, few_tuples, row_count}
use Rattle.trio_types.proofs.spec.Declarations.place_of_row.Goals as goal

-- the item at hand
stands : (items all : List Item) (k : ℕ) (item : Item) → items ≡ all → k < length items → item ≡ get_or items k item → slice_get all k ≡ Some item
stands items all k item is inside at = ap (λ l. slice_get l k) (sym is) ∙ slice_get-get_or items k item inside ∙ ap Some (sym at)

pub loop-number-init : goal.loop-number-init
loop-number-init c = record { items = c.as_slice-item-items.ensures; whole = omega arith }

pub tuple_count-rows-requires-clause-named : goal.tuple_count-rows-requires-clause-named
tuple_count-rows-requires-clause-named c =
    let spec = c.args.self in
    let k = c.loop-number.number in
    let at = stands c.as_slice-item-items.result.now spec.items.now k c.item-item.result c.loop-number.invariant.items c.loop-number-test.true c.item-item.is in
    ap (are_named spec.domains.now) c.as_slice.ensures ∙ args_named (declared_parts spec) (declared_formed spec) k c.item-item.result at

pub tuple_count-rows-requires-clause-few : goal.tuple_count-rows-requires-clause-few
tuple_count-rows-requires-clause-few c =
    let spec = c.args.self in
    let k = c.loop-number.number in
    let at = stands c.as_slice-item-items.result.now spec.items.now k c.item-item.result c.loop-number.invariant.items c.loop-number-test.true c.item-item.is in
    omega (arith, ap (λ ds. length (tuples spec.domains.now ds)) c.as_slice.ensures, few_tuples (declared_parts spec) (declared_formed spec) k c.item-item.result at)

pub overflow_cast-result : goal.overflow_cast-result
overflow_cast-result c =
    let spec = c.args.self in
    omega (arith, c.loop-number-test.true, ap length c.loop-number.invariant.items, within_limit (declared_parts spec) (declared_formed spec) which.Items)

pub returns-then-left-rows : goal.returns-then-left-rows
returns-then-left-rows c =
    let spec = c.args.self in
    let k = c.loop-number.number in
    let at = stands c.as_slice-item-items.result.now spec.items.now k c.item-item.result c.loop-number.invariant.items c.loop-number-test.true c.item-item.is in
    let number = c.tuple_count-rows.ensures ∙ ap (λ ds. length (tuples spec.domains.now ds)) c.as_slice.ensures in
    (c.item-item.result, at, omega (arith, number, c.if-left-rows.true), c.loop-number.invariant.whole)

pub loop-number-preserved : goal.loop-number-preserved
loop-number-preserved c =
    let spec = c.args.self in
    let k = c.loop-number.number in
    let items = c.as_slice-item-items.result.now in
    let inside : k < length spec.items.now = omega (arith, ap length c.loop-number.invariant.items, c.loop-number-test.true) in
    let e = sum_by_more (tuples_of_item spec.domains.now) spec.items.now k c.item-item.result inside in
    let same = ap (tuples_of_item spec.domains.now) (c.item-item.is ∙ ap (λ l. get_or l k c.item-item.result) c.loop-number.invariant.items) in
    let number = c.tuple_count-rows.ensures ∙ ap (λ ds. length (tuples spec.domains.now ds)) c.as_slice.ensures in
    record { items = c.loop-number.invariant.items; whole = omega (arith, e, same, number, c.loop-number.invariant.whole, c.if-left-rows.false) }

pub unreachable-requires : goal.unreachable-requires
unreachable-requires c =
    let spec = c.args.self in
    let all = ap (sum_by (tuples_of_item spec.domains.now)) (take_all c.loop-number.number spec.items.now (omega (arith, ap length c.loop-number.invariant.items, c.loop-number-test.false))) in
    omega (arith, all, c.loop-number.invariant.whole, c.requires, row_count (declared_world spec))
