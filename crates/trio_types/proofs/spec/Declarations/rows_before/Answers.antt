-- The answers to the goals of `rows_before`.
use Rattle.std.proofs.Common.{◌≡◌, ℕ, ◌+◌, ◌<◌, List, length, take, get_or, Some, slice_get, sum_by, ap, sym, ◌∙◌, arith}
use Rattle.std.proofs.lemmas.List.{take_all}
use Rattle.std.proofs.lemmas.List.Sums.{sum_by_more, sum_by-take-le}
use Rattle.std.proofs.lemmas.Option.{slice_get-get_or}
use Rattle.trio_types.specs.declared.spec.Item.{Item}
use Rattle.trio_types.specs.declared.spec.Declarations.{Declarations}
use Rattle.trio_types.specs.Cells.{tuples}
use Rattle.trio_types.specs.Declarations.{declared_parts}
use Rattle.trio_types.proofs.Lists.{get_of_take}
use Rattle.trio_types.proofs.Specs.{declared_formed}
use Rattle.trio_types.proofs.CellNumbers.{tuples_of_item, are_named, args_named, few_tuples, few_before}
use Rattle.trio_types.proofs.spec.Declarations.rows_before.Goals as goal

pub tuple_count-rows-requires-clause-named : goal.tuple_count-rows-requires-clause-named
tuple_count-rows-requires-clause-named c =
    let spec = c.args.self in
    let i = c.loop-item.item-index in
    let item = c.item-item.result in
    let front = take c.args.number c.as_slice.result.now in
    let at = get_of_take c.args.number spec.items.now i item (ap (λ l. slice_get l i) (sym c.loop-item.invariant.front) ∙ slice_get-get_or front i item c.loop-item-test.true ∙ ap Some (sym c.item-item.is)) in
    ap (are_named spec.domains.now) c.as_slice-in-loop-item.ensures ∙ args_named (declared_parts spec) (declared_formed spec) i item at

pub tuple_count-rows-requires-clause-few : goal.tuple_count-rows-requires-clause-few
tuple_count-rows-requires-clause-few c =
    let spec = c.args.self in
    let i = c.loop-item.item-index in
    let item = c.item-item.result in
    let front = take c.args.number c.as_slice.result.now in
    let at = get_of_take c.args.number spec.items.now i item (ap (λ l. slice_get l i) (sym c.loop-item.invariant.front) ∙ slice_get-get_or front i item c.loop-item-test.true ∙ ap Some (sym c.item-item.is)) in
    omega (arith, ap (λ ds. length (tuples spec.domains.now ds)) c.as_slice-in-loop-item.ensures, few_tuples (declared_parts spec) (declared_formed spec) i item at)

-- the rows of one item more
more : (spec : Declarations) (n i rows count : ℕ) (front : List Item) (item : Item) (ds : List ℕ) → front ≡ take n spec.items.now → i < length front → item ≡ get_or front i item →
    rows ≡ sum_by (tuples_of_item spec.domains.now) (take i front) → count ≡ length (tuples spec.domains.now ds) → ds ≡ item.args →
    rows + count ≡ sum_by (tuples_of_item spec.domains.now) (take (i + 1) front)
more spec n i rows count front item ds is inside at so_far number args =
    let e = sum_by_more (tuples_of_item spec.domains.now) front i item inside in
    let same = ap (tuples_of_item spec.domains.now) (sym at) in
    let tuples_are = number ∙ ap (λ ds. length (tuples spec.domains.now ds)) args in
    omega (arith, e, same, tuples_are, so_far)

pub overflow_add-rows : goal.overflow_add-rows
overflow_add-rows c =
    let spec = c.args.self in
    let front = take c.args.number c.as_slice.result.now in
    let sum = more spec c.args.number c.loop-item.item-index c.loop-item.rows c.tuple_count-rows.result front c.item-item.result c.as_slice-in-loop-item.result.now c.loop-item.invariant.front
    c.loop-item-test.true c.item-item.is c.loop-item.invariant.rows_are c.tuple_count-rows.ensures c.as_slice-in-loop-item.ensures in
    let part = sum_by-take-le (tuples_of_item spec.domains.now) front (c.loop-item.item-index + 1) in
    let whole = ap (sum_by (tuples_of_item spec.domains.now)) c.loop-item.invariant.front in
    omega (arith, sum, part, whole, few_before (declared_parts spec) (declared_formed spec) c.args.number)

pub loop-item-preserved : goal.loop-item-preserved
loop-item-preserved c =
    let spec = c.args.self in
    let front = take c.args.number c.as_slice.result.now in
    record {
      front = c.loop-item.invariant.front;
      rows_are = more spec c.args.number c.loop-item.item-index c.loop-item.rows c.tuple_count-rows.result front c.item-item.result c.as_slice-in-loop-item.result.now c.loop-item.invariant.front
          c.loop-item-test.true c.item-item.is c.loop-item.invariant.rows_are c.tuple_count-rows.ensures c.as_slice-in-loop-item.ensures;
    }

pub returns : goal.returns
returns c =
    let spec = c.args.self in
    let front = take c.args.number c.as_slice.result.now in
    c.loop-item.invariant.rows_are
    ∙ ap (sum_by (tuples_of_item spec.domains.now)) (take_all c.loop-item.item-index front c.loop-item-test.false ∙ c.loop-item.invariant.front)
