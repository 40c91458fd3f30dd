-- The answers to the goals of `tuple_of_number`.
use Rattle.std.proofs.Common.{◌≡◌, ◌≢◌, ◌+◌, ◌/◌, length, get_or, take, drop, Some, ap, ◌∙◌, arith}
use Rattle.std.proofs.lemmas.List.{get_or-set_other, length-set}
use Rattle.std.proofs.lemmas.Nat.{mod_below}
use Rattle.trio_types.specs.Declarations.{declared_parts}
use Rattle.trio_types.proofs.Lists.{all_drop}
use Rattle.trio_types.proofs.Specs.{declared_formed}
use Rattle.trio_types.proofs.CellNumbers.{some_tuple, size_inside, some_size, quotient, told_more, told_end}
use Rattle.trio_types.proofs.spec.Declarations.tuple_of_number.Goals as goal

pub nonzero_div-count : goal.nonzero_div-count
nonzero_div-count c =
    let spec = c.args.self in
    omega (
      arith,
      c.size_of-count.ensures,
      some_size (declared_parts spec) (declared_formed spec) (get_or c.args.domains.now c.loop-place.place 0)
          (size_inside spec.domains.now c.args.domains.now c.loop-place.place c.requires.named c.loop-place-test.true),
    )

pub nonzero_div-args : goal.nonzero_div-args
nonzero_div-args c =
    let spec = c.args.self in
    let ds = c.args.domains.now in
    let k = c.loop-place.place in
    omega (
      arith,
      quotient (declared_parts spec) (declared_formed spec) ds k c.loop-place.count c.size_of-count.result c.requires.named c.loop-place-test.true c.loop-place.invariant.count_is c.size_of-count.ensures,
      some_tuple (declared_parts spec) (declared_formed spec) (drop (k + 1) ds) (all_drop _ (k + 1) ds c.requires.named),
    )

pub nonzero_rem-left : goal.nonzero_rem-left
nonzero_rem-left c =
    let spec = c.args.self in
    let ds = c.args.domains.now in
    let k = c.loop-place.place in
    omega (
      arith,
      quotient (declared_parts spec) (declared_formed spec) ds k c.loop-place.count c.size_of-count.result c.requires.named c.loop-place-test.true c.loop-place.invariant.count_is c.size_of-count.ensures,
      some_tuple (declared_parts spec) (declared_formed spec) (drop (k + 1) ds) (all_drop _ (k + 1) ds c.requires.named),
    )

pub loop-place-preserved : goal.loop-place-preserved
loop-place-preserved c =
    let spec = c.args.self in
    let ds = c.args.domains.now in
    let k = c.loop-place.place in
    let q = quotient (declared_parts spec) (declared_formed spec) ds k c.loop-place.count c.size_of-count.result c.requires.named c.loop-place-test.true c.loop-place.invariant.count_is c.size_of-count.ensures in
    let some = some_tuple (declared_parts spec) (declared_formed spec) (drop (k + 1) ds) (all_drop _ (k + 1) ds c.requires.named) in
    record {
      count_is = q;
      inside = mod_below c.loop-place.left (c.loop-place.count / c.size_of-count.result) (omega (arith, q, some));
      told = told_more spec.domains.now ds c.args.number k c.loop-place.args c.loop-place.left (c.loop-place.count / c.size_of-count.result) c.loop-place-test.true
          (omega (arith, c.loop-place.invariant.four, c.requires.short, c.loop-place-test.true)) q some (omega (arith, c.loop-place.invariant.count_is, c.loop-place.invariant.inside)) c.loop-place.invariant.told;
      rest = λ j from. let other : j ≢ k = omega arith in
          get_or-set_other c.loop-place.args k j (c.loop-place.left / (c.loop-place.count / c.size_of-count.result)) 0 other ∙ c.loop-place.invariant.rest j (omega arith);
      four = length-set c.loop-place.args k (c.loop-place.left / (c.loop-place.count / c.size_of-count.result)) ∙ c.loop-place.invariant.four;
    }

pub returns-clause-is : goal.returns-clause-is
returns-clause-is c =
    let spec = c.args.self in
    let ds = c.args.domains.now in
    let k = c.loop-place.place in
    let end : k ≡ length ds = omega (arith, c.loop-place-test.false, c.loop-place.auto.place-end) in
    told_end spec.domains.now ds c.args.number k c.loop-place.args c.loop-place.left (omega (arith, c.loop-place-test.false)) (omega (arith, c.loop-place.invariant.count_is, c.loop-place.invariant.inside)) c.loop-place.invariant.told
    ∙ ap (λ n. Some (take n c.loop-place.args)) end

pub returns-clause-rest : goal.returns-clause-rest
returns-clause-rest c = λ k from. c.loop-place.invariant.rest k (omega (arith, c.loop-place-test.false))
