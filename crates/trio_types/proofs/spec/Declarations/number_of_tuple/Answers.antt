-- The answers to the goals of `number_of_tuple`.
use Rattle.std.proofs.Common.{◌≡◌, ◌+◌, ◌*◌, ◌≤◌, length, get_or, drop, slice_get, ap, sym, ◌∙◌, arith}
use Rattle.std.proofs.lemmas.List.{drop_all}
use Rattle.std.proofs.lemmas.Option.{slice_get_within}
use Rattle.trio_types.specs.Cells.{tuples}
use Rattle.trio_types.specs.Declarations.{declared_parts}
use Rattle.trio_types.proofs.Lists.{all_drop}
use Rattle.trio_types.proofs.Specs.{declared_formed}
use Rattle.trio_types.proofs.CellNumbers.{tuple_number, number_stands, count_more, small_factor, some_tuple, same_lengths, next_argument, horner}
use Rattle.trio_types.proofs.spec.Declarations.number_of_tuple.Goals as goal

pub overflow_mul-number : goal.overflow_mul-number
overflow_mul-number c =
    let domains = c.args.self.domains.now in
    let ds = c.args.domains.now in
    let vs = c.args.args.now in
    let k = c.loop-place.place in
    let m = length (tuples domains (drop (k + 1) ds)) in
    let next = next_argument domains ds vs k c.loop-place.invariant.fit c.loop-place-test.true in
    let lk : length (tuples domains (drop k ds)) ≡ c.size_of.result * m = count_more domains ds k c.loop-place-test.true ∙ ap (λ s. s * m) (sym c.size_of.ensures) in
    let whole = horner c.loop-place.number c.size_of.result (get_or vs k 0) m (tuple_number domains (drop (k + 1) ds) (drop (k + 1) vs)) (length (tuples domains (drop k ds)))
    (tuple_number domains (drop k ds) (drop k vs)) (tuple_number domains ds vs) lk next.number c.loop-place.invariant.whole in
    let inside = slice_get_within (tuples domains ds) (tuple_number domains ds vs) vs (number_stands domains ds vs c.requires.args_in) in
    let more = some_tuple (declared_parts c.args.self) (declared_formed c.args.self) (drop (k + 1) ds) (all_drop _ (k + 1) ds c.requires.named) in
    let most : (c.loop-place.number * c.size_of.result + get_or vs k 0) * m ≤ 1024 = omega (arith, whole, inside, c.requires.few) in
    omega (arith, small_factor (c.loop-place.number * c.size_of.result + get_or vs k 0) m 1024 more most)

pub overflow_add-number : goal.overflow_add-number
overflow_add-number c =
    let domains = c.args.self.domains.now in
    let ds = c.args.domains.now in
    let vs = c.args.args.now in
    let k = c.loop-place.place in
    let m = length (tuples domains (drop (k + 1) ds)) in
    let next = next_argument domains ds vs k c.loop-place.invariant.fit c.loop-place-test.true in
    let lk : length (tuples domains (drop k ds)) ≡ c.size_of.result * m = count_more domains ds k c.loop-place-test.true ∙ ap (λ s. s * m) (sym c.size_of.ensures) in
    let whole = horner c.loop-place.number c.size_of.result (get_or vs k 0) m (tuple_number domains (drop (k + 1) ds) (drop (k + 1) vs)) (length (tuples domains (drop k ds)))
    (tuple_number domains (drop k ds) (drop k vs)) (tuple_number domains ds vs) lk next.number c.loop-place.invariant.whole in
    let inside = slice_get_within (tuples domains ds) (tuple_number domains ds vs) vs (number_stands domains ds vs c.requires.args_in) in
    let more = some_tuple (declared_parts c.args.self) (declared_formed c.args.self) (drop (k + 1) ds) (all_drop _ (k + 1) ds c.requires.named) in
    let most : (c.loop-place.number * c.size_of.result + get_or vs k 0) * m ≤ 1024 = omega (arith, whole, inside, c.requires.few) in
    omega (arith, small_factor (c.loop-place.number * c.size_of.result + get_or vs k 0) m 1024 more most)

pub loop-place-preserved : goal.loop-place-preserved
loop-place-preserved c =
    let domains = c.args.self.domains.now in
    let ds = c.args.domains.now in
    let vs = c.args.args.now in
    let k = c.loop-place.place in
    let m = length (tuples domains (drop (k + 1) ds)) in
    let next = next_argument domains ds vs k c.loop-place.invariant.fit c.loop-place-test.true in
    let lk : length (tuples domains (drop k ds)) ≡ c.size_of.result * m = count_more domains ds k c.loop-place-test.true ∙ ap (λ s. s * m) (sym c.size_of.ensures) in
    record {
      whole = horner c.loop-place.number c.size_of.result (get_or vs k 0) m (tuple_number domains (drop (k + 1) ds) (drop (k + 1) vs)) (length (tuples domains (drop k ds)))
          (tuple_number domains (drop k ds) (drop k vs)) (tuple_number domains ds vs) lk next.number c.loop-place.invariant.whole;
      fit = next.fit;
    }

pub returns : goal.returns
returns c =
    let domains = c.args.self.domains.now in
    let ds = c.args.domains.now in
    let vs = c.args.args.now in
    let k = c.loop-place.place in
    let n = c.loop-place.number in
    let lengths = same_lengths domains ds vs c.requires.args_in in
    let none_d = drop_all k ds c.loop-place-test.false in
    let none_v = drop_all k vs (omega (arith, lengths, c.loop-place-test.false)) in
    let one = ap (λ l. length (tuples domains l)) none_d in
    let zero = ap (λ l. tuple_number domains l (drop k vs)) none_d in
    let whole = ap (λ m. n * m + tuple_number domains (drop k ds) (drop k vs)) (sym one) ∙ c.loop-place.invariant.whole in
    let number : n ≡ tuple_number domains ds vs = omega (arith, whole, zero) in
    ap (slice_get (tuples domains ds)) number ∙ number_stands domains ds vs c.requires.args_in
