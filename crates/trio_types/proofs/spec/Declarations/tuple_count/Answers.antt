-- The answers to the goals of `tuple_count`.
use Rattle.std.proofs.Common.{◌≡◌, ◌+◌, ◌*◌, ◌≤◌, length, drop, ap, sym, ◌∙◌, arith}
use Rattle.std.proofs.Math.Nat.{mul_assoc}
use Rattle.trio_types.specs.Cells.{tuples}
use Rattle.trio_types.specs.Declarations.{declared_parts}
use Rattle.trio_types.proofs.Lists.{all_drop}
use Rattle.trio_types.proofs.Specs.{declared_formed}
use Rattle.trio_types.proofs.CellNumbers.{count_more, small_factor, some_tuple, size_inside}
use Rattle.trio_types.proofs.spec.Declarations.tuple_count.Goals as goal

pub size_of-count-requires : goal.size_of-count-requires
size_of-count-requires c = size_inside c.args.self.domains.now c.args.domains.now c.loop-domain.domain-index c.requires.named c.loop-domain-test.true

pub overflow_mul-count : goal.overflow_mul-count
overflow_mul-count c =
    let domains = c.args.self.domains.now in
    let ds = c.args.domains.now in
    let k = c.loop-domain.domain-index in
    let n = c.loop-domain.count in
    let size = c.size_of-count.result in
    let more = some_tuple (declared_parts c.args.self) (declared_formed c.args.self) (drop (k + 1) ds) (all_drop _ (k + 1) ds c.requires.named) in
    let whole : (n * size) * length (tuples domains (drop (k + 1) ds)) ≡ length (tuples domains ds) =
    mul_assoc n size (length (tuples domains (drop (k + 1) ds)))
    ∙ ap (λ s. n * (s * length (tuples domains (drop (k + 1) ds)))) c.size_of-count.ensures
    ∙ ap (λ m. n * m) (sym (count_more domains ds k c.loop-domain-test.true)) ∙ c.loop-domain.invariant in
    let most : (n * size) * length (tuples domains (drop (k + 1) ds)) ≤ 1024 = omega (arith, whole, c.requires.few) in
    let small = small_factor (n * size) (length (tuples domains (drop (k + 1) ds))) 1024 more most in
    omega (arith, small)

pub loop-domain-preserved : goal.loop-domain-preserved
loop-domain-preserved c =
    let domains = c.args.self.domains.now in
    let ds = c.args.domains.now in
    let k = c.loop-domain.domain-index in
    let n = c.loop-domain.count in
    let size = c.size_of-count.result in
    mul_assoc n size (length (tuples domains (drop (k + 1) ds)))
    ∙ ap (λ s. n * (s * length (tuples domains (drop (k + 1) ds)))) c.size_of-count.ensures
    ∙ ap (λ m. n * m) (sym (count_more domains ds k c.loop-domain-test.true)) ∙ c.loop-domain.invariant
