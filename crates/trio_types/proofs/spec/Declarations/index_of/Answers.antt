-- The answers to the goals of `index_of`.
use Rattle.std.proofs.Common.{◌≡◌, ◌<◌, ℤ, pos, negsuc, ◌+ℤ◌, ◌-ℤ◌, ◌≤ℤ◌, nat_abs, to_z, of_z, w64, refl, sym, arith}
use Rattle.std.proofs.lemmas.Int.{ints}
use Rattle.trio_types.specs.World.{size_of}
use Rattle.trio_types.specs.Declarations.{declared_parts}
use Rattle.trio_types.proofs.Lists.{get_within}
use Rattle.trio_types.proofs.Specs.{declared_formed, first_fits, index_from_first, no_index_from_first}
use Rattle.trio_types.proofs.CellNumbers.{small_size}
use Rattle.trio_types.proofs.spec.Declarations.index_of.Goals.{else-distance-ge0-via-then-distance-ge0+else-distance-from, else-distance-ge0-via-else-distance-ge0}
use Rattle.trio_types.proofs.spec.Declarations.index_of.Goals as goal

pub overflow_sub-distance : goal.overflow_sub-distance
overflow_sub-distance c =
    let p = declared_parts c.args.self in
    let domain = get_within p.domains c.args.domain c.requires.domain_in in
    let near = first_fits p (declared_formed c.args.self) c.args.domain domain.0 domain.1 c.first_value.result c.first_value.ensures in
    omega (arith, ints, near.not_far_back, near.not_far_on, c.requires.not_far_back, c.requires.not_far_on)

absolute : (z : ℤ) → pos 0 ≤ℤ z → z ≡ pos (nat_abs z)
absolute (pos n) from = refl
absolute (negsuc n) from = absurd (omega (arith, ints, from))

pub returns-then-distance-from : goal.returns-then-distance-from
returns-then-distance-from c =
    let p = declared_parts c.args.self in
    let domain = get_within p.domains c.args.domain c.requires.domain_in in
    let near = first_fits p (declared_formed c.args.self) c.args.domain domain.0 domain.1 c.first_value.result c.first_value.ensures in
    let distance = to_z w64 (of_z w64 (to_z w64 (of_z w64 c.args.value) -ℤ to_z w64 (of_z w64 c.first_value.result))) in
    let is : distance ≡ c.args.value -ℤ c.first_value.result = omega (arith, ints, near.not_far_back, near.not_far_on, c.requires.not_far_back, c.requires.not_far_on) in
    let from : pos 0 ≤ℤ distance = omega (arith, ints, c.if-distance-ge0.true) in
    let same = absolute distance from in
    let small = small_size p (declared_formed c.args.self) c.args.domain c.requires.domain_in in
    let below : nat_abs distance < size_of p.domains c.args.domain = omega (arith, ints, same, c.if-distance-from.true, c.size_of.ensures, small) in
    let at : c.args.value ≡ c.first_value.result +ℤ pos (nat_abs distance) = omega (arith, ints, is, same) in
    sym (index_from_first p (declared_formed c.args.self) c.args.domain c.requires.domain_in (nat_abs distance) c.args.value below c.first_value.result c.first_value.ensures at)

pub returns-else-distance-ge0 : goal.returns-else-distance-ge0
returns-else-distance-ge0 c =
    let p = declared_parts c.args.self in
    let domain = get_within p.domains c.args.domain c.requires.domain_in in
    let near = first_fits p (declared_formed c.args.self) c.args.domain domain.0 domain.1 c.first_value.result c.first_value.ensures in
    let small = small_size p (declared_formed c.args.self) c.args.domain c.requires.domain_in in
    sym (no_index_from_first p (declared_formed c.args.self) c.args.domain c.requires.domain_in c.args.value c.first_value.result c.first_value.ensures
    (λ v below is. elim c.else-distance-ge0.branch [
      | else-distance-ge0-via-then-distance-ge0+else-distance-from b ↦
          omega (arith, ints, near.not_far_back, near.not_far_on, c.requires.not_far_back, c.requires.not_far_on, b.if-distance-from.false, b.size_of.ensures, small, is, below)
      | else-distance-ge0-via-else-distance-ge0 b ↦
          omega (arith, ints, near.not_far_back, near.not_far_on, c.requires.not_far_back, c.requires.not_far_on, b.if-distance-ge0.false, small, is, below)
    ]))
