-- The last index of a list of words.
use Rattle.std.proofs.Common.{◌≡◌, pos, ◌-ℤ◌, length, to_z, of_z, w64, arith, ap, ◌∙◌}
use Rattle.std.proofs.lemmas.Int.{ints}
use Rattle.trio_types.specs.World.{size_of}
use Rattle.trio_types.proofs.Domains.{count_of_values, size_at}
use Rattle.derived_ops.proofs.distances.last_of_domain.Goals as goal

pub returns-in-Words : goal.returns-in-Words
returns-in-Words c =
    let size : size_of c.args.spec.now.domains c.args.domain ≡ length c.in-Words.field-0 =
    size_at c.args.spec.now.domains c.args.domain c.get.result.now c.get.ensures ∙ ap count_of_values c.in-Words.is in
    let same : to_z w64 (of_z w64 c.last_index.result) ≡ c.last_index.result = omega (arith, ints, c.last_index.type_inv) in
    rw (c.get.ensures, c.in-Words.is) (same ∙ c.last_index.ensures ∙ ap (λ n. pos n -ℤ pos 1) size)
