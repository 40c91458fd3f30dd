-- The answers to the goals of `tuple_count`.
use Rattle.std.proofs.Common.{◌≡◌, ℕ, ◌+◌, ◌*◌, length, drop, sym, ap, ◌∙◌, arith}
use Rattle.std.proofs.Math.Nat.{mul_assoc}
use Rattle.std.proofs.lemmas.List.{drop_all}
use Rattle.trio_types.specs.Cells.{tuples}
use Rattle.trio_types.proofs.CellNumbers.{count_more}
use Rattle.trio_limits.specs.Given.{given_count}
use Rattle.trio_limits.proofs.Saturating.{given_small, given_by}
use Rattle.trio_limits.proofs.limits.tuple_count.Goals as goal

pub loop-domain-preserved : goal.loop-domain-preserved
loop-domain-preserved c =
    let domains = c.args.ground.now.domains.now in
    let ds = c.args.domains.now in
    let k = c.loop-domain.domain-index in
    let n = c.loop-domain.count in
    let left : ℕ = length (tuples domains (drop (k + 1) ds)) in (
      omega (arith, c.saturating_mul-count.ensures),
      ap (λ m. given_count (m * left)) c.saturating_mul-count.ensures
          ∙ given_by (n * c.size_of.result) left
          ∙ ap given_count (mul_assoc n c.size_of.result left ∙ ap (λ s. n * (s * left)) c.size_of.ensures.is
          ∙ ap (λ m. n * m) (sym (count_more domains ds k c.loop-domain-test.true)))
          ∙ c.loop-domain.invariant.1,
    )

pub returns : goal.returns
returns c =
    let domains = c.args.ground.now.domains.now in
    let ds = c.args.domains.now in
    let n = c.loop-domain.count in
    let one : n * 1 ≡ n = omega arith in
    sym (given_small n c.loop-domain.invariant.0) ∙ ap given_count (sym one)
    ∙ ap (λ l. given_count (n * length (tuples domains l))) (sym (drop_all c.loop-domain.domain-index ds c.loop-domain-test.false)) ∙ c.loop-domain.invariant.1
