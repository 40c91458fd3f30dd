-- The answers to the goals of `bells_ring_armed_and_counted`.
use Rattle.std.proofs.Common.{◌≡◌, ◌↔◌, ℕ, ◌+◌, ◌<◌, ◌≤◌, Bool, true, false, refl, arith}
use Rattle.trio_io.specs.Outside.{BellView, Asked}
use Rattle.trio_io.proofs.laws.bells_ring_armed_and_counted.Goals as goal

pub returns-clause-armed : goal.returns-clause-armed
returns-clause-armed c = λ before now none asked. asked.0 none

counted : (answer : Bool) (before now : BellView) → Asked answer before now → (before.rings ≤ now.rings) × ((answer ≡ true) ↔ (before.rings < now.rings))
counted true before now asked = let above : before.rings < now.rings = asked.1 in (omega arith, (λ is. above, λ above. refl))
counted false before now asked =
    let same : now.rings ≡ before.rings = asked.0 in
    (omega arith, (λ is. absurd (let wrong : false ≡ true = is in cc), λ above. absurd (omega arith)))

pub returns-clause-counted : goal.returns-clause-counted
returns-clause-counted c = counted

by_one_at_most : (answer : Bool) (before now : BellView) → Asked answer before now → (before.quiet ≤ now.quiet) × (now.quiet ≤ before.quiet + 1)
by_one_at_most true before now asked = let same : now.quiet ≡ before.quiet = asked.2 in (omega arith, omega arith)
by_one_at_most false before now asked = (asked.1, asked.2)

pub returns-clause-quiet : goal.returns-clause-quiet
returns-clause-quiet c = by_one_at_most
