-- Distances from an instant and the instants at them.
use Rattle.std.proofs.Common.{◌≡◌, ℕ, ◌<◌, ℤ, pos, neg_ℤ, ◌+ℤ◌, ◌-ℤ◌, ◌≤ℤ◌, Bool, true, false, ◌&&◌, Option, Some, filter, refl, sym, ap, ◌∙◌, arith}
use Rattle.std.specs.List.{list_any}
use Rattle.std.proofs.lemmas.Bool.{and_parts, and_from}
use Rattle.std.proofs.lemmas.Bool.Decides.{Decides-int_eq}
use Rattle.std.proofs.lemmas.Int.{ints}
use Rattle.trio_types.specs.declared.spec.DomainKind.TheVariants as kind
use Rattle.trio_types.specs.World.{World, instants_of}
use Rattle.trio_types.specs.Truth.{is_at_distance, at_distance}
use Rattle.trio_types.proofs.Lists.{some_of, any_from_some}
use Rattle.trio_types.proofs.Domains.{count_of_values, at_integers, integers_at, from_first, value_at_first}
use Rattle.trio_types.proofs.Operators.{some_instant, at_instant}
use Rattle.trio_core.specs.Core.{numbers}
use Rattle.derived_ops.specs.declared.joint.Way.{Way}
use Rattle.derived_ops.specs.declared.joint.Way.TheVariants as way
use Rattle.derived_ops.proofs.Renaming.{moved}

pub same_truth : (a b : Bool) → (a ≡ true → b ≡ true) → (b ≡ true → a ≡ true) → a ≡ b
same_truth true b to from = sym (to refl)
same_truth false true to from = from refl
same_truth false false to from = refl

-- some number of a range
pub some_number : (low high : ℤ) (p : ℤ → Bool) → list_any p (numbers low high) ≡ true → (z : ℤ) × (low ≤ℤ z) × (z ≤ℤ high) × (p z ≡ true)
some_number low high p any =
    let r = some_of p (numbers low high) any in
    let at = integers_at low (count_of_values (kind.Range low high)) r.0 r.1 r.2 in
    let inside = value_at_first (kind.Range low high) r.1 r.0 at.0 at.1 in
    (r.1, inside.0, inside.1, r.3)

pub at_number : (low high : ℤ) (p : ℤ → Bool) (z : ℤ) → low ≤ℤ z → z ≤ℤ high → p z ≡ true → list_any p (numbers low high) ≡ true
at_number low high p z from to holds =
    let m = from_first (kind.Range low high) z (from, to) in
    any_from_some p (numbers low high) m.0 z (at_integers low (count_of_values (kind.Range low high)) m.0 m.1 ∙ ap Some (sym m.2)) holds

-- the instant at a distance
pub there_at : (w : World) (i : ℕ) (d : ℤ) (q : ℕ → Bool) → list_any q (at_distance w i (Some d)) ≡ true → (j : ℕ) × (j < w.instants) × (pos j ≡ pos i +ℤ d) × (q j ≡ true)
there_at w i d q any =
    let r = some_instant w (is_at_distance i (Some d)) q any in
    (r.0, r.1, (Decides-int_eq (pos r.0) (pos i +ℤ d)).0 r.2, r.3)

pub at_there : (w : World) (i : ℕ) (d : ℤ) (q : ℕ → Bool) (j : ℕ) → j < w.instants → pos j ≡ pos i +ℤ d → q j ≡ true → list_any q (at_distance w i (Some d)) ≡ true
at_there w i d q j inside at holds = at_instant w (is_at_distance i (Some d)) q j inside ((Decides-int_eq (pos j) (pos i +ℤ d)).1 at) holds

-- truths that are the same inside time
pub any_inside : (w : World) (g p q : ℕ → Bool) → ((j : ℕ) → j < w.instants → p j ≡ q j) → list_any p (filter g (instants_of w)) ≡ list_any q (filter g (instants_of w))
any_inside w g p q same =
    same_truth (list_any p (filter g (instants_of w))) (list_any q (filter g (instants_of w)))
    (λ h. let r = some_instant w g p h in at_instant w g q r.0 r.1 r.2 (sym (same r.0 r.1) ∙ r.3))
    (λ h. let r = some_instant w g q h in at_instant w g p r.0 r.1 r.2 (same r.0 r.1 ∙ r.3))

pub there_inside : (w : World) (i : ℕ) (d : Option ℤ) (p q : ℕ → Bool) → ((j : ℕ) → j < w.instants → p j ≡ q j) → list_any p (at_distance w i d) ≡ list_any q (at_distance w i d)
there_inside w i d p q same = any_inside w (is_at_distance i d) p q same

-- some number of a range passes exactly where some instant does
pub seek : (w : World) (low high : ℤ) (p : ℤ → Bool) (g q : ℕ → Bool) →
    ((z : ℤ) → low ≤ℤ z → z ≤ℤ high → p z ≡ true → (j : ℕ) × (j < w.instants) × (g j ≡ true) × (q j ≡ true)) →
    ((j : ℕ) → j < w.instants → g j ≡ true → q j ≡ true → (z : ℤ) × (low ≤ℤ z) × (z ≤ℤ high) × (p z ≡ true)) →
    list_any p (numbers low high) ≡ list_any q (filter g (instants_of w))
seek w low high p g q to from =
    same_truth (list_any p (numbers low high)) (list_any q (filter g (instants_of w)))
    (λ h. let z = some_number low high p h in let j = to z.0 z.1 z.2 z.3 in at_instant w g q j.0 j.1 j.2 j.3)
    (λ h. let j = some_instant w g q h in let z = from j.0 j.1 j.2 j.3 in at_number low high p z.0 z.1 z.2 z.3)

-- the distance from one instant to another
pub distance_to : (m : Way) (i j : ℕ) → (z : ℤ) × (pos j ≡ pos i +ℤ moved m z)
distance_to way.Ahead i j = let e : pos j ≡ pos i +ℤ (pos j -ℤ pos i) = omega (arith, ints) in (pos j -ℤ pos i, e)
distance_to way.Back i j = let e : pos j ≡ pos i +ℤ neg_ℤ (pos i -ℤ pos j) = omega (arith, ints) in (pos i -ℤ pos j, e)

-- which distances of a range are taken, by a test, and which instants
pub record Reaches (w : World) (m : Way) (i : ℕ) (low high : ℤ) (c : ℤ → Bool) (g : ℕ → Bool) : Type 0 where
  pub to : (z : ℤ) (j : ℕ) → j < w.instants → pos j ≡ pos i +ℤ moved m z → low ≤ℤ z → z ≤ℤ high → c z ≡ true → g j ≡ true
  pub from : (z : ℤ) (j : ℕ) → j < w.instants → pos j ≡ pos i +ℤ moved m z → g j ≡ true → (low ≤ℤ z) × (z ≤ℤ high) × (c z ≡ true)

pub sought : (w : World) (m : Way) (i : ℕ) (low high : ℤ) (c : ℤ → Bool) (g q : ℕ → Bool) → Reaches w m i low high c g →
    list_any (λ z. c z && list_any q (at_distance w i (Some (moved m z)))) (numbers low high) ≡ list_any q (filter g (instants_of w))
sought w m i low high c g q reaches =
    seek w low high (λ z. c z && list_any q (at_distance w i (Some (moved m z)))) g q
    (λ z from to holds.
    let parts = and_parts (c z) (list_any q (at_distance w i (Some (moved m z)))) holds in
    let j = there_at w i (moved m z) q parts.1 in
    (j.0, j.1, reaches.to z j.0 j.1 j.2 from to parts.0, j.3))
    (λ j inside there holds.
    let z = distance_to m i j in
    let in_range = reaches.from z.0 j inside z.1 there in
    (z.0, in_range.0, in_range.1, and_from (c z.0) (list_any q (at_distance w i (Some (moved m z.0)))) in_range.2 (at_there w i (moved m z.0) q j inside z.1 holds)))
