-- The first false axiom and instant, axiom by axiom.
use Rattle.std.proofs.Common.{◌≡◌, ℕ, zero, suc, ◌+◌, ◌<◌, Bool, true, false, not, List, [], ◌∷◌, map, Option, None, Some, slice_get, find, refl, sym, ap, ◌∙◌, arith}
use Rattle.std.specs.List.{enumerate_from, flat_map, list_all}
use Rattle.std.specs.Option.{option_map, option_or}
use Rattle.std.proofs.Math.Logic.{⊎_elim}
use Rattle.std.proofs.lemmas.Bool.{and_parts, and_from, not-true, not-false, not_from_true, not_from_false, cond-true, cond-false, cases_Bool}
use Rattle.std.proofs.lemmas.Option.{none-some, same_Some, some_pair_parts}
use Rattle.std.proofs.lemmas.List.Folds.{find-append}
use Rattle.trio_types.specs.declared.spec.Axiom.{Axiom}
use Rattle.trio_types.specs.declared.spec.Spec.{Spec}
use Rattle.trio_types.specs.World.{World, instants_of}
use Rattle.trio_types.specs.Truth.{truth}
use Rattle.trio_types.specs.Verdict.{Demand, world_of, instants_asked, demands_of_axiom, demands_of, is_met, is_true_in, first_false}
use Rattle.trio_types.specs.Laws.{IsAsked, TrueThroughout, FirstFalse}
use Rattle.trio_types.proofs.Lists.{found_in_range, none_in_range, range_finds, range_finds_none, or_some, or_none, map_some, map_none}

-- the first instant at which an axiom is false
abbrev pub first_false_instant : World → List ℕ → Axiom → Option ℕ
first_false_instant w t a = find (λ i. not (truth w a.formula [] t i)) (instants_asked w a.at)

-- the first false axiom and instant of axioms that are numbered from n on
abbrev pub first_false_from : World → List ℕ → ℕ → List Axiom → Option (ℕ × ℕ)
first_false_from w t n [] = None
first_false_from w t n (a ∷ axioms) = option_or (option_map (λ i. (n, i)) (first_false_instant w t a)) (first_false_from w t (n + 1) axioms)

find-map : {X Y : Type 0} (p : Y → Bool) (g : X → Y) (xs : List X) → find p (map g xs) ≡ option_map g (find (λ x. p (g x)) xs)
find-map p g [] = refl
find-map p g (x ∷ xs) =
    ⊎_elim
    (λ yes. cond-true (p (g x)) (Some (g x)) (find p (map g xs)) yes ∙ ap (option_map g) (sym (cond-true (p (g x)) (Some x) (find (λ y. p (g y)) xs) yes)))
    (λ no. cond-false (p (g x)) (Some (g x)) (find p (map g xs)) no ∙ find-map p g xs
    ∙ ap (option_map g) (sym (cond-false (p (g x)) (Some x) (find (λ y. p (g y)) xs) no)))
    (cases_Bool (p (g x)))

map-or : {X Y : Type 0} (f : X → Y) (o r : Option X) → option_map f (option_or o r) ≡ option_or (option_map f o) (option_map f r)
map-or f None r = refl
map-or f (Some x) r = refl

map-map : {X Y Z : Type 0} (f : Y → Z) (g : X → Y) (o : Option X) → option_map f (option_map g o) ≡ option_map (λ x. f (g x)) o
map-map f g None = refl
map-map f g (Some x) = refl

abbrev is_false : World → List ℕ → Demand → Bool
is_false w t d = not (truth w d.axiom_.formula [] t d.instant)

abbrev place_of : Demand → ℕ × ℕ
place_of d = (d.number, d.instant)

abbrev demand_at : ℕ → Axiom → ℕ → Demand
demand_at n a i = record { number = n; axiom_ = a; instant = i }

abbrev demands_from : World → ℕ → List Axiom → List Demand
demands_from w n axioms = flat_map (λ p. demands_of_axiom w p.0 p.1) (enumerate_from n axioms)

from_demands : (w : World) (t : List ℕ) (n : ℕ) (axioms : List Axiom) →
    option_map place_of (find (is_false w t) (demands_from w n axioms)) ≡ first_false_from w t n axioms
from_demands w t n [] = refl
from_demands w t n (a ∷ axioms) =
    ap (option_map place_of) (find-append (is_false w t) (demands_of_axiom w n a) (demands_from w (n + 1) axioms))
    ∙ map-or place_of (find (is_false w t) (demands_of_axiom w n a)) (find (is_false w t) (demands_from w (n + 1) axioms))
    ∙ ap (λ o. option_or o (option_map place_of (find (is_false w t) (demands_from w (n + 1) axioms))))
    (ap (option_map place_of) (find-map (is_false w t) (demand_at n a) (instants_asked w a.at))
    ∙ map-map place_of (demand_at n a) (first_false_instant w t a))
    ∙ ap (option_or (option_map (λ i. (n, i)) (first_false_instant w t a))) (from_demands w t (n + 1) axioms)

-- `first_false` goes from axiom to axiom
pub first_false_is : (spec : Spec) (t : List ℕ) → first_false spec t ≡ first_false_from (world_of spec) t 0 spec.axioms
unfolding demands_of
first_false_is spec t = from_demands (world_of spec) t 0 spec.axioms

-- the search by number
found_from : (w : World) (t : List ℕ) (n : ℕ) (axioms : List Axiom) (m i : ℕ) → first_false_from w t n axioms ≡ Some (m, i) →
    (k : ℕ) × (a : Axiom) × (m ≡ n + k) × (slice_get axioms k ≡ Some a) × (first_false_instant w t a ≡ Some i)
    × ((l : ℕ) (b : Axiom) → l < k → slice_get axioms l ≡ Some b → first_false_instant w t b ≡ None)
found_from w t n [] m i is = absurd (none-some (m, i) is)
found_from w t n (a ∷ axioms) m i is =
    ⊎_elim
    (λ here. let r = map_some (λ i. (n, i)) (first_false_instant w t a) (m, i) here in
    let same = some_pair_parts n m r.0 i (ap Some r.2) in
    (0, a, omega (arith, same.0), refl, r.1 ∙ ap Some same.1, λ l b less at. absurd (omega arith)))
    (λ there. let r = found_from w t (n + 1) axioms m i there.1 in
    (suc r.0, r.1, omega (arith, r.2), r.3, r.4, earlier n a axioms r.0 (map_none (λ i. (n, i)) (first_false_instant w t a) there.0) r.5))
    (or_some (option_map (λ i. (n, i)) (first_false_instant w t a)) (first_false_from w t (n + 1) axioms) (m, i) is)
  where
    earlier : (n : ℕ) (a : Axiom) (axioms : List Axiom) (k : ℕ) → first_false_instant w t a ≡ None →
        ((l : ℕ) (b : Axiom) → l < k → slice_get axioms l ≡ Some b → first_false_instant w t b ≡ None) →
        (l : ℕ) (b : Axiom) → l < suc k → slice_get (a ∷ axioms) l ≡ Some b → first_false_instant w t b ≡ None
    earlier n a axioms k here more zero b less at = rw (← same_Some a b at) here
    earlier n a axioms k here more (suc l) b less at = more l b (omega arith) at

none_from : (w : World) (t : List ℕ) (n : ℕ) (axioms : List Axiom) → first_false_from w t n axioms ≡ None →
    (k : ℕ) (a : Axiom) → slice_get axioms k ≡ Some a → first_false_instant w t a ≡ None
none_from w t n [] is k a at = absurd (none-some a at)
none_from w t n (b ∷ bs) is zero a at =
    rw (← same_Some b a at)
    (map_none (λ i. (n, i)) (first_false_instant w t b) (or_none (option_map (λ i. (n, i)) (first_false_instant w t b)) (first_false_from w t (n + 1) bs) is).0)
none_from w t n (b ∷ bs) is (suc k) a at =
    none_from w t (n + 1) bs (or_none (option_map (λ i. (n, i)) (first_false_instant w t b)) (first_false_from w t (n + 1) bs) is).1 k a at

from_found : (w : World) (t : List ℕ) (n : ℕ) (axioms : List Axiom) (k : ℕ) (a : Axiom) (i : ℕ) → slice_get axioms k ≡ Some a → first_false_instant w t a ≡ Some i →
    ((l : ℕ) (b : Axiom) → l < k → slice_get axioms l ≡ Some b → first_false_instant w t b ≡ None) → first_false_from w t n axioms ≡ Some (n + k, i)
from_found w t n [] k a i at is earlier = absurd (none-some a at)
from_found w t n (b ∷ bs) zero a i at is earlier =
    let e : n ≡ n + 0 = omega arith in
    ap (λ o. option_or (option_map (λ i. (n, i)) o) (first_false_from w t (n + 1) bs)) (ap (first_false_instant w t) (same_Some b a at) ∙ is)
    ∙ ap (λ m. Some (m, i)) e
from_found w t n (b ∷ bs) (suc k) a i at is earlier =
    let e : n + 1 + k ≡ n + suc k = omega arith in
    ap (λ o. option_or (option_map (λ i. (n, i)) o) (first_false_from w t (n + 1) bs)) (earlier 0 b (omega arith) refl)
    ∙ from_found w t (n + 1) bs k a i at is (λ l b less at. earlier (suc l) b (omega arith) at)
    ∙ ap (λ m. Some (m, i)) e

from_none : (w : World) (t : List ℕ) (n : ℕ) (axioms : List Axiom) → ((k : ℕ) (a : Axiom) → slice_get axioms k ≡ Some a → first_false_instant w t a ≡ None) →
    first_false_from w t n axioms ≡ None
from_none w t n [] each = refl
from_none w t n (b ∷ bs) each =
    ap (λ o. option_or (option_map (λ i. (n, i)) o) (first_false_from w t (n + 1) bs)) (each 0 b refl)
    ∙ from_none w t (n + 1) bs (λ k a at. each (suc k) a at)

asked_found : (w : World) (p : ℕ → Bool) (at : Option ℕ) (i : ℕ) → find (λ i. not (p i)) (instants_asked w at) ≡ Some i →
    IsAsked w at i × (p i ≡ false) × ((j : ℕ) → j < i → IsAsked w at j → p j ≡ true)
unfolding instants_of
asked_found w p None i is =
    let r = found_in_range (λ i. not (p i)) 0 w.instants i is in
    (omega (arith, r.1), not-true (p i) r.2, λ j less asked. not-false (p j) (r.3 j (omega arith) less))
asked_found w p (Some k) i is =
    ⊎_elim
    (λ yes. let same : k ≡ i = same_Some k i (sym (cond-true (not (p k)) (Some k) None yes) ∙ is) in
    (sym same, not-true (p i) (rw (← same) yes), λ j less asked. absurd (omega arith)))
    (λ no. absurd (none-some i (sym (cond-false (not (p k)) (Some k) None no) ∙ is)))
    (cases_Bool (not (p k)))

asked_none : (w : World) (p : ℕ → Bool) (at : Option ℕ) → find (λ i. not (p i)) (instants_asked w at) ≡ None →
    (j : ℕ) → IsAsked w at j → p j ≡ true
unfolding instants_of
asked_none w p None is j asked = not-false (p j) (none_in_range (λ i. not (p i)) 0 w.instants is j (omega arith) (omega arith))
asked_none w p (Some k) is j asked =
    ⊎_elim
    (λ yes. absurd (none-some k (sym is ∙ cond-true (not (p k)) (Some k) None yes)))
    (λ no. rw asked (not-false (p k) no))
    (cases_Bool (not (p k)))

found_asked : (w : World) (p : ℕ → Bool) (at : Option ℕ) (i : ℕ) → IsAsked w at i → p i ≡ false → ((j : ℕ) → j < i → IsAsked w at j → p j ≡ true) →
    find (λ i. not (p i)) (instants_asked w at) ≡ Some i
unfolding instants_of
found_asked w p None i asked fails before =
    range_finds (λ i. not (p i)) 0 w.instants i (omega arith) (omega arith) (not_from_false (p i) fails)
    (λ j from less. not_from_true (p j) (before j less (omega arith)))
found_asked w p (Some k) i asked fails before =
    cond-true (not (p k)) (Some k) None (not_from_false (p k) (rw (← asked) fails)) ∙ ap Some (sym asked)

none_asked : (w : World) (p : ℕ → Bool) (at : Option ℕ) → ((j : ℕ) → IsAsked w at j → p j ≡ true) → find (λ i. not (p i)) (instants_asked w at) ≡ None
unfolding instants_of
none_asked w p None each = range_finds_none (λ i. not (p i)) 0 w.instants (λ j from less. not_from_true (p j) (each j (omega arith)))
none_asked w p (Some k) each = cond-false (not (p k)) (Some k) None (not_from_true (p k) (each k refl))

-- the laws
pub found_is_first : (spec : Spec) (t : List ℕ) (m i : ℕ) → first_false spec t ≡ Some (m, i) → FirstFalse spec t m i
found_is_first spec t m i is =
    let w = world_of spec in
    let r = found_from w t 0 spec.axioms m i (sym (first_false_is spec t) ∙ is) in
    let same : m ≡ r.0 = omega (arith, r.2) in
    let here = asked_found w (truth w r.1.formula [] t) r.1.at i r.4 in
    record {
      axiom_ = r.1;
      stands = ap (slice_get spec.axioms) same ∙ r.3;
      asked = here.0;
      false_there = here.1;
      before = here.2;
      earlier = λ k a less at. asked_none w (truth w a.formula [] t) a.at (r.5 k a (omega arith) at);
    }

pub first_is_found : (spec : Spec) (t : List ℕ) (m i : ℕ) → FirstFalse spec t m i → first_false spec t ≡ Some (m, i)
first_is_found spec t m i first =
    let w = world_of spec in
    let a = first.axiom_ in
    let same : 0 + m ≡ m = omega arith in
    first_false_is spec t
    ∙ from_found w t 0 spec.axioms m a i first.stands (found_asked w (truth w a.formula [] t) a.at i first.asked first.false_there first.before)
    (λ l b less at. none_asked w (truth w b.formula [] t) b.at (first.earlier l b less at))
    ∙ ap (λ n. Some (n, i)) same

pub none_is_true : (spec : Spec) (t : List ℕ) → first_false spec t ≡ None → (k : ℕ) (a : Axiom) → slice_get spec.axioms k ≡ Some a → TrueThroughout spec t a
none_is_true spec t is k a at =
    let w = world_of spec in
    asked_none w (truth w a.formula [] t) a.at (none_from w t 0 spec.axioms (sym (first_false_is spec t) ∙ is) k a at)

pub true_is_none : (spec : Spec) (t : List ℕ) → ((k : ℕ) (a : Axiom) → slice_get spec.axioms k ≡ Some a → TrueThroughout spec t a) → first_false spec t ≡ None
true_is_none spec t each =
    let w = world_of spec in
    first_false_is spec t ∙ from_none w t 0 spec.axioms (λ k a at. none_asked w (truth w a.formula [] t) a.at (each k a at))

-- every demand is met exactly where none is found that is not
none_from_all : {X : Type 0} (p : X → Bool) (xs : List X) → list_all p xs ≡ true → find (λ x. not (p x)) xs ≡ None
none_from_all p [] all = refl
none_from_all p (x ∷ xs) all =
    let both = and_parts (p x) (list_all p xs) all in
    cond-false (not (p x)) (Some x) (find (λ x. not (p x)) xs) (not_from_true (p x) both.0) ∙ none_from_all p xs both.1

all_from_none : {X : Type 0} (p : X → Bool) (xs : List X) → find (λ x. not (p x)) xs ≡ None → list_all p xs ≡ true
all_from_none p [] none = refl
all_from_none p (x ∷ xs) none =
    ⊎_elim
    (λ yes. and_from (p x) (list_all p xs) yes (all_from_none p xs (sym (cond-false (not (p x)) (Some x) (find (λ x. not (p x)) xs) (not_from_true (p x) yes)) ∙ none)))
    (λ no. absurd (none-some x (sym none ∙ cond-true (not (p x)) (Some x) (find (λ x. not (p x)) xs) (not_from_false (p x) no))))
    (cases_Bool (p x))

pub whole_is_none : (spec : Spec) (t : List ℕ) → is_true_in spec t ≡ true → first_false spec t ≡ None
whole_is_none spec t is = ap (option_map place_of) (none_from_all (is_met spec t) (demands_of spec) is)

pub none_is_whole : (spec : Spec) (t : List ℕ) → first_false spec t ≡ None → is_true_in spec t ≡ true
none_is_whole spec t none =
    all_from_none (is_met spec t) (demands_of spec) (map_none place_of (find (λ d. not (is_met spec t d)) (demands_of spec)) none)
