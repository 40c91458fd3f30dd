-- Searches over instants and over values.
use Rattle.std.proofs.Common.{◌≡◌, ℕ, ◌+◌, ◌-◌, ◌<◌, ◌≤◌, ℤ, Bool, true, false, not, ◌&&◌, nat_lt, nat_le, List, Option, None, Some, refl, sym, ap, ◌∙◌, arith}
use Rattle.std.specs.List.{list_all, list_any, filter, range_with_len}
use Rattle.std.proofs.Math.Logic.{⊎_elim}
use Rattle.std.proofs.lemmas.Bool.{false≢true, not-true, not_from_false, false_from_ne_true, true_from_ne_false, cases_lt, lt-ltb, ltb-true}
use Rattle.trio_base.specs.declared.operators.OneOp.TheVariants as one
use Rattle.trio_base.specs.declared.operators.PairOp.{PairOp}
use Rattle.trio_base.specs.declared.operators.PairOp.TheVariants as pair
use Rattle.trio_types.specs.declared.formula.Formula.{Formula}
use Rattle.trio_types.specs.declared.formula.Formula.TheVariants as formula
use Rattle.trio_types.specs.World.{World, instants_of}
use Rattle.trio_types.specs.Truth.{truth, one_truth}
use Rattle.trio_types.specs.Laws.{TrueUntil, TrueSince}
use Rattle.trio_types.proofs.Lists.{any_of_range, range_has_any, all_is_not_any, any_same}
use Rattle.trio_types.proofs.Operators.{some_instant, at_instant, all_pass, until_law, since_law}
use Rattle.history_check.specs.Fits.{Selects, First, Last, IsFirst, IsNearest, IsBetween}
use Rattle.history_check.proofs.Windows.{same_bool, decides_window}

-- one instant more
pub any_range_more : (p : ℕ → Bool) (a n : ℕ) → list_any p (range_with_len a n) ≡ false → p (a + n) ≡ false → list_any p (range_with_len a (n + 1)) ≡ false
any_range_more p a n none here =
    false_from_ne_true (list_any p (range_with_len a (n + 1)))
    (λ any. let r = any_of_range p a (n + 1) any in
    ⊎_elim
    (λ earlier. false≢true (sym none ∙ range_has_any p a n r.0 r.1 earlier r.3))
    (λ last. let e : r.0 ≡ a + n = omega (arith, last, r.2) in false≢true (sym here ∙ ap p (sym e) ∙ r.3))
    (cases_lt r.0 (a + n)))

-- the instants that a window selects
pub window_any : (w : World) (from to : ℕ) (p q : ℕ → Bool) → Selects w.instants from to q → list_any p (range_with_len from (to - from)) ≡ list_any p (filter q (instants_of w))
window_any w from to p q s =
    same_bool (list_any p (range_with_len from (to - from))) (list_any p (filter q (instants_of w)))
    (λ any. let r = any_of_range p from (to - from) any in
    let inside : r.0 < w.instants = omega (arith, r.1, r.2, s.inside) in
    at_instant w q p r.0 inside (s.same r.0 inside ∙ (decides_window from to r.0).1 (r.1, omega (arith, r.1, r.2))) r.3)
    (λ any. let r = some_instant w q p any in
    let there = (decides_window from to r.0).0 (sym (s.same r.0 r.1) ∙ r.2) in
    range_has_any p from (to - from) r.0 there.0 (omega (arith, there.0, there.1)) r.3)

pub window_all : (w : World) (from to : ℕ) (p q : ℕ → Bool) → Selects w.instants from to q → not (list_any (λ j. not (p j)) (range_with_len from (to - from))) ≡ list_all p (filter q (instants_of w))
window_all w from to p q s = ap not (window_any w from to (λ j. not (p j)) q s) ∙ sym (all_is_not_any p (filter q (instants_of w)))

pub window_none : (w : World) (from to : ℕ) (p q : ℕ → Bool) → Selects w.instants from to q → not (list_any p (range_with_len from (to - from))) ≡ list_all (λ j. not (p j)) (filter q (instants_of w))
window_none w from to p q s =
    ap not (window_any w from to p q s ∙ any_same p (λ j. not (not (p j))) (λ j. twice (p j)) (filter q (instants_of w))) ∙ sym (all_is_not_any (λ j. not (p j)) (filter q (instants_of w)))
  where
    twice : (b : Bool) → b ≡ not (not b)
    twice true = refl
    twice false = refl

-- the windows of the operators on one formula
all_test : (n j : ℕ) → j < n → true ≡ (nat_le 0 j && nat_lt j n)
all_test n j below = sym ((decides_window 0 n j).1 (omega arith, below))

pub selects_all : (n : ℕ) → Selects n 0 n (λ j. true)
selects_all n = record { inside = omega arith; same = all_test n }

pub selects_after : (n i : ℕ) → i < n → Selects n (i + 1) n (λ j. nat_lt i j)
selects_after n i inside = record {
  inside = omega arith;
  same = λ j below. same_bool (nat_lt i j) (nat_le (i + 1) j && nat_lt j n)
      (λ h. (decides_window (i + 1) n j).1 (omega (arith, ltb-true i j h), below))
      (λ h. lt-ltb i j (omega (arith, ((decides_window (i + 1) n j).0 h).0)));
}

pub selects_before : (n i : ℕ) → i < n → Selects n 0 i (λ j. nat_lt j i)
selects_before n i inside = record {
  inside = omega arith;
  same = λ j below. same_bool (nat_lt j i) (nat_le 0 j && nat_lt j i)
      (λ h. (decides_window 0 i j).1 (omega arith, ltb-true j i h))
      (λ h. lt-ltb j i ((decides_window 0 i j).0 h).1);
}

pub alw_window : (w : World) (f : ℕ → Bool) (i : ℕ) → one_truth w one.Alw f i ≡ not (list_any (λ j. not (f j)) (range_with_len 0 (w.instants - 0)))
alw_window w f i = ap (list_all f) (sym (all_pass (instants_of w))) ∙ sym (window_all w 0 w.instants f (λ j. true) (selects_all w.instants))

pub som_window : (w : World) (f : ℕ → Bool) (i : ℕ) → one_truth w one.Som f i ≡ list_any f (range_with_len 0 (w.instants - 0))
som_window w f i = ap (list_any f) (sym (all_pass (instants_of w))) ∙ sym (window_any w 0 w.instants f (λ j. true) (selects_all w.instants))

pub alw_f_window : (w : World) (f : ℕ → Bool) (i : ℕ) → i < w.instants → one_truth w one.AlwF f i ≡ not (list_any (λ j. not (f j)) (range_with_len (i + 1) (w.instants - (i + 1))))
alw_f_window w f i inside = sym (window_all w (i + 1) w.instants f (λ j. nat_lt i j) (selects_after w.instants i inside))

pub som_f_window : (w : World) (f : ℕ → Bool) (i : ℕ) → i < w.instants → one_truth w one.SomF f i ≡ list_any f (range_with_len (i + 1) (w.instants - (i + 1)))
som_f_window w f i inside = sym (window_any w (i + 1) w.instants f (λ j. nat_lt i j) (selects_after w.instants i inside))

pub alw_p_window : (w : World) (f : ℕ → Bool) (i : ℕ) → i < w.instants → one_truth w one.AlwP f i ≡ not (list_any (λ j. not (f j)) (range_with_len 0 (i - 0)))
alw_p_window w f i inside = sym (window_all w 0 i f (λ j. nat_lt j i) (selects_before w.instants i inside))

pub som_p_window : (w : World) (f : ℕ → Bool) (i : ℕ) → i < w.instants → one_truth w one.SomP f i ≡ list_any f (range_with_len 0 (i - 0))
som_p_window w f i inside = sym (window_any w 0 i f (λ j. nat_lt j i) (selects_before w.instants i inside))

-- Until and Since, where the search ends
no_until : (w : World) (f g : Formula) (e : List ℤ) (t : List ℕ) (i : ℕ) → (TrueUntil w f g e t i → ⊥) → false ≡ truth w (formula.Pair pair.Until f g) e t i
no_until w f g e t i none = sym (false_from_ne_true (truth w (formula.Pair pair.Until f g) e t i) (λ h. none ((until_law w f g e t i).0 h)))

no_since : (w : World) (f g : Formula) (e : List ℤ) (t : List ℕ) (i : ℕ) → i < w.instants → (TrueSince w f g e t i → ⊥) → false ≡ truth w (formula.Pair pair.Since f g) e t i
no_since w f g e t i now none = sym (false_from_ne_true (truth w (formula.Pair pair.Since f g) e t i) (λ h. none ((since_law w f g e t i now).0 h)))

-- true at each instant of a range
each_of_range : (p : ℕ → Bool) (a n k : ℕ) → not (list_any (λ j. not (p j)) (range_with_len a n)) ≡ true → a ≤ k → k < a + n → p k ≡ true
each_of_range p a n k none from to =
    true_from_ne_false (p k) (λ fails. false≢true (sym (ap not (range_has_any (λ j. not (p j)) a n k from to (not_from_false (p k) fails))) ∙ none))

range_of_each : (p : ℕ → Bool) (a n : ℕ) → ((k : ℕ) → a ≤ k → k < a + n → p k ≡ true) → not (list_any (λ j. not (p j)) (range_with_len a n)) ≡ true
range_of_each p a n each =
    not_from_false (list_any (λ j. not (p j)) (range_with_len a n))
    (false_from_ne_true (list_any (λ j. not (p j)) (range_with_len a n))
    (λ any. let r = any_of_range (λ j. not (p j)) a n any in false≢true (sym (not-true (p r.0) r.3) ∙ each r.0 r.1 r.2)))

-- the nearest instant at which the right formula is true decides
until_found : (w : World) (f g : Formula) (e : List ℤ) (t : List ℕ) (i j : ℕ) → First (truth w g e t) (i + 1) w.instants j →
    not (list_any (λ k. not (truth w f e t k)) (range_with_len (i + 1) (j - (i + 1)))) ≡ truth w (formula.Pair pair.Until f g) e t i
until_found w f g e t i j first =
    same_bool (not (list_any (λ k. not (truth w f e t k)) (range_with_len (i + 1) (j - (i + 1))))) (truth w (formula.Pair pair.Until f g) e t i)
    (λ each. (until_law w f g e t i).1 (record {
      instant = j;
      inside = first.before;
      later = omega (arith, first.from_on);
      there = first.true_there;
      between = λ k from to. each_of_range (truth w f e t) (i + 1) (j - (i + 1)) k each (omega arith) (omega (arith, first.from_on));
    }))
    (λ h. let r = (until_law w f g e t i).0 h in
    ⊎_elim
    (λ earlier. absurd (false≢true (sym (first.none_earlier r.instant (omega (arith, r.later)) earlier) ∙ r.there)))
    (λ not_earlier. range_of_each (truth w f e t) (i + 1) (j - (i + 1)) (λ k from to. r.between k (omega arith) (omega (arith, first.from_on))))
    (cases_lt r.instant j))

until_none : (w : World) (f g : Formula) (e : List ℤ) (t : List ℕ) (i : ℕ) → ((k : ℕ) → i + 1 ≤ k → k < w.instants → truth w g e t k ≡ false) →
    false ≡ truth w (formula.Pair pair.Until f g) e t i
until_none w f g e t i none = no_until w f g e t i (λ r. false≢true (sym (none r.instant (omega (arith, r.later)) r.inside) ∙ r.there))

since_found : (w : World) (f g : Formula) (e : List ℤ) (t : List ℕ) (i j : ℕ) → i < w.instants → Last (truth w g e t) i j →
    not (list_any (λ k. not (truth w f e t k)) (range_with_len (j + 1) (i - (j + 1)))) ≡ truth w (formula.Pair pair.Since f g) e t i
since_found w f g e t i j now last =
    same_bool (not (list_any (λ k. not (truth w f e t k)) (range_with_len (j + 1) (i - (j + 1))))) (truth w (formula.Pair pair.Since f g) e t i)
    (λ each. (since_law w f g e t i now).1 (record {
      instant = j;
      inside = omega (arith, last.before);
      earlier = last.before;
      there = last.true_there;
      between = λ k from to. each_of_range (truth w f e t) (j + 1) (i - (j + 1)) k each (omega arith) (omega (arith, last.before));
    }))
    (λ h. let r = (since_law w f g e t i now).0 h in
    ⊎_elim
    (λ later. absurd (false≢true (sym (last.none_later r.instant later r.earlier) ∙ r.there)))
    (λ not_later. range_of_each (truth w f e t) (j + 1) (i - (j + 1)) (λ k from to. r.between k (omega arith) (omega (arith, last.before))))
    (cases_lt j r.instant))

since_none : (w : World) (f g : Formula) (e : List ℤ) (t : List ℕ) (i : ℕ) → i < w.instants → ((k : ℕ) → k < i → truth w g e t k ≡ false) →
    false ≡ truth w (formula.Pair pair.Since f g) e t i
since_none w f g e t i now none = no_since w f g e t i now (λ r. false≢true (sym (none r.instant r.earlier) ∙ r.there))

-- the same between equal ends
first_at : (f : ℕ → Bool) (a b c d j : ℕ) → a ≡ c → b ≡ d → First f a b j → First f c d j
first_at f a b c d j from to h = record {
  from_on = omega (arith, h.from_on, from);
  before = omega (arith, h.before, to);
  true_there = h.true_there;
  none_earlier = λ k later earlier. h.none_earlier k (omega (arith, later, from)) earlier;
}

range_at : (p : ℕ → Bool) (a b c d : ℕ) → a ≡ c → b ≡ d → list_any p (range_with_len a (b - a)) ≡ list_any p (range_with_len c (d - c))
range_at p a b c d from to = ap (λ n. list_any p (range_with_len n (b - n))) from ∙ ap (λ n. list_any p (range_with_len c (n - c))) to

-- what an operator on two formulas says, from the nearest instant at which the right one is true
pub nearest_inside : (w : World) (o : PairOp) (g : ℕ → Bool) (i j : ℕ) → i < w.instants → IsNearest w o g i (Some j) → j < w.instants
nearest_inside w pair.Until g i j now near = near.before
nearest_inside w pair.Since g i j now near = omega (arith, near.before)

pub between_inside : (w : World) (i j from to : ℕ) → i < w.instants → j < w.instants → IsBetween i j from to → to ≤ w.instants
between_inside w i j from to now there h =
    ⊎_elim
    (λ earlier. omega (arith, there, (h.on (omega (arith, earlier))).1))
    (λ not_earlier. omega (arith, now, (h.back (omega (arith, not_earlier))).1))
    (cases_lt i j)

pub pair_found : (w : World) (o : PairOp) (f g : Formula) (e : List ℤ) (t : List ℕ) (i j from to : ℕ) → i < w.instants → IsNearest w o (truth w g e t) i (Some j) →
    IsBetween i j from to → not (list_any (λ k. not (truth w f e t k)) (range_with_len from (to - from))) ≡ truth w (formula.Pair o f g) e t i
pair_found w pair.Until f g e t i j from to now near h =
    let ends = h.on (omega (arith, near.from_on)) in
    ap not (range_at (λ k. not (truth w f e t k)) from to (i + 1) j ends.0 ends.1) ∙ until_found w f g e t i j near
pair_found w pair.Since f g e t i j from to now near h =
    let ends = h.back (omega (arith, near.before)) in
    ap not (range_at (λ k. not (truth w f e t k)) from to (j + 1) i ends.0 ends.1) ∙ since_found w f g e t i j now near

pub pair_not_found : (w : World) (o : PairOp) (f g : Formula) (e : List ℤ) (t : List ℕ) (i : ℕ) → i < w.instants → IsNearest w o (truth w g e t) i None →
    false ≡ truth w (formula.Pair o f g) e t i
pair_not_found w pair.Until f g e t i now none = until_none w f g e t i none
pair_not_found w pair.Since f g e t i now none = since_none w f g e t i now none

pub first_between : (f : ℕ → Bool) (from to a b : ℕ) (found : Option ℕ) → from ≡ a → to ≡ b → IsFirst f from to found → IsFirst f a b found
first_between f from to a b None same_from same_to none = λ k later earlier. none k (omega (arith, later, same_from)) (omega (arith, earlier, same_to))
first_between f from to a b (Some j) same_from same_to first = first_at f from to a b j same_from same_to first
