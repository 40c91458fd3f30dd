-- The answers to the goals of `given_values_stay_and_gaps_are_found`.
use Rattle.std.proofs.Common.{◌≡◌, ℕ, zero, suc, ◌+◌, ◌<◌, true, false, List, [], ◌∷◌, length, get_or, Option, None, Some, slice_get, is_none, refl, sym, ap, ◌∙◌, arith}
use Rattle.std.specs.List.{position_from}
use Rattle.std.proofs.lemmas.Bool.{and_parts, and_from, false≢true, true≢false, eqb-true, eq-eqb, cond-true, cond-false}
use Rattle.std.proofs.lemmas.Option.{none-some, same_Some, slice_get-get_or}
use Rattle.std.proofs.lemmas.List.Quantifiers.{position-Some}
use Rattle.std.proofs.lemmas.Iterator.Adapters.{position_from-zero}
use Rattle.history_table.specs.Fitting.{is_given, extends, first_unknown}
use Rattle.history_table.specs.FittingLaws.{Extends, IsFirstUnknown}
use Rattle.history_table.proofs.laws.given_values_stay_and_gaps_are_found.Goals as goal

kept : (g : Option ℕ) (v u : ℕ) → is_given g v ≡ true → g ≡ Some u → v ≡ u
kept None v u is at = absurd (none-some u at)
kept (Some known) v u is at = sym (eqb-true known v is) ∙ same_Some known u at

given_from : (g : Option ℕ) (v : ℕ) → ((u : ℕ) → g ≡ Some u → v ≡ u) → is_given g v ≡ true
given_from None v same = refl
given_from (Some known) v same = eq-eqb known v (sym (same known refl))

extends_each : (gs : List (Option ℕ)) (vs : List ℕ) → extends gs vs ≡ true → (k u : ℕ) → slice_get gs k ≡ Some (Some u) → slice_get vs k ≡ Some u
extends_each [] [] is k u at = absurd (none-some (Some u) at)
extends_each [] (v ∷ vs) is k u at = absurd (false≢true is)
extends_each (g ∷ gs) [] is k u at = absurd (false≢true is)
extends_each (g ∷ gs) (v ∷ vs) is zero u at = ap Some (kept g v u (and_parts (is_given g v) (extends gs vs) is).0 (same_Some g (Some u) at))
extends_each (g ∷ gs) (v ∷ vs) is (suc k) u at = extends_each gs vs (and_parts (is_given g v) (extends gs vs) is).1 k u at

extends_as_many : (gs : List (Option ℕ)) (vs : List ℕ) → extends gs vs ≡ true → length vs ≡ length gs
extends_as_many [] [] is = refl
extends_as_many [] (v ∷ vs) is = absurd (false≢true is)
extends_as_many (g ∷ gs) [] is = absurd (false≢true is)
extends_as_many (g ∷ gs) (v ∷ vs) is = ap suc (extends_as_many gs vs (and_parts (is_given g v) (extends gs vs) is).1)

extends_from : (gs : List (Option ℕ)) (vs : List ℕ) → Extends gs vs → extends gs vs ≡ true
extends_from [] [] w = refl
extends_from [] (v ∷ vs) w = absurd (omega (arith, w.as_many))
extends_from (g ∷ gs) [] w = absurd (omega (arith, w.as_many))
extends_from (g ∷ gs) (v ∷ vs) w =
    and_from (is_given g v) (extends gs vs)
    (given_from g v (λ u is. same_Some v u (w.each 0 u (ap Some is))))
    (extends_from gs vs (record { as_many = omega (arith, w.as_many); each = λ k u at. w.each (suc k) u at }))

pub returns-clause-extends : goal.returns-clause-extends
returns-clause-extends c = λ gs vs. (λ is. record { as_many = extends_as_many gs vs is; each = extends_each gs vs is }, λ w. extends_from gs vs w)

none_is : (o : Option ℕ) → is_none o ≡ true → o ≡ None
none_is None is = refl
none_is (Some v) is = absurd (false≢true is)

some_is : (o : Option ℕ) → is_none o ≡ false → (v : ℕ) × (o ≡ Some v)
some_is None is = absurd (true≢false is)
some_is (Some v) is = (v, refl)

found : (gs : List (Option ℕ)) (n : ℕ) → first_unknown gs ≡ Some n → IsFirstUnknown gs n
found gs n is =
    let there = position-Some is_none gs n None is in
    record {
      here = slice_get-get_or gs n None there.0 ∙ ap Some (none_is (get_or gs n None) there.1);
      before = λ k below.
          let known = some_is (get_or gs k None) (there.2 k below) in
          (known.0, slice_get-get_or gs k None (omega (arith, below, there.0)) ∙ ap Some known.1);
    }

first_from : (gs : List (Option ℕ)) (i n : ℕ) → slice_get gs n ≡ Some None → ((k : ℕ) → k < n → (v : ℕ) × (slice_get gs k ≡ Some (Some v))) →
    position_from is_none i gs ≡ Some (i + n)
first_from [] i n here before = absurd (none-some None here)
first_from (g ∷ gs) i zero here before =
    let same : i ≡ i + 0 = omega arith in
    cond-true (is_none g) (Some i) (position_from is_none (i + 1) gs) (ap is_none (same_Some g None here)) ∙ ap Some same
first_from (g ∷ gs) i (suc n) here before =
    let first = before 0 (omega arith) in
    let same : i + 1 + n ≡ i + suc n = omega arith in
    cond-false (is_none g) (Some i) (position_from is_none (i + 1) gs) (ap is_none (same_Some g (Some first.0) first.1))
    ∙ first_from gs (i + 1) n here (λ k below. before (suc k) (omega (arith, below))) ∙ ap Some same

pub returns-clause-first : goal.returns-clause-first
returns-clause-first c = λ gs n. (
  λ is. found gs n is,
  λ w. let same : 0 + n ≡ n = omega arith in position_from-zero is_none gs ∙ first_from gs 0 n w.here w.before ∙ ap Some same,
)
