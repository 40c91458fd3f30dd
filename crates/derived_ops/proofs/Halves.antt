-- The two halves of many parts.
use Rattle.std.proofs.Common.{◌≡◌, ℕ, zero, suc, ◌+◌, ◌/◌, ◌%◌, ◌<◌, ◌≤◌, false, ◌==◌, List, [], ◌∷◌, map, length, take, drop, refl, sym, ap, ◌∙◌, arith}
use Rattle.std.proofs.lemmas.Bool.{eqb-false}
use Rattle.std.proofs.lemmas.List.{length-take-le, length-drop, take-map, drop-map, length-map}
use Rattle.trio_types.specs.declared.formula.Formula.{Formula}
use Rattle.derived_ops.specs.declared.joint.Joint.{Joint}
use Rattle.derived_ops.specs.Shape.{Shape}
use Rattle.derived_ops.specs.Rewriting.{joined, of_none, of_two, all_joined}

-- how many parts the first half has
abbrev pub half_of : {X : Type 0} → List X → ℕ
half_of xs = length xs / 2 + length xs % 2

pub halved : (fs : List Formula) → false ≡ (length fs == 0) → (length fs ≡ 1 → ⊥) → (0 < half_of fs) × (half_of fs < length fs)
halved fs some more = let ne = eqb-false (length fs) 0 (sym some) in (omega (arith, ne, more), omega (arith, ne, more))

-- more depth than parts changes nothing
enough : (join : Shape → Shape → Shape) (none : Shape) (d e : ℕ) (ss : List Shape) → length ss ≤ d → length ss ≤ e → joined join none d ss ≡ joined join none e ss
enough join none zero zero [] a b = refl
enough join none zero (suc e) [] a b = refl
enough join none (suc d) zero [] a b = refl
enough join none (suc d) (suc e) [] a b = refl
enough join none zero e (s ∷ ss) a b = absurd (omega arith)
enough join none (suc d) zero (s ∷ ss) a b = absurd (omega arith)
enough join none (suc d) (suc e) (s ∷ []) a b = refl
enough join none (suc d) (suc e) (s ∷ u ∷ ss) a b =
    let half = (length (s ∷ u ∷ ss) + 1) / 2 in
    let first = length-take-le half (s ∷ u ∷ ss) (omega arith) in
    let rest = length-drop half (s ∷ u ∷ ss) in
    ap (λ x. join x (joined join none d (drop half (s ∷ u ∷ ss)))) (enough join none d e (take half (s ∷ u ∷ ss)) (omega (arith, first)) (omega (arith, first)))
    ∙ ap (join (joined join none e (take half (s ∷ u ∷ ss)))) (enough join none d e (drop half (s ∷ u ∷ ss)) (omega (arith, rest)) (omega (arith, rest)))

split_shapes : (j : Joint) (ss : List Shape) (n : ℕ) → n ≡ length ss / 2 + length ss % 2 → (length ss ≡ 0 → ⊥) → (length ss ≡ 1 → ⊥) →
    all_joined j ss ≡ of_two j (all_joined j (take n ss)) (all_joined j (drop n ss))
split_shapes j [] n is some more = absurd (some refl)
split_shapes j (s ∷ []) n is some more = absurd (more refl)
split_shapes j (s ∷ u ∷ ss) n is some more =
    let same : (length (s ∷ u ∷ ss) + 1) / 2 ≡ n = omega (arith, is) in
    let first = length-take-le n (s ∷ u ∷ ss) (omega (arith, is)) in
    let rest = length-drop n (s ∷ u ∷ ss) in
    let d = length (u ∷ ss) in
    ap (λ h. of_two j (joined (of_two j) (of_none j) d (take h (s ∷ u ∷ ss))) (joined (of_two j) (of_none j) d (drop h (s ∷ u ∷ ss)))) same
    ∙ ap (λ x. of_two j x (joined (of_two j) (of_none j) d (drop n (s ∷ u ∷ ss))))
    (enough (of_two j) (of_none j) d (length (take n (s ∷ u ∷ ss))) (take n (s ∷ u ∷ ss)) (omega (arith, first, is)) (omega arith))
    ∙ ap (of_two j (all_joined j (take n (s ∷ u ∷ ss))))
    (enough (of_two j) (of_none j) d (length (drop n (s ∷ u ∷ ss))) (drop n (s ∷ u ∷ ss)) (omega (arith, rest, is)) (omega arith))

pub halves : (j : Joint) (f : Formula → Shape) (parts front back : List Formula) → false ≡ (length parts == 0) → (length parts ≡ 1 → ⊥) →
    front ≡ take (half_of parts) parts → back ≡ drop (half_of parts) parts → of_two j (all_joined j (map f front)) (all_joined j (map f back)) ≡ all_joined j (map f parts)
halves j f parts front back some more front_is back_is =
    let ne = eqb-false (length parts) 0 (sym some) in
    let whole : length (map f parts) ≡ length parts = length-map parts f in
    ap (λ fs. of_two j (all_joined j (map f fs)) (all_joined j (map f back))) front_is
    ∙ ap (λ fs. of_two j (all_joined j (map f (take (half_of parts) parts))) (all_joined j (map f fs))) back_is
    ∙ ap (λ ss. of_two j (all_joined j ss) (all_joined j (map f (drop (half_of parts) parts)))) (sym (take-map f (half_of parts) parts))
    ∙ ap (λ ss. of_two j (all_joined j (take (half_of parts) (map f parts))) (all_joined j ss)) (sym (drop-map f (half_of parts) parts))
    ∙ sym (split_shapes j (map f parts) (half_of parts) (ap (λ n. n / 2 + n % 2) (sym whole)) (λ e. ne (sym whole ∙ e)) (λ e. more (sym whole ∙ e)))
