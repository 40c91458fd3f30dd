-- The search for the first false axiom, step by step.
use Rattle.std.proofs.Common.{◌≡◌, ℕ, ◌+◌, ◌<◌, ◌≤◌, List, ◌∷◌, length, drop, get_or, None, Some, sym, ap, ◌∙◌}
use Rattle.std.specs.Option.{option_map, option_or}
use Rattle.std.proofs.lemmas.List.{drop_more, drop_all}
use Rattle.trio_types.specs.declared.spec.Axiom.{Axiom}
use Rattle.trio_types.specs.World.{World}
use Rattle.trio_types.proofs.Verdicts.{first_false_instant, first_false_from}

opened : (w : World) (t : List ℕ) (n : ℕ) (axioms : List Axiom) (a : Axiom) → n < length axioms → a ≡ get_or axioms n a →
    first_false_from w t n (drop n axioms) ≡ option_or (option_map (λ i. (n, i)) (first_false_instant w t a)) (first_false_from w t (n + 1) (drop (n + 1) axioms))
opened w t n axioms a inside at =
    ap (first_false_from w t n) (drop_more axioms n a inside)
    ∙ ap (λ b. first_false_from w t n (b ∷ drop (n + 1) axioms)) (sym at)

-- an axiom that is true at each of its instants is passed over
pub passed_over : (w : World) (t : List ℕ) (n : ℕ) (axioms : List Axiom) (a : Axiom) → n < length axioms → a ≡ get_or axioms n a →
    first_false_instant w t a ≡ None → first_false_from w t n (drop n axioms) ≡ first_false_from w t (n + 1) (drop (n + 1) axioms)
passed_over w t n axioms a inside at none =
    opened w t n axioms a inside at ∙ ap (λ o. option_or (option_map (λ i. (n, i)) o) (first_false_from w t (n + 1) (drop (n + 1) axioms))) none

-- one that is not is found
pub found_here : (w : World) (t : List ℕ) (n : ℕ) (axioms : List Axiom) (a : Axiom) (i : ℕ) → n < length axioms → a ≡ get_or axioms n a →
    first_false_instant w t a ≡ Some i → first_false_from w t n (drop n axioms) ≡ Some (n, i)
found_here w t n axioms a i inside at found =
    opened w t n axioms a inside at ∙ ap (λ o. option_or (option_map (λ i. (n, i)) o) (first_false_from w t (n + 1) (drop (n + 1) axioms))) found

pub none_left : (w : World) (t : List ℕ) (n : ℕ) (axioms : List Axiom) → length axioms ≤ n → first_false_from w t n (drop n axioms) ≡ None
none_left w t n axioms past = ap (first_false_from w t n) (drop_all n axioms past)
