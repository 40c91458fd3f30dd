-- Three-valued truth node by node, value by value and instant by instant.
use Rattle.std.proofs.Common.{◌≡◌, ◌≢◌, ℕ, ◌+◌, ◌^◌, ◌<◌, ◌≤◌, nat_abs, Fits, w32, T, rules, ℤ, pos, negsuc, neg_ℤ, ◌+ℤ◌, ◌-ℤ◌, ◌≤ℤ◌, ◌<ℤ◌, true, int_le, to_z, of_z, w64, List, [], ◌∷◌, ◌++◌, Some, length, take, drop, slice_get, refl, sym, ap, ◌∙◌, arith}
use lib.Signed.{non_neg}
use Rattle.std.specs.Ordering.{int_eq}
use Rattle.std.proofs.lemmas.Bool.{and_parts, false_from_ne_true}
use Rattle.std.proofs.lemmas.Bool.Decides.{Decides-int_eq}
use Rattle.std.proofs.lemmas.Int.{ints}
use Rattle.std.proofs.lemmas.List.{drop_more, drop_all}
use Rattle.std.proofs.lemmas.Option.{get_or_from_slice_get, slice_get_within}
use Rattle.trio_base.specs.declared.operators.Rel.{Rel}
use Rattle.trio_types.specs.declared.formula.Term.{Term}
use Rattle.trio_types.specs.World.{World, at_least_zero, instants_of}
use Rattle.trio_types.specs.Truth.{at_distance, is_at_distance}
use Rattle.trio_types.specs.WellFormed.{is_written}
use Rattle.trio_types.proofs.Domains.{length-integers, at_integers}
use Rattle.trio_types.proofs.Integers.{Decides-int_le}
use Rattle.trio_core.specs.declared.nodes.Node.{Node}
use Rattle.trio_core.specs.declared.nodes.Node.TheVariants as node
use Rattle.trio_core.specs.declared.nodes.Three.{Three}
use Rattle.trio_core.specs.declared.nodes.Three.TheVariants as three
use Rattle.trio_core.specs.declared.nodes.Known.TheVariants.{One}
use Rattle.trio_core.specs.Core.{numbers}
use Rattle.trio_core.specs.Three.{known_at, value3, not3, and3, or3, all3, any3, relates3, at_distance3, part_truth3, truths3_from, core_truth3}
use Rattle.trio_core.proofs.Flat.{core_truth3_at, part_truth3_at}
use Rattle.trio_core.proofs.Sole.{filter_none, filter_one}

-- Kleene's tables
pub or_false : (p : Three) → or3 p three.False ≡ p
or_false three.False = refl
or_false three.Unknown = refl
or_false three.True = refl

pub or_assoc : (p q r : Three) → or3 p (or3 q r) ≡ or3 (or3 p q) r
or_assoc three.False q r = refl
or_assoc three.True q r = refl
or_assoc three.Unknown three.False r = refl
or_assoc three.Unknown three.True r = refl
or_assoc three.Unknown three.Unknown three.False = refl
or_assoc three.Unknown three.Unknown three.Unknown = refl
or_assoc three.Unknown three.Unknown three.True = refl

pub and_true : (p : Three) → and3 p three.True ≡ p
and_true three.False = refl
and_true three.Unknown = refl
and_true three.True = refl

pub and_assoc : (p q r : Three) → and3 p (and3 q r) ≡ and3 (and3 p q) r
and_assoc three.False q r = refl
and_assoc three.True q r = refl
and_assoc three.Unknown three.False r = refl
and_assoc three.Unknown three.True r = refl
and_assoc three.Unknown three.Unknown three.False = refl
and_assoc three.Unknown three.Unknown three.Unknown = refl
and_assoc three.Unknown three.Unknown three.True = refl

-- one element more, and the rest
pub any_step : {X : Type 0} (p : X → Three) (xs : List X) (k : ℕ) (x : X) → slice_get xs k ≡ Some x → any3 p (drop k xs) ≡ or3 (p x) (any3 p (drop (k + 1) xs))
any_step p xs k x at =
    ap (any3 p) (drop_more xs k x (slice_get_within xs k x at)) ∙ ap (λ y. or3 (p y) (any3 p (drop (k + 1) xs))) (get_or_from_slice_get xs k x x at)

pub all_step : {X : Type 0} (p : X → Three) (xs : List X) (k : ℕ) (x : X) → slice_get xs k ≡ Some x → all3 p (drop k xs) ≡ and3 (p x) (all3 p (drop (k + 1) xs))
all_step p xs k x at =
    ap (all3 p) (drop_more xs k x (slice_get_within xs k x at)) ∙ ap (λ y. and3 (p y) (all3 p (drop (k + 1) xs))) (get_or_from_slice_get xs k x x at)

-- what was found so far, with one more
pub any_more : {X : Type 0} (p : X → Three) (xs : List X) (k : ℕ) (x : X) (found new whole : Three) → slice_get xs k ≡ Some x → new ≡ or3 found (p x) →
    or3 found (any3 p (drop k xs)) ≡ whole → or3 new (any3 p (drop (k + 1) xs)) ≡ whole
any_more p xs k x found new whole at is so_far =
    ap (λ n. or3 n (any3 p (drop (k + 1) xs))) is ∙ sym (or_assoc found (p x) (any3 p (drop (k + 1) xs))) ∙ ap (or3 found) (sym (any_step p xs k x at)) ∙ so_far

pub any_end : {X : Type 0} (p : X → Three) (xs : List X) (k : ℕ) (found whole : Three) → length xs ≤ k → or3 found (any3 p (drop k xs)) ≡ whole → found ≡ whole
any_end p xs k found whole past so_far = sym (or_false found) ∙ ap (λ l. or3 found (any3 p l)) (sym (drop_all k xs past)) ∙ so_far

pub all_more : {X : Type 0} (p : X → Three) (xs : List X) (k : ℕ) (x : X) (found new whole : Three) → slice_get xs k ≡ Some x → new ≡ and3 found (p x) →
    and3 found (all3 p (drop k xs)) ≡ whole → and3 new (all3 p (drop (k + 1) xs)) ≡ whole
all_more p xs k x found new whole at is so_far =
    ap (λ n. and3 n (all3 p (drop (k + 1) xs))) is ∙ sym (and_assoc found (p x) (all3 p (drop (k + 1) xs))) ∙ ap (and3 found) (sym (all_step p xs k x at)) ∙ so_far

pub all_end : {X : Type 0} (p : X → Three) (xs : List X) (k : ℕ) (found whole : Three) → length xs ≤ k → and3 found (all3 p (drop k xs)) ≡ whole → found ≡ whole
all_end p xs k found whole past so_far = sym (and_true found) ∙ ap (λ l. and3 found (all3 p l)) (sym (drop_all k xs past)) ∙ so_far

-- an answer that the rest cannot change
pub any_found : (new rest whole : Three) → new ≡ three.True → or3 new rest ≡ whole → new ≡ whole
any_found new rest whole is so_far = is ∙ sym (ap (λ n. or3 n rest) is) ∙ so_far

pub all_found : (new rest whole : Three) → new ≡ three.False → and3 new rest ≡ whole → new ≡ whole
all_found new rest whole is so_far = is ∙ sym (ap (λ n. and3 n rest) is) ∙ so_far

-- nodes
pub eval_atom : (w : World) (nodes : List Node) (a from : ℕ) (r : Rel) (x y : Term) (e : List ℤ) (sets : List ℕ) (i : ℕ) → slice_get nodes a ≡ Some (node.Atom r x y) →
    core_truth3 w nodes a from e sets i ≡ relates3 r (value3 w x e (known_at w sets) i) (value3 w y e (known_at w sets) i)
eval_atom w nodes a from r x y e sets i at = ap (λ q. q e (known_at w sets) i) (core_truth3_at w nodes a from (node.Atom r x y) at)

pub eval_not : (w : World) (nodes : List Node) (a from p : ℕ) (e : List ℤ) (sets : List ℕ) (i : ℕ) → slice_get nodes a ≡ Some (node.Not p) → p < a →
    core_truth3 w nodes a from e sets i ≡ not3 (core_truth3 w nodes p 0 e sets i)
eval_not w nodes a from p e sets i at before =
    ap (λ q. q e (known_at w sets) i) (core_truth3_at w nodes a from (node.Not p) at)
    ∙ ap (λ q. not3 (q e (known_at w sets) i)) (part_truth3_at w nodes p a before (slice_get_within nodes a (node.Not p) at))

pub eval_and : (w : World) (nodes : List Node) (a from p q : ℕ) (e : List ℤ) (sets : List ℕ) (i : ℕ) → slice_get nodes a ≡ Some (node.And p q) → p < a → q < a →
    core_truth3 w nodes a from e sets i ≡ and3 (core_truth3 w nodes p 0 e sets i) (core_truth3 w nodes q 0 e sets i)
eval_and w nodes a from p q e sets i at first second =
    let inside = slice_get_within nodes a (node.And p q) at in
    ap (λ q. q e (known_at w sets) i) (core_truth3_at w nodes a from (node.And p q) at)
    ∙ ap (λ f. and3 (f e (known_at w sets) i) (part_truth3 (truths3_from w [] (take a nodes)) q e (known_at w sets) i)) (part_truth3_at w nodes p a first inside)
    ∙ ap (λ f. and3 (core_truth3 w nodes p 0 e sets i) (f e (known_at w sets) i)) (part_truth3_at w nodes q a second inside)

pub eval_or : (w : World) (nodes : List Node) (a from p q : ℕ) (e : List ℤ) (sets : List ℕ) (i : ℕ) → slice_get nodes a ≡ Some (node.Or p q) → p < a → q < a →
    core_truth3 w nodes a from e sets i ≡ or3 (core_truth3 w nodes p 0 e sets i) (core_truth3 w nodes q 0 e sets i)
eval_or w nodes a from p q e sets i at first second =
    let inside = slice_get_within nodes a (node.Or p q) at in
    ap (λ q. q e (known_at w sets) i) (core_truth3_at w nodes a from (node.Or p q) at)
    ∙ ap (λ f. or3 (f e (known_at w sets) i) (part_truth3 (truths3_from w [] (take a nodes)) q e (known_at w sets) i)) (part_truth3_at w nodes p a first inside)
    ∙ ap (λ f. or3 (core_truth3 w nodes p 0 e sets i) (f e (known_at w sets) i)) (part_truth3_at w nodes q a second inside)

pub eval_exists : (w : World) (nodes : List Node) (a from : ℕ) (low high : ℤ) (p : ℕ) (e : List ℤ) (sets : List ℕ) (i : ℕ) → slice_get nodes a ≡ Some (node.Exists low high p) → p < a →
    core_truth3 w nodes a from e sets i ≡ any3 (λ z. core_truth3 w nodes p 0 (e ++ z ∷ []) sets i) (drop from (numbers low high))
eval_exists w nodes a from low high p e sets i at before =
    ap (λ q. q e (known_at w sets) i) (core_truth3_at w nodes a from (node.Exists low high p) at)
    ∙ ap (λ f. any3 (λ z. f (e ++ z ∷ []) (known_at w sets) i) (drop from (numbers low high))) (part_truth3_at w nodes p a before (slice_get_within nodes a (node.Exists low high p) at))

pub eval_dist : (w : World) (nodes : List Node) (a from p : ℕ) (x : Term) (d : ℤ) (e : List ℤ) (sets : List ℕ) (i : ℕ) → slice_get nodes a ≡ Some (node.Dist p x) → p < a →
    value3 w x e (known_at w sets) i ≡ One d → core_truth3 w nodes a from e sets i ≡ any3 (λ j. core_truth3 w nodes p 0 e sets j) (at_distance w i (Some d))
eval_dist w nodes a from p x d e sets i at before is =
    ap (λ q. q e (known_at w sets) i) (core_truth3_at w nodes a from (node.Dist p x) at)
    ∙ ap (λ k. at_distance3 w i k (part_truth3 (truths3_from w [] (take a nodes)) p e (known_at w sets))) is
    ∙ ap (λ f. any3 (λ j. f e (known_at w sets) j) (at_distance w i (Some d))) (part_truth3_at w nodes p a before (slice_get_within nodes a (node.Dist p x) at))

-- the instant at a distance, where it is inside time
pub only_at : (w : World) (i : ℕ) (d : ℤ) (j : ℕ) → pos j ≡ pos i +ℤ d → j < w.instants → at_distance w i (Some d) ≡ j ∷ []
unfolding instants_of
only_at w i d j is inside =
    filter_one (is_at_distance i (Some d)) 0 w.instants j (omega arith) (omega (arith, inside)) ((Decides-int_eq (pos j) (pos i +ℤ d)).1 is)
    (λ u other. false_from_ne_true (int_eq (pos u) (pos i +ℤ d)) (λ h. let e = (Decides-int_eq (pos u) (pos i +ℤ d)).0 h in other (omega (arith, ints, e, is))))

pub nowhere_at : (w : World) (i : ℕ) (d : ℤ) → ((j : ℕ) → j < w.instants → pos j ≢ pos i +ℤ d) → at_distance w i (Some d) ≡ []
unfolding instants_of
nowhere_at w i d other =
    filter_none (is_at_distance i (Some d)) 0 w.instants
    (λ u from to. false_from_ne_true (int_eq (pos u) (pos i +ℤ d)) (λ h. other u (omega (arith, to)) ((Decides-int_eq (pos u) (pos i +ℤ d)).0 h)))

pub any_at : (w : World) (i : ℕ) (d : ℤ) (j : ℕ) (p : ℕ → Three) → pos j ≡ pos i +ℤ d → j < w.instants → any3 p (at_distance w i (Some d)) ≡ p j
any_at w i d j p is inside = ap (any3 p) (only_at w i d j is inside) ∙ or_false (p j)

pub none_at : (w : World) (i : ℕ) (d : ℤ) (p : ℕ → Three) → ((j : ℕ) → j < w.instants → pos j ≢ pos i +ℤ d) → any3 p (at_distance w i (Some d)) ≡ three.False
none_at w i d p other = ap (any3 p) (nowhere_at w i d other)

-- a target inside time as a number
pub absolute : (z : ℤ) → pos 0 ≤ℤ z → z ≡ pos (nat_abs z)
absolute (pos n) from = refl
absolute (negsuc n) from = absurd (omega (arith, ints, from))

pub castable : (z : ℤ) (n : ℕ) → z ≡ pos n → n < 2 ^ 32 → T (non_neg z) × Fits w32 (nat_abs z)
castable z n is small = rw is (tt, search rules)

-- the values of an Exists
pub record Written (z : ℤ) : Type 0 where
  pub back : negsuc 999999 ≤ℤ z
  pub on : z ≤ℤ pos 1000000

pub written : (z : ℤ) → is_written z ≡ true → Written z
written z is =
    let both = and_parts (int_le (neg_ℤ (pos 1000000)) z) (int_le z (pos 1000000)) is in
    record { back = (Decides-int_le (neg_ℤ (pos 1000000)) z).0 both.0; on = (Decides-int_le z (pos 1000000)).0 both.1 }

pub passed_on : (z : ℤ) → is_written z ≡ true → z ≡ to_z w64 (of_z w64 z)
passed_on z is = let s = written z is in omega (arith, ints, s.back, s.on)

pub numbers_passed : (low high : ℤ) → is_written low ≡ true → is_written high ≡ true → numbers (to_z w64 (of_z w64 low)) (to_z w64 (of_z w64 high)) ≡ numbers low high
numbers_passed low high l h = ap (λ x. numbers x (to_z w64 (of_z w64 high))) (sym (passed_on low l)) ∙ ap (numbers low) (sym (passed_on high h))

pub record OneOf (low high : ℤ) (k : ℕ) : Type 0 where
  pub from : low ≤ℤ (low +ℤ pos k)
  pub to : (low +ℤ pos k) ≤ℤ high
  pub at : slice_get (numbers low high) k ≡ Some (low +ℤ pos k)

below : (y : ℤ) (k : ℕ) → k < at_least_zero y → pos k <ℤ y
below (pos n) k less = omega (arith, ints, less)
below (negsuc n) k less = absurd (omega (arith, less))

pub one_of_numbers : (low high : ℤ) (k : ℕ) → k < length (numbers low high) → OneOf low high k
one_of_numbers low high k inside =
    let n = at_least_zero ((high +ℤ pos 1) -ℤ low) in
    let less : k < n = omega (arith, inside, length-integers low n) in
    let b = below ((high +ℤ pos 1) -ℤ low) k less in
    record { from = omega (arith, ints); to = omega (arith, ints, b); at = at_integers low n k less }
