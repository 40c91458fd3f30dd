-- Numbers within the greatest bound, and sums of values.
use Rattle.std.proofs.Common.{◌≡◌, ℕ, zero, suc, ◌+◌, ◌<◌, ◌≤◌, ℤ, pos, negsuc, neg_ℤ, ◌+ℤ◌, ◌*ℤ◌, ◌≤ℤ◌, nat_abs, to_z, of_z, w64, Bool, true, false, if◌then◌else◌, List, [], ◌∷◌, ◌++◌, map, length, take, get_or, sum, Option, None, Some, slice_get, refl, sym, ap, ◌∙◌, arith}
use Rattle.std.specs.Option.{option_map}
use Rattle.std.proofs.lemmas.Int.{ints}
use Rattle.std.proofs.lemmas.List.{take_more, map-append}
use Rattle.std.proofs.lemmas.List.Sums.{sum_by_more, sum-map}
use Rattle.std.proofs.lemmas.Option.{none-some, same_Some}
use Rattle.trio_types.specs.Values.{plus, sum_of}
use mir.Val.{SFits}

-- a bound on both sides
pub record Near (d : ℤ) : Type 0 where
  pub not_far_back : neg_ℤ (pos 1000000000000) ≤ℤ d
  pub not_far_on : d ≤ℤ pos 1000000000000

pub near_of : (d : ℤ) → nat_abs d ≤ 1000000000000 → Near d
near_of (pos n) small = record { not_far_back = omega (arith, ints); not_far_on = omega (arith, ints) }
near_of (negsuc n) small = record { not_far_back = omega (arith, ints); not_far_on = omega (arith, ints) }

pub nat_abs_neg : (d : ℤ) → nat_abs (neg_ℤ d) ≡ nat_abs d
nat_abs_neg (pos zero) = refl
nat_abs_neg (pos (suc n)) = refl
nat_abs_neg (negsuc n) = refl

plus_zero : (o : Option ℤ) → plus o (Some (pos 0)) ≡ plus (Some (pos 0)) o
plus_zero None = refl
plus_zero (Some z) = let e : z +ℤ pos 0 ≡ pos 0 +ℤ z = omega (arith, ints) in ap Some e

plus_assoc : (a b c : Option ℤ) → plus a (plus b c) ≡ plus (plus a b) c
plus_assoc None b c = refl
plus_assoc (Some x) None c = refl
plus_assoc (Some x) (Some y) None = refl
plus_assoc (Some x) (Some y) (Some z) = let e : x +ℤ (y +ℤ z) ≡ (x +ℤ y) +ℤ z = omega (arith, ints) in ap Some e

sum_push : (xs : List (Option ℤ)) (y : Option ℤ) → sum_of (xs ++ y ∷ []) ≡ plus (sum_of xs) y
sum_push [] y = plus_zero y
sum_push (x ∷ xs) y = ap (plus x) (sum_push xs y) ∙ plus_assoc x (sum_of xs) y

-- one part more
pub sum_more : {X : Type 0} (f : X → Option ℤ) (xs : List X) (k : ℕ) (x : X) (a b : ℤ) → k < length xs → x ≡ get_or xs k x → sum_of (map f (take k xs)) ≡ Some a → f x ≡ Some b →
    sum_of (map f (take (k + 1) xs)) ≡ Some (a +ℤ b)
sum_more f xs k x a b inside at so_far here =
    ap (λ l. sum_of (map f l)) (take_more xs k x inside) ∙ ap sum_of (map-append f (take k xs) (get_or xs k x ∷ []))
    ∙ sum_push (map f (take k xs)) (f (get_or xs k x)) ∙ ap (λ o. plus o (f (get_or xs k x))) so_far ∙ ap (λ y. plus (Some a) (f y)) (sym at) ∙ ap (plus (Some a)) here

pub sum_stuck : {X : Type 0} (f : X → Option ℤ) (xs : List X) (k : ℕ) (x : X) → slice_get xs k ≡ Some x → f x ≡ None → sum_of (map f xs) ≡ None
sum_stuck f [] k x at none = absurd (none-some x at)
sum_stuck f (y ∷ ys) zero x at none = rw (same_Some y x at, none) refl
sum_stuck f (y ∷ ys) (suc k) x at none = rw (sum_stuck f ys k x at none) (nothing (f y))
  where
    nothing : (o : Option ℤ) → plus o None ≡ None
    nothing None = refl
    nothing (Some z) = refl

pub own_more : {X : Type 0} (f : X → ℕ) (xs : List X) (k : ℕ) (x : X) → k < length xs → x ≡ get_or xs k x → sum (map f (take (k + 1) xs)) ≡ sum (map f (take k xs)) + f x
own_more f xs k x inside at =
    sum-map f (take (k + 1) xs) ∙ sum_by_more f xs k x inside ∙ ap (λ n. n + f (get_or xs k x)) (sym (sum-map f (take k xs))) ∙ ap (λ y. sum (map f (take k xs)) + f y) (sym at)

-- what is kept when numbers are passed on
pub fits_of : (z : ℤ) → nat_abs z ≤ 1000000000000 → SFits w64 z
fits_of z small = let near = near_of z small in omega (arith, ints, near.not_far_back, near.not_far_on)

pub passed : (z : ℤ) → nat_abs z ≤ 1000000000000 → z ≡ to_z w64 (of_z w64 z)
passed z small = let near = near_of z small in omega (arith, ints, near.not_far_back, near.not_far_on)

pub product_fits : (a b z : ℤ) (n : ℕ) → a ≡ pos n → b ≡ z → nat_abs (pos n *ℤ z) ≤ 1000000000000 → SFits w64 (a *ℤ b)
product_fits a b z n a_is b_is small = rw (a_is, b_is) (fits_of (pos n *ℤ z) small)

pub product_passed : (a b z : ℤ) (n : ℕ) → a ≡ pos n → b ≡ z → nat_abs (pos n *ℤ z) ≤ 1000000000000 → pos n *ℤ z ≡ to_z w64 (of_z w64 (a *ℤ b))
product_passed a b z n a_is b_is small = rw (a_is, b_is) (passed (pos n *ℤ z) small)

-- absolute values
pub abs_le : (z : ℤ) (m : ℕ) → neg_ℤ (pos m) ≤ℤ z → z ≤ℤ pos m → nat_abs z ≤ m
abs_le (pos n) m low high = omega (arith, ints)
abs_le (negsuc n) m low high = omega (arith, ints)

pub le_abs : (z : ℤ) → (neg_ℤ (pos (nat_abs z)) ≤ℤ z) × (z ≤ℤ pos (nat_abs z))
le_abs (pos n) = (omega (arith, ints), omega (arith, ints))
le_abs (negsuc n) = (omega (arith, ints), omega (arith, ints))

pub triangle : (a b : ℤ) → nat_abs (a +ℤ b) ≤ nat_abs a + nat_abs b
triangle a b =
    let x = le_abs a in
    let y = le_abs b in
    abs_le (a +ℤ b) (nat_abs a + nat_abs b) (omega (arith, ints, x.0, y.0)) (omega (arith, ints, x.1, y.1))

-- a part's value with its sign
abbrev pub signed : Bool → ℤ → ℤ
signed minus z = if minus then neg_ℤ z else z

pub signed_some : (b : Bool) (v : Option ℤ) (z : ℤ) → v ≡ Some z → (if b then option_map neg_ℤ v else v) ≡ Some (signed b z)
signed_some true v z is = ap (option_map neg_ℤ) is
signed_some false v z is = is

pub signed_none : (b : Bool) (v : Option ℤ) → v ≡ None → (if b then option_map neg_ℤ v else v) ≡ None
signed_none true v is = ap (option_map neg_ℤ) is
signed_none false v is = is

pub signed_abs : (b : Bool) (z : ℤ) → nat_abs (signed b z) ≡ nat_abs z
signed_abs true z = nat_abs_neg z
signed_abs false z = refl
