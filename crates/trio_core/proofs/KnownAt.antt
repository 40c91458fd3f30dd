-- What follows where a value is known.
use Rattle.std.proofs.Common.{◌≡◌, ℕ, ◌+◌, ℤ, pos, neg_ℤ, ◌+ℤ◌, ◌<◌, ◌≤◌, ◌++◌, length, take, get_or, nat_abs, Bool, true, false, if◌then◌else◌, List, [], ◌∷◌, Option, None, Some, map, slice_get, sum, refl, sym, ap, ◌∙◌, arith}
use Rattle.std.specs.Option.{option_map}
use Rattle.std.proofs.lemmas.Int.{ints}
use Rattle.std.proofs.lemmas.List.{take_more, map-append}
use Rattle.std.proofs.lemmas.List.Sums.{sum-map, sum_by-cons}
use Rattle.trio_types.specs.declared.spec.Item.{Item}
use Rattle.trio_types.specs.World.{World}
use Rattle.trio_types.specs.Cells.{Cell, the_cell, cell_values, cell_size, value_at}
use Rattle.trio_types.specs.Values.{indexes, cell_of_item}
use Rattle.trio_types.proofs.Bounded.{nat_abs_neg, triangle}
use Rattle.trio_core.specs.declared.nodes.Known.{Known}
use Rattle.trio_core.specs.declared.nodes.Known.TheVariants.{Nothing, Several, One}
use Rattle.trio_core.specs.Sets.{members}
use Rattle.trio_core.specs.Three.{known_both, known_map, known_then, known_all, known_of_option, known_of_members, known_of_set, known_at, known_of_cell, known_sum}
use Rattle.trio_types.proofs.Inductions.{Each}

pub same_One : {X : Type 0} (x y : X) → One x ≡ One y → x ≡ y
same_One x y e = cc

pub nothing-one : {X : Type 0} (x : X) → Nothing ≡ One x → ⊥
nothing-one x e = cc

pub several-one : {X : Type 0} (x : X) → Several ≡ One x → ⊥
several-one x e = cc

pub both_one : {X Y Z : Type 0} (f : X → Y → Z) (k : Known X) (l : Known Y) (z : Z) → known_both f k l ≡ One z → (x : X) × (y : Y) × (k ≡ One x) × (l ≡ One y) × (f x y ≡ z)
both_one f Nothing l z e = absurd (nothing-one z e)
both_one f Several Nothing z e = absurd (nothing-one z e)
both_one f Several Several z e = absurd (several-one z e)
both_one f Several (One y) z e = absurd (several-one z e)
both_one f (One x) Nothing z e = absurd (nothing-one z e)
both_one f (One x) Several z e = absurd (several-one z e)
both_one f (One x) (One y) z e = (x, y, refl, refl, same_One (f x y) z e)

pub map_one : {X Y : Type 0} (f : X → Y) (k : Known X) (y : Y) → known_map f k ≡ One y → (x : X) × (k ≡ One x) × (f x ≡ y)
map_one f Nothing y e = absurd (nothing-one y e)
map_one f Several y e = absurd (several-one y e)
map_one f (One x) y e = (x, refl, same_One (f x) y e)

pub then_one : {X Y : Type 0} (f : X → Known Y) (k : Known X) (y : Y) → known_then f k ≡ One y → (x : X) × (f x ≡ One y)
then_one f Nothing y e = absurd (nothing-one y e)
then_one f Several y e = absurd (several-one y e)
then_one f (One x) y e = (x, e)

-- the cell that is read is of the item
pub read_one : (w : World) (number i : ℕ) (look : Cell → Known ℤ) (zs : List (Option ℤ)) (z : ℤ) →
    known_of_cell look (cell_of_item w number (slice_get w.items number) zs i) ≡ One z →
    (item : Item) × (c : Cell) × (slice_get w.items number ≡ Some item) × (c.item ≡ number) × (look c ≡ One z)
read_one w number i look zs z e = at (slice_get w.items number) refl
  where
    found : (item : Item) → slice_get w.items number ≡ Some item → (o : Option (List ℕ)) → indexes w.domains item.args zs ≡ o →
        known_of_cell look (option_map (λ vs. the_cell number vs i) o) ≡ One z →
        (item : Item) × (c : Cell) × (slice_get w.items number ≡ Some item) × (c.item ≡ number) × (look c ≡ One z)
    found item there None is h = absurd (nothing-one z h)
    found item there (Some vs) is h = (item, the_cell number vs i, there, refl, h)

    at : (o : Option Item) → slice_get w.items number ≡ o → (item : Item) × (c : Cell) × (slice_get w.items number ≡ Some item) × (c.item ≡ number) × (look c ≡ One z)
    at None is = absurd (nothing-one z (sym (ap (λ o. known_of_cell look (cell_of_item w number o zs i)) is) ∙ e))
    at (Some item) is =
        found item is (indexes w.domains item.args zs) refl (sym (ap (λ o. known_of_cell look (cell_of_item w number o zs i)) is) ∙ e)

-- a known value of a cell is one of its values
pub option_one : {X : Type 0} (o : Option X) (z : X) → known_of_option o ≡ One z → o ≡ Some z
option_one None z e = absurd (nothing-one z e)
option_one (Some x) z e = ap Some (same_One x z e)

member_one : (values : List ℤ) (ms : List ℕ) (z : ℤ) → known_of_members values ms ≡ One z → (v : ℕ) × (slice_get values v ≡ Some z)
member_one values [] z e = absurd (nothing-one z e)
member_one values (v ∷ []) z e = (v, option_one (slice_get values v) z e)
member_one values (v ∷ u ∷ ms) z e = absurd (several-one z e)

set_one : (values : List ℤ) (size : ℕ) (o : Option ℕ) (z : ℤ) → known_of_set values size o ≡ One z → (v : ℕ) × (slice_get values v ≡ Some z)
set_one values size None z e = absurd (nothing-one z e)
set_one values size (Some set) z e = member_one values (members size set) z e

pub known_at_one : (w : World) (sets : List ℕ) (c : Cell) (z : ℤ) → known_at w sets c ≡ One z → (v : ℕ) × (slice_get (cell_values w c) v ≡ Some z)
unfolding known_at
known_at_one w sets c z e = set_one (cell_values w c) (cell_size w c) (value_at w sets c) z e

-- a part of a sum
pub signed_one : (minus : Bool) (k : Known ℤ) (z : ℤ) → (if minus then known_map neg_ℤ k else k) ≡ One z → (y : ℤ) × (k ≡ One y) × (nat_abs z ≡ nat_abs y)
signed_one true k z e =
    let m = map_one neg_ℤ k z e in
    (m.0, m.1, sym (ap nat_abs m.2) ∙ nat_abs_neg m.0)
signed_one false k z e = (z, e, refl)

-- a sum is no greater than the sum of its parts' bounds
pub sum_small : {X : Type 0} (f : X → Known ℤ) (b : X → ℕ) (xs : List X) → Each (λ x. (z : ℤ) → f x ≡ One z → nat_abs z ≤ b x) xs → (z : ℤ) →
    known_sum (map f xs) ≡ One z → nat_abs z ≤ sum (map b xs)
sum_small f b [] each z e = omega (arith, ap nat_abs (sym (same_One _ z e)))
sum_small f b (x ∷ xs) each z e =
    let p = both_one (λ x y. x +ℤ y) (f x) (known_sum (map f xs)) z e in
    omega (arith, triangle p.0 p.1, each.0 p.0 p.2, sum_small f b xs each.1 p.1 p.3, ap nat_abs (sym p.4), sum-map b (x ∷ xs), sum-map b xs, sum_by-cons b x xs)

-- all values are known
pub each_one : {X : Type 0} (f : X → Known ℤ) (xs : List X) → Each (λ x. (z : ℤ) × (f x ≡ One z)) xs → (z : ℤ) × (known_sum (map f xs) ≡ One z)
each_one f [] each = (_, refl)
each_one f (x ∷ xs) each =
    let rest = each_one f xs each.1 in
    (each.0.0 +ℤ rest.0, rw (each.0.1, rest.1) refl)

abbrev pub value_if_known : Known ℤ → Option ℤ
value_if_known Nothing = None
value_if_known Several = None
value_if_known (One z) = Some z

pub all_one : {X : Type 0} (f : X → Known ℤ) (xs : List X) → Each (λ x. (z : ℤ) × (f x ≡ One z)) xs → known_all (map f xs) ≡ One (map (λ x. value_if_known (f x)) xs)
all_one f [] each = refl
all_one f (x ∷ xs) each = rw (each.0.1, all_one f xs each.1) refl

-- sums, part by part
sum_zero : (k : Known ℤ) → known_both (λ x y. x +ℤ y) k (One (pos 0)) ≡ known_both (λ x y. x +ℤ y) (One (pos 0)) k
sum_zero Nothing = refl
sum_zero Several = refl
sum_zero (One z) = let e : z +ℤ pos 0 ≡ pos 0 +ℤ z = omega (arith, ints) in ap One e

sum_assoc : (a b c : Known ℤ) →
    known_both (λ x y. x +ℤ y) a (known_both (λ x y. x +ℤ y) b c) ≡ known_both (λ x y. x +ℤ y) (known_both (λ x y. x +ℤ y) a b) c
sum_assoc Nothing b c = refl
sum_assoc Several Nothing c = refl
sum_assoc Several Several Nothing = refl
sum_assoc Several Several Several = refl
sum_assoc Several Several (One z) = refl
sum_assoc Several (One y) Nothing = refl
sum_assoc Several (One y) Several = refl
sum_assoc Several (One y) (One z) = refl
sum_assoc (One x) Nothing c = refl
sum_assoc (One x) Several Nothing = refl
sum_assoc (One x) Several Several = refl
sum_assoc (One x) Several (One z) = refl
sum_assoc (One x) (One y) Nothing = refl
sum_assoc (One x) (One y) Several = refl
sum_assoc (One x) (One y) (One z) = let e : x +ℤ (y +ℤ z) ≡ (x +ℤ y) +ℤ z = omega (arith, ints) in ap One e

sum_push : (ks : List (Known ℤ)) (k : Known ℤ) → known_sum (ks ++ k ∷ []) ≡ known_both (λ x y. x +ℤ y) (known_sum ks) k
sum_push [] k = sum_zero k
sum_push (l ∷ ks) k = ap (known_both (λ x y. x +ℤ y) l) (sum_push ks k) ∙ sum_assoc l (known_sum ks) k

pub known_sum_more : {X : Type 0} (f : X → Known ℤ) (xs : List X) (k : ℕ) (x : X) → k < length xs → x ≡ get_or xs k x →
    known_sum (map f (take (k + 1) xs)) ≡ known_both (λ x y. x +ℤ y) (known_sum (map f (take k xs))) (f x)
known_sum_more f xs k x inside at =
    ap (λ l. known_sum (map f l)) (take_more xs k x inside) ∙ ap known_sum (map-append f (take k xs) (get_or xs k x ∷ []))
    ∙ sum_push (map f (take k xs)) (f (get_or xs k x)) ∙ ap (λ y. known_both (λ x y. x +ℤ y) (known_sum (map f (take k xs))) (f y)) (sym at)
