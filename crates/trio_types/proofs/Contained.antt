-- What lists contain, and what holds of each element that they contain.
use Rattle.std.proofs.Common.{◌≡◌, ◌↔◌, ◌⊎◌, ℕ, zero, suc, ◌<◌, Bool, true, ◌&&◌, List, [], ◌∷◌, ◌++◌, map, length, get_or, Some, slice_get, Contains, inl, inr, refl, sym, ap, ◌∙◌, subst, arith}
use Rattle.std.specs.List.{flat_map, list_all, list_any}
use Rattle.std.specs.Str.{bytes_eq}
use Rattle.std.proofs.Math.Logic.{⊎_elim}
use Rattle.std.proofs.lemmas.Bool.{and_parts, and_from, false≢true, not-true, not_from_false, cases_Bool}
use Rattle.std.proofs.lemmas.Option.{none-some, same_Some, slice_get-get_or}
use Rattle.std.proofs.lemmas.List.Elements.{Contains-append_left, Contains-append_right, Contains-append_cases}
use Rattle.std.proofs.lemmas.Slice.Eq.{bytes_eq-Decides}
use Rattle.trio_types.specs.Names.{is_new, are_distinct}
use Rattle.trio_types.proofs.Lists.{each_of, all_from_each, any_from_some, some_of}

pub contains_here : {X : Type 0} (x : X) (xs : List X) → Contains (x ∷ xs) x
contains_here x xs = (0, omega arith, refl)

pub contains_behind : {X : Type 0} (y x : X) (xs : List X) → Contains xs x → Contains (y ∷ xs) x
contains_behind y x xs has = (suc has.0, omega (arith, has.1), has.2)

pub contains_cases : {X : Type 0} (y x : X) (xs : List X) → Contains (y ∷ xs) x → (y ≡ x) ⊎ Contains xs x
contains_cases y x xs has = at_place has.0 has.1 has.2
  where
    at_place : (k : ℕ) → k < length (y ∷ xs) → get_or (y ∷ xs) k x ≡ x → (y ≡ x) ⊎ Contains xs x
    at_place zero inside is = inl is
    at_place (suc k) inside is = inr (k, omega arith, is)

pub contains_flat : {X Y : Type 0} (f : X → List Y) (xs : List X) (x : X) (y : Y) → Contains xs x → Contains (f x) y → Contains (flat_map f xs) y
contains_flat f [] x y has inner = absurd (omega (arith, has.1))
contains_flat f (z ∷ zs) x y has inner =
    ⊎_elim (λ same. Contains-append_left (f z) (flat_map f zs) y (subst (λ u. Contains (f u) y) (sym same) inner))
    (λ behind. Contains-append_right (f z) (flat_map f zs) y (contains_flat f zs x y behind inner)) (contains_cases z x zs has)

flat_contains : {X Y : Type 0} (f : X → List Y) (xs : List X) (y : Y) → Contains (flat_map f xs) y → (x : X) × Contains xs x × Contains (f x) y
flat_contains f [] y has = absurd (omega (arith, has.1))
flat_contains f (x ∷ xs) y has =
    ⊎_elim (λ here. (x, contains_here x xs, here))
    (λ behind. let r = flat_contains f xs y behind in (r.0, contains_behind x r.0 xs r.1, r.2))
    (Contains-append_cases (f x) (flat_map f xs) y has)

-- between elements and places
pub place_of : {X : Type 0} (xs : List X) (x : X) → Contains xs x → (k : ℕ) × (slice_get xs k ≡ Some x)
place_of xs x has = (has.0, slice_get-get_or xs has.0 x has.1 ∙ ap Some has.2)

pub contains_at : {X : Type 0} (xs : List X) (k : ℕ) (x : X) → slice_get xs k ≡ Some x → Contains xs x
contains_at [] k x at = absurd (none-some x at)
contains_at (y ∷ ys) zero x at = (0, omega arith, same_Some y x at)
contains_at (y ∷ ys) (suc k) x at = contains_behind y x ys (contains_at ys k x at)

-- each element passes
pub each_contained : {X : Type 0} (p : X → Bool) (xs : List X) → list_all p xs ≡ true → (x : X) → Contains xs x → p x ≡ true
each_contained p xs all x has = let place = place_of xs x has in each_of p xs all place.0 x place.1

pub all_contained : {X : Type 0} (p : X → Bool) (xs : List X) → ((x : X) → Contains xs x → p x ≡ true) → list_all p xs ≡ true
all_contained p xs each = all_from_each p xs (λ k x at. each x (contains_at xs k x at))

pub all_law : {X : Type 0} (p : X → Bool) (xs : List X) → (list_all p xs ≡ true) ↔ ((x : X) → Contains xs x → p x ≡ true)
all_law p xs = (each_contained p xs, all_contained p xs)

pub none_contained : {X : Type 0} (x : X) → Contains [] x → ⊥
none_contained x has = omega (arith, has.1)

-- which elements lists have that are put together
pub cons_law : {X : Type 0} (x : X) (xs : List X) (y : X) → Contains (x ∷ xs) y ↔ ((y ≡ x) ⊎ Contains xs y)
cons_law x xs y = (
  λ has. ⊎_elim (λ same. inl (sym same)) (λ behind. inr behind) (contains_cases x y xs has),
  λ is. ⊎_elim (λ same. subst (λ z. Contains (z ∷ xs) y) same (contains_here y xs)) (λ behind. contains_behind x y xs behind) is,
)

pub append_law : {X : Type 0} (xs ys : List X) (x : X) → Contains (xs ++ ys) x ↔ (Contains xs x ⊎ Contains ys x)
append_law xs ys x = (
  λ has. Contains-append_cases xs ys x has,
  λ is. ⊎_elim (λ left. Contains-append_left xs ys x left) (λ right. Contains-append_right xs ys x right) is,
)

pub flat_law : {X Y : Type 0} (f : X → List Y) (xs : List X) (y : Y) → Contains (flat_map f xs) y ↔ ((x : X) × Contains xs x × Contains (f x) y)
flat_law f xs y = (λ has. flat_contains f xs y has, λ w. contains_flat f xs w.0 y w.1 w.2)

pub map_law : {X Y : Type 0} (f : X → Y) (xs : List X) (y : Y) → Contains (map f xs) y ↔ ((x : X) × Contains xs x × (y ≡ f x))
map_law {X} {Y} f xs y = (λ has. origin xs has, λ w. mapped xs w.0 w.1 w.2)
  where
    origin : (xs : List X) → Contains (map f xs) y → (x : X) × Contains xs x × (y ≡ f x)
    origin [] has = absurd (none_contained y has)
    origin (x ∷ xs) has =
        ⊎_elim (λ here. (x, contains_here x xs, here))
        (λ behind. let r = origin xs behind in (r.0, contains_behind x r.0 xs r.1, r.2)) ((cons_law (f x) (map f xs) y).0 has)

    mapped : (xs : List X) (x : X) → Contains xs x → y ≡ f x → Contains (map f xs) y
    mapped [] x has is = absurd (none_contained x has)
    mapped (z ∷ zs) x has is =
        ⊎_elim (λ here. (cons_law (f z) (map f zs) y).1 (inl (is ∙ ap f here)))
        (λ behind. (cons_law (f z) (map f zs) y).1 (inr (mapped zs x behind is))) ((cons_law z zs x).0 has)

-- laws of tests
pub both_law : (a b : Bool) → ((a && b) ≡ true) ↔ ((a ≡ true) × (b ≡ true))
both_law a b = (λ h. and_parts a b h, λ h. and_from a b h.0 h.1)

-- a law of a test or a list is one of what is equal to it
pub along_test : (a b : Bool) (P : Type 0) → a ≡ b → ((b ≡ true) ↔ P) → ((a ≡ true) ↔ P)
along_test a b P is law = (λ h. law.0 (sym is ∙ h), λ h. is ∙ law.1 h)

pub along_list : {X : Type 0} (xs ys : List X) (x : X) (P : Type 0) → xs ≡ ys → (Contains ys x ↔ P) → (Contains xs x ↔ P)
along_list {X} xs ys x P is law =
    let Q : List X → Type 0 = λ zs. Contains zs x in
    (λ has. law.0 (subst Q is has), λ p. subst Q (sym is) (law.1 p))

-- a name is new where it is none of those that are taken
pub new_law : (name : List ℕ) (taken : List (List ℕ)) → (is_new name taken ≡ true) ↔ (Contains taken name → ⊥)
new_law name taken = (is_not_taken, new_from_none)
  where
    is_not_taken : is_new name taken ≡ true → Contains taken name → ⊥
    is_not_taken new has =
        let place = place_of taken name has in
        false≢true (sym (not-true (list_any (bytes_eq name) taken) new)
        ∙ any_from_some (bytes_eq name) taken place.0 name place.1 ((bytes_eq-Decides name name).1 refl))

    new_from_none : (Contains taken name → ⊥) → is_new name taken ≡ true
    new_from_none other =
        ⊎_elim
        (λ any. let found = some_of (bytes_eq name) taken any in
        absurd (other (subst (Contains taken) (sym ((bytes_eq-Decides name found.1).0 found.3)) (contains_at taken found.0 found.1 found.2))))
        (λ no. not_from_false (list_any (bytes_eq name) taken) no)
        (cases_Bool (list_any (bytes_eq name) taken))

-- names that stand at one place each are distinct
pub distinct_from_places : (names : List (List ℕ)) →
    ((k l : ℕ) (name : List ℕ) → slice_get names k ≡ Some name → slice_get names l ≡ Some name → k ≡ l) → are_distinct names ≡ true
distinct_from_places [] once = refl
distinct_from_places (n ∷ names) once =
    and_from _ _
    ((new_law n names).1 (λ has. let place = place_of names n has in let same : 0 ≡ suc place.0 = once 0 (suc place.0) n refl place.1 in omega arith))
    (distinct_from_places names (λ k l name kt lt. let same : suc k ≡ suc l = once (suc k) (suc l) name kt lt in omega arith))
