-- What tests and searches of lists say of their elements, place by place.
use Rattle.std.proofs.Common.{◌≡◌, ℕ, zero, suc, ◌+◌, ◌<◌, ◌≤◌, Bool, true, false, not, ◌&&◌, ◌||◌, ◌⊎◌, List, [], ◌∷◌, ◌++◌, map, length, take, drop, Option, None, Some, slice_get, find, inl, inr, refl, sym, ap, ◌∙◌, arith}
use Rattle.std.specs.List.{list_all, list_any, range_with_len, flat_map}
use Rattle.std.specs.Str.{bytes_eq}
use Rattle.std.proofs.lemmas.Slice.Eq.{bytes_eq-Decides}
use Rattle.trio_types.specs.Names.{are_distinct}
use Rattle.std.specs.Option.{option_map, option_or}
use Rattle.std.proofs.Math.Logic.{⊎_elim}
use Rattle.std.proofs.lemmas.Bool.{false≢true, not-true, and_parts, and_from, or_cases, or_left, or_right, cond-true, cond-false, cases_Bool, cases_lt}
use Rattle.std.proofs.lemmas.Option.{none-some, same_Some}

-- each element passes
pub each_of : {X : Type 0} (p : X → Bool) (xs : List X) → list_all p xs ≡ true → (k : ℕ) (x : X) → slice_get xs k ≡ Some x → p x ≡ true
each_of p [] all k x is = absurd (none-some x is)
each_of p (y ∷ ys) all zero x is = rw (← same_Some y x is) (and_parts (p y) (list_all p ys) all).0
each_of p (y ∷ ys) all (suc k) x is = each_of p ys (and_parts (p y) (list_all p ys) all).1 k x is

pub all_from_each : {X : Type 0} (p : X → Bool) (xs : List X) → ((k : ℕ) (x : X) → slice_get xs k ≡ Some x → p x ≡ true) → list_all p xs ≡ true
all_from_each p [] each = refl
all_from_each p (y ∷ ys) each = and_from (p y) (list_all p ys) (each 0 y refl) (all_from_each p ys (λ k x is. each (suc k) x is))

-- some element passes
pub some_of : {X : Type 0} (p : X → Bool) (xs : List X) → list_any p xs ≡ true → (k : ℕ) × (x : X) × (slice_get xs k ≡ Some x) × (p x ≡ true)
some_of p [] any = absurd (false≢true any)
some_of p (y ∷ ys) any =
    ⊎_elim (λ here. (0, y, refl, here))
    (λ there. let r = some_of p ys there in (suc r.0, r.1, r.2, r.3))
    (or_cases (p y) (list_any p ys) any)

pub any_from_some : {X : Type 0} (p : X → Bool) (xs : List X) (k : ℕ) (x : X) → slice_get xs k ≡ Some x → p x ≡ true → list_any p xs ≡ true
any_from_some p [] k x is here = absurd (none-some x is)
any_from_some p (y ∷ ys) zero x is here = or_left (p y) (list_any p ys) (rw (same_Some y x is) here)
any_from_some p (y ∷ ys) (suc k) x is here = or_right (p y) (list_any p ys) (any_from_some p ys k x is here)

-- the same over neighboring numbers
pub any_of_range : (p : ℕ → Bool) (a n : ℕ) → list_any p (range_with_len a n) ≡ true → (j : ℕ) × (a ≤ j) × (j < a + n) × (p j ≡ true)
any_of_range p a zero any = absurd (false≢true any)
any_of_range p a (suc n) any =
    ⊎_elim (λ here. (a, omega arith, omega arith, here))
    (λ there. let r = any_of_range p (a + 1) n there in (r.0, omega (arith, r.1), omega (arith, r.2), r.3))
    (or_cases (p a) (list_any p (range_with_len (a + 1) n)) any)

pub range_has_any : (p : ℕ → Bool) (a n j : ℕ) → a ≤ j → j < a + n → p j ≡ true → list_any p (range_with_len a n) ≡ true
range_has_any p a zero j from to here = absurd (omega arith)
range_has_any p a (suc n) j from to here =
    ⊎_elim (λ further. or_right (p a) (list_any p (range_with_len (a + 1) n)) (range_has_any p (a + 1) n j (omega arith) (omega arith) here))
    (λ no_further. let same : a ≡ j = omega arith in or_left (p a) (list_any p (range_with_len (a + 1) n)) (rw same here))
    (cases_lt a j)

-- the first number that passes
pub found_in_range : (p : ℕ → Bool) (a n i : ℕ) → find p (range_with_len a n) ≡ Some i → (a ≤ i) × (i < a + n) × (p i ≡ true) × ((j : ℕ) → a ≤ j → j < i → p j ≡ false)
found_in_range p a zero i is = absurd (none-some i is)
found_in_range p a (suc n) i is =
    ⊎_elim
    (λ yes. let same : a ≡ i = same_Some a i (sym (cond-true (p a) (Some a) (find p (range_with_len (a + 1) n)) yes) ∙ is) in
    (omega arith, omega arith, rw (← same) yes, λ j from to. absurd (omega arith)))
    (λ no. let r = found_in_range p (a + 1) n i (sym (cond-false (p a) (Some a) (find p (range_with_len (a + 1) n)) no) ∙ is) in
    (omega (arith, r.0), omega (arith, r.1), r.2, λ j from to. ⊎_elim (λ further. r.3 j (omega arith) to) (λ no_further. let same : a ≡ j = omega arith in rw (← same) no) (cases_lt a j)))
    (cases_Bool (p a))

pub none_in_range : (p : ℕ → Bool) (a n : ℕ) → find p (range_with_len a n) ≡ None → (j : ℕ) → a ≤ j → j < a + n → p j ≡ false
none_in_range p a zero is j from to = absurd (omega arith)
none_in_range p a (suc n) is j from to =
    ⊎_elim
    (λ yes. absurd (none-some a (sym is ∙ cond-true (p a) (Some a) (find p (range_with_len (a + 1) n)) yes)))
    (λ no. ⊎_elim
    (λ further. none_in_range p (a + 1) n (sym (cond-false (p a) (Some a) (find p (range_with_len (a + 1) n)) no) ∙ is) j (omega arith) (omega arith))
    (λ no_further. let same : a ≡ j = omega arith in rw (← same) no) (cases_lt a j))
    (cases_Bool (p a))

pub range_finds : (p : ℕ → Bool) (a n i : ℕ) → a ≤ i → i < a + n → p i ≡ true → ((j : ℕ) → a ≤ j → j < i → p j ≡ false) → find p (range_with_len a n) ≡ Some i
range_finds p a zero i from to here before = absurd (omega arith)
range_finds p a (suc n) i from to here before =
    ⊎_elim
    (λ further. cond-false (p a) (Some a) (find p (range_with_len (a + 1) n)) (before a (omega arith) further)
    ∙ range_finds p (a + 1) n i (omega arith) (omega arith) here (λ j f t. before j (omega arith) t))
    (λ no_further. let same : a ≡ i = omega arith in
    cond-true (p a) (Some a) (find p (range_with_len (a + 1) n)) (rw same here) ∙ ap Some same)
    (cases_lt a i)

pub range_finds_none : (p : ℕ → Bool) (a n : ℕ) → ((j : ℕ) → a ≤ j → j < a + n → p j ≡ false) → find p (range_with_len a n) ≡ None
range_finds_none p a zero each = refl
range_finds_none p a (suc n) each =
    cond-false (p a) (Some a) (find p (range_with_len (a + 1) n)) (each a (omega arith) (omega arith))
    ∙ range_finds_none p (a + 1) n (λ j f t. each j (omega arith) (omega arith))

-- options
pub or_some : {X : Type 0} (o r : Option X) (x : X) → option_or o r ≡ Some x → (o ≡ Some x) ⊎ ((o ≡ None) × (r ≡ Some x))
or_some None r x is = inr (refl, is)
or_some (Some y) r x is = inl is

pub or_none : {X : Type 0} (o r : Option X) → option_or o r ≡ None → (o ≡ None) × (r ≡ None)
or_none None r is = (refl, is)
or_none (Some y) r is = absurd (none-some y (sym is))

pub map_some : {X Y : Type 0} (f : X → Y) (o : Option X) (y : Y) → option_map f o ≡ Some y → (x : X) × (o ≡ Some x) × (f x ≡ y)
map_some f None y is = absurd (none-some y is)
map_some f (Some x) y is = (x, refl, same_Some (f x) y is)

pub map_none : {X Y : Type 0} (f : X → Y) (o : Option X) → option_map f o ≡ None → o ≡ None
map_none f None is = refl
map_none f (Some x) is = absurd (none-some (f x) (sym is))

-- places behind one another
pub get_left : {X : Type 0} (xs ys : List X) (k : ℕ) (x : X) → slice_get xs k ≡ Some x → slice_get (xs ++ ys) k ≡ Some x
get_left [] ys k x is = absurd (none-some x is)
get_left (z ∷ zs) ys zero x is = is
get_left (z ∷ zs) ys (suc k) x is = get_left zs ys k x is

pub get_right : {X : Type 0} (xs ys : List X) (k : ℕ) → slice_get (xs ++ ys) (length xs + k) ≡ slice_get ys k
get_right [] ys k = let e : 0 + k ≡ k = omega arith in ap (slice_get ys) e
get_right (z ∷ zs) ys k =
    let e : length (z ∷ zs) + k ≡ suc (length zs + k) = omega arith in ap (slice_get ((z ∷ zs) ++ ys)) e ∙ get_right zs ys k

pub get_split : {X : Type 0} (xs ys : List X) (k : ℕ) (x : X) → slice_get (xs ++ ys) k ≡ Some x →
    ((k < length xs) × (slice_get xs k ≡ Some x)) ⊎ ((j : ℕ) × (k ≡ length xs + j) × (slice_get ys j ≡ Some x))
get_split [] ys k x is = inr (k, omega arith, is)
get_split (z ∷ zs) ys zero x is = inl (omega arith, is)
get_split (z ∷ zs) ys (suc k) x is =
    ⊎_elim (λ l. inl (omega (arith, l.0), l.1)) (λ r. inr (r.0, omega (arith, r.1), r.2)) (get_split zs ys k x is)

pub get_flat : {X Y : Type 0} (f : X → List Y) (xs : List X) (k : ℕ) (y : Y) → slice_get (flat_map f xs) k ≡ Some y →
    (l : ℕ) × (x : X) × (j : ℕ) × (slice_get xs l ≡ Some x) × (slice_get (f x) j ≡ Some y)
get_flat f [] k y is = absurd (none-some y is)
get_flat f (x ∷ xs) k y is =
    ⊎_elim (λ l. (0, x, k, refl, l.1))
    (λ r. let w = get_flat f xs r.0 y r.2 in (suc w.0, w.1, w.2, w.3, w.4))
    (get_split (f x) (flat_map f xs) k y is)

-- inside a list there is an element
pub get_within : {X : Type 0} (xs : List X) (n : ℕ) → n < length xs → (x : X) × (slice_get xs n ≡ Some x)
get_within [] n inside = absurd (omega arith)
get_within (x ∷ xs) zero inside = (x, refl)
get_within (x ∷ xs) (suc n) inside = get_within xs n (omega arith)

-- lists that functions make
pub list_any-map : {X Y : Type 0} (p : Y → Bool) (g : X → Y) (xs : List X) → list_any p (map g xs) ≡ list_any (λ x. p (g x)) xs
list_any-map p g [] = refl
list_any-map p g (x ∷ xs) = ap (λ b. p (g x) || b) (list_any-map p g xs)

pub map-map : {X Y Z : Type 0} (f : Y → Z) (g : X → Y) (xs : List X) → map f (map g xs) ≡ map (λ x. f (g x)) xs
map-map f g [] = refl
map-map f g (x ∷ xs) = ap (λ ys. f (g x) ∷ ys) (map-map f g xs)

pub map_same : {X Y : Type 0} (f g : X → Y) → ((x : X) → f x ≡ g x) → (xs : List X) → map f xs ≡ map g xs
map_same f g same [] = refl
map_same f g same (x ∷ xs) = rw (same x, map_same f g same xs) refl

pub flat_map_same : {X Y : Type 0} (f g : X → List Y) → ((x : X) → f x ≡ g x) → (xs : List X) → flat_map f xs ≡ flat_map g xs
flat_map_same f g same [] = refl
flat_map_same f g same (x ∷ xs) = rw (same x, flat_map_same f g same xs) refl

pub any_same : {X : Type 0} (p q : X → Bool) → ((x : X) → p x ≡ q x) → (xs : List X) → list_any p xs ≡ list_any q xs
any_same p q same [] = refl
any_same p q same (x ∷ xs) = rw (same x, any_same p q same xs) refl

-- each passes exactly where none fails
pub all_is_not_any : {X : Type 0} (p : X → Bool) (xs : List X) → list_all p xs ≡ not (list_any (λ x. not (p x)) xs)
all_is_not_any p [] = refl
all_is_not_any p (x ∷ xs) = rw (all_is_not_any p xs) (opposite (p x) (list_any (λ x. not (p x)) xs))
  where
    opposite : (a b : Bool) → (a && not b) ≡ not (not a || b)
    opposite true b = refl
    opposite false b = refl

-- each element of lists in a row passes
pub all_left : {X : Type 0} (p : X → Bool) (xs ys : List X) → list_all p (xs ++ ys) ≡ true → list_all p xs ≡ true
all_left p [] ys all = refl
all_left p (x ∷ xs) ys all =
    let both = and_parts (p x) (list_all p (xs ++ ys)) all in
    and_from (p x) (list_all p xs) both.0 (all_left p xs ys both.1)

pub all_right : {X : Type 0} (p : X → Bool) (xs ys : List X) → list_all p (xs ++ ys) ≡ true → list_all p ys ≡ true
all_right p [] ys all = all
all_right p (x ∷ xs) ys all = all_right p xs ys (and_parts (p x) (list_all p (xs ++ ys)) all).1

pub all_flat : {X Y : Type 0} (p : Y → Bool) (f : X → List Y) (xs : List X) → list_all p (flat_map f xs) ≡ true → (k : ℕ) (x : X) → slice_get xs k ≡ Some x → list_all p (f x) ≡ true
all_flat p f [] all k x at = absurd (none-some x at)
all_flat p f (y ∷ ys) all zero x at = ap (λ z. list_all p (f z)) (sym (same_Some y x at)) ∙ all_left p (f y) (flat_map f ys) all
all_flat p f (y ∷ ys) all (suc k) x at = all_flat p f ys (all_right p (f y) (flat_map f ys) all) k x at

pub get_front : {X : Type 0} (xs ys : List X) (k : ℕ) → k < length xs → slice_get (xs ++ ys) k ≡ slice_get xs k
get_front [] ys k inside = absurd (omega arith)
get_front (z ∷ zs) ys zero inside = refl
get_front (z ∷ zs) ys (suc k) inside = get_front zs ys k (omega arith)

pub all_drop : {X : Type 0} (p : X → Bool) (k : ℕ) (xs : List X) → list_all p xs ≡ true → list_all p (drop k xs) ≡ true
all_drop p zero xs all = all
all_drop p (suc k) [] all = all
all_drop p (suc k) (x ∷ xs) all = all_drop p k xs (and_parts (p x) (list_all p xs) all).1

pub get_of_take : {X : Type 0} (n : ℕ) (xs : List X) (k : ℕ) (x : X) → slice_get (take n xs) k ≡ Some x → slice_get xs k ≡ Some x
get_of_take zero xs k x at = absurd (none-some x at)
get_of_take (suc n) [] k x at = absurd (none-some x at)
get_of_take (suc n) (y ∷ ys) zero x at = at
get_of_take (suc n) (y ∷ ys) (suc k) x at = get_of_take n ys k x at

-- names that are distinct stand at one place each
pub distinct_places : (names : List (List ℕ)) → are_distinct names ≡ true → (k l : ℕ) (name : List ℕ) → slice_get names k ≡ Some name → slice_get names l ≡ Some name → k ≡ l
distinct_places [] are k l name kt lt = absurd (none-some name kt)
distinct_places (n ∷ names) are zero zero name kt lt = refl
distinct_places (n ∷ names) are zero (suc l) name kt lt =
    let new = and_parts (not (list_any (bytes_eq n) names)) (are_distinct names) are in
    absurd (false≢true (sym (not-true (list_any (bytes_eq n) names) new.0)
    ∙ any_from_some (bytes_eq n) names l name lt ((bytes_eq-Decides n name).1 (same_Some n name kt))))
distinct_places (n ∷ names) are (suc k) zero name kt lt =
    let new = and_parts (not (list_any (bytes_eq n) names)) (are_distinct names) are in
    absurd (false≢true (sym (not-true (list_any (bytes_eq n) names) new.0)
    ∙ any_from_some (bytes_eq n) names k name kt ((bytes_eq-Decides n name).1 (same_Some n name lt))))
distinct_places (n ∷ names) are (suc k) (suc l) name kt lt =
    ap suc (distinct_places names (and_parts (not (list_any (bytes_eq n) names)) (are_distinct names) are).1 k l name kt lt)
