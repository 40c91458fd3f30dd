-- The lists of indexes below sizes: which they are, and their order.
use Rattle.std.proofs.Common.{◌≡◌, ◌↔◌, ℕ, zero, suc, ◌+◌, ◌<◌, Bool, true, false, ◌&&◌, nat_lt, List, [], ◌∷◌, ◌++◌, map, length, All, Contains, zip, Ordering, Less, Equal, refl, sym, ap, ◌∙◌, arith}
use Rattle.std.specs.Cmp.{nat_cmp_is}
use Rattle.std.specs.Cmp.Lexicographic.{slice_cmp}
use Rattle.std.specs.List.{range_with_len, flat_map, list_all, AllByRecursion}
use Rattle.std.specs.List.Sorted.{IsStrictlySortedBy}
use Rattle.std.specs.Ordering.{nat_cmp, ordering_then}
use Rattle.std.proofs.lemmas.Bool.{and_parts, and_from, false≢true, ltb-true, lt-ltb}
use Rattle.std.proofs.lemmas.List.Elements.{All-nil, All-cons, All-map, All-weaker, All-contains}
use Rattle.trio_types.specs.World.{World}
use Rattle.trio_types.specs.Cells.{Cell, IsTable, cells_of, cell_size}
use Rattle.trio_types.specs.Tables.{all_tables, lists_below}
use Rattle.trio_types.proofs.Contained.{contains_here, contains_flat, map_law}
use Rattle.branch_state.proofs.Contained.{contains_range, all_range, all_flat}

-- there is an index for each size, below it
pub are_below : List ℕ → List ℕ → Bool
are_below [] [] = true
are_below (s ∷ ss) (v ∷ vs) = nat_lt v s && are_below ss vs
are_below ss vs = false

lists_have : (ss vs : List ℕ) → are_below ss vs ≡ true → Contains (lists_below ss) vs
unfolding lists_below are_below
lists_have [] [] below = contains_here [] []
lists_have [] (v ∷ vs) below = absurd (false≢true below)
lists_have (s ∷ ss) [] below = absurd (false≢true below)
lists_have (s ∷ ss) (v ∷ vs) below =
    let both = and_parts (nat_lt v s) (are_below ss vs) below in
    contains_flat (λ u. map (λ us. u ∷ us) (lists_below ss)) (range_with_len 0 s) v (v ∷ vs)
    (contains_range 0 s v (omega arith) (omega (arith, ltb-true v s both.0)))
    ((map_law (λ us. v ∷ us) (lists_below ss) (v ∷ vs)).1 (vs, lists_have ss vs both.1, refl))

lists_are : (ss : List ℕ) → All (λ vs. are_below ss vs ≡ true) (lists_below ss)
unfolding lists_below are_below
lists_are [] = All-cons (λ vs. are_below [] vs ≡ true) [] [] refl (All-nil (λ vs. are_below [] vs ≡ true))
lists_are (s ∷ ss) =
    all_flat (λ vs. are_below (s ∷ ss) vs ≡ true) (λ v. map (λ vs. v ∷ vs) (lists_below ss)) (range_with_len 0 s)
    (All-weaker (λ v. v < s) (λ v. All (λ vs. are_below (s ∷ ss) vs ≡ true) (map (λ vs. v ∷ vs) (lists_below ss)))
    (λ v below. All-map (λ vs. are_below (s ∷ ss) vs ≡ true) (λ vs. v ∷ vs) (lists_below ss)
    (All-weaker (λ vs. are_below ss vs ≡ true) (λ vs. are_below (s ∷ ss) (v ∷ vs) ≡ true)
    (λ vs rest. and_from (nat_lt v s) (are_below ss vs) (lt-ltb v s below) rest) (lists_below ss) (lists_are ss)))
    (range_with_len 0 s) (all_range s))

-- tables are such lists
below_table : (w : World) (cells : List Cell) (vs : List ℕ) → length vs ≡ length cells → list_all (λ p. nat_lt p.1 (cell_size w p.0)) (zip cells vs) ≡ true →
    are_below (map (cell_size w) cells) vs ≡ true
unfolding are_below
below_table w [] [] whole within = refl
below_table w [] (v ∷ vs) whole within = absurd (omega (arith, whole))
below_table w (c ∷ cs) [] whole within = absurd (omega (arith, whole))
below_table w (c ∷ cs) (v ∷ vs) whole within =
    let both = and_parts (nat_lt v (cell_size w c)) (list_all (λ p. nat_lt p.1 (cell_size w p.0)) (zip cs vs)) within in
    and_from (nat_lt v (cell_size w c)) (are_below (map (cell_size w) cs) vs) both.0 (below_table w cs vs (omega (arith, whole)) both.1)

table_below : (w : World) (cells : List Cell) (vs : List ℕ) → are_below (map (cell_size w) cells) vs ≡ true →
    (length vs ≡ length cells) × (list_all (λ p. nat_lt p.1 (cell_size w p.0)) (zip cells vs) ≡ true)
unfolding are_below
table_below w [] [] below = (refl, refl)
table_below w [] (v ∷ vs) below = absurd (false≢true below)
table_below w (c ∷ cs) [] below = absurd (false≢true below)
table_below w (c ∷ cs) (v ∷ vs) below =
    let both = and_parts (nat_lt v (cell_size w c)) (are_below (map (cell_size w) cs) vs) below in
    let more = table_below w cs vs both.1 in
    (omega (arith, more.0), and_from (nat_lt v (cell_size w c)) (list_all (λ p. nat_lt p.1 (cell_size w p.0)) (zip cs vs)) both.0 more.1)

-- the tables are all there
pub tables_are_all : (w : World) (table : List ℕ) → Contains (all_tables w) table ↔ IsTable w table
tables_are_all w table = (
  λ has.
      let r = table_below w (cells_of w) table
      (All-contains (λ vs. are_below (map (cell_size w) (cells_of w)) vs ≡ true) (all_tables w) table (lists_are (map (cell_size w) (cells_of w))) has) in
      record { whole = r.0; within = r.1 },
  λ is. lists_have (map (cell_size w) (cells_of w)) table (below_table w (cells_of w) table is.whole is.within),
)

abbrev lex : List ℕ → List ℕ → Ordering
lex = slice_cmp nat_cmp

-- what holds of each of lists in a row
all_behind : {X : Type 0} (P : X → Type 0) (xs ys : List X) → AllByRecursion P xs → AllByRecursion P ys → AllByRecursion P (xs ++ ys)
all_behind P [] ys px py = py
all_behind P (x ∷ xs) ys px py = (px.0, all_behind P xs ys px.1 py)

all_mapped : {X Y : Type 0} (P : X → Type 0) (Q : Y → Type 0) (f : X → Y) → ((x : X) → P x → Q (f x)) → (xs : List X) → AllByRecursion P xs → AllByRecursion Q (map f xs)
all_mapped P Q f keeps [] px = tt
all_mapped P Q f keeps (x ∷ xs) px = (keeps x px.0, all_mapped P Q f keeps xs px.1)

all_any : {X : Type 0} (P : X → Type 0) → ((x : X) → P x) → (xs : List X) → AllByRecursion P xs
all_any P each [] = tt
all_any P each (x ∷ xs) = (each x, all_any P each xs)

sorted_behind : (xs ys : List (List ℕ)) → IsStrictlySortedBy lex xs → IsStrictlySortedBy lex ys → AllByRecursion (λ x. AllByRecursion (λ y. lex x y ≡ Less) ys) xs →
    IsStrictlySortedBy lex (xs ++ ys)
unfolding IsStrictlySortedBy
sorted_behind [] ys ux uy apart = uy
sorted_behind (x ∷ xs) ys ux uy apart = (all_behind (λ y. lex x y ≡ Less) xs ys ux.0 apart.0, sorted_behind xs ys ux.1 uy apart.1)

-- lists with the same first index, and with a greater one
same_first : (v : ℕ) (us ws : List ℕ) → lex us ws ≡ Less → lex (v ∷ us) (v ∷ ws) ≡ Less
same_first v us ws less = ap (λ o. ordering_then o (lex us ws)) (sym (nat_cmp_is v v Equal refl)) ∙ less

less_first : (v w : ℕ) (us ws : List ℕ) → v < w → lex (v ∷ us) (w ∷ ws) ≡ Less
less_first v w us ws less = ap (λ o. ordering_then o (lex us ws)) (sym (nat_cmp_is v w Less less))

sorted_first : (v : ℕ) (xs : List (List ℕ)) → IsStrictlySortedBy lex xs → IsStrictlySortedBy lex (map (λ vs. v ∷ vs) xs)
unfolding IsStrictlySortedBy
sorted_first v [] up = tt
sorted_first v (x ∷ xs) up =
    (all_mapped (λ y. lex x y ≡ Less) (λ y. lex (v ∷ x) y ≡ Less) (λ vs. v ∷ vs) (λ y less. same_first v x y less) xs up.0, sorted_first v xs up.1)

behind_first : (xs : List (List ℕ)) (v : ℕ) (us : List ℕ) (a n : ℕ) → v < a →
    AllByRecursion (λ y. lex (v ∷ us) y ≡ Less) (flat_map (λ w. map (λ vs. w ∷ vs) xs) (range_with_len a n))
behind_first xs v us a zero less = tt
behind_first xs v us a (suc n) less =
    all_behind (λ y. lex (v ∷ us) y ≡ Less) (map (λ vs. a ∷ vs) xs) (flat_map (λ w. map (λ vs. w ∷ vs) xs) (range_with_len (a + 1) n))
    (all_mapped (λ y. lex (v ∷ us) (a ∷ y) ≡ Less) (λ y. lex (v ∷ us) y ≡ Less) (λ vs. a ∷ vs) (λ y less. less) xs
    (all_any (λ y. lex (v ∷ us) (a ∷ y) ≡ Less) (λ y. less_first v a us y less) xs))
    (behind_first xs v us (a + 1) n (omega arith))

sorted_blocks : (xs : List (List ℕ)) → IsStrictlySortedBy lex xs → (a n : ℕ) → IsStrictlySortedBy lex (flat_map (λ v. map (λ vs. v ∷ vs) xs) (range_with_len a n))
unfolding IsStrictlySortedBy
sorted_blocks xs up a zero = tt
sorted_blocks xs up a (suc n) =
    let rest = flat_map (λ v. map (λ vs. v ∷ vs) xs) (range_with_len (a + 1) n) in
    sorted_behind (map (λ vs. a ∷ vs) xs) rest (sorted_first a xs up) (sorted_blocks xs up (a + 1) n)
    (all_mapped (λ us. AllByRecursion (λ y. lex (a ∷ us) y ≡ Less) rest) (λ x. AllByRecursion (λ y. lex x y ≡ Less) rest) (λ vs. a ∷ vs) (λ us less. less) xs
    (all_any (λ us. AllByRecursion (λ y. lex (a ∷ us) y ≡ Less) rest) (λ us. behind_first xs a us (a + 1) n (omega arith)) xs))

pub lists_sorted : (ss : List ℕ) → IsStrictlySortedBy (slice_cmp nat_cmp) (lists_below ss)
unfolding lists_below IsStrictlySortedBy
lists_sorted [] = (tt, tt)
lists_sorted (s ∷ ss) = sorted_blocks (lists_below ss) (lists_sorted ss) 0 s
