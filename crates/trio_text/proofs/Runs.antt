-- Lists cut in two: fronts that pass a test, fronts of one list, and what the first that passes says.
use Rattle.std.proofs.Common.{◌≡◌, ℕ, ◌<◌, zero, suc, Bool, true, false, cond, not, ◌&&◌, ◌||◌, nat_le, List, [], ◌∷◌, ◌++◌, length, get_or, refl, sym, ap, subst, ◌∙◌, arith, inl, inr, ◌⊎◌}
use Rattle.std.specs.Prelude.{Some, None, take_while}
use Rattle.std.specs.List.{list_all, list_any, find}
use Rattle.std.proofs.lemmas.Bool.{false≢true}
use Rattle.std.proofs.Common.{le_refl, le-leb}
use Rattle.std.proofs.lemmas.List.Sums.{take_while-cons}

pub and_left : (a b : Bool) → (a && b) ≡ true → a ≡ true
and_left true b h = refl
and_left false b h = h

pub and_right : (a b : Bool) → (a && b) ≡ true → b ≡ true
and_right true b h = h
and_right false b h = absurd (false≢true h)

pub and_both : (a b : Bool) → a ≡ true → b ≡ true → (a && b) ≡ true
and_both true b h k = k
and_both false b h k = h

pub or_left : (a b : Bool) → a ≡ true → (a || b) ≡ true
or_left true b h = refl
or_left false b h = absurd (false≢true h)

pub or_right : (a b : Bool) → b ≡ true → (a || b) ≡ true
or_right true b h = refl
or_right false b h = h

pub not_true : (a : Bool) → not a ≡ true → a ≡ false
not_true true h = sym h
not_true false h = refl

pub not_false : (a : Bool) → not a ≡ false → a ≡ true
not_false true h = refl
not_false false h = sym h

-- ---- tests over a list

pub all_at : {X : Type 0} (test : X → Bool) (xs : List X) (k : ℕ) (d : X) → list_all test xs ≡ true → k < length xs → test (get_or xs k d) ≡ true
all_at test [] k d all within = absurd (omega arith)
all_at test (x ∷ xs) zero d all within = and_left (test x) _ all
all_at test (x ∷ xs) (suc k) d all within = all_at test xs k d (and_right (test x) _ all) (omega arith)

pub passes_at : {X : Type 0} (test : X → Bool) (xs ys : List X) (x : X) → list_all test (xs ++ x ∷ ys) ≡ true → test x ≡ true
passes_at test [] ys x all = and_left (test x) _ all
passes_at test (y ∷ xs) ys x all = passes_at test xs ys x (and_right (test y) _ all)

-- where the first that passes is none, each fails
find_none_cons : {X : Type 0} (test : X → Bool) (x : X) (xs : List X) (t : Bool) → cond t (Some x) (find test xs) ≡ None →
    (find test xs ≡ None → list_all (λ y. not (test y)) xs ≡ true) → (not t && list_all (λ y. not (test y)) xs) ≡ true
find_none_cons test x xs true none more = cc
find_none_cons test x xs false none more = more none

pub find_none : {X : Type 0} (test : X → Bool) (xs : List X) → find test xs ≡ None → list_all (λ x. not (test x)) xs ≡ true
find_none test [] none = refl
find_none test (x ∷ xs) none = find_none_cons test x xs (test x) none (find_none test xs)

-- where none passes, none is found
find_nothing_cons : {X : Type 0} (test : X → Bool) (x : X) (xs : List X) (t : Bool) → (t || list_any test xs) ≡ false →
    (list_any test xs ≡ false → find test xs ≡ None) → cond t (Some x) (find test xs) ≡ None
find_nothing_cons test x xs true none more = absurd (false≢true (sym none))
find_nothing_cons test x xs false none more = more none

pub find_nothing : {X : Type 0} (test : X → Bool) (xs : List X) → list_any test xs ≡ false → find test xs ≡ None
find_nothing test [] none = refl
find_nothing test (x ∷ xs) none = find_nothing_cons test x xs (test x) none (find_nothing test xs)

-- where one is found, it passes
found_passes_cons : {X : Type 0} (test : X → Bool) (x y : X) (xs : List X) (t : Bool) → test x ≡ t → cond t (Some x) (find test xs) ≡ Some y →
    (find test xs ≡ Some y → test y ≡ true) → test y ≡ true
found_passes_cons test x y xs true e found more = let same : x ≡ y = cc in ap test (sym same) ∙ e
found_passes_cons test x y xs false e found more = more found

pub found_passes : {X : Type 0} (test : X → Bool) (y : X) (xs : List X) → find test xs ≡ Some y → test y ≡ true
found_passes test y [] found = cc
found_passes test y (x ∷ xs) found = found_passes_cons test x y xs (test x) refl found (found_passes test y xs)

-- each weighs no more than those before it
abbrev pub falls : {X : Type 0} → (X → ℕ) → List X → Bool
falls weight [] = true
falls weight (x ∷ xs) = list_all (λ y. nat_le (weight y) (weight x)) xs && falls weight xs

-- each that passes weighs no more than the first that passes
weighs_less : {X : Type 0} (test : X → Bool) (weight : X → ℕ) (n : ℕ) (xs : List X) → list_all (λ y. nat_le (weight y) n) xs ≡ true →
    list_all (λ y. not (test y) || nat_le (weight y) n) xs ≡ true
weighs_less test weight n [] all = refl
weighs_less test weight n (x ∷ xs) all =
    and_both _ _ (or_right (not (test x)) _ (and_left (nat_le (weight x) n) _ all)) (weighs_less test weight n xs (and_right (nat_le (weight x) n) _ all))

found_greatest_cons : {X : Type 0} (test : X → Bool) (weight : X → ℕ) (x y : X) (xs : List X) (t : Bool) → test x ≡ t →
    cond t (Some x) (find test xs) ≡ Some y → (list_all (λ z. nat_le (weight z) (weight x)) xs && falls weight xs) ≡ true →
    (find test xs ≡ Some y → falls weight xs ≡ true → list_all (λ z. not (test z) || nat_le (weight z) (weight y)) xs ≡ true) →
    list_all (λ z. not (test z) || nat_le (weight z) (weight y)) (x ∷ xs) ≡ true
found_greatest_cons test weight x y xs true e found all more =
    let same : x ≡ y = cc in
    let P : ℕ → Type 0 = λ n. list_all (λ z. not (test z) || nat_le (weight z) n) (x ∷ xs) ≡ true in
    subst P (ap weight same) (and_both _ _ (or_right (not (test x)) _ (le-leb _ _ (le_refl (weight x)))) (weighs_less test weight (weight x) xs (and_left _ _ all)))
found_greatest_cons test weight x y xs false e found all more =
    and_both _ _ (or_left (not (test x)) _ (ap not e)) (more found (and_right (list_all (λ z. nat_le (weight z) (weight x)) xs) _ all))

pub found_greatest : {X : Type 0} (test : X → Bool) (weight : X → ℕ) (y : X) (xs : List X) → find test xs ≡ Some y → falls weight xs ≡ true →
    list_all (λ z. not (test z) || nat_le (weight z) (weight y)) xs ≡ true
found_greatest test weight y [] found all = refl
found_greatest test weight y (x ∷ xs) found all =
    found_greatest_cons test weight x y xs (test x) refl found all (found_greatest test weight y xs)

-- ---- the longest front that passes

-- the list is empty, or its first element fails
abbrev pub Ends : (ℕ → Bool) → List ℕ → Type 0
Ends test [] = Unit {0}
Ends test (b ∷ bs) = test b ≡ false

pub record IsRun (test : ℕ → Bool) (text word rest : List ℕ) : Type 0 where
  pub whole : text ≡ word ++ rest
  pub all : list_all test word ≡ true
  pub ends : Ends test rest

run_cons : (test : ℕ → Bool) (b : ℕ) (bs w : List ℕ) (t : Bool) → test b ≡ t → w ≡ cond t (b ∷ take_while test bs) [] →
    (rest : List ℕ) × IsRun test bs (take_while test bs) rest → (rest : List ℕ) × IsRun test (b ∷ bs) w rest
run_cons test b bs w true e is more = (
  more.0,
  record {
    whole = ap (λ v. b ∷ v) more.1.whole ∙ ap (λ v. v ++ more.0) (sym is);
    all = ap (list_all test) is ∙ and_both (test b) _ e more.1.all;
    ends = more.1.ends;
  },
)
run_cons test b bs w false e is more = (
  b ∷ bs,
  record {
    whole = ap (λ v. v ++ b ∷ bs) (sym is);
    all = ap (list_all test) is;
    ends = e;
  },
)

pub run : (test : ℕ → Bool) (text : List ℕ) → (rest : List ℕ) × IsRun test text (take_while test text) rest
run test [] = ([], record { whole = refl; all = refl; ends = tt })
run test (b ∷ bs) = run_cons test b bs (take_while test (b ∷ bs)) (test b) refl (take_while-cons test b bs) (run test bs)

-- a list has one longest front that passes
pub run_only : (test : ℕ → Bool) (xs ys us vs : List ℕ) → list_all test xs ≡ true → Ends test ys → list_all test us ≡ true → Ends test vs →
    xs ++ ys ≡ us ++ vs → (xs ≡ us) × (ys ≡ vs)
run_only test [] ys [] vs a e b f same = (refl, same)
run_only test [] [] (u ∷ us) vs a e b f same = cc
run_only test [] (y ∷ ys) (u ∷ us) vs a e b f same =
    let first : y ≡ u = cc in absurd (false≢true (sym e ∙ ap test first ∙ and_left (test u) _ b))
run_only test (x ∷ xs) ys [] [] a e b f same = cc
run_only test (x ∷ xs) ys [] (v ∷ vs) a e b f same =
    let first : v ≡ x = cc in absurd (false≢true (sym f ∙ ap test first ∙ and_left (test x) _ a))
run_only test (x ∷ xs) ys (u ∷ us) vs a e b f same =
    let first : x ≡ u = cc in
    let tail : xs ++ ys ≡ us ++ vs = cc in
    let more = run_only test xs ys us vs (and_right (test x) _ a) e (and_right (test u) _ b) f tail in
    ((λ i. first i ∷ more.0 i), more.1)

-- ---- two fronts of one list

-- of two fronts of one list, one goes on with the other
pub record GoesOn (xs ys us vs : List ℕ) : Type 0 where
  pub more : List ℕ
  pub front : us ≡ xs ++ more
  pub back : ys ≡ more ++ vs

goes_on_cons : (x u : ℕ) (xs ys us vs : List ℕ) → x ≡ u → GoesOn xs ys us vs ⊎ GoesOn us vs xs ys → GoesOn (x ∷ xs) ys (u ∷ us) vs ⊎ GoesOn (u ∷ us) vs (x ∷ xs) ys
goes_on_cons x u xs ys us vs e (inl on) = inl (record { more = on.more; front = (λ i. sym e i ∷ on.front i); back = on.back })
goes_on_cons x u xs ys us vs e (inr on) = inr (record { more = on.more; front = (λ i. e i ∷ on.front i); back = on.back })

pub goes_on : (xs ys us vs : List ℕ) → xs ++ ys ≡ us ++ vs → GoesOn xs ys us vs ⊎ GoesOn us vs xs ys
goes_on [] ys us vs same = inl (record { more = us; front = refl; back = same })
goes_on (x ∷ xs) ys [] vs same = inr (record { more = x ∷ xs; front = refl; back = sym same })
goes_on (x ∷ xs) ys (u ∷ us) vs same =
    let first : x ≡ u = cc in
    let tail : xs ++ ys ≡ us ++ vs = cc in
    goes_on_cons x u xs ys us vs first (goes_on xs ys us vs tail)

pub none_longer : (xs : List ℕ) → length xs ≡ 0 → xs ≡ []
none_longer [] e = refl
none_longer (x ∷ xs) e = absurd (omega arith)

-- ---- where each fails, none passes

fails_each_cons : {X : Type 0} (test : X → Bool) (x : X) (xs : List X) (t : Bool) → (not t && list_all (λ y. not (test y)) xs) ≡ true →
    (list_all (λ y. not (test y)) xs ≡ true → list_any test xs ≡ false) → (t || list_any test xs) ≡ false
fails_each_cons test x xs true fails more = absurd (false≢true fails)
fails_each_cons test x xs false fails more = more fails

pub fails_each : {X : Type 0} (test : X → Bool) (xs : List X) → list_all (λ y. not (test y)) xs ≡ true → list_any test xs ≡ false
fails_each test [] fails = refl
fails_each test (x ∷ xs) fails = fails_each_cons test x xs (test x) fails (fails_each test xs)
