-- Which regions are not used.
use Rattle.std.proofs.Common.{◌≡◌, ℕ, ◌+◌, ◌<◌, ◌≤◌, Bool, true, false, not, List, [], ◌∷◌, ◌++◌, All, Contains, map, length, get_or, refl, sym, ap, ◌∙◌, subst, ⊎_elim, le_refl, arith}
use Rattle.std.specs.Bool.{Decides}
use Rattle.std.specs.List.{sum_by, flat_map}
use Rattle.std.proofs.lemmas.Bool.Decides.{leb_tells}
use Rattle.std.proofs.lemmas.List.{nil_from_length}
use Rattle.std.proofs.lemmas.List.Sums.{sum_by-cons, sum_by-append, sum_by-le, get_or-le-sum_by}
use Rattle.std.proofs.lemmas.List.Elements.{All-nil, All-cons, All-head, All-tail, All-weaker, All-contains, Contains-get_or, Contains-append_right}
use Rattle.trio_lists.specs.Multisets.{Permutes}
use Rattle.trio_lists.proofs.Filters.{one_if}
use Rattle.trio_lists.proofs.Permuted.{sum_by-flat_map}
use Rattle.emit_ledger.proofs.Grouped.{sum_by-map}
use Rattle.emit_ledger.proofs.Apart.{same_by, same_by-Decides}
use Rattle.branch_state.specs.declared.branch.Branch.{Branch}
use Rattle.branch_state.specs.Posed.{Posed}
use Rattle.branch_state.specs.Weight.{weight}
use Rattle.emit_ledger.specs.Regions.{RegionView, IsLighter, branch_code}
use Rattle.emit_ledger.specs.Assembly.{marked, unmarked, founds_of, givens_of, starts_of, Balances, IsAssembled}
use Rattle.emit_ledger.specs.Laws.{UsedLaw, NoneDroppedLaw}

-- some element weighs no less than any
heaviest : {A : Type 0} (w : A → ℕ) (x : A) (xs : List A) → (top : A) × Contains (x ∷ xs) top × All (λ y. w y ≤ w top) (x ∷ xs)
heaviest w x [] = (x, Contains-get_or (x ∷ []) 0 x (omega arith), All-cons (λ y. w y ≤ w x) x [] (le_refl (w x)) (All-nil (λ y. w y ≤ w x)))
heaviest {A} w x (y ∷ ys) = beside (heaviest w y ys)
  where
    beside : (top : A) × Contains (y ∷ ys) top × All (λ z. w z ≤ w top) (y ∷ ys) → (top : A) × Contains (x ∷ y ∷ ys) top × All (λ z. w z ≤ w top) (x ∷ y ∷ ys)
    beside r =
        ⊎_elim
        (λ up. (r.0, Contains-append_right (x ∷ []) (y ∷ ys) r.0 r.1, All-cons (λ z. w z ≤ w r.0) x (y ∷ ys) up.1 r.2))
        (λ down.
        let less : w r.0 < w x = down.1 in (
          x,
          Contains-get_or (x ∷ y ∷ ys) 0 x (omega arith),
          All-cons (λ z. w z ≤ w x) x (y ∷ ys) (le_refl (w x)) (All-weaker (λ z. w z ≤ w r.0) (λ z. w z ≤ w x) (λ z here. omega arith) (y ∷ ys) r.2),
        ))
        (leb_tells (w x) (w r.0))

module _ {A : Type 0} (same : A → A → Bool) (tells : (x y : A) → Decides (same x y) (x ≡ y)) where
  -- 1 at this element and 0 at the others
  abbrev one_at : A → A → ℕ
  one_at x y = one_if (same x y)

  others_none : (x y : A) → (x ≡ y → ⊥) → one_at x y ≤ 0
  others_none x y other = at (same x y) refl
    where
      at : (b : Bool) → same x y ≡ b → one_at x y ≤ 0
      at true is = absurd (other ((tells x y).0 is))
      at false is = omega (arith, ap one_if is)

  counted : (x : A) → one_at x x ≡ 1
  counted x = ap one_if ((tells x x).1 refl)

  absent_none : (x : A) (xs : List A) → (Contains xs x → ⊥) → sum_by (one_at x) xs ≡ 0
  absent_none x xs absent =
      omega (arith, sum_by-le (one_at x) 0 xs (λ k d inside. others_none x (get_or xs k d) (λ is. absent (subst (Contains xs) (sym is) (Contains-get_or xs k d inside)))))

  lighter_none : (w : A → ℕ) (x : A) (n : ℕ) (ys : List A) → n ≤ w x → All (λ y. w y < n) ys → sum_by (one_at x) ys ≤ 0
  lighter_none w x n ys most lighter =
      omega (arith, sum_by-le (one_at x) 0 ys (λ k d inside. others_none x (get_or ys k d) (λ is. omega (arith, ap w is, lighter k d inside, most))))

  -- Each thing starts at an element and gives lighter ones. Where all that is started or left stays or is given, and no start stays, there is nothing.
  module _ {R : Type 0} (start : R → A) (given : R → List A) (w : A → ℕ) (stay left : List A) where
    abbrev Even : List R → Type 0
    Even rs = (h : A → ℕ) → sum_by h (map start rs) + sum_by h left ≡ sum_by h stay + sum_by h (flat_map given rs)

    -- the heaviest start has no place to come from
    top_comes : (rs : List R) (top : R) → Contains rs top → All (λ r. w (start r) ≤ w (start top)) rs → Even rs → (Contains stay (start top) → ⊥) →
        All (λ r. All (λ y. w y < w (start r)) (given r)) rs → ⊥
    top_comes rs top has most even absent lighter =
        let s : A = start top in
        let starts : 1 ≤ sum_by (one_at s) (map start rs) =
        omega (
          arith,
          sum_by-map (one_at s) start rs,
          get_or-le-sum_by (λ r. one_at s (start r)) rs has.0 top has.1,
          ap (λ r. one_at s (start r)) has.2,
          counted s,
        ) in
        let gives : sum_by (one_at s) (flat_map given rs) ≡ 0 =
        omega (
          arith,
          sum_by-flat_map (one_at s) given rs,
          sum_by-le (λ r. sum_by (one_at s) (given r)) 0 rs
              (λ k d inside. lighter_none w s (w (start (get_or rs k d))) (given (get_or rs k d)) (most k d inside) (lighter k d inside)),
        ) in
        omega (arith, even (one_at s), starts, gives, absent_none s stay absent)

    pub nothing_stands : (rs : List R) → Even rs → All (λ r. Contains stay (start r) → ⊥) rs → All (λ r. All (λ y. w y < w (start r)) (given r)) rs → rs ≡ []
    nothing_stands [] even absent lighter = refl
    nothing_stands (r ∷ rs) even absent lighter =
        let top = heaviest (λ x. w (start x)) r rs in
        absurd (top_comes (r ∷ rs) top.0 top.1 top.2 even (All-contains (λ x. Contains stay (start x) → ⊥) (r ∷ rs) top.0 absent top.1) lighter)

all_marked : {A : Type 0} (P : A → Type 0) (marks : List Bool) (xs : List A) → All P xs → All P (marked marks xs)
all_marked P [] xs all = All-nil P
all_marked P (m ∷ ms) [] all = All-nil P
all_marked P (true ∷ ms) (x ∷ xs) all = All-cons P x (marked ms xs) (All-head P x xs all) (all_marked P ms xs (All-tail P x xs all))
all_marked P (false ∷ ms) (x ∷ xs) all = all_marked P ms xs (All-tail P x xs all)

-- a sum is that over the marked places and that over the others
sum_by-marked : {A : Type 0} (h : A → ℕ) (marks : List Bool) (xs : List A) → length marks ≡ length xs → sum_by h xs ≡ sum_by h (marked marks xs) + sum_by h (unmarked marks xs)
sum_by-marked h [] [] whole = refl
sum_by-marked h [] (x ∷ xs) whole = absurd (omega (arith, whole))
sum_by-marked h (m ∷ ms) [] whole = absurd (omega (arith, whole))
sum_by-marked h (true ∷ ms) (x ∷ xs) whole =
    omega (arith, sum_by-cons h x xs, sum_by-cons h x (marked ms xs), sum_by-marked h ms xs (omega (arith, whole)))
sum_by-marked h (false ∷ ms) (x ∷ xs) whole =
    omega (arith, sum_by-cons h x xs, sum_by-cons h x (unmarked ms xs), sum_by-marked h ms xs (omega (arith, whole)))

-- where there is no other place, the marked ones are all
marked_whole : {A : Type 0} (marks : List Bool) (xs : List A) → length marks ≡ length xs → unmarked marks xs ≡ [] → marked marks xs ≡ xs
marked_whole [] [] whole none = refl
marked_whole [] (x ∷ xs) whole none = absurd (omega (arith, whole))
marked_whole (m ∷ ms) [] whole none = absurd (omega (arith, whole))
marked_whole (true ∷ ms) (x ∷ xs) whole none = ap (λ ys. x ∷ ys) (marked_whole ms xs (omega (arith, whole)) none)
marked_whole (false ∷ ms) (x ∷ xs) whole none = cc

map_marked : {A B : Type 0} (h : B → ℕ) (f : A → B) (marks : List Bool) (xs : List A) → length marks ≡ length xs →
    sum_by h (map f xs) ≡ sum_by h (map f (marked marks xs)) + sum_by h (map f (unmarked marks xs))
map_marked h f marks xs whole =
    omega (arith, sum_by-map h f xs, sum_by-map h f (marked marks xs), sum_by-map h f (unmarked marks xs), sum_by-marked (λ x. h (f x)) marks xs whole)

flat_marked : {A B : Type 0} (h : B → ℕ) (f : A → List B) (marks : List Bool) (xs : List A) → length marks ≡ length xs →
    sum_by h (flat_map f xs) ≡ sum_by h (flat_map f (marked marks xs)) + sum_by h (flat_map f (unmarked marks xs))
flat_marked h f marks xs whole =
    omega (
      arith,
      sum_by-flat_map h f xs,
      sum_by-flat_map h f (marked marks xs),
      sum_by-flat_map h f (unmarked marks xs),
      sum_by-marked (λ x. sum_by h (f x)) marks xs whole,
    )

module _ (p : Posed) (starts : List Branch) (regions : List RegionView) (found : List (List ℕ)) (rest : List Branch) (dropped : ℕ)
    (is : IsAssembled p starts regions found rest dropped) where
  abbrev used : List RegionView
  used = marked is.marks regions

  abbrev unused : List RegionView
  unused = unmarked is.marks regions

  -- what is handed on to regions that are not used
  handed_unused : (left : List Branch) → Balances starts regions left → (h : Branch → ℕ) →
      sum_by h (starts_of unused) + sum_by h left ≡ sum_by h rest + sum_by h (givens_of unused)
  handed_unused left handed h =
      omega (
        arith,
        handed.weights h,
        is.balance.weights h,
        sum_by-append h (starts_of regions) left,
        sum_by-append h starts (givens_of regions),
        sum_by-append h (starts_of used) rest,
        sum_by-append h starts (givens_of used),
        map_marked h (λ r. r.start) is.marks regions is.whole,
        flat_marked h (λ r. r.given) is.marks regions is.whole,
      )

  lighter_as : (r : RegionView) → r.problem ≡ p → IsLighter r → All (λ b. weight p b < weight p r.start) r.given
  lighter_as r same lighter = subst (λ q. All (λ b. weight q b < weight q r.start) r.given) same lighter

  pub none_unused : (left : List Branch) → All (λ r. r.problem ≡ p) regions → All IsLighter regions → Balances starts regions left → unused ≡ []
  none_unused left same lighter handed =
      let others = map not is.marks in
      let same_unused = all_marked (λ (r : RegionView). r.problem ≡ p) others regions same in
      let lighter_unused = all_marked IsLighter others regions lighter in
      nothing_stands (same_by branch_code) (same_by-Decides branch_code) (λ (r : RegionView). r.start) (λ r. r.given) (weight p) rest left unused
      (handed_unused left handed)
      (λ k d inside. is.none k d inside (same_unused k d inside))
      (λ k d inside. lighter_as (get_or unused k d) (same_unused k d inside) (lighter_unused k d inside))

  pub none_dropped : dropped ≡ 0 → unused ≡ []
  none_dropped none = nil_from_length unused (sym is.count ∙ none)

  pub all_used : unused ≡ [] → All (λ r. r.problem ≡ p) regions × Permutes found (founds_of regions) × Balances starts regions rest
  all_used none =
      let all : used ≡ regions = marked_whole is.marks regions is.whole none in (
        subst (λ (rs : List RegionView). All (λ r. r.problem ≡ p) rs) all is.same,
        subst (λ (rs : List RegionView). Permutes found (founds_of rs)) all is.tables,
        subst (λ (rs : List RegionView). Balances starts rs rest) all is.balance,
      )

-- what stands behind the same elements
permutes_behind : {A : Type 0} (us xs ys vs : List A) → Permutes (us ++ xs) vs → Permutes (us ++ ys) vs → Permutes xs ys
permutes_behind us xs ys vs p q = record {
  weights = λ h. omega (arith, p.weights h, q.weights h, sum_by-append h us xs, sum_by-append h us ys);
}

pub used_law : UsedLaw
used_law = λ p starts left regions found rest dropped is same lighter handed.
    let none = none_unused p starts regions found rest dropped is left same lighter handed in
    let all = all_used p starts regions found rest dropped is none in
    (is.count ∙ ap length none, permutes_behind (starts_of regions) rest left (starts ++ givens_of regions) all.2 handed, all.1)

pub none_dropped_law : NoneDroppedLaw
none_dropped_law = λ p starts regions found rest dropped is none.
    all_used p starts regions found rest dropped is (none_dropped p starts regions found rest dropped is none)
