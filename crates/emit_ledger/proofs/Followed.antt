-- What stands while starts are followed through a pool of regions.
use Rattle.std.proofs.Common.{◌≡◌, ℕ, zero, suc, ◌+◌, ◌-◌, ◌<◌, ◌≤◌, List, [], ◌∷◌, ◌++◌, Option, None, Some, All, Contains, map, length, slice_get, slice_set, refl, sym, ap, ◌∙◌, subst, arith}
use Rattle.std.specs.List.{sum_by, AllZip}
use Rattle.std.specs.List.Sorted.{IsPermutation}
use Rattle.std.specs.Option.{is_none}
use Rattle.std.proofs.lemmas.List.{length-append}
use Rattle.std.proofs.Math.Logic.{⊎_elim}
use Rattle.std.proofs.lemmas.Option.{none-some, same_Some, get_or_from_slice_get, slice_get_within}
use Rattle.std.proofs.lemmas.List.Sums.{sum_by-cons, sum_by-append, sum_by_push, sum_by-set}
use Rattle.std.proofs.lemmas.List.Elements.{All-nil, All-cons, All-head, All-tail, All-append, All-push, All-pop, Contains-push_cases}
use Rattle.trio_lists.specs.Multisets.{Permutes}
use Rattle.trio_lists.proofs.Permuted.{sum_by-flat_map, permutes_from, permutes_back, permutes_on}
use Rattle.emit_ledger.proofs.Grouped.{sum_by-map, sum_by-flat_map_append, sum_by-flat_map_push}
use Rattle.branch_state.specs.declared.branch.Branch.{Branch}
use Rattle.branch_state.specs.Posed.{Posed}
use Rattle.branch_state.specs.Branches.{reps, reps_all, Fits}
use Rattle.emit_ledger.specs.Regions.{RegionView, IsRegion}
use Rattle.emit_ledger.specs.Assembly.{marked, unmarked, founds_of, givens_of, starts_of, Covers, IsAssembled}
use Rattle.emit_ledger.specs.Pool.{StartsAt}

-- a region is used, or it stands in its place and no branch that is left is its start
abbrev pub Slot : Posed → List Branch → RegionView → Option RegionView → Type 0
Slot p rest r None = r.problem ≡ p
Slot p rest r (Some s) = (s ≡ r) × (r.problem ≡ p → Contains rest r.start → ⊥)

abbrev pub used : List RegionView → List (Option RegionView) → List RegionView
used regions pool = marked (map is_none pool) regions

-- 1 where a region stands, and how many branches it gives
abbrev pub stands : Option RegionView → ℕ
stands None = 0
stands (Some r) = 1

abbrev pub gives : Option RegionView → ℕ
gives None = 0
gives (Some r) = length r.given

pub record Followed (p : Posed) (starts : List Branch) (regions : List RegionView) (pool : List (Option RegionView)) (todo : List Branch) (found : List (List ℕ))
    (rest : List Branch) (unused : ℕ) : Type 0 where
  pub slots : AllZip (Slot p rest) regions pool
  pub tables : Permutes found (founds_of (used regions pool))
  pub balance : Permutes (starts_of (used regions pool) ++ (todo ++ rest)) (starts ++ givens_of (used regions pool))
  pub count : unused ≡ sum_by stands pool
  pub todo_fit : All (Fits p) todo
  pub rest_fit : All (Fits p) rest
  pub cover : Permutes (found ++ (reps_all p todo ++ reps_all p rest)) (reps_all p starts)

All-before : {X : Type 0} (P : X → Type 0) (xs : List X) (x : X) → All P (xs ++ x ∷ []) → All P xs
All-before P xs x all = (All-pop P (xs ++ x ∷ []) xs (Some x) refl all).0

All-last : {X : Type 0} (P : X → Type 0) (xs : List X) (x : X) → All P (xs ++ x ∷ []) → P x
All-last P xs x all = (All-pop P (xs ++ x ∷ []) xs (Some x) refl all).1

-- at first each region stands in its place
slots_first : (p : Posed) (regions : List RegionView) → AllZip (Slot p []) regions (map Some regions)
slots_first p [] = tt
slots_first p (r ∷ rs) = ((refl, λ same has. absurd (omega (arith, has.1))), slots_first p rs)

used_first : (regions : List RegionView) → used regions (map Some regions) ≡ []
used_first [] = refl
used_first (r ∷ rs) = used_first rs

stand_first : (regions : List RegionView) → length regions ≡ sum_by stands (map Some regions)
stand_first [] = refl
stand_first (r ∷ rs) = omega (arith, sum_by-cons stands (Some r) (map Some rs), stand_first rs)

pub follow_first : (p : Posed) (starts : List Branch) (regions : List RegionView) → All (Fits p) starts →
    Followed p starts regions (map Some regions) starts [] [] (length regions)
follow_first p starts regions fit = record {
  slots = slots_first p regions;
  tables = record { weights = λ h. ap (λ rs. sum_by h (founds_of rs)) (sym (used_first regions)) };
  balance = record {
    weights = λ h. omega (
      arith,
      ap (λ rs. sum_by h (starts_of rs ++ (starts ++ []))) (used_first regions),
      ap (λ rs. sum_by h (starts ++ givens_of rs)) (used_first regions),
    );
  };
  count = stand_first regions;
  todo_fit = fit;
  rest_fit = All-nil (Fits p);
  cover = record { weights = λ h. omega (arith, sum_by-append h (reps_all p starts) []) };
}

-- what a region weighs is counted once it is used
used_more : (p : Posed) (rest : List Branch) (h : RegionView → ℕ) (regions : List RegionView) (pool : List (Option RegionView)) (place : ℕ) (r : RegionView) →
    AllZip (Slot p rest) regions pool → slice_get pool place ≡ Some (Some r) →
    sum_by h (used regions (slice_set pool place None)) ≡ sum_by h (used regions pool) + h r
used_more p rest h [] [] place r slots at = absurd (none-some (Some r) at)
used_more p rest h [] (s ∷ ss) place r slots at = absurd slots
used_more p rest h (x ∷ xs) [] place r slots at = absurd slots
used_more p rest h (x ∷ xs) (None ∷ ss) zero r slots at = absurd (none-some r (same_Some _ _ at))
used_more p rest h (x ∷ xs) (Some s ∷ ss) zero r slots at =
    let same : x ≡ r = sym slots.0.0 ∙ same_Some _ _ (same_Some _ _ at) in
    omega (arith, sum_by-cons h x (used xs ss), ap h same)
used_more p rest h (x ∷ xs) (None ∷ ss) (suc k) r slots at =
    omega (arith, sum_by-cons h x (used xs (slice_set ss k None)), sum_by-cons h x (used xs ss), used_more p rest h xs ss k r slots.1 at)
used_more p rest h (x ∷ xs) (Some s ∷ ss) (suc k) r slots at = used_more p rest h xs ss k r slots.1 at

slots_more : (p : Posed) (rest : List Branch) (regions : List RegionView) (pool : List (Option RegionView)) (place : ℕ) (r : RegionView) →
    AllZip (Slot p rest) regions pool → slice_get pool place ≡ Some (Some r) → r.problem ≡ p → AllZip (Slot p rest) regions (slice_set pool place None)
slots_more p rest [] [] place r slots at same = absurd (none-some (Some r) at)
slots_more p rest [] (s ∷ ss) place r slots at same = absurd slots
slots_more p rest (x ∷ xs) [] place r slots at same = absurd slots
slots_more p rest (x ∷ xs) (None ∷ ss) zero r slots at same = absurd (none-some r (same_Some _ _ at))
slots_more p rest (x ∷ xs) (Some s ∷ ss) zero r slots at same = (ap (λ v. v.problem) (sym slots.0.0 ∙ same_Some _ _ (same_Some _ _ at)) ∙ same, slots.1)
slots_more p rest (x ∷ xs) (None ∷ ss) (suc k) r slots at same = (slots.0, slots_more p rest xs ss k r slots.1 at same)
slots_more p rest (x ∷ xs) (Some s ∷ ss) (suc k) r slots at same = (slots.0, slots_more p rest xs ss k r slots.1 at same)

stand_less : (f : Option RegionView → ℕ) (pool : List (Option RegionView)) (place : ℕ) (r : RegionView) → slice_get pool place ≡ Some (Some r) → f None ≡ 0 →
    sum_by f (slice_set pool place None) + f (Some r) ≡ sum_by f pool
stand_less f pool place r at none =
    omega (arith, sum_by-set f pool place None None (slice_get_within pool place (Some r) at), ap f (get_or_from_slice_get pool place (Some r) None at), none)

-- a region that stands is counted
pub some_stand : (p : Posed) (starts : List Branch) (regions : List RegionView) (pool : List (Option RegionView)) (todo : List Branch) (found : List (List ℕ))
    (rest : List Branch) (unused place : ℕ) (r : RegionView) → Followed p starts regions pool todo found rest unused → slice_get pool place ≡ Some (Some r) → 1 ≤ unused
some_stand p starts regions pool todo found rest unused place r so at = omega (arith, so.count, stand_less stands pool place r at refl)

-- a region is used: its tables are found and its branches are followed
pub follow_used : (p : Posed) (starts : List Branch) (regions : List RegionView) (pool : List (Option RegionView)) (todo : List Branch) (found : List (List ℕ))
    (rest : List Branch) (unused : ℕ) (b : Branch) (place : ℕ) (r : RegionView) →
    Followed p starts regions pool (todo ++ b ∷ []) found rest unused →
    slice_get pool place ≡ Some (Some r) → r.start ≡ b → r.problem ≡ p → IsRegion r.problem r.start r.found r.given →
    Followed p starts regions (slice_set pool place None) (todo ++ r.given) (found ++ r.found) rest (unused - 1)
follow_used p starts regions pool todo found rest unused b place r so at start same region =
    let here : IsRegion p b r.found r.given = subst (λ u. IsRegion p u r.found r.given) start (subst (λ u. IsRegion u r.start r.found r.given) same region) in
    record {
      slots = slots_more p rest regions pool place r so.slots at same;
      tables = record {
        weights = λ h. omega (
          arith,
          so.tables.weights h,
          sum_by-append h found r.found,
          sum_by-flat_map h (λ x. x.found) (used regions pool),
          sum_by-flat_map h (λ x. x.found) (used regions (slice_set pool place None)),
          used_more p rest (λ x. sum_by h x.found) regions pool place r so.slots at,
        );
      };
      balance = record {
        weights = λ h. omega (
          arith,
          so.balance.weights h,
          ap h start,
          sum_by-append h (starts_of (used regions pool)) ((todo ++ b ∷ []) ++ rest),
          sum_by-append h (todo ++ b ∷ []) rest,
          sum_by_push h todo b,
          sum_by-append h starts (givens_of (used regions pool)),
          sum_by-append h (starts_of (used regions (slice_set pool place None))) ((todo ++ r.given) ++ rest),
          sum_by-append h (todo ++ r.given) rest,
          sum_by-append h todo r.given,
          sum_by-append h starts (givens_of (used regions (slice_set pool place None))),
          sum_by-map h (λ x. x.start) (used regions pool),
          sum_by-map h (λ x. x.start) (used regions (slice_set pool place None)),
          used_more p rest (λ x. h x.start) regions pool place r so.slots at,
          sum_by-flat_map h (λ x. x.given) (used regions pool),
          sum_by-flat_map h (λ x. x.given) (used regions (slice_set pool place None)),
          used_more p rest (λ x. sum_by h x.given) regions pool place r so.slots at,
        );
      };
      count = omega (arith, so.count, stand_less stands pool place r at refl);
      todo_fit = All-append (Fits p) todo r.given (All-before (Fits p) todo b so.todo_fit) here.given_fit;
      rest_fit = so.rest_fit;
      cover = record {
        weights = λ h. omega (
          arith,
          so.cover.weights h,
          here.law.weights h,
          sum_by-append h r.found (reps_all p r.given),
          sum_by-append h found (reps_all p (todo ++ b ∷ []) ++ reps_all p rest),
          sum_by-append h (reps_all p (todo ++ b ∷ [])) (reps_all p rest),
          sum_by-flat_map_push h (reps p) todo b,
          sum_by-append h (found ++ r.found) (reps_all p (todo ++ r.given) ++ reps_all p rest),
          sum_by-append h found r.found,
          sum_by-append h (reps_all p (todo ++ r.given)) (reps_all p rest),
          sum_by-flat_map_append h (reps p) todo r.given,
        );
      };
    }

slots_left : (p : Posed) (rest : List Branch) (b : Branch) (regions : List RegionView) (pool : List (Option RegionView)) → AllZip (Slot p rest) regions pool →
    All (λ slot. StartsAt p b slot → ⊥) pool → AllZip (Slot p (rest ++ b ∷ [])) regions pool
slots_left p rest b [] [] slots none = tt
slots_left p rest b [] (s ∷ ss) slots none = slots
slots_left p rest b (x ∷ xs) [] slots none = slots
slots_left p rest b (x ∷ xs) (None ∷ ss) slots none = (slots.0, slots_left p rest b xs ss slots.1 (All-tail (λ slot. StartsAt p b slot → ⊥) None ss none))
slots_left p rest b (x ∷ xs) (Some s ∷ ss) slots none = (
  (
    slots.0.0,
    λ same has.
        ⊎_elim (λ old. slots.0.1 same old)
        (λ new. All-head (λ slot. StartsAt p b slot → ⊥) (Some s) ss none (ap (λ v. v.start) slots.0.0 ∙ sym new, ap (λ v. v.problem) slots.0.0 ∙ same))
        (Contains-push_cases rest b x.start has),
  ),
  slots_left p rest b xs ss slots.1 (All-tail (λ slot. StartsAt p b slot → ⊥) (Some s) ss none),
)

-- a branch is left, for which no region stands
pub follow_left : (p : Posed) (starts : List Branch) (regions : List RegionView) (pool : List (Option RegionView)) (todo : List Branch) (found : List (List ℕ))
    (rest : List Branch) (unused : ℕ) (b : Branch) →
    Followed p starts regions pool (todo ++ b ∷ []) found rest unused → All (λ slot. StartsAt p b slot → ⊥) pool →
    Followed p starts regions pool todo found (rest ++ b ∷ []) unused
follow_left p starts regions pool todo found rest unused b so none = record {
  slots = slots_left p rest b regions pool so.slots none;
  tables = so.tables;
  balance = record {
    weights = λ h. omega (
      arith,
      so.balance.weights h,
      sum_by-append h (starts_of (used regions pool)) ((todo ++ b ∷ []) ++ rest),
      sum_by-append h (todo ++ b ∷ []) rest,
      sum_by_push h todo b,
      sum_by-append h (starts_of (used regions pool)) (todo ++ (rest ++ b ∷ [])),
      sum_by-append h todo (rest ++ b ∷ []),
      sum_by_push h rest b,
    );
  };
  count = so.count;
  todo_fit = All-before (Fits p) todo b so.todo_fit;
  rest_fit = All-push (Fits p) rest b so.rest_fit (All-last (Fits p) todo b so.todo_fit);
  cover = record {
    weights = λ h. omega (
      arith,
      so.cover.weights h,
      sum_by-append h found (reps_all p (todo ++ b ∷ []) ++ reps_all p rest),
      sum_by-append h (reps_all p (todo ++ b ∷ [])) (reps_all p rest),
      sum_by-flat_map_push h (reps p) todo b,
      sum_by-append h found (reps_all p todo ++ reps_all p (rest ++ b ∷ [])),
      sum_by-append h (reps_all p todo) (reps_all p (rest ++ b ∷ [])),
      sum_by-flat_map_push h (reps p) rest b,
    );
  };
}

same_used : (p : Posed) (rest : List Branch) (regions : List RegionView) (pool : List (Option RegionView)) → AllZip (Slot p rest) regions pool →
    All (λ r. r.problem ≡ p) (used regions pool)
same_used p rest [] [] slots = All-nil (λ r. r.problem ≡ p)
same_used p rest [] (s ∷ ss) slots = absurd slots
same_used p rest (r ∷ rs) [] slots = absurd slots
same_used p rest (r ∷ rs) (None ∷ ss) slots = All-cons (λ r. r.problem ≡ p) r (used rs ss) slots.0 (same_used p rest rs ss slots.1)
same_used p rest (r ∷ rs) (Some s ∷ ss) slots = same_used p rest rs ss slots.1

none_left : (p : Posed) (rest : List Branch) (regions : List RegionView) (pool : List (Option RegionView)) → AllZip (Slot p rest) regions pool →
    All (λ r. r.problem ≡ p → Contains rest r.start → ⊥) (unmarked (map is_none pool) regions)
none_left p rest [] [] slots = All-nil (λ r. r.problem ≡ p → Contains rest r.start → ⊥)
none_left p rest [] (s ∷ ss) slots = absurd slots
none_left p rest (r ∷ rs) [] slots = absurd slots
none_left p rest (r ∷ rs) (None ∷ ss) slots = none_left p rest rs ss slots.1
none_left p rest (r ∷ rs) (Some s ∷ ss) slots =
    All-cons (λ r. r.problem ≡ p → Contains rest r.start → ⊥) r (unmarked (map is_none ss) rs) slots.0.1 (none_left p rest rs ss slots.1)

count_left : (p : Posed) (rest : List Branch) (regions : List RegionView) (pool : List (Option RegionView)) → AllZip (Slot p rest) regions pool →
    sum_by stands pool ≡ length (unmarked (map is_none pool) regions)
count_left p rest [] [] slots = refl
count_left p rest [] (s ∷ ss) slots = absurd slots
count_left p rest (r ∷ rs) [] slots = absurd slots
count_left p rest (r ∷ rs) (None ∷ ss) slots = omega (arith, sum_by-cons stands None ss, count_left p rest rs ss slots.1)
count_left p rest (r ∷ rs) (Some s ∷ ss) slots = omega (arith, sum_by-cons stands (Some s) ss, count_left p rest rs ss slots.1)

marks_whole : (p : Posed) (rest : List Branch) (regions : List RegionView) (pool : List (Option RegionView)) → AllZip (Slot p rest) regions pool →
    length (map is_none pool) ≡ length regions
marks_whole p rest [] [] slots = refl
marks_whole p rest [] (s ∷ ss) slots = absurd slots
marks_whole p rest (r ∷ rs) [] slots = absurd slots
marks_whole p rest (r ∷ rs) (s ∷ ss) slots = ap suc (marks_whole p rest rs ss slots.1)

-- once nothing is to be followed
pub follow_assembled : (p : Posed) (starts : List Branch) (regions : List RegionView) (pool : List (Option RegionView)) (found : List (List ℕ)) (rest : List Branch) (unused : ℕ) →
    Followed p starts regions pool [] found rest unused → IsAssembled p starts regions found rest unused
follow_assembled p starts regions pool found rest unused so = record {
  marks = map is_none pool;
  whole = marks_whole p rest regions pool so.slots;
  same = same_used p rest regions pool so.slots;
  tables = so.tables;
  balance = so.balance;
  none = none_left p rest regions pool so.slots;
  count = so.count ∙ count_left p rest regions pool so.slots;
}

pub follow_covers : (p : Posed) (starts : List Branch) (regions : List RegionView) (pool : List (Option RegionView)) (found : List (List ℕ)) (rest : List Branch) (unused : ℕ) →
    Followed p starts regions pool [] found rest unused → Covers p (reps_all p starts) found rest
follow_covers p starts regions pool found rest unused so = record { law = so.cover; rest_fit = so.rest_fit }

-- how much there is to follow
abbrev pub follow_measure : List (Option RegionView) → List Branch → ℕ
follow_measure pool todo = sum_by gives pool + length todo

pub measure_used : (pool : List (Option RegionView)) (todo : List Branch) (b : Branch) (place : ℕ) (r : RegionView) → slice_get pool place ≡ Some (Some r) →
    follow_measure (slice_set pool place None) (todo ++ r.given) < follow_measure pool (todo ++ b ∷ [])
measure_used pool todo b place r at =
    omega (arith, stand_less gives pool place r at refl, length-append todo r.given, length-append todo (b ∷ []))

-- the order of the tables does not matter
pub covers_sorted : (p : Posed) (whole found sorted : List (List ℕ)) (rest : List Branch) → IsPermutation found sorted → Covers p whole found rest → Covers p whole sorted rest
covers_sorted p whole found sorted rest moved covers = record {
  law = record {
    weights = λ h. omega (
      arith,
      covers.law.weights h,
      (permutes_from found sorted moved).weights h,
      sum_by-append h found (reps_all p rest),
      sum_by-append h sorted (reps_all p rest),
    );
  };
  rest_fit = covers.rest_fit;
}

pub assembled_sorted : (p : Posed) (starts : List Branch) (regions : List RegionView) (found sorted : List (List ℕ)) (rest : List Branch) (dropped : ℕ) →
    IsPermutation found sorted → IsAssembled p starts regions found rest dropped → IsAssembled p starts regions sorted rest dropped
assembled_sorted p starts regions found sorted rest dropped moved is = record {
  marks = is.marks;
  whole = is.whole;
  same = is.same;
  tables = permutes_on (permutes_back (permutes_from found sorted moved)) is.tables;
  balance = is.balance;
  none = is.none;
  count = is.count;
}
