-- What is found.
use Rattle.std.proofs.Common.{◌≡◌, ℕ, ◌+◌, ◌-◌, ◌^◌, ◌<◌, length, List, [], ◌++◌, All, reverse, sym, ap, subst, arith}
use Rattle.std.specs.Cmp.Lexicographic.{slice_cmp}
use Rattle.std.specs.List.{sum_by}
use Rattle.std.specs.List.Sorted.{IsPermutation}
use Rattle.std.specs.Ordering.{nat_cmp}
use Rattle.std.proofs.lemmas.List.{get_or-reverse, length-reverse}
use Rattle.std.proofs.lemmas.List.Sums.{sum_by-append}
use Rattle.std.proofs.lemmas.List.Elements.{All-nil}
use Rattle.trio_lists.specs.Multisets.{Permutes}
use Rattle.trio_lists.proofs.Permuted.{permutes_back, permutes_flat, permutes_from, permutes_itself, permutes_append, permutes_reverse}
use Rattle.trio_lists.proofs.Unique.{unique, sorted_strictly, lexical}
use Rattle.branch_state.specs.declared.branch.Branch.{Branch}
use Rattle.branch_state.specs.Posed.{Posed}
use Rattle.branch_state.specs.Models.{models}
use Rattle.branch_state.specs.Branches.{reps, reps_all, root_branch}
use Rattle.branch_state.specs.Weight.{weight, bulk}
use Rattle.branch_state.specs.Laws.{RootLaw}
use Rattle.branch_state.proofs.Modeled.{models_sorted}
use Rattle.emit_ledger.specs.Assembly.{Covers}
use Rattle.trio_workers.specs.Runs.{WholeLaw}

-- Branches in the opposite order fit, represent the same, and take as many steps.

pub turned_fit : {A : Type 0} (P : A → Type 0) (xs : List A) → All P xs → All P (reverse xs)
turned_fit P xs all = λ k d inside.
    let within : k < length xs = omega (arith, inside, length-reverse xs) in
    subst P (sym (get_or-reverse xs k d within)) (all (length xs - 1 - k) d (omega (arith, within)))

pub turned_law : (p : Posed) (kept : List (List ℕ)) (starts : List Branch) → Permutes (kept ++ reps_all p (reverse starts)) (kept ++ reps_all p starts)
turned_law p kept starts =
    permutes_append (permutes_itself kept) (permutes_flat (reps p) (reverse starts) starts (permutes_back (permutes_reverse starts)))

pub turned_bulk : (p : Posed) (starts : List Branch) → bulk p starts ≡ bulk p (reverse starts)
turned_bulk p starts = (permutes_reverse starts).weights (λ b. 2 ^ (weight p b + 1) - 1)

-- where nothing is given any more, the whole is found
pub all_found : (p : Posed) (whole found : List (List ℕ)) (given : List Branch) → given ≡ [] → Permutes (found ++ reps_all p given) whole → Permutes found whole
all_found p whole found given none so =
    record { weights = λ h. omega (arith, so.weights h, ap (λ bs. sum_by h (found ++ reps_all p bs)) none, sum_by-append h found []) }

-- tables in another order, with nothing left, cover the whole
pub covers_all : (p : Posed) (whole found sorted : List (List ℕ)) → Permutes found whole → IsPermutation found sorted → Covers p whole sorted []
covers_all p whole found sorted so moved = record {
  law = record { weights = λ h. omega (arith, so.weights h, (permutes_from found sorted moved).weights h, sum_by-append h sorted []) };
  rest_fit = All-nil _;
}

pub whole_law : RootLaw → WholeLaw
whole_law root_law p posed found covers sorted =
    let all : Permutes found (models p) = record {
      weights = λ h. omega (
        arith,
        covers.law.weights h,
        sum_by-append h found [],
        sum_by-append h (reps p (root_branch p)) [],
        ap (sum_by h) (root_law p posed).1,
      );
    } in
    unique (slice_cmp nat_cmp) lexical found (models p) sorted (sorted_strictly (slice_cmp nat_cmp) lexical (models p) (models_sorted p)) all
