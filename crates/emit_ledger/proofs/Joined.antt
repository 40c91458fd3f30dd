-- The law of a region, for each way to make one.
use Rattle.std.proofs.Common.{◌≡◌, ℕ, ◌-◌, List, [], ◌∷◌, ◌++◌, Some, length, slice_get, subst, ap, arith}
use Rattle.std.specs.List.{sum_by}
use Rattle.std.proofs.lemmas.List.Sums.{sum_by-append}
use Rattle.std.proofs.lemmas.List.Elements.{All-nil, All-cons, All-append, All-take}
use Rattle.emit_ledger.proofs.Grouped.{sum_by-flat_map_append, sum_by-flat_map_push, last_apart}
use Rattle.branch_state.specs.declared.branch.Branch.{Branch}
use Rattle.branch_state.specs.Posed.{Posed}
use Rattle.branch_state.specs.Branches.{reps, reps_all, Fits}
use Rattle.decompose.specs.Held.{IsFork}
use Rattle.emit_ledger.specs.Regions.{IsRegion, without_last}

-- the two halves of a branch are given
pub fork_is : (p : Posed) (start left right : Branch) → IsFork p start left right → IsRegion p start [] (right ∷ left ∷ [])
fork_is p start left right fork = record {
  start_fits = fork.fits;
  given_fit = All-cons (Fits p) right (left ∷ []) fork.halves.right_fits (All-cons (Fits p) left [] fork.halves.left_fits (All-nil (Fits p)));
  law = record {
    weights = λ h. omega (
      arith,
      fork.halves.both.weights h,
      sum_by-append h (reps p left) (reps p right),
      sum_by-append h (reps p right) (reps p left ++ []),
      sum_by-append h (reps p left) [],
    );
  };
}

-- a part is put in the place of the last given branch
pub absorbed_is : (p q : Posed) → q ≡ p → (start last : Branch) (found more : List (List ℕ)) (given next : List Branch) →
    slice_get given (length given - 1) ≡ Some last → IsRegion p start found given → IsRegion q last more next →
    IsRegion p start (found ++ more) (without_last given ++ next)
absorbed_is p q same start last found more given next at region part = joined (subst (λ u. IsRegion u last more next) same part)
  where
    joined : IsRegion p last more next → IsRegion p start (found ++ more) (without_last given ++ next)
    joined part =
        let before = without_last given in
        record {
          start_fits = region.start_fits;
          given_fit = All-append (Fits p) before next (All-take (Fits p) (length given - 1) given region.given_fit) part.given_fit;
          law = record {
            weights = λ h. omega (
              arith,
              region.law.weights h,
              part.law.weights h,
              sum_by-append h found (reps_all p given),
              sum_by-append h more (reps_all p next),
              ap (λ bs. sum_by h (reps_all p bs)) (last_apart given last at),
              sum_by-flat_map_push h (reps p) before last,
              sum_by-flat_map_append h (reps p) before next,
              sum_by-append h (found ++ more) (reps_all p (before ++ next)),
              sum_by-append h found more,
            );
          };
        }
