-- What a step makes of what is found and given.
use Rattle.std.proofs.Common.{◌≡◌, ℕ, ◌+◌, ◌-◌, ◌^◌, ◌<◌, ◌≤◌, List, [], ◌∷◌, ◌++◌, All, sym, ap, ◌∙◌, subst, pow_mono, arith}
use Rattle.std.specs.List.{sum_by}
use Rattle.std.proofs.lemmas.Nat.{pow_pos, pow-add}
use Rattle.std.proofs.lemmas.List.Sums.{sum_by-append, sum_by_push}
use Rattle.std.proofs.lemmas.List.Elements.{All-push}
use Rattle.emit_ledger.proofs.Grouped.{sum_by-flat_map_push}
use Rattle.branch_state.specs.declared.branch.Branch.{Branch}
use Rattle.branch_state.specs.Posed.{Posed}
use Rattle.branch_state.specs.Branches.{reps, reps_all, Fits}
use Rattle.branch_state.specs.Weight.{weight, bulk}
use Rattle.decompose.specs.Law.{AreHalves}
use Rattle.trio_workers.specs.Runs.{IsAdvanced}

two_lighter : (l r b : ℕ) → l < b → r < b → (2 ^ (r + 1) - 1) + (2 ^ (l + 1) - 1) < 2 ^ (b + 1) - 1
two_lighter l r b left right =
    let low : 2 ^ (l + 1) ≤ 2 ^ b = pow_mono (omega arith) in
    let high : 2 ^ (r + 1) ≤ 2 ^ b = pow_mono (omega arith) in
    omega (arith, low, high, pow-add 2 b 1, pow_pos (l + 1), pow_pos (r + 1), pow_pos b)

-- the steps of one more branch
bulk_push : (p : Posed) (bs : List Branch) (b : Branch) → bulk p (bs ++ b ∷ []) ≡ bulk p bs + (2 ^ (weight p b + 1) - 1)
bulk_push p bs b = sum_by_push (λ c. 2 ^ (weight p c + 1) - 1) bs b

-- a branch takes a step at least
pub bulk_more : (p : Posed) (bs : List Branch) (b : Branch) → bulk p bs + 1 ≤ bulk p (bs ++ b ∷ [])
bulk_more p bs b = omega (arith, bulk_push p bs b, pow_pos (weight p b), pow-add 2 (weight p b) 1)

-- a branch that represents these tables and no others: they are found
pub advanced_alone : (p : Posed) (b : Branch) (found tables more : List (List ℕ)) (given : List Branch) → reps p b ≡ tables → more ≡ found ++ tables →
    IsAdvanced p b found given more given
advanced_alone p b found tables more given is made = record {
  fit = λ fit. fit;
  law = record {
    weights = λ h. omega (
      arith,
      ap (sum_by h) is,
      ap (sum_by h) made,
      sum_by-append h found tables,
      sum_by-append h more (reps_all p given),
      sum_by-append h found (reps_all p (given ++ b ∷ [])),
      sum_by-flat_map_push h (reps p) given b,
    );
  };
  fewer = omega (arith, bulk_more p given b);
}

-- one that is parted: its halves are given
pub advanced_parted : (p : Posed) (b left right : Branch) (found : List (List ℕ)) (given first next : List Branch) → AreHalves p b left right →
    first ≡ given ++ right ∷ [] → next ≡ first ++ left ∷ [] → IsAdvanced p b found given found next
advanced_parted p b left right found given first next halves one two =
    let same : next ≡ (given ++ right ∷ []) ++ left ∷ [] = two ∙ ap (λ bs. bs ++ left ∷ []) one in
    record {
      fit = λ fit. subst (All (Fits p)) (sym same) (All-push (Fits p) (given ++ right ∷ []) left (All-push (Fits p) given right fit halves.right_fits) halves.left_fits);
      law = record {
        weights = λ h. omega (
          arith,
          halves.both.weights h,
          ap (λ bs. sum_by h (reps_all p bs)) same,
          sum_by-append h (reps p left) (reps p right),
          sum_by-append h found (reps_all p next),
          sum_by-append h found (reps_all p (given ++ b ∷ [])),
          sum_by-flat_map_push h (reps p) (given ++ right ∷ []) left,
          sum_by-flat_map_push h (reps p) given right,
          sum_by-flat_map_push h (reps p) given b,
        );
      };
      fewer = omega (
        arith,
        two_lighter (weight p left) (weight p right) (weight p b) halves.left_lighter halves.right_lighter,
        ap (bulk p) same,
        bulk_push p (given ++ right ∷ []) left,
        bulk_push p given right,
        bulk_push p given b,
      );
    }
