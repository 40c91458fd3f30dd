-- What the loops of the functions on truth keep.
use Rattle.std.proofs.Common.{◌≡◌, ℕ, ◌-◌, ◌<◌, ◌≤◌, true, false, [], ◌∷◌, ◌++◌, length, take}
use Rattle.std.specs.List.{list_all, list_any, range_with_len}
use Rattle.trio_types.specs.World.{values_in}
use Rattle.trio_types.specs.Truth.{truth, is_iff}
use Rattle.trio_types.specs.Verdict.{world_of}
use Rattle.history_check.proofs.truth.+truth.Given as goal

-- every part so far is true
abbrev pub invariant-all_hold-loop-part : goal.invariant-all_hold-loop-part
invariant-all_hold-loop-part l = list_all (λ f. truth (world_of l.under.spec.now) f l.under.values.now l.under.table.now l.instant) (take l.part-index l.parts) ≡ true

-- no part so far is true
abbrev pub invariant-any_holds-loop-part : goal.invariant-any_holds-loop-part
invariant-any_holds-loop-part l = list_any (λ f. truth (world_of l.under.spec.now) f l.under.values.now l.under.table.now l.instant) (take l.part-index l.parts) ≡ false

-- the variables' values stand in front, and the formula is as wanted for no value so far
abbrev pub invariant-for_some-loop-index : goal.invariant-for_some-loop-index
invariant-for_some-loop-index l = record {
  enough : length l.inner ≡ 100;
  front : take l.level l.inner ≡ l.under.values.now;
  none : list_any (λ z. is_iff l.wanted (truth (world_of l.under.spec.now) l.part (l.under.values.now ++ z ∷ []) l.under.table.now l.instant)) (take l.index (values_in l.under.spec.now.domains l.domain)) ≡ false;
}

-- the formula is as wanted at no instant so far
abbrev pub invariant-somewhere-loop-instant : goal.invariant-somewhere-loop-instant
invariant-somewhere-loop-instant l = record {
  none : list_any (λ j. is_iff l.wanted (truth (world_of l.under.spec.now) l.part l.under.values.now l.under.table.now j)) (range_with_len l.fn.window.from (l.instant - l.fn.window.from)) ≡ false;
  within : l.instant - l.fn.window.from ≤ l.fn.window.to - l.fn.window.from;
}

-- the formula is true at no instant so far
abbrev pub invariant-first_true-loop-instant : goal.invariant-first_true-loop-instant
invariant-first_true-loop-instant l = (k : ℕ) → l.fn.window.from ≤ k → k < l.instant → truth (world_of l.under.spec.now) l.part l.under.values.now l.under.table.now k ≡ false

abbrev pub invariant-last_true-loop-instant : goal.invariant-last_true-loop-instant
invariant-last_true-loop-instant l = (k : ℕ) → l.instant ≤ k → k < l.before → truth (world_of l.under.spec.now) l.part l.under.values.now l.under.table.now k ≡ false
