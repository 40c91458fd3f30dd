-- What a formula becomes has its truth.
use Rattle.std.proofs.Common.{◌≡◌, ℕ, ◌<◌, ℤ, pos, neg_ℤ, Bool, true, false, not, ◌&&◌, ◌||◌, nat_lt, List, [], ◌∷◌, ◌++◌, map, Option, None, Some, filter, length, refl, sym, ap, ◌∙◌}
use Rattle.std.specs.List.{list_any, list_all}
use Rattle.std.specs.Option.{option_map}
use Rattle.trio_base.specs.declared.operators.Rel.{Rel}
use Rattle.trio_base.specs.declared.operators.Rel.TheVariants as rel
use Rattle.trio_base.specs.declared.operators.OneOp.{OneOp}
use Rattle.trio_base.specs.declared.operators.OneOp.TheVariants as one
use Rattle.trio_base.specs.declared.operators.Ends.TheVariants as ends
use Rattle.trio_base.specs.declared.operators.FarOp.{FarOp}
use Rattle.trio_base.specs.declared.operators.FarOp.TheVariants as far
use Rattle.trio_base.specs.declared.operators.PairOp.{PairOp}
use Rattle.trio_base.specs.declared.operators.PairOp.TheVariants as pair
use Rattle.trio_types.specs.declared.formula.Term.{Term}
use Rattle.trio_types.specs.declared.formula.Term.TheVariants as term
use Rattle.trio_types.specs.declared.formula.Formula.{Formula}
use Rattle.trio_types.specs.declared.formula.Formula.TheVariants as formula
use Rattle.trio_types.specs.World.{World, instants_of, values_in}
use Rattle.trio_types.specs.Values.{value}
use Rattle.trio_types.specs.Truth.{Truth, truth, is_value, relates, is_iff, ahead, is_not_negative, at_distance, one_truth, far_truth, pair_truth}
use Rattle.trio_types.proofs.Lists.{all_is_not_any}
use Rattle.trio_types.proofs.Operators.{all_pass}
use Rattle.trio_types.proofs.TruthAt.{truth-Lone, truth-Compare, truth-Not, truth-And, truth-Or, truth-Implies, truth-Iff, truth-All, truth-Ex, truth-One, truth-Far, truth-Pair}
use Rattle.trio_types.proofs.ValueAt.{value-Value}
use Rattle.trio_types.proofs.Inductions.{Each, every_formula}
use Rattle.trio_core.specs.Core.{not_truth}
use Rattle.derived_ops.specs.declared.joint.Way.TheVariants as way
use Rattle.derived_ops.specs.Rewriting.{Levels, Written, renamed, opposite, range_of_domain, for_some, last, somewhere, at_far, next, until, one_written, far_written, way_of, written}
use Rattle.derived_ops.proofs.Told.{shape_truth}
use Rattle.derived_ops.proofs.Renaming.{pick, Below, renamed_value}
use Rattle.derived_ops.proofs.Joins.{all_hold, some_holds}
use Rattle.derived_ops.proofs.WrittenAt.{written-Lone, written-Compare, written-Not, written-And, written-Or, written-Implies, written-Iff, written-All, written-Ex, written-One, written-Far, written-Pair}
use Rattle.derived_ops.proofs.Operators.{KeepsTruth, in_words, keeps_opposite, keeps_for_some, keeps_dist, keeps_at_far, keeps_somewhere, reaches_all, reaches_after, reaches_before, keeps_within, keeps_throughout, keeps_next, keeps_until}

module _ (w : World) where
  abbrev Kept : Formula → Type 0
  Kept f = KeepsTruth w (written w f) (truth w f)

  one_value : (v : Option ℤ) → relates rel.Eq v (Some (pos 1)) ≡ is_value (pos 1) v
  one_value None = refl
  one_value (Some z) = refl

  kept_lone : (x : Term) → Kept (formula.Lone x)
  kept_lone x = record {
    at = λ k ls e t i whole below inside.
        ap (λ s. shape_truth w s e t i) (written-Lone w k ls x)
        ∙ ap (λ v. relates rel.Eq v (value w (term.Value 0 1) e t i)) (renamed_value w ls e t i x)
        ∙ ap (relates rel.Eq (value w x (pick e ls) t i)) (value-Value w 0 1 e t i)
        ∙ one_value (value w x (pick e ls) t i) ∙ sym (truth-Lone w x (pick e ls) t i);
  }

  kept_compare : (r : Rel) (x y : Term) → Kept (formula.Compare r x y)
  kept_compare r x y = record {
    at = λ k ls e t i whole below inside.
        ap (λ s. shape_truth w s e t i) (written-Compare w k ls r x y)
        ∙ ap (λ v. relates r v (value w (renamed ls y) e t i)) (renamed_value w ls e t i x)
        ∙ ap (relates r (value w x (pick e ls) t i)) (renamed_value w ls e t i y)
        ∙ sym (truth-Compare w r x y (pick e ls) t i);
  }

  kept_not : (f : Formula) → Kept f → Kept (formula.Not f)
  kept_not f kept =
      in_words w (opposite (written w f)) (written w (formula.Not f)) (not_truth (truth w f)) (truth w (formula.Not f))
      (λ k ls. written-Not w k ls f) (λ e t i inside. sym (truth-Not w f e t i)) (keeps_opposite w (written w f) (truth w f) kept)

  -- each of many parts
  parts_and : (k : ℕ) (ls : Levels) (e : List ℤ) (t : List ℕ) (i : ℕ) → length e ≡ k → Below k ls → i < w.instants → (fs : List Formula) → Each Kept fs →
      list_all (λ s. shape_truth w s e t i) (map (λ f. written w f k ls) fs) ≡ list_all (λ f. truth w f (pick e ls) t i) fs
  parts_and k ls e t i whole below inside [] each = refl
  parts_and k ls e t i whole below inside (f ∷ fs) each = rw (each.0.at k ls e t i whole below inside, parts_and k ls e t i whole below inside fs each.1) refl

  parts_or : (k : ℕ) (ls : Levels) (e : List ℤ) (t : List ℕ) (i : ℕ) → length e ≡ k → Below k ls → i < w.instants → (fs : List Formula) → Each Kept fs →
      list_any (λ s. shape_truth w s e t i) (map (λ f. written w f k ls) fs) ≡ list_any (λ f. truth w f (pick e ls) t i) fs
  parts_or k ls e t i whole below inside [] each = refl
  parts_or k ls e t i whole below inside (f ∷ fs) each = rw (each.0.at k ls e t i whole below inside, parts_or k ls e t i whole below inside fs each.1) refl

  kept_and : (fs : List Formula) → Each Kept fs → Kept (formula.And fs)
  kept_and fs each = record {
    at = λ k ls e t i whole below inside.
        ap (λ s. shape_truth w s e t i) (written-And w k ls fs) ∙ all_hold w e t i (map (λ f. written w f k ls) fs)
        ∙ parts_and k ls e t i whole below inside fs each ∙ sym (truth-And w fs (pick e ls) t i);
  }

  kept_or : (fs : List Formula) → Each Kept fs → Kept (formula.Or fs)
  kept_or fs each = record {
    at = λ k ls e t i whole below inside.
        ap (λ s. shape_truth w s e t i) (written-Or w k ls fs) ∙ some_holds w e t i (map (λ f. written w f k ls) fs)
        ∙ parts_or k ls e t i whole below inside fs each ∙ sym (truth-Or w fs (pick e ls) t i);
  }

  kept_implies : (f g : Formula) → Kept f → Kept g → Kept (formula.Implies f g)
  kept_implies f g kept_f kept_g = record {
    at = λ k ls e t i whole below inside.
        ap (λ s. shape_truth w s e t i) (written-Implies w k ls f g)
        ∙ ap (λ b. not b || shape_truth w (written w g k ls) e t i) (kept_f.at k ls e t i whole below inside)
        ∙ ap (λ b. not (truth w f (pick e ls) t i) || b) (kept_g.at k ls e t i whole below inside)
        ∙ sym (truth-Implies w f g (pick e ls) t i);
  }

  both_or_neither : (a b : Bool) → ((a && b) || (not a && not b)) ≡ is_iff a b
  both_or_neither true true = refl
  both_or_neither true false = refl
  both_or_neither false b = refl

  kept_iff : (f g : Formula) → Kept f → Kept g → Kept (formula.Iff f g)
  kept_iff f g kept_f kept_g = record {
    at = λ k ls e t i whole below inside.
        ap (λ s. shape_truth w s e t i) (written-Iff w k ls f g)
        ∙ ap (λ a. (a && shape_truth w (written w g k ls) e t i) || (not a && not (shape_truth w (written w g k ls) e t i))) (kept_f.at k ls e t i whole below inside)
        ∙ ap (λ b. (truth w f (pick e ls) t i && b) || (not (truth w f (pick e ls) t i) && not b)) (kept_g.at k ls e t i whole below inside)
        ∙ both_or_neither (truth w f (pick e ls) t i) (truth w g (pick e ls) t i)
        ∙ sym (truth-Iff w f g (pick e ls) t i);
  }

  kept_ex : (name : List ℕ) (d : ℕ) (f : Formula) → Kept f → Kept (formula.Ex name d f)
  kept_ex name d f kept =
      in_words w (for_some (range_of_domain w d) (written w f)) (written w (formula.Ex name d f))
      (λ e t i. list_any (λ z. truth w f (e ++ z ∷ []) t i) (values_in w.domains d)) (truth w (formula.Ex name d f))
      (λ k ls. written-Ex w k ls name d f) (λ e t i inside. sym (truth-Ex w name d f e t i)) (keeps_for_some w d (written w f) (truth w f) kept)

  kept_all : (name : List ℕ) (d : ℕ) (f : Formula) → Kept f → Kept (formula.All name d f)
  kept_all name d f kept =
      in_words w (opposite (for_some (range_of_domain w d) (opposite (written w f)))) (written w (formula.All name d f))
      (λ e t i. not (list_any (λ z. not (truth w f (e ++ z ∷ []) t i)) (values_in w.domains d))) (truth w (formula.All name d f))
      (λ k ls. written-All w k ls name d f)
      (λ e t i inside. sym (all_is_not_any (λ z. truth w f (e ++ z ∷ []) t i) (values_in w.domains d)) ∙ sym (truth-All w name d f e t i))
      (keeps_opposite w (for_some (range_of_domain w d) (opposite (written w f))) (λ e t i. list_any (λ z. not (truth w f (e ++ z ∷ []) t i)) (values_in w.domains d))
      (keeps_for_some w d (opposite (written w f)) (not_truth (truth w f)) (keeps_opposite w (written w f) (truth w f) kept)))

  -- operators on one formula
  for_each : (low high : ℤ) (g : ℕ → ℕ → Bool) (f : Written) (p : Truth) →
      KeepsTruth w (somewhere low high (opposite f)) (λ e t i. list_any (λ j. not (p e t j)) (filter (g i) (instants_of w))) →
      KeepsTruth w (opposite (somewhere low high (opposite f))) (λ e t i. list_all (p e t) (filter (g i) (instants_of w)))
  for_each low high g f p keeps =
      in_words w (opposite (somewhere low high (opposite f))) (opposite (somewhere low high (opposite f)))
      (λ e t i. not (list_any (λ j. not (p e t j)) (filter (g i) (instants_of w)))) (λ e t i. list_all (p e t) (filter (g i) (instants_of w)))
      (λ k ls. refl) (λ e t i inside. sym (all_is_not_any (p e t) (filter (g i) (instants_of w))))
      (keeps_opposite w (somewhere low high (opposite f)) (λ e t i. list_any (λ j. not (p e t j)) (filter (g i) (instants_of w))) keeps)

  keeps_one : (o : OneOp) (f : Written) (p : Truth) → KeepsTruth w f p → KeepsTruth w (one_written w o f) (λ e t i. one_truth w o (p e t) i)
  keeps_one one.Som f p keeps =
      in_words w (one_written w one.Som f) (one_written w one.Som f) (λ e t i. list_any (p e t) (filter (λ j. true) (instants_of w))) (λ e t i. list_any (p e t) (instants_of w))
      (λ k ls. refl) (λ e t i inside. ap (list_any (p e t)) (all_pass (instants_of w)))
      (keeps_somewhere w (neg_ℤ (last w)) (last w) (λ i j. true) f p (reaches_all w) keeps)
  keeps_one one.SomF f p keeps = keeps_somewhere w (pos 1) (last w) (λ i j. nat_lt i j) f p (reaches_after w) keeps
  keeps_one one.SomP f p keeps = keeps_somewhere w (neg_ℤ (last w)) (neg_ℤ (pos 1)) (λ i j. nat_lt j i) f p (reaches_before w) keeps
  keeps_one one.Alw f p keeps =
      in_words w (one_written w one.Alw f) (one_written w one.Alw f) (λ e t i. list_all (p e t) (filter (λ j. true) (instants_of w))) (λ e t i. list_all (p e t) (instants_of w))
      (λ k ls. refl) (λ e t i inside. ap (list_all (p e t)) (all_pass (instants_of w)))
      (for_each (neg_ℤ (last w)) (last w) (λ i j. true) f p
      (keeps_somewhere w (neg_ℤ (last w)) (last w) (λ i j. true) (opposite f) (not_truth p) (reaches_all w) (keeps_opposite w f p keeps)))
  keeps_one one.AlwF f p keeps =
      for_each (pos 1) (last w) (λ i j. nat_lt i j) f p
      (keeps_somewhere w (pos 1) (last w) (λ i j. nat_lt i j) (opposite f) (not_truth p) (reaches_after w) (keeps_opposite w f p keeps))
  keeps_one one.AlwP f p keeps =
      for_each (neg_ℤ (last w)) (neg_ℤ (pos 1)) (λ i j. nat_lt j i) f p
      (keeps_somewhere w (neg_ℤ (last w)) (neg_ℤ (pos 1)) (λ i j. nat_lt j i) (opposite f) (not_truth p) (reaches_before w) (keeps_opposite w f p keeps))

  kept_one : (o : OneOp) (f : Formula) → Kept f → Kept (formula.One o f)
  kept_one o f kept =
      in_words w (one_written w o (written w f)) (written w (formula.One o f)) (λ e t i. one_truth w o (truth w f e t) i) (truth w (formula.One o f))
      (λ k ls. written-One w k ls o f) (λ e t i inside. sym (truth-One w o f e t i)) (keeps_one o (written w f) (truth w f) kept)

  -- operators at a distance
  same_distance : (o : Option ℤ) → option_map (λ z. z) o ≡ o
  same_distance None = refl
  same_distance (Some z) = refl

  keeps_futr : (f : Written) (p : Truth) (x : Term) → KeepsTruth w f p → KeepsTruth w (at_far way.Ahead f x) (λ e t i. far_truth w far.Futr (p e t) i (value w x e t i))
  keeps_futr f p x keeps =
      in_words w (at_far way.Ahead f x) (at_far way.Ahead f x)
      (λ e t i. is_not_negative (value w x e t i) && list_any (p e t) (at_distance w i (option_map (λ z. z) (value w x e t i))))
      (λ e t i. is_not_negative (value w x e t i) && list_any (p e t) (at_distance w i (value w x e t i)))
      (λ k ls. refl) (λ e t i inside. ap (λ d. is_not_negative (value w x e t i) && list_any (p e t) (at_distance w i d)) (same_distance (value w x e t i)))
      (keeps_at_far w way.Ahead f p x keeps)

  keeps_next_time : (f : Written) (p : Truth) (x : Term) → KeepsTruth w f p → KeepsTruth w (next w way.Ahead f x) (λ e t i. far_truth w far.NextTime (p e t) i (value w x e t i))
  keeps_next_time f p x keeps =
      in_words w (next w way.Ahead f x) (next w way.Ahead f x)
      (λ e t i. (is_not_negative (value w x e t i) && list_any (p e t) (at_distance w i (option_map (λ z. z) (value w x e t i))))
      && list_all (λ j. not (p e t j)) (ahead w ends.Bare i (value w x e t i)))
      (λ e t i. far_truth w far.NextTime (p e t) i (value w x e t i))
      (λ k ls. refl)
      (λ e t i inside. ap (λ d. (is_not_negative (value w x e t i) && list_any (p e t) (at_distance w i d)) && list_all (λ j. not (p e t j)) (ahead w ends.Bare i (value w x e t i)))
      (same_distance (value w x e t i)))
      (keeps_next w way.Ahead f p x keeps)

  keeps_far : (o : FarOp) (f : Written) (p : Truth) (x : Term) → KeepsTruth w f p → KeepsTruth w (far_written w o f x) (λ e t i. far_truth w o (p e t) i (value w x e t i))
  keeps_far far.Dist f p x keeps = keeps_dist w f p x keeps
  keeps_far far.Futr f p x keeps = keeps_futr f p x keeps
  keeps_far far.Past f p x keeps = keeps_at_far w way.Back f p x keeps
  keeps_far far.NextTime f p x keeps = keeps_next_time f p x keeps
  keeps_far far.LastTime f p x keeps = keeps_next w way.Back f p x keeps
  keeps_far (far.Lasts s) f p x keeps = keeps_throughout w way.Ahead s f p x keeps
  keeps_far (far.Lasted s) f p x keeps = keeps_throughout w way.Back s f p x keeps
  keeps_far (far.WithinF s) f p x keeps = keeps_within w way.Ahead s f p x keeps
  keeps_far (far.WithinP s) f p x keeps = keeps_within w way.Back s f p x keeps

  kept_far : (o : FarOp) (f : Formula) (x : Term) → Kept f → Kept (formula.Far o f x)
  kept_far o f x kept =
      in_words w (far_written w o (written w f) x) (written w (formula.Far o f x)) (λ e t i. far_truth w o (truth w f e t) i (value w x e t i)) (truth w (formula.Far o f x))
      (λ k ls. written-Far w k ls o f x) (λ e t i inside. sym (truth-Far w o f x e t i)) (keeps_far o (written w f) (truth w f) x kept)

  -- operators on two formulas
  keeps_pair : (o : PairOp) (f g : Written) (p q : Truth) → KeepsTruth w f p → KeepsTruth w g q →
      KeepsTruth w (until w (way_of o) f g) (λ e t i. pair_truth w o (p e t) (q e t) i)
  keeps_pair pair.Until f g p q keeps_f keeps_g = keeps_until w way.Ahead f g p q keeps_f keeps_g
  keeps_pair pair.Since f g p q keeps_f keeps_g = keeps_until w way.Back f g p q keeps_f keeps_g

  kept_pair : (o : PairOp) (f g : Formula) → Kept f → Kept g → Kept (formula.Pair o f g)
  kept_pair o f g kept_f kept_g =
      in_words w (until w (way_of o) (written w f) (written w g)) (written w (formula.Pair o f g)) (λ e t i. pair_truth w o (truth w f e t) (truth w g e t) i) (truth w (formula.Pair o f g))
      (λ k ls. written-Pair w k ls o f g) (λ e t i inside. sym (truth-Pair w o f g e t i)) (keeps_pair o (written w f) (written w g) (truth w f) (truth w g) kept_f kept_g)

  pub kept : (f : Formula) → Kept f
  kept = every_formula Kept (record {
    at_lone = kept_lone;
    at_compare = kept_compare;
    at_not = kept_not;
    at_and = kept_and;
    at_or = kept_or;
    at_implies = kept_implies;
    at_iff = kept_iff;
    at_all = kept_all;
    at_ex = kept_ex;
    at_one = kept_one;
    at_far = kept_far;
    at_pair = kept_pair;
  })

  -- where no variable is round the formula
  pub written_keeps : (f : Formula) (t : List ℕ) (i : ℕ) → i < w.instants → shape_truth w (written w f 0 []) [] t i ≡ truth w f [] t i
  written_keeps f t i inside = (kept f).at 0 [] [] t i refl tt inside
