-- Settling the wants keeps the law, and takes no more steps than the wants weigh.
use Rattle.std.proofs.Common.{◌≡◌, ℕ, zero, suc, ◌+◌, ◌≤◌, Bool, true, false, ◌&&◌, ◌==◌, nat_lt, List, [], ◌∷◌, ◌++◌, length, All, Option, None, Some, slice_get, zip, find, refl, sym, ap, ◌∙◌, subst, arith}
use Rattle.std.specs.List.{sum_by}
use Rattle.std.proofs.lemmas.Bool.{and_from, eq-eqb, lt-ltb, false≢true}
use Rattle.std.proofs.lemmas.List.Elements.{All-head, All-tail, All-append}
use Rattle.std.proofs.lemmas.List.Folds.{list_all-append}
use Rattle.std.proofs.lemmas.List.Sums.{sum_by-cons, sum_by-append}
use Rattle.std.proofs.lemmas.Option.{slice_get_within}
use Rattle.trio_types.specs.World.{World}
use Rattle.trio_types.specs.Cells.{Cell, cells_of, cell_size}
use Rattle.trio_types.proofs.Lists.{each_of, all_from_each, found_in_range, none_in_range}
use Rattle.trio_core.specs.declared.nodes.Three.TheVariants as three
use Rattle.trio_core.specs.Sets.{members, is_set, LiesIn, AreSingle, Shrink}
use Rattle.trio_core.specs.Stands.{world_of_core, is_core_true_in, spec_truth3}
use Rattle.trio_core.specs.Three.{sure}
use Rattle.trio_core.proofs.Decided.{whole_truth_law, whole_single_law}
use Rattle.trio_core.proofs.Looks.{some_member}
use Rattle.trio_core.proofs.Standing.{same_world, stands_law}
use Rattle.trio_lists.proofs.Filters.{one_if}
use Rattle.branch_state.specs.declared.branch.Want.{Want}
use Rattle.branch_state.specs.declared.branch.Branch.{Branch}
use Rattle.branch_state.specs.Posed.{Posed, IsPosed, world_of_problem}
use Rattle.branch_state.specs.Models.{IsModel}
use Rattle.branch_state.specs.Branches.{branch, lies_in, want_holds, reps, root_sets, WantFits, Fits}
use Rattle.branch_state.specs.Weight.{want_weight, weight}
use Rattle.branch_state.proofs.Counted.{count_some}
use Rattle.branch_state.proofs.Represented.{reps_split, reps_same, reps_none, reps_one, lies_in_core}
use Rattle.decompose.specs.Reads.{members_of, members_at, is_undecided, first_undecided, all_cells}
use Rattle.decompose.specs.Rule.{Fate, Refuted, Becomes, Parts, Cuts, Ruled, Closed, Whole, Two, fate, least_table, cut_or_whole, unwanted, settle_by, settle, wants_weight}
use Rattle.decompose.specs.Law.{AreHalves, KeepsLaw}
use Rattle.decompose.proofs.Atoms.{fate_law}
use Rattle.decompose.proofs.Cutting.{both_left, parts_of_zip, cut_law}
use Rattle.decompose.proofs.OnlyTable.{Only, only_table}
use Rattle.decompose.proofs.Rows.{all_hold, Replaces, Halves, FateLaw}

-- a branch that represents the same and is no heavier keeps the law of the other
pub law_from : (p : Posed) (b c : Branch) (r : Ruled) → reps p b ≡ reps p c → weight p c ≤ weight p b → KeepsLaw p c r → KeepsLaw p b r
law_from p b c (Closed cause) same less law = same ∙ law
law_from p b c (Whole table) same less law = same ∙ law
law_from p b c (Two left right) same less law = record {
  both = record { weights = λ h. ap (sum_by h) same ∙ law.both.weights h };
  left_fits = law.left_fits;
  right_fits = law.right_fits;
  left_lighter = omega (arith, less, law.left_lighter);
  right_lighter = omega (arith, less, law.right_lighter);
}

-- Where no want is left.

-- each set has one member where no cell is undecided
sets_single : (w : World) (sets : List ℕ) → (roots : List ℕ) → Shrink w roots sets → find (is_undecided w sets) (all_cells w) ≡ None → AreSingle w sets
unfolding members_at
sets_single w sets roots shrink none = record {
  are_sets = shrink.are_sets;
  each = all_from_each (λ q. length (members (cell_size w q.0) q.1) == 1) (zip (cells_of w) sets) (λ k q at. one k q at);
}
  where
    count : (ms : List ℕ) → (ms ≡ [] → ⊥) → nat_lt 1 (length ms) ≡ false → length ms ≡ 1
    count [] some few = absurd (some refl)
    count (v ∷ []) some few = refl
    count (v ∷ u ∷ ms) some few = absurd (false≢true (sym few ∙ lt-ltb 1 (length (v ∷ u ∷ ms)) (omega arith)))

    one : (k : ℕ) (q : Cell × ℕ) → slice_get (zip (cells_of w) sets) k ≡ Some q → (length (members (cell_size w q.0) q.1) == 1) ≡ true
    one k q at =
        let inside = slice_get_within (cells_of w) k q.0 (parts_of_zip (cells_of w) sets k q at).0 in
        let few = none_in_range (is_undecided w sets) 0 (length (cells_of w)) none k (omega arith) (omega (arith, inside)) in
        let is = each_of (λ q. is_set (cell_size w q.0) q.1) (zip (cells_of w) sets) shrink.are_sets.each k q at in
        eq-eqb (length (members (cell_size w q.0) q.1)) 1
        (count (members (cell_size w q.0) q.1) (some_member (cell_size w q.0) q.1 is) (sym (ap (λ o. nat_lt 1 (length (members_of w o))) at) ∙ few))

whole_law : (p : Posed) → IsPosed p → (sets : List ℕ) → Fits p (branch sets []) → (spec_truth3 p.core sets ≡ three.False → ⊥) →
    find (is_undecided (world_of_problem p) sets) (all_cells (world_of_problem p)) ≡ None → reps p (branch sets []) ≡ least_table (world_of_problem p) sets ∷ []
unfolding root_sets
whole_law p posed sets fits open_ none =
    reps_one p (branch sets []) table model (and_from (lies_in sets table) true only.lies refl)
    (λ other is kept. only.alone other is.is_table.whole is.is_table.within (front (lies_in sets other) kept))
  where
    w : World
    w = world_of_problem p

    table : List ℕ
    table = least_table w sets

    single : AreSingle w sets
    single = sets_single w sets (root_sets p) fits.sets none

    only : Only w (cells_of w) p.given sets
    only = only_table w (cells_of w) p.given sets posed.fits.whole fits.sets.are_sets.whole single.each fits.sets.inside

    front : (b : Bool) → (b && true) ≡ true → b ≡ true
    front true is = refl
    front false is = is

    lies : LiesIn w sets table
    lies = record { is_table = record { whole = only.long; within = only.below }; as_many = fits.sets.are_sets.whole ∙ sym only.long; inside = only.lies }

    by_truth : (b : Bool) → spec_truth3 p.core sets ≡ sure b → is_core_true_in p.core table ≡ b → is_core_true_in p.core table ≡ true
    by_truth true is truth = truth
    by_truth false is truth = absurd (open_ is)

    core_true : is_core_true_in p.core table ≡ true
    core_true =
        let same = same_world p.core p.spec posed.stands in
        let decided = whole_single_law p.core sets (subst (λ w. AreSingle w sets) (sym same) single) in
        by_truth decided.0 decided.1 (whole_truth_law p.core sets table (subst (λ w. LiesIn w sets table) (sym same) lies) decided.0 decided.1)

    model : IsModel p table
    model = record {
      is_table = lies.is_table;
      extends_given = only.extended;
      is_true = sym (stands_law p.core p.spec posed.stands table) ∙ core_true;
    }

unwanted_law : (p : Posed) → IsPosed p → (sets : List ℕ) → Fits p (branch sets []) → (spec_truth3 p.core sets ≡ three.False → ⊥) → KeepsLaw p (branch sets []) (unwanted (world_of_core p.core) sets)
unwanted_law p posed sets fits open_ = at (first_undecided (world_of_core p.core) sets (all_cells (world_of_core p.core))) refl
  where
    same : world_of_core p.core ≡ world_of_problem p
    same = same_world p.core p.spec posed.stands

    at : (o : Option ℕ) → first_undecided (world_of_core p.core) sets (all_cells (world_of_core p.core)) ≡ o → KeepsLaw p (branch sets []) (cut_or_whole (world_of_core p.core) sets o)
    at None is =
        whole_law p posed sets fits open_ (sym (ap (λ w. find (is_undecided w sets) (all_cells w)) same) ∙ is)
        ∙ ap (λ w. least_table w sets ∷ []) (sym same)
    at (Some cell) is =
        let open_cell = found_in_range (is_undecided (world_of_core p.core) sets) 0 (length (cells_of (world_of_core p.core))) cell is in
        cut_law p posed sets [] fits cell open_cell.2

-- Where a want is left: what each model that lies in the sets says of it.

module _ (p : Posed) (posed : IsPosed p) (sets : List ℕ) (want : Want) (wants : List Want) (fits : Fits p (branch sets (want ∷ wants))) where
  inside : (table : List ℕ) → IsModel p table → lies_in sets table ≡ true → LiesIn (world_of_core p.core) sets table
  inside table model lies = lies_in_core p posed (branch sets (want ∷ wants)) fits table model lies

  refuted : ((table : List ℕ) → LiesIn (world_of_core p.core) sets table → want_holds p table want ≡ false) → reps p (branch sets (want ∷ wants)) ≡ []
  refuted fails = reps_none p (branch sets (want ∷ wants)) (λ table model. at table model (lies_in sets table) refl)
    where
      at : (table : List ℕ) → IsModel p table → (b : Bool) → lies_in sets table ≡ b → (b && (want_holds p table want && all_hold p table wants)) ≡ false
      at table model true lies = ap (λ r. r && all_hold p table wants) (fails table (inside table model lies))
      at table model false lies = refl

  replaced : (new : List Want) → Replaces p sets want new → reps p (branch sets (want ∷ wants)) ≡ reps p (branch sets (new ++ wants))
  replaced new law = reps_same p (branch sets (want ∷ wants)) (branch sets (new ++ wants)) (λ table model. at table model (lies_in sets table) refl)
    where
      at : (table : List ℕ) → IsModel p table → (b : Bool) → lies_in sets table ≡ b → (b && (want_holds p table want && all_hold p table wants)) ≡ (b && all_hold p table (new ++ wants))
      at table model true lies =
          ap (λ r. r && all_hold p table wants) (law.same table (inside table model lies)) ∙ sym (list_all-append (want_holds p table) new wants)
      at table model false lies = refl

  with_rest : (new : List Want) → All (WantFits p) new → Fits p (branch sets (new ++ wants))
  with_rest new fit = record { sets = fits.sets; wants = All-append (WantFits p) new wants fit (All-tail (WantFits p) want wants fits.wants) }

  rest_weighs : (new : List Want) → wants_weight p (new ++ wants) ≡ wants_weight p new + wants_weight p wants
  rest_weighs new = sum_by-append (want_weight p) new wants

  want_weighs : wants_weight p (want ∷ wants) ≡ want_weight p want + wants_weight p wants
  want_weighs = sum_by-cons (want_weight p) want wants

  parted : (left right : List Want) → Halves p sets want left right → AreHalves p (branch sets (want ∷ wants)) (branch sets (left ++ wants)) (branch sets (right ++ wants))
  parted left right law = record {
    both = reps_split p (branch sets (want ∷ wants)) (branch sets (left ++ wants)) (branch sets (right ++ wants)) (λ table model. at table model (lies_in sets table) refl);
    left_fits = with_rest left law.left_fit;
    right_fits = with_rest right law.right_fit;
    left_lighter = omega (arith, rest_weighs left, want_weighs, law.left_lighter);
    right_lighter = omega (arith, rest_weighs right, want_weighs, law.right_lighter);
  }
    where
      at : (table : List ℕ) → IsModel p table → (b : Bool) → lies_in sets table ≡ b →
          one_if (b && (want_holds p table want && all_hold p table wants)) ≡ one_if (b && all_hold p table (left ++ wants)) + one_if (b && all_hold p table (right ++ wants))
      at table model true lies =
          both_left (want_holds p table want) (all_hold p table left) (all_hold p table right) (all_hold p table wants) (law.adds table (inside table model lies))
          ∙ rw (list_all-append (want_holds p table) left wants, list_all-append (want_holds p table) right wants) refl
      at table model false lies = refl

  -- by the fate of the first want, where the law is kept behind those that take its place
  by_fate : (fuel : ℕ) → wants_weight p (want ∷ wants) ≤ suc fuel → (x : Fate) → FateLaw p sets want x →
      ((new : List Want) → Fits p (branch sets new) → wants_weight p new ≤ fuel → KeepsLaw p (branch sets new) (settle p sets fuel new)) →
      KeepsLaw p (branch sets (want ∷ wants)) (settle_by (settle p sets fuel) (world_of_core p.core) sets want wants x)
  by_fate fuel enough Refuted law behind = refuted law
  by_fate fuel enough (Becomes new) law behind =
      law_from p (branch sets (want ∷ wants)) (branch sets (new ++ wants)) (settle p sets fuel (new ++ wants)) (replaced new law)
      (omega (arith, rest_weighs new, want_weighs, law.lighter))
      (behind (new ++ wants) (with_rest new law.fit) (omega (arith, enough, rest_weighs new, want_weighs, law.lighter)))
  by_fate fuel enough (Parts left right) law behind = parted left right law
  by_fate fuel enough (Cuts None) law behind = absurd law
  by_fate fuel enough (Cuts (Some cell)) law behind = cut_law p posed sets (want ∷ wants) fits cell law

pub settle_law : (p : Posed) → IsPosed p → (sets : List ℕ) → (spec_truth3 p.core sets ≡ three.False → ⊥) → (fuel : ℕ) (wants : List Want) → Fits p (branch sets wants) → wants_weight p wants ≤ fuel →
    KeepsLaw p (branch sets wants) (settle p sets fuel wants)
unfolding settle
settle_law p posed sets open_ zero [] fits enough = unwanted_law p posed sets fits open_
settle_law p posed sets open_ (suc fuel) [] fits enough = unwanted_law p posed sets fits open_
settle_law p posed sets open_ zero (want ∷ wants) fits enough =
    absurd (omega (arith, enough, sum_by-cons (want_weight p) want wants, count_some p.core.nodes want.node want.from))
settle_law p posed sets open_ (suc fuel) (want ∷ wants) fits enough =
    by_fate p posed sets want wants fits fuel enough (fate p sets want) (fate_law p sets want (All-head (WantFits p) want wants fits.wants))
    (λ new fit less. settle_law p posed sets open_ fuel new fit less)
