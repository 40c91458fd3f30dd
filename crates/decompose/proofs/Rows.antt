-- The rows of the rule, each of one want: what the new wants say together is what the want says.
use Rattle.std.proofs.Common.{◌≡◌, ℕ, suc, ◌+◌, ◌-◌, ◌*◌, ◌<◌, ℤ, pos, ◌+ℤ◌, Bool, true, false, not, ◌&&◌, ◌||◌, List, [], ◌∷◌, length, All, None, Some, slice_get, refl, sym, ap, ◌∙◌, arith, suc-mul}
use Rattle.std.specs.List.{list_all}
use Rattle.std.proofs.Math.Path.{ap₂}
use Rattle.std.proofs.lemmas.Bool.{le-leb}
use Rattle.std.proofs.lemmas.List.Elements.{All-cons, All-nil}
use Rattle.std.proofs.lemmas.List.Sums.{sum_by-cons}
use Rattle.trio_core.specs.declared.nodes.Node.{Node}
use Rattle.trio_core.specs.declared.nodes.Node.TheVariants as node
use Rattle.trio_core.specs.Core.{numbers, core_truth_from}
use Rattle.trio_core.specs.CoreShape.{parts_of_node, ranges_inside, ranges_round}
use Rattle.trio_core.specs.Sets.{LiesIn}
use Rattle.trio_core.specs.Stands.{world_of_core, lie_in, from_fits}
use Rattle.trio_core.proofs.NodesFit.{PartAsked, part_asked, exists_body, exists_before}
use Rattle.trio_core.proofs.Evaluating.{OneOf, one_of_numbers}
use Rattle.trio_lists.proofs.Filters.{one_if}
use Rattle.branch_state.specs.declared.branch.Want.{Want}
use Rattle.branch_state.specs.Posed.{Posed}
use Rattle.branch_state.specs.Branches.{has_sign, want_holds, WantFits}
use Rattle.branch_state.specs.Weight.{core_count, want_weight}
use Rattle.branch_state.proofs.Counted.{count_some, count-Not, count-And, count-Or, count-Exists}
use Rattle.decompose.specs.Rule.{Fate, Refuted, Becomes, Parts, Cuts, part, body, later, and_row, or_row, exists_row, wants_weight}
use Rattle.decompose.specs.Reads.{is_undecided}
use Rattle.decompose.proofs.Truths.{truth_not, truth_and, truth_or, truth_exists_next}

-- every want holds
abbrev pub all_hold : Posed → List ℕ → List Want → Bool
all_hold p table wants = list_all (want_holds p table) wants

-- new wants are as good as one want, in every table that lies in the sets
pub record Replaces (p : Posed) (sets : List ℕ) (w : Want) (new : List Want) : Type 0 where
  pub same : (table : List ℕ) → LiesIn (world_of_core p.core) sets table → want_holds p table w ≡ all_hold p table new
  pub lighter : wants_weight p new < want_weight p w
  pub fit : All (WantFits p) new

-- where one want holds, one of two lists of wants does, and else none
pub record Halves (p : Posed) (sets : List ℕ) (w : Want) (left right : List Want) : Type 0 where
  pub adds : (table : List ℕ) → LiesIn (world_of_core p.core) sets table → one_if (want_holds p table w) ≡ one_if (all_hold p table left) + one_if (all_hold p table right)
  pub left_lighter : wants_weight p left < want_weight p w
  pub right_lighter : wants_weight p right < want_weight p w
  pub left_fit : All (WantFits p) left
  pub right_fit : All (WantFits p) right

-- what the fate of a want promises
abbrev pub FateLaw : Posed → List ℕ → Want → Fate → Type 0
FateLaw p sets w Refuted = (table : List ℕ) → LiesIn (world_of_core p.core) sets table → want_holds p table w ≡ false
FateLaw p sets w (Becomes new) = Replaces p sets w new
FateLaw p sets w (Parts left right) = Halves p sets w left right
FateLaw p sets w (Cuts None) = ⊥
FateLaw p sets w (Cuts (Some cell)) = is_undecided (world_of_core p.core) sets cell ≡ true

-- weights of one and of two wants
pub weight_one : (p : Posed) (w : Want) → wants_weight p (w ∷ []) ≡ want_weight p w
weight_one p w = omega (arith, sum_by-cons (want_weight p) w [])

weight_two : (p : Posed) (w v : Want) → wants_weight p (w ∷ v ∷ []) ≡ want_weight p w + want_weight p v
weight_two p w v = omega (arith, sum_by-cons (want_weight p) w (v ∷ []), sum_by-cons (want_weight p) v [])

-- a want is replaced by two that say it together, or parted in two that do not hold together
two_replace : (p : Posed) (sets : List ℕ) (w a b : Want) → ((table : List ℕ) → want_holds p table w ≡ (want_holds p table a && want_holds p table b)) →
    want_weight p a + want_weight p b < want_weight p w → WantFits p a → WantFits p b → Replaces p sets w (a ∷ b ∷ [])
two_replace p sets w a b same less fit_a fit_b = record {
  same = λ table lies. same table ∙ ap (λ r. want_holds p table a && r) (with_true (want_holds p table b));
  lighter = omega (arith, weight_two p a b, less);
  fit = All-cons (WantFits p) a (b ∷ []) fit_a (All-cons (WantFits p) b [] fit_b (All-nil (WantFits p)));
}
  where
    with_true : (b : Bool) → b ≡ (b && true)
    with_true true = refl
    with_true false = refl

two_part : (p : Posed) (sets : List ℕ) (w a b c : Want) → ((table : List ℕ) → one_if (want_holds p table w) ≡ one_if (want_holds p table a && true) + one_if (want_holds p table b && (want_holds p table c && true))) →
    want_weight p a < want_weight p w → want_weight p b + want_weight p c < want_weight p w → WantFits p a → WantFits p b → WantFits p c → Halves p sets w (a ∷ []) (b ∷ c ∷ [])
two_part p sets w a b c adds less_left less_right fit_a fit_b fit_c = record {
  adds = λ table lies. adds table;
  left_lighter = omega (arith, weight_one p a, less_left);
  right_lighter = omega (arith, weight_two p b c, less_right);
  left_fit = All-cons (WantFits p) a [] fit_a (All-nil (WantFits p));
  right_fit = All-cons (WantFits p) b (c ∷ []) fit_b (All-cons (WantFits p) c [] fit_c (All-nil (WantFits p)));
}

-- the truth of a want's node
abbrev pub truth_of : Posed → List ℕ → Want → Bool
truth_of p table w = core_truth_from (world_of_core p.core) p.core.nodes w.node w.from w.env table w.now

holds_is : (p : Posed) (table : List ℕ) (w : Want) → want_holds p table w ≡ has_sign w.sign (truth_of p table w)
unfolding want_holds
holds_is p table w = refl

pub holds_by : (p : Posed) (table : List ℕ) (w : Want) (s b : Bool) → w.sign ≡ s → truth_of p table w ≡ b → want_holds p table w ≡ has_sign s b
holds_by p table w s b sign is = holds_is p table w ∙ ap (λ r. has_sign r (truth_of p table w)) sign ∙ ap (has_sign s) is

-- of two truths
not_both : (a b : Bool) → one_if (not (a && b)) ≡ one_if (not a && true) + one_if (a && (not b && true))
not_both true true = refl
not_both true false = refl
not_both false b = refl

first_or_second : (a b : Bool) → one_if (a || b) ≡ one_if (a && true) + one_if (not a && (b && true))
first_or_second true b = refl
first_or_second false true = refl
first_or_second false false = refl

-- the part of a node may be wanted
part_fits : (p : Posed) (w : Want) (n : Node) (k a : ℕ) → WantFits p w → slice_get p.core.nodes w.node ≡ Some n → slice_get (parts_of_node n) k ≡ Some a →
    ranges_inside n (ranges_round p.core.nodes w.node) ≡ ranges_round p.core.nodes w.node → PartAsked p.core w.node a w.now w.env
part_fits p w n k a fits at is round =
    part_asked p.core w.node n at k a is w.now w.env fits.inside (ap (lie_in w.env) round ∙ fits.values_in)

pub not_law : (p : Posed) (sets : List ℕ) (w : Want) (a : ℕ) → WantFits p w → slice_get p.core.nodes w.node ≡ Some (node.Not a) → Replaces p sets w (part w a (not w.sign) ∷ [])
not_law p sets w a fits at =
    let asked = part_fits p w (node.Not a) 0 a fits at refl refl in
    record {
      same = λ table lies.
          holds_by p table w w.sign _ refl (truth_not (world_of_core p.core) p.core.nodes w.node w.from a w.env table w.now at asked.before)
          ∙ turned w.sign (truth_of p table (part w a true))
          ∙ ap (λ b. b && true) (sym (holds_is p table (part w a (not w.sign))));
      lighter = omega (arith, weight_one p (part w a (not w.sign)), count-Not p.core.nodes w.node w.from a at asked.before);
      fit = All-cons (WantFits p) (part w a (not w.sign)) [] asked.asked (All-nil (WantFits p));
    }
  where
    turned : (s b : Bool) → has_sign s (not b) ≡ (has_sign (not s) b && true)
    turned true true = refl
    turned true false = refl
    turned false true = refl
    turned false false = refl

pub and_law : (p : Posed) (sets : List ℕ) (w : Want) (a b : ℕ) → WantFits p w → slice_get p.core.nodes w.node ≡ Some (node.And a b) → (s : Bool) → w.sign ≡ s → FateLaw p sets w (and_row w a b s)
and_law p sets w a b fits at true sign =
    let first = part_fits p w (node.And a b) 0 a fits at refl refl in
    let second = part_fits p w (node.And a b) 1 b fits at refl refl in
    let weighs = count-And p.core.nodes w.node w.from a b at first.before second.before in
    two_replace p sets w (part w a true) (part w b true)
    (λ table.
    holds_by p table w true _ sign (truth_and (world_of_core p.core) p.core.nodes w.node w.from a b w.env table w.now at first.before second.before)
    ∙ ap₂ ◌&&◌ (sym (holds_is p table (part w a true))) (sym (holds_is p table (part w b true))))
    (omega (arith, weighs)) first.asked second.asked
and_law p sets w a b fits at false sign =
    let first = part_fits p w (node.And a b) 0 a fits at refl refl in
    let second = part_fits p w (node.And a b) 1 b fits at refl refl in
    let weighs = count-And p.core.nodes w.node w.from a b at first.before second.before in
    two_part p sets w (part w a false) (part w a true) (part w b false)
    (λ table.
    ap one_if (holds_by p table w false _ sign (truth_and (world_of_core p.core) p.core.nodes w.node w.from a b w.env table w.now at first.before second.before))
    ∙ not_both (truth_of p table (part w a true)) (truth_of p table (part w b true))
    ∙ rw (holds_is p table (part w a false), holds_is p table (part w a true), holds_is p table (part w b false)) refl)
    (omega (arith, weighs, count_some p.core.nodes b 0)) (omega (arith, weighs)) first.asked first.asked second.asked

-- A want of a disjunction: of the parts of an Or, or of the part of an Exists for one value and of that Exists for the others.

either_false : (p : Posed) (sets : List ℕ) (w a b : Want) → w.sign ≡ false →
    ((table : List ℕ) → truth_of p table w ≡ (not (want_holds p table a) || not (want_holds p table b))) →
    want_weight p a + want_weight p b < want_weight p w → WantFits p a → WantFits p b → Replaces p sets w (a ∷ b ∷ [])
either_false p sets w a b sign is less fit_a fit_b =
    two_replace p sets w a b (λ table. holds_by p table w false _ sign (is table) ∙ neither_not (want_holds p table a) (want_holds p table b)) less fit_a fit_b
  where
    neither_not : (a b : Bool) → not (not a || not b) ≡ (a && b)
    neither_not true true = refl
    neither_not true false = refl
    neither_not false b = refl

either_true : (p : Posed) (sets : List ℕ) (w a c b : Want) → w.sign ≡ true →
    ((table : List ℕ) → truth_of p table w ≡ (want_holds p table a || want_holds p table b)) → ((table : List ℕ) → want_holds p table c ≡ not (want_holds p table a)) →
    want_weight p c ≡ want_weight p a → want_weight p a + want_weight p b < want_weight p w → WantFits p a → WantFits p c → WantFits p b → Halves p sets w (a ∷ []) (c ∷ b ∷ [])
either_true p sets w a c b sign is other same less fit_a fit_c fit_b =
    two_part p sets w a c b
    (λ table.
    ap one_if (holds_by p table w true _ sign (is table)) ∙ first_or_second (want_holds p table a) (want_holds p table b)
    ∙ ap (λ r. one_if (want_holds p table a && true) + one_if (r && (want_holds p table b && true))) (sym (other table)))
    (omega (arith, less)) (omega (arith, less, same)) fit_a fit_c fit_b

-- a want that its node is false says that it is not true
not_not : (p : Posed) (table : List ℕ) (w : Want) → w.sign ≡ false → truth_of p table w ≡ not (want_holds p table w)
not_not p table w sign = twice (truth_of p table w) ∙ ap not (sym (holds_by p table w false _ sign refl))
  where
    twice : (b : Bool) → b ≡ not (not b)
    twice true = refl
    twice false = refl

just : (p : Posed) (table : List ℕ) (w : Want) → w.sign ≡ true → truth_of p table w ≡ want_holds p table w
just p table w sign = sym (holds_by p table w true _ sign refl)

pub or_law : (p : Posed) (sets : List ℕ) (w : Want) (a b : ℕ) → WantFits p w → slice_get p.core.nodes w.node ≡ Some (node.Or a b) → (s : Bool) → w.sign ≡ s → FateLaw p sets w (or_row w a b s)
or_law p sets w a b fits at s sign = by_sign s sign
  where
    first : PartAsked p.core w.node a w.now w.env
    first = part_fits p w (node.Or a b) 0 a fits at refl refl

    second : PartAsked p.core w.node b w.now w.env
    second = part_fits p w (node.Or a b) 1 b fits at refl refl

    weighs : core_count p.core.nodes w.node w.from ≡ core_count p.core.nodes a 0 + core_count p.core.nodes b 0 + 1
    weighs = count-Or p.core.nodes w.node w.from a b at first.before second.before

    is_or : (table : List ℕ) → truth_of p table w ≡ (truth_of p table (part w a true) || truth_of p table (part w b true))
    is_or table = truth_or (world_of_core p.core) p.core.nodes w.node w.from a b w.env table w.now at first.before second.before

    by_sign : (s : Bool) → w.sign ≡ s → FateLaw p sets w (or_row w a b s)
    by_sign false sign =
        either_false p sets w (part w a false) (part w b false) sign
        (λ table. is_or table ∙ ap₂ ◌||◌ (not_not p table (part w a false) refl) (not_not p table (part w b false) refl))
        (omega (arith, weighs)) first.asked second.asked
    by_sign true sign =
        either_true p sets w (part w a true) (part w a false) (part w b true) sign
        (λ table. is_or table ∙ ap₂ ◌||◌ (just p table (part w a true) refl) (just p table (part w b true) refl))
        (λ table. holds_is p table (part w a false) ∙ ap not (just p table (part w a true) refl))
        refl (omega (arith, weighs)) first.asked first.asked second.asked

-- an Exists over some values
count_next : (n from c : ℕ) → from < n → c + ((n - (from + 1)) * (c + 1) + 1) < (n - from) * (c + 1) + 1
count_next n from c less =
    let one : n - from ≡ suc (n - (from + 1)) = omega (arith, less) in
    omega (arith, ap (λ k. k * (c + 1)) one, suc-mul (n - (from + 1)) (c + 1))

pub exists_law : (p : Posed) (sets : List ℕ) (w : Want) (low high : ℤ) (a : ℕ) → WantFits p w → slice_get p.core.nodes w.node ≡ Some (node.Exists low high a) → w.from < length (numbers low high) →
    (s : Bool) → w.sign ≡ s → FateLaw p sets w (exists_row w low a s)
exists_law p sets w low high a fits at left s sign = by_sign s sign
  where
    before : a < w.node
    before = exists_before p.core w.node low high a at

    here : OneOf low high w.from
    here = one_of_numbers low high w.from left

    body_fits : (s : Bool) → WantFits p (body w low a s)
    body_fits s = (exists_body p.core w.node w.from w.now w.env low high a fits at).body (low +ℤ pos w.from) here.from here.to

    later_fits : WantFits p (later w)
    later_fits = record {
      inside = fits.inside;
      from_in = ap (from_fits (w.from + 1)) at ∙ le-leb (w.from + 1) (length (numbers low high)) (omega (arith, left));
      values_in = fits.values_in;
    }

    lighter : (s : Bool) → want_weight p (body w low a s) + want_weight p (later w) < want_weight p w
    lighter s =
        omega (
          arith,
          count_next (length (numbers low high)) w.from (core_count p.core.nodes a 0) left,
          count-Exists p.core.nodes w.node w.from a low high at before,
          count-Exists p.core.nodes w.node (w.from + 1) a low high at before,
        )

    is_either : (table : List ℕ) → truth_of p table w ≡ (truth_of p table (body w low a true) || truth_of p table (later w))
    is_either table = truth_exists_next (world_of_core p.core) p.core.nodes w.node w.from low high a (low +ℤ pos w.from) w.env table w.now at before here.at

    by_sign : (s : Bool) → w.sign ≡ s → FateLaw p sets w (exists_row w low a s)
    by_sign false sign =
        either_false p sets w (body w low a false) (later w) sign
        (λ table. is_either table ∙ ap₂ ◌||◌ (not_not p table (body w low a false) refl) (not_not p table (later w) sign))
        (lighter false) (body_fits false) later_fits
    by_sign true sign =
        either_true p sets w (body w low a true) (body w low a false) (later w) sign
        (λ table. is_either table ∙ ap₂ ◌||◌ (just p table (body w low a true) refl) (just p table (later w) sign))
        (λ table. holds_is p table (body w low a false) ∙ ap not (just p table (body w low a true) refl))
        refl (lighter true) (body_fits true) (body_fits false) later_fits
