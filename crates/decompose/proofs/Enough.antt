-- Settling comes to its end within as many steps as the wants weigh, so further steps change nothing.
use Rattle.std.proofs.Common.{◌≡◌, ℕ, zero, suc, ◌+◌, ◌-◌, ◌≤◌, List, [], ◌∷◌, ◌++◌, All, refl, ap, ◌∙◌, arith}
use Rattle.std.proofs.lemmas.List.Elements.{All-head, All-tail, All-append}
use Rattle.std.proofs.lemmas.List.Sums.{sum_by-cons, sum_by-append}
use Rattle.trio_core.specs.Stands.{world_of_core}
use Rattle.branch_state.specs.declared.branch.Want.{Want}
use Rattle.branch_state.specs.Posed.{Posed}
use Rattle.branch_state.specs.Branches.{WantFits}
use Rattle.branch_state.specs.Weight.{want_weight}
use Rattle.branch_state.proofs.Counted.{count_some}
use Rattle.decompose.specs.Rule.{Fate, Refuted, Becomes, Parts, Cuts, Ruled, fate, unwanted, settle_by, settle, wants_weight, settled}
use Rattle.decompose.specs.Law.{EnoughLaw}
use Rattle.decompose.proofs.Atoms.{fate_law}
use Rattle.decompose.proofs.Rows.{FateLaw}

-- of a first want: it weighs something, and what takes its place weighs less
module _ (p : Posed) (sets : List ℕ) (want : Want) (wants : List Want) (fit : All (WantFits p) (want ∷ wants)) where
  some_weight : 1 + wants_weight p wants ≤ wants_weight p (want ∷ wants)
  some_weight = omega (arith, sum_by-cons (want_weight p) want wants, count_some p.core.nodes want.node want.from)

  -- where two ways to go on agree on what takes its place
  by_fate : (f g : List Want → Ruled) (x : Fate) → FateLaw p sets want x →
      ((new : List Want) → All (WantFits p) new → 1 + wants_weight p new ≤ wants_weight p (want ∷ wants) → f new ≡ g new) →
      settle_by f (world_of_core p.core) sets want wants x ≡ settle_by g (world_of_core p.core) sets want wants x
  by_fate f g Refuted law agree = refl
  by_fate f g (Becomes new) law agree =
      agree (new ++ wants) (All-append (WantFits p) new wants law.fit (All-tail (WantFits p) want wants fit))
      (omega (arith, law.lighter, sum_by-append (want_weight p) new wants, sum_by-cons (want_weight p) want wants))
  by_fate f g (Parts left right) law agree = refl
  by_fate f g (Cuts cell) law agree = refl

  pub next_same : (f g : List Want → Ruled) →
      ((new : List Want) → All (WantFits p) new → 1 + wants_weight p new ≤ wants_weight p (want ∷ wants) → f new ≡ g new) →
      settle_by f (world_of_core p.core) sets want wants (fate p sets want) ≡ settle_by g (world_of_core p.core) sets want wants (fate p sets want)
  next_same f g agree = by_fate f g (fate p sets want) (fate_law p sets want (All-head (WantFits p) want wants fit)) agree

pub settle_enough : (p : Posed) (sets : List ℕ) (f g : ℕ) (wants : List Want) → All (WantFits p) wants → wants_weight p wants ≤ f → wants_weight p wants ≤ g →
    settle p sets f wants ≡ settle p sets g wants
unfolding settle
settle_enough p sets zero zero [] fit below_f below_g = refl
settle_enough p sets zero (suc g) [] fit below_f below_g = refl
settle_enough p sets (suc f) zero [] fit below_f below_g = refl
settle_enough p sets (suc f) (suc g) [] fit below_f below_g = refl
settle_enough p sets zero g (want ∷ wants) fit below_f below_g = absurd (omega (arith, below_f, some_weight p sets want wants fit))
settle_enough p sets (suc f) zero (want ∷ wants) fit below_f below_g = absurd (omega (arith, below_g, some_weight p sets want wants fit))
settle_enough p sets (suc f) (suc g) (want ∷ wants) fit below_f below_g =
    next_same p sets want wants fit (settle p sets f) (settle p sets g)
    (λ new fits less. settle_enough p sets f g new fits (omega (arith, less, below_f)) (omega (arith, less, below_g)))

-- how settling goes on, step by step
pub settled_end : (p : Posed) (sets : List ℕ) → settled p sets [] ≡ unwanted (world_of_core p.core) sets
unfolding settle
settled_end p sets = refl

pub settled_next : (p : Posed) (sets : List ℕ) (want : Want) (wants : List Want) → All (WantFits p) (want ∷ wants) →
    settled p sets (want ∷ wants) ≡ settle_by (settled p sets) (world_of_core p.core) sets want wants (fate p sets want)
unfolding settle
settled_next p sets want wants fit =
    let steps = wants_weight p (want ∷ wants) - 1 in
    let one_more : wants_weight p (want ∷ wants) ≡ suc steps = omega (arith, some_weight p sets want wants fit) in
    ap (λ n. settle p sets n (want ∷ wants)) one_more
    ∙ next_same p sets want wants fit (settle p sets steps) (settled p sets)
    (λ new fits less. settle_enough p sets steps (wants_weight p new) new fits (omega (arith, less, one_more)) (omega arith))

pub enough_law : EnoughLaw
enough_law p b fits steps enough = settle_enough p b.doms steps (wants_weight p b.wants) b.wants fits.wants enough (omega arith)
