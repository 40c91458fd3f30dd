-- How large formulas are: a part is smaller than the whole, and a half of the parts than all.
use Rattle.std.proofs.Common.{◌≡◌, ℕ, ◌+◌, ◌<◌, ◌≤◌, List, [], ◌∷◌, ◌++◌, map, length, take, drop, refl, sym, ap, ◌∙◌, arith}
use Rattle.std.proofs.lemmas.List.{take-append-drop, length-take-le, length-drop}
use Rattle.trio_base.specs.declared.operators.Rel.{Rel}
use Rattle.trio_base.specs.declared.operators.OneOp.{OneOp}
use Rattle.trio_base.specs.declared.operators.FarOp.{FarOp}
use Rattle.trio_base.specs.declared.operators.PairOp.{PairOp}
use Rattle.trio_types.specs.declared.formula.Term.{Term}
use Rattle.trio_types.specs.declared.formula.Formula.{Formula}
use Rattle.trio_types.specs.declared.formula.Formula.TheVariants as formula
use Rattle.trio_types.specs.declared.formula.Formula.TheOpen.{Formula-F}
use Rattle.trio_types.specs.declared.formula.Formula.TheOpen as open_formula
use Rattle.trio_types.specs.declared.formula.Formula.TheFolds.{fold-Formula, fold-roll-Formula, map-Formula}
use Rattle.trio_types.specs.declared.formula.Formula.TheViews.{roll-Formula}
use Rattle.trio_types.proofs.Inductions.{every_formula}

abbrev total : List ℕ → ℕ
total [] = 0
total (n ∷ ns) = n + total ns

formula_weight : Formula-F ℕ → ℕ
formula_weight (open_formula.Lone x) = 1
formula_weight (open_formula.Compare r x y) = 1
formula_weight (open_formula.Not f) = f + 1
formula_weight (open_formula.And fs) = total fs + 1
formula_weight (open_formula.Or fs) = total fs + 1
formula_weight (open_formula.Implies f g) = f + g + 1
formula_weight (open_formula.Iff f g) = f + g + 1
formula_weight (open_formula.All name d f) = f + 1
formula_weight (open_formula.Ex name d f) = f + 1
formula_weight (open_formula.One o f) = f + 1
formula_weight (open_formula.Far o f x) = f + 1
formula_weight (open_formula.Pair o f g) = f + g + 1

pub weight : Formula → ℕ
weight = fold-Formula ℕ formula_weight

abbrev pub weights : List Formula → ℕ
weights fs = total (map weight fs)

weight_at : {f : Formula} (x : Formula-F Formula) → roll-Formula x ≡ f → weight f ≡ formula_weight (map-Formula Formula ℕ weight x)
unfolding weight
weight_at x is = ap weight (sym is) ∙ fold-roll-Formula ℕ formula_weight x

pub weight-Lone : (x : Term) → weight (formula.Lone x) ≡ 1
unfolding formula_weight
weight-Lone x = weight_at (open_formula.Lone x) (formula.rolls-Lone x)

pub weight-Compare : (r : Rel) (x y : Term) → weight (formula.Compare r x y) ≡ 1
unfolding formula_weight
weight-Compare r x y = weight_at (open_formula.Compare r x y) (formula.rolls-Compare r x y)

pub weight-Not : (f : Formula) → weight (formula.Not f) ≡ weight f + 1
unfolding formula_weight
weight-Not f = weight_at (open_formula.Not f) (formula.rolls-Not f)

pub weight-And : (fs : List Formula) → weight (formula.And fs) ≡ weights fs + 1
unfolding formula_weight
weight-And fs = weight_at (open_formula.And fs) (formula.rolls-And fs)

pub weight-Or : (fs : List Formula) → weight (formula.Or fs) ≡ weights fs + 1
unfolding formula_weight
weight-Or fs = weight_at (open_formula.Or fs) (formula.rolls-Or fs)

pub weight-Implies : (f g : Formula) → weight (formula.Implies f g) ≡ weight f + weight g + 1
unfolding formula_weight
weight-Implies f g = weight_at (open_formula.Implies f g) (formula.rolls-Implies f g)

pub weight-Iff : (f g : Formula) → weight (formula.Iff f g) ≡ weight f + weight g + 1
unfolding formula_weight
weight-Iff f g = weight_at (open_formula.Iff f g) (formula.rolls-Iff f g)

pub weight-All : (name : List ℕ) (d : ℕ) (f : Formula) → weight (formula.All name d f) ≡ weight f + 1
unfolding formula_weight
weight-All name d f = weight_at (open_formula.All name d f) (formula.rolls-All name d f)

pub weight-Ex : (name : List ℕ) (d : ℕ) (f : Formula) → weight (formula.Ex name d f) ≡ weight f + 1
unfolding formula_weight
weight-Ex name d f = weight_at (open_formula.Ex name d f) (formula.rolls-Ex name d f)

pub weight-One : (o : OneOp) (f : Formula) → weight (formula.One o f) ≡ weight f + 1
unfolding formula_weight
weight-One o f = weight_at (open_formula.One o f) (formula.rolls-One o f)

pub weight-Far : (o : FarOp) (f : Formula) (x : Term) → weight (formula.Far o f x) ≡ weight f + 1
unfolding formula_weight
weight-Far o f x = weight_at (open_formula.Far o f x) (formula.rolls-Far o f x)

pub weight-Pair : (o : PairOp) (f g : Formula) → weight (formula.Pair o f g) ≡ weight f + weight g + 1
unfolding formula_weight
weight-Pair o f g = weight_at (open_formula.Pair o f g) (formula.rolls-Pair o f g)

Positive : Formula → Type 0
Positive f = 0 < weight f

positive_from : (f : Formula) (n : ℕ) → weight f ≡ n + 1 → Positive f
unfolding Positive
positive_from f n is = omega (arith, is)

every_positive : (f : Formula) → Positive f
every_positive = every_formula Positive (record {
  at_lone = λ x. positive_from (formula.Lone x) 0 (weight-Lone x);
  at_compare = λ r x y. positive_from (formula.Compare r x y) 0 (weight-Compare r x y);
  at_not = λ f p. positive_from (formula.Not f) (weight f) (weight-Not f);
  at_and = λ fs p. positive_from (formula.And fs) (weights fs) (weight-And fs);
  at_or = λ fs p. positive_from (formula.Or fs) (weights fs) (weight-Or fs);
  at_implies = λ f g p q. positive_from (formula.Implies f g) (weight f + weight g) (weight-Implies f g);
  at_iff = λ f g p q. positive_from (formula.Iff f g) (weight f + weight g) (weight-Iff f g);
  at_all = λ name d f p. positive_from (formula.All name d f) (weight f) (weight-All name d f);
  at_ex = λ name d f p. positive_from (formula.Ex name d f) (weight f) (weight-Ex name d f);
  at_one = λ o f p. positive_from (formula.One o f) (weight f) (weight-One o f);
  at_far = λ o f x p. positive_from (formula.Far o f x) (weight f) (weight-Far o f x);
  at_pair = λ o f g p q. positive_from (formula.Pair o f g) (weight f + weight g) (weight-Pair o f g);
})

positive : (f : Formula) → 0 < weight f
unfolding Positive
positive f = every_positive f

-- of many parts
weights_more : (f : Formula) (fs : List Formula) → weights (f ∷ fs) ≡ weight f + weights fs
weights_more f fs = refl

weights-append : (fs gs : List Formula) → weights (fs ++ gs) ≡ weights fs + weights gs
weights-append [] gs = let e : weights gs ≡ 0 + weights gs = omega arith in e
weights-append (f ∷ fs) gs = omega (arith, weights-append fs gs, weights_more f (fs ++ gs), weights_more f fs)

some_weight : (fs : List Formula) → 0 < length fs → 0 < weights fs
some_weight [] some = absurd (omega arith)
some_weight (f ∷ fs) some = omega (arith, positive f, weights_more f fs)

pub front_weight : (fs gs : List Formula) (n : ℕ) → gs ≡ take n fs → n < length fs → weights gs < weights fs
front_weight fs gs n is inside =
    let whole = ap weights (sym (take-append-drop n fs)) ∙ weights-append (take n fs) (drop n fs) in
    let more = some_weight (drop n fs) (omega (arith, length-drop n fs)) in
    omega (arith, whole, more, ap weights is)

pub back_weight : (fs gs : List Formula) (n : ℕ) → gs ≡ drop n fs → 0 < n → n ≤ length fs → weights gs < weights fs
back_weight fs gs n is some inside =
    let whole = ap weights (sym (take-append-drop n fs)) ∙ weights-append (take n fs) (drop n fs) in
    let more = some_weight (take n fs) (omega (arith, length-take-le n fs inside)) in
    omega (arith, whole, more, ap weights is)
