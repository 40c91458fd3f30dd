-- What the instance count and Nest are at each variant.
use Rattle.std.proofs.Common.{◌≡◌, ℕ, ◌+◌, ◌-◌, ◌*◌, max, sum, List, map, length, ap, sym, ◌∙◌}
use Rattle.std.proofs.lemmas.List.{length-map}
use Rattle.trio_base.specs.declared.operators.Rel.{Rel}
use Rattle.trio_base.specs.declared.operators.OneOp.{OneOp}
use Rattle.trio_base.specs.declared.operators.FarOp.{FarOp}
use Rattle.trio_base.specs.declared.operators.PairOp.{PairOp}
use Rattle.trio_types.specs.declared.formula.SignedTerm.{SignedTerm, out-SignedTerm, fold-SignedTerm, fold_out-SignedTerm}
use Rattle.trio_types.specs.declared.formula.Term.{Term}
use Rattle.trio_types.specs.declared.formula.Term.TheVariants as term
use Rattle.trio_types.specs.declared.formula.Term.TheOpen.{Term-F}
use Rattle.trio_types.specs.declared.formula.Term.TheOpen as open_term
use Rattle.trio_types.specs.declared.formula.Term.TheFolds.{fold-roll-Term, map-Term}
use Rattle.trio_types.specs.declared.formula.Term.TheViews.{roll-Term}
use Rattle.trio_types.specs.declared.formula.Formula.{Formula}
use Rattle.trio_types.specs.declared.formula.Formula.TheVariants as formula
use Rattle.trio_types.specs.declared.formula.Formula.TheOpen.{Formula-F}
use Rattle.trio_types.specs.declared.formula.Formula.TheOpen as open_formula
use Rattle.trio_types.specs.declared.formula.Formula.TheFolds.{fold-roll-Formula, map-Formula}
use Rattle.trio_types.specs.declared.formula.Formula.TheViews.{roll-Formula}
use Rattle.trio_types.specs.World.{World, size_of}
use Rattle.trio_types.specs.Bounds.{greatest}
use Rattle.trio_types.specs.Instances.{instances, formula_instances, far_instances}
use Rattle.trio_types.specs.Nest.{TermNest, nest_of_term, term_nest, part_nest, FormulaNest, its_own_group, bracketed_group, nest_of, formula_nest}
use Rattle.trio_types.proofs.Lists.{map-map, map_same}

instances_at : (w : World) {f : Formula} (x : Formula-F Formula) → roll-Formula x ≡ f → instances w f ≡ formula_instances w (map-Formula Formula ℕ (instances w) x)
unfolding instances
instances_at w x is = ap (instances w) (sym is) ∙ fold-roll-Formula ℕ (formula_instances w) x

pub instances-Lone : (w : World) (x : Term) → instances w (formula.Lone x) ≡ 1
instances-Lone w x = instances_at w (open_formula.Lone x) (formula.rolls-Lone x)

pub instances-Compare : (w : World) (r : Rel) (x y : Term) → instances w (formula.Compare r x y) ≡ 1
instances-Compare w r x y = instances_at w (open_formula.Compare r x y) (formula.rolls-Compare r x y)

pub instances-Not : (w : World) (f : Formula) → instances w (formula.Not f) ≡ instances w f + 1
instances-Not w f = instances_at w (open_formula.Not f) (formula.rolls-Not f)

pub instances-And : (w : World) (fs : List Formula) → instances w (formula.And fs) ≡ sum (map (instances w) fs) + (length fs - 1)
instances-And w fs = instances_at w (open_formula.And fs) (formula.rolls-And fs) ∙ ap (λ n. sum (map (instances w) fs) + (n - 1)) (length-map fs (instances w))

pub instances-Or : (w : World) (fs : List Formula) → instances w (formula.Or fs) ≡ sum (map (instances w) fs) + (length fs - 1)
instances-Or w fs = instances_at w (open_formula.Or fs) (formula.rolls-Or fs) ∙ ap (λ n. sum (map (instances w) fs) + (n - 1)) (length-map fs (instances w))

pub instances-Implies : (w : World) (f g : Formula) → instances w (formula.Implies f g) ≡ instances w f + instances w g + 1
instances-Implies w f g = instances_at w (open_formula.Implies f g) (formula.rolls-Implies f g)

pub instances-Iff : (w : World) (f g : Formula) → instances w (formula.Iff f g) ≡ 2 * (instances w f + instances w g) + 5
instances-Iff w f g = instances_at w (open_formula.Iff f g) (formula.rolls-Iff f g)

pub instances-All : (w : World) (name : List ℕ) (d : ℕ) (f : Formula) → instances w (formula.All name d f) ≡ size_of w.domains d * instances w f + 1
instances-All w name d f = instances_at w (open_formula.All name d f) (formula.rolls-All name d f)

pub instances-Ex : (w : World) (name : List ℕ) (d : ℕ) (f : Formula) → instances w (formula.Ex name d f) ≡ size_of w.domains d * instances w f + 1
instances-Ex w name d f = instances_at w (open_formula.Ex name d f) (formula.rolls-Ex name d f)

pub instances-One : (w : World) (o : OneOp) (f : Formula) → instances w (formula.One o f) ≡ w.instants * instances w f + 1
instances-One w o f = instances_at w (open_formula.One o f) (formula.rolls-One o f)

pub instances-Far : (w : World) (o : FarOp) (f : Formula) (x : Term) → instances w (formula.Far o f x) ≡ far_instances w.instants o (instances w f)
instances-Far w o f x = instances_at w (open_formula.Far o f x) (formula.rolls-Far o f x)

pub instances-Pair : (w : World) (o : PairOp) (f g : Formula) → instances w (formula.Pair o f g) ≡ w.instants * (instances w g + w.instants * instances w f + 2) + 1
instances-Pair w o f g = instances_at w (open_formula.Pair o f g) (formula.rolls-Pair o f g)

abbrev signed_nest_of_term : SignedTerm → TermNest
signed_nest_of_term = fold-SignedTerm TermNest TermNest term_nest part_nest

nest_of_term_at : {f : Term} (x : Term-F Term SignedTerm) → roll-Term x ≡ f → nest_of_term f ≡ term_nest (map-Term Term SignedTerm TermNest TermNest nest_of_term signed_nest_of_term x)
unfolding nest_of_term
nest_of_term_at x is = ap nest_of_term (sym is) ∙ fold-roll-Term TermNest TermNest term_nest part_nest x

signed_nest_of_term_is : (p : SignedTerm) → signed_nest_of_term p ≡ nest_of_term (out-SignedTerm p).term
unfolding nest_of_term
signed_nest_of_term_is p = fold_out-SignedTerm TermNest TermNest term_nest part_nest p

pub nest_of_term-Number : (n : ℕ) → nest_of_term (term.Number n) ≡ record { plain = 0; as_part = 0; as_factor = 0 }
nest_of_term-Number n = nest_of_term_at (open_term.Number n) (term.rolls-Number n)

pub nest_of_term-Value : (d v : ℕ) → nest_of_term (term.Value d v) ≡ record { plain = 0; as_part = 0; as_factor = 0 }
nest_of_term-Value d v = nest_of_term_at (open_term.Value d v) (term.rolls-Value d v)

pub nest_of_term-Var : (level : ℕ) → nest_of_term (term.Var level) ≡ record { plain = 0; as_part = 0; as_factor = 0 }
nest_of_term-Var level = nest_of_term_at (open_term.Var level) (term.rolls-Var level)

pub nest_of_term-Read : (number : ℕ) (args : List Term) → nest_of_term (term.Read number args) ≡ term_nest (open_term.Read number (map nest_of_term args))
nest_of_term-Read number args = nest_of_term_at (open_term.Read number args) (term.rolls-Read number args)

pub nest_of_term-Sum : (parts : List SignedTerm) → nest_of_term (term.Sum parts) ≡ term_nest (open_term.Sum (map (λ p. nest_of_term (out-SignedTerm p).term) parts))
nest_of_term-Sum parts = nest_of_term_at (open_term.Sum parts) (term.rolls-Sum parts)
    ∙ ap (λ ps. term_nest (open_term.Sum ps)) (map_same signed_nest_of_term (λ p. nest_of_term (out-SignedTerm p).term) signed_nest_of_term_is parts)

pub nest_of_term-Times : (n : ℕ) (x : Term) → nest_of_term (term.Times n x) ≡ term_nest (open_term.Times n (nest_of_term x))
nest_of_term-Times n x = nest_of_term_at (open_term.Times n x) (term.rolls-Times n x)

nest_of_at : {f : Formula} (x : Formula-F Formula) → roll-Formula x ≡ f → nest_of f ≡ formula_nest (map-Formula Formula FormulaNest nest_of x)
unfolding nest_of
nest_of_at x is = ap nest_of (sym is) ∙ fold-roll-Formula FormulaNest formula_nest x

pub nest_of-Lone : (x : Term) → nest_of (formula.Lone x) ≡ its_own_group (nest_of_term x).plain
nest_of-Lone x = nest_of_at (open_formula.Lone x) (formula.rolls-Lone x)

pub nest_of-Compare : (r : Rel) (x y : Term) → nest_of (formula.Compare r x y) ≡ bracketed_group (max (nest_of_term x).plain (nest_of_term y).plain)
nest_of-Compare r x y = nest_of_at (open_formula.Compare r x y) (formula.rolls-Compare r x y)

pub nest_of-Not : (f : Formula) → nest_of (formula.Not f) ≡ bracketed_group (nest_of f).grouped
nest_of-Not f = nest_of_at (open_formula.Not f) (formula.rolls-Not f)

pub nest_of-And : (fs : List Formula) → nest_of (formula.And fs) ≡ bracketed_group (greatest (map (λ f. (nest_of f).grouped) fs))
nest_of-And fs = nest_of_at (open_formula.And fs) (formula.rolls-And fs) ∙ ap (λ ns. bracketed_group (greatest ns)) (map-map (λ (f : FormulaNest). f.grouped) nest_of fs)

pub nest_of-Or : (fs : List Formula) → nest_of (formula.Or fs) ≡ bracketed_group (greatest (map (λ f. (nest_of f).grouped) fs))
nest_of-Or fs = nest_of_at (open_formula.Or fs) (formula.rolls-Or fs) ∙ ap (λ ns. bracketed_group (greatest ns)) (map-map (λ (f : FormulaNest). f.grouped) nest_of fs)

pub nest_of-Implies : (f g : Formula) → nest_of (formula.Implies f g) ≡ bracketed_group (max (nest_of f).grouped (nest_of g).grouped)
nest_of-Implies f g = nest_of_at (open_formula.Implies f g) (formula.rolls-Implies f g)

pub nest_of-Iff : (f g : Formula) → nest_of (formula.Iff f g) ≡ bracketed_group (max (nest_of f).grouped (nest_of g).grouped)
nest_of-Iff f g = nest_of_at (open_formula.Iff f g) (formula.rolls-Iff f g)

pub nest_of-All : (name : List ℕ) (d : ℕ) (f : Formula) → nest_of (formula.All name d f) ≡ its_own_group (1 + (nest_of f).plain)
nest_of-All name d f = nest_of_at (open_formula.All name d f) (formula.rolls-All name d f)

pub nest_of-Ex : (name : List ℕ) (d : ℕ) (f : Formula) → nest_of (formula.Ex name d f) ≡ its_own_group (1 + (nest_of f).plain)
nest_of-Ex name d f = nest_of_at (open_formula.Ex name d f) (formula.rolls-Ex name d f)

pub nest_of-One : (o : OneOp) (f : Formula) → nest_of (formula.One o f) ≡ its_own_group (1 + (nest_of f).plain)
nest_of-One o f = nest_of_at (open_formula.One o f) (formula.rolls-One o f)

pub nest_of-Far : (o : FarOp) (f : Formula) (x : Term) → nest_of (formula.Far o f x) ≡ its_own_group (1 + max (nest_of f).plain (nest_of_term x).plain)
nest_of-Far o f x = nest_of_at (open_formula.Far o f x) (formula.rolls-Far o f x)

pub nest_of-Pair : (o : PairOp) (f g : Formula) → nest_of (formula.Pair o f g) ≡ its_own_group (1 + max (nest_of f).plain (nest_of g).plain)
nest_of-Pair o f g = nest_of_at (open_formula.Pair o f g) (formula.rolls-Pair o f g)
