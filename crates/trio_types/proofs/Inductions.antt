-- Induction over terms and formulas, form by form.
use Rattle.std.proofs.Common.{ℕ, List, [], ◌∷◌, map, sym, subst}
use denote.Hole.Holds.{Such}
use Rattle.trio_base.specs.declared.operators.Rel.{Rel}
use Rattle.trio_base.specs.declared.operators.OneOp.{OneOp}
use Rattle.trio_base.specs.declared.operators.FarOp.{FarOp}
use Rattle.trio_base.specs.declared.operators.PairOp.{PairOp}
use Rattle.trio_types.specs.declared.formula.SignedTerm.{SignedTerm, out-SignedTerm, roll-SignedTerm, out-roll-SignedTerm, map-SignedTerm}
use Rattle.trio_types.specs.declared.formula.Term.{Term}
use Rattle.trio_types.specs.declared.formula.Term.TheVariants as term
use Rattle.trio_types.specs.declared.formula.Term.TheOpen.{Term-F, SignedTerm-F}
use Rattle.trio_types.specs.declared.formula.Term.TheOpen as open_term
use Rattle.trio_types.specs.declared.formula.Term.TheFolds.{map-Term, ind-Term}
use Rattle.trio_types.specs.declared.formula.Term.TheFolds as term_folds
use Rattle.trio_types.specs.declared.formula.Term.TheBlock as term_block
use Rattle.trio_types.specs.declared.formula.Term.TheViews.{roll-Term}
use Rattle.trio_types.specs.declared.formula.Formula.{Formula}
use Rattle.trio_types.specs.declared.formula.Formula.TheVariants as formula
use Rattle.trio_types.specs.declared.formula.Formula.TheOpen.{Formula-F}
use Rattle.trio_types.specs.declared.formula.Formula.TheOpen as open_formula
use Rattle.trio_types.specs.declared.formula.Formula.TheFolds.{map-Formula, ind-Formula}
use Rattle.trio_types.specs.declared.formula.Formula.TheViews.{roll-Formula}

-- a fact holds of each element
abbrev pub Each : {X : Type 0} → (X → Type 0) → List X → Type 0
Each P [] = Unit {0}
Each P (x ∷ xs) = P x × Each P xs

abbrev pub term_of : SignedTerm → Term
term_of p = (out-SignedTerm p).term

pub record TermCases (P : Term → Type 0) : Type 0 where
  pub at_number : (n : ℕ) → P (term.Number n)
  pub at_value : (d v : ℕ) → P (term.Value d v)
  pub at_var : (level : ℕ) → P (term.Var level)
  pub at_read : (number : ℕ) (args : List Term) → Each P args → P (term.Read number args)
  pub at_sum : (parts : List SignedTerm) → Each (λ p. P (term_of p)) parts → P (term.Sum parts)
  pub at_times : (n : ℕ) (x : Term) → P x → P (term.Times n x)

module _ (P : Term → Type 0) (cases : TermCases P) where
  abbrev OfPart : SignedTerm → Type 0
  OfPart p = P (term_of p)

  abbrev SuchTerm : Type 0
  SuchTerm = Such term_block.the_family (term_folds.claims P OfPart) term_block.member-Term

  abbrev SuchPart : Type 0
  SuchPart = Such term_block.the_family (term_folds.claims P OfPart) term_block.member-SignedTerm

  terms_hold : (es : List SuchTerm) → Each P (map (λ e. e.0) es)
  terms_hold [] = tt
  terms_hold (e ∷ es) = (e.1, terms_hold es)

  parts_hold : (es : List SuchPart) → Each OfPart (map (λ e. e.0) es)
  parts_hold [] = tt
  parts_hold (e ∷ es) = (e.1, parts_hold es)

  each_term : (y : Term-F SuchTerm SuchPart) → P (roll-Term (map-Term SuchTerm SuchPart Term SignedTerm (λ e. e.0) (λ e. e.0) y))
  each_term (open_term.Number n) = subst P (sym (term.rolls-Number n)) (cases.at_number n)
  each_term (open_term.Value d v) = subst P (sym (term.rolls-Value d v)) (cases.at_value d v)
  each_term (open_term.Var level) = subst P (sym (term.rolls-Var level)) (cases.at_var level)
  each_term (open_term.Read number es) = subst P (sym (term.rolls-Read number (map (λ e. e.0) es))) (cases.at_read number (map (λ e. e.0) es) (terms_hold es))
  each_term (open_term.Sum es) = subst P (sym (term.rolls-Sum (map (λ e. e.0) es))) (cases.at_sum (map (λ e. e.0) es) (parts_hold es))
  each_term (open_term.Times n e) = subst P (sym (term.rolls-Times n e.0)) (cases.at_times n e.0 e.1)

  pub every_term : (x : Term) → P x
  every_term = ind-Term P OfPart
      (λ x y is. subst (λ z. P (roll-Term z)) is (each_term y))
      (λ x y is. subst (λ z. OfPart (roll-SignedTerm z)) is
      (subst (λ (q : SignedTerm-F Term SignedTerm). P q.term)
      (sym (out-roll-SignedTerm (map-SignedTerm SuchTerm SuchPart Term SignedTerm (λ e. e.0) (λ e. e.0) y))) y.term.1))

pub record FormulaCases (P : Formula → Type 0) : Type 0 where
  pub at_lone : (x : Term) → P (formula.Lone x)
  pub at_compare : (r : Rel) (x y : Term) → P (formula.Compare r x y)
  pub at_not : (f : Formula) → P f → P (formula.Not f)
  pub at_and : (fs : List Formula) → Each P fs → P (formula.And fs)
  pub at_or : (fs : List Formula) → Each P fs → P (formula.Or fs)
  pub at_implies : (f g : Formula) → P f → P g → P (formula.Implies f g)
  pub at_iff : (f g : Formula) → P f → P g → P (formula.Iff f g)
  pub at_all : (name : List ℕ) (d : ℕ) (f : Formula) → P f → P (formula.All name d f)
  pub at_ex : (name : List ℕ) (d : ℕ) (f : Formula) → P f → P (formula.Ex name d f)
  pub at_one : (o : OneOp) (f : Formula) → P f → P (formula.One o f)
  pub at_far : (o : FarOp) (f : Formula) (x : Term) → P f → P (formula.Far o f x)
  pub at_pair : (o : PairOp) (f g : Formula) → P f → P g → P (formula.Pair o f g)

module _ (P : Formula → Type 0) (cases : FormulaCases P) where
  abbrev Part : Type 0
  Part = (f : Formula) × P f

  forms_hold : (es : List Part) → Each P (map (λ e. e.0) es)
  forms_hold [] = tt
  forms_hold (e ∷ es) = (e.1, forms_hold es)

  each_form : (y : Formula-F Part) → P (roll-Formula (map-Formula Part Formula (λ e. e.0) y))
  each_form (open_formula.Lone x) = subst P (sym (formula.rolls-Lone x)) (cases.at_lone x)
  each_form (open_formula.Compare r x y) = subst P (sym (formula.rolls-Compare r x y)) (cases.at_compare r x y)
  each_form (open_formula.Not f) = subst P (sym (formula.rolls-Not f.0)) (cases.at_not f.0 f.1)
  each_form (open_formula.And fs) = subst P (sym (formula.rolls-And (map (λ e. e.0) fs))) (cases.at_and (map (λ e. e.0) fs) (forms_hold fs))
  each_form (open_formula.Or fs) = subst P (sym (formula.rolls-Or (map (λ e. e.0) fs))) (cases.at_or (map (λ e. e.0) fs) (forms_hold fs))
  each_form (open_formula.Implies f g) = subst P (sym (formula.rolls-Implies f.0 g.0)) (cases.at_implies f.0 g.0 f.1 g.1)
  each_form (open_formula.Iff f g) = subst P (sym (formula.rolls-Iff f.0 g.0)) (cases.at_iff f.0 g.0 f.1 g.1)
  each_form (open_formula.All name d f) = subst P (sym (formula.rolls-All name d f.0)) (cases.at_all name d f.0 f.1)
  each_form (open_formula.Ex name d f) = subst P (sym (formula.rolls-Ex name d f.0)) (cases.at_ex name d f.0 f.1)
  each_form (open_formula.One o f) = subst P (sym (formula.rolls-One o f.0)) (cases.at_one o f.0 f.1)
  each_form (open_formula.Far o f x) = subst P (sym (formula.rolls-Far o f.0 x)) (cases.at_far o f.0 x f.1)
  each_form (open_formula.Pair o f g) = subst P (sym (formula.rolls-Pair o f.0 g.0)) (cases.at_pair o f.0 g.0 f.1 g.1)

  pub every_formula : (f : Formula) → P f
  every_formula = ind-Formula P (λ x y is. subst (λ z. P (roll-Formula z)) is (each_form y))
