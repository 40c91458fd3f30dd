-- The brackets that are open in the text of a formula.
use Rattle.std.proofs.Common.{ℕ, ◌+◌, List, [], ◌∷◌, ◌++◌, map, refl, sym, subst}
use Rattle.trio_base.specs.declared.operators.Rel.{Rel}
use Rattle.trio_base.specs.declared.operators.Rel.TheVariants as rel
use Rattle.trio_text.specs.declared.token.Reserved.{Reserved}
use Rattle.trio_text.specs.declared.token.Reserved.TheVariants as word
use Rattle.trio_text.specs.declared.token.Symbol.{Symbol}
use Rattle.trio_text.specs.declared.token.Symbol.TheVariants as symbol
use Rattle.trio_types.specs.declared.formula.Formula.{Formula}
use Rattle.trio_types.specs.declared.formula.Formula.TheOpen.{Formula-F}
use Rattle.trio_types.specs.declared.formula.Formula.TheOpen as open_formula
use Rattle.trio_types.specs.declared.formula.Formula.TheFolds.{fold-roll-Formula, map-Formula, ind-Formula}
use Rattle.trio_types.specs.declared.formula.Formula.TheViews.{roll-Formula}
use Rattle.trio_types.specs.Bounds.{greatest}
use Rattle.trio_types.specs.Nest.{FormulaNest, its_own_group, bracketed_group, formula_nest, nest_of}
use Rattle.trio_types.specs.Parts.{Parts}
use Rattle.trio_syntax.specs.Words.{rel_sign, one_word, far_word, pair_word}
use Rattle.trio_print.specs.Pieces.{blank}
use Rattle.trio_print.specs.Canonical.{Printed, FormulaText, sign, word_, name_, spaced, comma, own_group, in_group, many_text, quantified_text, formula_text, text_of_formula}
use Rattle.trio_canonical.proofs.BracketsOpen.{Nests, both, before, behind, round, flat, in_joined}
use Rattle.trio_canonical.proofs.BracketsTerms.{ref_nests, map_thrice, term_nests}

-- each of a formula's texts has as many open as is counted for it
pub record FormulaNests (text : FormulaText) (nest : FormulaNest) : Type 0 where
  pub plain : (names : List (List ℕ)) → Nests (text.plain names) nest.plain
  pub grouped : (names : List (List ℕ)) → Nests (text.grouped names) nest.grouped

FormulaFine : Parts → Formula → Type 0
FormulaFine parts f = FormulaNests (text_of_formula parts f) (nest_of f)

abbrev Some : Parts → Type 0
Some parts = (f : Formula) × FormulaFine parts f

own : {text : Printed} {n : ℕ} → ((names : List (List ℕ)) → Nests (text names) n) → FormulaNests (own_group text) (its_own_group n)
own nests = record { plain = nests; grouped = nests }

group : {text : Printed} {n : ℕ} → ((names : List (List ℕ)) → Nests (text names) n) → FormulaNests (in_group text) (bracketed_group n)
group nests = record { plain = nests; grouped = λ names. round (nests names) }

rel_nests : (r : Rel) → Nests (spaced (rel_sign r)) 0
rel_nests rel.Eq = flat (spaced symbol.Eq) refl
rel_nests rel.Ne = flat (spaced symbol.Ne) refl
rel_nests rel.Lt = flat (spaced symbol.Lt) refl
rel_nests rel.Le = flat (spaced symbol.Le) refl
rel_nests rel.Gt = flat (spaced symbol.Gt) refl
rel_nests rel.Ge = flat (spaced symbol.Ge) refl

module _ (parts : Parts) where
  many_nests : (s : Symbol) → Nests (spaced s) 0 → (fs : List (Some parts)) (names : List (List ℕ)) →
      Nests (many_text s (map (text_of_formula parts) (map (λ f. f.0) fs)) names) (greatest (map (λ (n : FormulaNest). n.grouped) (map nest_of (map (λ f. f.0) fs))))
  unfolding FormulaFine
  many_nests s gap fs names =
      rw (map_thrice (λ (f : FormulaText). f.grouped names) (text_of_formula parts) (λ f. f.0) fs, map_thrice (λ (n : FormulaNest). n.grouped) nest_of (λ f. f.0) fs)
      (in_joined (λ f. (text_of_formula parts f.0).grouped names) (λ f. (nest_of f.0).grouped) (λ f. f.1.grouped names) (spaced s) gap fs)

  quantified_nests : (q : Reserved) (name : List ℕ) (d : ℕ) (text : FormulaText) (nest : FormulaNest) → FormulaNests text nest → (names : List (List ℕ)) →
      Nests (quantified_text parts q name d text names) (1 + nest.plain)
  quantified_nests q name d text nest nests names =
      before (before (flat (word_ q ++ blank ∷ name_ name ++ spaced symbol.Colon) refl) (ref_nests parts d))
      (before (flat (blank ∷ []) refl) (round (nests.plain (names ++ name ∷ []))))

  form_nests : (y : Formula-F (Some parts)) →
      let x : Formula-F Formula = map-Formula (Some parts) Formula (λ f. f.0) y in
      FormulaNests (formula_text parts (map-Formula Formula FormulaText (text_of_formula parts) x)) (formula_nest (map-Formula Formula FormulaNest nest_of x))
  unfolding FormulaFine
  form_nests (open_formula.Lone x) = own (term_nests parts x).plain
  form_nests (open_formula.Compare r x y) = group (λ names. both (behind ((term_nests parts x).plain names) (rel_nests r)) ((term_nests parts y).plain names))
  form_nests (open_formula.Not f) = group (λ names. before (flat (sign symbol.Not) refl) (f.1.grouped names))
  form_nests (open_formula.And fs) = group (many_nests symbol.And (flat (spaced symbol.And) refl) fs)
  form_nests (open_formula.Or fs) = group (many_nests symbol.Or (flat (spaced symbol.Or) refl) fs)
  form_nests (open_formula.Implies f g) = group (λ names. both (behind (f.1.grouped names) (flat (spaced symbol.Arrow) refl)) (g.1.grouped names))
  form_nests (open_formula.Iff f g) = group (λ names. both (behind (f.1.grouped names) (flat (spaced symbol.Both) refl)) (g.1.grouped names))
  form_nests (open_formula.All name d f) = own (quantified_nests word.All name d _ _ f.1)
  form_nests (open_formula.Ex name d f) = own (quantified_nests word.Ex name d _ _ f.1)
  form_nests (open_formula.One o f) = own (λ names. before (flat (word_ (one_word o)) refl) (round (f.1.plain names)))
  form_nests (open_formula.Far o f x) =
      own (λ names. before (flat (word_ (far_word o)) refl) (round (both (behind (f.1.plain names) (flat comma refl)) ((term_nests parts x).plain names))))
  form_nests (open_formula.Pair o f g) =
      own (λ names. before (flat (word_ (pair_word o)) refl) (round (both (behind (f.1.plain names) (flat comma refl)) (g.1.plain names))))

  each : (y : Formula-F (Some parts)) → FormulaFine parts (roll-Formula (map-Formula (Some parts) Formula (λ f. f.0) y))
  unfolding FormulaFine text_of_formula nest_of
  each y =
      let x : Formula-F Formula = map-Formula (Some parts) Formula (λ f. f.0) y in
      subst (λ n. FormulaNests (text_of_formula parts (roll-Formula x)) n) (sym (fold-roll-Formula FormulaNest formula_nest x))
      (subst (λ t. FormulaNests t (formula_nest (map-Formula Formula FormulaNest nest_of x))) (sym (fold-roll-Formula FormulaText (formula_text parts) x)) (form_nests y))

  all_formulas : (f : Formula) → FormulaFine parts f
  all_formulas = ind-Formula (FormulaFine parts) (λ x y is. subst (λ z. FormulaFine parts (roll-Formula z)) is (each y))

  pub formula_nests : (f : Formula) → FormulaNests (text_of_formula parts f) (nest_of f)
  unfolding FormulaFine
  formula_nests f = all_formulas f
