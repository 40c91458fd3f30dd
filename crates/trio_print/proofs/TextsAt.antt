-- What the texts of terms and formulas are at each variant.
use Rattle.std.proofs.Common.{◌≡◌, ℕ, List, ◌++◌, map, ap, sym, ◌∙◌, slice_get}
use Rattle.trio_base.specs.declared.operators.Rel.{Rel}
use Rattle.trio_base.specs.declared.operators.OneOp.{OneOp}
use Rattle.trio_base.specs.declared.operators.FarOp.{FarOp}
use Rattle.trio_base.specs.declared.operators.PairOp.{PairOp}
use Rattle.trio_text.specs.declared.token.Symbol.TheVariants as symbol
use Rattle.trio_types.specs.declared.formula.SignedTerm.{SignedTerm, fold-SignedTerm, fold_out-SignedTerm}
use Rattle.trio_types.specs.declared.formula.Term.{Term}
use Rattle.trio_types.specs.declared.formula.Term.TheVariants as term
use Rattle.trio_types.specs.declared.formula.Term.TheOpen.{Term-F}
use Rattle.trio_types.specs.declared.formula.Term.TheOpen as open_term
use Rattle.trio_types.specs.declared.formula.Term.TheFolds.{fold-roll-Term, map-Term}
use Rattle.trio_types.specs.declared.formula.Term.TheViews.{roll-Term}
use Rattle.trio_types.specs.declared.formula.Formula.{Formula}
use Rattle.trio_types.specs.declared.formula.Formula.TheVariants as formula
use Rattle.trio_types.specs.declared.formula.Formula.TheOpen.{Formula-F}
use Rattle.trio_types.specs.declared.formula.Formula.TheOpen as open_formula
use Rattle.trio_types.specs.declared.formula.Formula.TheFolds.{fold-roll-Formula, map-Formula}
use Rattle.trio_types.specs.declared.formula.Formula.TheViews.{roll-Formula}
use Rattle.trio_types.specs.Parts.{Parts}
use Rattle.trio_types.proofs.Lists.{map-map, map_same}
use Rattle.trio_print.specs.Canonical.{TermText, PartText, FormulaText, name_, listed_pieces, item_name, term_text, part_text, text_of_term, term_plain, spaced, joined_pieces, formula_text, text_of_formula}
use Rattle.trio_print.specs.Printing.{text_of_part}

abbrev text_of_signed : Parts → SignedTerm → PartText
text_of_signed parts = fold-SignedTerm TermText PartText (term_text parts) part_text

text_of_term_at : (parts : Parts) {f : Term} (x : Term-F Term SignedTerm) → roll-Term x ≡ f →
    text_of_term parts f ≡ term_text parts (map-Term Term SignedTerm TermText PartText (text_of_term parts) (text_of_signed parts) x)
unfolding text_of_term
text_of_term_at parts x is = ap (text_of_term parts) (sym is) ∙ fold-roll-Term TermText PartText (term_text parts) part_text x

text_of_signed_is : (parts : Parts) (p : SignedTerm) → text_of_signed parts p ≡ text_of_part parts p
unfolding text_of_term
text_of_signed_is parts p = fold_out-SignedTerm TermText PartText (term_text parts) part_text p

pub text_of_term-Number : (parts : Parts) (n : ℕ) → text_of_term parts (term.Number n) ≡ term_text parts (open_term.Number n)
text_of_term-Number parts n = text_of_term_at parts (open_term.Number n) (term.rolls-Number n)

pub text_of_term-Value : (parts : Parts) (d v : ℕ) → text_of_term parts (term.Value d v) ≡ term_text parts (open_term.Value d v)
text_of_term-Value parts d v = text_of_term_at parts (open_term.Value d v) (term.rolls-Value d v)

pub text_of_term-Var : (parts : Parts) (level : ℕ) → text_of_term parts (term.Var level) ≡ term_text parts (open_term.Var level)
text_of_term-Var parts level = text_of_term_at parts (open_term.Var level) (term.rolls-Var level)

pub text_of_term-Read : (parts : Parts) (number : ℕ) (args : List Term) →
    text_of_term parts (term.Read number args) ≡ term_text parts (open_term.Read number (map (text_of_term parts) args))
text_of_term-Read parts number args = text_of_term_at parts (open_term.Read number args) (term.rolls-Read number args)

pub text_of_term-Sum : (parts : Parts) (ps : List SignedTerm) →
    text_of_term parts (term.Sum ps) ≡ term_text parts (open_term.Sum (map (text_of_part parts) ps))
text_of_term-Sum parts ps = text_of_term_at parts (open_term.Sum ps) (term.rolls-Sum ps)
    ∙ ap (λ ts. term_text parts (open_term.Sum ts)) (map_same (text_of_signed parts) (text_of_part parts) (text_of_signed_is parts) ps)

pub text_of_term-Times : (parts : Parts) (n : ℕ) (x : Term) →
    text_of_term parts (term.Times n x) ≡ term_text parts (open_term.Times n (text_of_term parts x))
text_of_term-Times parts n x = text_of_term_at parts (open_term.Times n x) (term.rolls-Times n x)

-- the arguments of a read, by themselves
pub plain-Read : (parts : Parts) (number : ℕ) (args : List Term) (names : List (List ℕ)) →
    term_plain parts (term.Read number args) names
    ≡ name_ (item_name (slice_get parts.items number)) ++ listed_pieces (map (λ x. term_plain parts x names) args)
plain-Read parts number args names =
    ap (λ t. t.plain names) (text_of_term-Read parts number args)
    ∙ ap (λ ts. name_ (item_name (slice_get parts.items number)) ++ listed_pieces ts) (map-map (λ t. t.plain names) (text_of_term parts) args)

text_of_formula_at : (parts : Parts) {f : Formula} (x : Formula-F Formula) → roll-Formula x ≡ f →
    text_of_formula parts f ≡ formula_text parts (map-Formula Formula FormulaText (text_of_formula parts) x)
unfolding text_of_formula
text_of_formula_at parts x is = ap (text_of_formula parts) (sym is) ∙ fold-roll-Formula FormulaText (formula_text parts) x

pub text_of_formula-Lone : (parts : Parts) (x : Term) → text_of_formula parts (formula.Lone x) ≡ formula_text parts (open_formula.Lone x)
text_of_formula-Lone parts x = text_of_formula_at parts (open_formula.Lone x) (formula.rolls-Lone x)

pub text_of_formula-Compare : (parts : Parts) (r : Rel) (x y : Term) →
    text_of_formula parts (formula.Compare r x y) ≡ formula_text parts (open_formula.Compare r x y)
text_of_formula-Compare parts r x y = text_of_formula_at parts (open_formula.Compare r x y) (formula.rolls-Compare r x y)

pub text_of_formula-Not : (parts : Parts) (f : Formula) →
    text_of_formula parts (formula.Not f) ≡ formula_text parts (open_formula.Not (text_of_formula parts f))
text_of_formula-Not parts f = text_of_formula_at parts (open_formula.Not f) (formula.rolls-Not f)

pub text_of_formula-And : (parts : Parts) (fs : List Formula) →
    text_of_formula parts (formula.And fs) ≡ formula_text parts (open_formula.And (map (text_of_formula parts) fs))
text_of_formula-And parts fs = text_of_formula_at parts (open_formula.And fs) (formula.rolls-And fs)

pub text_of_formula-Or : (parts : Parts) (fs : List Formula) →
    text_of_formula parts (formula.Or fs) ≡ formula_text parts (open_formula.Or (map (text_of_formula parts) fs))
text_of_formula-Or parts fs = text_of_formula_at parts (open_formula.Or fs) (formula.rolls-Or fs)

pub text_of_formula-Implies : (parts : Parts) (f g : Formula) →
    text_of_formula parts (formula.Implies f g) ≡ formula_text parts (open_formula.Implies (text_of_formula parts f) (text_of_formula parts g))
text_of_formula-Implies parts f g = text_of_formula_at parts (open_formula.Implies f g) (formula.rolls-Implies f g)

pub text_of_formula-Iff : (parts : Parts) (f g : Formula) →
    text_of_formula parts (formula.Iff f g) ≡ formula_text parts (open_formula.Iff (text_of_formula parts f) (text_of_formula parts g))
text_of_formula-Iff parts f g = text_of_formula_at parts (open_formula.Iff f g) (formula.rolls-Iff f g)

pub text_of_formula-All : (parts : Parts) (name : List ℕ) (d : ℕ) (f : Formula) →
    text_of_formula parts (formula.All name d f) ≡ formula_text parts (open_formula.All name d (text_of_formula parts f))
text_of_formula-All parts name d f = text_of_formula_at parts (open_formula.All name d f) (formula.rolls-All name d f)

pub text_of_formula-Ex : (parts : Parts) (name : List ℕ) (d : ℕ) (f : Formula) →
    text_of_formula parts (formula.Ex name d f) ≡ formula_text parts (open_formula.Ex name d (text_of_formula parts f))
text_of_formula-Ex parts name d f = text_of_formula_at parts (open_formula.Ex name d f) (formula.rolls-Ex name d f)

pub text_of_formula-One : (parts : Parts) (o : OneOp) (f : Formula) →
    text_of_formula parts (formula.One o f) ≡ formula_text parts (open_formula.One o (text_of_formula parts f))
text_of_formula-One parts o f = text_of_formula_at parts (open_formula.One o f) (formula.rolls-One o f)

pub text_of_formula-Far : (parts : Parts) (o : FarOp) (f : Formula) (x : Term) →
    text_of_formula parts (formula.Far o f x) ≡ formula_text parts (open_formula.Far o (text_of_formula parts f) x)
text_of_formula-Far parts o f x = text_of_formula_at parts (open_formula.Far o f x) (formula.rolls-Far o f x)

pub text_of_formula-Pair : (parts : Parts) (o : PairOp) (f g : Formula) →
    text_of_formula parts (formula.Pair o f g) ≡ formula_text parts (open_formula.Pair o (text_of_formula parts f) (text_of_formula parts g))
text_of_formula-Pair parts o f g = text_of_formula_at parts (open_formula.Pair o f g) (formula.rolls-Pair o f g)

-- the parts of a conjunction and of a disjunction, as groups
pub plain-And : (parts : Parts) (fs : List Formula) (names : List (List ℕ)) →
    (text_of_formula parts (formula.And fs)).plain names ≡ joined_pieces (spaced symbol.And) (map (λ f. (text_of_formula parts f).grouped names) fs)
plain-And parts fs names =
    ap (λ t. t.plain names) (text_of_formula-And parts fs) ∙ ap (joined_pieces (spaced symbol.And)) (map-map (λ t. t.grouped names) (text_of_formula parts) fs)

pub plain-Or : (parts : Parts) (fs : List Formula) (names : List (List ℕ)) →
    (text_of_formula parts (formula.Or fs)).plain names ≡ joined_pieces (spaced symbol.Or) (map (λ f. (text_of_formula parts f).grouped names) fs)
plain-Or parts fs names =
    ap (λ t. t.plain names) (text_of_formula-Or parts fs) ∙ ap (joined_pieces (spaced symbol.Or)) (map-map (λ t. t.grouped names) (text_of_formula parts) fs)
