-- What the canonical text of each form of a term and of a formula is, and which tokens it has.
use Rattle.std.proofs.Common.{◌≡◌, ℕ, List, [], ◌∷◌, ◌++◌, map, refl, ap, sym, ◌∙◌}
use Rattle.std.specs.List.{flat_map}
use Rattle.std.proofs.lemmas.Grind.{flat_map-append}
use Rattle.trio_base.specs.declared.operators.Rel.{Rel}
use Rattle.trio_base.specs.declared.operators.OneOp.{OneOp}
use Rattle.trio_base.specs.declared.operators.FarOp.{FarOp}
use Rattle.trio_base.specs.declared.operators.PairOp.{PairOp}
use Rattle.trio_text.specs.declared.lexeme.Lexeme.TheVariants as lexeme
use Rattle.trio_text.specs.declared.token.Symbol.{Symbol}
use Rattle.trio_text.specs.declared.token.Symbol.TheVariants as signs
use Rattle.trio_types.specs.declared.formula.SignedTerm.{SignedTerm, out-SignedTerm, fold-SignedTerm, fold_out-SignedTerm}
use Rattle.trio_types.specs.declared.formula.Term.{Term}
use Rattle.trio_types.specs.declared.formula.Term.TheVariants as term
use Rattle.trio_types.specs.declared.formula.Term.TheOpen.{Term-F}
use Rattle.trio_types.specs.declared.formula.Term.TheOpen as open_term
use Rattle.trio_types.specs.declared.formula.Term.TheFolds.{fold-roll-Term, map-Term}
use Rattle.trio_types.specs.declared.formula.Term.TheViews.{roll-Term}
use Rattle.trio_types.specs.declared.formula.Formula.{Formula}
use Rattle.trio_types.specs.declared.formula.Formula.TheVariants as formula
use Rattle.trio_types.specs.declared.formula.Formula.TheOpen.{Formula-F}
use Rattle.trio_types.specs.declared.formula.Formula.TheOpen as open_formula
use Rattle.trio_types.specs.declared.formula.Formula.TheFolds.{fold-roll-Formula, map-Formula}
use Rattle.trio_types.specs.declared.formula.Formula.TheViews.{roll-Formula}
use Rattle.trio_types.specs.Parts.{Parts}
use Rattle.trio_types.proofs.Lists.{map_same}
use Rattle.trio_print.specs.Pieces.{Piece, token, lexemes_in}
use Rattle.trio_print.specs.Canonical.{TermText, PartText, term_text, part_text, text_of_term, FormulaText, formula_text, text_of_formula, in_round, in_square, joined_pieces}

-- tokens of texts behind one another
pub lexemes-append : (x y : List Piece) → lexemes_in (x ++ y) ≡ lexemes_in x ++ lexemes_in y
lexemes-append x y = flat_map-append _ x y

pub lexemes-round : (x : List Piece) → lexemes_in (in_round x) ≡ lexeme.Sign signs.LeftRound ∷ (lexemes_in x ++ lexeme.Sign signs.RightRound ∷ [])
lexemes-round x = ap (λ z. lexeme.Sign signs.LeftRound ∷ z) (lexemes-append x (token (lexeme.Sign signs.RightRound) ∷ []))

pub lexemes-square : (x : List Piece) → lexemes_in (in_square x) ≡ lexeme.Sign signs.LeftSquare ∷ (lexemes_in x ++ lexeme.Sign signs.RightSquare ∷ [])
lexemes-square x = ap (λ z. lexeme.Sign signs.LeftSquare ∷ z) (lexemes-append x (token (lexeme.Sign signs.RightSquare) ∷ []))

pub lexemes-flat_map : {X : Type 0} (f : X → List Piece) (xs : List X) → lexemes_in (flat_map f xs) ≡ flat_map (λ x. lexemes_in (f x)) xs
lexemes-flat_map f [] = refl
lexemes-flat_map f (x ∷ xs) = lexemes-append (f x) (flat_map f xs) ∙ ap (λ z. lexemes_in (f x) ++ z) (lexemes-flat_map f xs)

later : {X : Type 0} (between : List Piece) (s : Symbol) → lexemes_in between ≡ lexeme.Sign s ∷ [] → (f : X → List Piece) (xs : List X) →
    lexemes_in (flat_map (λ y. between ++ y) (map f xs)) ≡ flat_map (λ x. lexeme.Sign s ∷ lexemes_in (f x)) xs
later between s is f [] = refl
later between s is f (x ∷ xs) =
    lexemes-append (between ++ f x) (flat_map (λ y. between ++ y) (map f xs))
    ∙ rw (lexemes-append between (f x), is, later between s is f xs) refl

-- with a symbol between them
pub lexemes-joined : {X : Type 0} (between : List Piece) (s : Symbol) → lexemes_in between ≡ lexeme.Sign s ∷ [] → (f : X → List Piece) (x : X) (xs : List X) →
    lexemes_in (joined_pieces between (map f (x ∷ xs))) ≡ lexemes_in (f x) ++ flat_map (λ y. lexeme.Sign s ∷ lexemes_in (f y)) xs
lexemes-joined between s is f x xs =
    lexemes-append (f x) (flat_map (λ y. between ++ y) (map f xs)) ∙ ap (λ z. lexemes_in (f x) ++ z) (later between s is f xs)

module _ (parts : Parts) where
  -- a part of a sum
  abbrev pub text_of_part : SignedTerm → PartText
  text_of_part p = record { minus = (out-SignedTerm p).minus; text = (text_of_term parts (out-SignedTerm p).term).as_part }

  abbrev signed_text : SignedTerm → PartText
  signed_text = fold-SignedTerm TermText PartText (term_text parts) part_text

  text_at : {f : Term} (x : Term-F Term SignedTerm) → roll-Term x ≡ f → text_of_term parts f ≡ term_text parts (map-Term Term SignedTerm TermText PartText (text_of_term parts) signed_text x)
  unfolding text_of_term
  text_at x is = ap (text_of_term parts) (sym is) ∙ fold-roll-Term TermText PartText (term_text parts) part_text x

  signed_text_is : (p : SignedTerm) → signed_text p ≡ text_of_part p
  unfolding text_of_term
  signed_text_is p = fold_out-SignedTerm TermText PartText (term_text parts) part_text p

  pub text-Number : (n : ℕ) → text_of_term parts (term.Number n) ≡ term_text parts (open_term.Number n)
  text-Number n = text_at (open_term.Number n) (term.rolls-Number n)

  pub text-Value : (d v : ℕ) → text_of_term parts (term.Value d v) ≡ term_text parts (open_term.Value d v)
  text-Value d v = text_at (open_term.Value d v) (term.rolls-Value d v)

  pub text-Var : (level : ℕ) → text_of_term parts (term.Var level) ≡ term_text parts (open_term.Var level)
  text-Var level = text_at (open_term.Var level) (term.rolls-Var level)

  pub text-Read : (number : ℕ) (args : List Term) → text_of_term parts (term.Read number args) ≡ term_text parts (open_term.Read number (map (text_of_term parts) args))
  text-Read number args = text_at (open_term.Read number args) (term.rolls-Read number args)

  pub text-Sum : (ps : List SignedTerm) → text_of_term parts (term.Sum ps) ≡ term_text parts (open_term.Sum (map text_of_part ps))
  text-Sum ps = text_at (open_term.Sum ps) (term.rolls-Sum ps) ∙ ap (λ ps. term_text parts (open_term.Sum ps)) (map_same signed_text text_of_part signed_text_is ps)

  pub text-Times : (n : ℕ) (x : Term) → text_of_term parts (term.Times n x) ≡ term_text parts (open_term.Times n (text_of_term parts x))
  text-Times n x = text_at (open_term.Times n x) (term.rolls-Times n x)

  formula_at : {f : Formula} (x : Formula-F Formula) → roll-Formula x ≡ f → text_of_formula parts f ≡ formula_text parts (map-Formula Formula FormulaText (text_of_formula parts) x)
  unfolding text_of_formula
  formula_at x is = ap (text_of_formula parts) (sym is) ∙ fold-roll-Formula FormulaText (formula_text parts) x

  pub text-Lone : (x : Term) → text_of_formula parts (formula.Lone x) ≡ formula_text parts (open_formula.Lone x)
  text-Lone x = formula_at (open_formula.Lone x) (formula.rolls-Lone x)

  pub text-Compare : (r : Rel) (x y : Term) → text_of_formula parts (formula.Compare r x y) ≡ formula_text parts (open_formula.Compare r x y)
  text-Compare r x y = formula_at (open_formula.Compare r x y) (formula.rolls-Compare r x y)

  pub text-Not : (f : Formula) → text_of_formula parts (formula.Not f) ≡ formula_text parts (open_formula.Not (text_of_formula parts f))
  text-Not f = formula_at (open_formula.Not f) (formula.rolls-Not f)

  pub text-And : (fs : List Formula) → text_of_formula parts (formula.And fs) ≡ formula_text parts (open_formula.And (map (text_of_formula parts) fs))
  text-And fs = formula_at (open_formula.And fs) (formula.rolls-And fs)

  pub text-Or : (fs : List Formula) → text_of_formula parts (formula.Or fs) ≡ formula_text parts (open_formula.Or (map (text_of_formula parts) fs))
  text-Or fs = formula_at (open_formula.Or fs) (formula.rolls-Or fs)

  pub text-Implies : (f g : Formula) → text_of_formula parts (formula.Implies f g) ≡ formula_text parts (open_formula.Implies (text_of_formula parts f) (text_of_formula parts g))
  text-Implies f g = formula_at (open_formula.Implies f g) (formula.rolls-Implies f g)

  pub text-Iff : (f g : Formula) → text_of_formula parts (formula.Iff f g) ≡ formula_text parts (open_formula.Iff (text_of_formula parts f) (text_of_formula parts g))
  text-Iff f g = formula_at (open_formula.Iff f g) (formula.rolls-Iff f g)

  pub text-All : (name : List ℕ) (d : ℕ) (f : Formula) → text_of_formula parts (formula.All name d f) ≡ formula_text parts (open_formula.All name d (text_of_formula parts f))
  text-All name d f = formula_at (open_formula.All name d f) (formula.rolls-All name d f)

  pub text-Ex : (name : List ℕ) (d : ℕ) (f : Formula) → text_of_formula parts (formula.Ex name d f) ≡ formula_text parts (open_formula.Ex name d (text_of_formula parts f))
  text-Ex name d f = formula_at (open_formula.Ex name d f) (formula.rolls-Ex name d f)

  pub text-One : (o : OneOp) (f : Formula) → text_of_formula parts (formula.One o f) ≡ formula_text parts (open_formula.One o (text_of_formula parts f))
  text-One o f = formula_at (open_formula.One o f) (formula.rolls-One o f)

  pub text-Far : (o : FarOp) (f : Formula) (x : Term) → text_of_formula parts (formula.Far o f x) ≡ formula_text parts (open_formula.Far o (text_of_formula parts f) x)
  text-Far o f x = formula_at (open_formula.Far o f x) (formula.rolls-Far o f x)

  pub text-Pair : (o : PairOp) (f g : Formula) → text_of_formula parts (formula.Pair o f g) ≡ formula_text parts (open_formula.Pair o (text_of_formula parts f) (text_of_formula parts g))
  text-Pair o f g = formula_at (open_formula.Pair o f g) (formula.rolls-Pair o f g)
