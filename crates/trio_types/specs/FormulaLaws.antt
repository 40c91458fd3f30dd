-- The tests of formulas on which well-formedness rests, form by form, in words.
use Rattle.std.specs.Prelude.{◌≡◌, ◌↔◌, ◌⊎◌, ℕ, ◌≤◌, true, List, [], ◌∷◌, ◌++◌, length}
use Rattle.std.specs.List.{Contains}
use Rattle.trio_base.specs.declared.operators.Rel.{Rel}
use Rattle.trio_base.specs.declared.operators.OneOp.{OneOp}
use Rattle.trio_base.specs.declared.operators.FarOp.{FarOp}
use Rattle.trio_base.specs.declared.operators.PairOp.{PairOp}
use Rattle.trio_types.specs.declared.formula.SignedTerm.{SignedTerm, out-SignedTerm}
use Rattle.trio_types.specs.declared.formula.Term.{Term}
use Rattle.trio_types.specs.declared.formula.Term.TheVariants as term
use Rattle.trio_types.specs.declared.formula.Formula.{Formula}
use Rattle.trio_types.specs.declared.formula.Formula.TheVariants as formula
use Rattle.trio_types.specs.Names.{variables_of, variables_are_new}
use Rattle.trio_types.specs.Shape.{term_is_shaped, is_shaped, numbers_in, numbers_of}

-- shape

-- two parts or more, or one with a sign
abbrev pub IsSum : List SignedTerm → Type 0
IsSum ps = (2 ≤ length ps) ⊎ ((p : SignedTerm) × (ps ≡ p ∷ []) × ((out-SignedTerm p).minus ≡ true))

-- which terms are shaped
pub record TermShapeLaw : Type 0 where
  pub number : (n : ℕ) → term_is_shaped (term.Number n) ≡ true
  pub constant : (d v : ℕ) → term_is_shaped (term.Value d v) ≡ true
  pub variable : (level : ℕ) → term_is_shaped (term.Var level) ≡ true
  pub read : (item : ℕ) (xs : List Term) → (term_is_shaped (term.Read item xs) ≡ true) ↔ ((x : Term) → Contains xs x → term_is_shaped x ≡ true)
  pub sum : (ps : List SignedTerm) →
      (term_is_shaped (term.Sum ps) ≡ true) ↔ (IsSum ps × ((p : SignedTerm) → Contains ps p → term_is_shaped (out-SignedTerm p).term ≡ true))
  pub times : (n : ℕ) (x : Term) → term_is_shaped (term.Times n x) ≡ term_is_shaped x

-- two formulas or more, and each is shaped
abbrev pub AreParts : List Formula → Type 0
AreParts fs = (2 ≤ length fs) × ((f : Formula) → Contains fs f → is_shaped f ≡ true)

-- which formulas are
pub record ShapeLaw : Type 0 where
  pub lone : (x : Term) → is_shaped (formula.Lone x) ≡ term_is_shaped x
  pub compare : (r : Rel) (x y : Term) → (is_shaped (formula.Compare r x y) ≡ true) ↔ ((term_is_shaped x ≡ true) × (term_is_shaped y ≡ true))
  pub no : (f : Formula) → is_shaped (formula.Not f) ≡ is_shaped f
  pub both : (fs : List Formula) → (is_shaped (formula.And fs) ≡ true) ↔ AreParts fs
  pub either : (fs : List Formula) → (is_shaped (formula.Or fs) ≡ true) ↔ AreParts fs
  pub implies : (f g : Formula) → (is_shaped (formula.Implies f g) ≡ true) ↔ ((is_shaped f ≡ true) × (is_shaped g ≡ true))
  pub iff : (f g : Formula) → (is_shaped (formula.Iff f g) ≡ true) ↔ ((is_shaped f ≡ true) × (is_shaped g ≡ true))
  pub every : (name : List ℕ) (d : ℕ) (f : Formula) → is_shaped (formula.All name d f) ≡ is_shaped f
  pub some : (name : List ℕ) (d : ℕ) (f : Formula) → is_shaped (formula.Ex name d f) ≡ is_shaped f
  pub one : (o : OneOp) (f : Formula) → is_shaped (formula.One o f) ≡ is_shaped f
  pub far : (o : FarOp) (f : Formula) (x : Term) → (is_shaped (formula.Far o f x) ≡ true) ↔ ((is_shaped f ≡ true) × (term_is_shaped x ≡ true))
  pub pair : (o : PairOp) (f g : Formula) → (is_shaped (formula.Pair o f g) ≡ true) ↔ ((is_shaped f ≡ true) × (is_shaped g ≡ true))

-- numbers

-- which numbers are written in a term
pub record TermNumbersLaw : Type 0 where
  pub number : (n m : ℕ) → Contains (numbers_in (term.Number n)) m ↔ (m ≡ n)
  pub constant : (d v m : ℕ) → Contains (numbers_in (term.Value d v)) m → ⊥
  pub variable : (level m : ℕ) → Contains (numbers_in (term.Var level)) m → ⊥
  pub read : (item : ℕ) (xs : List Term) (m : ℕ) → Contains (numbers_in (term.Read item xs)) m ↔ ((x : Term) × Contains xs x × Contains (numbers_in x) m)
  pub sum : (ps : List SignedTerm) (m : ℕ) →
      Contains (numbers_in (term.Sum ps)) m ↔ ((p : SignedTerm) × Contains ps p × Contains (numbers_in (out-SignedTerm p).term) m)
  pub times : (n : ℕ) (x : Term) (m : ℕ) → Contains (numbers_in (term.Times n x)) m ↔ ((m ≡ n) ⊎ Contains (numbers_in x) m)

-- the number is written in one of these
abbrev pub IsWrittenAmong : List Formula → ℕ → Type 0
IsWrittenAmong fs m = (f : Formula) × Contains fs f × Contains (numbers_of f) m

-- which are in a formula
pub record NumbersLaw : Type 0 where
  pub lone : (x : Term) (m : ℕ) → Contains (numbers_of (formula.Lone x)) m ↔ Contains (numbers_in x) m
  pub compare : (r : Rel) (x y : Term) (m : ℕ) → Contains (numbers_of (formula.Compare r x y)) m ↔ (Contains (numbers_in x) m ⊎ Contains (numbers_in y) m)
  pub no : (f : Formula) (m : ℕ) → Contains (numbers_of (formula.Not f)) m ↔ Contains (numbers_of f) m
  pub both : (fs : List Formula) (m : ℕ) → Contains (numbers_of (formula.And fs)) m ↔ IsWrittenAmong fs m
  pub either : (fs : List Formula) (m : ℕ) → Contains (numbers_of (formula.Or fs)) m ↔ IsWrittenAmong fs m
  pub implies : (f g : Formula) (m : ℕ) → Contains (numbers_of (formula.Implies f g)) m ↔ (Contains (numbers_of f) m ⊎ Contains (numbers_of g) m)
  pub iff : (f g : Formula) (m : ℕ) → Contains (numbers_of (formula.Iff f g)) m ↔ (Contains (numbers_of f) m ⊎ Contains (numbers_of g) m)
  pub every : (name : List ℕ) (d : ℕ) (f : Formula) (m : ℕ) → Contains (numbers_of (formula.All name d f)) m ↔ Contains (numbers_of f) m
  pub some : (name : List ℕ) (d : ℕ) (f : Formula) (m : ℕ) → Contains (numbers_of (formula.Ex name d f)) m ↔ Contains (numbers_of f) m
  pub one : (o : OneOp) (f : Formula) (m : ℕ) → Contains (numbers_of (formula.One o f)) m ↔ Contains (numbers_of f) m
  pub far : (o : FarOp) (f : Formula) (x : Term) (m : ℕ) → Contains (numbers_of (formula.Far o f x)) m ↔ (Contains (numbers_of f) m ⊎ Contains (numbers_in x) m)
  pub pair : (o : PairOp) (f g : Formula) (m : ℕ) → Contains (numbers_of (formula.Pair o f g)) m ↔ (Contains (numbers_of f) m ⊎ Contains (numbers_of g) m)

-- variables

-- one of these has a variable of this name
abbrev pub IsVariableAmong : List Formula → List ℕ → Type 0
IsVariableAmong fs v = (f : Formula) × Contains fs f × Contains (variables_of f) v

-- the names of which variables are those of a formula
pub record VariablesLaw : Type 0 where
  pub lone : (x : Term) (v : List ℕ) → Contains (variables_of (formula.Lone x)) v → ⊥
  pub compare : (r : Rel) (x y : Term) (v : List ℕ) → Contains (variables_of (formula.Compare r x y)) v → ⊥
  pub no : (f : Formula) (v : List ℕ) → Contains (variables_of (formula.Not f)) v ↔ Contains (variables_of f) v
  pub both : (fs : List Formula) (v : List ℕ) → Contains (variables_of (formula.And fs)) v ↔ IsVariableAmong fs v
  pub either : (fs : List Formula) (v : List ℕ) → Contains (variables_of (formula.Or fs)) v ↔ IsVariableAmong fs v
  pub implies : (f g : Formula) (v : List ℕ) → Contains (variables_of (formula.Implies f g)) v ↔ (Contains (variables_of f) v ⊎ Contains (variables_of g) v)
  pub iff : (f g : Formula) (v : List ℕ) → Contains (variables_of (formula.Iff f g)) v ↔ (Contains (variables_of f) v ⊎ Contains (variables_of g) v)
  pub every : (name : List ℕ) (d : ℕ) (f : Formula) (v : List ℕ) → Contains (variables_of (formula.All name d f)) v ↔ ((v ≡ name) ⊎ Contains (variables_of f) v)
  pub some : (name : List ℕ) (d : ℕ) (f : Formula) (v : List ℕ) → Contains (variables_of (formula.Ex name d f)) v ↔ ((v ≡ name) ⊎ Contains (variables_of f) v)
  pub one : (o : OneOp) (f : Formula) (v : List ℕ) → Contains (variables_of (formula.One o f)) v ↔ Contains (variables_of f) v
  pub far : (o : FarOp) (f : Formula) (x : Term) (v : List ℕ) → Contains (variables_of (formula.Far o f x)) v ↔ Contains (variables_of f) v
  pub pair : (o : PairOp) (f g : Formula) (v : List ℕ) → Contains (variables_of (formula.Pair o f g)) v ↔ (Contains (variables_of f) v ⊎ Contains (variables_of g) v)

-- the formula's variables are new where these names are taken
abbrev pub AreNew : Formula → List (List ℕ) → Type 0
AreNew f taken = variables_are_new f taken ≡ true

-- a variable's name is not taken, and its body's variables are new where it is taken too
abbrev pub IsNewWithBody : List ℕ → Formula → List (List ℕ) → Type 0
IsNewWithBody name f taken = (Contains taken name → ⊥) × AreNew f (taken ++ name ∷ [])

-- where the variables of a formula are new
pub record NewLaw : Type 0 where
  pub lone : (x : Term) (taken : List (List ℕ)) → AreNew (formula.Lone x) taken
  pub compare : (r : Rel) (x y : Term) (taken : List (List ℕ)) → AreNew (formula.Compare r x y) taken
  pub no : (f : Formula) (taken : List (List ℕ)) → AreNew (formula.Not f) taken ↔ AreNew f taken
  pub both : (fs : List Formula) (taken : List (List ℕ)) → AreNew (formula.And fs) taken ↔ ((f : Formula) → Contains fs f → AreNew f taken)
  pub either : (fs : List Formula) (taken : List (List ℕ)) → AreNew (formula.Or fs) taken ↔ ((f : Formula) → Contains fs f → AreNew f taken)
  pub implies : (f g : Formula) (taken : List (List ℕ)) → AreNew (formula.Implies f g) taken ↔ (AreNew f taken × AreNew g taken)
  pub iff : (f g : Formula) (taken : List (List ℕ)) → AreNew (formula.Iff f g) taken ↔ (AreNew f taken × AreNew g taken)
  pub every : (name : List ℕ) (d : ℕ) (f : Formula) (taken : List (List ℕ)) → AreNew (formula.All name d f) taken ↔ IsNewWithBody name f taken
  pub some : (name : List ℕ) (d : ℕ) (f : Formula) (taken : List (List ℕ)) → AreNew (formula.Ex name d f) taken ↔ IsNewWithBody name f taken
  pub one : (o : OneOp) (f : Formula) (taken : List (List ℕ)) → AreNew (formula.One o f) taken ↔ AreNew f taken
  pub far : (o : FarOp) (f : Formula) (x : Term) (taken : List (List ℕ)) → AreNew (formula.Far o f x) taken ↔ AreNew f taken
  pub pair : (o : PairOp) (f g : Formula) (taken : List (List ℕ)) → AreNew (formula.Pair o f g) taken ↔ (AreNew f taken × AreNew g taken)
