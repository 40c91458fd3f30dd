-- When a term or formula may be checked under values of its variables, and which instants a window selects.
use Rattle.std.specs.Prelude.{◌≡◌, ℕ, ◌+◌, ◌-◌, ◌<◌, ◌≤◌, ℤ, nat_abs, Bool, true, false, ◌&&◌, nat_lt, nat_le, List, [], ◌∷◌, ◌++◌, Option, None, Some, length, slice_get, MatchOption}
use Rattle.std.specs.List.{list_all, list_any, range_with_len}
use Rattle.trio_base.specs.declared.limits.TheConstants.{GREATEST_BOUND, MOST_OPEN}
use Rattle.trio_base.specs.declared.operators.OneOp.{OneOp}
use Rattle.trio_base.specs.declared.operators.PairOp.{PairOp}
use Rattle.trio_base.specs.declared.operators.PairOp.TheVariants as pair
use Rattle.trio_types.specs.declared.formula.Term.{Term}
use Rattle.trio_types.specs.declared.formula.Formula.{Formula}
use Rattle.trio_types.specs.World.{World, values_in}
use Rattle.trio_types.specs.Kinds.{is_right, term_uses, uses}
use Rattle.trio_types.specs.Bounds.{bound_of, greatest_bound}
use Rattle.trio_types.specs.Nest.{nest_of}
use Rattle.trio_types.specs.Truth.{is_iff, one_truth}

-- each number is a value of the domain at its place
pub record AreValues (world : World) (domains : List ℕ) (values : List ℤ) : Type 0 where
  pub as_many : length domains ≡ length values
  pub each : (k d : ℕ) (z : ℤ) → slice_get domains k ≡ Some d → slice_get values k ≡ Some z → (m : ℕ) × (slice_get (values_in world.domains d) m ≡ Some z)

-- a term of the right kind whose bound is met, under values of its variables
pub record TermFits (world : World) (x : Term) (values : List ℤ) : Type 0 where
  pub variables : List ℕ
  pub are_values : AreValues world variables values
  pub is_inside : Bool
  pub right : list_all is_right (term_uses world variables is_inside x) ≡ true
  pub bounded : (bound_of world variables x).most ≤ GREATEST_BOUND

-- the value is no greater than the term's bound
pub record IsWithin (world : World) (x : Term) (variables : List ℕ) (z : ℤ) : Type 0 where
  pub own : nat_abs z ≤ (bound_of world variables x).own
  pub most : nat_abs z ≤ (bound_of world variables x).most

abbrev pub IsBounded : World → Term → List ℤ → Option ℤ → Type 0
IsBounded world x values result = (variables : List ℕ) → AreValues world variables values → (z : ℤ) → result ≡ Some z → IsWithin world x variables z

-- a formula of which the same holds, with room for the variables in it
pub record FormulaFits (world : World) (f : Formula) (values : List ℤ) : Type 0 where
  pub variables : List ℕ
  pub are_values : AreValues world variables values
  pub right : list_all is_right (uses world f variables) ≡ true
  pub bounded : greatest_bound world f variables ≤ GREATEST_BOUND
  pub room : (nest_of f).plain + length values ≤ MOST_OPEN

abbrev pub AllFit : World → List Formula → List ℤ → Type 0
AllFit world fs values = (k : ℕ) (f : Formula) → slice_get fs k ≡ Some f → FormulaFits world f values

-- the body of a quantifier over this domain
pub record QuantifierFits (world : World) (domain : ℕ) (f : Formula) (values : List ℤ) : Type 0 where
  pub stands : domain < length world.domains
  pub room : length values < MOST_OPEN
  pub body : (m : ℕ) (z : ℤ) → slice_get (values_in world.domains domain) m ≡ Some z → FormulaFits world f (values ++ z ∷ [])

-- an axiom's own instant is inside time
abbrev pub AskedInside : World → Option ℕ → Type 0
AskedInside world None = Unit {0}
AskedInside world (Some k) = k < world.instants

-- a distance, if there is one, is no greater than a bound
abbrev pub IsNear : Option ℤ → Type 0
IsNear distance = (d : ℤ) → distance ≡ Some d → nat_abs d ≤ GREATEST_BOUND

-- the instants inside time that pass the test are those from one number on and before another
pub record Selects (instants from to : ℕ) (test : ℕ → Bool) : Type 0 where
  pub inside : to ≤ instants
  pub same : (j : ℕ) → j < instants → test j ≡ (nat_le from j && nat_lt j to)

-- what an operator says of a formula is what it says of its truth at these instants: at some of them, or at each
abbrev pub IsWindowOf : World → OneOp → ℕ → ℕ → ℕ → Bool → Type 0
IsWindowOf world operator i from to some =
    (f : ℕ → Bool) → one_truth world operator f i ≡ is_iff some (list_any (λ j. is_iff some (f j)) (range_with_len from (to - from)))

-- the first of these instants at which something is true, if there is one
pub record First (f : ℕ → Bool) (from to j : ℕ) : Type 0 where
  pub from_on : from ≤ j
  pub before : j < to
  pub true_there : f j ≡ true
  pub none_earlier : (k : ℕ) → from ≤ k → k < j → f k ≡ false

abbrev pub IsFirst : (ℕ → Bool) → ℕ → ℕ → Option ℕ → Type 0
IsFirst f from to result = MatchOption result ((k : ℕ) → from ≤ k → k < to → f k ≡ false) (First f from to)

-- the last instant before another at which something is true, if there is one
pub record Last (f : ℕ → Bool) (to j : ℕ) : Type 0 where
  pub before : j < to
  pub true_there : f j ≡ true
  pub none_later : (k : ℕ) → j < k → k < to → f k ≡ false

abbrev pub IsLast : (ℕ → Bool) → ℕ → Option ℕ → Type 0
IsLast f to result = MatchOption result ((k : ℕ) → k < to → f k ≡ false) (Last f to)

-- the instant nearest to another at which something is true: the first after it for Until, the last before it for Since
abbrev pub IsNearest : World → PairOp → (ℕ → Bool) → ℕ → Option ℕ → Type 0
IsNearest world pair.Until f i result = IsFirst f (i + 1) world.instants result
IsNearest world pair.Since f i result = IsLast f i result

-- the instants between two, whichever of them is the first
pub record IsBetween (i j from to : ℕ) : Type 0 where
  pub on : i ≤ j → (from ≡ i + 1) × (to ≡ j)
  pub back : j ≤ i → (from ≡ j + 1) × (to ≡ i)
