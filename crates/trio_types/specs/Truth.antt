-- The truth of a formula at an instant.
use Rattle.std.specs.Prelude.{ℕ, ℤ, pos, ◌+ℤ◌, ◌-ℤ◌, neg_ℤ, Bool, true, false, not, ◌&&◌, ◌||◌, nat_lt, int_lt, int_le, List, [], ◌∷◌, ◌++◌, Option, None, Some, filter}
use Rattle.std.specs.List.{list_all, list_any}
use Rattle.std.specs.Option.{option_map}
use Rattle.std.specs.Ordering.{int_eq}
use Rattle.trio_base.specs.declared.operators.Rel.{Rel}
use Rattle.trio_base.specs.declared.operators.Rel.TheVariants as rel
use Rattle.trio_base.specs.declared.operators.OneOp.{OneOp}
use Rattle.trio_base.specs.declared.operators.OneOp.TheVariants as one
use Rattle.trio_base.specs.declared.operators.Ends.{Ends}
use Rattle.trio_base.specs.declared.operators.Ends.TheVariants as ends
use Rattle.trio_base.specs.declared.operators.FarOp.{FarOp}
use Rattle.trio_base.specs.declared.operators.FarOp.TheVariants as far
use Rattle.trio_base.specs.declared.operators.PairOp.{PairOp}
use Rattle.trio_base.specs.declared.operators.PairOp.TheVariants as pair
use Rattle.trio_types.specs.declared.formula.Formula.{Formula}
use Rattle.trio_types.specs.declared.formula.Formula.TheOpen.{Formula-F}
use Rattle.trio_types.specs.declared.formula.Formula.TheOpen as open_formula
use Rattle.trio_types.specs.declared.formula.Formula.TheFolds.{fold-Formula}
use Rattle.trio_types.specs.World.{World, instants_of, values_in}
use Rattle.trio_types.specs.Values.{value}

-- true or false, by the environment, the table and the instant
abbrev pub Truth : Type 0
Truth = List ℤ → List ℕ → ℕ → Bool

-- a term without a value makes its atom false
abbrev pub is_value : ℤ → Option ℤ → Bool
is_value z None = false
is_value z (Some x) = int_eq x z

abbrev pub compares : Rel → ℤ → ℤ → Bool
compares rel.Eq x y = int_eq x y
compares rel.Ne x y = not (int_eq x y)
compares rel.Lt x y = int_lt x y
compares rel.Le x y = int_le x y
compares rel.Gt x y = int_lt y x
compares rel.Ge x y = int_le y x

abbrev pub relates : Rel → Option ℤ → Option ℤ → Bool
relates r (Some x) (Some y) = compares r x y
relates r x y = false

abbrev pub is_iff : Bool → Bool → Bool
is_iff true b = b
is_iff false b = not b

-- the instants after i, those before it, and those between two
abbrev pub after : World → ℕ → List ℕ
after world i = filter (λ j. nat_lt i j) (instants_of world)

abbrev pub before : World → ℕ → List ℕ
before world i = filter (λ j. nat_lt j i) (instants_of world)

abbrev pub between : World → ℕ → ℕ → List ℕ
between world i j = filter (λ k. nat_lt i k && nat_lt k j) (instants_of world)

-- j is the instant at this distance from i
abbrev pub is_at_distance : ℕ → Option ℤ → ℕ → Bool
is_at_distance i None j = false
is_at_distance i (Some d) j = int_eq (pos j) (pos i +ℤ d)

-- the instant at this distance from i, where it is inside time
abbrev pub at_distance : World → ℕ → Option ℤ → List ℕ
at_distance world i d = filter (is_at_distance i d) (instants_of world)

abbrev pub is_not_negative : Option ℤ → Bool
is_not_negative None = false
is_not_negative (Some d) = int_le (pos 0) d

-- whether now is among the instants of a range, and whether the instant at the distance is
abbrev pub takes_now : Ends → Bool
takes_now ends.Bare = false
takes_now ends.Ii = true
takes_now ends.Ie = true
takes_now ends.Ei = false

abbrev pub takes_far : Ends → Bool
takes_far ends.Bare = false
takes_far ends.Ii = true
takes_far ends.Ie = false
takes_far ends.Ei = true

-- x is below y, or, where the end is taken, at it
abbrev pub is_up_to : Bool → ℤ → ℤ → Bool
is_up_to true x y = int_le x y
is_up_to false x y = int_lt x y

-- j lies from i on up to the distance
abbrev pub is_ahead : Ends → ℕ → Option ℤ → ℕ → Bool
is_ahead s i None j = false
is_ahead s i (Some d) j = is_up_to (takes_now s) (pos i) (pos j) && is_up_to (takes_far s) (pos j) (pos i +ℤ d)

-- j lies from the distance back on up to i
abbrev pub is_behind : Ends → ℕ → Option ℤ → ℕ → Bool
is_behind s i None j = false
is_behind s i (Some d) j = is_up_to (takes_far s) (pos i -ℤ d) (pos j) && is_up_to (takes_now s) (pos j) (pos i)

-- the instants of the range that goes ahead from i over this distance, and of the one that goes back
abbrev pub ahead : World → Ends → ℕ → Option ℤ → List ℕ
ahead world s i d = filter (is_ahead s i d) (instants_of world)

abbrev pub behind : World → Ends → ℕ → Option ℤ → List ℕ
behind world s i d = filter (is_behind s i d) (instants_of world)

-- an operator on what is true at which instants, at i
abbrev pub one_truth : World → OneOp → (ℕ → Bool) → ℕ → Bool
one_truth world one.Alw f i = list_all f (instants_of world)
one_truth world one.Som f i = list_any f (instants_of world)
one_truth world one.AlwF f i = list_all f (after world i)
one_truth world one.SomF f i = list_any f (after world i)
one_truth world one.AlwP f i = list_all f (before world i)
one_truth world one.SomP f i = list_any f (before world i)

-- the same at a distance
abbrev pub far_truth : World → FarOp → (ℕ → Bool) → ℕ → Option ℤ → Bool
far_truth world far.Dist f i d = list_any f (at_distance world i d)
far_truth world far.Futr f i d = is_not_negative d && list_any f (at_distance world i d)
far_truth world far.Past f i d = is_not_negative d && list_any f (at_distance world i (option_map neg_ℤ d))
far_truth world (far.Lasts s) f i d = list_all f (ahead world s i d)
far_truth world (far.WithinF s) f i d = list_any f (ahead world s i d)
far_truth world (far.Lasted s) f i d = list_all f (behind world s i d)
far_truth world (far.WithinP s) f i d = list_any f (behind world s i d)
far_truth world far.NextTime f i d =
    (is_not_negative d && list_any f (at_distance world i d)) && list_all (λ j. not (f j)) (ahead world ends.Bare i d)
far_truth world far.LastTime f i d =
    (is_not_negative d && list_any f (at_distance world i (option_map neg_ℤ d))) && list_all (λ j. not (f j)) (behind world ends.Bare i d)

-- the same of two
abbrev pub pair_truth : World → PairOp → (ℕ → Bool) → (ℕ → Bool) → ℕ → Bool
pair_truth world pair.Until f g i = list_any (λ j. g j && list_all f (between world i j)) (after world i)
pair_truth world pair.Since f g i = list_any (λ j. g j && list_all f (between world j i)) (before world i)

abbrev pub formula_truth : World → Formula-F Truth → Truth
formula_truth world (open_formula.Lone x) e t i = is_value (pos 1) (value world x e t i)
formula_truth world (open_formula.Compare r x y) e t i = relates r (value world x e t i) (value world y e t i)
formula_truth world (open_formula.Not f) e t i = not (f e t i)
formula_truth world (open_formula.And fs) e t i = list_all (λ f. f e t i) fs
formula_truth world (open_formula.Or fs) e t i = list_any (λ f. f e t i) fs
formula_truth world (open_formula.Implies f g) e t i = not (f e t i) || g e t i
formula_truth world (open_formula.Iff f g) e t i = is_iff (f e t i) (g e t i)
formula_truth world (open_formula.All name d f) e t i = list_all (λ v. f (e ++ v ∷ []) t i) (values_in world.domains d)
formula_truth world (open_formula.Ex name d f) e t i = list_any (λ v. f (e ++ v ∷ []) t i) (values_in world.domains d)
formula_truth world (open_formula.One o f) e t i = one_truth world o (f e t) i
formula_truth world (open_formula.Far o f x) e t i = far_truth world o (f e t) i (value world x e t i)
formula_truth world (open_formula.Pair o f g) e t i = pair_truth world o (f e t) (g e t) i

-- the truth of a formula
unfoldable pub truth : World → Formula → Truth
truth world = fold-Formula Truth (formula_truth world)
