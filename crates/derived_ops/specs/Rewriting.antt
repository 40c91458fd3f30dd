-- The shape of the core formula that each formula becomes, operator by operator.
use Rattle.std.specs.Prelude.{ℕ, zero, suc, ◌+◌, ◌/◌, ℤ, pos, neg_ℤ, ◌-ℤ◌, true, if◌then◌else◌, List, [], ◌∷◌, ◌++◌, Option, None, Some, map, length, take, drop, slice_get}
use Rattle.trio_base.specs.declared.operators.Rel.{Rel}
use Rattle.trio_base.specs.declared.operators.Rel.TheVariants as rel
use Rattle.trio_base.specs.declared.operators.OneOp.{OneOp}
use Rattle.trio_base.specs.declared.operators.OneOp.TheVariants as one
use Rattle.trio_base.specs.declared.operators.Ends.{Ends}
use Rattle.trio_base.specs.declared.operators.Ends.TheVariants as ends
use Rattle.trio_base.specs.declared.operators.FarOp.{FarOp}
use Rattle.trio_base.specs.declared.operators.FarOp.TheVariants as far
use Rattle.trio_base.specs.declared.operators.PairOp.{PairOp}
use Rattle.trio_base.specs.declared.operators.PairOp.TheVariants as pair
use Rattle.trio_types.specs.declared.spec.DomainKind.{DomainKind}
use Rattle.trio_types.specs.declared.spec.DomainKind.TheVariants as kind
use Rattle.trio_types.specs.declared.spec.Domain.{Domain}
use Rattle.trio_types.specs.declared.formula.SignedTerm.{SignedTerm, roll-SignedTerm}
use Rattle.trio_types.specs.declared.formula.Term.{Term}
use Rattle.trio_types.specs.declared.formula.Term.TheVariants as term
use Rattle.trio_types.specs.declared.formula.Term.TheOpen.{Term-F, SignedTerm-F}
use Rattle.trio_types.specs.declared.formula.Term.TheOpen as open_term
use Rattle.trio_types.specs.declared.formula.Term.TheFolds.{fold-Term}
use Rattle.trio_types.specs.declared.formula.Formula.{Formula}
use Rattle.trio_types.specs.declared.formula.Formula.TheOpen.{Formula-F}
use Rattle.trio_types.specs.declared.formula.Formula.TheOpen as open_formula
use Rattle.trio_types.specs.declared.formula.Formula.TheFolds.{fold-Formula}
use Rattle.trio_types.specs.World.{World}
use Rattle.trio_types.specs.Truth.{takes_now, takes_far}
use Rattle.trio_core.specs.CoreShape.{Range}
use Rattle.derived_ops.specs.declared.joint.Joint.{Joint}
use Rattle.derived_ops.specs.declared.joint.Joint.TheVariants as joint
use Rattle.derived_ops.specs.declared.joint.Way.{Way}
use Rattle.derived_ops.specs.declared.joint.Way.TheVariants as way
use Rattle.derived_ops.specs.Shape.{Shape, atom, no, both, either, exists, dist, equal}

-- for each quantifier of the formula round a place the level of its variable in the core, from the outermost on
abbrev pub Levels : Type 0
Levels = List ℕ

-- a variable of which the level is known; without a quantifier it is 0
abbrev pub variable_at : Option ℕ → Term
variable_at None = term.Number 0
variable_at (Some level) = term.Var level

abbrev pub term_renamed : Levels → Term-F Term SignedTerm → Term
term_renamed levels (open_term.Number n) = term.Number n
term_renamed levels (open_term.Value d v) = term.Value d v
term_renamed levels (open_term.Var level) = variable_at (slice_get levels level)
term_renamed levels (open_term.Read number args) = term.Read number args
term_renamed levels (open_term.Sum parts) = term.Sum parts
term_renamed levels (open_term.Times n x) = term.Times n x

abbrev pub part_renamed : SignedTerm-F Term SignedTerm → SignedTerm
part_renamed p = roll-SignedTerm p

-- a term with its variables at their levels in the core
unfoldable pub renamed : Levels → Term → Term
renamed levels = fold-Term Term SignedTerm (term_renamed levels) part_renamed

-- a shape, by the number of variables round its place and the levels of those of the formula
abbrev pub Written : Type 0
Written = ℕ → Levels → Shape

abbrev pub opposite : Written → Written
opposite f k levels = no (f k levels)

-- the first half of the parts, the others, and the two joined; one part is itself
-- (the depth is at least that of the halving where it is the number of parts)
abbrev pub joined : (Shape → Shape → Shape) → Shape → ℕ → List Shape → Shape
joined join none depth [] = none
joined join none depth (s ∷ []) = s
joined join none zero (s ∷ u ∷ ss) = join s (joined join none zero (u ∷ ss))
joined join none (suc depth) (s ∷ u ∷ ss) =
    let half = (length (s ∷ u ∷ ss) + 1) / 2 in
    join (joined join none depth (take half (s ∷ u ∷ ss))) (joined join none depth (drop half (s ∷ u ∷ ss)))

-- what is true without any part, and what joins two
abbrev pub of_none : Joint → Shape
of_none joint.And = atom rel.Eq (term.Number 0) (term.Number 0)
of_none joint.Or = no (atom rel.Eq (term.Number 0) (term.Number 0))

abbrev pub of_two : Joint → Shape → Shape → Shape
of_two joint.And = both
of_two joint.Or = either

abbrev pub all_joined : Joint → List Shape → Shape
all_joined j ss = joined (of_two j) (of_none j) (length ss) ss

-- from the first value of a domain to its last; nothing lies between for a domain that is not there
abbrev pub range_of_kind : DomainKind → Range
range_of_kind kind.Bool = record { low = pos 0; high = pos 1 }
range_of_kind (kind.Range low high) = record { low = low; high = high }
range_of_kind (kind.Words words) = record { low = pos 0; high = pos (length words) -ℤ pos 1 }

abbrev range_of_option : Option Domain → Range
range_of_option None = record { low = pos 0; high = neg_ℤ (pos 1) }
range_of_option (Some domain) = range_of_kind domain.kind

abbrev pub range_of_domain : World → ℕ → Range
range_of_domain world d = range_of_option (slice_get world.domains d)

abbrev pub for_some : Range → Written → Written
for_some range f k levels = exists range.low range.high (f (k + 1) (levels ++ k ∷ []))

-- the greatest distance inside time
abbrev pub last : World → ℤ
last world = pos world.instants -ℤ pos 1

-- the opposite of a term: the sum of the one part, subtracted
abbrev pub minus : Term → Term
minus x = term.Sum (roll-SignedTerm (record { minus = true; term = x }) ∷ [])

-- the distance ahead or back
abbrev pub towards : Way → Term → Term
towards way.Ahead x = x
towards way.Back x = minus x

-- at some distance from low to high, which is the new variable
abbrev pub somewhere : ℤ → ℤ → Written → Written
somewhere low high f k levels = exists low high (dist (f (k + 1) levels) (term.Var k))

abbrev pub one_written : World → OneOp → Written → Written
one_written world one.Som f = somewhere (neg_ℤ (last world)) (last world) f
one_written world one.SomF f = somewhere (pos 1) (last world) f
one_written world one.SomP f = somewhere (neg_ℤ (last world)) (neg_ℤ (pos 1)) f
one_written world one.Alw f = opposite (somewhere (neg_ℤ (last world)) (last world) (opposite f))
one_written world one.AlwF f = opposite (somewhere (pos 1) (last world) (opposite f))
one_written world one.AlwP f = opposite (somewhere (neg_ℤ (last world)) (neg_ℤ (pos 1)) (opposite f))

abbrev pub dist_written : Written → Term → Written
dist_written f x k levels = dist (f k levels) (renamed levels x)

-- at a distance that is not negative
abbrev pub at_far : Way → Written → Term → Written
at_far w f x k levels = both (atom rel.Le (term.Number 0) (renamed levels x)) (dist (f k levels) (towards w (renamed levels x)))

-- the least distance of a range, and the relation of a distance to the greatest
abbrev pub least_of : Ends → ℤ
least_of s = if takes_now s then pos 0 else pos 1

abbrev pub relation_of : Ends → Rel
relation_of s = if takes_far s then rel.Le else rel.Lt

-- at some distance of the range
abbrev pub within : World → Way → Ends → Written → Term → Written
within world w s f x k levels =
    exists (least_of s) (last world) (both (atom (relation_of s) (term.Var k) (renamed levels x)) (dist (f (k + 1) levels) (towards w (term.Var k))))

-- at each distance of the range
abbrev pub throughout : World → Way → Ends → Written → Term → Written
throughout world w s f x = opposite (within world w s (opposite f) x)

-- at the distance, and at none before it
abbrev pub next : World → Way → Written → Term → Written
next world w f x k levels = both (at_far w f x k levels) (throughout world w ends.Bare (opposite f) x k levels)

abbrev pub far_written : World → FarOp → Written → Term → Written
far_written world far.Dist f x = dist_written f x
far_written world far.Futr f x = at_far way.Ahead f x
far_written world far.Past f x = at_far way.Back f x
far_written world far.NextTime f x = next world way.Ahead f x
far_written world far.LastTime f x = next world way.Back f x
far_written world (far.Lasts s) f x = throughout world way.Ahead s f x
far_written world (far.Lasted s) f x = throughout world way.Back s f x
far_written world (far.WithinF s) f x = within world way.Ahead s f x
far_written world (far.WithinP s) f x = within world way.Back s f x

-- at no distance below that of the variable just outside is the first formula false
abbrev pub up_to : World → Way → Written → Written
up_to world w f k levels =
    no (exists (pos 1) (last world) (both (atom rel.Lt (term.Var (k + 1)) (term.Var k)) (dist (no (f (k + 2) levels)) (towards w (term.Var (k + 1))))))

abbrev pub until : World → Way → Written → Written → Written
until world w f g k levels =
    exists (pos 1) (last world) (both (dist (g (k + 1) levels) (towards w (term.Var k))) (up_to world w f k levels))

abbrev pub way_of : PairOp → Way
way_of pair.Until = way.Ahead
way_of pair.Since = way.Back

abbrev pub formula_written : World → Formula-F Written → Written
formula_written world (open_formula.Lone x) k levels = atom rel.Eq (renamed levels x) (term.Value 0 1)
formula_written world (open_formula.Compare r x y) k levels = atom r (renamed levels x) (renamed levels y)
formula_written world (open_formula.Not f) k levels = no (f k levels)
formula_written world (open_formula.And fs) k levels = all_joined joint.And (map (λ f. f k levels) fs)
formula_written world (open_formula.Or fs) k levels = all_joined joint.Or (map (λ f. f k levels) fs)
formula_written world (open_formula.Implies f g) k levels = either (no (f k levels)) (g k levels)
formula_written world (open_formula.Iff f g) k levels = equal (f k levels) (g k levels)
formula_written world (open_formula.All name d f) k levels = opposite (for_some (range_of_domain world d) (opposite f)) k levels
formula_written world (open_formula.Ex name d f) k levels = for_some (range_of_domain world d) f k levels
formula_written world (open_formula.One o f) k levels = one_written world o f k levels
formula_written world (open_formula.Far o f x) k levels = far_written world o f x k levels
formula_written world (open_formula.Pair o f g) k levels = until world (way_of o) f g k levels

-- what a formula becomes
unfoldable pub written : World → Formula → Written
written world = fold-Formula Written (formula_written world)
