-- The laws of truth, of terms, of verdicts and of cells, in words.
use Rattle.std.specs.Prelude.{◌≡◌, ◌≢◌, ◌↔◌, ◌⊎◌, ℕ, ◌+◌, ◌*◌, ◌<◌, ◌≤◌, ℤ, pos, neg_ℤ, ◌+ℤ◌, ◌-ℤ◌, ◌*ℤ◌, ◌<ℤ◌, ◌≤ℤ◌, true, false, not, List, [], ◌∷◌, ◌++◌, Option, None, Some, length, slice_get, codes}
use Rattle.std.specs.List.{Contains}
use Rattle.trio_base.specs.Names.{is_name}
use Rattle.trio_base.specs.declared.operators.Rel.{Rel}
use Rattle.trio_base.specs.declared.operators.Rel.TheVariants as rel
use Rattle.trio_base.specs.declared.operators.OneOp.TheVariants as one
use Rattle.trio_base.specs.declared.operators.Ends.{Ends}
use Rattle.trio_base.specs.declared.operators.Ends.TheVariants as ends
use Rattle.trio_base.specs.declared.operators.FarOp.TheVariants as far
use Rattle.trio_base.specs.declared.operators.PairOp.TheVariants as pair
use Rattle.trio_types.specs.declared.formula.SignedTerm.{SignedTerm, out-SignedTerm}
use Rattle.trio_types.specs.declared.formula.Term.{Term}
use Rattle.trio_types.specs.declared.formula.Term.TheVariants as term
use Rattle.trio_types.specs.declared.formula.Formula.{Formula}
use Rattle.trio_types.specs.declared.formula.Formula.TheVariants as formula
use Rattle.trio_types.specs.declared.spec.DomainKind.{DomainKind}
use Rattle.trio_types.specs.declared.spec.DomainKind.TheVariants as kind
use Rattle.trio_types.specs.declared.spec.Domain.{Domain}
use Rattle.trio_types.specs.declared.spec.Item.{Item}
use Rattle.trio_types.specs.declared.spec.Axiom.{Axiom}
use Rattle.trio_types.specs.declared.spec.Spec.{Spec}
use Rattle.trio_types.specs.declared.spec.Which.{Which}
use Rattle.trio_types.specs.World.{World, values_of, size_of}
use Rattle.trio_types.specs.Cells.{Row, rows_of, Cell, the_cell, cells_of, value_at, IsTable}
use Rattle.trio_types.specs.Values.{value}
use Rattle.trio_types.specs.Truth.{truth}
use Rattle.trio_types.specs.Parts.{Parts}
use Rattle.trio_types.specs.Kinds.{Use, uses_of, is_right}
use Rattle.trio_types.specs.Names.{declared_names, variables_of, variables_are_new}
use Rattle.trio_types.specs.Shape.{is_shaped, numbers_of}
use Rattle.trio_types.specs.Limits.{count_of, limit_of}
use Rattle.trio_types.specs.WellFormed.{is_well_formed}
use Rattle.trio_types.specs.Verdict.{world_of, is_true_in, first_false}

-- connectives

-- every part is true
abbrev pub EachTrue : World → List Formula → List ℤ → List ℕ → ℕ → Type 0
EachTrue w fs e t i = (k : ℕ) (f : Formula) → slice_get fs k ≡ Some f → truth w f e t i ≡ true

-- a part is true
pub record SomeTrue (w : World) (fs : List Formula) (e : List ℤ) (t : List ℕ) (i : ℕ) : Type 0 where
  pub place : ℕ
  pub part : Formula
  pub stands : slice_get fs place ≡ Some part
  pub true_there : truth w part e t i ≡ true

abbrev pub NotLaw : Type 0
NotLaw = (w : World) (f : Formula) (e : List ℤ) (t : List ℕ) (i : ℕ) →
    (truth w (formula.Not f) e t i ≡ true) ↔ (truth w f e t i ≡ false)

abbrev pub AndLaw : Type 0
AndLaw = (w : World) (fs : List Formula) (e : List ℤ) (t : List ℕ) (i : ℕ) →
    (truth w (formula.And fs) e t i ≡ true) ↔ EachTrue w fs e t i

abbrev pub OrLaw : Type 0
OrLaw = (w : World) (fs : List Formula) (e : List ℤ) (t : List ℕ) (i : ℕ) →
    (truth w (formula.Or fs) e t i ≡ true) ↔ SomeTrue w fs e t i

abbrev pub ImpliesLaw : Type 0
ImpliesLaw = (w : World) (f g : Formula) (e : List ℤ) (t : List ℕ) (i : ℕ) →
    (truth w (formula.Implies f g) e t i ≡ true) ↔ (truth w f e t i ≡ true → truth w g e t i ≡ true)

abbrev pub IffLaw : Type 0
IffLaw = (w : World) (f g : Formula) (e : List ℤ) (t : List ℕ) (i : ℕ) →
    (truth w (formula.Iff f g) e t i ≡ true) ↔ (truth w f e t i ≡ truth w g e t i)

-- quantifiers

-- a value of these: one of a range's numbers, or an index of bool or of words
abbrev pub IsValue : DomainKind → ℤ → Type 0
IsValue kind.Bool z = (z ≡ pos 0) ⊎ (z ≡ pos 1)
IsValue (kind.Range low high) z = (low ≤ℤ z) × (z ≤ℤ high)
IsValue (kind.Words words) z = (k : ℕ) × (k < length words) × (z ≡ pos k)

-- the formula is true for some value of the variable
pub record TrueForSome (w : World) (values : DomainKind) (f : Formula) (e : List ℤ) (t : List ℕ) (i : ℕ) : Type 0 where
  pub number : ℤ
  pub is_value : IsValue values number
  pub true_for : truth w f (e ++ number ∷ []) t i ≡ true

abbrev pub AllLaw : Type 0
AllLaw = (w : World) (name : List ℕ) (d : ℕ) (domain : Domain) (f : Formula) (e : List ℤ) (t : List ℕ) (i : ℕ) → slice_get w.domains d ≡ Some domain →
    (truth w (formula.All name d f) e t i ≡ true) ↔ ((z : ℤ) → IsValue domain.kind z → truth w f (e ++ z ∷ []) t i ≡ true)

abbrev pub ExLaw : Type 0
ExLaw = (w : World) (name : List ℕ) (d : ℕ) (domain : Domain) (f : Formula) (e : List ℤ) (t : List ℕ) (i : ℕ) → slice_get w.domains d ≡ Some domain →
    (truth w (formula.Ex name d f) e t i ≡ true) ↔ TrueForSome w domain.kind f e t i

-- operators on one formula

-- the formula is true at each instant inside time that lies there
abbrev pub TrueAtEach : World → Formula → List ℤ → List ℕ → (ℕ → Type 0) → Type 0
TrueAtEach w f e t There = (j : ℕ) → j < w.instants → There j → truth w f e t j ≡ true

-- the formula is true at some instant inside time that lies there
pub record TrueAtSome (w : World) (f : Formula) (e : List ℤ) (t : List ℕ) (There : ℕ → Type 0) : Type 0 where
  pub instant : ℕ
  pub inside : instant < w.instants
  pub there : There instant
  pub true_there : truth w f e t instant ≡ true

abbrev pub AlwLaw : Type 0
AlwLaw = (w : World) (f : Formula) (e : List ℤ) (t : List ℕ) (i : ℕ) →
    (truth w (formula.One one.Alw f) e t i ≡ true) ↔ TrueAtEach w f e t (λ j. Unit {0})

abbrev pub SomLaw : Type 0
SomLaw = (w : World) (f : Formula) (e : List ℤ) (t : List ℕ) (i : ℕ) →
    (truth w (formula.One one.Som f) e t i ≡ true) ↔ TrueAtSome w f e t (λ j. Unit {0})

abbrev pub AlwFLaw : Type 0
AlwFLaw = (w : World) (f : Formula) (e : List ℤ) (t : List ℕ) (i : ℕ) →
    (truth w (formula.One one.AlwF f) e t i ≡ true) ↔ TrueAtEach w f e t (λ j. i < j)

abbrev pub SomFLaw : Type 0
SomFLaw = (w : World) (f : Formula) (e : List ℤ) (t : List ℕ) (i : ℕ) →
    (truth w (formula.One one.SomF f) e t i ≡ true) ↔ TrueAtSome w f e t (λ j. i < j)

abbrev pub AlwPLaw : Type 0
AlwPLaw = (w : World) (f : Formula) (e : List ℤ) (t : List ℕ) (i : ℕ) →
    (truth w (formula.One one.AlwP f) e t i ≡ true) ↔ TrueAtEach w f e t (λ j. j < i)

abbrev pub SomPLaw : Type 0
SomPLaw = (w : World) (f : Formula) (e : List ℤ) (t : List ℕ) (i : ℕ) →
    (truth w (formula.One one.SomP f) e t i ≡ true) ↔ TrueAtSome w f e t (λ j. j < i)

-- operators at a distance

-- the term has a value, and the formula is true at some instant inside time that lies there
pub record TrueAtFar (w : World) (f : Formula) (x : Term) (e : List ℤ) (t : List ℕ) (i : ℕ) (There : ℤ → ℕ → Type 0) : Type 0 where
  pub distance : ℤ
  pub given : value w x e t i ≡ Some distance
  pub instant : ℕ
  pub inside : instant < w.instants
  pub there : There distance instant
  pub true_there : truth w f e t instant ≡ true

-- the formula is true at each instant inside time that lies there
abbrev pub TrueAtEachFar : World → Formula → Term → List ℤ → List ℕ → ℕ → (ℤ → ℕ → Type 0) → Type 0
TrueAtEachFar w f x e t i There = (d : ℤ) → value w x e t i ≡ Some d → (j : ℕ) → j < w.instants → There d j → truth w f e t j ≡ true

-- j is the instant that far ahead of i, or that far back
abbrev pub IsFuture : ℕ → ℤ → ℕ → Type 0
IsFuture i d j = (pos 0 ≤ℤ d) × (pos j ≡ (pos i +ℤ d))

abbrev pub IsPast : ℕ → ℤ → ℕ → Type 0
IsPast i d j = (pos 0 ≤ℤ d) × (pos j ≡ (pos i -ℤ d))

-- j lies in the range of length d ahead of i; with the suffixes the range has now, its far end, or both
abbrev pub Ahead : Ends → ℕ → ℤ → ℕ → Type 0
Ahead ends.Bare i d j = (i < j) × (pos j <ℤ (pos i +ℤ d))
Ahead ends.Ii i d j = (i ≤ j) × (pos j ≤ℤ (pos i +ℤ d))
Ahead ends.Ie i d j = (i ≤ j) × (pos j <ℤ (pos i +ℤ d))
Ahead ends.Ei i d j = (i < j) × (pos j ≤ℤ (pos i +ℤ d))

-- the same back from i
abbrev pub Behind : Ends → ℕ → ℤ → ℕ → Type 0
Behind ends.Bare i d j = ((pos i -ℤ d) <ℤ pos j) × (j < i)
Behind ends.Ii i d j = ((pos i -ℤ d) ≤ℤ pos j) × (j ≤ i)
Behind ends.Ie i d j = ((pos i -ℤ d) <ℤ pos j) × (j ≤ i)
Behind ends.Ei i d j = ((pos i -ℤ d) ≤ℤ pos j) × (j < i)

abbrev pub DistLaw : Type 0
DistLaw = (w : World) (f : Formula) (x : Term) (e : List ℤ) (t : List ℕ) (i : ℕ) →
    (truth w (formula.Far far.Dist f x) e t i ≡ true) ↔ TrueAtFar w f x e t i (λ d j. pos j ≡ (pos i +ℤ d))

abbrev pub FutrLaw : Type 0
FutrLaw = (w : World) (f : Formula) (x : Term) (e : List ℤ) (t : List ℕ) (i : ℕ) →
    (truth w (formula.Far far.Futr f x) e t i ≡ true) ↔ TrueAtFar w f x e t i (IsFuture i)

abbrev pub PastLaw : Type 0
PastLaw = (w : World) (f : Formula) (x : Term) (e : List ℤ) (t : List ℕ) (i : ℕ) →
    (truth w (formula.Far far.Past f x) e t i ≡ true) ↔ TrueAtFar w f x e t i (IsPast i)

abbrev pub LastsLaw : Type 0
LastsLaw = (w : World) (s : Ends) (f : Formula) (x : Term) (e : List ℤ) (t : List ℕ) (i : ℕ) →
    (truth w (formula.Far (far.Lasts s) f x) e t i ≡ true) ↔ TrueAtEachFar w f x e t i (Ahead s i)

abbrev pub WithinFLaw : Type 0
WithinFLaw = (w : World) (s : Ends) (f : Formula) (x : Term) (e : List ℤ) (t : List ℕ) (i : ℕ) →
    (truth w (formula.Far (far.WithinF s) f x) e t i ≡ true) ↔ TrueAtFar w f x e t i (Ahead s i)

abbrev pub LastedLaw : Type 0
LastedLaw = (w : World) (s : Ends) (f : Formula) (x : Term) (e : List ℤ) (t : List ℕ) (i : ℕ) →
    (truth w (formula.Far (far.Lasted s) f x) e t i ≡ true) ↔ TrueAtEachFar w f x e t i (Behind s i)

abbrev pub WithinPLaw : Type 0
WithinPLaw = (w : World) (s : Ends) (f : Formula) (x : Term) (e : List ℤ) (t : List ℕ) (i : ℕ) →
    (truth w (formula.Far (far.WithinP s) f x) e t i ≡ true) ↔ TrueAtFar w f x e t i (Behind s i)

-- the formula is true next at the distance, and at no instant between
abbrev pub NextTimeLaw : Type 0
NextTimeLaw = (w : World) (f : Formula) (x : Term) (e : List ℤ) (t : List ℕ) (i : ℕ) →
    (truth w (formula.Far far.NextTime f x) e t i ≡ true) ↔ (TrueAtFar w f x e t i (IsFuture i) × TrueAtEachFar w (formula.Not f) x e t i (Ahead ends.Bare i))

abbrev pub LastTimeLaw : Type 0
LastTimeLaw = (w : World) (f : Formula) (x : Term) (e : List ℤ) (t : List ℕ) (i : ℕ) →
    (truth w (formula.Far far.LastTime f x) e t i ≡ true) ↔ (TrueAtFar w f x e t i (IsPast i) × TrueAtEachFar w (formula.Not f) x e t i (Behind ends.Bare i))

-- operators on two formulas

-- an instant after i inside time at which g is true, such that f is true at each instant between
pub record TrueUntil (w : World) (f g : Formula) (e : List ℤ) (t : List ℕ) (i : ℕ) : Type 0 where
  pub instant : ℕ
  pub inside : instant < w.instants
  pub later : i < instant
  pub there : truth w g e t instant ≡ true
  pub between : (k : ℕ) → i < k → k < instant → truth w f e t k ≡ true

-- an instant before i inside time at which g is true, such that f is true at each instant between
pub record TrueSince (w : World) (f g : Formula) (e : List ℤ) (t : List ℕ) (i : ℕ) : Type 0 where
  pub instant : ℕ
  pub inside : instant < w.instants
  pub earlier : instant < i
  pub there : truth w g e t instant ≡ true
  pub between : (k : ℕ) → instant < k → k < i → truth w f e t k ≡ true

abbrev pub UntilLaw : Type 0
UntilLaw = (w : World) (f g : Formula) (e : List ℤ) (t : List ℕ) (i : ℕ) →
    (truth w (formula.Pair pair.Until f g) e t i ≡ true) ↔ TrueUntil w f g e t i

-- here i is inside time
abbrev pub SinceLaw : Type 0
SinceLaw = (w : World) (f g : Formula) (e : List ℤ) (t : List ℕ) (i : ℕ) → i < w.instants →
    (truth w (formula.Pair pair.Since f g) e t i ≡ true) ↔ TrueSince w f g e t i

-- pairs of opposites
abbrev pub OneOppositeLaw : Type 0
OneOppositeLaw = (w : World) (f : Formula) (e : List ℤ) (t : List ℕ) (i : ℕ) →
    (truth w (formula.One one.Alw f) e t i ≡ not (truth w (formula.One one.Som (formula.Not f)) e t i))
    × (truth w (formula.One one.AlwF f) e t i ≡ not (truth w (formula.One one.SomF (formula.Not f)) e t i))
    × (truth w (formula.One one.AlwP f) e t i ≡ not (truth w (formula.One one.SomP (formula.Not f)) e t i))

abbrev pub FarOppositeLaw : Type 0
FarOppositeLaw = (w : World) (s : Ends) (f : Formula) (x : Term) (e : List ℤ) (t : List ℕ) (i : ℕ) →
    (truth w (formula.Far (far.Lasts s) f x) e t i ≡ not (truth w (formula.Far (far.WithinF s) (formula.Not f) x) e t i))
    × (truth w (formula.Far (far.Lasted s) f x) e t i ≡ not (truth w (formula.Far (far.WithinP s) (formula.Not f) x) e t i))

abbrev pub QuantifierOppositeLaw : Type 0
QuantifierOppositeLaw = (w : World) (name : List ℕ) (d : ℕ) (f : Formula) (e : List ℤ) (t : List ℕ) (i : ℕ) →
    truth w (formula.All name d f) e t i ≡ not (truth w (formula.Ex name d (formula.Not f)) e t i)

-- no instant inside time lies there
abbrev pub NoneFar : World → Term → List ℤ → List ℕ → ℕ → (ℤ → ℕ → Type 0) → Type 0
NoneFar w x e t i There = (d : ℤ) → value w x e t i ≡ Some d → (j : ℕ) → j < w.instants → There d j → ⊥

abbrev pub EmptyAheadLaw : Type 0
EmptyAheadLaw = (w : World) (s : Ends) (f : Formula) (x : Term) (e : List ℤ) (t : List ℕ) (i : ℕ) → NoneFar w x e t i (Ahead s i) →
    (truth w (formula.Far (far.Lasts s) f x) e t i ≡ true) × (truth w (formula.Far (far.WithinF s) f x) e t i ≡ false)

abbrev pub EmptyBehindLaw : Type 0
EmptyBehindLaw = (w : World) (s : Ends) (f : Formula) (x : Term) (e : List ℤ) (t : List ℕ) (i : ℕ) → NoneFar w x e t i (Behind s i) →
    (truth w (formula.Far (far.Lasted s) f x) e t i ≡ true) × (truth w (formula.Far (far.WithinP s) f x) e t i ≡ false)

-- atoms

abbrev pub Related : Rel → ℤ → ℤ → Type 0
Related rel.Eq x y = x ≡ y
Related rel.Ne x y = x ≢ y
Related rel.Lt x y = x <ℤ y
Related rel.Le x y = x ≤ℤ y
Related rel.Gt x y = y <ℤ x
Related rel.Ge x y = y ≤ℤ x

-- both terms have values, and these stand in the relation
pub record ValuesRelated (w : World) (r : Rel) (x y : Term) (e : List ℤ) (t : List ℕ) (i : ℕ) : Type 0 where
  pub left : ℤ
  pub right : ℤ
  pub left_is : value w x e t i ≡ Some left
  pub right_is : value w y e t i ≡ Some right
  pub related : Related r left right

abbrev pub CompareLaw : Type 0
CompareLaw = (w : World) (r : Rel) (x y : Term) (e : List ℤ) (t : List ℕ) (i : ℕ) →
    (truth w (formula.Compare r x y) e t i ≡ true) ↔ ValuesRelated w r x y e t i

abbrev pub LoneLaw : Type 0
LoneLaw = (w : World) (x : Term) (e : List ℤ) (t : List ℕ) (i : ℕ) →
    (truth w (formula.Lone x) e t i ≡ true) ↔ (value w x e t i ≡ Some (pos 1))

-- an atom that holds a term without a value is false
abbrev pub NoValueLaw : Type 0
NoValueLaw = (w : World) (r : Rel) (x y : Term) (e : List ℤ) (t : List ℕ) (i : ℕ) → value w x e t i ≡ None →
    (truth w (formula.Lone x) e t i ≡ false) × (truth w (formula.Compare r x y) e t i ≡ false) × (truth w (formula.Compare r y x) e t i ≡ false)

-- a truth constant is true exactly at index 1
abbrev pub ConstantLaw : Type 0
ConstantLaw = (w : World) (v : ℕ) (e : List ℤ) (t : List ℕ) (i : ℕ) →
    (truth w (formula.Lone (term.Value 0 v)) e t i ≡ true) ↔ (v ≡ 1)

-- the number that an index stands for
abbrev pub number_of_index : DomainKind → ℕ → ℤ
number_of_index kind.Bool v = pos v
number_of_index (kind.Range low high) v = low +ℤ pos v
number_of_index (kind.Words words) v = pos v

-- the values of the arguments are those of their domains with these indexes
pub record AreArguments (w : World) (item : Item) (args : List Term) (vs : List ℕ) (e : List ℤ) (t : List ℕ) (i : ℕ) : Type 0 where
  pub enough : length args ≡ length item.args
  pub as_many : length vs ≡ length item.args
  pub each : (k : ℕ) (d : ℕ) (domain : Domain) (v : ℕ) (x : Term) → slice_get item.args k ≡ Some d → slice_get w.domains d ≡ Some domain →
      slice_get vs k ≡ Some v → slice_get args k ≡ Some x → (v < length (values_of domain.kind)) × (value w x e t i ≡ Some (number_of_index domain.kind v))

-- an item reads as what the table has at the cell of its arguments' indexes and the instant
abbrev pub ReadLaw : Type 0
ReadLaw = (w : World) (number : ℕ) (item : Item) (domain : Domain) (args : List Term) (vs : List ℕ) (e : List ℤ) (t : List ℕ) (i n v : ℕ) →
    slice_get w.items number ≡ Some item → slice_get w.domains item.value ≡ Some domain → ((k d : ℕ) → slice_get item.args k ≡ Some d → d < length w.domains) →
    AreArguments w item args vs e t i → IsTable w t → slice_get (cells_of w) n ≡ Some (the_cell number vs i) → slice_get t n ≡ Some v →
    value w (term.Read number args) e t i ≡ Some (number_of_index domain.kind v)

-- a read has no value where an argument is outside its domain
abbrev pub OutsideLaw : Type 0
OutsideLaw = (w : World) (number : ℕ) (item : Item) (domain : Domain) (args : List Term) (e : List ℤ) (t : List ℕ) (i k d : ℕ) (x : Term) (z : ℤ) →
    slice_get w.items number ≡ Some item → slice_get item.args k ≡ Some d → slice_get w.domains d ≡ Some domain → slice_get args k ≡ Some x →
    value w x e t i ≡ Some z → (IsValue domain.kind z → ⊥) → value w (term.Read number args) e t i ≡ None

-- and none where an argument has none, where there are more or fewer than the item has, and where there is no such item
abbrev pub NoArgumentLaw : Type 0
NoArgumentLaw = (w : World) (number : ℕ) (args : List Term) (x : Term) (e : List ℤ) (t : List ℕ) (i : ℕ) → Contains args x → value w x e t i ≡ None →
    value w (term.Read number args) e t i ≡ None

abbrev pub ArityLaw : Type 0
ArityLaw = (w : World) (number : ℕ) (item : Item) (args : List Term) (e : List ℤ) (t : List ℕ) (i : ℕ) → slice_get w.items number ≡ Some item →
    length args ≢ length item.args → value w (term.Read number args) e t i ≡ None

abbrev pub NoItemLaw : Type 0
NoItemLaw = (w : World) (number : ℕ) (args : List Term) (e : List ℤ) (t : List ℕ) (i : ℕ) → slice_get w.items number ≡ None → value w (term.Read number args) e t i ≡ None

-- an empty sum is 0
abbrev pub NoPartLaw : Type 0
NoPartLaw = (w : World) (e : List ℤ) (t : List ℕ) (i : ℕ) → value w (term.Sum []) e t i ≡ Some (pos 0)

-- a part adds its value, and with a sign it takes it away
abbrev pub PartLaw : Type 0
PartLaw = (w : World) (p : SignedTerm) (ps : List SignedTerm) (e : List ℤ) (t : List ℕ) (i : ℕ) (a b : ℤ) →
    value w (out-SignedTerm p).term e t i ≡ Some a → value w (term.Sum ps) e t i ≡ Some b →
    ((out-SignedTerm p).minus ≡ false → value w (term.Sum (p ∷ ps)) e t i ≡ Some (a +ℤ b))
    × ((out-SignedTerm p).minus ≡ true → value w (term.Sum (p ∷ ps)) e t i ≡ Some (b -ℤ a))

abbrev pub TimesLaw : Type 0
TimesLaw = (w : World) (n : ℕ) (x : Term) (e : List ℤ) (t : List ℕ) (i : ℕ) (a : ℤ) → value w x e t i ≡ Some a → value w (term.Times n x) e t i ≡ Some (pos n *ℤ a)

-- a sum has no value where a part has none, and a product none where its factor has none
abbrev pub NoSumLaw : Type 0
NoSumLaw = (w : World) (p : SignedTerm) (ps : List SignedTerm) (e : List ℤ) (t : List ℕ) (i : ℕ) → Contains ps p → value w (out-SignedTerm p).term e t i ≡ None →
    value w (term.Sum ps) e t i ≡ None

abbrev pub NoProductLaw : Type 0
NoProductLaw = (w : World) (n : ℕ) (x : Term) (e : List ℤ) (t : List ℕ) (i : ℕ) → value w x e t i ≡ None → value w (term.Times n x) e t i ≡ None

-- a number is itself, a word or truth constant its index, and a variable the value that its quantifier gives it
abbrev pub NumberLaw : Type 0
NumberLaw = (w : World) (n : ℕ) (e : List ℤ) (t : List ℕ) (i : ℕ) → value w (term.Number n) e t i ≡ Some (pos n)

abbrev pub IndexLaw : Type 0
IndexLaw = (w : World) (d v : ℕ) (e : List ℤ) (t : List ℕ) (i : ℕ) → value w (term.Value d v) e t i ≡ Some (pos v)

abbrev pub VariableLaw : Type 0
VariableLaw = (w : World) (level : ℕ) (z : ℤ) (e : List ℤ) (t : List ℕ) (i : ℕ) → slice_get e level ≡ Some z → value w (term.Var level) e t i ≡ Some z

-- verdicts

-- the axiom has to hold at this instant: the one that it names, or any inside time
abbrev pub IsAsked : World → Option ℕ → ℕ → Type 0
IsAsked world None i = i < world.instants
IsAsked world (Some k) i = i ≡ k

-- the axiom is true at each of its instants before this one
abbrev pub TrueBefore : Spec → List ℕ → Axiom → ℕ → Type 0
TrueBefore spec t a i = (j : ℕ) → j < i → IsAsked (world_of spec) a.at j → truth (world_of spec) a.formula [] t j ≡ true

-- the axiom is true at each of its instants
abbrev pub TrueThroughout : Spec → List ℕ → Axiom → Type 0
TrueThroughout spec t a = (j : ℕ) → IsAsked (world_of spec) a.at j → truth (world_of spec) a.formula [] t j ≡ true

-- each axiom is true at each of its instants
abbrev pub AllTrue : Spec → List ℕ → Type 0
AllTrue spec t = (k : ℕ) (a : Axiom) → slice_get spec.axioms k ≡ Some a → TrueThroughout spec t a

-- the axiom of this number is false at this instant, which is one of its own, and all that is demanded before is true
pub record FirstFalse (spec : Spec) (t : List ℕ) (number : ℕ) (instant : ℕ) : Type 0 where
  pub axiom_ : Axiom
  pub stands : slice_get spec.axioms number ≡ Some axiom_
  pub asked : IsAsked (world_of spec) axiom_.at instant
  pub false_there : truth (world_of spec) axiom_.formula [] t instant ≡ false
  pub before : TrueBefore spec t axiom_ instant
  pub earlier : (k : ℕ) (a : Axiom) → k < number → slice_get spec.axioms k ≡ Some a → TrueThroughout spec t a

abbrev pub FalseLaw : Type 0
FalseLaw = (spec : Spec) (t : List ℕ) (number instant : ℕ) →
    (first_false spec t ≡ Some (number, instant)) ↔ FirstFalse spec t number instant

abbrev pub TrueLaw : Type 0
TrueLaw = (spec : Spec) (t : List ℕ) → (first_false spec t ≡ None) ↔ AllTrue spec t

abbrev pub WholeLaw : Type 0
WholeLaw = (spec : Spec) (t : List ℕ) → (is_true_in spec t ≡ true) ↔ AllTrue spec t

-- cells

-- the first tuple is before the second in lexical order
abbrev pub ArgsPrecede : List ℕ → List ℕ → Type 0
ArgsPrecede (v ∷ vs) (u ∷ us) = (v < u) ⊎ ((v ≡ u) × ArgsPrecede vs us)
ArgsPrecede vs us = ⊥

-- the first cell is before the second: by items, then arguments, then instants
abbrev pub Precedes : Cell → Cell → Type 0
Precedes a b = (a.item < b.item) ⊎ ((a.item ≡ b.item) × (ArgsPrecede a.args b.args ⊎ ((a.args ≡ b.args) × (a.instant < b.instant))))

abbrev pub CellsOrderLaw : Type 0
CellsOrderLaw = (w : World) (m n : ℕ) (a b : Cell) → m < n → slice_get (cells_of w) m ≡ Some a → slice_get (cells_of w) n ≡ Some b → Precedes a b

-- every cell has one number
abbrev pub CellsOnceLaw : Type 0
CellsOnceLaw = (w : World) (m n : ℕ) (cell : Cell) → slice_get (cells_of w) m ≡ Some cell → slice_get (cells_of w) n ≡ Some cell → m ≡ n

-- an item may have these arguments: one for each of its domains, each the index of a value
pub record MayHave (w : World) (item : Item) (vs : List ℕ) : Type 0 where
  pub as_many : length vs ≡ length item.args
  pub each : (k d v : ℕ) → slice_get item.args k ≡ Some d → slice_get vs k ≡ Some v → v < size_of w.domains d

-- the cells are those of the items, of the arguments that they may have, and of the instants inside time
abbrev pub CellsStandLaw : Type 0
CellsStandLaw = (w : World) (cell : Cell) →
    ((n : ℕ) × (slice_get (cells_of w) n ≡ Some cell)) ↔ ((item : Item) × (slice_get w.items cell.item ≡ Some item) × MayHave w item cell.args × (cell.instant < w.instants))

-- a table's entry at a cell's number is the cell's value
abbrev pub EntryLaw : Type 0
EntryLaw = (w : World) (t : List ℕ) (n : ℕ) (cell : Cell) → IsTable w t → slice_get (cells_of w) n ≡ Some cell → value_at w t cell ≡ slice_get t n

-- row by row the table gives the values of a row's item and arguments at the instants, in order
abbrev pub RowLaw : Type 0
RowLaw = (w : World) (t : List ℕ) (n i : ℕ) (row : Row) → IsTable w t → slice_get (rows_of w) n ≡ Some row → i < w.instants →
    value_at w t (the_cell row.item row.args i) ≡ slice_get t (n * w.instants + i)

-- specifications

-- an axiom or a goal
abbrev pub IsClaim : Parts → Axiom → Type 0
IsClaim p a = Contains p.axioms a ⊎ Contains p.goals a

-- domain 0 is named `bool` and is of bool, and no other is of bool
pub record IsBoolFirst (domains : List Domain) : Type 0 where
  pub first : Domain
  pub stands : slice_get domains 0 ≡ Some first
  pub named : first.name ≡ codes "bool"
  pub of_bool : first.kind ≡ kind.Bool
  pub alone : (d : ℕ) (domain : Domain) → slice_get domains d ≡ Some domain → domain.kind ≡ kind.Bool → d ≡ 0

-- a number that is written in a text, with a sign or without
abbrev pub IsWritten : ℤ → Type 0
IsWritten z = (neg_ℤ (pos 1000000) ≤ℤ z) × (z ≤ℤ pos 1000000)

-- what is well formed, in words
pub record IsSpecification (p : Parts) : Type 0 where
  pub some_instant : 0 < p.instants
  pub few_instants : p.instants ≤ 256
  pub bool_first : IsBoolFirst p.domains
  pub ends : (domain : Domain) (low high : ℤ) → Contains p.domains domain → domain.kind ≡ kind.Range low high → IsWritten low × IsWritten high
  pub values : (domain : Domain) → Contains p.domains domain → (0 < length (values_of domain.kind)) × (length (values_of domain.kind) ≤ 64)
  pub arguments : (item : Item) → Contains p.items item → length item.args ≤ 4
  pub names : (name : List ℕ) → Contains (declared_names p) name → is_name name ≡ true
  pub variables : (a : Axiom) (name : List ℕ) → IsClaim p a → Contains (variables_of a.formula) name → is_name name ≡ true
  pub distinct : (k l : ℕ) (name : List ℕ) → slice_get (declared_names p) k ≡ Some name → slice_get (declared_names p) l ≡ Some name → k ≡ l
  pub new_variables : (a : Axiom) → IsClaim p a → variables_are_new a.formula (declared_names p) ≡ true
  pub kinds : (use_ : Use) → Contains (uses_of p) use_ → is_right use_ ≡ true
  pub shaped : (a : Axiom) → IsClaim p a → is_shaped a.formula ≡ true
  pub numbers : (a : Axiom) (n : ℕ) → IsClaim p a → Contains (numbers_of a.formula) n → n ≤ 1000000
  pub inside : (a : Axiom) (k : ℕ) → IsClaim p a → a.at ≡ Some k → k < p.instants
  pub limits : (which : Which) → count_of which p ≤ limit_of which

-- nothing else makes parts well formed
abbrev pub FormedLaw : Type 0
FormedLaw = (p : Parts) → (is_well_formed p ≡ true) ↔ IsSpecification p

-- one of its words
abbrev pub IsWordOf : DomainKind → List ℕ → Type 0
IsWordOf values name = (words : List (List ℕ)) × (values ≡ kind.Words words) × Contains words name

-- the name of a domain but domain 0, or a word of one
pub record IsDomainName (p : Parts) (name : List ℕ) : Type 0 where
  pub number : ℕ
  pub domain : Domain
  pub stands : slice_get p.domains number ≡ Some domain
  pub not_first : 0 < number
  pub is : (name ≡ domain.name) ⊎ IsWordOf domain.kind name

-- the declared names are those, and the names of items, axioms and goals
abbrev pub DeclaredLaw : Type 0
DeclaredLaw = (p : Parts) (name : List ℕ) → Contains (declared_names p) name ↔
    (IsDomainName p name ⊎ (((item : Item) × Contains p.items item × (name ≡ item.name)) ⊎ ((a : Axiom) × IsClaim p a × (name ≡ a.name))))
