-- The kind of a term, and what formulas use: terms where something is required of their kind, reads of items, domains that are named.
use Rattle.std.specs.Prelude.{ℕ, Bool, true, false, not, ◌&&◌, ◌||◌, ◌==◌, nat_lt, List, [], ◌∷◌, ◌++◌, Option, None, Some, map, length, slice_get, zip}
use Rattle.std.specs.List.{flat_map}
use Rattle.std.specs.Option.{option_map}
use Rattle.trio_base.specs.declared.operators.Rel.{Rel}
use Rattle.trio_base.specs.declared.operators.Rel.TheVariants as rel
use Rattle.trio_types.specs.declared.spec.DomainKind.{DomainKind}
use Rattle.trio_types.specs.declared.spec.DomainKind.TheVariants as domain_kind
use Rattle.trio_types.specs.declared.spec.Domain.{Domain}
use Rattle.trio_types.specs.declared.spec.Item.{Item}
use Rattle.trio_types.specs.declared.formula.Term.{Term}
use Rattle.trio_types.specs.declared.formula.Term.TheOpen.{Term-F, SignedTerm-F}
use Rattle.trio_types.specs.declared.formula.Term.TheOpen as open_term
use Rattle.trio_types.specs.declared.formula.Term.TheFolds.{fold-Term}
use Rattle.trio_types.specs.declared.formula.Formula.{Formula}
use Rattle.trio_types.specs.declared.formula.Formula.TheOpen.{Formula-F}
use Rattle.trio_types.specs.declared.formula.Formula.TheOpen as open_formula
use Rattle.trio_types.specs.declared.formula.Formula.TheFolds.{fold-Formula}
use Rattle.trio_types.specs.World.{World, size_of}
use Rattle.trio_types.specs.Parts.{Parts, world_of_parts, claims_of}

pub data Kind : Type 0 where
  no_kind : Kind
  number : Kind
  truth_value : Kind
  word : ℕ → Kind  -- a word of the domain of this number

abbrev pub has_kind : Kind → Bool
has_kind no_kind = false
has_kind kind_of_term = true

abbrev pub is_number : Kind → Bool
is_number number = true
is_number kind_of_term = false

abbrev pub is_truth_value : Kind → Bool
is_truth_value truth_value = true
is_truth_value kind_of_term = false

abbrev pub same_kind : Kind → Kind → Bool
same_kind no_kind no_kind = true
same_kind number number = true
same_kind truth_value truth_value = true
same_kind (word d) (word e) = d == e
same_kind k l = false

-- the kind of a domain's values
abbrev kind_of_values : ℕ → DomainKind → Kind
kind_of_values number_of domain_kind.Bool = truth_value
kind_of_values number_of (domain_kind.Range low high) = number
kind_of_values number_of (domain_kind.Words words) = word number_of

abbrev kind_of_option : ℕ → Option Domain → Kind
kind_of_option number_of None = no_kind
kind_of_option number_of (Some domain) = kind_of_values number_of domain.kind

-- the kind of the values of the domain of this number; none where there is no such domain
abbrev pub kind_in : World → ℕ → Kind
kind_in world d = kind_of_option d (slice_get world.domains d)

-- a variable, by the domains of the variables in whose bodies it stands, the outermost first
abbrev kind_of_variable : World → Option ℕ → Kind
kind_of_variable world None = no_kind
kind_of_variable world (Some d) = kind_in world d

abbrev kind_of_item : World → Option Item → Kind
kind_of_item world None = no_kind
kind_of_item world (Some item) = kind_in world item.value

-- a value is one of bool or of words, below the domain's size
abbrev pub kind_if_constant : Bool → Kind → Kind
kind_if_constant is_below no_kind = no_kind
kind_if_constant is_below number = no_kind
kind_if_constant true kind_of_term = kind_of_term
kind_if_constant false kind_of_term = no_kind

abbrev pub kind_of_constant : World → ℕ → ℕ → Kind
kind_of_constant world d v = kind_if_constant (nat_lt v (size_of world.domains d)) (kind_in world d)

-- what a term's place asks of its kind
pub data Requirement : Type 0 where
  named : Requirement  -- a truth constant, word or variable
  alone : Requirement  -- an atom without relation
  part : Requirement  -- a signed or summed part, or the factor of a product
  distance : Requirement
  argument : Kind → Requirement  -- of a domain with values of this kind
  compared : Rel → Kind → Requirement  -- behind this relation to a term of this kind

-- what a formula or declaration uses
pub data Use : Type 0 where
  required : Requirement → Kind → Use  -- a term of this kind where this is required
  of_domain : Kind → Use  -- a domain with values of this kind
  of_item : Bool → Option ℕ → ℕ → Use  -- a read, whether it stands in a distance or an argument, how many arguments its item has, and how many are given

abbrev pub is_ordered : Rel → Bool
is_ordered rel.Eq = false
is_ordered rel.Ne = false
is_ordered r = true

abbrev pub may_be_number : Kind → Bool
may_be_number k = not (has_kind k) || is_number k

-- one relation holds of two kinds: no fault rests on a term without a kind
abbrev pub may_compare : Rel → Kind → Kind → Bool
may_compare r k l =
    (not (has_kind k && has_kind l) || same_kind k l) && (not (is_ordered r) || may_be_number k && may_be_number l)

abbrev pub meets_requirement : Requirement → Kind → Bool
meets_requirement named k = has_kind k
meets_requirement alone k = not (has_kind k) || is_truth_value k
meets_requirement part k = may_be_number k
meets_requirement distance k = may_be_number k
meets_requirement (argument wanted) k = not (has_kind wanted && has_kind k) || same_kind wanted k
meets_requirement (compared r left) k = may_compare r left k

abbrev pub is_arity : Option ℕ → ℕ → Bool
is_arity None given = false
is_arity (Some wanted) given = wanted == given

abbrev pub is_right : Use → Bool
is_right (required asked k) = meets_requirement asked k
is_right (of_domain k) = has_kind k
is_right (of_item is_inside wanted given) = not is_inside && is_arity wanted given

-- a term's kind, and its uses, where it stands in a distance or argument or not
pub record Gathered : Type 0 where
  pub kind : Kind
  pub uses : Bool → List Use

abbrev pub args_of : Option Item → List ℕ
args_of None = []
args_of (Some item) = item.args

-- each argument that has a domain, as one of that domain
abbrev pub argument_uses : World → List ℕ → List Gathered → List Use
argument_uses world ds args = map (λ p. required (argument (kind_in world p.0)) p.1.kind) (zip ds args)

-- a term's own uses, then those of its parts
abbrev pub gather_term : World → List ℕ → Term-F Gathered Gathered → Gathered
gather_term world variables (open_term.Number n) = record { kind = number; uses = λ is_inside. [] }
gather_term world variables (open_term.Value d v) =
    record { kind = kind_of_constant world d v; uses = λ is_inside. required named (kind_of_constant world d v) ∷ [] }
gather_term world variables (open_term.Var level) =
    record {
      kind = kind_of_variable world (slice_get variables level);
      uses = λ is_inside. required named (kind_of_variable world (slice_get variables level)) ∷ [];
    }
gather_term world variables (open_term.Read item args) =
    record {
      kind = kind_of_item world (slice_get world.items item);
      uses = λ is_inside.
          of_item is_inside (option_map (λ found. length found.args) (slice_get world.items item)) (length args)
          ∷ argument_uses world (args_of (slice_get world.items item)) args ++ flat_map (λ a. a.uses true) args;
    }
gather_term world variables (open_term.Sum parts) =
    record { kind = number; uses = λ is_inside. map (λ p. required part p.kind) parts ++ flat_map (λ p. p.uses is_inside) parts }
gather_term world variables (open_term.Times n x) =
    record { kind = number; uses = λ is_inside. required part x.kind ∷ x.uses is_inside }

abbrev pub gather_part : SignedTerm-F Gathered Gathered → Gathered
gather_part p = p.term

unfoldable pub gathered : World → List ℕ → Term → Gathered
gathered world variables = fold-Term Gathered Gathered (gather_term world variables) gather_part

-- the kind of a term, where these are the domains of the variables in whose bodies it stands
abbrev pub kind_of_term : World → List ℕ → Term → Kind
kind_of_term world variables x = (gathered world variables x).kind

-- what a term uses
abbrev pub term_uses : World → List ℕ → Bool → Term → List Use
term_uses world variables is_inside x = (gathered world variables x).uses is_inside

-- a formula's uses, by the variables' domains
abbrev pub Uses : Type 0
Uses = List ℕ → List Use

-- a formula's own uses, then those of its parts
abbrev pub formula_uses : World → Formula-F Uses → Uses
formula_uses world (open_formula.Lone x) vs = required alone (kind_of_term world vs x) ∷ term_uses world vs false x
formula_uses world (open_formula.Compare r x y) vs =
    required (compared r (kind_of_term world vs x)) (kind_of_term world vs y) ∷ term_uses world vs false x ++ term_uses world vs false y
formula_uses world (open_formula.Not f) vs = f vs
formula_uses world (open_formula.And fs) vs = flat_map (λ f. f vs) fs
formula_uses world (open_formula.Or fs) vs = flat_map (λ f. f vs) fs
formula_uses world (open_formula.Implies f g) vs = f vs ++ g vs
formula_uses world (open_formula.Iff f g) vs = f vs ++ g vs
formula_uses world (open_formula.All name d f) vs = of_domain (kind_in world d) ∷ f (vs ++ d ∷ [])
formula_uses world (open_formula.Ex name d f) vs = of_domain (kind_in world d) ∷ f (vs ++ d ∷ [])
formula_uses world (open_formula.One o f) vs = f vs
formula_uses world (open_formula.Far o f x) vs = required distance (kind_of_term world vs x) ∷ f vs ++ term_uses world vs true x
formula_uses world (open_formula.Pair o f g) vs = f vs ++ g vs

unfoldable pub uses : World → Formula → Uses
uses world = fold-Formula Uses (formula_uses world)

-- the domains that an item names
abbrev pub item_uses : World → Item → List Use
item_uses world item = map (λ d. of_domain (kind_in world d)) (item.args ++ item.value ∷ [])

-- all uses in a specification's parts
abbrev pub uses_of : Parts → List Use
uses_of parts =
    flat_map (item_uses (world_of_parts parts)) parts.items ++ flat_map (λ a. uses (world_of_parts parts) a.formula []) (claims_of parts)
