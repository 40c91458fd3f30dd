-- Which parts make a specification that is well formed.
use Rattle.std.specs.Prelude.{ℕ, ℤ, pos, neg_ℤ, Bool, true, false, ◌&&◌, nat_lt, nat_le, int_le, List, [], ◌∷◌, ◌++◌, Option, None, Some, length, codes}
use Rattle.std.specs.List.{list_all, flat_map}
use Rattle.std.specs.Str.{bytes_eq}
use Rattle.trio_base.specs.Names.{is_name}
use Rattle.trio_base.specs.declared.limits.TheConstants.{MOST_INSTANTS, MOST_VALUES, MOST_ARGUMENTS, GREATEST_NUMBER}
use Rattle.trio_types.specs.declared.spec.DomainKind.{DomainKind}
use Rattle.trio_types.specs.declared.spec.DomainKind.TheVariants as kind
use Rattle.trio_types.specs.declared.spec.Domain.{Domain}
use Rattle.trio_types.specs.World.{values_of}
use Rattle.trio_types.specs.Parts.{Parts, claims_of}
use Rattle.trio_types.specs.Names.{declared_names, are_distinct, variables_of, variables_are_new}
use Rattle.trio_types.specs.Kinds.{uses_of, is_right}
use Rattle.trio_types.specs.Shape.{is_shaped, numbers_of}
use Rattle.trio_types.specs.Limits.{count_of, limit_of, counted}

-- 1 to 256 instants
abbrev pub has_instants : Parts → Bool
has_instants parts = nat_lt 0 parts.instants && nat_le parts.instants MOST_INSTANTS

abbrev pub is_bool : DomainKind → Bool
is_bool kind.Bool = true
is_bool values = false

abbrev pub is_other : DomainKind → Bool
is_other kind.Bool = false
is_other values = true

abbrev pub bool_stands_first : List Domain → Bool
bool_stands_first [] = false
bool_stands_first (first ∷ others) =
    bytes_eq first.name (codes "bool") && (is_bool first.kind && list_all (λ domain. is_other domain.kind) others)

-- domain 0 is `bool`, and no other is
abbrev pub has_bool : Parts → Bool
has_bool parts = bool_stands_first parts.domains

-- a number that may be written, with a sign or without
abbrev pub is_written : ℤ → Bool
is_written z = int_le (neg_ℤ (pos GREATEST_NUMBER)) z && int_le z (pos GREATEST_NUMBER)

abbrev pub ends_are_written : DomainKind → Bool
ends_are_written (kind.Range low high) = is_written low && is_written high
ends_are_written values = true

-- 1 to 64 values
abbrev pub values_fit : DomainKind → Bool
values_fit values = ends_are_written values && (nat_lt 0 (length (values_of values)) && nat_le (length (values_of values)) MOST_VALUES)

abbrev pub domains_fit : Parts → Bool
domains_fit parts = list_all (λ domain. values_fit domain.kind) parts.domains

-- 0 to 4 arguments
abbrev pub items_fit : Parts → Bool
items_fit parts = list_all (λ item. nat_le (length item.args) MOST_ARGUMENTS) parts.items

-- declared names and the names of variables are names
abbrev pub names_are_names : Parts → Bool
names_are_names parts = list_all is_name (declared_names parts ++ flat_map (λ a. variables_of a.formula) (claims_of parts))

-- no two declared names are the same
abbrev pub names_are_distinct : Parts → Bool
names_are_distinct parts = are_distinct (declared_names parts)

-- no variable has a declared name, or that of a variable in whose body it stands
abbrev pub variables_are_distinct : Parts → Bool
variables_are_distinct parts = list_all (λ a. variables_are_new a.formula (declared_names parts)) (claims_of parts)

-- every term has the kind that its place asks for, every read its arguments, and none stands in a distance or argument
abbrev pub kinds_are_right : Parts → Bool
kinds_are_right parts = list_all is_right (uses_of parts)

-- an And or Or has two parts or more, and a Sum one or more, with a sign where it is one
abbrev pub parts_are_many : Parts → Bool
parts_are_many parts = list_all (λ a. is_shaped a.formula) (claims_of parts)

-- no number above a million
abbrev pub numbers_are_small : Parts → Bool
numbers_are_small parts = list_all (λ n. nat_le n GREATEST_NUMBER) (flat_map (λ a. numbers_of a.formula) (claims_of parts))

abbrev pub instant_fits : ℕ → Option ℕ → Bool
instant_fits instants None = true
instant_fits instants (Some k) = nat_lt k instants

-- the instants that axioms and goals name are inside time
abbrev pub instants_fit : Parts → Bool
instants_fit parts = list_all (λ a. instant_fits parts.instants a.at) (claims_of parts)

-- each count is within its limit
abbrev pub limits_are_met : Parts → Bool
limits_are_met parts = list_all (λ which. nat_le (count_of which parts) (limit_of which)) counted

abbrev pub conditions : List (Parts → Bool)
conditions =
    has_instants ∷ has_bool ∷ domains_fit ∷ items_fit ∷ names_are_names ∷ names_are_distinct ∷ variables_are_distinct
    ∷ kinds_are_right ∷ parts_are_many ∷ numbers_are_small ∷ instants_fit ∷ limits_are_met ∷ []

unfoldable pub is_well_formed : Parts → Bool
is_well_formed parts = list_all (λ is_met. is_met parts) conditions
