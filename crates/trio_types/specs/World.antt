-- What formulas speak of: how many instants there are, the domains with their values, and the items.
use Rattle.std.specs.Prelude.{ℕ, ℤ, pos, negsuc, ◌+ℤ◌, ◌-ℤ◌, List, [], Option, None, Some, map, length, slice_get}
use Rattle.std.specs.List.{range_with_len}
use Rattle.trio_types.specs.declared.spec.DomainKind.{DomainKind}
use Rattle.trio_types.specs.declared.spec.DomainKind.TheVariants as kind
use Rattle.trio_types.specs.declared.spec.Domain.{Domain}
use Rattle.trio_types.specs.declared.spec.Item.{Item}

pub record World : Type 0 where
  pub instants : ℕ
  pub domains : List Domain
  pub items : List Item

-- the instants inside time
unfoldable pub instants_of : World → List ℕ
instants_of world = range_with_len 0 world.instants

-- a number, or 0 in place of one below 0
abbrev pub at_least_zero : ℤ → ℕ
at_least_zero (pos n) = n
at_least_zero (negsuc n) = 0

-- this many whole numbers, from the given one on
unfoldable pub integers : ℤ → ℕ → List ℤ
integers low count = map (λ k. low +ℤ pos k) (range_with_len 0 count)

-- the values of a domain in the order of their indexes: the numbers of a range, and the indexes themselves of bool and of words
abbrev pub values_of : DomainKind → List ℤ
values_of kind.Bool = integers (pos 0) 2
values_of (kind.Range low high) = integers low (at_least_zero ((high +ℤ pos 1) -ℤ low))
values_of (kind.Words words) = integers (pos 0) (length words)

abbrev values_of_domain : Option Domain → List ℤ
values_of_domain None = []
values_of_domain (Some domain) = values_of domain.kind

-- the values of the domain of this number; there are none where there is no such domain
abbrev pub values_in : List Domain → ℕ → List ℤ
values_in domains number = values_of_domain (slice_get domains number)

-- how many values the domain of this number has
abbrev pub size_of : List Domain → ℕ → ℕ
size_of domains number = length (values_in domains number)
