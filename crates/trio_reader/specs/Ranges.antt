-- Which numbers, words and arguments are out of range.
use Rattle.std.specs.Prelude.{ℕ, ℤ, pos, ◌+◌, ◌*◌, ◌+ℤ◌, ◌&&◌, Bool, nat_lt, nat_le, int_le, List, [], ◌∷◌, ◌++◌, Option, None, Some, map, take, drop}
use Rattle.std.specs.List.{flat_map}
use Rattle.trio_base.specs.declared.limits.TheConstants.{MOST_INSTANTS, MOST_VALUES, MOST_ARGUMENTS, GREATEST_NUMBER}
use Rattle.trio_syntax.specs.declared.tree.Written.{Written}
use Rattle.trio_syntax.specs.declared.tree.Mention.{Mention}
use Rattle.trio_syntax.specs.declared.tree.RefTree.{RefTree}
use Rattle.trio_syntax.specs.declared.tree.TermTree.{TermTree, out-TermTree}
use Rattle.trio_syntax.specs.declared.tree.TermShape.{TermShape, TermShape-F, out-TermShape}
use Rattle.trio_syntax.specs.declared.tree.TermShape.TheOpen as shape
use Rattle.trio_syntax.specs.declared.tree.PartTree.{PartTree}
use Rattle.trio_syntax.specs.declared.tree.IntTree.{IntTree}
use Rattle.trio_syntax.specs.declared.tree.ValuesTree.{ValuesTree}
use Rattle.trio_syntax.specs.declared.tree.ValuesTree.TheVariants as values
use Rattle.trio_syntax.specs.declared.tree.DeclarationTree.{DeclarationTree}
use Rattle.trio_syntax.specs.declared.tree.DeclarationTree.TheVariants as statement
use Rattle.trio_syntax.specs.declared.tree.ItemTree.{ItemTree}
use Rattle.trio_syntax.specs.declared.tree.SpecTree.{SpecTree}
use Rattle.trio_scope.specs.Places.{unless}
use Rattle.trio_scope.specs.Gather.{Finding, places_in_claims}
use Rattle.trio_reader.specs.Erasure.{integer_of}

-- no number is above a million
abbrev pub if_large : Written → List ℕ
if_large n = unless (nat_le n.number GREATEST_NUMBER) n.place

-- 1 to 256 instants
abbrev pub instants_places : Written → List ℕ
instants_places n = unless (nat_lt 0 n.number && nat_le n.number MOST_INSTANTS) n.place

-- there are 1 to 64 numbers from the one to the other
abbrev pub has_values : ℤ → ℤ → Bool
has_values low high = int_le low high && int_le (high +ℤ pos 1) (low +ℤ pos MOST_VALUES)

-- a range has 1 to 64 numbers, or its second number is at fault
abbrev pub range_places : IntTree → IntTree → List ℕ
range_places low high =
    if_large low.number ++ (if_large high.number
    ++ unless (has_values (integer_of low) (integer_of high)) high.number.place)

-- the first word behind 64 others
abbrev pub words_places : List Mention → List ℕ
words_places words = map (λ w. w.place) (take 1 (drop MOST_VALUES words))

-- what is behind 4 arguments: each is one token, as is the comma before it
abbrev pub fifth_place : ℕ → List RefTree → List ℕ
fifth_place name [] = []
fifth_place name (r ∷ rs) = (name + 2 * (MOST_ARGUMENTS + 1)) ∷ []

abbrev pub arguments_places : ItemTree → List ℕ
arguments_places i = fifth_place i.name.place (drop MOST_ARGUMENTS i.args)

abbrev pub values_places : ValuesTree → List ℕ
values_places (values.Range low high) = range_places low high
values_places (values.Words words) = words_places words

abbrev pub statement_places : DeclarationTree → List ℕ
statement_places (statement.Domain d) = values_places d.values
statement_places (statement.Item i) = arguments_places i

-- the number behind `at` is that of an instant
abbrev pub at_places : ℕ → Option Written → List ℕ
at_places instants None = []
at_places instants (Some k) = if_large k ++ unless (nat_lt k.number instants) k.place

abbrev pub own_numbers : TermShape-F TermShape PartTree TermTree → List Written
own_numbers (shape.Number n) = n ∷ []
own_numbers (shape.Times n factor) = n ∷ []
own_numbers s = []

abbrev pub range_finding : Finding
range_finding = record {
  term = λ e r inside t. flat_map if_large (own_numbers (out-TermShape (out-TermTree t).shape));
  compared = λ e rel p t u. [];
  variable = λ e x domain. [];
}

-- the places of what is out of range
unfoldable pub out_of_range : SpecTree → List ℕ
out_of_range tree =
    instants_places tree.instants ++ (flat_map statement_places tree.declarations
    ++ (flat_map (λ c. at_places tree.instants.number c.at) tree.claims ++ places_in_claims range_finding tree))
