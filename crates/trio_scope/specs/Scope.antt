-- Which names are used and not declared before, and which are declared twice.
use Rattle.std.specs.Prelude.{ℕ, Bool, false, not, ◌||◌, nat_lt, List, [], ◌∷◌, ◌++◌, Option, None, Some}
use Rattle.std.specs.List.{list_any, flat_map}
use Rattle.std.specs.Str.{bytes_eq}
use Rattle.trio_syntax.specs.declared.tree.Mention.{Mention}
use Rattle.trio_syntax.specs.declared.tree.RefTree.{RefTree}
use Rattle.trio_syntax.specs.declared.tree.RefTree.TheVariants as ref
use Rattle.trio_syntax.specs.declared.tree.TermTree.{TermTree, out-TermTree}
use Rattle.trio_syntax.specs.declared.tree.TermShape.{TermShape, TermShape-F, out-TermShape}
use Rattle.trio_syntax.specs.declared.tree.TermShape.TheOpen as shape
use Rattle.trio_syntax.specs.declared.tree.PartTree.{PartTree}
use Rattle.trio_syntax.specs.declared.tree.DeclarationTree.{DeclarationTree}
use Rattle.trio_syntax.specs.declared.tree.DeclarationTree.TheVariants as statement
use Rattle.trio_syntax.specs.declared.tree.SpecTree.{SpecTree}
use Rattle.trio_scope.specs.declared.meaning.Declared.{Declared}
use Rattle.trio_scope.specs.Places.{unless}
use Rattle.trio_scope.specs.Gather.{Variable, Finding, places_in_claims}
use Rattle.trio_scope.specs.Names.{Declaration, declarations, declared_of, is_declared, repeated_behind}

-- a name is that of one of these variables
abbrev pub is_variable : List Variable → List ℕ → Bool
is_variable around name = list_any (λ v. bytes_eq v.name name) around

abbrev pub stands_before : Option Declared → ℕ → Bool
stands_before None place = false
stands_before (Some d) place = nat_lt d.place place

-- a name that is used was declared before, or is that of a variable in whose body it stands
abbrev pub is_known : List Declaration → List Variable → Mention → Bool
is_known ds around m = is_variable around m.name || stands_before (declared_of ds m.name) m.place

-- the places of those that are not
abbrev pub unknown_among : List Declaration → List Variable → List Mention → List ℕ
unknown_among ds around mentions = flat_map (λ m. unless (is_known ds around m) m.place) mentions

abbrev pub own_names : TermShape-F TermShape PartTree TermTree → List Mention
own_names (shape.Named m) = m ∷ []
own_names (shape.Call m args) = m ∷ []
own_names s = []

-- the name that a term is or that is read in it, its arguments aside
abbrev pub names_at : TermTree → List Mention
names_at t = own_names (out-TermShape (out-TermTree t).shape)

abbrev pub names_of_ref : RefTree → List Mention
names_of_ref ref.Bool = []
names_of_ref (ref.Named m) = m ∷ []

abbrev pub unknown_finding : List Declaration → Finding
unknown_finding ds = record {
  term = λ around role inside t. unknown_among ds around (names_at t);
  compared = λ around rel place t u. [];
  variable = λ around x domain. unknown_among ds around (names_of_ref domain);
}

-- what an item's arguments and values range over
abbrev pub refs_of : DeclarationTree → List RefTree
refs_of (statement.Domain d) = []
refs_of (statement.Item i) = i.args ++ i.value ∷ []

-- the places of names that are used and not declared before
unfoldable pub unknown_places : SpecTree → List ℕ
unknown_places tree =
    flat_map (λ s. flat_map (λ r. unknown_among (declarations tree) [] (names_of_ref r)) (refs_of s)) tree.declarations
    ++ places_in_claims (unknown_finding (declarations tree)) tree

abbrev pub twice_finding : List Declaration → Finding
twice_finding ds = record {
  term = λ around role inside t. [];
  compared = λ around rel place t u. [];
  variable = λ around x domain. unless (not (is_declared ds x.name || is_variable around x.name)) x.place;
}

-- the places of declared names that an earlier declaration has, and of variables whose name any declaration has or a variable in whose body they stand
unfoldable pub repeated_places : SpecTree → List ℕ
repeated_places tree = repeated_behind [] (declarations tree) ++ places_in_claims (twice_finding (declarations tree)) tree
