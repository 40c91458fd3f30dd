-- What a text declares, in the order of the text.
use Rattle.std.specs.Prelude.{ℕ, ◌+◌, Bool, not, List, [], ◌∷◌, ◌++◌, Option, map, find}
use Rattle.std.specs.List.{list_any}
use Rattle.std.specs.Option.{option_map}
use Rattle.std.specs.Str.{bytes_eq}
use Rattle.trio_syntax.specs.declared.tree.Mention.{Mention}
use Rattle.trio_syntax.specs.declared.tree.ValuesTree.{ValuesTree}
use Rattle.trio_syntax.specs.declared.tree.ValuesTree.TheVariants as values
use Rattle.trio_syntax.specs.declared.tree.DomainTree.{DomainTree}
use Rattle.trio_syntax.specs.declared.tree.ItemTree.{ItemTree}
use Rattle.trio_syntax.specs.declared.tree.DeclarationTree.{DeclarationTree}
use Rattle.trio_syntax.specs.declared.tree.DeclarationTree.TheVariants as statement
use Rattle.trio_syntax.specs.declared.tree.SpecTree.{SpecTree}
use Rattle.trio_scope.specs.declared.meaning.Meaning.{Meaning}
use Rattle.trio_scope.specs.declared.meaning.Meaning.TheVariants as meaning
use Rattle.trio_scope.specs.declared.meaning.Declared.{Declared}
use Rattle.trio_scope.specs.Places.{unless}

-- a name that is declared, where, and what it stands for
pub record Declaration : Type 0 where
  pub name : List ℕ
  pub declared : Declared

-- a name is declared at its own token
abbrev pub declaration : Mention → Meaning → Declaration
declaration m stands = record { name = m.name; declared = record { place = m.place; meaning = stands } }

-- the words of the domain of this number, from this index on
abbrev pub words_from : ℕ → ℕ → List Mention → List Declaration
words_from domain index [] = []
words_from domain index (w ∷ ws) = declaration w (meaning.Word domain index) ∷ words_from domain (index + 1) ws

abbrev pub declared_words : ℕ → ValuesTree → List Declaration
declared_words domain (values.Range low high) = []
declared_words domain (values.Words ws) = words_from domain 0 ws

-- what statements declare, behind this many domains and items
abbrev pub declared_from : ℕ → ℕ → List DeclarationTree → List Declaration
declared_from domains items [] = []
declared_from domains items (statement.Domain d ∷ rest) =
    declaration d.name (meaning.Domain domains) ∷ declared_words domains d.values ++ declared_from (domains + 1) items rest
declared_from domains items (statement.Item i ∷ rest) = declaration i.name (meaning.Item items) ∷ declared_from domains (items + 1) rest

-- all declarations, in the order of the text; `bool` is domain 0
unfoldable pub declarations : SpecTree → List Declaration
declarations tree = declared_from 1 0 tree.declarations ++ map (λ c. declaration c.name meaning.Claim) tree.claims

-- the domains among statements
abbrev pub domains_in : List DeclarationTree → List DomainTree
domains_in [] = []
domains_in (statement.Domain d ∷ rest) = d ∷ domains_in rest
domains_in (statement.Item i ∷ rest) = domains_in rest

-- the items among statements
abbrev pub items_in : List DeclarationTree → List ItemTree
items_in [] = []
items_in (statement.Domain d ∷ rest) = items_in rest
items_in (statement.Item i ∷ rest) = i ∷ items_in rest

-- the first declaration of a name
abbrev pub declared_of : List Declaration → List ℕ → Option Declared
declared_of declarations name = option_map (λ d. d.declared) (find (λ d. bytes_eq d.name name) declarations)

-- a name is one of those that are declared
abbrev pub is_declared : List Declaration → List ℕ → Bool
is_declared declarations name = list_any (λ d. bytes_eq d.name name) declarations

-- the places of the declarations whose name an earlier one has; these stand before
abbrev pub repeated_behind : List Declaration → List Declaration → List ℕ
repeated_behind before [] = []
repeated_behind before (d ∷ ds) = unless (not (is_declared before d.name)) d.declared.place ++ repeated_behind (before ++ d ∷ []) ds
