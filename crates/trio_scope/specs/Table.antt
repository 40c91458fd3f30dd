-- Names as a map keeps them while statements are read.
use Rattle.std.specs.Prelude.{◌≡◌, ℕ, ◌+◌, List, [], ◌++◌, length, Option}
use Rattle.std.specs.Str.{bytes_eq}
use Rattle.std.specs.HashMap.{HashMap, get_by}
use denote.Ref.{Bor}
use Rattle.trio_syntax.specs.declared.tree.DeclarationTree.{DeclarationTree}
use Rattle.trio_syntax.specs.declared.tree.SpecTree.{SpecTree}
use Rattle.trio_scope.specs.declared.meaning.Declared.{Declared}
use Rattle.trio_scope.specs.declared.names.Names.{Names}
use Rattle.trio_scope.specs.Places.{least}
use Rattle.trio_scope.specs.Names.{Declaration, declared_from, domains_in, items_in, declarations, declared_of, repeated_behind}

-- what the map has for a name
abbrev pub declared_in : {S : Type 0} → HashMap (Bor (List ℕ)) Declared S → List ℕ → Option Declared
declared_in names name = get_by (λ k. bytes_eq name k.now) names

-- these are the declarations so far, with this many domains and items among them
pub record HasDeclarations (names : Names) (domains items : ℕ) (ds : List Declaration) : Type 0 where
  pub first : (name : List ℕ) → declared_in names.first name ≡ declared_of ds name
  pub repeated : names.repeated ≡ least (repeated_behind [] ds)
  pub domains_so_far : names.domains ≡ domains
  pub items_so_far : names.items ≡ items

-- these declarations come behind
abbrev pub AddsDeclarations : Names → Names → List Declaration → Type 0
AddsDeclarations old new more = (domains items : ℕ) (ds : List Declaration) → HasDeclarations old domains items ds → HasDeclarations new domains items (ds ++ more)

-- what these statements declare comes behind
abbrev pub AddsStatements : Names → Names → List DeclarationTree → Type 0
AddsStatements old new statements =
    (domains items : ℕ) (ds : List Declaration) → HasDeclarations old domains items ds →
    HasDeclarations new (domains + length (domains_in statements)) (items + length (items_in statements)) (ds ++ declared_from domains items statements)

-- these are all declarations of a tree
abbrev pub TellsAll : Names → SpecTree → Type 0
TellsAll names tree = HasDeclarations names (1 + length (domains_in tree.declarations)) (0 + length (items_in tree.declarations)) (declarations tree)
