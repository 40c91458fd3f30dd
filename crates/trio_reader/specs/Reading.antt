-- Which texts are specifications, and which first fault the others have: phase after phase, each over the whole text.
use Rattle.std.specs.Prelude.{◌≡◌, ℕ, List, Option, None, Some, Result, Ok, Err}
use Rattle.std.specs.Option.{option_map}
use Rattle.trio_text.specs.declared.token.Token.{Token}
use Rattle.trio_text.specs.Tokens.{IsTokens, IsLexFault}
use Rattle.trio_text.specs.Lexemes.{lexemes_of}
use Rattle.trio_types.specs.declared.spec.Spec.{Spec}
use Rattle.trio_types.specs.Verdict.{parts_of}
use Rattle.trio_syntax.specs.declared.tree.SpecTree.{SpecTree}
use Rattle.trio_syntax.specs.Reading.{IsSyntaxFault}
use Rattle.trio_syntax.specs.Grammar.{IsSpec}
use Rattle.trio_syntax.specs.Depth.{first_deep}
use Rattle.trio_scope.specs.Places.{least}
use Rattle.trio_scope.specs.Scope.{unknown_places, repeated_places}
use Rattle.trio_reader.specs.declared.fault.SpecFault.{SpecFault}
use Rattle.trio_reader.specs.declared.fault.SpecFault.TheVariants as fault
use Rattle.trio_reader.specs.Erasure.{parts_of_tree}
use Rattle.trio_reader.specs.Kinds.{kind_places}
use Rattle.trio_reader.specs.Ranges.{out_of_range}
use Rattle.trio_limits.specs.Limits.{count_fault}

-- the first fault of two phases
abbrev pub or_later : Option SpecFault → Option SpecFault → Option SpecFault
or_later None later = later
or_later (Some f) later = Some f

-- the first fault of a tree: each phase reports its least place
abbrev pub tree_fault : SpecTree → Option SpecFault
tree_fault tree =
    or_later (option_map fault.Unknown (least (unknown_places tree)))
    (or_later (option_map fault.Twice (least (repeated_places tree)))
    (or_later (option_map fault.Kind (least (kind_places tree)))
    (or_later (option_map fault.Range (least (out_of_range tree)))
    (option_map (λ c. fault.Limit c.0 c.1) (count_fault (parts_of_tree tree))))))

-- the first fault of a tree, or want of memory
abbrev pub IsTreeFault : SpecTree → SpecFault → Type 0
IsTreeFault tree fault.Memory = Unit {0}
IsTreeFault tree f = tree_fault tree ≡ Some f

-- the tree has no fault and is this specification
pub record IsSpecOf (tree : SpecTree) (spec : Spec) : Type 0 where
  pub sound : tree_fault tree ≡ None
  pub stands : parts_of spec ≡ parts_of_tree tree

-- the text is a list of tokens in which at most 100 brackets are open at once
pub record IsShallow (text : List ℕ) (tokens : List Token) : Type 0 where
  pub lexed : IsTokens text tokens
  pub shallow : first_deep (lexemes_of text tokens) ≡ None

-- the text is this tree, by the grammar alone
pub record IsTreeText (text : List ℕ) (tree : SpecTree) : Type 0 where
  pub tokens : List Token
  pub shallow : IsShallow text tokens
  pub tree_read : IsSpec (lexemes_of text tokens) tree

-- the text is this specification
pub record IsSpecText (text : List ℕ) (spec : Spec) : Type 0 where
  pub tree : SpecTree
  pub read : IsTreeText text tree
  pub answer : IsSpecOf tree spec

-- the text has this first fault
abbrev pub HasFault : List ℕ → SpecFault → Type 0
HasFault text (fault.Lex place) = IsLexFault text place
HasFault text (fault.Deep place) = (tokens : List Token) × IsTokens text tokens × (first_deep (lexemes_of text tokens) ≡ Some place)
HasFault text (fault.Syntax place) =
    (tokens : List Token) × IsShallow text tokens × IsSyntaxFault IsSpec (lexemes_of text tokens) place
HasFault text fault.Memory = ⊥
HasFault text f = (tree : SpecTree) × IsTreeText text tree × (tree_fault tree ≡ Some f)

-- the text's specification, its first fault, or want of memory
abbrev pub IsAnswer : List ℕ → Result Spec SpecFault → Type 0
IsAnswer text (Ok spec) = IsSpecText text spec
IsAnswer text (Err fault.Memory) = Unit {0}
IsAnswer text (Err f) = HasFault text f
