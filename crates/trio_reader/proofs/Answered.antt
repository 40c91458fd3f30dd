-- Every text is a specification or has a fault.
use Rattle.std.proofs.Common.{◌≡◌, ℕ, ◌⊎◌, inl, inr, List, Option, None, Some, refl}
use Rattle.trio_types.specs.declared.spec.Spec.{Spec}
use Rattle.trio_types.specs.declared.spec.Which.{Which}
use Rattle.trio_text.specs.declared.token.Token.{Token}
use Rattle.trio_text.specs.Tokens.{IsTokens, IsLexFault}
use Rattle.trio_text.specs.Lexemes.{lexemes_of}
use Rattle.trio_text.proofs.Total.{tokens_or_fault}
use Rattle.trio_syntax.specs.declared.tree.SpecTree.{SpecTree}
use Rattle.trio_syntax.specs.Reading.{IsReading, IsSyntaxFault}
use Rattle.trio_syntax.specs.Grammar.{IsSpec}
use Rattle.trio_syntax.specs.Depth.{first_deep}
use Rattle.trio_syntax.proofs.Total.{tree_or_fault}
use Rattle.trio_scope.specs.Places.{least}
use Rattle.trio_scope.specs.Scope.{unknown_places, repeated_places}
use Rattle.trio_limits.specs.Limits.{count_fault}
use Rattle.trio_reader.specs.declared.fault.SpecFault.{SpecFault}
use Rattle.trio_reader.specs.declared.fault.SpecFault.TheVariants as fault
use Rattle.trio_reader.specs.Erasure.{parts_of_tree}
use Rattle.trio_reader.specs.Kinds.{kind_places}
use Rattle.trio_reader.specs.Ranges.{out_of_range}
use Rattle.trio_reader.specs.Reading.{IsShallow, IsTreeText, IsSpecText, HasFault}
use Rattle.trio_reader.specs.Sound.{IsSound}
use Rattle.trio_reader.proofs.WellFormed.{well_formed}
use Rattle.trio_reader.proofs.Phases.{unknown_is, twice_is, kind_is, range_is, limit_is, IsNamed, IsRanged}
use Rattle.trio_reader.proofs.Texts.{text_formed}

abbrev Answered : List ℕ → Type 0
Answered text = ((spec : Spec) × IsSpecText text spec) ⊎ ((f : SpecFault) × HasFault text f)

-- ---- the phases over trees

abbrev spec_from : (tree : SpecTree) → IsSound tree → Spec
spec_from tree sound = record {
  instants = (parts_of_tree tree).instants;
  domains = (parts_of_tree tree).domains;
  items = (parts_of_tree tree).items;
  axioms = (parts_of_tree tree).axioms;
  goals = (parts_of_tree tree).goals;
  well_formed = well_formed tree sound;
}

by_limit : (text : List ℕ) (tree : SpecTree) (found : Option (Which × ℕ)) → IsTreeText text tree → IsRanged tree → count_fault (parts_of_tree tree) ≡ found → Answered text
by_limit text tree None read ranged is =
    let sound : IsSound tree = record { formed = text_formed text tree read; sound = limit_is tree None ranged is } in
    inl (spec_from tree sound, record { tree = tree; read = read; answer = record { sound = sound.sound; stands = refl } })
by_limit text tree (Some c) read ranged is = inr (fault.Limit c.0 c.1, (tree, read, limit_is tree (Some c) ranged is))

by_range : (text : List ℕ) (tree : SpecTree) (found : Option ℕ) → IsTreeText text tree → IsNamed tree → least (kind_places tree) ≡ None →
    least (out_of_range tree) ≡ found → Answered text
by_range text tree None read named kinds is =
    by_limit text tree (count_fault (parts_of_tree tree)) read (record { named = named; kinds = kinds; ranges = is }) refl
by_range text tree (Some place) read named kinds is = inr (fault.Range place, (tree, read, range_is tree (Some place) named kinds is))

by_kind : (text : List ℕ) (tree : SpecTree) (found : Option ℕ) → IsTreeText text tree → IsNamed tree → least (kind_places tree) ≡ found → Answered text
by_kind text tree None read named is = by_range text tree (least (out_of_range tree)) read named is refl
by_kind text tree (Some place) read named is = inr (fault.Kind place, (tree, read, kind_is tree (Some place) named is))

by_twice : (text : List ℕ) (tree : SpecTree) (found : Option ℕ) → IsTreeText text tree → least (unknown_places tree) ≡ None →
    least (repeated_places tree) ≡ found → Answered text
by_twice text tree None read known is = by_kind text tree (least (kind_places tree)) read (record { known = known; once = is }) refl
by_twice text tree (Some place) read known is = inr (fault.Twice place, (tree, read, twice_is tree (Some place) known is))

by_unknown : (text : List ℕ) (tree : SpecTree) (found : Option ℕ) → IsTreeText text tree → least (unknown_places tree) ≡ found → Answered text
by_unknown text tree None read is = by_twice text tree (least (repeated_places tree)) read is refl
by_unknown text tree (Some place) read is = inr (fault.Unknown place, (tree, read, unknown_is tree (Some place) is))

-- ---- the phases over texts

by_tree : (text : List ℕ) (tokens : List Token) → IsShallow text tokens →
    ((tree : SpecTree) × IsReading IsSpec (lexemes_of text tokens) tree) ⊎ ((place : ℕ) × IsSyntaxFault IsSpec (lexemes_of text tokens) place) → Answered text
by_tree text tokens shallow (inl read) =
    by_unknown text read.0 (least (unknown_places read.0)) (record { tokens = tokens; shallow = shallow; tree_read = read.1.reading }) refl
by_tree text tokens shallow (inr stuck) = inr (fault.Syntax stuck.0, (tokens, shallow, stuck.1))

by_depth : (text : List ℕ) (tokens : List Token) (found : Option ℕ) → IsTokens text tokens → first_deep (lexemes_of text tokens) ≡ found → Answered text
by_depth text tokens None lexed is =
    by_tree text tokens (record { lexed = lexed; shallow = is }) (tree_or_fault (lexemes_of text tokens))
by_depth text tokens (Some place) lexed is = inr (fault.Deep place, (tokens, lexed, is))

by_tokens : (text : List ℕ) → ((tokens : List Token) × IsTokens text tokens) ⊎ ((place : ℕ) × IsLexFault text place) → Answered text
by_tokens text (inl lexed) = by_depth text lexed.0 (first_deep (lexemes_of text lexed.0)) lexed.1 refl
by_tokens text (inr stuck) = inr (fault.Lex stuck.0, stuck.1)

pub answered : (text : List ℕ) → Answered text
answered text = by_tokens text (tokens_or_fault text)
