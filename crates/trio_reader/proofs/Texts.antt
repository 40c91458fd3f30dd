-- A text is one tree at most, and has one first fault at most.
use Rattle.std.proofs.Common.{◌≡◌, ℕ, true, List, Some, refl, sym, ap, subst, ◌∙◌}
use Rattle.std.proofs.lemmas.Option.{none-some}
use Rattle.trio_types.specs.declared.spec.Spec.{Spec}
use Rattle.trio_text.specs.declared.token.Token.{Token}
use Rattle.trio_text.specs.Tokens.{IsTokens, IsLexFault}
use Rattle.trio_text.specs.Lexemes.{lexemes_of}
use Rattle.trio_text.proofs.Steps.{one_list, fault_or_tokens, one_fault}
use Rattle.trio_text.proofs.Spans.{names_are_names}
use Rattle.trio_syntax.specs.declared.tree.SpecTree.{SpecTree}
use Rattle.trio_syntax.specs.Reading.{IsSyntaxFault}
use Rattle.trio_syntax.specs.Grammar.{IsSpec}
use Rattle.trio_syntax.specs.Depth.{first_deep}
use Rattle.trio_syntax.proofs.Faults.{fault_no_tree, one_fault as one_syntax_fault}
use Rattle.trio_syntax.proofs.Total.{one_tree}
use Rattle.trio_syntax.proofs.Formed.{tree_formed}
use Rattle.trio_types.specs.Verdict.{parts_of}
use Rattle.trio_reader.specs.declared.fault.SpecFault.{SpecFault}
use Rattle.trio_reader.specs.declared.fault.SpecFault.TheVariants as fault
use Rattle.trio_reader.specs.Erasure.{parts_of_tree}
use Rattle.trio_reader.specs.Reading.{tree_fault, IsShallow, IsTreeText, IsSpecText, HasFault}
use Rattle.trio_syntax.specs.Shape.{is_formed}

-- the trees of texts are formed
pub text_formed : (text : List ℕ) (tree : SpecTree) → IsTreeText text tree → is_formed tree ≡ true
text_formed text tree read =
    tree_formed (lexemes_of text read.tokens) tree (names_are_names text read.tokens read.shallow.lexed) read.tree_read

-- two lists of tokens of a text are one
same_tokens : (text : List ℕ) (a b : List Token) → IsTokens text a → IsTokens text b → lexemes_of text a ≡ lexemes_of text b
same_tokens text a b x y = ap (lexemes_of text) (one_list text a b x y)

pub one_tree_text : (text : List ℕ) (a b : SpecTree) → IsTreeText text a → IsTreeText text b → a ≡ b
one_tree_text text a b x y =
    one_tree (lexemes_of text x.tokens) a b x.tree_read
    (subst (λ ls. IsSpec ls b) (same_tokens text y.tokens x.tokens y.shallow.lexed x.shallow.lexed) y.tree_read)

pub one_specification : (text : List ℕ) (a b : Spec) → IsSpecText text a → IsSpecText text b → parts_of a ≡ parts_of b
one_specification text a b x y =
    x.answer.stands ∙ ap parts_of_tree (one_tree_text text x.tree y.tree x.read y.read) ∙ sym y.answer.stands

-- what a fault is, by its phase
data Told (text : List ℕ) (f : SpecFault) : Type 0 where
  lex : (place : ℕ) → f ≡ fault.Lex place → IsLexFault text place → Told text f
  deep : (place : ℕ) (tokens : List Token) → f ≡ fault.Deep place → IsTokens text tokens → first_deep (lexemes_of text tokens) ≡ Some place → Told text f
  syntax_ : (place : ℕ) (tokens : List Token) → f ≡ fault.Syntax place → IsShallow text tokens → IsSyntaxFault IsSpec (lexemes_of text tokens) place → Told text f
  tree_ : (tree : SpecTree) → IsTreeText text tree → tree_fault tree ≡ Some f → Told text f

told : (text : List ℕ) (f : SpecFault) → HasFault text f → Told text f
told text (fault.Lex place) has = lex place refl has
told text (fault.Deep place) has = deep place has.0 refl has.1 has.2
told text (fault.Syntax place) has = syntax_ place has.0 refl has.1 has.2
told text (fault.Unknown place) has = tree_ has.0 has.1 has.2
told text (fault.Twice place) has = tree_ has.0 has.1 has.2
told text (fault.Kind place) has = tree_ has.0 has.1 has.2
told text (fault.Range place) has = tree_ has.0 has.1 has.2
told text (fault.Limit which count) has = tree_ has.0 has.1 has.2
told text fault.Memory has = absurd has

-- too deep a text is no shallow one
deep_shallow : (text : List ℕ) (place : ℕ) (a b : List Token) → IsTokens text a → first_deep (lexemes_of text a) ≡ Some place → IsShallow text b → ⊥
deep_shallow text place a b lexed is s =
    none-some place (sym s.shallow ∙ ap first_deep (same_tokens text b a s.lexed lexed) ∙ is)

syntax_tree : (text : List ℕ) (place : ℕ) (tokens : List Token) (tree : SpecTree) → IsShallow text tokens →
    IsSyntaxFault IsSpec (lexemes_of text tokens) place → IsTreeText text tree → ⊥
syntax_tree text place tokens tree s is read =
    fault_no_tree IsSpec (lexemes_of text tokens) place tree is
    (subst (λ ls. IsSpec ls tree) (same_tokens text read.tokens tokens read.shallow.lexed s.lexed) read.tree_read)

-- a fault before the phases over trees leaves no tree
no_tree : (text : List ℕ) (f : SpecFault) (tree : SpecTree) → Told text f → IsTreeText text tree → tree_fault tree ≡ Some f
no_tree text f tree (lex place is has) read = absurd (fault_or_tokens text place read.tokens has read.shallow.lexed)
no_tree text f tree (deep place tokens is lexed has) read = absurd (deep_shallow text place tokens read.tokens lexed has read.shallow)
no_tree text f tree (syntax_ place tokens is s has) read = absurd (syntax_tree text place tokens tree s has read)
no_tree text f tree (tree_ other reading has) read = ap tree_fault (one_tree_text text tree other read reading) ∙ has

pub no_specification : (text : List ℕ) (f : SpecFault) (spec : Spec) → HasFault text f → IsSpecText text spec → ⊥
no_specification text f spec has x =
    none-some f (sym x.answer.sound ∙ no_tree text f x.tree (told text f has) x.read)

some_same : {A : Type 0} (a b : A) → Some a ≡ Some b → a ≡ b
some_same a b is = cc

one : (text : List ℕ) (f g : SpecFault) → Told text f → Told text g → f ≡ g
one text f g (lex j is has) (lex k js hat) = is ∙ ap fault.Lex (one_fault text j k has hat) ∙ sym js
one text f g (lex j is has) (deep k tokens js lexed hat) = absurd (fault_or_tokens text j tokens has lexed)
one text f g (lex j is has) (syntax_ k tokens js s hat) = absurd (fault_or_tokens text j tokens has s.lexed)
one text f g (deep k tokens js lexed hat) (lex j is has) = absurd (fault_or_tokens text j tokens has lexed)
one text f g (deep j a is lexed has) (deep k b js more hat) =
    is ∙ ap fault.Deep (some_same j k (sym has ∙ ap first_deep (same_tokens text a b lexed more) ∙ hat)) ∙ sym js
one text f g (deep j a is lexed has) (syntax_ k b js s hat) = absurd (deep_shallow text j a b lexed has s)
one text f g (syntax_ k tokens js s hat) (lex j is has) = absurd (fault_or_tokens text j tokens has s.lexed)
one text f g (syntax_ k b js s hat) (deep j a is lexed has) = absurd (deep_shallow text j a b lexed has s)
one text f g (syntax_ j a is s has) (syntax_ k b js r hat) =
    is ∙ ap fault.Syntax (one_syntax_fault IsSpec (lexemes_of text a) j k has
    (subst (λ ls. IsSyntaxFault IsSpec ls k) (same_tokens text b a r.lexed s.lexed) hat)) ∙ sym js
one text f g (tree_ tree read has) later = some_same f g (sym has ∙ no_tree text g tree later read)
one text f g first (tree_ tree read has) = some_same f g (sym (no_tree text f tree first read) ∙ has)

pub one_text_fault : (text : List ℕ) (f g : SpecFault) → HasFault text f → HasFault text g → f ≡ g
one_text_fault text f g has hat = one text f g (told text f has) (told text g hat)
