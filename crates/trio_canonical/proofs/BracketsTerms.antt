-- The brackets that are open in the text of a term.
use Rattle.std.proofs.Common.{◌≡◌, ℕ, ◌==◌, Bool, true, false, if◌then◌else◌, List, [], ◌∷◌, ◌++◌, map, refl, sym, subst, ◌∙◌}
use denote.Hole.Holds.{Such}
use Rattle.std.specs.List.{flat_map}
use Rattle.trio_text.specs.declared.token.Symbol.TheVariants as symbol
use Rattle.trio_text.specs.declared.token.Reserved.TheVariants as word
use Rattle.trio_types.specs.declared.formula.SignedTerm.{SignedTerm, SignedTerm-F, roll-SignedTerm, fold-SignedTerm, fold-roll-SignedTerm, map-SignedTerm}
use Rattle.trio_types.specs.declared.formula.Term.{Term}
use Rattle.trio_types.specs.declared.formula.Term.TheOpen.{Term-F}
use Rattle.trio_types.specs.declared.formula.Term.TheOpen as open_term
use Rattle.trio_types.specs.declared.formula.Term.TheFolds.{fold-roll-Term, map-Term, ind-Term, claims}
use Rattle.trio_types.specs.declared.formula.Term.TheBlock.{the_family, member-Term, member-SignedTerm}
use Rattle.trio_types.specs.declared.formula.Term.TheViews.{roll-Term}
use Rattle.trio_types.specs.Bounds.{greatest}
use Rattle.trio_types.specs.Nest.{TermNest, in_brackets, nest_of_term, term_nest, part_nest}
use Rattle.trio_types.specs.Parts.{Parts}
use Rattle.trio_types.proofs.Lists.{map-map}
use Rattle.trio_syntax.specs.Words.{truth_word, adding_sign}
use Rattle.trio_print.specs.Canonical.{Printed, TermText, PartText, sign, word_, name_, number_, spaced, ref_pieces, constant, same_text, sum_text, later_part, read_text, product_text, term_text, part_text, text_of_term}
use Rattle.trio_canonical.proofs.BracketsOpen.{Nests, empty, both, before, either, square, flat, in_listed}

-- each of a term's texts has as many open as is counted for it
pub record TermNests (text : TermText) (nest : TermNest) : Type 0 where
  pub plain : (names : List (List ℕ)) → Nests (text.plain names) nest.plain
  pub as_part : (names : List (List ℕ)) → Nests (text.as_part names) nest.as_part
  pub as_factor : (names : List (List ℕ)) → Nests (text.as_factor names) nest.as_factor

pub record PartNests (text : PartText) (nest : TermNest) : Type 0 where
  pub own : (names : List (List ℕ)) → Nests (text.text names) nest.as_part

abbrev text_of_part : Parts → SignedTerm → PartText
text_of_part parts = fold-SignedTerm TermText PartText (term_text parts) part_text

abbrev nest_of_part : SignedTerm → TermNest
nest_of_part = fold-SignedTerm TermNest TermNest term_nest part_nest

TermFine : Parts → Term → Type 0
TermFine parts x = TermNests (text_of_term parts x) (nest_of_term x)

PartFine : Parts → SignedTerm → Type 0
PartFine parts p = PartNests (text_of_part parts p) (nest_of_part p)

abbrev SomeTerm : Parts → Type 0
SomeTerm parts = Such the_family (claims (TermFine parts) (PartFine parts)) member-Term

abbrev SomePart : Parts → Type 0
SomePart parts = Such the_family (claims (TermFine parts) (PartFine parts)) member-SignedTerm

pub ref_nests : (parts : Parts) (d : ℕ) → Nests (ref_pieces parts d) 0
ref_nests parts d = either (d == 0) (flat (word_ word.Bool) refl) (flat (name_ _) refl)

constant_nests : (parts : Parts) (d v : ℕ) → Nests (constant parts d v) 0
constant_nests parts d v = either (d == 0) (flat (word_ (truth_word (v == 1))) refl) (flat (name_ _) refl)

same_nests : (text : Printed) (n : ℕ) → ((names : List (List ℕ)) → Nests (text names) n) → TermNests (same_text text) (record { plain = n; as_part = n; as_factor = n })
same_nests text n nests = record { plain = nests; as_part = nests; as_factor = nests }

pub map_thrice : {A B C D : Type 0} (f : C → D) (g : B → C) (h : A → B) (xs : List A) → map f (map g (map h xs)) ≡ map (λ x. f (g (h x))) xs
map_thrice f g h xs = map-map f g (map h xs) ∙ map-map (λ y. f (g y)) h xs

module _ (parts : Parts) where
  read_nests : (number : ℕ) (args : List (SomeTerm parts)) (names : List (List ℕ)) →
      Nests (read_text parts number (map (text_of_term parts) (map (λ a. a.0) args)) names) (in_brackets (map (λ (n : TermNest). n.plain) (map nest_of_term (map (λ a. a.0) args))))
  unfolding TermFine
  read_nests number args names =
      before (flat (name_ _) refl)
      (rw (map_thrice (λ (a : TermText). a.plain names) (text_of_term parts) (λ a. a.0) args, map_thrice (λ (n : TermNest). n.plain) nest_of_term (λ a. a.0) args)
      (in_listed (λ a. (text_of_term parts a.0).plain names) (λ a. (nest_of_term a.0).plain) (λ a. a.1.plain names) args))

  minus_nests : (minus : Bool) → Nests (if minus then sign symbol.Minus else []) 0
  minus_nests minus = either minus (flat (sign symbol.Minus) refl) empty

  adding_nests : (minus : Bool) → Nests (spaced (adding_sign minus)) 0
  adding_nests true = flat (spaced symbol.Minus) refl
  adding_nests false = flat (spaced symbol.Plus) refl

  later_nests : (ps : List (SomePart parts)) (names : List (List ℕ)) →
      Nests (flat_map (later_part names) (map (text_of_part parts) (map (λ p. p.0) ps))) (greatest (map (λ (n : TermNest). n.as_part) (map nest_of_part (map (λ p. p.0) ps))))
  unfolding PartFine
  later_nests [] names = empty
  later_nests (p ∷ ps) names = both (before (adding_nests (text_of_part parts p.0).minus) (p.1.own names)) (later_nests ps names)

  sum_nests : (ps : List (SomePart parts)) (names : List (List ℕ)) →
      Nests (sum_text (map (text_of_part parts) (map (λ p. p.0) ps)) names) (greatest (map (λ (n : TermNest). n.as_part) (map nest_of_part (map (λ p. p.0) ps))))
  unfolding PartFine
  sum_nests [] names = empty
  sum_nests (p ∷ ps) names = both (before (minus_nests (text_of_part parts p.0).minus) (p.1.own names)) (later_nests ps names)

  product_nests : (n : ℕ) (x : TermText) (nest : TermNest) → TermNests x nest → (names : List (List ℕ)) → Nests (product_text n x names) nest.as_factor
  product_nests n x nest nests names = before (flat (number_ n ++ spaced symbol.Times) refl) (nests.as_factor names)

  form_nests : (y : Term-F (SomeTerm parts) (SomePart parts)) →
      let x : Term-F Term SignedTerm = map-Term (SomeTerm parts) (SomePart parts) Term SignedTerm (λ a. a.0) (λ a. a.0) y in
      TermNests (term_text parts (map-Term Term SignedTerm TermText PartText (text_of_term parts) (text_of_part parts) x))
      (term_nest (map-Term Term SignedTerm TermNest TermNest nest_of_term nest_of_part x))
  unfolding TermFine
  form_nests (open_term.Number n) = same_nests _ 0 (λ names. flat (number_ n) refl)
  form_nests (open_term.Value d v) = same_nests _ 0 (λ names. constant_nests parts d v)
  form_nests (open_term.Var level) = same_nests _ 0 (λ names. flat (name_ _) refl)
  form_nests (open_term.Read number args) = same_nests _ _ (read_nests number args)
  form_nests (open_term.Sum ps) = record { plain = sum_nests ps; as_part = λ names. square (sum_nests ps names); as_factor = λ names. square (sum_nests ps names) }
  form_nests (open_term.Times n x) = let nests = product_nests n _ _ x.1 in record { plain = nests; as_part = nests; as_factor = λ names. square (nests names) }

  each : (y : Term-F (SomeTerm parts) (SomePart parts)) → TermFine parts (roll-Term (map-Term (SomeTerm parts) (SomePart parts) Term SignedTerm (λ a. a.0) (λ a. a.0) y))
  unfolding TermFine text_of_term nest_of_term
  each y =
      let x : Term-F Term SignedTerm = map-Term (SomeTerm parts) (SomePart parts) Term SignedTerm (λ a. a.0) (λ a. a.0) y in
      subst (λ n. TermNests (text_of_term parts (roll-Term x)) n) (sym (fold-roll-Term TermNest TermNest term_nest part_nest x))
      (subst (λ t. TermNests t (term_nest (map-Term Term SignedTerm TermNest TermNest nest_of_term nest_of_part x))) (sym (fold-roll-Term TermText PartText (term_text parts) part_text x)) (form_nests y))

  each_part : (y : SignedTerm-F (SomeTerm parts) (SomePart parts)) →
      PartFine parts (roll-SignedTerm (map-SignedTerm (SomeTerm parts) (SomePart parts) Term SignedTerm (λ a. a.0) (λ a. a.0) y))
  unfolding TermFine PartFine text_of_term nest_of_term
  each_part y =
      let x : SignedTerm-F Term SignedTerm = map-SignedTerm (SomeTerm parts) (SomePart parts) Term SignedTerm (λ a. a.0) (λ a. a.0) y in
      subst (λ n. PartNests (text_of_part parts (roll-SignedTerm x)) n) (sym (fold-roll-SignedTerm TermNest TermNest term_nest part_nest x))
      (subst (λ t. PartNests t (nest_of_term y.term.0)) (sym (fold-roll-SignedTerm TermText PartText (term_text parts) part_text x)) (record { own = y.term.1.as_part }))

  all_terms : (x : Term) → TermFine parts x
  all_terms =
      ind-Term (TermFine parts) (PartFine parts) (λ x y is. subst (λ z. TermFine parts (roll-Term z)) is (each y))
      (λ x y is. subst (λ z. PartFine parts (roll-SignedTerm z)) is (each_part y))

  pub term_nests : (x : Term) → TermNests (text_of_term parts x) (nest_of_term x)
  unfolding TermFine
  term_nests x = all_terms x
