-- The canonical text of a term is a text of the rows of terms, and its tree stands for the term.
use Rattle.std.proofs.Common.{◌≡◌, ℕ, Bool, true, false, ◌==◌, if◌then◌else◌, List, [], ◌∷◌, ◌++◌, map, Option, None, Some, slice_get, slice_index_or, refl, sym, ap, subst, ◌∙◌}
use Rattle.std.specs.List.{list_all, flat_map}
use Rattle.std.proofs.Math.Logic.{⊎_elim}
use Rattle.std.proofs.lemmas.Bool.{and_parts, cases_Bool, false≢true}
use Rattle.std.proofs.lemmas.List.{append-nil, append_assoc}
use Rattle.std.proofs.lemmas.List.Folds.{list_all-map, flat_map-map}
use Rattle.trio_text.specs.declared.lexeme.Lexeme.{Lexeme}
use Rattle.trio_text.specs.declared.lexeme.Lexeme.TheVariants as lexeme
use Rattle.trio_text.specs.declared.token.Symbol.TheVariants as signs
use Rattle.trio_types.specs.declared.formula.Term.{Term}
use Rattle.trio_types.specs.declared.formula.Term.TheVariants as terms
use Rattle.trio_types.specs.declared.formula.Term.TheOpen as open_term
use Rattle.trio_types.specs.declared.formula.SignedTerm.{SignedTerm, out-SignedTerm}
use Rattle.trio_types.specs.Parts.{Parts}
use Rattle.trio_types.specs.Shape.{SignedShape, term_is_shaped, makes_sum}
use Rattle.trio_types.proofs.ShapeAt.{shape_of_part, term_is_shaped-Read, term_is_shaped-Sum, term_is_shaped-Times}
use Rattle.trio_types.proofs.Lists.{map-map}
use Rattle.trio_syntax.specs.declared.tree.Mention.{Mention}
use Rattle.trio_syntax.specs.declared.tree.Written.{Written}
use Rattle.trio_syntax.specs.declared.tree.TermTree.{TermTree}
use Rattle.trio_syntax.specs.declared.tree.TermShape.TheVariants as shape
use Rattle.trio_syntax.specs.declared.tree.PartTree.{PartTree}
use Rattle.trio_syntax.specs.Words.{adding_sign, truth_word}
use Rattle.trio_syntax.specs.Forms.{Form, seq, row, adding, term, summand, factor, basic}
use Rattle.trio_syntax.specs.Grammar.{a, signed, arguments}
use Rattle.trio_print.specs.Pieces.{Piece, lexemes_in}
use Rattle.trio_print.specs.Canonical.{Printed, TermText, term_text, text_of_term, same_text, sign, word_, name_, read_text, listed_pieces, comma, joined_pieces, in_square, sum_text, product_text, later_part, item_name, word_name, constant}
use Rattle.trio_types.proofs.Inductions.{Each, TermCases, every_term}
use Rattle.trio_canonical.proofs.Told.{Told, told_text, told_empty, told_one, told_row, told_seq, told_left, told_right, told_both, told_before, told_none, told_many, told_listed, Pairwise, each_map}
use Rattle.trio_canonical.proofs.Texts.{lexemes-append, lexemes-round, lexemes-square, lexemes-flat_map, lexemes-joined, text_of_part, text-Number, text-Value, text-Var, text-Read, text-Sum, text-Times}
use Rattle.trio_canonical.proofs.TermStands.{Stands, stands_shape, stands_number, stands_times, stands_truth, stands_word, stands_variable, stands_read, stands_sum, ArgumentsStand, PartStands}

-- a summand is a term
pub told_term : {P : TermTree → Type 0} {x : List Lexeme} → Told (row summand) P x → Told (row term) P x
told_term {P} {x} t =
    told_row term (told_text (append-nil x)
    (told_seq {P = λ minus. minus ≡ false} {Q = λ r. P r.0 × (r.1 ≡ [])} (λ p minus r plus good. let none = good.1 in rw (plus, none) good.0)
    (told_right (told_empty refl)) (told_both t (told_none {S = λ ts. ts ≡ []} refl))))

-- each thing that passes has a fact
pub each_passing : {X : Type 0} (p : X → Bool) (Q : X → Type 0) (xs : List X) → Each (λ x. p x ≡ true → Q x) xs → list_all p xs ≡ true → Each Q xs
each_passing p Q [] each all = tt
each_passing p Q (x ∷ xs) each all =
    let both = and_parts (p x) (list_all p xs) all in
    (each.0 both.0, each_passing p Q xs each.1 both.1)

-- the texts of a term, each as a text of its row
pub record HasTexts (parts : Parts) (names : List (List ℕ)) (x : Term) (t : TermText) : Type 0 where
  pub plain : Told (row term) (Stands parts names x) (lexemes_in (t.plain names))
  pub as_part : Told (row summand) (Stands parts names x) (lexemes_in (t.as_part names))
  pub as_factor : Told (row factor) (Stands parts names x) (lexemes_in (t.as_factor names))

module _ (parts : Parts) (names : List (List ℕ)) where
  basic_texts : (x : Term) (t : Printed) → Told (row basic) (Stands parts names x) (lexemes_in (t names)) → HasTexts parts names x (same_text t)
  basic_texts x t told =
      let part = told_row summand (told_right told) in
      record { plain = told_term part; as_part = part; as_factor = told_row factor (told_right told) }

  in_brackets : (x : Term) (t : Printed) → Told (row term) (Stands parts names x) (lexemes_in (t names)) → Told (row basic) (Stands parts names x) (lexemes_in (in_square (t names)))
  in_brackets x t told =
      told_text (sym (lexemes-square (t names)))
      (told_row basic (told_right (told_left
      (told_seq {P = λ u. Unit {0}} (λ p u t one good. stands_shape p good) (told_one tt (λ p. tt)) (told_before signs.RightSquare told)))))

  name_alone : (x : Term) (name : List ℕ) → ((p : ℕ) (m : Mention) → m.name ≡ name → Stands parts names x (record { place = p; shape = shape.Named m })) →
      Told (row basic) (Stands parts names x) (lexeme.Name name ∷ [])
  name_alone x name stands =
      told_row basic (told_right (told_right
      (told_seq {P = λ (m : Mention). m.name ≡ name} {Q = λ (o : Option (List TermTree)). o ≡ None} (λ p m o is none. rw (none) (stands p m is))
      (told_one name (λ p. refl)) (told_right (told_empty refl)))))

  number_texts : (n : ℕ) → HasTexts parts names (terms.Number n) (term_text parts (open_term.Number n))
  number_texts n =
      let part : Told (row summand) (Stands parts names (terms.Number n)) (lexeme.Number n ∷ []) =
      told_row summand (told_left
      (told_seq {P = λ (w : Written). w.number ≡ n} {Q = λ (o : Option TermTree). o ≡ None} (λ p w o is none. rw (none) (stands_number n p w is))
      (told_one n (λ p. refl)) (told_right (told_empty refl)))) in
      record {
        plain = told_term part;
        as_part = part;
        as_factor = told_row factor (told_left (told_one n (λ p. stands_number n p (record { number = n; place = p }) refl)));
      }

  value_text : (d v : ℕ) → Told (row basic) (Stands parts names (terms.Value d v)) (lexemes_in (constant parts d v))
  value_text d v =
      ⊎_elim
      (λ first. told_text (sym (ap (λ b. lexemes_in (if b then word_ (truth_word (v == 1)) else name_ (word_name (slice_get parts.domains d) v))) first))
      (told_row basic (told_left (told_one (v == 1) (λ p. stands_truth parts names d v p first)))))
      (λ other. told_text (sym (ap (λ b. lexemes_in (if b then word_ (truth_word (v == 1)) else name_ (word_name (slice_get parts.domains d) v))) other))
      (name_alone (terms.Value d v) (word_name (slice_get parts.domains d) v) (λ p m is. stands_word parts names d v p m other is)))
      (cases_Bool (d == 0))

  variable_text : (level : ℕ) → Told (row basic) (Stands parts names (terms.Var level)) (lexeme.Name (slice_index_or names level []) ∷ [])
  variable_text level = name_alone (terms.Var level) (slice_index_or names level []) (λ p m is. stands_variable parts names level p m is)

  -- arguments
  abbrev plain_text : Term → List Lexeme
  plain_text x = lexemes_in ((text_of_term parts x).plain names)

  abbrev plain_texts : List Term → List (List Piece)
  plain_texts args = map (λ (t : TermText). t.plain names) (map (text_of_term parts) args)

  arguments_text : (args : List Term) → Each (λ x. Told (row term) (Stands parts names x) (plain_text x)) args →
      Told arguments (ArgumentsStand parts names args) (lexemes_in (listed_pieces (plain_texts args)))
  arguments_text [] each = told_right (told_empty tt)
  arguments_text (x ∷ xs) each =
      let same : lexemes_in (joined_pieces comma (plain_texts (x ∷ xs))) ≡ plain_text x ++ flat_map (λ y. lexeme.Sign signs.Comma ∷ plain_text y) xs =
      ap (λ ts. lexemes_in (joined_pieces comma ts)) (map-map (λ (t : TermText). t.plain names) (text_of_term parts) (x ∷ xs))
      ∙ lexemes-joined comma signs.Comma refl (λ y. (text_of_term parts y).plain names) x xs in
      told_text (sym (lexemes-round (joined_pieces comma (plain_texts (x ∷ xs))) ∙ ap (λ z. lexeme.Sign signs.LeftRound ∷ (z ++ lexeme.Sign signs.RightRound ∷ [])) same))
      (told_left
      (told_seq {P = λ u. Unit {0}} {Q = Pairwise (Stands parts names) (x ∷ xs)} (λ p u ts one good. good) (told_one tt (λ p. tt))
      (told_before signs.RightRound (told_listed (row term) (Stands parts names) plain_text signs.Comma x xs each))))

  read_text_told : (number_of : ℕ) (args : List Term) → Each (λ x. Told (row term) (Stands parts names x) (plain_text x)) args →
      Told (row basic) (Stands parts names (terms.Read number_of args))
      (lexeme.Name (item_name (slice_get parts.items number_of)) ∷ lexemes_in (listed_pieces (plain_texts args)))
  read_text_told number_of args each =
      told_row basic (told_right (told_right
      (told_seq {P = λ (m : Mention). m.name ≡ item_name (slice_get parts.items number_of)} {Q = ArgumentsStand parts names args}
      (λ p m o is good. stands_read parts names number_of args p m o is good)
      (told_one (item_name (slice_get parts.items number_of)) (λ p. refl)) (arguments_text args each))))

  -- sums
  abbrev part_tokens : SignedTerm → List Lexeme
  part_tokens p = lexemes_in ((text_of_part parts p).text names)

  abbrev PartTold : SignedTerm → Type 0
  PartTold p = Told (row summand) (Stands parts names (out-SignedTerm p).term) (part_tokens p)

  abbrev signed_tokens : SignedTerm → List Lexeme
  signed_tokens p = lexeme.Sign (adding_sign (out-SignedTerm p).minus) ∷ part_tokens p

  abbrev a_part : Form PartTree
  a_part = seq (a adding) (row summand) (λ p minus t. record { minus = minus; term = t })

  parts_told : (ps : List SignedTerm) → Each PartTold ps → Each (λ p. Told a_part (PartStands parts names p) (signed_tokens p)) ps
  parts_told [] each = tt
  parts_told (p ∷ ps) each = (
    told_seq {P = λ minus. minus ≡ (out-SignedTerm p).minus} {Q = Stands parts names (out-SignedTerm p).term} (λ place minus t is good. (is, good))
        (told_one (out-SignedTerm p).minus (λ place. refl)) each.0,
    parts_told ps each.1,
  )

  sign_told : (minus : Bool) → Told signed (λ b. b ≡ minus) (lexemes_in (if minus then sign signs.Minus else []))
  sign_told true = told_left (told_one tt (λ p. refl))
  sign_told false = told_right (told_empty refl)

  sum_tokens : (p : SignedTerm) (ps : List SignedTerm) →
      lexemes_in (sum_text (map (text_of_part parts) (p ∷ ps)) names)
      ≡ lexemes_in (if (out-SignedTerm p).minus then sign signs.Minus else []) ++ (part_tokens p ++ flat_map signed_tokens ps)
  sum_tokens p ps =
      let front : List Piece = if (out-SignedTerm p).minus then sign signs.Minus else [] in
      let own : List Piece = (text_of_part parts p).text names in
      let later : List Piece = flat_map (later_part names) (map (text_of_part parts) ps) in
      let same : lexemes_in later ≡ flat_map signed_tokens ps =
      ap lexemes_in (flat_map-map (later_part names) (text_of_part parts) ps) ∙ lexemes-flat_map (λ p. later_part names (text_of_part parts p)) ps in
      lexemes-append (front ++ own) later ∙ rw (lexemes-append front own, same) (append_assoc (lexemes_in front) (lexemes_in own) (flat_map signed_tokens ps))

  sum_told : (p : SignedTerm) (ps : List SignedTerm) → makes_sum (map shape_of_part (p ∷ ps)) ≡ true → Each PartTold (p ∷ ps) →
      Told (row term) (Stands parts names (terms.Sum (p ∷ ps))) (lexemes_in (sum_text (map (text_of_part parts) (p ∷ ps)) names))
  sum_told p ps makes each =
      told_text (sym (sum_tokens p ps)) (told_row term
      (told_seq {P = λ b. b ≡ (out-SignedTerm p).minus} {Q = λ r. Stands parts names (out-SignedTerm p).term r.0 × Pairwise (PartStands parts names) ps r.1}
      (λ place minus r is good. stands_sum parts names p ps place minus r.0 r.1 makes is good.0 good.1)
      (sign_told (out-SignedTerm p).minus)
      (told_both each.0 (told_many a_part (PartStands parts names) signed_tokens ps (parts_told ps each.1)))))

  sum_texts : (ps : List SignedTerm) → makes_sum (map shape_of_part ps) ≡ true → Each PartTold ps → HasTexts parts names (terms.Sum ps) (term_text parts (open_term.Sum (map (text_of_part parts) ps)))
  sum_texts [] makes each = absurd (false≢true makes)
  sum_texts (p ∷ ps) makes each =
      let plain = sum_told p ps makes each in
      let inner = in_brackets (terms.Sum (p ∷ ps)) (sum_text (map (text_of_part parts) (p ∷ ps))) plain in
      record { plain = plain; as_part = told_row summand (told_right inner); as_factor = told_row factor (told_right inner) }

  times_texts : (n : ℕ) (x : Term) → Told (row factor) (Stands parts names x) (lexemes_in ((text_of_term parts x).as_factor names)) →
      HasTexts parts names (terms.Times n x) (term_text parts (open_term.Times n (text_of_term parts x)))
  times_texts n x told =
      let part : Told (row summand) (Stands parts names (terms.Times n x)) (lexemes_in (product_text n (text_of_term parts x) names)) =
      told_row summand (told_left
      (told_seq {P = λ (w : Written). w.number ≡ n} {Q = λ (o : Option TermTree). (t : TermTree) × (o ≡ Some t) × Stands parts names x t}
      (λ p w o is some. let there = some.1 in rw (there) (stands_times n x p w some.0 is some.2))
      (told_one n (λ p. refl))
      (told_left
      (told_seq {P = λ u. Unit {0}} (λ p u t one good. (t, refl, good)) (told_one tt (λ p. tt)) told)))) in
      let plain = told_term part in
      record {
        plain = plain;
        as_part = part;
        as_factor = told_row factor (told_right (in_brackets (terms.Times n x) (product_text n (text_of_term parts x)) plain));
      }

-- every term that is shaped as one has its texts
TermTold : Parts → Term → Type 0
TermTold parts x = term_is_shaped x ≡ true → (names : List (List ℕ)) → HasTexts parts names x (text_of_term parts x)

term_cases : (parts : Parts) → TermCases (TermTold parts)
unfolding TermTold
term_cases parts = record {
  at_number = λ n shaped names. subst (HasTexts parts names (terms.Number n)) (sym (text-Number parts n)) (number_texts parts names n);
  at_value = λ d v shaped names.
      subst (HasTexts parts names (terms.Value d v)) (sym (text-Value parts d v)) (basic_texts parts names (terms.Value d v) (λ names. constant parts d v) (value_text parts names d v));
  at_var = λ level shaped names.
      subst (HasTexts parts names (terms.Var level)) (sym (text-Var parts level))
      (basic_texts parts names (terms.Var level) (λ names. name_ (slice_index_or names level [])) (variable_text parts names level));
  at_read = λ number_of args each shaped names.
      let told = each_passing term_is_shaped (λ x. Told (row term) (Stands parts names x) (plain_text parts names x)) args
      (each_map (TermTold parts) (λ x. term_is_shaped x ≡ true → Told (row term) (Stands parts names x) (plain_text parts names x)) (λ x is yes. (is yes names).plain) args each)
      (sym (term_is_shaped-Read number_of args) ∙ shaped) in
      subst (HasTexts parts names (terms.Read number_of args)) (sym (text-Read parts number_of args))
      (basic_texts parts names (terms.Read number_of args) (read_text parts number_of (map (text_of_term parts) args)) (read_text_told parts names number_of args told));
  at_sum = λ ps each shaped names.
      let both = and_parts (makes_sum (map shape_of_part ps)) (list_all (λ (s : SignedShape). s.is_shaped) (map shape_of_part ps)) (sym (term_is_shaped-Sum ps) ∙ shaped) in
      let told = each_passing (λ (p : SignedTerm). term_is_shaped (out-SignedTerm p).term) (PartTold parts names) ps
      (each_map (λ (p : SignedTerm). TermTold parts (out-SignedTerm p).term) (λ (p : SignedTerm). term_is_shaped (out-SignedTerm p).term ≡ true → PartTold parts names p)
      (λ p is yes. (is yes names).as_part) ps each)
      (sym (list_all-map (λ (s : SignedShape). s.is_shaped) shape_of_part ps) ∙ both.1) in
      subst (HasTexts parts names (terms.Sum ps)) (sym (text-Sum parts ps)) (sum_texts parts names ps both.0 told);
  at_times = λ n x is shaped names.
      subst (HasTexts parts names (terms.Times n x)) (sym (text-Times parts n x)) (times_texts parts names n x (is (sym (term_is_shaped-Times n x) ∙ shaped) names).as_factor);
}

pub term_told : (parts : Parts) (x : Term) → term_is_shaped x ≡ true → (names : List (List ℕ)) → HasTexts parts names x (text_of_term parts x)
unfolding TermTold
term_told parts x = every_term (TermTold parts) (term_cases parts) x
