-- From the lines of a text to its answer.
use Rattle.std.proofs.Common.{◌≡◌, ◌≢◌, ◌⊎◌, ⊎_elim, inl, inr, ℕ, ◌+◌, List, [], ◌∷◌, ◌++◌, refl, sym, ap, ◌∙◌, true, false, Bool, not, ◌==◌, Option, None, Some, Result, Ok, Err, length, position, if◌then◌else◌, option_map, IfOk, subst}
use Rattle.std.proofs.lemmas.Option.{same_Some}
use Rattle.trio_text.specs.declared.token.Token.{Token}
use Rattle.trio_text.specs.declared.lexeme.Lexeme.{Lexeme}
use Rattle.trio_text.specs.Lexemes.{lexemes_of}
use Rattle.trio_text.specs.Tokens.{IsTokens, IsLexFault}
use Rattle.trio_types.specs.World.{World}
use Rattle.trio_types.specs.Cells.{Row, rows_of}
use Rattle.history_table.specs.declared.fault.HistFault.{HistFault}
use Rattle.history_table.specs.declared.fault.HistFault.TheVariants as fault
use Rattle.history_table.specs.declared.line.Line.{Line}
use Rattle.history_table.specs.declared.lines.Found.{Found}
use Rattle.history_table.specs.Lines.{Numbered, NumberedLine, lines_of, AreRead}
use Rattle.history_table.specs.Rows.{named_row, is_outside}
use Rattle.history_table.specs.History.{row_fault, read_fault, have_row, line_fault, lines_fault, first_of, given_of, missing_row, history_of, if_whole, if_sound, SaysHistory, IsGivenText, HasHistFault, IsHistoryAnswer, OneHistory, HistoryOrFault}
use Rattle.history_table.specs.Fitting.{IsGiven}
use Rattle.history_table.specs.Decoding.{line_of, lines_by, placed_of, AreFound, IsFault, joined_rows, joined_lines, has_row, IsJoined}
use Rattle.history_table.proofs.Spellings.{reads_line, reads_once}
use Rattle.history_table.proofs.LineRuns.{lines_by_text}
use Rattle.history_table.proofs.LineSteps.{history_is}
use Rattle.history_table.proofs.Fits.{given_fits}

pub are_read : (ns : List Numbered) → AreRead ns (placed_of ns)
are_read [] = tt
are_read (n ∷ ns) = (refl, reads_line n.tokens, are_read ns)

pub read_once : (ns : List Numbered) (ls : List NumberedLine) → AreRead ns ls → placed_of ns ≡ ls
read_once [] [] are = refl
read_once [] (l ∷ ls) are = absurd are
read_once (n ∷ ns) [] are = absurd are
read_once (n ∷ ns) (l ∷ ls) are =
    ap (λ k. record { number = k; line = line_of n.tokens } ∷ placed_of ns) (sym are.0)
    ∙ ap (λ o. record { number = l.number; line = o } ∷ placed_of ns) (reads_once n.tokens l.line are.1)
    ∙ ap (λ ps. l ∷ ps) (read_once ns ls are.2)

-- the faults that lines have
unfoldable pub OfLine : HistFault → Type 0
OfLine (fault.Lex place) = ⊥
OfLine (fault.MissingRow row) = ⊥
OfLine fault.Memory = ⊥
OfLine f = Unit {0}

of_row : (w : World) (taken : Row → Bool) (number : ℕ) (line : Line) (o : Option Row) (f : HistFault) → row_fault w taken number line o ≡ Some f → OfLine f
unfolding OfLine
of_row w taken number line None f is = subst OfLine (same_Some _ _ is) tt
of_row w taken number line (Some row) f is =
    go (taken row) (length line.entries == w.instants) (position (is_outside w row.item) line.entries) is
  where
    go : (twice whole : Bool) (place : Option ℕ) →
        (if twice then Some (fault.TwiceRow number) else (if not whole then Some (fault.Length number) else option_map (λ column. fault.Value number (column + 1)) place)) ≡ Some f → OfLine f
    go true whole place is = subst OfLine (same_Some _ _ is) tt
    go false false place is = subst OfLine (same_Some _ _ is) tt
    go false true None is = cc
    go false true (Some k) is = subst OfLine (same_Some _ _ is) tt

of_read : (w : World) (taken : Row → Bool) (number : ℕ) (o : Option Line) (f : HistFault) → read_fault w taken number o ≡ Some f → OfLine f
unfolding OfLine
of_read w taken number None f is = subst OfLine (same_Some _ _ is) tt
of_read w taken number (Some line) f is = of_row w taken number line (named_row w line) f is

pub of_lines : (w : World) (earlier lines : List NumberedLine) (f : HistFault) → lines_fault w earlier lines ≡ Some f → OfLine f
unfolding lines_fault
of_lines w earlier [] f is = cc
of_lines w earlier (p ∷ ps) f is = go (line_fault w earlier p) refl (of_lines w (earlier ++ p ∷ []) ps f) is
  where
    go : (o : Option HistFault) → line_fault w earlier p ≡ o → (lines_fault w (earlier ++ p ∷ []) ps ≡ Some f → OfLine f) →
        first_of o (lines_fault w (earlier ++ p ∷ []) ps) ≡ Some f → OfLine f
    go None e more is = more is
    go (Some g) e more is = subst OfLine (same_Some _ _ is) (of_read w (have_row w earlier) p.number p.line g e)

says : (w : World) (text : List ℕ) (tokens : List Token) (answer : Result (List (Option ℕ)) HistFault) → IsTokens text tokens →
    history_of w (placed_of (lines_of text tokens)) ≡ answer → SaysHistory w text answer
says w text tokens answer lexed is =
    record { tokens = tokens; lexed = lexed; lines = placed_of (lines_of text tokens); read = are_read (lines_of text tokens); answered = is }

lines_are : (text : List ℕ) (tokens : List Token) (lexemes : List Lexeme) → lexemes ≡ lexemes_of text tokens → lines_by tokens lexemes ≡ lines_of text tokens
lines_are text tokens lexemes is = ap (lines_by tokens) is ∙ lines_by_text text tokens

pub faulty : (w : World) (text : List ℕ) (tokens : List Token) (lexemes : List Lexeme) (f : HistFault) → IsTokens text tokens → lexemes ≡ lexemes_of text tokens →
    IsFault (lines_fault w [] (placed_of (lines_by tokens lexemes))) f → IsHistoryAnswer w text (Err f)
unfolding OfLine
faulty w text tokens lexemes f lexed said is = go f is
  where
    at : (g : HistFault) → lines_fault w [] (placed_of (lines_by tokens lexemes)) ≡ Some g → SaysHistory w text (Err g)
    at g e = says w text tokens (Err g) lexed
        (ap (λ lines. history_of w (placed_of lines)) (sym (lines_are text tokens lexemes said)) ∙ ap (if_sound w (placed_of (lines_by tokens lexemes))) e)

    of_line : (g : HistFault) → lines_fault w [] (placed_of (lines_by tokens lexemes)) ≡ Some g → OfLine g
    of_line g e = of_lines w [] (placed_of (lines_by tokens lexemes)) g e

    go : (g : HistFault) → IsFault (lines_fault w [] (placed_of (lines_by tokens lexemes))) g → IsHistoryAnswer w text (Err g)
    go fault.Memory is = tt
    go (fault.Lex place) is = absurd (of_line (fault.Lex place) is)
    go (fault.MissingRow row) is = at (fault.MissingRow row) is
    go (fault.Syntax n) is = at (fault.Syntax n) is
    go (fault.UnknownRow n) is = at (fault.UnknownRow n) is
    go (fault.TwiceRow n) is = at (fault.TwiceRow n) is
    go (fault.Length n) is = at (fault.Length n) is
    go (fault.Value n k) is = at (fault.Value n k) is

-- what lines without fault answer
pub whole : (w : World) (text : List ℕ) (tokens : List Token) (lexemes : List Lexeme) (found : List Found) (r : Result (List (Option ℕ)) HistFault) →
    IsTokens text tokens → lexemes ≡ lexemes_of text tokens → AreFound w (placed_of (lines_by tokens lexemes)) found →
    lines_fault w [] (placed_of (lines_by tokens lexemes)) ≡ None → IsJoined w found r → IsHistoryAnswer w text r × IfOk r (IsGiven w)
whole w text tokens lexemes found r lexed said are none is = go r is
  where
    same : history_of w (placed_of (lines_of text tokens)) ≡ joined_lines w found
    same = ap (λ lines. history_of w (placed_of lines)) (sym (lines_are text tokens lexemes said)) ∙ history_is w (placed_of (lines_by tokens lexemes)) found are none

    at : (answer : Result (List (Option ℕ)) HistFault) → joined_lines w found ≡ answer → SaysHistory w text answer
    at answer e = says w text tokens answer lexed (same ∙ e)

    no_lex : (o : Option ℕ) (place : ℕ) → joined_rows found (rows_of w) o ≡ Err (fault.Lex place) → ⊥
    no_lex None place e = cc
    no_lex (Some row) place e = cc

    go : (r : Result (List (Option ℕ)) HistFault) → IsJoined w found r → IsHistoryAnswer w text r × IfOk r (IsGiven w)
    go (Ok given) e = (at (Ok given) e, given_fits w (placed_of (lines_of text tokens)) given (same ∙ e))
    go (Err fault.Memory) e = (tt, tt)
    go (Err (fault.Lex place)) e = absurd (no_lex (position (λ row. not (has_row found row)) (rows_of w)) place e)
    go (Err (fault.MissingRow row)) e = (at (Err (fault.MissingRow row)) e, tt)
    go (Err (fault.Syntax n)) e = (at (Err (fault.Syntax n)) e, tt)
    go (Err (fault.UnknownRow n)) e = (at (Err (fault.UnknownRow n)) e, tt)
    go (Err (fault.TwiceRow n)) e = (at (Err (fault.TwiceRow n)) e, tt)
    go (Err (fault.Length n)) e = (at (Err (fault.Length n)) e, tt)
    go (Err (fault.Value n k)) e = (at (Err (fault.Value n k)) e, tt)

-- an answer of bytes, or of lines
told : (w : World) (text : List ℕ) (a : Result (List (Option ℕ)) HistFault) → a ≢ Err fault.Memory → IsHistoryAnswer w text a →
    ((place : ℕ) × (a ≡ Err (fault.Lex place)) × IsLexFault text place) ⊎ SaysHistory w text a
told w text (Ok given) some is = inr is
told w text (Err (fault.Lex place)) some is = inl (place, refl, is)
told w text (Err (fault.Syntax line)) some is = inr is
told w text (Err (fault.UnknownRow line)) some is = inr is
told w text (Err (fault.TwiceRow line)) some is = inr is
told w text (Err (fault.Length line)) some is = inr is
told w text (Err (fault.Value line column)) some is = inr is
told w text (Err (fault.MissingRow row)) some is = inr is
told w text (Err fault.Memory) some is = absurd (some refl)

-- what is known of tokens: they are one list, a fault of bytes is one, and there is one of the two at most
module _ (one_list : (text : List ℕ) (tokens others : List Token) → IsTokens text tokens → IsTokens text others → tokens ≡ others)
    (one_fault : (text : List ℕ) (place other : ℕ) → IsLexFault text place → IsLexFault text other → place ≡ other)
    (apart : (text : List ℕ) (place : ℕ) (tokens : List Token) → IsLexFault text place → IsTokens text tokens → ⊥) where
  said : (w : World) (text : List ℕ) (a b : Result (List (Option ℕ)) HistFault) → SaysHistory w text a → SaysHistory w text b → a ≡ b
  said w text a b x y =
      sym x.answered ∙ ap (history_of w) (sym (read_once (lines_of text x.tokens) x.lines x.read))
      ∙ ap (λ ts. history_of w (placed_of (lines_of text ts))) (one_list text x.tokens y.tokens x.lexed y.lexed)
      ∙ ap (history_of w) (read_once (lines_of text y.tokens) y.lines y.read) ∙ y.answered

  one_told : (w : World) (text : List ℕ) (a b : Result (List (Option ℕ)) HistFault) →
      ((place : ℕ) × (a ≡ Err (fault.Lex place)) × IsLexFault text place) ⊎ SaysHistory w text a →
      ((place : ℕ) × (b ≡ Err (fault.Lex place)) × IsLexFault text place) ⊎ SaysHistory w text b → a ≡ b
  one_told w text a b (inl x) (inl y) = x.1 ∙ ap (λ place. Err (fault.Lex place)) (one_fault text x.0 y.0 x.2 y.2) ∙ sym y.1
  one_told w text a b (inl x) (inr y) = absurd (apart text x.0 y.tokens x.2 y.lexed)
  one_told w text a b (inr x) (inl y) = absurd (apart text y.0 x.tokens y.2 x.lexed)
  one_told w text a b (inr x) (inr y) = said w text a b x y

  pub one_history : OneHistory
  one_history w text a b some other x y = one_told w text a b (told w text a some x) (told w text b other y)

of_line_text : (w : World) (text : List ℕ) (f : HistFault) → OfLine f → SaysHistory w text (Err f) → HasHistFault w text f
unfolding OfLine
of_line_text w text fault.Memory of is = absurd of
of_line_text w text (fault.Lex place) of is = absurd of
of_line_text w text (fault.MissingRow row) of is = absurd of
of_line_text w text (fault.Syntax n) of is = is
of_line_text w text (fault.UnknownRow n) of is = is
of_line_text w text (fault.TwiceRow n) of is = is
of_line_text w text (fault.Length n) of is = is
of_line_text w text (fault.Value n k) of is = is

-- the answer for a text's tokens
of_tokens : (w : World) (text : List ℕ) (tokens : List Token) → IsTokens text tokens →
    ((given : List (Option ℕ)) × IsGivenText w text given) ⊎ ((f : HistFault) × HasHistFault w text f)
of_tokens w text tokens lexed = go (lines_fault w [] lines) refl
  where
    lines : List NumberedLine
    lines = placed_of (lines_of text tokens)

    sound : lines_fault w [] lines ≡ None → (m : Option ℕ) → missing_row w lines ≡ m →
        ((given : List (Option ℕ)) × IsGivenText w text given) ⊎ ((f : HistFault) × HasHistFault w text f)
    sound none None e = inl (given_of w lines, says w text tokens (Ok (given_of w lines)) lexed (ap (if_sound w lines) none ∙ ap (if_whole w lines) e))
    sound none (Some row) e = inr (fault.MissingRow row, says w text tokens (Err (fault.MissingRow row)) lexed (ap (if_sound w lines) none ∙ ap (if_whole w lines) e))

    go : (o : Option HistFault) → lines_fault w [] lines ≡ o → ((given : List (Option ℕ)) × IsGivenText w text given) ⊎ ((f : HistFault) × HasHistFault w text f)
    go None e = sound e (missing_row w lines) refl
    go (Some f) e = inr (f, of_line_text w text f (of_lines w [] lines f e) (says w text tokens (Err f) lexed (ap (if_sound w lines) e)))

pub history_or_fault : ((text : List ℕ) → ((tokens : List Token) × IsTokens text tokens) ⊎ ((place : ℕ) × IsLexFault text place)) → HistoryOrFault
history_or_fault total w text = ⊎_elim (λ t. of_tokens w text t.0 t.1) (λ p. inr (fault.Lex p.0, p.1)) (total text)
