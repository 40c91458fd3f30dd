-- Texts that are spaced, in brackets, in rows and between symbols.
use Rattle.std.proofs.Common.{◌≡◌, ℕ, Bool, true, false, not, ◌&&◌, if◌then◌else◌, List, [], ◌∷◌, ◌++◌, Option, None, Some, append_assoc, append-nil, refl, ap, ◌∙◌, flat_map}
use Rattle.std.specs.List.{list_all}
use Rattle.std.proofs.lemmas.Bool.{and_parts, and_from, not-true}
use Rattle.trio_base.specs.Names.{is_name}
use Rattle.trio_text.specs.declared.lexeme.Lexeme.{Lexeme}
use Rattle.trio_text.specs.declared.lexeme.Lexeme.TheVariants as lexeme
use Rattle.trio_text.specs.declared.token.Symbol.{Symbol}
use Rattle.trio_text.specs.declared.token.Symbol.TheVariants as symbol
use Rattle.trio_syntax.specs.Words.{adding_sign}
use Rattle.trio_print.specs.Pieces.{Piece, token, blank, line_end}
use Rattle.trio_print.specs.Canonical.{PartText, sign, spaced, comma, joined_pieces, listed_pieces, in_round, in_square, first_part, later_part, sum_text, ended}
use Rattle.trio_print.proofs.Spaced.{can_join, can_meet, is_lexeme, are_spaced, first_of, meets_sign, spaced_behind_sign, spaced_before_sign, spaced_blank}

-- what may stand directly behind any symbol
abbrev pub starts_apart : Option Piece → Bool
starts_apart (Some (token (lexeme.Sign t))) = not (can_join t)
starts_apart p = true

sign_then : (s : Symbol) (q : Option Piece) → starts_apart q ≡ true → can_meet (Some (token (lexeme.Sign s))) q ≡ true
sign_then s None apart = refl
sign_then s (Some blank) apart = refl
sign_then s (Some line_end) apart = refl
sign_then s (Some (token (lexeme.Name name))) apart = refl
sign_then s (Some (token (lexeme.Number n))) apart = refl
sign_then s (Some (token (lexeme.Word r))) apart = refl
sign_then s (Some (token (lexeme.Sign t))) apart = meets_sign (Some (token (lexeme.Sign s))) t (not-true (can_join t) apart)

pub after_sign : (s : Symbol) (x : List Piece) → are_spaced x ≡ true → starts_apart (first_of x) ≡ true → are_spaced (token (lexeme.Sign s) ∷ x) ≡ true
after_sign s x is apart = and_from _ _ (sign_then s (first_of x) apart) is

pub one_token : (x : Lexeme) → is_lexeme x ≡ true → are_spaced (token x ∷ []) ≡ true
one_token x is = and_from (is_lexeme x) true is refl

-- ---- brackets

pub round_spaced : (x : List Piece) → are_spaced x ≡ true → are_spaced (in_round x) ≡ true
round_spaced x is =
    spaced_behind_sign symbol.LeftRound (x ++ token (lexeme.Sign symbol.RightRound) ∷ []) refl (spaced_before_sign x symbol.RightRound [] refl is refl)

pub square_spaced : (x : List Piece) → are_spaced x ≡ true → are_spaced (in_square x) ≡ true
square_spaced x is =
    spaced_behind_sign symbol.LeftSquare (x ++ token (lexeme.Sign symbol.RightSquare) ∷ []) refl (spaced_before_sign x symbol.RightSquare [] refl is refl)

pub brace_spaced : (x : List Piece) → are_spaced x ≡ true → are_spaced (sign symbol.LeftBrace ++ x ++ sign symbol.RightBrace) ≡ true
brace_spaced x is =
    spaced_behind_sign symbol.LeftBrace (x ++ token (lexeme.Sign symbol.RightBrace) ∷ []) refl (spaced_before_sign x symbol.RightBrace [] refl is refl)

-- ---- something between

pub blanks_between : (s : Symbol) (x y : List Piece) → are_spaced x ≡ true → are_spaced y ≡ true → are_spaced (x ++ spaced s ++ y) ≡ true
blanks_between s x y front back =
    ap are_spaced (append_assoc x (spaced s) y) ∙ spaced_blank x (token (lexeme.Sign s) ∷ blank ∷ y) front back

pub comma_between : (x y : List Piece) → are_spaced x ≡ true → are_spaced y ≡ true → are_spaced (x ++ comma ++ y) ≡ true
comma_between x y front back =
    ap are_spaced (append_assoc x comma y) ∙ spaced_before_sign x symbol.Comma (blank ∷ y) refl front back

pub span_between : (x y : List Piece) → are_spaced x ≡ true → are_spaced y ≡ true → are_spaced (x ++ sign symbol.Span ++ y) ≡ true
span_between x y front back =
    ap are_spaced (append_assoc x (sign symbol.Span) y)
    ∙ spaced_before_sign x symbol.Span y refl front (spaced_behind_sign symbol.Span y refl back)

-- ---- rows

regroup : (x b y rest : List Piece) → x ++ (b ++ y ++ rest) ≡ x ++ b ++ y ++ rest
regroup x b y rest = simp append_assoc

row_spaced : (b : List Piece) → ((x y : List Piece) → are_spaced x ≡ true → are_spaced y ≡ true → are_spaced (x ++ b ++ y) ≡ true) →
    (x : List Piece) (xs : List (List Piece)) → are_spaced x ≡ true → list_all are_spaced xs ≡ true → are_spaced (x ++ flat_map (λ y. b ++ y) xs) ≡ true
row_spaced b link x [] first all = ap are_spaced (append-nil x) ∙ first
row_spaced b link x (y ∷ ys) first all =
    let both = and_parts (are_spaced y) (list_all are_spaced ys) all in
    ap are_spaced (regroup x b y (flat_map (λ z. b ++ z) ys)) ∙ row_spaced b link (x ++ b ++ y) ys (link x y first both.0) both.1

joined_spaced : (b : List Piece) → ((x y : List Piece) → are_spaced x ≡ true → are_spaced y ≡ true → are_spaced (x ++ b ++ y) ≡ true) →
    (xs : List (List Piece)) → list_all are_spaced xs ≡ true → are_spaced (joined_pieces b xs) ≡ true
joined_spaced b link [] all = refl
joined_spaced b link (x ∷ xs) all =
    let both = and_parts (are_spaced x) (list_all are_spaced xs) all in
    row_spaced b link x xs both.0 both.1

pub commas_spaced : (xs : List (List Piece)) → list_all are_spaced xs ≡ true → are_spaced (joined_pieces comma xs) ≡ true
commas_spaced = joined_spaced comma comma_between

pub symbols_spaced : (s : Symbol) (xs : List (List Piece)) → list_all are_spaced xs ≡ true → are_spaced (joined_pieces (spaced s) xs) ≡ true
symbols_spaced s = joined_spaced (spaced s) (blanks_between s)

-- a name, and what is listed behind it
pub named_listed : (name : List ℕ) (xs : List (List Piece)) → is_name name ≡ true → list_all are_spaced xs ≡ true →
    are_spaced (token (lexeme.Name name) ∷ listed_pieces xs) ≡ true
named_listed name [] named all = one_token (lexeme.Name name) named
named_listed name (x ∷ xs) named all = and_from (is_name name) _ named (round_spaced (joined_pieces comma (x ∷ xs)) (commas_spaced (x ∷ xs) all))

-- ---- sums

abbrev pub part_stands : List (List ℕ) → PartText → Bool
part_stands names p = are_spaced (p.text names) && starts_apart (first_of (p.text names))

parts_behind : (names : List (List ℕ)) (x : List Piece) (ps : List PartText) → are_spaced x ≡ true → list_all (part_stands names) ps ≡ true →
    are_spaced (x ++ flat_map (later_part names) ps) ≡ true
parts_behind names x [] first all = ap are_spaced (append-nil x) ∙ first
parts_behind names x (p ∷ ps) first all =
    let both = and_parts (part_stands names p) (list_all (part_stands names) ps) all in
    let text = and_parts (are_spaced (p.text names)) (starts_apart (first_of (p.text names))) both.0 in
    ap are_spaced (regroup x (spaced (adding_sign p.minus)) (p.text names) (flat_map (later_part names) ps))
    ∙ parts_behind names (x ++ spaced (adding_sign p.minus) ++ p.text names) ps (blanks_between (adding_sign p.minus) x (p.text names) first text.0) both.1

with_sign : (minus : Bool) (x : List Piece) → are_spaced x ≡ true → starts_apart (first_of x) ≡ true →
    are_spaced ((if minus then sign symbol.Minus else []) ++ x) ≡ true
with_sign true x is apart = after_sign symbol.Minus x is apart
with_sign false x is apart = is

pub sum_spaced : (names : List (List ℕ)) (ps : List PartText) → list_all (part_stands names) ps ≡ true → are_spaced (sum_text ps names) ≡ true
sum_spaced names [] all = refl
sum_spaced names (p ∷ ps) all =
    let both = and_parts (part_stands names p) (list_all (part_stands names) ps) all in
    let text = and_parts (are_spaced (p.text names)) (starts_apart (first_of (p.text names))) both.0 in
    parts_behind names (first_part names p) ps (with_sign p.minus (p.text names) text.0 text.1) both.1

-- ---- statements

pub ended_spaced : (x y : List Piece) → are_spaced x ≡ true → are_spaced y ≡ true → are_spaced (ended x ++ y) ≡ true
ended_spaced x y front back =
    let whole : ended x ++ y ≡ x ++ token (lexeme.Sign symbol.Semi) ∷ line_end ∷ y = simp append_assoc in
    ap are_spaced whole ∙ spaced_before_sign x symbol.Semi (line_end ∷ y) refl front back

pub statements_spaced : {X : Type 0} (line : X → List Piece) (xs : List X) (rest : List Piece) → list_all (λ x. are_spaced (line x)) xs ≡ true → are_spaced rest ≡ true →
    are_spaced (flat_map (λ x. ended (line x)) xs ++ rest) ≡ true
statements_spaced line [] rest all back = back
statements_spaced line (x ∷ xs) rest all back =
    let both = and_parts (are_spaced (line x)) (list_all (λ x. are_spaced (line x)) xs) all in
    ap are_spaced (append_assoc (ended (line x)) (flat_map (λ x. ended (line x)) xs) rest)
    ∙ ended_spaced (line x) (flat_map (λ x. ended (line x)) xs ++ rest) both.0 (statements_spaced line xs rest both.1 back)
