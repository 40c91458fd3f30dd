-- Which pieces may stand one behind another, so that they stay apart as tokens.
use Rattle.std.proofs.Common.{◌≡◌, ℕ, Bool, true, false, not, ◌&&◌, ◌||◌, ◌==◌, nat_le, List, [], ◌∷◌, ◌++◌, Option, None, Some, refl, sym, ap, ◌∙◌}
use Rattle.std.specs.Option.{option_or}
use Rattle.trio_base.specs.declared.limits.TheConstants.{GREATEST_NUMBER}
use Rattle.trio_text.specs.declared.lexeme.Lexeme.{Lexeme}
use Rattle.trio_text.specs.declared.lexeme.Lexeme.TheVariants as lexeme
use Rattle.trio_text.specs.declared.token.Symbol.{Symbol}
use Rattle.trio_text.specs.declared.token.Symbol.TheVariants as symbol
use Rattle.trio_text.specs.Spelling.{symbol_text, is_name}
use Rattle.trio_text.proofs.Runs.{and_left, and_right, and_both}
use Rattle.trio_text.proofs.Spellings.{begins_with}
use Rattle.trio_print.specs.Pieces.{Piece, token, blank, line_end}

-- the symbol begins a longer one
abbrev pub can_grow : Symbol → Bool
can_grow symbol.Not = true
can_grow symbol.Lt = true
can_grow symbol.Gt = true
can_grow symbol.Minus = true
can_grow s = false

-- `=`, `>` and `-`: the bytes by which a symbol grows
abbrev pub grows_by : ℕ → Bool
grows_by b = b == 61 || (b == 62 || b == 45)

-- the symbol begins with a byte by which others grow
abbrev pub can_join : Symbol → Bool
can_join s = begins_with grows_by (symbol_text s)

-- the second token may stand directly behind the first
abbrev pub stand_apart : Lexeme → Lexeme → Bool
stand_apart (lexeme.Sign s) (lexeme.Sign t) = not (can_grow s && can_join t)
stand_apart (lexeme.Sign s) y = true
stand_apart x (lexeme.Sign t) = true
stand_apart x y = false

-- a name, a number that a text may hold, a reserved word or a symbol
abbrev pub is_lexeme : Lexeme → Bool
is_lexeme (lexeme.Name name) = is_name name
is_lexeme (lexeme.Number n) = nat_le n GREATEST_NUMBER
is_lexeme (lexeme.Word r) = true
is_lexeme (lexeme.Sign s) = true

abbrev pub is_piece : Piece → Bool
is_piece (token x) = is_lexeme x
is_piece p = true

-- the second piece, where there is one, may stand directly behind the first
abbrev pub can_meet : Option Piece → Option Piece → Bool
can_meet (Some (token x)) (Some (token y)) = stand_apart x y
can_meet p q = true

abbrev pub first_of : List Piece → Option Piece
first_of [] = None
first_of (p ∷ ps) = Some p

abbrev pub last_of : List Piece → Option Piece
last_of [] = None
last_of (p ∷ ps) = option_or (last_of ps) (Some p)

-- each piece can be printed, and may stand where it does
abbrev pub are_spaced : List Piece → Bool
are_spaced [] = true
are_spaced (p ∷ ps) = is_piece p && (can_meet (Some p) (first_of ps) && are_spaced ps)

-- ---- texts in a row

-- a text that is not empty has its last piece whatever stands before it
last_from : (p q : Piece) (x : List Piece) → last_of (p ∷ q ∷ x) ≡ last_of (q ∷ x)
last_from p q x = go (last_of x)
  where
    go : (o : Option Piece) → option_or (option_or o (Some q)) (Some p) ≡ option_or o (Some q)
    go None = refl
    go (Some r) = refl

pub spaced_append : (x y : List Piece) → are_spaced x ≡ true → are_spaced y ≡ true → can_meet (last_of x) (first_of y) ≡ true → are_spaced (x ++ y) ≡ true
spaced_append [] y front back met = back
spaced_append (p ∷ []) y front back met = and_both _ _ (and_left (is_piece p) _ front) (and_both _ _ met back)
spaced_append (p ∷ q ∷ x) y front back met =
    let behind = and_right (is_piece p) _ front in
    and_both _ _ (and_left (is_piece p) _ front)
    (and_both _ _ (and_left (can_meet (Some p) (Some q)) _ behind)
    (spaced_append (q ∷ x) y (and_right (can_meet (Some p) (Some q)) _ behind) back (ap (λ o. can_meet o (first_of y)) (sym (last_from p q x)) ∙ met)))

-- ---- what may meet anything

pub meets_blank : (p : Option Piece) → can_meet p (Some blank) ≡ true
meets_blank None = refl
meets_blank (Some (token x)) = refl
meets_blank (Some blank) = refl
meets_blank (Some line_end) = refl

pub meets_line_end : (p : Option Piece) → can_meet p (Some line_end) ≡ true
meets_line_end None = refl
meets_line_end (Some (token x)) = refl
meets_line_end (Some blank) = refl
meets_line_end (Some line_end) = refl

no_growth : (g : Bool) → not (g && false) ≡ true
no_growth true = refl
no_growth false = refl

-- a symbol by which no other grows may stand behind anything
pub meets_sign : (p : Option Piece) (t : Symbol) → can_join t ≡ false → can_meet p (Some (token (lexeme.Sign t))) ≡ true
meets_sign None t stays = refl
meets_sign (Some blank) t stays = refl
meets_sign (Some line_end) t stays = refl
meets_sign (Some (token (lexeme.Name name))) t stays = refl
meets_sign (Some (token (lexeme.Number n))) t stays = refl
meets_sign (Some (token (lexeme.Word r))) t stays = refl
meets_sign (Some (token (lexeme.Sign s))) t stays = ap (λ j. not (can_grow s && j)) stays ∙ no_growth (can_grow s)

-- anything may stand behind a symbol that does not grow
pub sign_meets : (s : Symbol) (q : Option Piece) → can_grow s ≡ false → can_meet (Some (token (lexeme.Sign s))) q ≡ true
sign_meets s None stays = refl
sign_meets s (Some blank) stays = refl
sign_meets s (Some line_end) stays = refl
sign_meets s (Some (token (lexeme.Name name))) stays = refl
sign_meets s (Some (token (lexeme.Number n))) stays = refl
sign_meets s (Some (token (lexeme.Word r))) stays = refl
sign_meets s (Some (token (lexeme.Sign t))) stays = ap (λ g. not (g && can_join t)) stays

-- ---- the usual neighbours

-- a text behind a symbol that does not grow
pub spaced_behind_sign : (s : Symbol) (y : List Piece) → can_grow s ≡ false → are_spaced y ≡ true → are_spaced (token (lexeme.Sign s) ∷ y) ≡ true
spaced_behind_sign s y stays back = and_both _ _ (sign_meets s (first_of y) stays) back

-- a text before a symbol by which no other grows
pub spaced_before_sign : (x : List Piece) (t : Symbol) (y : List Piece) → can_join t ≡ false → are_spaced x ≡ true →
    are_spaced (token (lexeme.Sign t) ∷ y) ≡ true → are_spaced (x ++ token (lexeme.Sign t) ∷ y) ≡ true
spaced_before_sign x t y stays front back = spaced_append x (token (lexeme.Sign t) ∷ y) front back (meets_sign (last_of x) t stays)

-- texts with a blank between them
pub spaced_blank : (x y : List Piece) → are_spaced x ≡ true → are_spaced y ≡ true → are_spaced (x ++ blank ∷ y) ≡ true
spaced_blank x y front back = spaced_append x (blank ∷ y) front back (meets_blank (last_of x))
