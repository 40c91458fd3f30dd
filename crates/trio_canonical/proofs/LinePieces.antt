-- Lines as they are printed, in pieces: they stand apart, and are read one by one.
use Rattle.std.proofs.Common.{◌≡◌, ℕ, ◌+◌, ◌≤◌, Bool, true, false, ◌&&◌, ◌==◌, List, [], ◌∷◌, ◌++◌, map, Option, None, Some, refl, sym, ap, ◌∙◌, arith, append_assoc}
use Rattle.std.specs.Prelude.{if◌then◌else◌}
use Rattle.std.specs.List.{list_all, flat_map}
use Rattle.std.proofs.lemmas.Bool.{false≢true, and_parts, and_from}
use Rattle.std.proofs.lemmas.Bool.Decides.{nat_tests}
use Rattle.std.proofs.lemmas.List.{map-append}
use Rattle.trio_text.specs.declared.lexeme.Lexeme.{Lexeme}
use Rattle.trio_text.specs.declared.lexeme.Lexeme.TheVariants as lexeme
use Rattle.trio_text.specs.declared.token.Reserved.TheVariants as reserved
use Rattle.trio_text.specs.declared.token.Symbol.TheVariants as symbol
use Rattle.trio_text.specs.Spelling.{is_name}
use Rattle.trio_print.specs.Pieces.{Piece, token, blank, line_end, pieces_text, lexemes_in}
use Rattle.trio_print.proofs.Spaced.{is_lexeme, can_meet, first_of, are_spaced, meets_blank, meets_line_end, meets_sign, spaced_behind_sign}
use Rattle.trio_print.proofs.Printed.{tokens_of, lexemes-append, lexemes-tokens, spaced_lexemes}
use Rattle.history_table.specs.declared.line.Value.{Value}
use Rattle.history_table.specs.declared.line.Value.TheVariants as written
use Rattle.history_table.specs.declared.line.Line.{Line}
use Rattle.history_table.specs.Spelled.{value_tokens, entry_tokens, more_tokens, args_tokens, line_tokens}
use Rattle.history_table.specs.Lines.{Numbered, with_lexeme, lines_of}
use Rattle.history_table.specs.Decoding.{lines_by}
use Rattle.history_table.proofs.LineRuns.{eq_true, lines_by_text}

-- a blank and an entry
abbrev pub entry_pieces : Option Value → List Piece
entry_pieces entry = blank ∷ map token (entry_tokens entry)

-- `:` and entries
abbrev pub behind_args : Line → List Piece
behind_args line = token (lexeme.Sign symbol.Colon) ∷ flat_map entry_pieces line.entries

-- a line without its end
abbrev pub line_front : Line → List Piece
line_front line = token (lexeme.Name line.name) ∷ (map token (args_tokens line.args) ++ behind_args line)

abbrev pub line_pieces : Line → List Piece
line_pieces line = line_front line ++ (line_end ∷ [])

-- ---- the lexemes of a line

entries_say : (es : List (Option Value)) → lexemes_in (flat_map entry_pieces es) ≡ flat_map entry_tokens es
entries_say [] = refl
entries_say (e ∷ es) =
    lexemes-append (entry_pieces e) (flat_map entry_pieces es) ∙ ap (λ ts. ts ++ lexemes_in (flat_map entry_pieces es)) (lexemes-tokens (entry_tokens e))
    ∙ ap (λ ts. entry_tokens e ++ ts) (entries_say es)

line_says : (line : Line) → lexemes_in (line_front line) ≡ line_tokens line
line_says line =
    ap (λ ts. lexeme.Name line.name ∷ ts)
    (lexemes-append (map token (args_tokens line.args)) (behind_args line)
    ∙ ap (λ ts. ts ++ lexemes_in (behind_args line)) (lexemes-tokens (args_tokens line.args))
    ∙ ap (λ ts. args_tokens line.args ++ (lexeme.Sign symbol.Colon ∷ ts)) (entries_say line.entries))

-- ---- line by line

-- the lines of pieces, from this line on
lines_at : ℕ → List Piece → List Numbered
lines_at n [] = []
lines_at n (token x ∷ ps) = with_lexeme n x (lines_at n ps)
lines_at n (blank ∷ ps) = lines_at n ps
lines_at n (line_end ∷ ps) = lines_at (n + 1) ps

lines_by_pieces : (place n : ℕ) (ps : List Piece) → lines_by (tokens_of place n ps) (lexemes_in ps) ≡ lines_at n ps
unfolding lines_at
lines_by_pieces place n [] = refl
lines_by_pieces place n (token x ∷ ps) = ap (with_lexeme n x) (lines_by_pieces _ n ps)
lines_by_pieces place n (blank ∷ ps) = lines_by_pieces (place + 1) n ps
lines_by_pieces place n (line_end ∷ ps) = lines_by_pieces (place + 1) (n + 1) ps

-- the first line has this number or a later one
StartAt : ℕ → List Numbered → Type 0
StartAt m [] = Unit {0}
StartAt m (line ∷ lines) = m ≤ line.number

start_put : (m n : ℕ) (x : Lexeme) (lines : List Numbered) → m ≤ n → StartAt m lines → StartAt m (with_lexeme n x lines)
unfolding StartAt
start_put m n x [] less start = less
start_put m n x (line ∷ lines) less start = go (line.number == n)
  where
    go : (b : Bool) →
        StartAt m (if b then record { number = line.number; tokens = x ∷ line.tokens } ∷ lines else record { number = n; tokens = x ∷ [] } ∷ line ∷ lines)
    go true = start
    go false = less

start_at : (m n : ℕ) (ps : List Piece) → m ≤ n → StartAt m (lines_at n ps)
unfolding StartAt lines_at
start_at m n [] less = tt
start_at m n (token x ∷ ps) less = start_put m n x (lines_at n ps) less (start_at m n ps less)
start_at m n (blank ∷ ps) less = start_at m n ps less
start_at m n (line_end ∷ ps) less = start_at m (n + 1) ps (omega (arith, less))

-- a line with these tokens, where there are some, before others
before_lines : ℕ → List Lexeme → List Numbered → List Numbered
before_lines n [] lines = lines
before_lines n (x ∷ xs) lines = record { number = n; tokens = x ∷ xs } ∷ lines

later_line : (m n : ℕ) → n + 1 ≤ m → (m == n) ≡ false
later_line m n less = grind (arith, nat_tests)

put_before : (n : ℕ) (x : Lexeme) (xs : List Lexeme) (lines : List Numbered) → StartAt (n + 1) lines →
    with_lexeme n x (before_lines n xs lines) ≡ record { number = n; tokens = x ∷ xs } ∷ lines
unfolding StartAt before_lines
put_before n x [] [] start = refl
put_before n x [] (line ∷ lines) start =
    ap (λ b. if b then record { number = line.number; tokens = x ∷ line.tokens } ∷ lines else record { number = n; tokens = x ∷ [] } ∷ line ∷ lines)
    (later_line line.number n start)
put_before n x (y ∷ ys) lines start =
    ap (λ b. if b then record { number = n; tokens = x ∷ y ∷ ys } ∷ lines else record { number = n; tokens = x ∷ [] } ∷ record { number = n; tokens = y ∷ ys } ∷ lines)
    (eq_true n n refl)

-- no line ends among these pieces
stays_in_line : List Piece → Bool
stays_in_line [] = true
stays_in_line (token x ∷ ps) = stays_in_line ps
stays_in_line (blank ∷ ps) = stays_in_line ps
stays_in_line (line_end ∷ ps) = false

in_line : (n : ℕ) (front rest : List Piece) → stays_in_line front ≡ true →
    lines_at n (front ++ (line_end ∷ rest)) ≡ before_lines n (lexemes_in front) (lines_at (n + 1) rest)
unfolding lines_at before_lines stays_in_line
in_line n [] rest stays = refl
in_line n (token x ∷ front) rest stays =
    ap (with_lexeme n x) (in_line n front rest stays)
    ∙ put_before n x (lexemes_in front) (lines_at (n + 1) rest) (start_at (n + 1) (n + 1) rest (omega arith))
in_line n (blank ∷ front) rest stays = in_line n front rest stays
in_line n (line_end ∷ front) rest stays = absurd (false≢true stays)

stays-append : (x y : List Piece) → stays_in_line x ≡ true → stays_in_line y ≡ true → stays_in_line (x ++ y) ≡ true
unfolding stays_in_line
stays-append [] y front back = back
stays-append (token t ∷ x) y front back = stays-append x y front back
stays-append (blank ∷ x) y front back = stays-append x y front back
stays-append (line_end ∷ x) y front back = absurd (false≢true front)

tokens_stay : (xs : List Lexeme) → stays_in_line (map token xs) ≡ true
unfolding stays_in_line
tokens_stay [] = refl
tokens_stay (x ∷ xs) = tokens_stay xs

entries_stay : (es : List (Option Value)) → stays_in_line (flat_map entry_pieces es) ≡ true
unfolding stays_in_line
entries_stay [] = refl
entries_stay (e ∷ es) = stays-append (map token (entry_tokens e)) (flat_map entry_pieces es) (tokens_stay (entry_tokens e)) (entries_stay es)

line_stays : (line : Line) → stays_in_line (line_front line) ≡ true
unfolding stays_in_line
line_stays line = stays-append (map token (args_tokens line.args)) (behind_args line) (tokens_stay (args_tokens line.args)) (entries_stay line.entries)

-- the lines, numbered from here on
abbrev pub numbered_lines : ℕ → List Line → List Numbered
numbered_lines n [] = []
numbered_lines n (line ∷ lines) = record { number = n; tokens = line_tokens line } ∷ numbered_lines (n + 1) lines

one_by_one : (n : ℕ) (lines : List Line) → lines_at n (flat_map line_pieces lines) ≡ numbered_lines n lines
unfolding lines_at before_lines
one_by_one n [] = refl
one_by_one n (line ∷ lines) =
    let rest : List Piece = flat_map line_pieces lines in
    ap (lines_at n) (append_assoc (line_front line) (line_end ∷ []) rest) ∙ in_line n (line_front line) rest (line_stays line)
    ∙ ap (λ ts. before_lines n ts (lines_at (n + 1) rest)) (line_says line)
    ∙ ap (λ ls. record { number = n; tokens = line_tokens line } ∷ ls) (one_by_one (n + 1) lines)

-- the tokens of printed lines are those lines
pub read_one_by_one : (lines : List Line) → are_spaced (flat_map line_pieces lines) ≡ true →
    lines_of (pieces_text (flat_map line_pieces lines)) (tokens_of 0 1 (flat_map line_pieces lines)) ≡ numbered_lines 1 lines
read_one_by_one lines spaced =
    let ps : List Piece = flat_map line_pieces lines in
    sym (lines_by_text (pieces_text ps) (tokens_of 0 1 ps)) ∙ ap (lines_by (tokens_of 0 1 ps)) (spaced_lexemes ps spaced) ∙ lines_by_pieces 0 1 ps ∙ one_by_one 1 lines

-- ---- printed lines stand apart

-- the value or entry can be printed
abbrev pub is_writable : Value → Bool
is_writable value = list_all is_lexeme (value_tokens value)

abbrev pub is_entry : Option Value → Bool
is_entry entry = list_all is_lexeme (entry_tokens entry)

pub record Writable (line : Line) : Type 0 where
  pub name : is_name line.name ≡ true
  pub args : list_all is_writable line.args ≡ true
  pub entries : list_all is_entry line.entries ≡ true

abbrev pub AreWritable : List Line → Type 0
AreWritable [] = Unit {0}
AreWritable (line ∷ lines) = Writable line × AreWritable lines

-- these pieces may stand behind every token
record MeetsAll (ps : List Piece) : Type 0 where
  meets : (x : Lexeme) → can_meet (Some (token x)) (first_of ps) ≡ true

one_token : (x : Lexeme) (rest : List Piece) → (is_lexeme x && true) ≡ true → MeetsAll rest → are_spaced rest ≡ true → are_spaced (token x ∷ rest) ≡ true
one_token x rest is all spaced = and_from (is_lexeme x) _ (and_parts (is_lexeme x) true is).0 (and_from _ _ (all.meets x) spaced)

value_spaced : (value : Value) (rest : List Piece) → is_writable value ≡ true → MeetsAll rest → are_spaced rest ≡ true →
    are_spaced (map token (value_tokens value) ++ rest) ≡ true
value_spaced (written.Number n) rest is all spaced = one_token (lexeme.Number n) rest is all spaced
value_spaced (written.Opposite n) rest is all spaced = one_token (lexeme.Number n) rest is all spaced
value_spaced (written.Truth true) rest is all spaced = one_token (lexeme.Word reserved.True) rest refl all spaced
value_spaced (written.Truth false) rest is all spaced = one_token (lexeme.Word reserved.False) rest refl all spaced
value_spaced (written.Word name) rest is all spaced = one_token (lexeme.Name name) rest is all spaced

entry_spaced : (entry : Option Value) (rest : List Piece) → is_entry entry ≡ true → MeetsAll rest → are_spaced rest ≡ true →
    are_spaced (map token (entry_tokens entry) ++ rest) ≡ true
entry_spaced None rest is all spaced = one_token (lexeme.Sign symbol.Unknown) rest refl all spaced
entry_spaced (Some value) rest is all spaced = value_spaced value rest is all spaced

entries_meet : (es : List (Option Value)) (rest : List Piece) → MeetsAll (flat_map entry_pieces es ++ (line_end ∷ rest))
entries_meet [] rest = record { meets = λ x. meets_line_end (Some (token x)) }
entries_meet (e ∷ es) rest = record { meets = λ x. meets_blank (Some (token x)) }

entries_spaced : (es : List (Option Value)) (rest : List Piece) → list_all is_entry es ≡ true → are_spaced rest ≡ true →
    are_spaced (flat_map entry_pieces es ++ (line_end ∷ rest)) ≡ true
entries_spaced [] rest is spaced = spaced
entries_spaced (e ∷ es) rest is spaced =
    let both = and_parts (is_entry e) (list_all is_entry es) is in
    let behind : List Piece = flat_map entry_pieces es ++ (line_end ∷ rest) in
    ap are_spaced (append_assoc (entry_pieces e) (flat_map entry_pieces es) (line_end ∷ rest))
    ∙ entry_spaced e behind both.0 (entries_meet es rest) (entries_spaced es rest both.1 spaced)

-- more arguments and `)`
abbrev closing : List Value → List Piece → List Piece
closing values rest = map token (flat_map more_tokens values) ++ (token (lexeme.Sign symbol.RightRound) ∷ rest)

closing_meets : (values : List Value) (rest : List Piece) → MeetsAll (closing values rest)
closing_meets [] rest = record { meets = λ x. meets_sign (Some (token x)) symbol.RightRound refl }
closing_meets (v ∷ vs) rest = record { meets = λ x. meets_sign (Some (token x)) symbol.Comma refl }

more_args : (v : Value) (vs : List Value) (rest : List Piece) → closing (v ∷ vs) rest ≡ token (lexeme.Sign symbol.Comma) ∷ (map token (value_tokens v) ++ closing vs rest)
more_args v vs rest =
    ap (λ ps. token (lexeme.Sign symbol.Comma) ∷ (ps ++ (token (lexeme.Sign symbol.RightRound) ∷ rest))) (map-append token (value_tokens v) (flat_map more_tokens vs))
    ∙ ap (λ ps. token (lexeme.Sign symbol.Comma) ∷ ps) (append_assoc (map token (value_tokens v)) (map token (flat_map more_tokens vs)) (token (lexeme.Sign symbol.RightRound) ∷ rest))

closing_spaced : (values : List Value) (rest : List Piece) → list_all is_writable values ≡ true → are_spaced rest ≡ true → are_spaced (closing values rest) ≡ true
closing_spaced [] rest is spaced = spaced_behind_sign symbol.RightRound rest refl spaced
closing_spaced (v ∷ vs) rest is spaced =
    let both = and_parts (is_writable v) (list_all is_writable vs) is in
    ap are_spaced (more_args v vs rest)
    ∙ spaced_behind_sign symbol.Comma (map token (value_tokens v) ++ closing vs rest) refl
    (value_spaced v (closing vs rest) both.0 (closing_meets vs rest) (closing_spaced vs rest both.1 spaced))

some_args : (v : Value) (vs : List Value) (rest : List Piece) →
    map token (args_tokens (v ∷ vs)) ++ rest ≡ token (lexeme.Sign symbol.LeftRound) ∷ (map token (value_tokens v) ++ closing vs rest)
some_args v vs rest =
    let close : List Lexeme = lexeme.Sign symbol.RightRound ∷ [] in
    let more : List Lexeme = flat_map more_tokens vs in
    ap (λ ps. token (lexeme.Sign symbol.LeftRound) ∷ (ps ++ rest))
    (map-append token (value_tokens v ++ more) close ∙ ap (λ ps. ps ++ map token close) (map-append token (value_tokens v) more))
    ∙ ap (λ ps. token (lexeme.Sign symbol.LeftRound) ∷ ps)
    (append_assoc (map token (value_tokens v) ++ map token more) (map token close) rest
    ∙ append_assoc (map token (value_tokens v)) (map token more) (token (lexeme.Sign symbol.RightRound) ∷ rest))

args_spaced : (values : List Value) (rest : List Piece) → list_all is_writable values ≡ true → are_spaced rest ≡ true →
    are_spaced (map token (args_tokens values) ++ rest) ≡ true
args_spaced [] rest is spaced = spaced
args_spaced (v ∷ vs) rest is spaced =
    let both = and_parts (is_writable v) (list_all is_writable vs) is in
    ap are_spaced (some_args v vs rest)
    ∙ spaced_behind_sign symbol.LeftRound (map token (value_tokens v) ++ closing vs rest) refl
    (value_spaced v (closing vs rest) both.0 (closing_meets vs rest) (closing_spaced vs rest both.1 spaced))

-- a name meets `(` and `:`
args_meet : (values : List Value) (rest : List Piece) → MeetsAll (map token (args_tokens values) ++ (token (lexeme.Sign symbol.Colon) ∷ rest))
args_meet [] rest = record { meets = λ x. meets_sign (Some (token x)) symbol.Colon refl }
args_meet (v ∷ vs) rest = record { meets = λ x. meets_sign (Some (token x)) symbol.LeftRound refl }

line_spaced : (line : Line) (rest : List Piece) → Writable line → are_spaced rest ≡ true → are_spaced (line_pieces line ++ rest) ≡ true
line_spaced line rest is spaced =
    let args : List Piece = map token (args_tokens line.args) in
    let entries : List Piece = flat_map entry_pieces line.entries in
    let behind : List Piece = token (lexeme.Sign symbol.Colon) ∷ (entries ++ (line_end ∷ rest)) in
    let meet = args_meet line.args (entries ++ (line_end ∷ rest)) in
    ap are_spaced (append_assoc (line_front line) (line_end ∷ []) rest)
    ∙ ap (λ ps. are_spaced (token (lexeme.Name line.name) ∷ ps)) (append_assoc args (behind_args line) (line_end ∷ rest))
    ∙ and_from (is_name line.name) _ is.name
    (and_from _ _ (meet.meets (lexeme.Name line.name))
    (args_spaced line.args behind is.args (spaced_behind_sign symbol.Colon (entries ++ (line_end ∷ rest)) refl (entries_spaced line.entries rest is.entries spaced))))

pub lines_spaced : (lines : List Line) → AreWritable lines → are_spaced (flat_map line_pieces lines) ≡ true
lines_spaced [] are = refl
lines_spaced (line ∷ lines) are = line_spaced line (flat_map line_pieces lines) are.0 (lines_spaced lines are.1)
