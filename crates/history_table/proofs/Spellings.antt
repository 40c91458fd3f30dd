-- The reader of a line finds just the line whose tokens they are.
use Rattle.std.proofs.Common.{◌≡◌, ℕ, List, [], ◌∷◌, ◌++◌, refl, sym, ap, ◌∙◌, append_assoc, Bool, true, false, Option, None, Some}
use Rattle.std.specs.List.{flat_map}
use Rattle.std.specs.Option.{option_map, option_and_then}
use Rattle.std.proofs.lemmas.Option.{same_Some}
use Rattle.trio_text.specs.declared.token.Reserved.TheVariants as reserved
use Rattle.trio_text.specs.declared.token.Symbol.TheVariants as symbol
use Rattle.trio_text.specs.declared.lexeme.Lexeme.{Lexeme}
use Rattle.trio_text.specs.declared.lexeme.Lexeme.TheVariants as lexeme
use Rattle.history_table.specs.declared.line.Value.{Value}
use Rattle.history_table.specs.declared.line.Value.TheVariants as written
use Rattle.history_table.specs.declared.line.Line.{Line}
use Rattle.history_table.specs.Spelled.{value_tokens, entry_tokens, more_tokens, args_tokens, line_tokens, ReadsLine}
use Rattle.history_table.specs.Decoding.{entries_of, with_entry, args_from, with_arg, args_front, with_entries, line_of}

-- from a line to its tokens and back

pub entries_back : (es : List (Option Value)) → entries_of (flat_map entry_tokens es) ≡ Some es
entries_back [] = refl
entries_back (None ∷ es) = ap (with_entry None) (entries_back es)
entries_back (Some (written.Number n) ∷ es) = ap (with_entry (Some (written.Number n))) (entries_back es)
entries_back (Some (written.Opposite n) ∷ es) = ap (with_entry (Some (written.Opposite n))) (entries_back es)
entries_back (Some (written.Truth true) ∷ es) = ap (with_entry (Some (written.Truth true))) (entries_back es)
entries_back (Some (written.Truth false) ∷ es) = ap (with_entry (Some (written.Truth false))) (entries_back es)
entries_back (Some (written.Word name) ∷ es) = ap (with_entry (Some (written.Word name))) (entries_back es)

arg_back : (v : Value) (x : List Lexeme) → args_from true (value_tokens v ++ x) ≡ with_arg v (args_from false x)
arg_back (written.Number n) x = refl
arg_back (written.Opposite n) x = refl
arg_back (written.Truth true) x = refl
arg_back (written.Truth false) x = refl
arg_back (written.Word name) x = refl

more_back : (vs : List Value) (x : List Lexeme) → args_from false (flat_map more_tokens vs ++ lexeme.Sign symbol.RightRound ∷ x) ≡ Some (vs, x)
more_back [] x = refl
more_back (v ∷ vs) x =
    ap (args_from false) (append_assoc (more_tokens v) (flat_map more_tokens vs) (lexeme.Sign symbol.RightRound ∷ x))
    ∙ arg_back v (flat_map more_tokens vs ++ lexeme.Sign symbol.RightRound ∷ x) ∙ ap (with_arg v) (more_back vs x)

args_back : (vs : List Value) (x : List Lexeme) → args_front (args_tokens vs ++ lexeme.Sign symbol.Colon ∷ x) ≡ Some (vs, lexeme.Sign symbol.Colon ∷ x)
args_back [] x = refl
args_back (v ∷ vs) x =
    let m = flat_map more_tokens vs in
    let z : List Lexeme = lexeme.Sign symbol.Colon ∷ x in
    ap (args_from true) (append_assoc (value_tokens v ++ m) (lexeme.Sign symbol.RightRound ∷ []) z ∙ append_assoc (value_tokens v) m (lexeme.Sign symbol.RightRound ∷ z))
    ∙ arg_back v (m ++ lexeme.Sign symbol.RightRound ∷ z) ∙ ap (with_arg v) (more_back vs z)

pub line_back : (line : Line) → line_of (line_tokens line) ≡ Some line
line_back line =
    ap (option_and_then (λ p. with_entries line.name p.0 p.1)) (args_back line.args (flat_map entry_tokens line.entries))
    ∙ ap (option_map (λ entries. record { name = line.name; args = line.args; entries = entries })) (entries_back line.entries)

-- from tokens to a line and back

with_entry_is : (e : Option Value) (o : Option (List (Option Value))) (es : List (Option Value)) → with_entry e o ≡ Some es →
    (more : List (Option Value)) × (o ≡ Some more) × (e ∷ more ≡ es)
with_entry_is e None es is = cc
with_entry_is e (Some more) es is = (more, refl, same_Some _ _ is)

pub entries_forth : (x : List Lexeme) (es : List (Option Value)) → entries_of x ≡ Some es → x ≡ flat_map entry_tokens es
entries_forth [] es is = ap (flat_map entry_tokens) (same_Some [] es is)
entries_forth (lexeme.Sign symbol.Unknown ∷ x) es is =
    let r = with_entry_is None (entries_of x) es is in ap (λ y. lexeme.Sign symbol.Unknown ∷ y) (entries_forth x r.0 r.1) ∙ ap (flat_map entry_tokens) r.2
entries_forth (lexeme.Number n ∷ x) es is =
    let r = with_entry_is (Some (written.Number n)) (entries_of x) es is in ap (λ y. lexeme.Number n ∷ y) (entries_forth x r.0 r.1) ∙ ap (flat_map entry_tokens) r.2
entries_forth (lexeme.Sign symbol.Minus ∷ lexeme.Number n ∷ x) es is =
    let r = with_entry_is (Some (written.Opposite n)) (entries_of x) es is in
    ap (λ y. lexeme.Sign symbol.Minus ∷ lexeme.Number n ∷ y) (entries_forth x r.0 r.1) ∙ ap (flat_map entry_tokens) r.2
entries_forth (lexeme.Word reserved.True ∷ x) es is =
    let r = with_entry_is (Some (written.Truth true)) (entries_of x) es is in ap (λ y. lexeme.Word reserved.True ∷ y) (entries_forth x r.0 r.1) ∙ ap (flat_map entry_tokens) r.2
entries_forth (lexeme.Word reserved.False ∷ x) es is =
    let r = with_entry_is (Some (written.Truth false)) (entries_of x) es is in ap (λ y. lexeme.Word reserved.False ∷ y) (entries_forth x r.0 r.1) ∙ ap (flat_map entry_tokens) r.2
entries_forth (lexeme.Name name ∷ x) es is =
    let r = with_entry_is (Some (written.Word name)) (entries_of x) es is in ap (λ y. lexeme.Name name ∷ y) (entries_forth x r.0 r.1) ∙ ap (flat_map entry_tokens) r.2
entries_forth (t ∷ x) es is = cc

with_arg_is : (v : Value) (o : Option (List Value × List Lexeme)) (vs : List Value) (y : List Lexeme) →
    ◌≡◌ {A = Option (List Value × List Lexeme)} (with_arg v o) (Some (vs, y)) →
    (ws : List Value) × (◌≡◌ {A = Option (List Value × List Lexeme)} o (Some (ws, y))) × (v ∷ ws ≡ vs)
with_arg_is v None vs y is = cc
with_arg_is v (Some p) vs y is =
    let q : ◌≡◌ {A = List Value × List Lexeme} (v ∷ p.0, p.1) (vs, y) = same_Some _ _ is in
    (p.0, ap (λ z. Some (p.0, z)) (ap (λ (r : List Value × List Lexeme). r.1) q), ap (λ (r : List Value × List Lexeme). r.0) q)

-- the tokens are values up to `)`: from a value on, or from behind one
ArgsText : Bool → List Lexeme → List Value → List Lexeme → Type 0
ArgsText false x vs y = x ≡ flat_map more_tokens vs ++ lexeme.Sign symbol.RightRound ∷ y
ArgsText true x vs y = (v : Value) × (ws : List Value) × (v ∷ ws ≡ vs) × (x ≡ value_tokens v ++ (flat_map more_tokens ws ++ lexeme.Sign symbol.RightRound ∷ y))

arg_text : (v : Value) (x : List Lexeme) (ws vs : List Value) (y : List Lexeme) → v ∷ ws ≡ vs → ArgsText false x ws y → ArgsText true (value_tokens v ++ x) vs y
unfolding ArgsText
arg_text v x ws vs y same text = (v, ws, same, ap (λ z. value_tokens v ++ z) text)

args_forth : (b : Bool) (x : List Lexeme) (vs : List Value) (y : List Lexeme) → ◌≡◌ {A = Option (List Value × List Lexeme)} (args_from b x) (Some (vs, y)) → ArgsText b x vs y
unfolding ArgsText
args_forth true (lexeme.Number n ∷ x) vs y is =
    let r = with_arg_is (written.Number n) (args_from false x) vs y is in arg_text (written.Number n) x r.0 vs y r.2 (args_forth false x r.0 y r.1)
args_forth true (lexeme.Sign symbol.Minus ∷ lexeme.Number n ∷ x) vs y is =
    let r = with_arg_is (written.Opposite n) (args_from false x) vs y is in arg_text (written.Opposite n) x r.0 vs y r.2 (args_forth false x r.0 y r.1)
args_forth true (lexeme.Word reserved.True ∷ x) vs y is =
    let r = with_arg_is (written.Truth true) (args_from false x) vs y is in arg_text (written.Truth true) x r.0 vs y r.2 (args_forth false x r.0 y r.1)
args_forth true (lexeme.Word reserved.False ∷ x) vs y is =
    let r = with_arg_is (written.Truth false) (args_from false x) vs y is in arg_text (written.Truth false) x r.0 vs y r.2 (args_forth false x r.0 y r.1)
args_forth true (lexeme.Name name ∷ x) vs y is =
    let r = with_arg_is (written.Word name) (args_from false x) vs y is in arg_text (written.Word name) x r.0 vs y r.2 (args_forth false x r.0 y r.1)
args_forth false (lexeme.Sign symbol.RightRound ∷ x) vs y is =
    let q : ◌≡◌ {A = List Value × List Lexeme} ([], x) (vs, y) = same_Some _ _ is in
    ap (λ z. lexeme.Sign symbol.RightRound ∷ z) (ap (λ (r : List Value × List Lexeme). r.1) q)
    ∙ ap (λ ws. flat_map more_tokens ws ++ lexeme.Sign symbol.RightRound ∷ y) (ap (λ (r : List Value × List Lexeme). r.0) q)
args_forth false (lexeme.Sign symbol.Comma ∷ x) vs y is =
    let r = args_forth true x vs y is in
    ap (λ z. lexeme.Sign symbol.Comma ∷ z) r.3
    ∙ sym (append_assoc (more_tokens r.0) (flat_map more_tokens r.1) (lexeme.Sign symbol.RightRound ∷ y))
    ∙ ap (λ ws. flat_map more_tokens ws ++ lexeme.Sign symbol.RightRound ∷ y) r.2
args_forth b x vs y is = cc

no_args_forth : (x : List Lexeme) (vs : List Value) (y : List Lexeme) → ◌≡◌ {A = Option (List Value × List Lexeme)} (Some ([], x)) (Some (vs, y)) → x ≡ args_tokens vs ++ y
no_args_forth x vs y is =
    let q : ◌≡◌ {A = List Value × List Lexeme} ([], x) (vs, y) = same_Some _ _ is in
    ap (λ (r : List Value × List Lexeme). r.1) q ∙ ap (λ ws. args_tokens ws ++ y) (ap (λ (r : List Value × List Lexeme). r.0) q)

args_front_forth : (x : List Lexeme) (vs : List Value) (y : List Lexeme) → ◌≡◌ {A = Option (List Value × List Lexeme)} (args_front x) (Some (vs, y)) → x ≡ args_tokens vs ++ y
unfolding ArgsText
args_front_forth (lexeme.Sign symbol.LeftRound ∷ x) vs y is =
    let r = args_forth true x vs y is in
    let m = flat_map more_tokens r.1 in
    ap (λ z. lexeme.Sign symbol.LeftRound ∷ z) (r.3 ∙ sym (append_assoc (value_tokens r.0 ++ m) (lexeme.Sign symbol.RightRound ∷ []) y ∙ append_assoc (value_tokens r.0) m (lexeme.Sign symbol.RightRound ∷ y)))
    ∙ ap (λ ws. args_tokens ws ++ y) r.2
args_front_forth x vs y is = no_args_forth x vs y is

with_entries_forth : (name : List ℕ) (args : List Value) (x : List Lexeme) (line : Line) → with_entries name args x ≡ Some line →
    (line.name ≡ name) × (line.args ≡ args) × (x ≡ lexeme.Sign symbol.Colon ∷ flat_map entry_tokens line.entries)
with_entries_forth name args (lexeme.Sign symbol.Colon ∷ x) line is = go (entries_of x) refl is
  where
    go : (o : Option (List (Option Value))) → entries_of x ≡ o →
        option_map (λ entries. record { name = name; args = args; entries = entries }) o ≡ Some line →
        (line.name ≡ name) × (line.args ≡ args) × (lexeme.Sign symbol.Colon ∷ x ≡ lexeme.Sign symbol.Colon ∷ flat_map entry_tokens line.entries)
    go None e is = cc
    go (Some es) e is =
        let q : record { name = name; args = args; entries = es } ≡ line = same_Some _ _ is in (
          sym (ap (λ (l : Line). l.name) q),
          sym (ap (λ (l : Line). l.args) q),
          ap (λ z. lexeme.Sign symbol.Colon ∷ z) (entries_forth x es e ∙ ap (λ (l : Line). flat_map entry_tokens l.entries) q),
        )
with_entries_forth name args x line is = cc

pub line_forth : (x : List Lexeme) (line : Line) → line_of x ≡ Some line → x ≡ line_tokens line
line_forth (lexeme.Name name ∷ x) line is = go (args_front x) refl is
  where
    go : (o : Option (List Value × List Lexeme)) → args_front x ≡ o → option_and_then (λ p. with_entries name p.0 p.1) o ≡ Some line →
        lexeme.Name name ∷ x ≡ line_tokens line
    go None e is = cc
    go (Some p) e is =
        let w = with_entries_forth name p.0 p.1 line is in
        ap (λ z. lexeme.Name name ∷ z) (args_front_forth x p.0 p.1 e ∙ ap (λ z. args_tokens p.0 ++ z) w.2)
        ∙ ap (λ n. lexeme.Name n ∷ args_tokens p.0 ++ lexeme.Sign symbol.Colon ∷ flat_map entry_tokens line.entries) (sym w.0)
        ∙ ap (λ vs. lexeme.Name line.name ∷ args_tokens vs ++ lexeme.Sign symbol.Colon ∷ flat_map entry_tokens line.entries) (sym w.1)
line_forth x line is = cc

pub reads_line : (x : List Lexeme) → ReadsLine x (line_of x)
reads_line x = go (line_of x) refl
  where
    go : (o : Option Line) → line_of x ≡ o → ReadsLine x o
    go None e = λ line is. let back : ◌≡◌ {A = Option Line} None (Some line) = sym e ∙ ap line_of is ∙ line_back line in cc
    go (Some line) e = line_forth x line e

pub reads_once : (x : List Lexeme) (o : Option Line) → ReadsLine x o → line_of x ≡ o
reads_once x (Some line) is = ap line_of is ∙ line_back line
reads_once x None none = go (line_of x) refl
  where
    go : (o : Option Line) → line_of x ≡ o → line_of x ≡ None
    go None e = e
    go (Some line) e = absurd (none line (line_forth x line e))
