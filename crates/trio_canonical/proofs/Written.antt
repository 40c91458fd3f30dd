-- The lines that are printed of rows and what is given of them, and that their text is what is printed.
use Rattle.std.proofs.Common.{◌≡◌, ℕ, suc, ℤ, pos, negsuc, ◌+ℤ◌, List, [], ◌∷◌, ◌++◌, map, take, drop, Option, None, Some, slice_get, option_map, refl, sym, ap, ap₂, ◌∙◌, append_assoc, append-nil}
use Rattle.std.specs.Option.{unwrap_or}
use Rattle.std.specs.Fmt.{signed_decimal}
use Rattle.std.specs.Prelude.{decimal}
use Rattle.std.specs.List.{flat_map}
use Rattle.std.proofs.lemmas.Grind.{flat_map-append}
use Rattle.std.proofs.lemmas.List.{map-append}
use Rattle.trio_text.specs.declared.lexeme.Lexeme.{Lexeme}
use Rattle.trio_text.specs.declared.lexeme.Lexeme.TheVariants as lexeme
use Rattle.trio_text.specs.declared.token.Symbol.TheVariants as symbol
use Rattle.trio_types.specs.declared.spec.DomainKind.{DomainKind}
use Rattle.trio_types.specs.declared.spec.DomainKind.TheVariants as kind
use Rattle.trio_types.specs.declared.spec.Domain.{Domain}
use Rattle.trio_types.specs.World.{World}
use Rattle.trio_types.specs.Cells.{Row}
use Rattle.trio_print.specs.Pieces.{token, line_end, piece_text, pieces_text}
use Rattle.history_table.specs.declared.line.Value.{Value}
use Rattle.history_table.specs.declared.line.Value.TheVariants as written
use Rattle.history_table.specs.declared.line.Line.{Line}
use Rattle.history_table.specs.Spelled.{value_tokens, entry_tokens, more_tokens, args_tokens}
use Rattle.history_table.specs.Printed.{text_in, text_in_domain, value_text, values_text, args_text, name_of_item}
use Rattle.trio_types.specs.Kinds.{args_of}
use Rattle.history_table.specs.Texts.{value_domain, entry_text, entry_behind_blank, line_text, lines_text}
use Rattle.trio_canonical.proofs.LinePieces.{entry_pieces, behind_args, line_front, line_pieces}

-- a number, with a sign where it is below 0
abbrev pub written_integer : ℤ → Value
written_integer (pos n) = written.Number n
written_integer (negsuc n) = written.Opposite (suc n)

abbrev pub written_in : DomainKind → ℕ → Value
written_in kind.Bool v = written.Number v
written_in (kind.Range low high) v = written_integer (low +ℤ pos v)
written_in (kind.Words words) v = written.Word (unwrap_or (slice_get words v) [])

abbrev pub written_in_domain : Option Domain → ℕ → Value
written_in_domain None v = written.Word []
written_in_domain (Some domain) v = written_in domain.kind v

-- the value of this index, as it is written
abbrev pub written_value : World → ℕ → ℕ → Value
written_value w d v = written_in_domain (slice_get w.domains d) v

abbrev pub written_args : World → List ℕ → List ℕ → List Value
written_args w (d ∷ ds) (v ∷ vs) = written_value w d v ∷ written_args w ds vs
written_args w ds vs = []

abbrev pub written_entries : World → ℕ → List (Option ℕ) → List (Option Value)
written_entries w d es = map (option_map (written_value w d)) es

-- the line of a row
abbrev pub written_line : World → Row → List (Option ℕ) → Line
written_line w row es = record {
  name = name_of_item (slice_get w.items row.item);
  args = written_args w (args_of (slice_get w.items row.item)) row.args;
  entries = written_entries w (value_domain (slice_get w.items row.item)) es;
}

abbrev pub written_lines : World → List Row → List (Option ℕ) → List Line
written_lines w [] given = []
written_lines w (row ∷ rows) given = written_line w row (take w.instants given) ∷ written_lines w rows (drop w.instants given)

-- ---- values

says : List Lexeme → List ℕ
says xs = pieces_text (map token xs)

says-append : (xs ys : List Lexeme) → says (xs ++ ys) ≡ says xs ++ says ys
unfolding says
says-append xs ys = ap pieces_text (map-append token xs ys) ∙ flat_map-append piece_text (map token xs) (map token ys)

integer_said : (z : ℤ) → says (value_tokens (written_integer z)) ≡ signed_decimal z
unfolding says
integer_said (pos n) = append-nil (decimal n)
integer_said (negsuc n) = ap (λ ds. 45 ∷ ds) (append-nil (decimal (suc n)))

kind_said : (k : DomainKind) (v : ℕ) → says (value_tokens (written_in k v)) ≡ text_in k v
unfolding says
kind_said kind.Bool v = append-nil (decimal v)
kind_said (kind.Range low high) v = integer_said (low +ℤ pos v)
kind_said (kind.Words words) v = append-nil (unwrap_or (slice_get words v) [])

value_said : (w : World) (d v : ℕ) → says (value_tokens (written_value w d v)) ≡ value_text w d v
unfolding says
value_said w d v = go (slice_get w.domains d)
  where
    go : (o : Option Domain) → says (value_tokens (written_in_domain o v)) ≡ text_in_domain o v
    go None = refl
    go (Some domain) = kind_said domain.kind v

-- ---- arguments

more_said : (w : World) (ds vs : List ℕ) → says (flat_map more_tokens (written_args w ds vs)) ≡ values_text w (44 ∷ []) ds vs
unfolding says
more_said w [] vs = refl
more_said w (d ∷ ds) [] = refl
more_said w (d ∷ ds) (v ∷ vs) =
    ap (λ t. 44 ∷ t)
    (says-append (value_tokens (written_value w d v)) (flat_map more_tokens (written_args w ds vs)) ∙ ap₂ (λ x y. x ++ y) (value_said w d v) (more_said w ds vs))

args_said : (w : World) (ds vs : List ℕ) → says (args_tokens (written_args w ds vs)) ≡ args_text w ds vs
unfolding says
args_said w [] vs = refl
args_said w (d ∷ ds) [] = refl
args_said w (d ∷ ds) (v ∷ vs) =
    let first : List Lexeme = value_tokens (written_value w d v) in
    let more : List Lexeme = flat_map more_tokens (written_args w ds vs) in
    ap (λ t. 40 ∷ t)
    (says-append (first ++ more) (lexeme.Sign symbol.RightRound ∷ [])
    ∙ ap (λ t. t ++ (41 ∷ [])) (says-append first more ∙ ap₂ (λ x y. x ++ y) (value_said w d v) (more_said w ds vs)))

-- ---- entries

entry_said : (w : World) (d : ℕ) (e : Option ℕ) → says (entry_tokens (option_map (written_value w d) e)) ≡ entry_text w d e
unfolding says
entry_said w d None = refl
entry_said w d (Some v) = value_said w d v

entries_said : (w : World) (d : ℕ) (es : List (Option ℕ)) → pieces_text (flat_map entry_pieces (written_entries w d es)) ≡ flat_map (entry_behind_blank w d) es
unfolding says
entries_said w d [] = refl
entries_said w d (e ∷ es) =
    let entry : Option Value = option_map (written_value w d) e in
    flat_map-append piece_text (entry_pieces entry) (flat_map entry_pieces (written_entries w d es))
    ∙ ap₂ (λ x y. (32 ∷ x) ++ y) (entry_said w d e) (entries_said w d es)

-- ---- lines

line_said : (w : World) (row : Row) (es : List (Option ℕ)) → pieces_text (line_pieces (written_line w row es)) ≡ line_text w row es
unfolding says
line_said w row es =
    let line : Line = written_line w row es in
    let name : List ℕ = name_of_item (slice_get w.items row.item) in
    let args : List ℕ = args_text w (args_of (slice_get w.items row.item)) row.args in
    let d : ℕ = value_domain (slice_get w.items row.item) in
    let entries : List ℕ = flat_map (entry_behind_blank w d) es in
    flat_map-append piece_text (line_front line) (line_end ∷ [])
    ∙ ap (λ t. (name ++ t) ++ (10 ∷ []))
    (flat_map-append piece_text (map token (args_tokens line.args)) (behind_args line)
    ∙ ap₂ (λ x y. x ++ (58 ∷ y)) (args_said w (args_of (slice_get w.items row.item)) row.args) (entries_said w d es))
    ∙ append_assoc name (args ++ (58 ∷ entries)) (10 ∷ []) ∙ ap (λ t. name ++ t) (append_assoc args (58 ∷ entries) (10 ∷ []))
    ∙ sym (append_assoc name args (58 ∷ (entries ++ 10 ∷ [])))

pub lines_said : (w : World) (rows : List Row) (given : List (Option ℕ)) → pieces_text (flat_map line_pieces (written_lines w rows given)) ≡ lines_text w rows given
lines_said w [] given = refl
lines_said w (row ∷ rows) given =
    flat_map-append piece_text (line_pieces (written_line w row (take w.instants given))) (flat_map line_pieces (written_lines w rows (drop w.instants given)))
    ∙ ap₂ (λ x y. x ++ y) (line_said w row (take w.instants given)) (lines_said w rows (drop w.instants given))
