-- Pieces of a text that go out one after another.
use Rattle.std.proofs.Common.{◌≡◌, ℕ, ◌+◌, ◌<◌, List, [], ◌∷◌, ◌++◌, length, get_or, take, drop, sym, ◌∙◌, ap, append_assoc}
use Rattle.std.specs.List.{flat_map}
use Rattle.std.proofs.lemmas.Grind.{flat_map-append}
use Rattle.std.proofs.lemmas.List.{take_more, take-append-drop, append-nil}

-- the pieces up to and including one
pub pieces_more : {P : Type 0} (items : P → List ℕ) (pieces : List P) (index : ℕ) (piece : P) → index < length pieces
    → piece ≡ get_or pieces index piece → flat_map items (take (index + 1) pieces) ≡ flat_map items (take index pieces) ++ items piece
pieces_more items pieces index piece within there =
    ap (flat_map items) (take_more pieces index piece within)
    ∙ flat_map-append items (take index pieces) (get_or pieces index piece ∷ [])
    ∙ ap (λ more. flat_map items (take index pieces) ++ more) (append-nil (items (get_or pieces index piece)) ∙ ap items (sym there))

-- all pieces: those before one, that one, and those behind it
pub pieces_cut : {P : Type 0} (items : P → List ℕ) (pieces : List P) (index : ℕ) (piece : P) → index < length pieces
    → piece ≡ get_or pieces index piece
    → flat_map items pieces ≡ flat_map items (take index pieces) ++ (items piece ++ flat_map items (drop (index + 1) pieces))
pieces_cut items pieces index piece within there =
    ap (flat_map items) (sym (take-append-drop (index + 1) pieces))
    ∙ flat_map-append items (take (index + 1) pieces) (drop (index + 1) pieces)
    ∙ ap (λ front. front ++ flat_map items (drop (index + 1) pieces)) (pieces_more items pieces index piece within there)
    ∙ append_assoc (flat_map items (take index pieces)) (items piece) (flat_map items (drop (index + 1) pieces))
