-- A list that is made from its last table to its first.
use Rattle.std.proofs.Common.{◌≡◌, ℕ, reverse, ◌+◌, List, [], ◌∷◌, ◌++◌, length, refl, sym, ap, ap₂, ◌∙◌, append_assoc, append-nil, arith, Some, slice_get}
use Rattle.std.specs.List.{enumerate_from, flat_map}
use Rattle.std.proofs.lemmas.List.{reverse-append, length-append}
use Rattle.trio_types.specs.World.{World}
use Rattle.history_table.specs.Texts.{numbered_text}

-- the tables that are left, with those that were taken from the end, are all; the pieces, the last one first, are those that were taken
pub record Listed {P : Type 0} (w : World) (items : P → List ℕ) (all left : List (List ℕ)) (pieces : List P) : Type 0 where
  pub taken : List (List ℕ)
  pub parts : left ++ taken ≡ all
  pub said : flat_map items (reverse pieces) ≡ flat_map (numbered_text w) (enumerate_from (length left + 1) taken)

-- at first none is taken
pub none_listed : {P : Type 0} (w : World) (items : P → List ℕ) (all : List (List ℕ)) (pieces : List P) → pieces ≡ [] → Listed w items all all pieces
none_listed w items all pieces none =
    record { taken = []; parts = append-nil all; said = ap (λ ps. flat_map items (reverse ps)) none }

-- what pieces say behind one that came last
said_pushed : {P : Type 0} (items : P → List ℕ) (pieces more : List P) (piece : P) → more ≡ pieces ++ piece ∷ [] →
    flat_map items (reverse more) ≡ items piece ++ flat_map items (reverse pieces)
said_pushed items pieces more piece is = ap (λ ps. flat_map items (reverse ps)) is ∙ ap (flat_map items) (reverse-append pieces (piece ∷ []))

-- one table more is taken
pub one_listed : {P : Type 0} (w : World) (items : P → List ℕ) (all before left : List (List ℕ)) (table : List ℕ) (pieces more : List P) (piece : P) →
    before ≡ left ++ table ∷ [] → Listed w items all before pieces → more ≡ pieces ++ piece ∷ [] →
    items piece ≡ numbered_text w (length left + 1, table) → Listed w items all left more
one_listed w items all before left table pieces more piece is so_far pushed says = record {
  taken = table ∷ so_far.taken;
  parts = sym (append_assoc left (table ∷ []) so_far.taken) ∙ ap (λ ts. ts ++ so_far.taken) (sym is) ∙ so_far.parts;
  said = let number : length before + 1 ≡ length left + 1 + 1 = omega (arith, ap length is, length-append left (table ∷ [])) in
      said_pushed items pieces more piece pushed
      ∙ ap₂ (λ x y. x ++ y) says (so_far.said ∙ ap (λ n. flat_map (numbered_text w) (enumerate_from n so_far.taken)) number);
}

at_end : {X : Type 0} (xs ys : List X) (x : X) → slice_get ((xs ++ x ∷ []) ++ ys) (length xs) ≡ Some x
at_end [] ys x = refl
at_end (z ∷ xs) ys x = at_end xs ys x

-- what is true of each table is true of the last that is left
pub last_fits : {P : Type 0} (w : World) (items : P → List ℕ) (all before left : List (List ℕ)) (table : List ℕ) (pieces : List P) →
    before ≡ left ++ table ∷ [] → Listed w items all before pieces → slice_get all (length left) ≡ Some table
last_fits w items all before left table pieces is so_far =
    ap (λ ts. slice_get ts (length left)) (sym so_far.parts ∙ ap (λ ts. ts ++ so_far.taken) is) ∙ at_end left so_far.taken table

-- a text behind a line of words and a number
pub behind_line : (words number text : List ℕ) → (words ++ (number ++ 10 ∷ [])) ++ text ≡ words ++ (number ++ (10 ∷ text))
behind_line words number text =
    append_assoc words (number ++ 10 ∷ []) text ∙ ap (λ t. words ++ t) (append_assoc number (10 ∷ []) text)

-- all are taken, and the first line stands before them
pub all_listed : {P : Type 0} (w : World) (items : P → List ℕ) (all left : List (List ℕ)) (pieces more whole : List P) (piece : P)
    (words number : List ℕ) → left ≡ [] → Listed w items all left pieces → more ≡ pieces ++ piece ∷ [] → whole ≡ reverse more →
    items piece ≡ words ++ (number ++ 10 ∷ []) →
    flat_map items whole ≡ words ++ (number ++ (10 ∷ flat_map (numbered_text w) (enumerate_from 1 all)))
all_listed w items all left pieces more whole piece words number none so_far pushed turned first =
    let taken : so_far.taken ≡ all = ap (λ ts. ts ++ so_far.taken) (sym none) ∙ so_far.parts in
    ap (flat_map items) turned ∙ said_pushed items pieces more piece pushed
    ∙ ap₂ (λ x y. x ++ y) first
    (so_far.said ∙ ap₂ (λ n ts. flat_map (numbered_text w) (enumerate_from n ts)) (ap (λ ts. length ts + 1) none) taken)
    ∙ behind_line words number (flat_map (numbered_text w) (enumerate_from 1 all))
