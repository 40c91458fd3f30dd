-- Pieces that are printed one behind another.
use Rattle.std.proofs.Common.{◌≡◌, ℕ, ◌+◌, ◌<◌, ◌≤◌, Bool, nat_eq, List, [], ◌∷◌, ◌++◌, map, take, length, get_or, string_bytes, append_assoc, append-nil, refl, sym, ap, ap₂, ◌∙◌, arith, Result, OnOk, flat_map}
use Rattle.std.proofs.lemmas.Grind.{flat_map-append}
use Rattle.std.proofs.lemmas.List.{take_more, take_all, map-append, length-map, length-take-le}
use Rattle.std.proofs.Math.Dec.{eqb-suc-zero}
use Rattle.std.proofs.lemmas.Result.{on_ok_weaker}
use Rattle.trio_types.specs.Parts.{Parts}
use Rattle.trio_types.specs.Verdict.{parts_of}
use Rattle.trio_syntax.specs.Words.{adding_sign}
use Rattle.trio_print.specs.declared.printer.Printer.{Printer}
use Rattle.trio_print.specs.Pieces.{Piece, piece_text, pieces_text}
use Rattle.trio_print.specs.Canonical.{Printed, PartText, spaced, joined_pieces, first_part, later_part, sum_text}
use Rattle.trio_print.specs.Printing.{Prints, always, between_pieces, part_sign, names_in}

-- the same pieces in other words
pub told : {p q : Parts → Printed} {old new : Printer} → ((parts : Parts) (names : List (List ℕ)) → p parts names ≡ q parts names) →
    Prints p old new → Prints q old new
told {p} {q} {old} {new} same prints = record {
  text = prints.text ∙ ap (λ pieces. string_bytes old.text ++ pieces_text pieces) (same (parts_of old.spec.now) (names_in old));
  names = prints.names;
  spec = prints.spec;
}

pub told_ok : {E : Type 0} (r : Result (Unit {0}) E) (old new : Printer) {p q : Parts → Printed} →
    ((parts : Parts) (names : List (List ℕ)) → p parts names ≡ q parts names) → OnOk r (Prints p old new) → OnOk r (Prints q old new)
told_ok r old new same ok = on_ok_weaker r (told same) ok

-- nothing is printed
pub nothing : (p : Printer) → Prints (always []) p p
nothing p = record { text = sym (append-nil (string_bytes p.text)); names = refl; spec = refl }

pub behind : {p q : Parts → Printed} {old mid new : Printer} → Prints p old mid → Prints q mid new →
    Prints (λ parts names. p parts names ++ q parts names) old new
behind {p} {q} {old} {mid} {new} first second =
    let a : List Piece = p (parts_of old.spec.now) (names_in old) in
    let b : List Piece = q (parts_of old.spec.now) (names_in old) in
    let moved : q (parts_of mid.spec.now) (names_in mid) ≡ b =
    ap₂ (λ spec names. q (parts_of spec) (map (λ name. name.now) names)) first.spec first.names in
    record {
      text = second.text ∙ ap₂ (λ t pieces. t ++ pieces_text pieces) first.text moved
          ∙ append_assoc (string_bytes old.text) (pieces_text a) (pieces_text b)
          ∙ ap (λ t. string_bytes old.text ++ t) (sym (flat_map-append piece_text a b));
      names = second.names ∙ first.names;
      spec = second.spec ∙ first.spec;
    }

-- the same pieces in other words, at this specification and these names
pub told_here : {p q : Parts → Printed} {old new : Printer} → p (parts_of old.spec.now) (names_in old) ≡ q (parts_of old.spec.now) (names_in old) →
    Prints p old new → Prints q old new
told_here {p} {q} {old} {new} same prints = record {
  text = prints.text ∙ ap (λ pieces. string_bytes old.text ++ pieces_text pieces) same;
  names = prints.names;
  spec = prints.spec;
}

-- lists with something between

joined-last : (b : List Piece) (xs : List (List Piece)) (x : List Piece) → joined_pieces b (xs ++ x ∷ []) ≡ joined_pieces b xs ++ between_pieces (length xs) b ++ x
joined-last b [] x = append-nil x
joined-last b (y ∷ ys) x =
    rw (eqb-suc-zero (length ys)) (ap (λ t. y ++ t) (flat_map-append (λ z. b ++ z) ys (x ∷ []) ∙ ap (λ t. flat_map (λ z. b ++ z) ys ++ t) (append-nil (b ++ x)))
    ∙ sym (append_assoc y (flat_map (λ z. b ++ z) ys) (b ++ x)) ∙ sym (append_assoc (y ++ flat_map (λ z. b ++ z) ys) b x))

-- one more element of a list that a loop goes over
map_next : {X Y : Type 0} (f : X → Y) (xs : List X) (k : ℕ) (x : X) → k < length xs → x ≡ get_or xs k x →
    map f (take (k + 1) xs) ≡ map f (take k xs) ++ f x ∷ []
map_next f xs k x below is = ap (map f) (take_more xs k x below ∙ ap (λ y. take k xs ++ y ∷ []) (sym is)) ∙ map-append f (take k xs) (x ∷ [])

length_front : {X Y : Type 0} (f : X → Y) (xs : List X) (k : ℕ) → k < length xs → length (map f (take k xs)) ≡ k
length_front f xs k below = length-map (take k xs) f ∙ length-take-le k xs (omega arith)

joined_next : {X : Type 0} (b : List Piece) (f : X → List Piece) (xs : List X) (k : ℕ) (x : X) → k < length xs → x ≡ get_or xs k x →
    joined_pieces b (map f (take k xs)) ++ between_pieces k b ++ f x ≡ joined_pieces b (map f (take (k + 1) xs))
joined_next b f xs k x below is =
    ap (λ n. joined_pieces b (map f (take k xs)) ++ between_pieces n b ++ f x) (sym (length_front f xs k below))
    ∙ sym (joined-last b (map f (take k xs)) (f x)) ∙ ap (joined_pieces b) (sym (map_next f xs k x below is))

pub joined_more : {X : Type 0} (b : List Piece) (f : Parts → List (List ℕ) → X → List Piece) (xs : List X) (k : ℕ) (x : X) → k < length xs → x ≡ get_or xs k x →
    {s t u v : Printer} → Prints (λ parts names. joined_pieces b (map (f parts names) (take k xs))) s t → Prints (always (between_pieces k b)) t u →
    Prints (λ parts names. f parts names x) u v → Prints (λ parts names. joined_pieces b (map (f parts names) (take (k + 1) xs))) s v
joined_more b f xs k x below is so_far first second =
    told (λ parts names. joined_next b (f parts names) xs k x below is) (behind (behind so_far first) second)

pub joined_whole : {X : Type 0} (b : List Piece) (f : Parts → List (List ℕ) → X → List Piece) (xs : List X) (k : ℕ) → length xs ≤ k →
    {s t : Printer} → Prints (λ parts names. joined_pieces b (map (f parts names) (take k xs))) s t →
    Prints (λ parts names. joined_pieces b (map (f parts names) xs)) s t
joined_whole b f xs k past prints = told (λ parts names. ap (λ ys. joined_pieces b (map (f parts names) ys)) (take_all k xs past)) prints

-- sums

sum-last : (ps : List PartText) (p : PartText) (names : List (List ℕ)) →
    sum_text (ps ++ p ∷ []) names ≡ sum_text ps names ++ part_sign (nat_eq (length ps) 0) p.minus ++ p.text names
sum-last [] p names = append-nil (first_part names p)
sum-last (q ∷ qs) p names =
    rw (eqb-suc-zero (length qs)) (ap (λ t. first_part names q ++ t) (flat_map-append (later_part names) qs (p ∷ []) ∙ ap (λ t. flat_map (later_part names) qs ++ t) (append-nil (later_part names p)))
    ∙ sym (append_assoc (first_part names q) (flat_map (later_part names) qs) (later_part names p))
    ∙ sym (append_assoc (first_part names q ++ flat_map (later_part names) qs) (spaced (adding_sign p.minus)) (p.text names)))

sum_next : {X : Type 0} (f : X → PartText) (xs : List X) (k : ℕ) (x : X) → k < length xs → x ≡ get_or xs k x → (names : List (List ℕ)) →
    sum_text (map f (take k xs)) names ++ part_sign (nat_eq k 0) (f x).minus ++ (f x).text names ≡ sum_text (map f (take (k + 1) xs)) names
sum_next f xs k x below is names =
    ap (λ n. sum_text (map f (take k xs)) names ++ part_sign (nat_eq n 0) (f x).minus ++ (f x).text names) (sym (length_front f xs k below))
    ∙ sym (sum-last (map f (take k xs)) (f x) names) ∙ ap (λ ps. sum_text ps names) (sym (map_next f xs k x below is))

pub sum_more : {X : Type 0} (f : Parts → X → PartText) (xs : List X) (k : ℕ) (x : X) (minus : Bool) → k < length xs → x ≡ get_or xs k x →
    ((parts : Parts) → (f parts x).minus ≡ minus) →
    {s t u v : Printer} → Prints (λ parts. sum_text (map (f parts) (take k xs))) s t → Prints (always (part_sign (nat_eq k 0) minus)) t u →
    Prints (λ parts. (f parts x).text) u v → Prints (λ parts. sum_text (map (f parts) (take (k + 1) xs))) s v
sum_more f xs k x minus below is signed so_far first second =
    told (λ parts names. ap (λ m. sum_text (map (f parts) (take k xs)) names ++ part_sign (nat_eq k 0) m ++ (f parts x).text names) (sym (signed parts))
    ∙ sum_next (f parts) xs k x below is names) (behind (behind so_far first) second)

pub sum_whole : {X : Type 0} (f : Parts → X → PartText) (xs : List X) (k : ℕ) → length xs ≤ k → {s t : Printer} →
    Prints (λ parts. sum_text (map (f parts) (take k xs))) s t → Prints (λ parts. sum_text (map (f parts) xs)) s t
sum_whole f xs k past prints = told (λ parts names. ap (λ ys. sum_text (map (f parts) ys) names) (take_all k xs past)) prints

-- statements one behind another

flat_next : {X : Type 0} (f : X → List Piece) (xs : List X) (k : ℕ) (x : X) → k < length xs → x ≡ get_or xs k x →
    flat_map f (take k xs) ++ f x ≡ flat_map f (take (k + 1) xs)
flat_next f xs k x below is =
    ap (λ t. flat_map f (take k xs) ++ t) (sym (append-nil (f x))) ∙ sym (flat_map-append f (take k xs) (x ∷ []))
    ∙ ap (flat_map f) (sym (take_more xs k x below ∙ ap (λ y. take k xs ++ y ∷ []) (sym is)))

pub flat_more : {X : Type 0} (f : Parts → X → List Piece) (xs : List X) (k : ℕ) (x : X) → k < length xs → x ≡ get_or xs k x →
    {s t u : Printer} → Prints (λ parts names. flat_map (f parts) (take k xs)) s t → Prints (λ parts names. f parts x) t u →
    Prints (λ parts names. flat_map (f parts) (take (k + 1) xs)) s u
flat_more f xs k x below is so_far next = told (λ parts names. flat_next (f parts) xs k x below is) (behind so_far next)

pub flat_whole : {X : Type 0} (f : Parts → X → List Piece) (xs : List X) (k : ℕ) → length xs ≤ k → {s t : Printer} →
    Prints (λ parts names. flat_map (f parts) (take k xs)) s t → Prints (λ parts names. flat_map (f parts) xs) s t
flat_whole f xs k past prints = told (λ parts names. ap (flat_map (f parts)) (take_all k xs past)) prints

-- two operands in brackets
pub two_operands : (w l x c y r : List Piece) → w ++ l ++ x ++ c ++ (y ++ r) ≡ w ++ (l ++ (x ++ c ++ y) ++ r)
two_operands w l x c y r = simp append_assoc
