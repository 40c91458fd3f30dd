-- Looking for a line of a table by its word or its symbol.
use Rattle.std.proofs.Common.{◌≡◌, ℕ, ◌+◌, ◌<◌, ◌≤◌, Bool, true, false, ◌||◌, cond, List, [], ◌∷◌, length, map, drop, get_or, refl, sym, ap, ◌∙◌, Option, None, Some}
use Rattle.std.specs.Prelude.{option_map}
use Rattle.std.specs.List.{find, list_any, list_all}
use Rattle.std.specs.Str.{bytes_eq}
use Rattle.std.proofs.lemmas.List.{drop_more, drop_all}
use Rattle.std.proofs.lemmas.Bool.{and_parts}
use Rattle.std.proofs.lemmas.Slice.Eq.{bytes_eq-Decides}

-- what a text stands for by a table
abbrev pub by_text : {W A : Type 0} → (W → List ℕ) → List (W × A) → List ℕ → Option A
by_text text table sought = option_map (λ line. line.1) (find (λ line. bytes_eq (text line.0) sought) table)

module _ {W A : Type 0} (text : W → List ℕ) (table : List (W × A)) (sought : List ℕ) (i : ℕ) (line : W × A) (within : i < length table) (is : line ≡ get_or table i line)
    (so_far : by_text text table sought ≡ by_text text (drop i table) sought) where
  next : by_text text table sought ≡ by_text text (line ∷ drop (i + 1) table) sought
  next = so_far ∙ ap (λ t. by_text text t sought) (drop_more table i line within ∙ ap (λ l. l ∷ drop (i + 1) table) (sym is))

  pub line_here : bytes_eq (text line.0) sought ≡ true → by_text text table sought ≡ Some line.1
  line_here same = next ∙ ap (λ b. option_map (λ l. l.1) (cond b (Some line) (find (λ l. bytes_eq (text l.0) sought) (drop (i + 1) table)))) same

  pub line_later : bytes_eq (text line.0) sought ≡ false → by_text text table sought ≡ by_text text (drop (i + 1) table) sought
  line_later other = next ∙ ap (λ b. option_map (λ l. l.1) (cond b (Some line) (find (λ l. bytes_eq (text l.0) sought) (drop (i + 1) table)))) other

pub no_line : {W A : Type 0} (text : W → List ℕ) (table : List (W × A)) (sought : List ℕ) (i : ℕ) → length table ≤ i → by_text text table sought ≡ by_text text (drop i table) sought → by_text text table sought ≡ None
no_line text table sought i last so_far = so_far ∙ ap (λ t. by_text text t sought) (drop_all i table last)

text_turned : (a b : List ℕ) → bytes_eq a b ≡ bytes_eq b a
text_turned a b = cases (bytes_eq a b) (bytes_eq b a) refl refl
  where
    cases : (x y : Bool) → bytes_eq a b ≡ x → bytes_eq b a ≡ y → x ≡ y
    cases true true is other = refl
    cases false false is other = refl
    cases true false is other = sym ((bytes_eq-Decides b a).1 (sym ((bytes_eq-Decides a b).0 is))) ∙ other
    cases false true is other = sym is ∙ (bytes_eq-Decides a b).1 (sym ((bytes_eq-Decides b a).0 other))

-- where no line has the text, no text of the table is it
pub unfound : {W A : Type 0} (text : W → List ℕ) (table : List (W × A)) (sought : List ℕ) → by_text text table sought ≡ None → list_any (bytes_eq sought) (map (λ line. text line.0) table) ≡ false
unfound text [] sought none = refl
unfound {W} {A} text (line ∷ table) sought none = cases (bytes_eq (text line.0) sought) refl (unfound text table sought)
  where
    cases : (b : Bool) → bytes_eq (text line.0) sought ≡ b → (by_text text table sought ≡ None → list_any (bytes_eq sought) (map (λ l. text l.0) table) ≡ false) → (bytes_eq sought (text line.0) || list_any (bytes_eq sought) (map (λ l. text l.0) table)) ≡ false
    cases true is others =
        let found : Some line.1 ≡ None = sym (ap (λ b. option_map (λ (l : W × A). l.1) (cond b (Some line) (find (λ l. bytes_eq (text l.0) sought) table))) is) ∙ none in
        cc found
    cases false is others =
        let later : by_text text table sought ≡ None = sym (ap (λ b. option_map (λ (l : W × A). l.1) (cond b (Some line) (find (λ l. bytes_eq (text l.0) sought) table))) is) ∙ none in
        ap (λ b. b || list_any (bytes_eq sought) (map (λ l. text l.0) table)) (text_turned sought (text line.0) ∙ is) ∙ others later

-- where each line has the text of what it stands for, what is found has the text that was looked for
pub found : {W A : Type 0} (text : W → List ℕ) (of : A → W) (table : List (W × A)) (sought : List ℕ) (m : A) → list_all (λ line. bytes_eq (text line.0) (text (of line.1))) table ≡ true →
    by_text text table sought ≡ Some m → text (of m) ≡ sought
found text of [] sought m all is = cc is
found {W} {A} text of (line ∷ table) sought m all is = cases (bytes_eq (text line.0) sought) refl (found text of table sought m)
  where
    both : (bytes_eq (text line.0) (text (of line.1)) ≡ true) × (list_all (λ l. bytes_eq (text l.0) (text (of l.1))) table ≡ true)
    both = and_parts (bytes_eq (text line.0) (text (of line.1))) (list_all (λ l. bytes_eq (text l.0) (text (of l.1))) table) all

    cases : (b : Bool) → bytes_eq (text line.0) sought ≡ b →
        (list_all (λ l. bytes_eq (text l.0) (text (of l.1))) table ≡ true → by_text text table sought ≡ Some m → text (of m) ≡ sought) → text (of m) ≡ sought
    cases true here others =
        let same : Some line.1 ≡ Some m = sym (ap (λ b. option_map (λ (l : W × A). l.1) (cond b (Some line) (find (λ l. bytes_eq (text l.0) sought) table))) here) ∙ is in
        let value : line.1 ≡ m = cc same in
        ap (λ v. text (of v)) (sym value) ∙ sym ((bytes_eq-Decides (text line.0) (text (of line.1))).0 both.0) ∙ (bytes_eq-Decides (text line.0) sought).0 here
    cases false here others =
        let later : by_text text table sought ≡ Some m = sym (ap (λ b. option_map (λ (l : W × A). l.1) (cond b (Some line) (find (λ l. bytes_eq (text l.0) sought) table))) here) ∙ is in
        others both.1 later
