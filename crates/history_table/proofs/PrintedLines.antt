-- Lines that are printed one after another.
use Rattle.std.proofs.Common.{◌≡◌, ℕ, zero, suc, ◌+◌, ◌<◌, ◌≤◌, List, [], ◌∷◌, ◌++◌, length, take, drop, refl, sym, ap, ap₂, ◌∙◌, subst, true, append_assoc, append-nil, arith, Option, Some, slice_get, flat_map}
use Rattle.std.specs.List.{enumerate_from}
use Rattle.std.proofs.lemmas.Bool.{false≢true}
use Rattle.std.proofs.lemmas.Option.{none-some, same_Some}
use Rattle.trio_types.specs.declared.spec.Domain.{Domain}
use Rattle.trio_types.specs.World.{World}
use Rattle.trio_types.specs.Parts.{Parts}
use Rattle.trio_types.specs.WellFormed.{has_bool}
use Rattle.trio_types.proofs.Specs.{Formed}
use Rattle.trio_types.specs.Cells.{Row}
use Rattle.history_table.specs.Texts.{line_text, lines_text}

-- what stands for the elements from one on: its own, and that for those behind it
pub flat_at : {X A : Type 0} (f : X → List A) (xs : List X) (k : ℕ) (x : X) → slice_get xs k ≡ Some x →
    flat_map f (drop k xs) ≡ f x ++ flat_map f (drop (k + 1) xs)
flat_at f [] k x at = absurd (none-some x at)
flat_at f (y ∷ ys) zero x at = ap (λ z. f z ++ flat_map f ys) (same_Some y x at)
flat_at f (y ∷ ys) (suc k) x at = let next : suc k + 1 ≡ suc (k + 1) = omega arith in rw next (flat_at f ys k x at)

-- one element more is printed
pub flat_more : {X : Type 0} (f : X → List ℕ) (xs : List X) (k : ℕ) (x : X) (text more whole : List ℕ) → slice_get xs k ≡ Some x →
    text ++ flat_map f (drop k xs) ≡ whole → more ≡ text ++ f x → more ++ flat_map f (drop (k + 1) xs) ≡ whole
flat_more f xs k x text more whole at so_far is =
    let rest = flat_map f (drop (k + 1) xs) in
    ap (λ t. t ++ rest) is ∙ append_assoc text (f x) rest ∙ ap (λ t. text ++ t) (sym (flat_at f xs k x at)) ∙ so_far

-- all elements are printed
pub flat_whole : {X : Type 0} (f : X → List ℕ) (xs : List X) (k : ℕ) (text whole : List ℕ) → length xs ≤ k →
    text ++ flat_map f (drop k xs) ≡ whole → text ≡ whole
flat_whole f xs k text whole past so_far =
    sym (append-nil text) ∙ ap (λ t. text ++ t) (sym (none f xs k past)) ∙ so_far
  where
    none : {X A : Type 0} (f : X → List A) (xs : List X) (k : ℕ) → length xs ≤ k → flat_map f (drop k xs) ≡ []
    none f [] zero past = refl
    none f [] (suc k) past = refl
    none f (x ∷ xs) zero past = absurd (omega (arith, past))
    none f (x ∷ xs) (suc k) past = none f xs k (omega (arith, past))

lines_at : (w : World) (rows : List Row) (given : List (Option ℕ)) (k : ℕ) (row : Row) → slice_get rows k ≡ Some row →
    lines_text w (drop k rows) given ≡ line_text w row (take w.instants given) ++ lines_text w (drop (k + 1) rows) (drop w.instants given)
lines_at w [] given k row at = absurd (none-some row at)
lines_at w (r ∷ rows) given zero row at =
    ap (λ x. line_text w x (take w.instants given) ++ lines_text w rows (drop w.instants given)) (same_Some r row at)
lines_at w (r ∷ rows) given (suc k) row at = let next : suc k + 1 ≡ suc (k + 1) = omega arith in rw next (lines_at w rows given k row at)

-- one line more is printed
pub line_more : (w : World) (rows : List Row) (rest behind entries : List (Option ℕ)) (k : ℕ) (row : Row) (text more whole : List ℕ) →
    slice_get rows k ≡ Some row → entries ≡ take w.instants rest → behind ≡ drop w.instants rest →
    text ++ lines_text w (drop k rows) rest ≡ whole → more ≡ text ++ line_text w row entries →
    more ++ lines_text w (drop (k + 1) rows) behind ≡ whole
line_more w rows rest behind entries k row text more whole at are left so_far is =
    let others = lines_text w (drop (k + 1) rows) (drop w.instants rest) in
    let line = line_text w row (take w.instants rest) in
    ap₂ (λ t g. t ++ lines_text w (drop (k + 1) rows) g) (is ∙ ap (λ es. text ++ line_text w row es) are) left ∙ append_assoc text line others
    ∙ ap (λ t. text ++ t) (sym (lines_at w rows rest k row at)) ∙ so_far

-- all lines are printed
pub lines_whole : (w : World) (rows : List Row) (given : List (Option ℕ)) (k : ℕ) (text whole : List ℕ) → length rows ≤ k →
    text ++ lines_text w (drop k rows) given ≡ whole → text ≡ whole
lines_whole w rows given k text whole past so_far =
    sym (append-nil text) ∙ ap (λ t. text ++ t) (sym (none w rows given k past)) ∙ so_far
  where
    none : (w : World) (rows : List Row) (given : List (Option ℕ)) (k : ℕ) → length rows ≤ k → lines_text w (drop k rows) given ≡ []
    none w [] given zero past = refl
    none w [] given (suc k) past = refl
    none w (r ∷ rows) given zero past = absurd (omega (arith, past))
    none w (r ∷ rows) given (suc k) past = none w rows given k (omega (arith, past))

-- one table more is numbered
pub enumerate_at : {A : Type 0} (xs : List A) (n k : ℕ) (x : A) → slice_get xs k ≡ Some x → slice_get (enumerate_from n xs) k ≡ Some (n + k, x)
enumerate_at [] n k x at = absurd (none-some x at)
enumerate_at (y ∷ ys) n zero x at = let same : n ≡ n + 0 = omega arith in ap₂ (λ m z. Some (m, z)) same (same_Some y x at)
enumerate_at (y ∷ ys) n (suc k) x at = let on : n + 1 + k ≡ n + suc k = omega arith in enumerate_at ys (n + 1) k x at ∙ ap (λ m. Some (m, x)) on

pub length-enumerate : {A : Type 0} (xs : List A) (n : ℕ) → length (enumerate_from n xs) ≡ length xs
length-enumerate [] n = refl
length-enumerate (x ∷ xs) n = ap suc (length-enumerate xs (n + 1))

-- a specification has a domain
pub some_domain : (p : Parts) → Formed p → 0 < length p.domains
some_domain p f = among p.domains p refl f.bool_first
  where
    among : (ds : List Domain) (p : Parts) → p.domains ≡ ds → has_bool p ≡ true → 0 < length p.domains
    among [] p is first = absurd (false≢true (subst (λ ds. has_bool (record { instants = p.instants; domains = ds; items = p.items; axioms = p.axioms; goals = p.goals }) ≡ true) is first))
    among (d ∷ ds) p is first = rw is (omega arith)

-- the pieces of a line
pub line_is : (old name entries named signed listed whole : List ℕ) → named ≡ old ++ name → signed ≡ named ++ 58 ∷ [] → listed ≡ signed ++ entries →
    whole ≡ listed ++ 10 ∷ [] → whole ≡ old ++ (name ++ (58 ∷ (entries ++ 10 ∷ [])))
line_is old name entries named signed listed whole n s l w =
    w ∙ ap (λ t. t ++ 10 ∷ []) (l ∙ ap (λ t. t ++ entries) (s ∙ ap (λ t. t ++ 58 ∷ []) n))
    ∙ append_assoc ((old ++ name) ++ 58 ∷ []) entries (10 ∷ []) ∙ append_assoc (old ++ name) (58 ∷ []) (entries ++ 10 ∷ []) ∙ append_assoc old name (58 ∷ (entries ++ 10 ∷ []))

-- a table behind its number
pub number_is : (old head table headed more : List ℕ) → headed ≡ old ++ head → more ≡ headed ++ table → more ≡ old ++ (head ++ table)
number_is old head table headed more h m = m ∙ ap (λ t. t ++ table) h ∙ append_assoc old head table

-- a text whose first line ends with a number
pub headed : (word number rest text : List ℕ) → text ≡ word ++ (number ++ 10 ∷ []) → text ++ rest ≡ word ++ (number ++ (10 ∷ rest))
headed word number rest text is =
    ap (λ t. t ++ rest) is ∙ append_assoc word (number ++ 10 ∷ []) rest ∙ ap (λ t. word ++ t) (append_assoc number (10 ∷ []) rest)
