-- The least place of joined lists, and of a list as far as a loop has come.
use Rattle.std.proofs.Common.{◌≡◌, ℕ, ◌+◌, ◌<◌, ◌≤◌, List, [], ◌∷◌, ◌++◌, length, take, get_or, Option, None, Some, refl, sym, ap, ◌∙◌, append_assoc, arith}
use Rattle.std.specs.List.{flat_map}
use Rattle.std.proofs.lemmas.List.{append-nil, take_all, take_more}
use Rattle.std.proofs.lemmas.Grind.{flat_map-append}
use Rattle.trio_scope.specs.Places.{earlier, least}

pub earlier-none : (p : Option ℕ) → earlier p None ≡ p
earlier-none None = refl
earlier-none (Some p) = refl

pub earlier-assoc : (p q r : Option ℕ) → earlier p (earlier q r) ≡ earlier (earlier p q) r
earlier-assoc None q r = refl
earlier-assoc (Some p) None r = refl
earlier-assoc (Some p) (Some q) None = refl
earlier-assoc (Some p) (Some q) (Some r) = ap Some (omega arith)

pub least-append : (xs ys : List ℕ) → least (xs ++ ys) ≡ earlier (least xs) (least ys)
least-append [] ys = refl
least-append (x ∷ xs) ys = ap (earlier (Some x)) (least-append xs ys) ∙ earlier-assoc (Some x) (least xs) (least ys)

-- of two lists, from the least of each
pub least_both : (xs ys : List ℕ) {p q r : Option ℕ} → p ≡ least xs → q ≡ least ys → r ≡ earlier p q → r ≡ least (xs ++ ys)
least_both xs ys first second both = both ∙ rw (first, second) (sym (least-append xs ys))

flat_map_next : {A : Type 0} (f : A → List ℕ) (xs : List A) (i : ℕ) (d : A) → i < length xs →
    flat_map f (take (i + 1) xs) ≡ flat_map f (take i xs) ++ f (get_or xs i d)
flat_map_next f xs i d below =
    ap (flat_map f) (take_more xs i d below) ∙ flat_map-append f (take i xs) (get_or xs i d ∷ [])
    ∙ ap (λ ys. flat_map f (take i xs) ++ ys) (append-nil (f (get_or xs i d)))

-- one more element, in a loop over these items
pub least_next : {A : Type 0} (f : A → List ℕ) (front : List ℕ) {items xs : List A} → items ≡ xs → (i : ℕ) (x : A) → i < length items →
    x ≡ get_or items i x → {first here next : Option ℕ} → first ≡ least (front ++ flat_map f (take i xs)) → here ≡ least (f x) →
    next ≡ earlier first here → next ≡ least (front ++ flat_map f (take (i + 1) xs))
least_next f front {items = items} same i x below is before item joined =
    joined ∙ rw (before, item, ← same) (sym (least-append (front ++ flat_map f (take i items)) (f x)))
    ∙ ap least (append_assoc front (flat_map f (take i items)) (f x)
    ∙ ap (λ ys. front ++ ys) (ap (λ y. flat_map f (take i items) ++ f y) is ∙ sym (flat_map_next f items i x below) ∙ ap (λ zs. flat_map f (take (i + 1) zs)) same))

-- the loop has seen all items
pub least_end : {A : Type 0} (f : A → List ℕ) (front : List ℕ) {items xs : List A} → items ≡ xs → {i : ℕ} → length items ≤ i → {first : Option ℕ} →
    first ≡ least (front ++ flat_map f (take i xs)) → first ≡ least (front ++ flat_map f xs)
least_end f front {items = items} {xs = xs} same {i = i} past before =
    before ∙ ap (λ zs. least (front ++ flat_map f zs)) (take_all i xs (rw (← same) past))
