-- What holds of each pair of two lists, and of one more.
use Rattle.std.proofs.Common.{◌≡◌, Bool, true, List, [], ◌∷◌, ◌++◌, length, Some, slice_get, zip, refl, ap, ◌∙◌}
use Rattle.std.specs.List.{list_all}
use Rattle.std.proofs.lemmas.Bool.{and_parts, and_from}
use Rattle.std.proofs.lemmas.Option.{same_Some}

pub all_more : {X Y : Type 0} (q : X × Y → Bool) (xs : List X) (ys : List Y) (x : X) (y : Y) →
    list_all q (zip xs ys) ≡ true → slice_get xs (length ys) ≡ Some x → q (x, y) ≡ true → list_all q (zip xs (ys ++ y ∷ [])) ≡ true
all_more q [] ys x y all at is = refl
all_more q (z ∷ []) [] x y all at is = and_from (q (z, y)) true (ap (λ u. q (u, y)) (same_Some z x at) ∙ is) refl
all_more q (z ∷ v ∷ vs) [] x y all at is = and_from (q (z, y)) true (ap (λ u. q (u, y)) (same_Some z x at) ∙ is) refl
all_more q (z ∷ zs) (w ∷ ws) x y all at is =
    let r = and_parts (q (z, w)) (list_all q (zip zs ws)) all in
    and_from (q (z, w)) (list_all q (zip zs (ws ++ y ∷ []))) r.0 (all_more q zs ws x y r.1 at is)

-- no pair is there
pub no_pairs : {X Y : Type 0} (q : X × Y → Bool) (xs : List X) → list_all q (zip xs []) ≡ true
no_pairs q [] = refl
no_pairs q (z ∷ zs) = refl
