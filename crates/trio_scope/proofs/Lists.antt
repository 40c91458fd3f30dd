-- Tests and look-ups in mapped lists.
use Rattle.std.proofs.Common.{◌≡◌, ◌+◌, Bool, not, cond, ◌||◌, List, [], ◌∷◌, map, position, refl, ap}
use Rattle.std.specs.List.{list_any, position_or_len}
use Rattle.std.proofs.lemmas.List.{length-map}

pub list_any-map : {X Y : Type 0} (p : Y → Bool) (g : X → Y) (xs : List X) → list_any p (map g xs) ≡ list_any (λ x. p (g x)) xs
list_any-map p g [] = refl
list_any-map p g (x ∷ xs) = ap (λ b. p (g x) || b) (list_any-map p g xs)

first-map : {X Y : Type 0} (p : Y → Bool) (g : X → Y) (xs : List X) → position_or_len p (map g xs) ≡ position_or_len (λ x. p (g x)) xs
first-map p g [] = refl
first-map p g (x ∷ xs) = ap (λ n. cond (not (p (g x))) (1 + n) 0) (first-map p g xs)

pub position-map : {X Y : Type 0} (p : Y → Bool) (g : X → Y) (xs : List X) → position p (map g xs) ≡ position (λ x. p (g x)) xs
position-map p g xs = rw (first-map p g xs, length-map xs g) refl
