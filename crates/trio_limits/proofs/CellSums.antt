-- Sums over cells, from those over items.
use Rattle.std.proofs.Common.{◌≡◌, ℕ, ◌+◌, ◌*◌, List, [], ◌∷◌, ◌++◌, map, length, sum_by, Some, slice_get, refl, sym, ap, ◌∙◌, append_assoc, length-append, arith}
use Rattle.std.specs.List.{flat_map, enumerate_from}
use Rattle.std.proofs.lemmas.List.Sums.{sum_by-append, sum_by-cons}
use Rattle.std.proofs.Math.Nat.{mul_assoc, mul_comm, add-mul}
use Rattle.std.proofs.lemmas.List.FromFn.{length-range_with_len}
use Rattle.trio_types.specs.declared.spec.Domain.{Domain}
use Rattle.trio_types.specs.declared.spec.Item.{Item}
use Rattle.trio_types.specs.World.{World, instants_of, size_of}
use Rattle.trio_types.specs.Cells.{Row, the_cell, tuples, rows_of_item, rows_of, cells_of_row, cells_of, cell_size}
use Rattle.trio_types.proofs.Lists.{get_right}
use Rattle.trio_types.proofs.CellNumbers.{size_from_item}

sum_flat : {X Y : Type 0} (f : Y → ℕ) (g : X → List Y) (xs : List X) → sum_by f (flat_map g xs) ≡ sum_by (λ x. sum_by f (g x)) xs
sum_flat f g [] = refl
sum_flat f g (x ∷ xs) =
    sum_by-append f (g x) (flat_map g xs) ∙ ap (λ n. sum_by f (g x) + n) (sum_flat f g xs) ∙ sym (sum_by-cons (λ x. sum_by f (g x)) x xs)

sum_same : {X : Type 0} (f g : X → ℕ) → ((x : X) → f x ≡ g x) → (xs : List X) → sum_by f xs ≡ sum_by g xs
sum_same f g same [] = refl
sum_same f g same (x ∷ xs) = sum_by-cons f x xs ∙ rw (same x, sum_same f g same xs) (sym (sum_by-cons g x xs))

-- a sum of things that are all worth the same
sum_mapped : {X Y : Type 0} (f : Y → ℕ) (g : X → Y) (c : ℕ) → ((x : X) → f (g x) ≡ c) → (xs : List X) → sum_by f (map g xs) ≡ length xs * c
sum_mapped f g c same [] = omega arith
sum_mapped f g c same (x ∷ xs) = sum_by-cons f (g x) (map g xs) ∙ omega (arith, same x, sum_mapped f g c same xs, one_more (length xs) c)
  where
    one_more : (n c : ℕ) → (1 + n) * c ≡ c + n * c
    one_more n c = add-mul 1 n c ∙ omega arith

-- what the cells of a row are worth
row_worth : World → Row → ℕ
row_worth w r = length (instants_of w) * cell_size w (the_cell r.item [] 0)

row_sum : (w : World) (r : Row) → sum_by (cell_size w) (cells_of_row w r) ≡ row_worth w r
unfolding row_worth
row_sum w r = sum_mapped (cell_size w) (the_cell r.item r.args) (cell_size w (the_cell r.item [] 0)) (λ i. refl) (instants_of w)

-- what the rows of an item are worth
abbrev pub item_worth : List Domain → Item → ℕ
item_worth domains item = length (tuples domains item.args) * size_of domains item.value

item_rows : (w : World) (n : ℕ) (item : Item) → slice_get w.items n ≡ Some item →
    sum_by (row_worth w) (rows_of_item w n item) ≡ item_worth w.domains item * length (instants_of w)
unfolding row_worth
item_rows w n item at =
    sum_mapped (row_worth w) (λ args. record { item = n; args = args }) (length (instants_of w) * size_of w.domains item.value)
    (λ args. ap (λ s. length (instants_of w) * s) (size_from_item w (the_cell n [] 0) item at)) (tuples w.domains item.args)
    ∙ ap (λ m. length (tuples w.domains item.args) * m) (mul_comm (length (instants_of w)) (size_of w.domains item.value))
    ∙ sym (mul_assoc (length (tuples w.domains item.args)) (size_of w.domains item.value) (length (instants_of w)))

rows_sum : (w : World) (front rest : List Item) → w.items ≡ front ++ rest →
    sum_by (row_worth w) (flat_map (λ p. rows_of_item w p.0 p.1) (enumerate_from (length front) rest)) ≡ sum_by (item_worth w.domains) rest * length (instants_of w)
rows_sum w front [] is = omega arith
rows_sum w front (item ∷ rest) is =
    let at : slice_get w.items (length front) ≡ Some item =
    ap (λ is. slice_get is (length front)) is ∙ ap (slice_get (front ++ item ∷ rest)) (sym (plus_zero (length front))) ∙ get_right front (item ∷ rest) 0 in
    let next : sum_by (row_worth w) (flat_map (λ p. rows_of_item w p.0 p.1) (enumerate_from (length front + 1) rest)) ≡ sum_by (item_worth w.domains) rest * length (instants_of w) =
    ap (λ n. sum_by (row_worth w) (flat_map (λ p. rows_of_item w p.0 p.1) (enumerate_from n rest))) (sym (length-append front (item ∷ [])))
    ∙ rows_sum w (front ++ item ∷ []) rest (is ∙ sym (append_assoc front (item ∷ []) rest)) in
    sum_by-append (row_worth w) (rows_of_item w (length front) item) (flat_map (λ p. rows_of_item w p.0 p.1) (enumerate_from (length front + 1) rest))
    ∙ rw (item_rows w (length front) item at, next) refl
    ∙ sym (add-mul (item_worth w.domains item) (sum_by (item_worth w.domains) rest) (length (instants_of w)))
    ∙ ap (λ n. n * length (instants_of w)) (sym (sum_by-cons (item_worth w.domains) item rest))
  where
    plus_zero : (n : ℕ) → n + 0 ≡ n
    plus_zero n = omega arith

pub sizes_are : (w : World) → sum_by (cell_size w) (cells_of w) ≡ sum_by (item_worth w.domains) w.items * w.instants
unfolding cells_of rows_of instants_of
sizes_are w =
    sum_flat (cell_size w) (cells_of_row w) (rows_of w) ∙ sum_same (λ r. sum_by (cell_size w) (cells_of_row w r)) (row_worth w) (row_sum w) (rows_of w)
    ∙ rows_sum w [] w.items refl ∙ ap (λ n. sum_by (item_worth w.domains) w.items * n) (length-range_with_len 0 w.instants)
