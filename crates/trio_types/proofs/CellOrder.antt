-- The cells in their order: each stands once, and they are those that the items have.
use Rattle.std.proofs.Common.{◌≡◌, ◌↔◌, ◌⊎◌, ℕ, zero, suc, ◌+◌, ◌<◌, true, ◌&&◌, ◌==◌, nat_lt, List, [], ◌∷◌, map, length, Some, slice_get, find, zip, inl, inr, refl, sym, ap, ◌∙◌, arith}
use Rattle.std.specs.List.{range_with_len, enumerate_from, flat_map, list_all}
use Rattle.std.specs.Option.{option_map}
use Rattle.std.specs.Str.{bytes_eq}
use Rattle.std.proofs.Math.Logic.{⊎_elim}
use Rattle.std.proofs.lemmas.Bool.{and_parts, and_from, cond-true, cond-false, cases_Bool, cases_lt, eqb-true, eq-eqb, ltb-true, lt-ltb}
use Rattle.std.proofs.lemmas.Option.{none-some, same_Some, slice_get-map}
use Rattle.std.proofs.lemmas.Slice.Eq.{bytes_eq-Decides}
use Rattle.trio_types.specs.declared.spec.Domain.{Domain}
use Rattle.trio_types.specs.declared.spec.Item.{Item}
use Rattle.trio_types.specs.World.{World, instants_of, size_of}
use Rattle.trio_types.specs.Cells.{Row, Cell, the_cell, same_cell, tuples, are_indexes, rows_of_item, rows_of, cells_of_row, cells_of, value_at, cell_size, IsTable}
use Rattle.trio_types.specs.Laws.{ArgsPrecede, Precedes, MayHave}
use Rattle.trio_types.proofs.Lists.{get_split, get_flat, map_some}
use Rattle.trio_types.proofs.CellNumbers.{row, tuple_number, number_stands, same_lengths, row_item, cell_row, cell_is}

-- each element is before those behind it
record Ordered {A : Type 0} (R : A → A → Type 0) (xs : List A) : Type 0 where
  order : (m n : ℕ) (a b : A) → m < n → slice_get xs m ≡ Some a → slice_get xs n ≡ Some b → R a b

ordered_tail : {A : Type 0} (R : A → A → Type 0) (x : A) (xs : List A) → Ordered R (x ∷ xs) → Ordered R xs
ordered_tail R x xs o = record { order = λ m n a b less at bt. o.order (suc m) (suc n) a b (omega arith) at bt }

-- lists in a row, each ordered, where what stands in one is before what stands in a later one
ordered_flat : {A B : Type 0} (R : A → A → Type 0) (S : B → B → Type 0) (f : A → List B) → ((a : A) → Ordered S (f a)) →
    ((a a' : A) (m n : ℕ) (b b' : B) → R a a' → slice_get (f a) m ≡ Some b → slice_get (f a') n ≡ Some b' → S b b') → (xs : List A) → Ordered R xs → Ordered S (flat_map f xs)
ordered_flat R S f each apart [] o = record { order = λ m n a b less at bt. absurd (none-some a at) }
ordered_flat {A} {B} R S f each apart (x ∷ xs) o = record {
  order = λ m n a b less at bt.
      ⊎_elim
      (λ l. ⊎_elim
      (λ r. (each x).order m n a b less l.1 r.1)
      (λ r. let y = get_flat f xs r.0 b r.2 in apart x y.1 m y.2 a b (o.order 0 (suc y.0) x y.1 (omega arith) refl y.3) l.1 y.4)
      (get_split (f x) (flat_map f xs) n b bt))
      (λ l. ⊎_elim
      (λ r. absurd (omega (arith, l.1, r.0)))
      (λ r. (ordered_flat R S f each apart xs (ordered_tail R x xs o)).order l.0 r.0 a b (omega (arith, l.1, r.1)) l.2 r.2)
      (get_split (f x) (flat_map f xs) n b bt))
      (get_split (f x) (flat_map f xs) m a at);
}

ordered_map : {A B : Type 0} (R : A → A → Type 0) (S : B → B → Type 0) (g : A → B) → ((a a' : A) → R a a' → S (g a) (g a')) → (xs : List A) → Ordered R xs → Ordered S (map g xs)
ordered_map R S g keeps xs o = record {
  order = λ m n a b less at bt.
      let p = map_some g (slice_get xs m) a (sym (slice_get-map g xs m) ∙ at) in
      let q = map_some g (slice_get xs n) b (sym (slice_get-map g xs n) ∙ bt) in
      rw (← p.2, ← q.2) (keeps p.0 q.0 (o.order m n p.0 q.0 less p.1 q.1));
}

-- numbers in a row
pub at_range : (a n m x : ℕ) → slice_get (range_with_len a n) m ≡ Some x → (x ≡ a + m) × (m < n)
at_range a zero m x is = absurd (none-some x is)
at_range a (suc n) zero x is = (omega (arith, same_Some a x is), omega arith)
at_range a (suc n) (suc m) x is = let r = at_range (a + 1) n m x is in (omega (arith, r.0), omega (arith, r.1))

ordered_range : (a n : ℕ) → Ordered (λ x y. x < y) (range_with_len a n)
ordered_range a n = record { order = λ k l x y less at bt. omega (arith, (at_range a n k x at).0, (at_range a n l y bt).0) }

pub number_at : {X : Type 0} (a : ℕ) (xs : List X) (m : ℕ) (p : ℕ × X) → slice_get (enumerate_from a xs) m ≡ Some p → p.0 ≡ a + m
number_at a [] m p is = absurd (none-some p is)
number_at a (x ∷ xs) zero p is = let e = ap (λ q. q.0) (same_Some (a, x) p is) in omega (arith, e)
number_at a (x ∷ xs) (suc m) p is = omega (arith, number_at (a + 1) xs m p is)

ordered_enumerate : {X : Type 0} (a : ℕ) (xs : List X) → Ordered (λ p q. p.0 < q.0) (enumerate_from a xs)
ordered_enumerate a xs = record { order = λ k l x y less at bt. omega (arith, number_at a xs k x at, number_at a xs l y bt) }

-- tuples
longer : ℕ → List ℕ → List ℕ
longer v vs = v ∷ vs

ordered_tuples : (domains : List Domain) (ds : List ℕ) → Ordered ArgsPrecede (tuples domains ds)
unfolding longer
ordered_tuples domains [] = record { order = λ m n a b less at bt. one m n a b less bt }
  where
    one : (m n : ℕ) (a b : List ℕ) → m < n → slice_get ([] ∷ []) n ≡ Some b → ArgsPrecede a b
    one m zero a b less bt = absurd (omega arith)
    one m (suc n) a b less bt = absurd (none-some b bt)
ordered_tuples domains (d ∷ ds) =
    ordered_flat (λ x y. x < y) ArgsPrecede (λ v. map (longer v) (tuples domains ds))
    (λ v. ordered_map ArgsPrecede ArgsPrecede (longer v) (λ vs us less. inr (refl, less)) (tuples domains ds) (ordered_tuples domains ds))
    (λ v u m n vs us less at bt.
    let p = map_some (longer v) (slice_get (tuples domains ds) m) vs (sym (slice_get-map (longer v) (tuples domains ds) m) ∙ at) in
    let q = map_some (longer u) (slice_get (tuples domains ds) n) us (sym (slice_get-map (longer u) (tuples domains ds) n) ∙ bt) in
    rw (← p.2, ← q.2) (inl less))
    (range_with_len 0 (size_of domains d)) (ordered_range 0 (size_of domains d))

-- rows
RowPrecedes : Row → Row → Type 0
RowPrecedes a b = (a.item < b.item) ⊎ ((a.item ≡ b.item) × ArgsPrecede a.args b.args)

ordered_rows : (w : World) → Ordered RowPrecedes (rows_of w)
unfolding rows_of RowPrecedes
ordered_rows w =
    ordered_flat (λ (p q : ℕ × Item). p.0 < q.0) RowPrecedes (λ p. rows_of_item w p.0 p.1)
    (λ p. ordered_map ArgsPrecede RowPrecedes (row p.0) (λ vs us less. inr (refl, less)) (tuples w.domains p.1.args) (ordered_tuples w.domains p.1.args))
    (λ p q m n a b less at bt. inl (rw (← item_at w p m a at, ← item_at w q n b bt) less))
    (enumerate_from 0 w.items) (ordered_enumerate 0 w.items)
  where
    item_at : (w : World) (p : ℕ × Item) (m : ℕ) (a : Row) → slice_get (rows_of_item w p.0 p.1) m ≡ Some a → p.0 ≡ a.item
    item_at w p m a at = ap (λ (r : Row). r.item) (map_some (row p.0) (slice_get (tuples w.domains p.1.args) m) a (sym (slice_get-map (row p.0) (tuples w.domains p.1.args) m) ∙ at)).2

-- cells
pub ordered_cells : (w : World) (m n : ℕ) (a b : Cell) → m < n → slice_get (cells_of w) m ≡ Some a → slice_get (cells_of w) n ≡ Some b → Precedes a b
unfolding cells_of instants_of RowPrecedes
ordered_cells w m n a b less at bt =
    (ordered_flat RowPrecedes Precedes (cells_of_row w)
    (λ r. ordered_map (λ i j. i < j) Precedes (the_cell r.item r.args) (λ i j before. inr (refl, inr (refl, before))) (instants_of w) (ordered_range 0 w.instants))
    (λ r s k l c d before ct dt.
    let p = map_some (the_cell r.item r.args) (slice_get (instants_of w) k) c (sym (slice_get-map (the_cell r.item r.args) (instants_of w) k) ∙ ct) in
    let q = map_some (the_cell s.item s.args) (slice_get (instants_of w) l) d (sym (slice_get-map (the_cell s.item s.args) (instants_of w) l) ∙ dt) in
    rw (← p.2, ← q.2) (⊎_elim (λ item. inl item) (λ same. inr (same.0, inl same.1)) before))
    (rows_of w) (ordered_rows w)).order m n a b less at bt

args_not_before : (vs : List ℕ) → ArgsPrecede vs vs → ⊥
args_not_before [] h = h
args_not_before (v ∷ vs) h = ⊎_elim (λ less. omega (arith, less)) (λ rest. args_not_before vs rest.1) h

pub not_before : (c : Cell) → Precedes c c → ⊥
not_before c h = ⊎_elim (λ less. omega (arith, less)) (λ same. ⊎_elim (λ args. args_not_before c.args args) (λ last. omega (arith, last.1)) same.1) h

-- every cell has one number
pub cell_once : (w : World) (m n : ℕ) (c : Cell) → slice_get (cells_of w) m ≡ Some c → slice_get (cells_of w) n ≡ Some c → m ≡ n
cell_once w m n c at bt =
    ⊎_elim (λ less. absurd (not_before c (ordered_cells w m n c c less at bt)))
    (λ more. ⊎_elim (λ less. absurd (not_before c (ordered_cells w n m c c less bt at))) (λ no_more. omega arith) (cases_lt n m))
    (cases_lt m n)

-- tables
same_true : (a b : Cell) → same_cell a b ≡ true → a ≡ b
same_true a b is =
    let p = and_parts (a.item == b.item) (bytes_eq a.args b.args && a.instant == b.instant) is in
    let q = and_parts (bytes_eq a.args b.args) (a.instant == b.instant) p.1 in
    let e : a.item ≡ b.item = eqb-true a.item b.item p.0 in
    let f : a.args ≡ b.args = (bytes_eq-Decides a.args b.args).0 q.0 in
    let g : a.instant ≡ b.instant = eqb-true a.instant b.instant q.1 in
    ap (λ n. the_cell n a.args a.instant) e ∙ ap (λ vs. the_cell b.item vs a.instant) f ∙ ap (λ n. the_cell b.item b.args n) g

same_self : (a : Cell) → same_cell a a ≡ true
same_self a =
    and_from (a.item == a.item) (bytes_eq a.args a.args && a.instant == a.instant) (eq-eqb a.item a.item refl)
    (and_from (bytes_eq a.args a.args) (a.instant == a.instant) ((bytes_eq-Decides a.args a.args).1 refl) (eq-eqb a.instant a.instant refl))

record Once (cells : List Cell) : Type 0 where
  once : (m n : ℕ) (c : Cell) → slice_get cells m ≡ Some c → slice_get cells n ≡ Some c → m ≡ n

once_tail : (d : Cell) (cells : List Cell) → Once (d ∷ cells) → Once cells
once_tail d cells o = record { once = λ m n c at bt. let e : suc m ≡ suc n = o.once (suc m) (suc n) c at bt in omega arith }

found_entry : (cells : List Cell) (t : List ℕ) (n : ℕ) (c : Cell) → Once cells → length t ≡ length cells → slice_get cells n ≡ Some c →
    option_map (λ p. p.1) (find (λ p. same_cell p.0 c) (zip cells t)) ≡ slice_get t n
found_entry [] t n c o whole at = absurd (none-some c at)
found_entry (d ∷ cells) [] n c o whole at = absurd (omega arith)
found_entry (d ∷ cells) (v ∷ t) zero c o whole at =
    ap (option_map (λ p. p.1)) (cond-true (same_cell d c) (Some (d, v)) (find (λ p. same_cell p.0 c) (zip cells t)) (rw (← same_Some d c at) (same_self d)))
found_entry (d ∷ cells) (v ∷ t) (suc n) c o whole at =
    ⊎_elim
    (λ yes. let e : 0 ≡ suc n = o.once 0 (suc n) c (ap Some (same_true d c yes)) at in absurd (omega arith))
    (λ no. ap (option_map (λ p. p.1)) (cond-false (same_cell d c) (Some (d, v)) (find (λ p. same_cell p.0 c) (zip cells t)) no)
    ∙ found_entry cells t n c (once_tail d cells o) (omega arith) at)
    (cases_Bool (same_cell d c))

-- in a list with one entry for each cell a cell's entry is the one at its number
pub entry_at : (w : World) (t : List ℕ) (n : ℕ) (c : Cell) → length t ≡ length (cells_of w) → slice_get (cells_of w) n ≡ Some c → value_at w t c ≡ slice_get t n
unfolding value_at
entry_at w t n c whole at = found_entry (cells_of w) t n c (record { once = cell_once w }) whole at

-- a table's entry at a cell's number is the cell's value
pub entry_is_value : (w : World) (t : List ℕ) (n : ℕ) (c : Cell) → IsTable w t → slice_get (cells_of w) n ≡ Some c → value_at w t c ≡ slice_get t n
entry_is_value w t n c fits at = entry_at w t n c fits.whole at

-- and it is below the cell's size
pub entry_below : (w : World) (t : List ℕ) (n v : ℕ) (c : Cell) → IsTable w t → slice_get (cells_of w) n ≡ Some c → slice_get t n ≡ Some v → v < cell_size w c
entry_below w t n v c fits at entry = below (cells_of w) t n fits.within at entry
  where
    below : (cells : List Cell) (t : List ℕ) (n : ℕ) → list_all (λ p. nat_lt p.1 (cell_size w p.0)) (zip cells t) ≡ true → slice_get cells n ≡ Some c → slice_get t n ≡ Some v → v < cell_size w c
    below [] t n each at entry = absurd (none-some c at)
    below (d ∷ cells) [] n each at entry = absurd (none-some v entry)
    below (d ∷ cells) (u ∷ t) zero each at entry =
        let first = ltb-true u (cell_size w d) (and_parts (nat_lt u (cell_size w d)) (list_all (λ p. nat_lt p.1 (cell_size w p.0)) (zip cells t)) each).0 in
        rw (← same_Some d c at, ← same_Some u v entry) first
    below (d ∷ cells) (u ∷ t) (suc n) each at entry =
        below cells t n (and_parts (nat_lt u (cell_size w d)) (list_all (λ p. nat_lt p.1 (cell_size w p.0)) (zip cells t)) each).1 at entry

-- the arguments of rows
are_those : (domains : List Domain) (ds vs : List ℕ) → are_indexes domains ds vs ≡ true → (k d v : ℕ) → slice_get ds k ≡ Some d → slice_get vs k ≡ Some v → v < size_of domains d
are_those domains [] [] fit k d v dt vt = absurd (none-some d dt)
are_those domains [] (u ∷ us) fit k d v dt vt = absurd (none-some d dt)
are_those domains (c ∷ ds) [] fit k d v dt vt = absurd (none-some v vt)
are_those domains (c ∷ ds) (u ∷ us) fit zero d v dt vt =
    rw (← same_Some c d dt, ← same_Some u v vt) (ltb-true u (size_of domains c) (and_parts (nat_lt u (size_of domains c)) (are_indexes domains ds us) fit).0)
are_those domains (c ∷ ds) (u ∷ us) fit (suc k) d v dt vt = are_those domains ds us (and_parts (nat_lt u (size_of domains c)) (are_indexes domains ds us) fit).1 k d v dt vt

those_are : (domains : List Domain) (ds vs : List ℕ) → length vs ≡ length ds → ((k d v : ℕ) → slice_get ds k ≡ Some d → slice_get vs k ≡ Some v → v < size_of domains d) →
    are_indexes domains ds vs ≡ true
those_are domains [] [] same each = refl
those_are domains [] (u ∷ us) same each = absurd (omega arith)
those_are domains (c ∷ ds) [] same each = absurd (omega arith)
those_are domains (c ∷ ds) (u ∷ us) same each =
    and_from (nat_lt u (size_of domains c)) (are_indexes domains ds us) (lt-ltb u (size_of domains c) (each 0 c u refl refl))
    (those_are domains ds us (omega arith) (λ k d v dt vt. each (suc k) d v dt vt))

tuple_fits : (domains : List Domain) (ds : List ℕ) (n : ℕ) (vs : List ℕ) → slice_get (tuples domains ds) n ≡ Some vs → are_indexes domains ds vs ≡ true
unfolding longer
tuple_fits domains [] zero vs at = ap (are_indexes domains []) (sym (same_Some [] vs at))
tuple_fits domains [] (suc n) vs at = absurd (none-some vs at)
tuple_fits domains (d ∷ ds) n vs at =
    let flat = get_flat (λ v. map (longer v) (tuples domains ds)) (range_with_len 0 (size_of domains d)) n vs at in
    let v = flat.1 in
    let rest = map_some (longer v) (slice_get (tuples domains ds) flat.2) vs (sym (slice_get-map (longer v) (tuples domains ds) flat.2) ∙ flat.4) in
    let place = at_range 0 (size_of domains d) flat.0 v flat.3 in
    ap (are_indexes domains (d ∷ ds)) (sym rest.2)
    ∙ and_from (nat_lt v (size_of domains d)) (are_indexes domains ds rest.0) (lt-ltb v (size_of domains d) (omega (arith, place.0, place.1))) (tuple_fits domains ds flat.2 rest.0 rest.1)

pub stands_law : (w : World) (c : Cell) →
    ((n : ℕ) × (slice_get (cells_of w) n ≡ Some c)) ↔ ((item : Item) × (slice_get w.items c.item ≡ Some item) × MayHave w item c.args × (c.instant < w.instants))
stands_law w c = (
  λ h. let r = cell_row w h.0 c h.1 in
      let item = row_item w r.0 (row c.item c.args) r.1 in
      let fit = tuple_fits w.domains item.0.args item.2.0 c.args item.2.1 in
      (item.0, item.1, record { as_many = sym (same_lengths w.domains item.0.args c.args fit); each = are_those w.domains item.0.args c.args fit }, r.2),
  λ h. let fit = those_are w.domains h.0.args c.args h.2.as_many h.2.each in
      (_, cell_is w c.item h.0 (tuple_number w.domains h.0.args c.args) c.args c.instant h.1 (number_stands w.domains h.0.args c.args fit) h.3),
)
