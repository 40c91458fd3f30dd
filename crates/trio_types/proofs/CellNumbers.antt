-- The numbers of tuples, rows and cells.
use Rattle.std.proofs.Common.{◌≡◌, ℕ, zero, suc, ◌+◌, ◌*◌, ◌/◌, ◌%◌, ◌<◌, ◌≤◌, Bool, true, nat_lt, List, [], ◌∷◌, ◌++◌, map, length, get_or, set, take, drop, Option, None, Some, slice_get, sum_by, refl, sym, ap, ◌∙◌, arith}
use Rattle.std.specs.List.{range_with_len, enumerate_from, flat_map, list_all}
use Rattle.std.specs.Option.{option_map}
use Rattle.std.proofs.Math.Nat.{suc-mul, add-mul, mul_assoc, mul_comm, mul-le-mul_left}
use Rattle.std.proofs.lemmas.Nat.{mod_below, div_below, div-add-mod', div-mul-add}
use Rattle.std.proofs.lemmas.Bool.{and_parts, ltb-true, lt-ltb}
use Rattle.std.proofs.lemmas.Option.{none-some, same_Some, slice_get-map, slice_get_within, get_or_from_slice_get, slice_get-get_or}
use Rattle.std.proofs.lemmas.List.{length-append, length-map, length-drop, drop_more, append_assoc, append-nil, take_more_set, drop_all}
use Rattle.std.proofs.lemmas.List.FromFn.{length-range_with_len}
use Rattle.std.proofs.lemmas.List.Sums.{sum_by-cons, sum_by-take-le, get_or-le-sum_by}
use Rattle.trio_types.specs.declared.spec.Domain.{Domain}
use Rattle.trio_types.specs.declared.spec.Item.{Item}
use Rattle.trio_types.specs.declared.spec.Which.TheVariants as which
use Rattle.trio_types.specs.World.{World, instants_of, values_in, size_of}
use Rattle.trio_types.specs.Cells.{Row, Cell, the_cell, tuples, are_indexes, item_takes, takes, rows_of_item, rows_of, cells_of_row, cells_of, cell_values, cell_size}
use Rattle.trio_types.specs.Parts.{Parts, world_of_parts}
use Rattle.trio_types.proofs.Lists.{each_of, all_from_each, get_within, get_front, get_left, get_right, get_flat, map_some}
use Rattle.trio_types.proofs.Domains.{size_at}
use Rattle.trio_types.proofs.Specs.{Formed, some_instant, some_value, within_limit, argument_domain}

-- lists of one length in a row
pub block_count : {X Y : Type 0} (f : X → List Y) (c : ℕ) → ((x : X) → length (f x) ≡ c) → (xs : List X) → length (flat_map f xs) ≡ length xs * c
block_count f c whole [] = omega arith
block_count f c whole (x ∷ xs) =
    let m : suc (length xs) * c ≡ length xs * c + c = suc-mul (length xs) c in
    omega (arith, length-append (f x) (flat_map f xs), whole x, block_count f c whole xs, m)

pub in_block : {X Y : Type 0} (f : X → List Y) (c : ℕ) → ((x : X) → length (f x) ≡ c) → (xs : List X) (r i : ℕ) (x : X) → slice_get xs r ≡ Some x → i < c →
    slice_get (flat_map f xs) (r * c + i) ≡ slice_get (f x) i
in_block f c whole [] r i x at inside = absurd (none-some x at)
in_block f c whole (y ∷ ys) zero i x at inside =
    let place : 0 * c + i ≡ i = omega arith in
    ap (slice_get (f y ++ flat_map f ys)) place ∙ get_front (f y) (flat_map f ys) i (omega (arith, whole y)) ∙ ap (λ z. slice_get (f z) i) (same_Some y x at)
in_block f c whole (y ∷ ys) (suc r) i x at inside =
    let m : suc r * c ≡ r * c + c = suc-mul r c in
    let place : suc r * c + i ≡ length (f y) + (r * c + i) = omega (arith, whole y, m) in
    ap (slice_get (f y ++ flat_map f ys)) place ∙ get_right (f y) (flat_map f ys) (r * c + i) ∙ in_block f c whole ys r i x at inside

pub range_at : (a n i : ℕ) → i < n → slice_get (range_with_len a n) i ≡ Some (a + i)
range_at a zero i inside = absurd (omega arith)
range_at a (suc n) zero inside = let e : a ≡ a + 0 = omega arith in ap Some e
range_at a (suc n) (suc i) inside = let e : a + 1 + i ≡ a + suc i = omega arith in range_at (a + 1) n i (omega arith) ∙ ap Some e

-- tuples
abbrev longer : ℕ → List ℕ → List ℕ
longer v vs = v ∷ vs

each_block : (domains : List Domain) (ds : List ℕ) (v : ℕ) → length (map (longer v) (tuples domains ds)) ≡ length (tuples domains ds)
each_block domains ds v = length-map (tuples domains ds) (longer v)

pub count-cons : (domains : List Domain) (d : ℕ) (ds : List ℕ) → length (tuples domains (d ∷ ds)) ≡ size_of domains d * length (tuples domains ds)
count-cons domains d ds =
    block_count (λ v. map (longer v) (tuples domains ds)) (length (tuples domains ds)) (each_block domains ds) (range_with_len 0 (size_of domains d))
    ∙ ap (λ n. n * length (tuples domains ds)) (length-range_with_len 0 (size_of domains d))

-- a tuple's number, its first argument counting most
abbrev pub tuple_number : List Domain → List ℕ → List ℕ → ℕ
tuple_number domains (d ∷ ds) (v ∷ vs) = v * length (tuples domains ds) + tuple_number domains ds vs
tuple_number domains ds vs = 0

pub tuple_at : (domains : List Domain) (d : ℕ) (ds : List ℕ) (v r : ℕ) (vs : List ℕ) → v < size_of domains d → slice_get (tuples domains ds) r ≡ Some vs →
    slice_get (tuples domains (d ∷ ds)) (v * length (tuples domains ds) + r) ≡ Some (v ∷ vs)
tuple_at domains d ds v r vs inside at =
    let from_zero : 0 + v ≡ v = omega arith in
    in_block (λ v. map (longer v) (tuples domains ds)) (length (tuples domains ds)) (each_block domains ds) (range_with_len 0 (size_of domains d)) v r v
    (range_at 0 (size_of domains d) v inside ∙ ap Some from_zero) (slice_get_within (tuples domains ds) r vs at)
    ∙ slice_get-map (longer v) (tuples domains ds) r ∙ ap (option_map (longer v)) at

pub number_stands : (domains : List Domain) (ds vs : List ℕ) → are_indexes domains ds vs ≡ true → slice_get (tuples domains ds) (tuple_number domains ds vs) ≡ Some vs
number_stands domains [] [] fit = refl
number_stands domains [] (v ∷ vs) fit = cc
number_stands domains (d ∷ ds) [] fit = cc
number_stands domains (d ∷ ds) (v ∷ vs) fit =
    let both = and_parts (nat_lt v (size_of domains d)) (are_indexes domains ds vs) fit in
    tuple_at domains d ds v (tuple_number domains ds vs) vs (ltb-true v (size_of domains d) both.0) (number_stands domains ds vs both.1)

-- the argument domains are there
abbrev pub are_named : List Domain → List ℕ → Bool
are_named domains ds = list_all (λ d. nat_lt d (length domains)) ds

pub some_size : (p : Parts) → Formed p → (d : ℕ) → d < length p.domains → 0 < size_of p.domains d
some_size p f d inside =
    let domain = get_within p.domains d inside in
    omega (arith, size_at p.domains d domain.0 domain.1, (some_value p f d domain.0 domain.1).0)

pub small_size : (p : Parts) → Formed p → (d : ℕ) → d < length p.domains → size_of p.domains d ≤ 64
small_size p f d inside =
    let domain = get_within p.domains d inside in
    omega (arith, size_at p.domains d domain.0 domain.1, (some_value p f d domain.0 domain.1).1)

pub some_tuple : (p : Parts) → Formed p → (ds : List ℕ) → are_named p.domains ds ≡ true → 0 < length (tuples p.domains ds)
some_tuple p f [] are = omega arith
some_tuple p f (d ∷ ds) are =
    let both = and_parts (nat_lt d (length p.domains)) (are_named p.domains ds) are in
    let size : 1 ≤ size_of p.domains d = some_size p f d (ltb-true d (length p.domains) both.0) in
    let less : length (tuples p.domains ds) * 1 ≤ length (tuples p.domains ds) * size_of p.domains d = mul-le-mul_left (length (tuples p.domains ds)) size in
    omega (arith, count-cons p.domains d ds, some_tuple p f ds both.1, less)

-- rows
abbrev pub rows_from : World → ℕ → List Item → List Row
rows_from w n items = flat_map (λ p. rows_of_item w p.0 p.1) (enumerate_from n items)

abbrev pub row : ℕ → List ℕ → Row
row item args = record { item = item; args = args }

abbrev pub tuples_of_item : List Domain → Item → ℕ
tuples_of_item domains item = length (tuples domains item.args)

each_row : (w : World) (n : ℕ) (item : Item) → length (rows_of_item w n item) ≡ tuples_of_item w.domains item
each_row w n item = length-map (tuples w.domains item.args) (row n)

pub row_count_from : (w : World) (n : ℕ) (items : List Item) → length (rows_from w n items) ≡ sum_by (tuples_of_item w.domains) items
row_count_from w n [] = refl
row_count_from w n (item ∷ items) =
    omega (arith, length-append (rows_of_item w n item) (rows_from w (n + 1) items), each_row w n item, row_count_from w (n + 1) items, sum_by-cons (tuples_of_item w.domains) item items)

pub row_count : (w : World) → length (rows_of w) ≡ sum_by (tuples_of_item w.domains) w.items
unfolding rows_of
row_count w = row_count_from w 0 w.items

row_at_from : (w : World) (n : ℕ) (items : List Item) (k : ℕ) (item : Item) (r : ℕ) (vs : List ℕ) → slice_get items k ≡ Some item →
    slice_get (tuples w.domains item.args) r ≡ Some vs → slice_get (rows_from w n items) (sum_by (tuples_of_item w.domains) (take k items) + r) ≡ Some (row (n + k) vs)
row_at_from w n [] k item r vs at is = absurd (none-some item at)
row_at_from w n (x ∷ xs) zero item r vs at is =
    let place : 0 + r ≡ r = omega arith in
    let number : n ≡ n + 0 = omega arith in
    ap (slice_get (rows_from w n (x ∷ xs))) place
    ∙ get_left (rows_of_item w n x) (rows_from w (n + 1) xs) r (row n vs)
    (slice_get-map (row n) (tuples w.domains x.args) r ∙ ap (λ o. option_map (row n) o) (ap (λ y. slice_get (tuples w.domains y.args) r) (same_Some x item at) ∙ is))
    ∙ ap (λ m. Some (row m vs)) number
row_at_from w n (x ∷ xs) (suc k) item r vs at is =
    let first = sum_by-cons (tuples_of_item w.domains) x (take k xs) in
    let place : sum_by (tuples_of_item w.domains) (take (suc k) (x ∷ xs)) + r ≡ length (rows_of_item w n x) + (sum_by (tuples_of_item w.domains) (take k xs) + r) =
    omega (arith, each_row w n x, first) in
    let number : n + 1 + k ≡ n + suc k = omega arith in
    ap (slice_get (rows_from w n (x ∷ xs))) place
    ∙ get_right (rows_of_item w n x) (rows_from w (n + 1) xs) (sum_by (tuples_of_item w.domains) (take k xs) + r)
    ∙ row_at_from w (n + 1) xs k item r vs at is
    ∙ ap (λ m. Some (row m vs)) number

-- the rows of the items before, and then the tuple's number
pub row_at : (w : World) (k : ℕ) (item : Item) (r : ℕ) (vs : List ℕ) → slice_get w.items k ≡ Some item → slice_get (tuples w.domains item.args) r ≡ Some vs →
    slice_get (rows_of w) (sum_by (tuples_of_item w.domains) (take k w.items) + r) ≡ Some (row k vs)
unfolding rows_of
row_at w k item r vs at is =
    let number : 0 + k ≡ k = omega arith in
    row_at_from w 0 w.items k item r vs at is ∙ ap (λ m. Some (row m vs)) number

-- cells
each_cells : (w : World) (r : Row) → length (cells_of_row w r) ≡ w.instants
unfolding instants_of
each_cells w r = length-map (instants_of w) (the_cell r.item r.args) ∙ length-range_with_len 0 w.instants

pub cell_count_is : (w : World) → length (cells_of w) ≡ length (rows_of w) * w.instants
unfolding cells_of
cell_count_is w = block_count (cells_of_row w) w.instants (each_cells w) (rows_of w)

pub cell_in_row : (w : World) (r : Row) (i : ℕ) → i < w.instants → slice_get (cells_of_row w r) i ≡ Some (the_cell r.item r.args i)
unfolding instants_of
cell_in_row w r i inside =
    let from_zero : 0 + i ≡ i = omega arith in
    slice_get-map (the_cell r.item r.args) (range_with_len 0 w.instants) i ∙ ap (option_map (the_cell r.item r.args)) (range_at 0 w.instants i inside)
    ∙ ap (λ j. Some (the_cell r.item r.args j)) from_zero

pub cell_at : (w : World) (n : ℕ) (r : Row) (i : ℕ) → slice_get (rows_of w) n ≡ Some r → i < w.instants → slice_get (cells_of w) (n * w.instants + i) ≡ Some (the_cell r.item r.args i)
unfolding cells_of
cell_at w n r i at inside = in_block (cells_of_row w) w.instants (each_cells w) (rows_of w) n i r at inside ∙ cell_in_row w r i inside

-- how many there may be
pub few_cells : (p : Parts) → Formed p → length (rows_of (world_of_parts p)) * p.instants ≤ 1024
few_cells p f = omega (arith, cell_count_is (world_of_parts p), within_limit p f which.Cells)

pub few_rows : (p : Parts) → Formed p → length (rows_of (world_of_parts p)) ≤ 1024
few_rows p f =
    let n : 1 ≤ p.instants = some_instant p f in
    let less : length (rows_of (world_of_parts p)) * 1 ≤ length (rows_of (world_of_parts p)) * p.instants = mul-le-mul_left (length (rows_of (world_of_parts p))) n in
    omega (arith, few_cells p f, less)

pub few_before : (p : Parts) → Formed p → (k : ℕ) → sum_by (tuples_of_item p.domains) (take k p.items) ≤ 1024
few_before p f k = omega (arith, sum_by-take-le (tuples_of_item p.domains) p.items k, row_count (world_of_parts p), few_rows p f)

pub few_tuples : (p : Parts) → Formed p → (k : ℕ) (item : Item) → slice_get p.items k ≡ Some item → length (tuples p.domains item.args) ≤ 1024
few_tuples p f k item at =
    let inside = slice_get_within p.items k item at in
    let part = get_or-le-sum_by (tuples_of_item p.domains) p.items k item inside in
    let same = ap (λ x. tuples_of_item p.domains x) (get_or_from_slice_get p.items k item item at) in
    omega (arith, part, same, row_count (world_of_parts p), few_rows p f)

pub args_named : (p : Parts) → Formed p → (k : ℕ) (item : Item) → slice_get p.items k ≡ Some item → are_named p.domains item.args ≡ true
args_named p f k item at =
    all_from_each (λ d. nat_lt d (length p.domains)) item.args
    (λ j d is. let domain = argument_domain p f k item at j d is in lt-ltb d (length p.domains) (slice_get_within p.domains d domain.0 domain.1))

pub takes_indexes : (w : World) (k : ℕ) (item : Item) (vs : List ℕ) → slice_get w.items k ≡ Some item → takes w k vs ≡ true → are_indexes w.domains item.args vs ≡ true
takes_indexes w k item vs at is = sym (ap (λ o. item_takes w o vs) at) ∙ is

-- domain by domain
pub count_more : (domains : List Domain) (ds : List ℕ) (k : ℕ) → k < length ds →
    length (tuples domains (drop k ds)) ≡ size_of domains (get_or ds k 0) * length (tuples domains (drop (k + 1) ds))
count_more domains ds k inside = ap (λ l. length (tuples domains l)) (drop_more ds k 0 inside) ∙ count-cons domains (get_or ds k 0) (drop (k + 1) ds)

pub small_factor : (m c n : ℕ) → 0 < c → m * c ≤ n → m ≤ n
small_factor m c n some most =
    let one : 1 ≤ c = some in
    let less : m * 1 ≤ m * c = mul-le-mul_left m one in
    omega (arith, less)

pub size_inside : (domains : List Domain) (ds : List ℕ) (k : ℕ) → are_named domains ds ≡ true → k < length ds → get_or ds k 0 < length domains
size_inside domains ds k are inside = ltb-true (get_or ds k 0) (length domains) (each_of (λ d. nat_lt d (length domains)) ds are k (get_or ds k 0) (slice_get-get_or ds k 0 inside))

-- argument by argument
pub same_lengths : (domains : List Domain) (ds vs : List ℕ) → are_indexes domains ds vs ≡ true → length ds ≡ length vs
same_lengths domains [] [] fit = refl
same_lengths domains [] (v ∷ vs) fit = cc
same_lengths domains (d ∷ ds) [] fit = cc
same_lengths domains (d ∷ ds) (v ∷ vs) fit = ap suc (same_lengths domains ds vs (and_parts (nat_lt v (size_of domains d)) (are_indexes domains ds vs) fit).1)

-- the argument at place k, with what is behind it
pub record Next (domains : List Domain) (ds vs : List ℕ) (k : ℕ) : Type 0 where
  pub below : get_or vs k 0 < size_of domains (get_or ds k 0)
  pub fit : are_indexes domains (drop (k + 1) ds) (drop (k + 1) vs) ≡ true
  pub number : tuple_number domains (drop k ds) (drop k vs)
      ≡ get_or vs k 0 * length (tuples domains (drop (k + 1) ds)) + tuple_number domains (drop (k + 1) ds) (drop (k + 1) vs)

pub next_argument : (domains : List Domain) (ds vs : List ℕ) (k : ℕ) → are_indexes domains (drop k ds) (drop k vs) ≡ true → k < length ds → Next domains ds vs k
next_argument domains ds vs k fit inside =
    let same = same_lengths domains (drop k ds) (drop k vs) fit in
    let too : k < length vs = omega (arith, same, length-drop k ds, length-drop k vs) in
    let d = drop_more ds k 0 inside in
    let v = drop_more vs k 0 too in
    let both = and_parts (nat_lt (get_or vs k 0) (size_of domains (get_or ds k 0))) (are_indexes domains (drop (k + 1) ds) (drop (k + 1) vs))
    (ap (are_indexes domains (get_or ds k 0 ∷ drop (k + 1) ds)) (sym v) ∙ ap (λ l. are_indexes domains l (drop k vs)) (sym d) ∙ fit) in
    record {
      below = ltb-true (get_or vs k 0) (size_of domains (get_or ds k 0)) both.0;
      fit = both.1;
      number = ap (λ l. tuple_number domains l (drop k vs)) d ∙ ap (tuple_number domains (get_or ds k 0 ∷ drop (k + 1) ds)) v;
    }

pub horner : (n size v c rest lk tk total : ℕ) → lk ≡ size * c → tk ≡ v * c + rest → n * lk + tk ≡ total → (n * size + v) * c + rest ≡ total
horner n size v c rest lk tk total l t whole =
    let e : (n * size + v) * c ≡ (n * size) * c + v * c = add-mul (n * size) v c in
    let a : (n * size) * c ≡ n * lk = mul_assoc n size c ∙ ap (λ m. n * m) (sym l) in
    omega (arith, e, a, t, whole)

-- the first argument of a tuple by its number, and the number of the rest
pub tuple_split : (domains : List Domain) (d : ℕ) (ds : List ℕ) (r : ℕ) → 0 < length (tuples domains ds) → r < length (tuples domains (d ∷ ds)) →
    slice_get (tuples domains (d ∷ ds)) r ≡ option_map (longer (r / length (tuples domains ds))) (slice_get (tuples domains ds) (r % length (tuples domains ds)))
tuple_split domains d ds r some inside =
    let c = length (tuples domains ds) in
    let below : r < size_of domains d * c = omega (arith, count-cons domains d ds) in
    let rest = get_within (tuples domains ds) (r % c) (mod_below r c some) in
    ap (slice_get (tuples domains (d ∷ ds))) (sym (div-add-mod' r c))
    ∙ tuple_at domains d ds (r / c) (r % c) rest.0 (div_below r c (size_of domains d) some below) rest.1
    ∙ ap (option_map (longer (r / c))) (sym rest.1)

-- a cell by its item, its tuple's number and its instant
pub cell_is : (w : World) (k : ℕ) (item : Item) (r : ℕ) (vs : List ℕ) (i : ℕ) → slice_get w.items k ≡ Some item → slice_get (tuples w.domains item.args) r ≡ Some vs → i < w.instants →
    slice_get (cells_of w) ((sum_by (tuples_of_item w.domains) (take k w.items) + r) * w.instants + i) ≡ Some (the_cell k vs i)
cell_is w k item r vs i at is inside =
    cell_at w (sum_by (tuples_of_item w.domains) (take k w.items) + r) (row k vs) i (row_at w k item r vs at is) inside

pub small_number : (p : Parts) → Formed p → (n : ℕ) (c : Cell) → slice_get (cells_of (world_of_parts p)) n ≡ Some c → n < 1024
small_number p f n c at = omega (arith, slice_get_within (cells_of (world_of_parts p)) n c at, within_limit p f which.Cells)

-- the number of tuples without the first domain
pub quotient : (p : Parts) → Formed p → (ds : List ℕ) (k count size : ℕ) → are_named p.domains ds ≡ true → k < length ds →
    count ≡ length (tuples p.domains (drop k ds)) → size ≡ size_of p.domains (get_or ds k 0) → count / size ≡ length (tuples p.domains (drop (k + 1) ds))
quotient p f ds k count size are inside is at =
    let c = length (tuples p.domains (drop (k + 1) ds)) in
    let some : 0 < size = omega (arith, at, some_size p f (get_or ds k 0) (size_inside p.domains ds k are inside)) in
    let product : count ≡ c * size + 0 = omega (arith, is, count_more p.domains ds k inside, ap (λ s. s * c) at, mul_comm c size) in
    ap (λ n. n / size) product ∙ div-mul-add c size 0 some

-- one more argument in front
pub one_more : (args : List ℕ) (k v : ℕ) (o : Option (List ℕ)) → k < length args →
    option_map (λ vs. take k args ++ vs) (option_map (longer v) o) ≡ option_map (λ vs. take (k + 1) (set args k v) ++ vs) o
one_more args k v None inside = refl
one_more args k v (Some vs) inside =
    ap Some (sym (append_assoc (take k args) (v ∷ []) vs) ∙ ap (λ l. l ++ vs) (sym (take_more_set args k v inside)))

-- what a tuple's number tells, argument by argument
abbrev pub Told : List Domain → List ℕ → ℕ → ℕ → List ℕ → ℕ → Type 0
Told domains ds number k args left =
    slice_get (tuples domains ds) number ≡ option_map (λ vs. take k args ++ vs) (slice_get (tuples domains (drop k ds)) left)

pub told_more : (domains : List Domain) (ds : List ℕ) (number k : ℕ) (args : List ℕ) (left c : ℕ) → k < length ds → k < length args →
    c ≡ length (tuples domains (drop (k + 1) ds)) → 0 < length (tuples domains (drop (k + 1) ds)) → left < length (tuples domains (drop k ds)) →
    Told domains ds number k args left → Told domains ds number (k + 1) (set args k (left / c)) (left % c)
told_more domains ds number k args left c inside room is some below told =
    let d = drop_more ds k 0 inside in
    let rest = drop (k + 1) ds in
    let below' : left < length (tuples domains (get_or ds k 0 ∷ rest)) = omega (arith, ap (λ l. length (tuples domains l)) d, below) in
    told
    ∙ ap (option_map (λ vs. take k args ++ vs))
    (ap (λ l. slice_get (tuples domains l) left) d ∙ tuple_split domains (get_or ds k 0) rest left some below'
    ∙ ap (λ m. option_map (longer (left / m)) (slice_get (tuples domains rest) (left % m))) (sym is))
    ∙ one_more args k (left / c) (slice_get (tuples domains rest) (left % c)) room

pub told_end : (domains : List Domain) (ds : List ℕ) (number k : ℕ) (args : List ℕ) (left : ℕ) → length ds ≤ k → left < length (tuples domains (drop k ds)) →
    Told domains ds number k args left → slice_get (tuples domains ds) number ≡ Some (take k args)
told_end domains ds number k args left past below told =
    let none = drop_all k ds past in
    let one = ap (λ l. length (tuples domains l)) none in
    let first : left ≡ 0 = omega (arith, one, below) in
    told ∙ ap (option_map (λ vs. take k args ++ vs)) (ap (λ l. slice_get (tuples domains l) left) none ∙ ap (slice_get ([] ∷ [])) first)
    ∙ ap Some (append-nil (take k args))

-- the item of a cell

enumerated : {X : Type 0} (a : ℕ) (xs : List X) (m : ℕ) (p : ℕ × X) → slice_get (enumerate_from a xs) m ≡ Some p → (p.0 ≡ a + m) × (slice_get xs m ≡ Some p.1)
enumerated a [] m p is = absurd (none-some p is)
enumerated a (x ∷ xs) zero p is =
    let same = same_Some (a, x) p is in
    let number : p.0 ≡ a + 0 = omega (arith, ap (λ q. q.0) same) in
    (number, ap (λ q. Some q.1) same)
enumerated a (x ∷ xs) (suc m) p is =
    let rest = enumerated (a + 1) xs m p is in
    let number : p.0 ≡ a + suc m = omega (arith, rest.0) in
    (number, rest.1)

pub row_item : (w : World) (n : ℕ) (r : Row) → slice_get (rows_of w) n ≡ Some r →
    (item : Item) × (slice_get w.items r.item ≡ Some item) × ((m : ℕ) × (slice_get (tuples w.domains item.args) m ≡ Some r.args))
unfolding rows_of
row_item w n r at =
    let flat = get_flat (λ p. rows_of_item w p.0 p.1) (enumerate_from 0 w.items) n r at in
    let p = flat.1 in
    let told = enumerated 0 w.items flat.0 p flat.3 in
    let tuple = map_some (row p.0) (slice_get (tuples w.domains p.1.args) flat.2) r (sym (slice_get-map (row p.0) (tuples w.domains p.1.args) flat.2) ∙ flat.4) in
    let same : r.item ≡ flat.0 = omega (arith, told.0, ap (λ (r : Row). r.item) tuple.2) in
    (p.1, ap (slice_get w.items) same ∙ told.1, (flat.2, tuple.1 ∙ ap (λ (r : Row). Some r.args) tuple.2))

pub cell_row : (w : World) (n : ℕ) (c : Cell) → slice_get (cells_of w) n ≡ Some c → (m : ℕ) × (slice_get (rows_of w) m ≡ Some (row c.item c.args)) × (c.instant < w.instants)
unfolding cells_of instants_of
cell_row w n c at =
    let flat = get_flat (cells_of_row w) (rows_of w) n c at in
    let r = flat.1 in
    let i = map_some (the_cell r.item r.args) (slice_get (instants_of w) flat.2) c (sym (slice_get-map (the_cell r.item r.args) (instants_of w) flat.2) ∙ flat.4) in
    let inside = in_range 0 w.instants flat.2 i.0 i.1 in
    (flat.0, flat.3 ∙ ap (λ (c : Cell). Some (row c.item c.args)) i.2, omega (arith, inside, ap (λ (c : Cell). c.instant) i.2))
  where
    in_range : (a n m x : ℕ) → slice_get (range_with_len a n) m ≡ Some x → x < a + n
    in_range a zero m x is = absurd (none-some x is)
    in_range a (suc n) zero x is = omega (arith, same_Some a x is)
    in_range a (suc n) (suc m) x is = omega (arith, in_range (a + 1) n m x is)

pub cell_item : (w : World) (n : ℕ) (c : Cell) → slice_get (cells_of w) n ≡ Some c → (item : Item) × (slice_get w.items c.item ≡ Some item)
cell_item w n c at =
    let r = cell_row w n c at in
    let item = row_item w r.0 (row c.item c.args) r.1 in
    (item.0, item.1)

pub values_from_item : (w : World) (c : Cell) (item : Item) → slice_get w.items c.item ≡ Some item → cell_values w c ≡ values_in w.domains item.value
values_from_item w c item at = rw at refl

pub size_from_item : (w : World) (c : Cell) (item : Item) → slice_get w.items c.item ≡ Some item → cell_size w c ≡ size_of w.domains item.value
size_from_item w c item at = ap length (values_from_item w c item at)
