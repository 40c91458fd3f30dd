-- Every node of a shape that fits is fit for a core.
use Rattle.std.proofs.Common.{◌≡◌, ℕ, ◌+◌, ◌<◌, ◌≤◌, Bool, true, false, ◌&&◌, nat_lt, nat_le, List, [], ◌∷◌, ◌++◌, length, slice_get, slice_index_or, Some, refl, sym, ap, ◌∙◌, arith}
use Rattle.std.specs.List.{list_all, enumerate_from}
use Rattle.std.specs.Ordering.{int_eq}
use Rattle.std.proofs.lemmas.Bool.{and_from, lt-ltb, le-leb}
use Rattle.std.proofs.lemmas.Bool.Decides.{Decides-int_eq}
use Rattle.std.proofs.lemmas.List.{length-append, length_push}
use Rattle.std.proofs.lemmas.List.Folds.{list_all-append}
use Rattle.std.proofs.lemmas.Option.{get_or_from_slice_get}
use Rattle.trio_types.specs.World.{World}
use Rattle.trio_types.specs.WellFormed.{is_written}
use Rattle.trio_types.proofs.Lists.{get_left, get_right}
use Rattle.trio_core.specs.declared.nodes.Node.{Node}
use Rattle.trio_core.specs.declared.nodes.Node.TheVariants as node
use Rattle.trio_core.specs.declared.nodes.TheConstants.{MOST_ROUND}
use Rattle.trio_core.specs.CoreShape.{Ranges, same_ranges, parts_of_node, ranges_inside, term_fits, content_fits}
use Rattle.derived_ops.specs.Shape.{Shape, atom, no, both, either, exists, dist, equal, before_last, equal_nodes, nodes_of}
use Rattle.derived_ops.proofs.Told.{length-nodes_of}
use Rattle.derived_ops.proofs.Rounds.{rounds_of, length-rounds_of}

-- the terms and ends of a shape, where these ranges stand round it
abbrev pub ShapeFits : World → Shape → Ranges → Type 0
ShapeFits w (atom r x y) rs = (term_fits w rs true x ≡ true) × (term_fits w rs true y ≡ true) × (length rs ≤ 200)
ShapeFits w (no s) rs = ShapeFits w s rs
ShapeFits w (both s u) rs = ShapeFits w s rs × ShapeFits w u rs
ShapeFits w (either s u) rs = ShapeFits w s rs × ShapeFits w u rs
ShapeFits w (exists low high s) rs = (is_written low ≡ true) × (is_written high ≡ true) × ShapeFits w s (rs ++ record { low = low; high = high } ∷ [])
ShapeFits w (dist s x) rs = ShapeFits w s rs × (term_fits w rs false x ≡ true)
ShapeFits w (equal s u) rs = ShapeFits w s rs × ShapeFits w u rs

-- few ranges stand round it
few_ranges : (w : World) (s : Shape) (rs : Ranges) → ShapeFits w s rs → length rs ≤ 200
few_ranges w (atom r x y) rs fits = fits.2
few_ranges w (no s) rs fits = few_ranges w s rs fits
few_ranges w (both s u) rs fits = few_ranges w s rs fits.0
few_ranges w (either s u) rs fits = few_ranges w s rs fits.0
few_ranges w (exists low high s) rs fits =
    omega (arith, few_ranges w s (rs ++ record { low = low; high = high } ∷ []) fits.2, length_push rs (record { low = low; high = high }))
few_ranges w (dist s x) rs fits = few_ranges w s rs fits.0
few_ranges w (equal s u) rs fits = few_ranges w s rs fits.0

-- whether a node is fit for a core in which these ranges stand round the nodes
abbrev parts_by : List Ranges → ℕ → Node → Bool
parts_by rounds a n = list_all (λ p. nat_lt p a && same_ranges (slice_index_or rounds p []) (ranges_inside n (slice_index_or rounds a []))) (parts_of_node n)

abbrev pub fits_by : World → List Ranges → ℕ → Node → Bool
fits_by w rounds a n =
    parts_by rounds a n && (content_fits w (slice_index_or rounds a []) n && nat_le (length (slice_index_or rounds a [])) MOST_ROUND)

-- ranges that stand in a list of all from a place on
pub record Placed (rounds : List Ranges) (n : ℕ) (xs : List Ranges) : Type 0 where
  pub at : (k : ℕ) (x : Ranges) → slice_get xs k ≡ Some x → slice_get rounds (n + k) ≡ Some x

pub placed_left : (rounds : List Ranges) (n : ℕ) (xs ys : List Ranges) → Placed rounds n (xs ++ ys) → Placed rounds n xs
placed_left rounds n xs ys placed = record { at = λ k x is. placed.at k x (get_left xs ys k x is) }

pub placed_right : (rounds : List Ranges) (n m : ℕ) (xs ys : List Ranges) → m ≡ n + length xs → Placed rounds n (xs ++ ys) → Placed rounds m ys
placed_right rounds n m xs ys is placed = record {
  at = λ k x there. let same : m + k ≡ n + (length xs + k) = omega (arith, is) in ap (slice_get rounds) same ∙ placed.at (length xs + k) x (get_right xs ys k ∙ there);
}

first_placed : (rounds : List Ranges) (n : ℕ) (x : Ranges) (xs : List Ranges) → Placed rounds n (x ∷ xs) → slice_index_or rounds n [] ≡ x
first_placed rounds n x xs placed =
    let same : n ≡ n + 0 = omega arith in get_or_from_slice_get rounds n x [] (ap (slice_get rounds) same ∙ placed.at 0 x refl)

-- the ranges round the last node
pub last_placed : (rounds : List Ranges) (s : Shape) (n : ℕ) (rs : Ranges) → Placed rounds n (rounds_of s rs) → slice_index_or rounds (n + before_last s) [] ≡ rs
last_placed rounds (atom r x y) n rs placed = let same : n + 0 ≡ n = omega arith in ap (λ a. slice_index_or rounds a []) same ∙ first_placed rounds n rs [] placed
last_placed rounds (no s) n rs placed =
    first_placed rounds (n + (before_last s + 1)) rs [] (placed_right rounds n (n + (before_last s + 1)) (rounds_of s rs) (rs ∷ []) (omega (arith, length-rounds_of s rs)) placed)
last_placed rounds (dist s x) n rs placed =
    first_placed rounds (n + (before_last s + 1)) rs [] (placed_right rounds n (n + (before_last s + 1)) (rounds_of s rs) (rs ∷ []) (omega (arith, length-rounds_of s rs)) placed)
last_placed rounds (exists low high s) n rs placed =
    let inside : Ranges = rs ++ record { low = low; high = high } ∷ [] in
    first_placed rounds (n + (before_last s + 1)) rs []
    (placed_right rounds n (n + (before_last s + 1)) (rounds_of s inside) (rs ∷ []) (omega (arith, length-rounds_of s inside)) placed)
last_placed rounds (both s u) n rs placed =
    first_placed rounds (n + (before_last s + 1 + before_last u + 1)) rs []
    (placed_right rounds n (n + (before_last s + 1 + before_last u + 1)) (rounds_of s rs ++ rounds_of u rs) (rs ∷ [])
    (omega (arith, length-append (rounds_of s rs) (rounds_of u rs), length-rounds_of s rs, length-rounds_of u rs)) placed)
last_placed rounds (either s u) n rs placed =
    first_placed rounds (n + (before_last s + 1 + before_last u + 1)) rs []
    (placed_right rounds n (n + (before_last s + 1 + before_last u + 1)) (rounds_of s rs ++ rounds_of u rs) (rs ∷ [])
    (omega (arith, length-append (rounds_of s rs) (rounds_of u rs), length-rounds_of s rs, length-rounds_of u rs)) placed)
last_placed rounds (equal s u) n rs placed =
    let five = rs ∷ rs ∷ rs ∷ rs ∷ rs ∷ [] in
    let m = n + (before_last s + 1 + before_last u + 1) in
    let behind = placed_right rounds n m (rounds_of s rs ++ rounds_of u rs) five
    (omega (arith, length-append (rounds_of s rs) (rounds_of u rs), length-rounds_of s rs, length-rounds_of u rs)) placed in
    let same : n + (before_last s + 1 + before_last u + 5) ≡ m + 4 = omega arith in
    get_or_from_slice_get rounds (n + (before_last s + 1 + before_last u + 5)) rs [] (ap (slice_get rounds) same ∙ behind.at 4 rs refl)

-- a list of ranges is the same as itself
same_itself : (rs : Ranges) → same_ranges rs rs ≡ true
same_itself [] = refl
same_itself (r ∷ rs) =
    and_from (int_eq r.low r.low && int_eq r.high r.high) (same_ranges rs rs)
    (and_from (int_eq r.low r.low) (int_eq r.high r.high) ((Decides-int_eq r.low r.low).1 refl) ((Decides-int_eq r.high r.high).1 refl)) (same_itself rs)

part_fits : (rounds : List Ranges) (p a : ℕ) (qs rs : Ranges) → p < a → slice_index_or rounds p [] ≡ qs → rs ≡ qs →
    (nat_lt p a && same_ranges (slice_index_or rounds p []) rs) ≡ true
part_fits rounds p a qs rs less is same =
    and_from (nat_lt p a) (same_ranges (slice_index_or rounds p []) rs) (lt-ltb p a less)
    (ap (λ x. same_ranges x rs) is ∙ ap (same_ranges qs) same ∙ same_itself qs)

-- nodes with no part, one, and two
made_fit : (w : World) (rounds : List Ranges) (a : ℕ) (n : Node) (rs : Ranges) → slice_index_or rounds a [] ≡ rs → parts_by rounds a n ≡ true → content_fits w rs n ≡ true → length rs ≤ 200 →
    fits_by w rounds a n ≡ true
made_fit w rounds a n rs own parts content few =
    and_from (parts_by rounds a n) (content_fits w (slice_index_or rounds a []) n && nat_le (length (slice_index_or rounds a [])) MOST_ROUND) parts
    (and_from (content_fits w (slice_index_or rounds a []) n) (nat_le (length (slice_index_or rounds a [])) MOST_ROUND)
    (ap (λ rs. content_fits w rs n) own ∙ content) (ap (λ rs. nat_le (length rs) MOST_ROUND) own ∙ le-leb (length rs) MOST_ROUND few))

-- the numbers of nodes in a row
numbered : {X : Type 0} (n : ℕ) (xs ys : List X) → enumerate_from n (xs ++ ys) ≡ enumerate_from n xs ++ enumerate_from (n + length xs) ys
numbered n [] ys = let same : n ≡ n + 0 = omega arith in ap (λ n. enumerate_from n ys) same
numbered n (x ∷ xs) ys =
    let same : n + 1 + length xs ≡ n + length (x ∷ xs) = omega arith in
    ap (λ es. (n, x) ∷ es) (numbered (n + 1) xs ys ∙ ap (λ m. enumerate_from (n + 1) xs ++ enumerate_from m ys) same)

abbrev pub AllFit : World → List Ranges → ℕ → List Node → Type 0
AllFit w rounds n ns = list_all (λ (p : ℕ × Node). fits_by w rounds p.0 p.1) (enumerate_from n ns) ≡ true

pub both_fit : (w : World) (rounds : List Ranges) (n m : ℕ) (xs ys : List Node) → m ≡ n + length xs → AllFit w rounds n xs → AllFit w rounds m ys → AllFit w rounds n (xs ++ ys)
both_fit w rounds n m xs ys is first rest =
    let test = λ (p : ℕ × Node). fits_by w rounds p.0 p.1 in
    ap (list_all test) (numbered n xs ys) ∙ list_all-append test (enumerate_from n xs) (enumerate_from (n + length xs) ys)
    ∙ and_from (list_all test (enumerate_from n xs)) (list_all test (enumerate_from (n + length xs) ys)) first (ap (λ m. list_all test (enumerate_from m ys)) (sym is) ∙ rest)

one_fit : (w : World) (rounds : List Ranges) (a : ℕ) (n : Node) → fits_by w rounds a n ≡ true → AllFit w rounds a (n ∷ [])
one_fit w rounds a n fits = and_from (fits_by w rounds a n) true fits refl

more_fit : (w : World) (rounds : List Ranges) (a : ℕ) (n : Node) (ns : List Node) → fits_by w rounds a n ≡ true → AllFit w rounds (a + 1) ns → AllFit w rounds a (n ∷ ns)
more_fit w rounds a n ns fits rest = and_from (fits_by w rounds a n) (list_all (λ (p : ℕ × Node). fits_by w rounds p.0 p.1) (enumerate_from (a + 1) ns)) fits rest

-- behind one part
behind_one : (w : World) (rounds : List Ranges) (s : Shape) (x : ℕ → Node) (n : ℕ) (inside rs : Ranges) → ((a : ℕ) → parts_of_node (x a) ≡ a ∷ []) →
    ((a : ℕ) → ranges_inside (x a) rs ≡ inside) → Placed rounds n (rounds_of s inside ++ rs ∷ []) → ((a : ℕ) → content_fits w rs (x a) ≡ true) → length rs ≤ 200 →
    AllFit w rounds n (nodes_of s n) → AllFit w rounds n (nodes_of s n ++ x (n + before_last s) ∷ [])
behind_one w rounds s x n inside rs parts within placed content few all =
    let a = n + before_last s in
    let own = first_placed rounds (a + 1) rs [] (placed_right rounds n (a + 1) (rounds_of s inside) (rs ∷ []) (omega (arith, length-rounds_of s inside)) placed) in
    let part = last_placed rounds s n inside (placed_left rounds n (rounds_of s inside) (rs ∷ []) placed) in
    both_fit w rounds n (a + 1) (nodes_of s n) (x a ∷ []) (omega (arith, length-nodes_of s n)) all
    (one_fit w rounds (a + 1) (x a)
    (made_fit w rounds (a + 1) (x a) rs own
    (ap (list_all (λ p. nat_lt p (a + 1) && same_ranges (slice_index_or rounds p []) (ranges_inside (x a) (slice_index_or rounds (a + 1) [])))) (parts a)
    ∙ and_from (nat_lt a (a + 1) && same_ranges (slice_index_or rounds a []) (ranges_inside (x a) (slice_index_or rounds (a + 1) []))) true
    (part_fits rounds a (a + 1) inside (ranges_inside (x a) (slice_index_or rounds (a + 1) [])) (omega arith) part (ap (ranges_inside (x a)) own ∙ within a)) refl)
    (content a) few))

-- the parts of a node with two
two_parts : (rounds : List Ranges) (n : Node) (a b at : ℕ) (rs : Ranges) → parts_of_node n ≡ a ∷ b ∷ [] → ((rs : Ranges) → ranges_inside n rs ≡ rs) → a < at → b < at →
    slice_index_or rounds at [] ≡ rs → slice_index_or rounds a [] ≡ rs → slice_index_or rounds b [] ≡ rs → parts_by rounds at n ≡ true
two_parts rounds n a b at rs parts within less_a less_b own is_a is_b =
    let test = λ (p : ℕ). nat_lt p at && same_ranges (slice_index_or rounds p []) (ranges_inside n (slice_index_or rounds at [])) in
    let inside = within (slice_index_or rounds at []) ∙ own in
    ap (list_all test) parts
    ∙ and_from (test a) (test b && true) (part_fits rounds a at rs (ranges_inside n (slice_index_or rounds at [])) less_a is_a inside)
    (and_from (test b) true (part_fits rounds b at rs (ranges_inside n (slice_index_or rounds at [])) less_b is_b inside) refl)

one_part : (rounds : List Ranges) (n : Node) (a at : ℕ) (rs : Ranges) → parts_of_node n ≡ a ∷ [] → ((rs : Ranges) → ranges_inside n rs ≡ rs) → a < at →
    slice_index_or rounds at [] ≡ rs → slice_index_or rounds a [] ≡ rs → parts_by rounds at n ≡ true
one_part rounds n a at rs parts within less own is_a =
    let test = λ (p : ℕ). nat_lt p at && same_ranges (slice_index_or rounds p []) (ranges_inside n (slice_index_or rounds at [])) in
    ap (list_all test) parts
    ∙ and_from (test a) true (part_fits rounds a at rs (ranges_inside n (slice_index_or rounds at [])) less is_a (within (slice_index_or rounds at []) ∙ own)) refl

-- behind two parts
behind_two : (w : World) (rounds : List Ranges) (s u : Shape) (x : Node) (n : ℕ) (rs : Ranges) → parts_of_node x ≡ (n + before_last s) ∷ (n + before_last s + 1 + before_last u) ∷ [] →
    ((rs : Ranges) → ranges_inside x rs ≡ rs) → Placed rounds n (rounds_of s rs ++ rounds_of u rs ++ rs ∷ []) → content_fits w rs x ≡ true → length rs ≤ 200 →
    AllFit w rounds n (nodes_of s n) → AllFit w rounds (n + before_last s + 1) (nodes_of u (n + before_last s + 1)) →
    AllFit w rounds n (nodes_of s n ++ nodes_of u (n + before_last s + 1) ++ x ∷ [])
behind_two w rounds s u x n rs parts within placed content few first second =
    let a = n + before_last s in
    let m = a + 1 in
    let b = m + before_last u in
    let front = placed_left rounds n (rounds_of s rs ++ rounds_of u rs) (rs ∷ []) placed in
    let own = first_placed rounds (b + 1) rs [] (placed_right rounds n (b + 1) (rounds_of s rs ++ rounds_of u rs) (rs ∷ [])
    (omega (arith, length-append (rounds_of s rs) (rounds_of u rs), length-rounds_of s rs, length-rounds_of u rs)) placed) in
    let left = last_placed rounds s n rs (placed_left rounds n (rounds_of s rs) (rounds_of u rs) front) in
    let right = last_placed rounds u m rs (placed_right rounds n m (rounds_of s rs) (rounds_of u rs) (omega (arith, length-rounds_of s rs)) front) in
    both_fit w rounds n (b + 1) (nodes_of s n ++ nodes_of u m) (x ∷ []) (omega (arith, length-append (nodes_of s n) (nodes_of u m), length-nodes_of s n, length-nodes_of u m))
    (both_fit w rounds n m (nodes_of s n) (nodes_of u m) (omega (arith, length-nodes_of s n)) first second)
    (one_fit w rounds (b + 1) x (made_fit w rounds (b + 1) x rs own (two_parts rounds x a b (b + 1) rs parts within (omega arith) (omega arith) own left right) content few))

-- the five nodes of an equivalence
five_fit : (w : World) (rounds : List Ranges) (a b : ℕ) (rs : Ranges) → a < b → length rs ≤ 200 → slice_index_or rounds a [] ≡ rs → slice_index_or rounds b [] ≡ rs →
    Placed rounds (b + 1) (rs ∷ rs ∷ rs ∷ rs ∷ rs ∷ []) → AllFit w rounds (b + 1) (equal_nodes a b)
five_fit w rounds a b rs less few left right placed =
    let at1 = own 0 (b + 1) refl (omega arith) in
    let at2 = own 1 (b + 2) refl (omega arith) in
    let at3 = own 2 (b + 3) refl (omega arith) in
    let at4 = own 3 (b + 4) refl (omega arith) in
    let at5 = own 4 (b + 5) refl (omega arith) in
    let f1 = made_fit w rounds (b + 1) (node.And a b) rs at1 (two_parts rounds (node.And a b) a b (b + 1) rs refl (λ rs. refl) (omega arith) (omega arith) at1 left right) refl few in
    let f2 = made_fit w rounds (b + 2) (node.Not a) rs at2 (one_part rounds (node.Not a) a (b + 2) rs refl (λ rs. refl) (omega arith) at2 left) refl few in
    let f3 = made_fit w rounds (b + 3) (node.Not b) rs at3 (one_part rounds (node.Not b) b (b + 3) rs refl (λ rs. refl) (omega arith) at3 right) refl few in
    let f4 = made_fit w rounds (b + 4) (node.And (b + 2) (b + 3)) rs at4
    (two_parts rounds (node.And (b + 2) (b + 3)) (b + 2) (b + 3) (b + 4) rs refl (λ rs. refl) (omega arith) (omega arith) at4 at2 at3) refl few in
    let f5 = made_fit w rounds (b + 5) (node.Or (b + 1) (b + 4)) rs at5
    (two_parts rounds (node.Or (b + 1) (b + 4)) (b + 1) (b + 4) (b + 5) rs refl (λ rs. refl) (omega arith) (omega arith) at5 at1 at4) refl few in
    more_fit w rounds (b + 1) (node.And a b) (node.Not a ∷ node.Not b ∷ node.And (b + 2) (b + 3) ∷ node.Or (b + 1) (b + 4) ∷ []) f1
    (from (b + 2) (b + 1 + 1) (omega arith) (node.Not a ∷ node.Not b ∷ node.And (b + 2) (b + 3) ∷ node.Or (b + 1) (b + 4) ∷ [])
    (more_fit w rounds (b + 2) (node.Not a) (node.Not b ∷ node.And (b + 2) (b + 3) ∷ node.Or (b + 1) (b + 4) ∷ []) f2
    (from (b + 3) (b + 2 + 1) (omega arith) (node.Not b ∷ node.And (b + 2) (b + 3) ∷ node.Or (b + 1) (b + 4) ∷ [])
    (more_fit w rounds (b + 3) (node.Not b) (node.And (b + 2) (b + 3) ∷ node.Or (b + 1) (b + 4) ∷ []) f3
    (from (b + 4) (b + 3 + 1) (omega arith) (node.And (b + 2) (b + 3) ∷ node.Or (b + 1) (b + 4) ∷ [])
    (more_fit w rounds (b + 4) (node.And (b + 2) (b + 3)) (node.Or (b + 1) (b + 4) ∷ []) f4
    (from (b + 5) (b + 4 + 1) (omega arith) (node.Or (b + 1) (b + 4) ∷ []) (one_fit w rounds (b + 5) (node.Or (b + 1) (b + 4)) f5))))))))
  where
    own : (k at : ℕ) → slice_get (rs ∷ rs ∷ rs ∷ rs ∷ rs ∷ []) k ≡ Some rs → at ≡ b + 1 + k → slice_index_or rounds at [] ≡ rs
    own k at is same = get_or_from_slice_get rounds at rs [] (ap (slice_get rounds) same ∙ placed.at k rs is)

    from : (n m : ℕ) → n ≡ m → (ns : List Node) → AllFit w rounds n ns → AllFit w rounds m ns
    from n m is ns all = ap (λ n. list_all (λ (p : ℕ × Node). fits_by w rounds p.0 p.1) (enumerate_from n ns)) (sym is) ∙ all

-- each node of a shape
pub all_fit : (w : World) (rounds : List Ranges) (s : Shape) (n : ℕ) (rs : Ranges) → Placed rounds n (rounds_of s rs) → ShapeFits w s rs → AllFit w rounds n (nodes_of s n)
all_fit w rounds (atom r x y) n rs placed fits =
    one_fit w rounds n (node.Atom r x y)
    (made_fit w rounds n (node.Atom r x y) rs (first_placed rounds n rs [] placed) refl (and_from (term_fits w rs true x) (term_fits w rs true y) fits.0 fits.1) fits.2)
all_fit w rounds (no s) n rs placed fits =
    behind_one w rounds s node.Not n rs rs (λ a. refl) (λ a. refl) placed (λ a. refl) (few_ranges w s rs fits)
    (all_fit w rounds s n rs (placed_left rounds n (rounds_of s rs) (rs ∷ []) placed) fits)
all_fit w rounds (dist s x) n rs placed fits =
    behind_one w rounds s (λ a. node.Dist a x) n rs rs (λ a. refl) (λ a. refl) placed (λ a. fits.1) (few_ranges w s rs fits.0)
    (all_fit w rounds s n rs (placed_left rounds n (rounds_of s rs) (rs ∷ []) placed) fits.0)
all_fit w rounds (exists low high s) n rs placed fits =
    let inside : Ranges = rs ++ record { low = low; high = high } ∷ [] in
    behind_one w rounds s (node.Exists low high) n inside rs (λ a. refl) (λ a. refl) placed (λ a. and_from (is_written low) (is_written high) fits.0 fits.1)
    (few_ranges w (exists low high s) rs fits)
    (all_fit w rounds s n inside (placed_left rounds n (rounds_of s inside) (rs ∷ []) placed) fits.2)
all_fit w rounds (both s u) n rs placed fits =
    let m = n + before_last s + 1 in
    let front = placed_left rounds n (rounds_of s rs ++ rounds_of u rs) (rs ∷ []) placed in
    behind_two w rounds s u (node.And (n + before_last s) (m + before_last u)) n rs refl (λ rs. refl) placed refl (few_ranges w s rs fits.0)
    (all_fit w rounds s n rs (placed_left rounds n (rounds_of s rs) (rounds_of u rs) front) fits.0)
    (all_fit w rounds u m rs (placed_right rounds n m (rounds_of s rs) (rounds_of u rs) (omega (arith, length-rounds_of s rs)) front) fits.1)
all_fit w rounds (either s u) n rs placed fits =
    let m = n + before_last s + 1 in
    let front = placed_left rounds n (rounds_of s rs ++ rounds_of u rs) (rs ∷ []) placed in
    behind_two w rounds s u (node.Or (n + before_last s) (m + before_last u)) n rs refl (λ rs. refl) placed refl (few_ranges w s rs fits.0)
    (all_fit w rounds s n rs (placed_left rounds n (rounds_of s rs) (rounds_of u rs) front) fits.0)
    (all_fit w rounds u m rs (placed_right rounds n m (rounds_of s rs) (rounds_of u rs) (omega (arith, length-rounds_of s rs)) front) fits.1)
all_fit w rounds (equal s u) n rs placed fits =
    let a = n + before_last s in
    let m = a + 1 in
    let b = m + before_last u in
    let five = rs ∷ rs ∷ rs ∷ rs ∷ rs ∷ [] in
    let front = placed_left rounds n (rounds_of s rs ++ rounds_of u rs) five placed in
    let left = placed_left rounds n (rounds_of s rs) (rounds_of u rs) front in
    let right = placed_right rounds n m (rounds_of s rs) (rounds_of u rs) (omega (arith, length-rounds_of s rs)) front in
    let behind = placed_right rounds n (b + 1) (rounds_of s rs ++ rounds_of u rs) five
    (omega (arith, length-append (rounds_of s rs) (rounds_of u rs), length-rounds_of s rs, length-rounds_of u rs)) placed in
    both_fit w rounds n (b + 1) (nodes_of s n ++ nodes_of u m) (equal_nodes a b) (omega (arith, length-append (nodes_of s n) (nodes_of u m), length-nodes_of s n, length-nodes_of u m))
    (both_fit w rounds n m (nodes_of s n) (nodes_of u m) (omega (arith, length-nodes_of s n)) (all_fit w rounds s n rs left fits.0) (all_fit w rounds u m rs right fits.1))
    (five_fit w rounds a b rs (omega arith) (few_ranges w s rs fits.0) (last_placed rounds s n rs left) (last_placed rounds u m rs right) behind)
