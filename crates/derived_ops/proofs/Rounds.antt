-- The ranges round each node of a shape.
use Rattle.std.proofs.Common.{◌≡◌, ℕ, ◌+◌, ◌<◌, Bool, true, false, ◌||◌, ◌==◌, List, [], ◌∷◌, ◌++◌, length, refl, sym, ap, ◌∙◌, arith}
use Rattle.std.specs.List.{list_any}
use Rattle.std.proofs.lemmas.Bool.{cond-true, cond-false, eq-eqb, false_from_ne_true, eqb-true, or_left, or_right, or_parts}
use Rattle.std.proofs.lemmas.List.{append_assoc, length-append, length_push}
use Rattle.trio_types.specs.declared.spec.Axiom.{Axiom}
use Rattle.trio_types.specs.World.{World}
use Rattle.trio_core.specs.declared.nodes.Node.{Node}
use Rattle.trio_core.specs.declared.nodes.Node.TheVariants as node
use Rattle.trio_core.specs.CoreShape.{Ranges, ranges_inside, has_part, ranges_by_parent, ranges_from}
use Rattle.derived_ops.specs.Shape.{Shape, atom, no, both, either, exists, dist, equal, before_last, equal_nodes, nodes_of}
use Rattle.derived_ops.specs.Rewritten.{core_shape, nodes_of_axioms}
use Rattle.derived_ops.proofs.Told.{length-nodes_of}

-- those of a shape's nodes, where these stand round the shape
abbrev pub rounds_of : Shape → Ranges → List Ranges
rounds_of (atom r x y) rs = rs ∷ []
rounds_of (no s) rs = rounds_of s rs ++ rs ∷ []
rounds_of (both s u) rs = rounds_of s rs ++ rounds_of u rs ++ rs ∷ []
rounds_of (either s u) rs = rounds_of s rs ++ rounds_of u rs ++ rs ∷ []
rounds_of (exists low high s) rs = rounds_of s (rs ++ record { low = low; high = high } ∷ []) ++ rs ∷ []
rounds_of (dist s x) rs = rounds_of s rs ++ rs ∷ []
rounds_of (equal s u) rs = rounds_of s rs ++ rounds_of u rs ++ (rs ∷ rs ∷ rs ∷ rs ∷ rs ∷ [])

abbrev pub rounds_of_axioms : World → List Axiom → List Ranges
rounds_of_axioms w [] = []
rounds_of_axioms w (a ∷ axioms) = rounds_of (core_shape w a.formula) [] ++ rounds_of_axioms w axioms

pub length-rounds_of : (s : Shape) (rs : Ranges) → length (rounds_of s rs) ≡ before_last s + 1
length-rounds_of (atom r x y) rs = refl
length-rounds_of (no s) rs = omega (arith, length_push (rounds_of s rs) rs, length-rounds_of s rs)
length-rounds_of (dist s x) rs = omega (arith, length_push (rounds_of s rs) rs, length-rounds_of s rs)
length-rounds_of (exists low high s) rs =
    let inside : Ranges = rs ++ record { low = low; high = high } ∷ [] in
    omega (arith, length_push (rounds_of s inside) rs, length-rounds_of s inside)
length-rounds_of (both s u) rs =
    omega (arith, length_push (rounds_of s rs ++ rounds_of u rs) rs, length-append (rounds_of s rs) (rounds_of u rs), length-rounds_of s rs, length-rounds_of u rs)
length-rounds_of (either s u) rs =
    omega (arith, length_push (rounds_of s rs ++ rounds_of u rs) rs, length-append (rounds_of s rs) (rounds_of u rs), length-rounds_of s rs, length-rounds_of u rs)
length-rounds_of (equal s u) rs =
    omega (
      arith,
      length-append (rounds_of s rs ++ rounds_of u rs) (rs ∷ rs ∷ rs ∷ rs ∷ rs ∷ []),
      length-append (rounds_of s rs) (rounds_of u rs),
      length-rounds_of s rs,
      length-rounds_of u rs,
    )

-- the same number, and another
same_number : (a b : ℕ) → a ≡ b → (a == b) ≡ true
same_number a b is = eq-eqb a b is

other_number : (a b : ℕ) → (a ≡ b → ⊥) → (a == b) ≡ false
other_number a b ne = false_from_ne_true (a == b) (λ yes. ne (eqb-true a b yes))

one_part : (a x : ℕ) → x ≡ a → ((x == a) || false) ≡ true
one_part a x is = or_left (x == a) false (same_number x a is)

not_part : (a x : ℕ) → (x ≡ a → ⊥) → ((x == a) || false) ≡ false
not_part a x ne = rw (other_number x a ne) refl

first_part : (a x y : ℕ) → x ≡ a → ((x == a) || ((y == a) || false)) ≡ true
first_part a x y is = or_left (x == a) ((y == a) || false) (same_number x a is)

second_part : (a x y : ℕ) → y ≡ a → ((x == a) || ((y == a) || false)) ≡ true
second_part a x y is = or_right (x == a) ((y == a) || false) (one_part a y is)

neither_part : (a x y : ℕ) → (x ≡ a → ⊥) → (y ≡ a → ⊥) → ((x == a) || ((y == a) || false)) ≡ false
neither_part a x y nx ny = rw (other_number x a nx, other_number y a ny) refl

-- parts stand behind the first node of their shape
none_append : {X : Type 0} (p : X → Bool) (xs ys : List X) → list_any p xs ≡ false → list_any p ys ≡ false → list_any p (xs ++ ys) ≡ false
none_append p [] ys none more = more
none_append p (x ∷ xs) ys none more =
    let parts = or_parts (p x) (list_any p xs) none in
    rw (parts.0) (none_append p xs ys parts.1 more)

later_parts : (s : Shape) (n a : ℕ) → a < n → list_any (has_part a) (nodes_of s n) ≡ false
later_parts (atom r x y) n a less = refl
later_parts (no s) n a less =
    none_append (has_part a) (nodes_of s n) (node.Not (n + before_last s) ∷ []) (later_parts s n a less)
    (rw (not_part a (n + before_last s) (λ e. omega (arith, e))) refl)
later_parts (exists low high s) n a less =
    none_append (has_part a) (nodes_of s n) (node.Exists low high (n + before_last s) ∷ []) (later_parts s n a less)
    (rw (not_part a (n + before_last s) (λ e. omega (arith, e))) refl)
later_parts (dist s x) n a less =
    none_append (has_part a) (nodes_of s n) (node.Dist (n + before_last s) x ∷ []) (later_parts s n a less)
    (rw (not_part a (n + before_last s) (λ e. omega (arith, e))) refl)
later_parts (both s u) n a less =
    let m = n + before_last s + 1 in
    none_append (has_part a) (nodes_of s n ++ nodes_of u m) (node.And (n + before_last s) (m + before_last u) ∷ [])
    (none_append (has_part a) (nodes_of s n) (nodes_of u m) (later_parts s n a less) (later_parts u m a (omega arith)))
    (rw (neither_part a (n + before_last s) (m + before_last u) (λ e. omega (arith, e)) (λ e. omega (arith, e))) refl)
later_parts (either s u) n a less =
    let m = n + before_last s + 1 in
    none_append (has_part a) (nodes_of s n ++ nodes_of u m) (node.Or (n + before_last s) (m + before_last u) ∷ [])
    (none_append (has_part a) (nodes_of s n) (nodes_of u m) (later_parts s n a less) (later_parts u m a (omega arith)))
    (rw (neither_part a (n + before_last s) (m + before_last u) (λ e. omega (arith, e)) (λ e. omega (arith, e))) refl)
later_parts (equal s u) n a less =
    let m = n + before_last s + 1 in
    let x = n + before_last s in
    let y = m + before_last u in
    none_append (has_part a) (nodes_of s n ++ nodes_of u m) (equal_nodes x y)
    (none_append (has_part a) (nodes_of s n) (nodes_of u m) (later_parts s n a less) (later_parts u m a (omega arith)))
    (rw (
      neither_part a x y (λ e. omega (arith, e)) (λ e. omega (arith, e)),
      not_part a x (λ e. omega (arith, e)),
      not_part a y (λ e. omega (arith, e)),
      neither_part a (y + 2) (y + 3) (λ e. omega (arith, e)) (λ e. omega (arith, e)),
      neither_part a (y + 1) (y + 4) (λ e. omega (arith, e)) (λ e. omega (arith, e)),
    ) refl)

-- the first node that has a part
skip_one : (a : ℕ) (n : Node) (ns : List Node) (r : Ranges) (qs : List Ranges) → has_part a n ≡ false → ranges_by_parent a (n ∷ ns) (r ∷ qs) ≡ ranges_by_parent a ns qs
skip_one a n ns r qs other = cond-false (has_part a n) (ranges_inside n r) (ranges_by_parent a ns qs) other

take_one : (a : ℕ) (n : Node) (ns : List Node) (r : Ranges) (qs : List Ranges) → has_part a n ≡ true → ranges_by_parent a (n ∷ ns) (r ∷ qs) ≡ ranges_inside n r
take_one a n ns r qs has = cond-true (has_part a n) (ranges_inside n r) (ranges_by_parent a ns qs) has

skip_many : (a : ℕ) (ns ms : List Node) (rs qs : List Ranges) → length ns ≡ length rs → list_any (has_part a) ns ≡ false →
    ranges_by_parent a (ns ++ ms) (rs ++ qs) ≡ ranges_by_parent a ms qs
skip_many a [] ms [] qs whole none = refl
skip_many a [] ms (r ∷ rs) qs whole none = absurd (omega (arith, whole))
skip_many a (n ∷ ns) ms [] qs whole none = absurd (omega (arith, whole))
skip_many a (n ∷ ns) ms (r ∷ rs) qs whole none =
    let parts = or_parts (has_part a n) (list_any (has_part a) ns) none in
    skip_one a n (ns ++ ms) r (rs ++ qs) parts.0 ∙ skip_many a ns ms rs qs (omega (arith, whole)) parts.1

no_parent : (a : ℕ) (ns : List Node) (qs : List Ranges) → list_any (has_part a) ns ≡ false → ranges_by_parent a ns qs ≡ []
no_parent a [] qs none = refl
no_parent a (n ∷ ns) [] none = refl
no_parent a (n ∷ ns) (q ∷ qs) none =
    let parts = or_parts (has_part a n) (list_any (has_part a) ns) none in
    skip_one a n ns q qs parts.0 ∙ no_parent a ns qs parts.1

-- one node more
next_round : (b at : ℕ) (x : Node) (ms : List Node) (r : Ranges) (qs : List Ranges) → at ≡ b → ranges_from (at + 1) ms ≡ qs → ranges_by_parent at ms qs ≡ r →
    ranges_from b (x ∷ ms) ≡ r ∷ qs
next_round b at x ms r qs is behind own =
    ap (λ b. ranges_by_parent b ms (ranges_from (b + 1) ms) ∷ ranges_from (b + 1) ms) (sym is)
    ∙ ap (λ qs. ranges_by_parent at ms qs ∷ qs) behind ∙ ap (λ r. r ∷ qs) own

-- a node behind one part, and behind two
abbrev Rounded : Shape → Type 0
Rounded s = (n at : ℕ) (rs : Ranges) (ms : List Node) (qs : List Ranges) → at ≡ n + before_last s → ranges_from (at + 1) ms ≡ qs → ranges_by_parent at ms qs ≡ rs →
    ranges_from n (nodes_of s n ++ ms) ≡ rounds_of s rs ++ qs

behind_one : (s : Shape) → Rounded s → (x : ℕ → Node) (n at : ℕ) (inside rs : Ranges) (ms : List Node) (qs : List Ranges) → at ≡ n + (before_last s + 1) →
    has_part (n + before_last s) (x (n + before_last s)) ≡ true → ranges_inside (x (n + before_last s)) rs ≡ inside →
    ranges_from (at + 1) ms ≡ qs → ranges_by_parent at ms qs ≡ rs →
    ranges_from n (nodes_of s n ++ x (n + before_last s) ∷ [] ++ ms) ≡ rounds_of s inside ++ rs ∷ [] ++ qs
behind_one s rounded x n at inside rs ms qs is has within behind own =
    let a = n + before_last s in
    ap (ranges_from n) (append_assoc (nodes_of s n) (x a ∷ []) ms)
    ∙ rounded n a inside (x a ∷ ms) (rs ∷ qs) refl (next_round (a + 1) at (x a) ms rs qs (omega (arith, is)) behind own)
    (take_one a (x a) ms rs qs has ∙ within)
    ∙ sym (append_assoc (rounds_of s inside) (rs ∷ []) qs)

behind_two : (s u : Shape) → Rounded s → Rounded u → (x : Node) (n at : ℕ) (rs : Ranges) (ms : List Node) (qs : List Ranges) → at ≡ n + (before_last s + 1 + before_last u + 1) →
    has_part (n + before_last s) x ≡ true → has_part (n + before_last s + 1 + before_last u) x ≡ true → ranges_inside x rs ≡ rs →
    ranges_from (at + 1) ms ≡ qs → ranges_by_parent at ms qs ≡ rs →
    ranges_from n (nodes_of s n ++ nodes_of u (n + before_last s + 1) ++ x ∷ [] ++ ms) ≡ rounds_of s rs ++ rounds_of u rs ++ rs ∷ [] ++ qs
behind_two s u rounded_s rounded_u x n at rs ms qs is has_a has_b within behind own =
    let a = n + before_last s in
    let m = a + 1 in
    let b = m + before_last u in
    let second = rounded_u m b rs (x ∷ ms) (rs ∷ qs) refl (next_round (b + 1) at x ms rs qs (omega (arith, is)) behind own) (take_one b x ms rs qs has_b ∙ within) in
    ap (ranges_from n) (append_assoc (nodes_of s n ++ nodes_of u m) (x ∷ []) ms ∙ append_assoc (nodes_of s n) (nodes_of u m) (x ∷ ms))
    ∙ rounded_s n a rs (nodes_of u m ++ x ∷ ms) (rounds_of u rs ++ rs ∷ qs) refl second
    (skip_many a (nodes_of u m) (x ∷ ms) (rounds_of u rs) (rs ∷ qs) (length-nodes_of u m ∙ sym (length-rounds_of u rs)) (later_parts u m a (omega arith))
    ∙ take_one a x ms rs qs has_a ∙ within)
    ∙ sym (append_assoc (rounds_of s rs ++ rounds_of u rs) (rs ∷ []) qs ∙ append_assoc (rounds_of s rs) (rounds_of u rs) (rs ∷ qs))

-- the five nodes of an equivalence
equal_rounds : (a b : ℕ) (rs : Ranges) (at : ℕ) (ms : List Node) (qs : List Ranges) → a < b → at ≡ b + 5 → ranges_from (at + 1) ms ≡ qs → ranges_by_parent at ms qs ≡ rs →
    ranges_from (b + 1) (equal_nodes a b ++ ms) ≡ rs ∷ rs ∷ rs ∷ rs ∷ rs ∷ qs
equal_rounds a b rs at ms qs less is behind own =
    let five = next_round (b + 5) at (node.Or (b + 1) (b + 4)) ms rs qs is behind own in
    let four = next_round (b + 4) (b + 4) (node.And (b + 2) (b + 3)) (node.Or (b + 1) (b + 4) ∷ ms) rs (rs ∷ qs) refl
    (ap (λ n. ranges_from n (node.Or (b + 1) (b + 4) ∷ ms)) (more 4 5 refl) ∙ five)
    (take_one (b + 4) (node.Or (b + 1) (b + 4)) ms rs qs (second_part (b + 4) (b + 1) (b + 4) refl)) in
    let three = next_round (b + 3) (b + 3) (node.Not b) (node.And (b + 2) (b + 3) ∷ node.Or (b + 1) (b + 4) ∷ ms) rs (rs ∷ rs ∷ qs) refl
    (ap (λ n. ranges_from n (node.And (b + 2) (b + 3) ∷ node.Or (b + 1) (b + 4) ∷ ms)) (more 3 4 refl) ∙ four)
    (take_one (b + 3) (node.And (b + 2) (b + 3)) (node.Or (b + 1) (b + 4) ∷ ms) rs (rs ∷ qs) (second_part (b + 3) (b + 2) (b + 3) refl)) in
    let two = next_round (b + 2) (b + 2) (node.Not a) (node.Not b ∷ node.And (b + 2) (b + 3) ∷ node.Or (b + 1) (b + 4) ∷ ms) rs (rs ∷ rs ∷ rs ∷ qs) refl
    (ap (λ n. ranges_from n (node.Not b ∷ node.And (b + 2) (b + 3) ∷ node.Or (b + 1) (b + 4) ∷ ms)) (more 2 3 refl) ∙ three)
    (skip_one (b + 2) (node.Not b) (node.And (b + 2) (b + 3) ∷ node.Or (b + 1) (b + 4) ∷ ms) rs (rs ∷ rs ∷ qs) (not_part (b + 2) b (λ e. omega (arith, e)))
    ∙ take_one (b + 2) (node.And (b + 2) (b + 3)) (node.Or (b + 1) (b + 4) ∷ ms) rs (rs ∷ qs) (first_part (b + 2) (b + 2) (b + 3) refl)) in
    next_round (b + 1) (b + 1) (node.And a b) (node.Not a ∷ node.Not b ∷ node.And (b + 2) (b + 3) ∷ node.Or (b + 1) (b + 4) ∷ ms) rs (rs ∷ rs ∷ rs ∷ rs ∷ qs) refl
    (ap (λ n. ranges_from n (node.Not a ∷ node.Not b ∷ node.And (b + 2) (b + 3) ∷ node.Or (b + 1) (b + 4) ∷ ms)) (more 1 2 refl) ∙ two)
    (skip_one (b + 1) (node.Not a) (node.Not b ∷ node.And (b + 2) (b + 3) ∷ node.Or (b + 1) (b + 4) ∷ ms) rs (rs ∷ rs ∷ rs ∷ qs) (not_part (b + 1) a (λ e. omega (arith, e, less)))
    ∙ skip_one (b + 1) (node.Not b) (node.And (b + 2) (b + 3) ∷ node.Or (b + 1) (b + 4) ∷ ms) rs (rs ∷ rs ∷ qs) (not_part (b + 1) b (λ e. omega (arith, e)))
    ∙ skip_one (b + 1) (node.And (b + 2) (b + 3)) (node.Or (b + 1) (b + 4) ∷ ms) rs (rs ∷ qs) (neither_part (b + 1) (b + 2) (b + 3) (λ e. omega (arith, e)) (λ e. omega (arith, e)))
    ∙ take_one (b + 1) (node.Or (b + 1) (b + 4)) ms rs qs (first_part (b + 1) (b + 1) (b + 4) refl))
  where
    more : (k l : ℕ) → k + 1 ≡ l → b + k + 1 ≡ b + l
    more k l e = omega (arith, e)

-- the parent of each part of an equivalence
equal_parents : (a b : ℕ) (rs : Ranges) (ms : List Node) (qs : List Ranges) →
    (ranges_by_parent a (equal_nodes a b ++ ms) (rs ∷ rs ∷ rs ∷ rs ∷ rs ∷ qs) ≡ rs) × (ranges_by_parent b (equal_nodes a b ++ ms) (rs ∷ rs ∷ rs ∷ rs ∷ rs ∷ qs) ≡ rs)
equal_parents a b rs ms qs =
    let rest : List Node = node.Not a ∷ node.Not b ∷ node.And (b + 2) (b + 3) ∷ node.Or (b + 1) (b + 4) ∷ ms in (
      take_one a (node.And a b) rest rs (rs ∷ rs ∷ rs ∷ rs ∷ qs) (first_part a a b refl),
      take_one b (node.And a b) rest rs (rs ∷ rs ∷ rs ∷ rs ∷ qs) (second_part b a b refl),
    )

pub rounded : (s : Shape) → Rounded s
rounded (atom r x y) n at rs ms qs is behind own = next_round n at (node.Atom r x y) ms rs qs (omega (arith, is)) behind own
rounded (no s) n at rs ms qs is behind own =
    behind_one s (rounded s) node.Not n at rs rs ms qs is (one_part (n + before_last s) (n + before_last s) refl) refl behind own
rounded (exists low high s) n at rs ms qs is behind own =
    behind_one s (rounded s) (node.Exists low high) n at (rs ++ record { low = low; high = high } ∷ []) rs ms qs is (one_part (n + before_last s) (n + before_last s) refl) refl behind own
rounded (dist s x) n at rs ms qs is behind own =
    behind_one s (rounded s) (λ a. node.Dist a x) n at rs rs ms qs is (one_part (n + before_last s) (n + before_last s) refl) refl behind own
rounded (both s u) n at rs ms qs is behind own =
    let a = n + before_last s in
    let b = a + 1 + before_last u in
    behind_two s u (rounded s) (rounded u) (node.And a b) n at rs ms qs is (first_part a a b refl) (second_part b a b refl) refl behind own
rounded (either s u) n at rs ms qs is behind own =
    let a = n + before_last s in
    let b = a + 1 + before_last u in
    behind_two s u (rounded s) (rounded u) (node.Or a b) n at rs ms qs is (first_part a a b refl) (second_part b a b refl) refl behind own
rounded (equal s u) n at rs ms qs is behind own =
    let a = n + before_last s in
    let m = a + 1 in
    let b = m + before_last u in
    let five = rs ∷ rs ∷ rs ∷ rs ∷ rs ∷ [] in
    let parents = equal_parents a b rs ms qs in
    let second = rounded u m b rs (equal_nodes a b ++ ms) (five ++ qs) refl (equal_rounds a b rs at ms qs (omega arith) (omega (arith, is)) behind own) parents.1 in
    ap (ranges_from n) (append_assoc (nodes_of s n ++ nodes_of u m) (equal_nodes a b) ms ∙ append_assoc (nodes_of s n) (nodes_of u m) (equal_nodes a b ++ ms))
    ∙ rounded s n a rs (nodes_of u m ++ (equal_nodes a b ++ ms)) (rounds_of u rs ++ (five ++ qs)) refl second
    (skip_many a (nodes_of u m) (equal_nodes a b ++ ms) (rounds_of u rs) (five ++ qs) (length-nodes_of u m ∙ sym (length-rounds_of u rs)) (later_parts u m a (omega arith))
    ∙ parents.0)
    ∙ sym (append_assoc (rounds_of s rs ++ rounds_of u rs) five qs ∙ append_assoc (rounds_of s rs) (rounds_of u rs) (five ++ qs))

-- all axioms
later_axioms : (w : World) (axioms : List Axiom) (n a : ℕ) → a < n → list_any (has_part a) (nodes_of_axioms w n axioms) ≡ false
later_axioms w [] n a less = refl
later_axioms w (x ∷ axioms) n a less =
    let s = core_shape w x.formula in
    none_append (has_part a) (nodes_of s n) (nodes_of_axioms w (n + before_last s + 1) axioms) (later_parts s n a less) (later_axioms w axioms (n + before_last s + 1) a (omega arith))

pub all_rounded : (w : World) (axioms : List Axiom) (n : ℕ) → ranges_from n (nodes_of_axioms w n axioms) ≡ rounds_of_axioms w axioms
all_rounded w [] n = refl
all_rounded w (x ∷ axioms) n =
    let s = core_shape w x.formula in
    let at = n + before_last s in
    rounded s n at [] (nodes_of_axioms w (at + 1) axioms) (rounds_of_axioms w axioms) refl (all_rounded w axioms (at + 1))
    (no_parent at (nodes_of_axioms w (at + 1) axioms) (rounds_of_axioms w axioms) (later_axioms w axioms (at + 1) at (omega arith)))
