-- The truth of a shape is that of its last node.
use Rattle.std.proofs.Common.{◌≡◌, ℕ, ◌+◌, ◌<◌, List, [], ◌∷◌, ◌++◌, length, refl, ap, ◌∙◌, arith}
use Rattle.std.proofs.lemmas.List.{length-append, length_push, get_or_push, get_or_append_left}
use Rattle.trio_types.specs.World.{World}
use Rattle.trio_types.specs.Truth.{Truth}
use Rattle.trio_core.specs.declared.nodes.Node.{Node}
use Rattle.trio_core.specs.declared.nodes.Node.TheVariants as node
use Rattle.trio_core.specs.Core.{numbers, never, atom_truth, not_truth, and_truth, or_truth, exists_truth, dist_truth, part_truth, node_truth, truths_from, core_truth}
use Rattle.trio_core.proofs.Flat.{length-truths_from, truths_from-append, truths_kept, truth_next, core_truth_is}
use Rattle.derived_ops.specs.Shape.{Shape, atom, no, both, either, exists, dist, equal, before_last, equal_nodes, nodes_of}

abbrev pub equal_truth : Truth → Truth → Truth
equal_truth p q = or_truth (and_truth p q) (and_truth (not_truth p) (not_truth q))

abbrev pub shape_truth : World → Shape → Truth
shape_truth w (atom r x y) = atom_truth w r x y
shape_truth w (no s) = not_truth (shape_truth w s)
shape_truth w (both s u) = and_truth (shape_truth w s) (shape_truth w u)
shape_truth w (either s u) = or_truth (shape_truth w s) (shape_truth w u)
shape_truth w (exists low high s) = exists_truth (numbers low high) (shape_truth w s)
shape_truth w (dist s x) = dist_truth w (shape_truth w s) x
shape_truth w (equal s u) = equal_truth (shape_truth w s) (shape_truth w u)

pub length-nodes_of : (s : Shape) (n : ℕ) → length (nodes_of s n) ≡ before_last s + 1
length-nodes_of (atom r x y) n = refl
length-nodes_of (no s) n = length_push (nodes_of s n) (node.Not (n + before_last s)) ∙ ap (λ a. a + 1) (length-nodes_of s n)
length-nodes_of (exists low high s) n = length_push (nodes_of s n) (node.Exists low high (n + before_last s)) ∙ ap (λ a. a + 1) (length-nodes_of s n)
length-nodes_of (dist s x) n = length_push (nodes_of s n) (node.Dist (n + before_last s) x) ∙ ap (λ a. a + 1) (length-nodes_of s n)
length-nodes_of (both s u) n =
    let m = n + before_last s + 1 in
    omega (arith, length_push (nodes_of s n ++ nodes_of u m) (node.And (n + before_last s) (m + before_last u)), length-append (nodes_of s n) (nodes_of u m), length-nodes_of s n, length-nodes_of u m)
length-nodes_of (either s u) n =
    let m = n + before_last s + 1 in
    omega (arith, length_push (nodes_of s n ++ nodes_of u m) (node.Or (n + before_last s) (m + before_last u)), length-append (nodes_of s n) (nodes_of u m), length-nodes_of s n, length-nodes_of u m)
length-nodes_of (equal s u) n =
    let m = n + before_last s + 1 in
    omega (
      arith,
      length-append (nodes_of s n ++ nodes_of u m) (equal_nodes (n + before_last s) (m + before_last u)),
      length-append (nodes_of s n) (nodes_of u m),
      length-nodes_of s n,
      length-nodes_of u m,
    )

-- the truth of a node that stands behind others
next_told : (w : World) (ps : List Truth) (ns : List Node) (m : Node) (a : ℕ) → a ≡ length ps + length ns →
    part_truth (truths_from w ps (ns ++ m ∷ [])) a ≡ node_truth w (truths_from w ps ns) 0 m
next_told w ps ns m a is =
    let whole : a ≡ length (truths_from w ps ns) = omega (arith, is, length-truths_from w ps ns) in
    ap (λ qs. part_truth qs a) (truths_from-append w ps ns (m ∷ []))
    ∙ ap (part_truth (truths_from w (truths_from w ps ns) (m ∷ []))) whole
    ∙ truth_next w (truths_from w ps ns) m []

-- five nodes behind two parts
equal_told : (w : World) (ps : List Truth) (a b : ℕ) (p q : Truth) → a < length ps → length ps ≡ b + 1 → part_truth ps a ≡ p → part_truth ps b ≡ q →
    part_truth (truths_from w ps (equal_nodes a b)) (b + 5) ≡ equal_truth p q
equal_told w ps a b p q a_in whole a_is b_is =
    let one = ps ++ and_truth (part_truth ps a) (part_truth ps b) ∷ [] in
    let two = one ++ not_truth (part_truth one a) ∷ [] in
    let three = two ++ not_truth (part_truth two b) ∷ [] in
    let four = three ++ and_truth (part_truth three (b + 2)) (part_truth three (b + 3)) ∷ [] in
    let length_one : length one ≡ b + 2 = omega (arith, length_push ps (and_truth (part_truth ps a) (part_truth ps b)), whole) in
    let length_two : length two ≡ b + 3 = omega (arith, length_push one (not_truth (part_truth one a)), length_one) in
    let length_three : length three ≡ b + 4 = omega (arith, length_push two (not_truth (part_truth two b)), length_two) in
    let length_four : length four ≡ b + 5 = omega (arith, length_push three (and_truth (part_truth three (b + 2)) (part_truth three (b + 3))), length_three) in
    let a_one = get_or_append_left ps (and_truth (part_truth ps a) (part_truth ps b) ∷ []) never a a_in ∙ a_is in
    let b_one = get_or_append_left ps (and_truth (part_truth ps a) (part_truth ps b) ∷ []) never b (omega (arith, whole)) ∙ b_is in
    let b_two = get_or_append_left one (not_truth (part_truth one a) ∷ []) never b (omega (arith, length_one)) ∙ b_one in
    let first_three : part_truth three (b + 1) ≡ and_truth p q =
    get_or_append_left two (not_truth (part_truth two b) ∷ []) never (b + 1) (omega (arith, length_two))
    ∙ get_or_append_left one (not_truth (part_truth one a) ∷ []) never (b + 1) (omega (arith, length_one))
    ∙ get_or_push ps (and_truth (part_truth ps a) (part_truth ps b)) never (b + 1) whole
    ∙ ap (λ x. and_truth x (part_truth ps b)) a_is ∙ ap (and_truth p) b_is in
    let no_a : part_truth three (b + 2) ≡ not_truth p =
    get_or_append_left two (not_truth (part_truth two b) ∷ []) never (b + 2) (omega (arith, length_two))
    ∙ get_or_push one (not_truth (part_truth one a)) never (b + 2) length_one ∙ ap not_truth a_one in
    let no_b : part_truth three (b + 3) ≡ not_truth q =
    get_or_push two (not_truth (part_truth two b)) never (b + 3) length_two ∙ ap not_truth b_two in
    let neither : part_truth four (b + 4) ≡ and_truth (not_truth p) (not_truth q) =
    get_or_push three (and_truth (part_truth three (b + 2)) (part_truth three (b + 3))) never (b + 4) length_three
    ∙ ap (λ x. and_truth x (part_truth three (b + 3))) no_a ∙ ap (and_truth (not_truth p)) no_b in
    let first_four : part_truth four (b + 1) ≡ and_truth p q =
    get_or_append_left three (and_truth (part_truth three (b + 2)) (part_truth three (b + 3)) ∷ []) never (b + 1) (omega (arith, length_three)) ∙ first_three in
    get_or_push four (or_truth (part_truth four (b + 1)) (part_truth four (b + 4))) never (b + 5) length_four
    ∙ ap (λ x. or_truth x (part_truth four (b + 4))) first_four ∙ ap (or_truth (and_truth p q)) neither

-- the truths of two parts behind one another
record TwoTold (w : World) (ps : List Truth) (ns : List Node) (a b : ℕ) (p q : Truth) : Type 0 where
  first : part_truth (truths_from w ps ns) a ≡ p
  second : part_truth (truths_from w ps ns) b ≡ q
  before : a < length (truths_from w ps ns)
  whole : length (truths_from w ps ns) ≡ b + 1

two_told : (w : World) (ps : List Truth) (s u : Shape) (n : ℕ) → n ≡ length ps →
    part_truth (truths_from w ps (nodes_of s n)) (n + before_last s) ≡ shape_truth w s →
    part_truth (truths_from w (truths_from w ps (nodes_of s n)) (nodes_of u (n + before_last s + 1))) (n + before_last s + 1 + before_last u) ≡ shape_truth w u →
    TwoTold w ps (nodes_of s n ++ nodes_of u (n + before_last s + 1)) (n + before_last s) (n + before_last s + 1 + before_last u) (shape_truth w s) (shape_truth w u)
two_told w ps s u n is left right =
    let m = n + before_last s + 1 in
    let qs = truths_from w ps (nodes_of s n) in
    let more = truths_from-append w ps (nodes_of s n) (nodes_of u m) in
    let whole : length qs ≡ m = omega (arith, is, length-truths_from w ps (nodes_of s n), length-nodes_of s n) in
    let all : length (truths_from w qs (nodes_of u m)) ≡ m + before_last u + 1 = omega (arith, whole, length-truths_from w qs (nodes_of u m), length-nodes_of u m) in
    record {
      first = ap (λ rs. part_truth rs (n + before_last s)) more ∙ truths_kept w qs (nodes_of u m) (n + before_last s) (omega (arith, whole)) ∙ left;
      second = ap (λ rs. part_truth rs (m + before_last u)) more ∙ right;
      before = omega (arith, ap length more, all);
      whole = ap length more ∙ all;
    }

pub told : (w : World) (s : Shape) (ps : List Truth) (n : ℕ) → n ≡ length ps → part_truth (truths_from w ps (nodes_of s n)) (n + before_last s) ≡ shape_truth w s
told w (atom r x y) ps n is =
    let at : n + 0 ≡ length ps = omega (arith, is) in
    ap (part_truth (ps ++ atom_truth w r x y ∷ [])) at ∙ get_or_push ps (atom_truth w r x y) never (length ps) refl
told w (no s) ps n is =
    next_told w ps (nodes_of s n) (node.Not (n + before_last s)) (n + (before_last s + 1)) (omega (arith, is, length-nodes_of s n))
    ∙ ap not_truth (told w s ps n is)
told w (exists low high s) ps n is =
    next_told w ps (nodes_of s n) (node.Exists low high (n + before_last s)) (n + (before_last s + 1)) (omega (arith, is, length-nodes_of s n))
    ∙ ap (exists_truth (numbers low high)) (told w s ps n is)
told w (dist s x) ps n is =
    next_told w ps (nodes_of s n) (node.Dist (n + before_last s) x) (n + (before_last s + 1)) (omega (arith, is, length-nodes_of s n))
    ∙ ap (λ p. dist_truth w p x) (told w s ps n is)
told w (both s u) ps n is =
    let m = n + before_last s + 1 in
    let qs = truths_from w ps (nodes_of s n) in
    let t = two_told w ps s u n is (told w s ps n is) (told w u qs m (omega (arith, is, length-truths_from w ps (nodes_of s n), length-nodes_of s n))) in
    next_told w ps (nodes_of s n ++ nodes_of u m) (node.And (n + before_last s) (m + before_last u)) (n + (before_last s + 1 + before_last u + 1))
    (omega (arith, is, length-append (nodes_of s n) (nodes_of u m), length-nodes_of s n, length-nodes_of u m))
    ∙ ap (λ p. and_truth p (part_truth (truths_from w ps (nodes_of s n ++ nodes_of u m)) (m + before_last u))) t.first
    ∙ ap (and_truth (shape_truth w s)) t.second
told w (either s u) ps n is =
    let m = n + before_last s + 1 in
    let qs = truths_from w ps (nodes_of s n) in
    let t = two_told w ps s u n is (told w s ps n is) (told w u qs m (omega (arith, is, length-truths_from w ps (nodes_of s n), length-nodes_of s n))) in
    next_told w ps (nodes_of s n ++ nodes_of u m) (node.Or (n + before_last s) (m + before_last u)) (n + (before_last s + 1 + before_last u + 1))
    (omega (arith, is, length-append (nodes_of s n) (nodes_of u m), length-nodes_of s n, length-nodes_of u m))
    ∙ ap (λ p. or_truth p (part_truth (truths_from w ps (nodes_of s n ++ nodes_of u m)) (m + before_last u))) t.first
    ∙ ap (or_truth (shape_truth w s)) t.second
told w (equal s u) ps n is =
    let m = n + before_last s + 1 in
    let qs = truths_from w ps (nodes_of s n) in
    let t = two_told w ps s u n is (told w s ps n is) (told w u qs m (omega (arith, is, length-truths_from w ps (nodes_of s n), length-nodes_of s n))) in
    let at : n + (before_last s + 1 + before_last u + 5) ≡ m + before_last u + 5 = omega arith in
    ap (part_truth (truths_from w ps (nodes_of s n ++ nodes_of u m ++ equal_nodes (n + before_last s) (m + before_last u)))) at
    ∙ ap (λ rs. part_truth rs (m + before_last u + 5)) (truths_from-append w ps (nodes_of s n ++ nodes_of u m) (equal_nodes (n + before_last s) (m + before_last u)))
    ∙ equal_told w (truths_from w ps (nodes_of s n ++ nodes_of u m)) (n + before_last s) (m + before_last u) (shape_truth w s) (shape_truth w u) t.before t.whole t.first t.second

-- behind any nodes
pub core_told : (w : World) (before : List Node) (s : Shape) → core_truth w (before ++ nodes_of s (length before)) (length before + before_last s) ≡ shape_truth w s
core_told w before s =
    core_truth_is w (before ++ nodes_of s (length before)) (length before + before_last s)
    ∙ ap (λ ps. part_truth ps (length before + before_last s)) (truths_from-append w [] before (nodes_of s (length before)))
    ∙ told w s (truths_from w [] before) (length before) (omega (arith, length-truths_from w [] before))
