-- Nodes that are appended behind those of parts.
use Rattle.std.proofs.Common.{◌≡◌, ℕ, ◌+◌, ◌-◌, ℤ, List, [], ◌∷◌, ◌++◌, length, take, refl, sym, ap, ◌∙◌, arith, subst}
use Rattle.std.proofs.lemmas.List.{append_assoc, length-append, length_push}
use Rattle.std.proofs.Math.Seq.{take-append_seam}
use Rattle.trio_base.specs.declared.operators.Rel.{Rel}
use Rattle.trio_base.specs.declared.operators.OneOp.{OneOp}
use Rattle.trio_base.specs.declared.operators.OneOp.TheVariants as one
use Rattle.trio_types.specs.declared.formula.Term.{Term}
use Rattle.trio_types.specs.declared.formula.Term.TheVariants as term
use Rattle.trio_types.specs.declared.formula.Formula.{Formula}
use Rattle.trio_types.specs.World.{World}
use Rattle.trio_core.specs.declared.nodes.Node.{Node}
use Rattle.trio_core.specs.declared.nodes.Node.TheVariants as node
use Rattle.derived_ops.specs.declared.joint.Joint.{Joint}
use Rattle.derived_ops.specs.declared.joint.Joint.TheVariants as joint
use Rattle.derived_ops.specs.declared.writer.Writer.{Writer}
use Rattle.derived_ops.specs.Shape.{Shape, atom, no, both, either, exists, dist, equal, before_last, equal_nodes, nodes_of}
use Rattle.derived_ops.specs.Rewriting.{Levels, Written, of_two, one_written, written}
use Rattle.derived_ops.specs.Distances.{lowest, highest}
use Rattle.derived_ops.specs.Adding.{AddsNode, AddsShape, node_of_two, negated, many_opposite, negations_of}
use Rattle.derived_ops.proofs.Told.{length-nodes_of}

-- the same shape in other words
pub as_shape : {s u : Shape} {old new : Writer} {at : ℕ} → s ≡ u → AddsShape s old new at → AddsShape u old new at
as_shape {old = old} {new = new} {at = at} is adds = subst (λ s. AddsShape s old new at) is adds

pub as_written : (w : World) {f g : Formula} {k l : ℕ} {ls ms : Levels} {old new : Writer} {at : ℕ} → f ≡ g → k ≡ l → ls ≡ ms →
    AddsShape (written w f k ls) old new at → AddsShape (written w g l ms) old new at
as_written w {f} {g} {k} {l} {ls} {ms} same_f same_k same_ls adds =
    as_shape (ap (λ f. written w f k ls) same_f ∙ ap (λ k. written w g k ls) same_k ∙ ap (λ ls. written w g l ls) same_ls) adds

-- where only the levels changed before, and changed back behind
pub framed : {s : Shape} {old before behind new : Writer} {at : ℕ} → before.nodes.items ≡ old.nodes.items → new.nodes.items ≡ behind.nodes.items →
    new.levels.items ≡ old.levels.items → AddsShape s before behind at → AddsShape s old new at
framed {s} first last levels adds = record {
  nodes = last ∙ adds.nodes ∙ ap (λ ns. ns ++ nodes_of s (length ns)) first;
  place = adds.place ∙ ap (λ ns. length ns + before_last s) first;
  levels = levels;
}

pub add_atom : {r : Rel} {x y : Term} {old new : Writer} {at : ℕ} → AddsNode (node.Atom r x y) old new at → AddsShape (atom r x y) old new at
add_atom {old = old} wrote = record { nodes = wrote.nodes; place = omega (arith, wrote.place); levels = wrote.levels }

-- a node behind one part
behind_one : (s u : Shape) (n : ℕ → Node) (old mid new : Writer) (a at : ℕ) → nodes_of u (length old.nodes.items) ≡ nodes_of s (length old.nodes.items) ++ n (length old.nodes.items + before_last s) ∷ [] →
    before_last u ≡ before_last s + 1 → AddsShape s old mid a → AddsNode (n a) mid new at → AddsShape u old new at
behind_one s u n old mid new a at more last adds wrote =
    let whole : length mid.nodes.items ≡ length old.nodes.items + before_last s + 1 =
    omega (arith, ap length adds.nodes, length-append old.nodes.items (nodes_of s (length old.nodes.items)), length-nodes_of s (length old.nodes.items)) in
    record {
      nodes = wrote.nodes ∙ ap (λ ns. ns ++ n a ∷ []) adds.nodes ∙ append_assoc old.nodes.items (nodes_of s (length old.nodes.items)) (n a ∷ [])
          ∙ ap (λ b. old.nodes.items ++ (nodes_of s (length old.nodes.items) ++ n b ∷ [])) adds.place ∙ ap (λ ns. old.nodes.items ++ ns) (sym more);
      place = omega (arith, wrote.place, whole, last);
      levels = wrote.levels ∙ adds.levels;
    }

pub add_no : {s : Shape} {old mid new : Writer} {a at : ℕ} → AddsShape s old mid a → AddsNode (node.Not a) mid new at → AddsShape (no s) old new at
add_no {s} {old} {mid} {new} {a} {at} adds wrote = behind_one s (no s) node.Not old mid new a at refl refl adds wrote

pub add_exists : {s : Shape} {low high low2 high2 : ℤ} {old mid new : Writer} {a at : ℕ} → low ≡ low2 → high ≡ high2 → AddsShape s old mid a → AddsNode (node.Exists low high a) mid new at →
    AddsShape (exists low2 high2 s) old new at
add_exists {s} {low} {high} {low2} {high2} {old} {mid} {new} {a} {at} same_low same_high adds wrote =
    as_shape (ap (λ low. exists low high s) same_low ∙ ap (λ high. exists low2 high s) same_high)
    (behind_one s (exists low high s) (node.Exists low high) old mid new a at refl refl adds wrote)

pub add_dist : {s : Shape} {x y : Term} {old mid new : Writer} {a at : ℕ} → x ≡ y → AddsShape s old mid a → AddsNode (node.Dist a x) mid new at → AddsShape (dist s y) old new at
add_dist {s} {x} {y} {old} {mid} {new} {a} {at} same adds wrote = as_shape (ap (dist s) same) (behind_one s (dist s x) (λ a. node.Dist a x) old mid new a at refl refl adds wrote)

-- what stands behind two parts
record TwoAdded (s u : Shape) (old mid last : Writer) (a b : ℕ) : Type 0 where
  nodes : last.nodes.items ≡ old.nodes.items ++ (nodes_of s (length old.nodes.items) ++ nodes_of u (length old.nodes.items + before_last s + 1))
  left : a ≡ length old.nodes.items + before_last s
  right : b ≡ length old.nodes.items + before_last s + 1 + before_last u
  whole : length last.nodes.items ≡ length old.nodes.items + before_last s + 1 + before_last u + 1
  levels : last.levels.items ≡ old.levels.items

two_added : (s u : Shape) (old mid last : Writer) (a b : ℕ) → AddsShape s old mid a → AddsShape u mid last b → TwoAdded s u old mid last a b
two_added s u old mid last a b first second =
    let n = length old.nodes.items in
    let whole : length mid.nodes.items ≡ n + before_last s + 1 = omega (arith, ap length first.nodes, length-append old.nodes.items (nodes_of s n), length-nodes_of s n) in
    let nodes = second.nodes ∙ ap (λ m. mid.nodes.items ++ nodes_of u m) whole ∙ ap (λ ns. ns ++ nodes_of u (n + before_last s + 1)) first.nodes
    ∙ append_assoc old.nodes.items (nodes_of s n) (nodes_of u (n + before_last s + 1)) in
    record {
      nodes = nodes;
      left = first.place;
      right = second.place ∙ ap (λ m. m + before_last u) whole;
      whole = omega (
        arith,
        ap length nodes,
        length-append old.nodes.items (nodes_of s n ++ nodes_of u (n + before_last s + 1)),
        length-append (nodes_of s n) (nodes_of u (n + before_last s + 1)),
        length-nodes_of s n,
        length-nodes_of u (n + before_last s + 1),
      );
      levels = second.levels ∙ first.levels;
    }

behind_two : (s u t : Shape) (n : ℕ → ℕ → Node) (old mid last new : Writer) (a b at : ℕ) →
    nodes_of t (length old.nodes.items) ≡ nodes_of s (length old.nodes.items) ++ nodes_of u (length old.nodes.items + before_last s + 1)
    ++ n (length old.nodes.items + before_last s) (length old.nodes.items + before_last s + 1 + before_last u) ∷ [] →
    before_last t ≡ before_last s + 1 + before_last u + 1 → AddsShape s old mid a → AddsShape u mid last b → AddsNode (n a b) last new at → AddsShape t old new at
behind_two s u t n old mid last new a b at more last_is first second wrote =
    let m = length old.nodes.items in
    let two = two_added s u old mid last a b first second in
    record {
      nodes = wrote.nodes ∙ ap (λ ns. ns ++ n a b ∷ []) two.nodes
          ∙ append_assoc old.nodes.items (nodes_of s m ++ nodes_of u (m + before_last s + 1)) (n a b ∷ [])
          ∙ ap (λ a. old.nodes.items ++ (nodes_of s m ++ nodes_of u (m + before_last s + 1) ++ n a b ∷ [])) two.left
          ∙ ap (λ b. old.nodes.items ++ (nodes_of s m ++ nodes_of u (m + before_last s + 1) ++ n (m + before_last s) b ∷ [])) two.right
          ∙ ap (λ ns. old.nodes.items ++ ns) (sym more);
      place = omega (arith, wrote.place, two.whole, last_is);
      levels = wrote.levels ∙ two.levels;
    }

pub add_both : {s u : Shape} {old mid last new : Writer} {a b at : ℕ} → AddsShape s old mid a → AddsShape u mid last b → AddsNode (node.And a b) last new at → AddsShape (both s u) old new at
add_both {s} {u} {old} {mid} {last} {new} {a} {b} {at} first second wrote = behind_two s u (both s u) node.And old mid last new a b at refl refl first second wrote

pub add_either : {s u : Shape} {old mid last new : Writer} {a b at : ℕ} → AddsShape s old mid a → AddsShape u mid last b → AddsNode (node.Or a b) last new at → AddsShape (either s u) old new at
add_either {s} {u} {old} {mid} {last} {new} {a} {b} {at} first second wrote = behind_two s u (either s u) node.Or old mid last new a b at refl refl first second wrote

pub add_two : (j : Joint) {s u : Shape} {old mid last new : Writer} {a b at : ℕ} → AddsShape s old mid a → AddsShape u mid last b → AddsNode (node_of_two j a b) last new at → AddsShape (of_two j s u) old new at
add_two joint.And first second wrote = add_both first second wrote
add_two joint.Or first second wrote = add_either first second wrote

-- five nodes
pub add_equal : (s u : Shape) (old mid last w1 w2 w3 w4 new : Writer) (a b c d e g at : ℕ) → AddsShape s old mid a → AddsShape u mid last b →
    AddsNode (node.And a b) last w1 c → AddsNode (node.Not a) w1 w2 d → AddsNode (node.Not b) w2 w3 e → AddsNode (node.And d e) w3 w4 g → AddsNode (node.Or c g) w4 new at →
    AddsShape (equal s u) old new at
add_equal s u old mid last w1 w2 w3 w4 new a b c d e g at first second one two three four five =
    let m = length old.nodes.items in
    let t = two_added s u old mid last a b first second in
    let l1 : length w1.nodes.items ≡ length last.nodes.items + 1 = ap length one.nodes ∙ length_push last.nodes.items (node.And a b) in
    let l2 : length w2.nodes.items ≡ length last.nodes.items + 2 = omega (arith, ap length two.nodes, length_push w1.nodes.items (node.Not a), l1) in
    let l3 : length w3.nodes.items ≡ length last.nodes.items + 3 = omega (arith, ap length three.nodes, length_push w2.nodes.items (node.Not b), l2) in
    let l4 : length w4.nodes.items ≡ length last.nodes.items + 4 = omega (arith, ap length four.nodes, length_push w3.nodes.items (node.And d e), l3) in
    let c_is : c ≡ b + 1 = omega (arith, one.place, t.whole, t.right) in
    let d_is : d ≡ b + 2 = omega (arith, two.place, t.whole, t.right, l1) in
    let e_is : e ≡ b + 3 = omega (arith, three.place, t.whole, t.right, l2) in
    let g_is : g ≡ b + 4 = omega (arith, four.place, t.whole, t.right, l3) in
    let all : new.nodes.items ≡ last.nodes.items ++ (node.And a b ∷ node.Not a ∷ node.Not b ∷ node.And d e ∷ node.Or c g ∷ []) =
    five.nodes ∙ ap (λ ns. ns ++ node.Or c g ∷ []) (four.nodes ∙ ap (λ ns. ns ++ node.And d e ∷ []) (three.nodes ∙ ap (λ ns. ns ++ node.Not b ∷ []) (two.nodes ∙ ap (λ ns. ns ++ node.Not a ∷ []) one.nodes)))
    ∙ five_behind last.nodes.items (node.And a b) (node.Not a) (node.Not b) (node.And d e) (node.Or c g) in
    record {
      nodes = all ∙ ap (λ c. last.nodes.items ++ (node.And a b ∷ node.Not a ∷ node.Not b ∷ node.And d e ∷ node.Or c g ∷ [])) c_is
          ∙ ap (λ d. last.nodes.items ++ (node.And a b ∷ node.Not a ∷ node.Not b ∷ node.And d e ∷ node.Or (b + 1) g ∷ [])) d_is
          ∙ ap (λ e. last.nodes.items ++ (node.And a b ∷ node.Not a ∷ node.Not b ∷ node.And (b + 2) e ∷ node.Or (b + 1) g ∷ [])) e_is
          ∙ ap (λ g. last.nodes.items ++ (node.And a b ∷ node.Not a ∷ node.Not b ∷ node.And (b + 2) (b + 3) ∷ node.Or (b + 1) g ∷ [])) g_is
          ∙ ap (λ ns. ns ++ equal_nodes a b) t.nodes
          ∙ append_assoc old.nodes.items (nodes_of s m ++ nodes_of u (m + before_last s + 1)) (equal_nodes a b)
          ∙ ap (λ a. old.nodes.items ++ (nodes_of s m ++ nodes_of u (m + before_last s + 1) ++ equal_nodes a b)) t.left
          ∙ ap (λ b. old.nodes.items ++ (nodes_of s m ++ nodes_of u (m + before_last s + 1) ++ equal_nodes (m + before_last s) b)) t.right;
      place = omega (arith, five.place, l4, t.whole);
      levels = five.levels ∙ four.levels ∙ three.levels ∙ two.levels ∙ one.levels ∙ t.levels;
    }
  where
    five_behind : (ns : List Node) (p q r x y : Node) → ns ++ p ∷ [] ++ q ∷ [] ++ r ∷ [] ++ x ∷ [] ++ y ∷ [] ≡ ns ++ (p ∷ q ∷ r ∷ x ∷ y ∷ [])
    five_behind [] p q r x y = refl
    five_behind (n ∷ ns) p q r x y = ap (λ ms. n ∷ ms) (five_behind ns p q r x y)

-- operators on one formula
pub one_is : (w : World) (o : OneOp) (f : Written) (k : ℕ) (ls : Levels) →
    negated (negations_of o) (exists (lowest w o) (highest w o) (dist (many_opposite (negations_of o) f (k + 1) ls) (term.Var k))) ≡ one_written w o f k ls
one_is w one.Alw f k ls = refl
one_is w one.AlwF f k ls = refl
one_is w one.AlwP f k ls = refl
one_is w one.Som f k ls = refl
one_is w one.SomF f k ls = refl
one_is w one.SomP f k ls = refl

-- a level that was pushed and popped again
pub popped : (old : List ℕ) (x : ℕ) (mid new : List ℕ) (n : ℕ) → mid ≡ old ++ x ∷ [] → n ≡ length mid → new ≡ take (n - 1) mid → new ≡ old
popped old x mid new n pushed whole rest =
    let less : n - 1 ≡ length old = omega (arith, whole, ap length pushed, length_push old x) in
    rest ∙ ap (take (n - 1)) pushed ∙ ap (λ n. take n (old ++ x ∷ [])) less ∙ take-append_seam old (x ∷ [])
