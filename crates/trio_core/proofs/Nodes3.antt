-- The laws of three-valued truth over lists of nodes.
use Rattle.std.proofs.Common.{◌≡◌, ℕ, zero, suc, ℤ, List, [], ◌∷◌, ◌++◌, Option, None, Some, take, drop, length, slice_get, refl, ap, arith}
use Rattle.trio_types.specs.World.{World}
use Rattle.trio_types.specs.Cells.{Cell}
use Rattle.trio_types.specs.Values.{value}
use Rattle.trio_types.specs.Truth.{Truth}
use Rattle.trio_core.specs.declared.nodes.Node.{Node}
use Rattle.trio_core.specs.declared.nodes.Node.TheVariants as node
use Rattle.trio_core.specs.Core.{numbers, never, part_truth, node_truth, truths_from, truth_of_option, core_truth_from}
use Rattle.trio_core.specs.declared.nodes.Known.{Known}
use Rattle.trio_core.specs.Three.{Truth3, value3, sure, never3, part_truth3, node_truth3, truths3_from, truth3_of_option, core_truth3_by}
use Rattle.trio_core.proofs.Stays.{MoreKnown, Stays, stays_same, stays_not, stays_and, stays_or, stays_any, stays_relates, stays_distance, value3_stays}
use Rattle.trio_core.proofs.Sure.{IsKnown, sure_not, sure_and, sure_or, sure_any, sure_relates, sure_distance, value3_sure}

-- a decided truth stays
record Keeps (look less : Cell → Known ℤ) (p : Truth3) : Type 0 where
  keeps : (e : List ℤ) (i : ℕ) → Stays (p e look i) (p e less i)

record KeepsAll (look less : Cell → Known ℤ) (ps : List Truth3) : Type 0 where
  each : (a : ℕ) → Keeps look less (part_truth3 ps a)

keeps_never : (look less : Cell → Known ℤ) → Keeps look less never3
unfolding never3
keeps_never look less = record { keeps = λ e i. stays_same _ _ refl }

keeps_none : (look less : Cell → Known ℤ) → KeepsAll look less []
keeps_none look less = record { each = λ a. keeps_never look less }

keeps_push : (look less : Cell → Known ℤ) (ps : List Truth3) (p : Truth3) → KeepsAll look less ps → Keeps look less p → KeepsAll look less (ps ++ p ∷ [])
keeps_push look less ps p all last = record { each = λ a. at ps all a }
  where
    at : (ps : List Truth3) → KeepsAll look less ps → (a : ℕ) → Keeps look less (part_truth3 (ps ++ p ∷ []) a)
    at [] all zero = last
    at [] all (suc a) = keeps_never look less
    at (q ∷ qs) all zero = all.each 0
    at (q ∷ qs) all (suc a) = at qs (record { each = λ b. all.each (suc b) }) a

node_keeps : (w : World) (look less : Cell → Known ℤ) → MoreKnown look less → (ps : List Truth3) → KeepsAll look less ps → (from : ℕ) (n : Node) → Keeps look less (node_truth3 w ps from n)
node_keeps w look less more ps all from (node.Atom r x y) = record {
  keeps = λ e i. stays_relates r (value3 w x e look i) (value3 w x e less i) (value3 w y e look i) (value3 w y e less i)
      (value3_stays w look less e i more x) (value3_stays w look less e i more y);
}
node_keeps w look less more ps all from (node.Not a) = record { keeps = λ e i. stays_not _ _ ((all.each a).keeps e i) }
node_keeps w look less more ps all from (node.And a b) = record { keeps = λ e i. stays_and _ _ _ _ ((all.each a).keeps e i) ((all.each b).keeps e i) }
node_keeps w look less more ps all from (node.Or a b) = record { keeps = λ e i. stays_or _ _ _ _ ((all.each a).keeps e i) ((all.each b).keeps e i) }
node_keeps w look less more ps all from (node.Exists low high a) = record {
  keeps = λ e i. stays_any (λ z. part_truth3 ps a (e ++ z ∷ []) look i) (λ z. part_truth3 ps a (e ++ z ∷ []) less i)
      (λ z. (all.each a).keeps (e ++ z ∷ []) i) (drop from (numbers low high));
}
node_keeps w look less more ps all from (node.Dist a x) = record {
  keeps = λ e i. stays_distance w i (value3 w x e look i) (value3 w x e less i) (value3_stays w look less e i more x)
      (part_truth3 ps a e look) (part_truth3 ps a e less) (λ j. (all.each a).keeps e j);
}

nodes_keep : (w : World) (look less : Cell → Known ℤ) → MoreKnown look less → (ps : List Truth3) (ns : List Node) → KeepsAll look less ps → KeepsAll look less (truths3_from w ps ns)
nodes_keep w look less more ps [] all = all
nodes_keep w look less more ps (n ∷ ns) all =
    nodes_keep w look less more (ps ++ node_truth3 w ps 0 n ∷ []) ns (keeps_push look less ps (node_truth3 w ps 0 n) all (node_keeps w look less more ps all 0 n))

option_keeps : (w : World) (look less : Cell → Known ℤ) → MoreKnown look less → (ps : List Truth3) → KeepsAll look less ps → (from : ℕ) (o : Option Node) →
    Keeps look less (truth3_of_option w ps from o)
option_keeps w look less more ps all from None = keeps_never look less
option_keeps w look less more ps all from (Some n) = node_keeps w look less more ps all from n

pub decided_stays : (w : World) (nodes : List Node) (a from : ℕ) (look less : Cell → Known ℤ) → MoreKnown look less → (e : List ℤ) (i : ℕ) →
    Stays (core_truth3_by w nodes a from e look i) (core_truth3_by w nodes a from e less i)
unfolding core_truth3_by
decided_stays w nodes a from look less more e i =
    (option_keeps w look less more (truths3_from w [] (take a nodes)) (nodes_keep w look less more [] (take a nodes) (keeps_none look less)) from (slice_get nodes a)).keeps e i

-- where every cell is known, three-valued truth is truth
record IsSure (look : Cell → Known ℤ) (t : List ℕ) (p : Truth3) (q : Truth) : Type 0 where
  is : (e : List ℤ) (i : ℕ) → p e look i ≡ sure (q e t i)

record AreSure (look : Cell → Known ℤ) (t : List ℕ) (ps : List Truth3) (qs : List Truth) : Type 0 where
  long : length ps ≡ length qs
  each : (a : ℕ) → IsSure look t (part_truth3 ps a) (part_truth qs a)

sure_never : (look : Cell → Known ℤ) (t : List ℕ) → IsSure look t never3 never
unfolding never3 never
sure_never look t = record { is = λ e i. refl }

sure_none : (look : Cell → Known ℤ) (t : List ℕ) → AreSure look t [] []
sure_none look t = record { long = refl; each = λ a. sure_never look t }

sure_push : (look : Cell → Known ℤ) (t : List ℕ) (ps : List Truth3) (qs : List Truth) (p : Truth3) (q : Truth) → AreSure look t ps qs → IsSure look t p q →
    AreSure look t (ps ++ p ∷ []) (qs ++ q ∷ [])
sure_push look t ps qs p q all last = record { long = long ps qs all.long; each = λ a. at ps qs all.long all.each a }
  where
    long : (ps : List Truth3) (qs : List Truth) → length ps ≡ length qs → length (ps ++ p ∷ []) ≡ length (qs ++ q ∷ [])
    long [] [] same = refl
    long [] (y ∷ ys) same = absurd (omega arith)
    long (x ∷ xs) [] same = absurd (omega arith)
    long (x ∷ xs) (y ∷ ys) same = ap suc (long xs ys (omega arith))

    at : (ps : List Truth3) (qs : List Truth) → length ps ≡ length qs → ((a : ℕ) → IsSure look t (part_truth3 ps a) (part_truth qs a)) → (a : ℕ) →
        IsSure look t (part_truth3 (ps ++ p ∷ []) a) (part_truth (qs ++ q ∷ []) a)
    at [] [] same each zero = last
    at [] [] same each (suc a) = sure_never look t
    at [] (y ∷ ys) same each a = absurd (omega arith)
    at (x ∷ xs) [] same each a = absurd (omega arith)
    at (x ∷ xs) (y ∷ ys) same each zero = each 0
    at (x ∷ xs) (y ∷ ys) same each (suc a) = at xs ys (omega arith) (λ b. each (suc b)) a

node_sure : (w : World) (look : Cell → Known ℤ) (t : List ℕ) → IsKnown w look t → (ps : List Truth3) (qs : List Truth) → AreSure look t ps qs → (from : ℕ) (n : Node) →
    IsSure look t (node_truth3 w ps from n) (node_truth w qs from n)
node_sure w look t known ps qs all from (node.Atom r x y) = record {
  is = λ e i. rw (value3_sure w look t e i known x, value3_sure w look t e i known y) (sure_relates r (value w x e t i) (value w y e t i));
}
node_sure w look t known ps qs all from (node.Not a) = record { is = λ e i. rw ((all.each a).is e i) (sure_not (part_truth qs a e t i)) }
node_sure w look t known ps qs all from (node.And a b) = record {
  is = λ e i. rw ((all.each a).is e i, (all.each b).is e i) (sure_and (part_truth qs a e t i) (part_truth qs b e t i));
}
node_sure w look t known ps qs all from (node.Or a b) = record {
  is = λ e i. rw ((all.each a).is e i, (all.each b).is e i) (sure_or (part_truth qs a e t i) (part_truth qs b e t i));
}
node_sure w look t known ps qs all from (node.Exists low high a) = record {
  is = λ e i. sure_any (λ z. part_truth3 ps a (e ++ z ∷ []) look i) (λ z. part_truth qs a (e ++ z ∷ []) t i)
      (λ z. (all.each a).is (e ++ z ∷ []) i) (drop from (numbers low high));
}
node_sure w look t known ps qs all from (node.Dist a x) = record {
  is = λ e i. rw (value3_sure w look t e i known x)
      (sure_distance w i (value w x e t i) (part_truth3 ps a e look) (part_truth qs a e t) (λ j. (all.each a).is e j));
}

nodes_sure : (w : World) (look : Cell → Known ℤ) (t : List ℕ) → IsKnown w look t → (ps : List Truth3) (qs : List Truth) (ns : List Node) → AreSure look t ps qs →
    AreSure look t (truths3_from w ps ns) (truths_from w qs ns)
nodes_sure w look t known ps qs [] all = all
nodes_sure w look t known ps qs (n ∷ ns) all =
    nodes_sure w look t known (ps ++ node_truth3 w ps 0 n ∷ []) (qs ++ node_truth w qs 0 n ∷ []) ns
    (sure_push look t ps qs (node_truth3 w ps 0 n) (node_truth w qs 0 n) all (node_sure w look t known ps qs all 0 n))

option_sure : (w : World) (look : Cell → Known ℤ) (t : List ℕ) → IsKnown w look t → (ps : List Truth3) (qs : List Truth) → AreSure look t ps qs → (from : ℕ) (o : Option Node) →
    IsSure look t (truth3_of_option w ps from o) (truth_of_option w qs from o)
option_sure w look t known ps qs all from None = sure_never look t
option_sure w look t known ps qs all from (Some n) = node_sure w look t known ps qs all from n

pub single_sure : (w : World) (nodes : List Node) (a from : ℕ) (look : Cell → Known ℤ) (t : List ℕ) → IsKnown w look t → (e : List ℤ) (i : ℕ) →
    core_truth3_by w nodes a from e look i ≡ sure (core_truth_from w nodes a from e t i)
unfolding core_truth3_by core_truth_from
single_sure w nodes a from look t known e i =
    (option_sure w look t known (truths3_from w [] (take a nodes)) (truths_from w [] (take a nodes)) (nodes_sure w look t known [] [] (take a nodes) (sure_none look t)) from (slice_get nodes a)).is e i
