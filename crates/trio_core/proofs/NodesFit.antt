-- What the fact of a core says of its nodes and roots.
use Rattle.std.proofs.Common.{◌≡◌, ℕ, zero, suc, ◌+◌, ◌<◌, ◌≤◌, ℤ, Bool, true, false, ◌&&◌, nat_lt, nat_le, List, [], ◌∷◌, ◌++◌, Option, None, Some, length, slice_get, refl, sym, ap, ◌∙◌, arith}
use Rattle.std.specs.List.{list_all, enumerate_from}
use Rattle.std.specs.Ordering.{int_eq}
use Rattle.std.proofs.lemmas.Bool.{and_parts, false≢true, ltb-true, leb-true, le-leb}
use Rattle.std.proofs.lemmas.Bool.Decides.{Decides-int_eq}
use Rattle.std.proofs.lemmas.List.{length_push}
use Rattle.std.proofs.lemmas.Option.{none-some, same_Some, slice_get_within}
use Rattle.trio_base.specs.declared.operators.Rel.{Rel}
use Rattle.trio_types.specs.declared.formula.Term.{Term}
use Rattle.trio_types.specs.Parts.{declarations_of}
use Rattle.trio_types.specs.WellFormed.{is_well_formed, is_written, instant_fits}
use Rattle.trio_types.proofs.Lists.{each_of, get_within}
use Rattle.trio_types.proofs.Specs.{Formed, formed_of}
use Rattle.trio_core.specs.declared.nodes.Node.{Node}
use Rattle.trio_core.specs.declared.nodes.Node.TheVariants as node
use Rattle.trio_core.specs.declared.nodes.Root.{Root}
use Rattle.trio_core.specs.declared.nodes.Core.{Core}
use Rattle.trio_core.specs.Core.{numbers}
use Rattle.trio_core.specs.CoreShape.{Range, Ranges, same_ranges, parts_of_node, ranges_inside, ranges_round, term_fits, content_fits, parts_fit, node_fits, root_fits, is_core}
use Rattle.trio_core.specs.declared.nodes.Known.TheVariants.{One}
use Rattle.trio_core.specs.Three.{known_at, value3}
use Rattle.trio_core.specs.Stands.{world_of_core, lie_in, from_fits, NodeAsked}
use Rattle.trio_core.specs.Fits.{NodeTermFits, BodyFits}
use Rattle.trio_core.proofs.TermsFit.{lie_long, lie_more, plain_known}

-- the parts of the fact
record CoreFacts (core : Core) : Type 0 where
  declared : is_well_formed (declarations_of (world_of_core core)) ≡ true
  nodes : list_all (λ p. node_fits (world_of_core core) core.nodes p.0 p.1) (enumerate_from 0 core.nodes) ≡ true
  roots : list_all (root_fits (world_of_core core) core.nodes) core.roots ≡ true

core_facts : (core : Core) → CoreFacts core
unfolding is_core
core_facts core =
    let first = and_parts _ _ core.shaped in
    let rest = and_parts _ _ first.1 in
    record { declared = first.0; nodes = rest.0; roots = rest.1 }

pub core_formed : (core : Core) → Formed (declarations_of (world_of_core core))
core_formed core = formed_of (declarations_of (world_of_core core)) (core_facts core).declared

enumerate_at : {X : Type 0} (a : ℕ) (xs : List X) (k : ℕ) (x : X) → slice_get xs k ≡ Some x → slice_get (enumerate_from a xs) k ≡ Some (a + k, x)
enumerate_at a [] k x at = absurd (none-some x at)
enumerate_at a (y ∷ ys) zero x at = let e : a ≡ a + 0 = omega arith in ap (λ z. Some (a, z)) (same_Some y x at) ∙ ap (λ n. Some (n, x)) e
enumerate_at a (y ∷ ys) (suc k) x at = let e : (a + 1) + k ≡ a + suc k = omega arith in enumerate_at (a + 1) ys k x at ∙ ap (λ n. Some (n, x)) e

pub node_is_fit : (core : Core) (a : ℕ) (n : Node) → slice_get core.nodes a ≡ Some n → node_fits (world_of_core core) core.nodes a n ≡ true
node_is_fit core a n at =
    let e : 0 + a ≡ a = omega arith in
    each_of (λ p. node_fits (world_of_core core) core.nodes p.0 p.1) (enumerate_from 0 core.nodes) (core_facts core).nodes a (a, n)
    (enumerate_at 0 core.nodes a n at ∙ ap (λ k. Some (k, n)) e)

pub root_is_fit : (core : Core) (k : ℕ) (root : Root) → slice_get core.roots k ≡ Some root → root_fits (world_of_core core) core.nodes root ≡ true
root_is_fit core k root at = each_of (root_fits (world_of_core core) core.nodes) core.roots (core_facts core).roots k root at

-- the three parts of a node's fact
record NodeFacts (core : Core) (a : ℕ) (n : Node) : Type 0 where
  parts : parts_fit core.nodes a n ≡ true
  content : content_fits (world_of_core core) (ranges_round core.nodes a) n ≡ true
  few : length (ranges_round core.nodes a) ≤ 200

node_facts : (core : Core) (a : ℕ) (n : Node) → slice_get core.nodes a ≡ Some n → NodeFacts core a n
node_facts core a n at =
    let first = and_parts (parts_fit core.nodes a n) (content_fits (world_of_core core) (ranges_round core.nodes a) n && nat_le (length (ranges_round core.nodes a)) 200) (node_is_fit core a n at) in
    let rest = and_parts (content_fits (world_of_core core) (ranges_round core.nodes a) n) (nat_le (length (ranges_round core.nodes a)) 200) first.1 in
    record { parts = first.0; content = rest.0; few = leb-true (length (ranges_round core.nodes a)) 200 rest.1 }

same_range : (r s : Range) → r.low ≡ s.low → r.high ≡ s.high → r ≡ s
same_range r s low high = ap (λ l. record { low = l; high = r.high }) low ∙ ap (λ h. record { low = s.low; high = h }) high

pub same_ranges_true : (rs ss : Ranges) → same_ranges rs ss ≡ true → rs ≡ ss
same_ranges_true [] [] same = refl
same_ranges_true [] (s ∷ ss) same = absurd (false≢true same)
same_ranges_true (r ∷ rs) [] same = absurd (false≢true same)
same_ranges_true (r ∷ rs) (s ∷ ss) same =
    let both = and_parts (int_eq r.low s.low && int_eq r.high s.high) (same_ranges rs ss) same in
    let ends = and_parts (int_eq r.low s.low) (int_eq r.high s.high) both.0 in
    ap (λ x. x ∷ rs) (same_range r s ((Decides-int_eq r.low s.low).0 ends.0) ((Decides-int_eq r.high s.high).0 ends.1)) ∙ ap (λ xs. s ∷ xs) (same_ranges_true rs ss both.1)

-- the node that is asked for
pub asked_node : (core : Core) (a from i : ℕ) (values : List ℤ) → NodeAsked core a from i values → (n : Node) × (slice_get core.nodes a ≡ Some n)
asked_node core a from i values asked = there (slice_get core.nodes a) refl
  where
    there : (o : Option Node) → slice_get core.nodes a ≡ o → (n : Node) × (slice_get core.nodes a ≡ Some n)
    there None is = absurd (false≢true (sym (ap (from_fits from) is) ∙ asked.from_in))
    there (Some n) is = (n, is)

zero_fits : (n : Node) → from_fits 0 (Some n) ≡ true
zero_fits (node.Atom r x y) = refl
zero_fits (node.Not a) = refl
zero_fits (node.And a b) = refl
zero_fits (node.Or a b) = refl
zero_fits (node.Exists low high a) = le-leb 0 (length (numbers low high)) (omega arith)
zero_fits (node.Dist a x) = refl

pub record PartAsked (core : Core) (a p i : ℕ) (values : List ℤ) : Type 0 where
  pub asked : NodeAsked core p 0 i values
  pub before : p < a

-- a part of a node may be asked for, under values in the ranges inside the node
pub part_asked : (core : Core) (a : ℕ) (n : Node) → slice_get core.nodes a ≡ Some n → (k p : ℕ) → slice_get (parts_of_node n) k ≡ Some p → (i : ℕ) (values : List ℤ) → i < core.instants →
    lie_in values (ranges_inside n (ranges_round core.nodes a)) ≡ true → PartAsked core a p i values
part_asked core a n at k p is i values inside lie =
    let facts = node_facts core a n at in
    let both = and_parts (nat_lt p a) (same_ranges (ranges_round core.nodes p) (ranges_inside n (ranges_round core.nodes a)))
    (each_of (λ p. nat_lt p a && same_ranges (ranges_round core.nodes p) (ranges_inside n (ranges_round core.nodes a))) (parts_of_node n) facts.parts k p is) in
    let before = ltb-true p a both.0 in
    let m = get_within core.nodes p (omega (arith, before, slice_get_within core.nodes a n at)) in
    record {
      asked = record {
        inside = inside;
        from_in = ap (from_fits 0) m.1 ∙ zero_fits m.0;
        values_in = ap (lie_in values) (same_ranges_true (ranges_round core.nodes p) (ranges_inside n (ranges_round core.nodes a)) both.1) ∙ lie;
      };
      before = before;
    }

-- terms of nodes
fitting : (core : Core) (a : ℕ) (values : List ℤ) (reads : Bool) (x : Term) → lie_in values (ranges_round core.nodes a) ≡ true → term_fits (world_of_core core) (ranges_round core.nodes a) reads x ≡ true →
    NodeTermFits (world_of_core core) x values
fitting core a values reads x lie fits = record { ranges = ranges_round core.nodes a; reads = reads; fits = fits; values_in = lie }

pub atom_terms : (core : Core) (a : ℕ) (r : Rel) (x y : Term) (values : List ℤ) → slice_get core.nodes a ≡ Some (node.Atom r x y) → lie_in values (ranges_round core.nodes a) ≡ true →
    NodeTermFits (world_of_core core) x values × NodeTermFits (world_of_core core) y values
atom_terms core a r x y values at lie =
    let both = and_parts (term_fits (world_of_core core) (ranges_round core.nodes a) true x) (term_fits (world_of_core core) (ranges_round core.nodes a) true y) (node_facts core a (node.Atom r x y) at).content in
    (fitting core a values true x lie both.0, fitting core a values true y lie both.1)

pub dist_term : (core : Core) (a p : ℕ) (x : Term) (values : List ℤ) → slice_get core.nodes a ≡ Some (node.Dist p x) → lie_in values (ranges_round core.nodes a) ≡ true → NodeTermFits (world_of_core core) x values
dist_term core a p x values at lie = fitting core a values false x lie (node_facts core a (node.Dist p x) at).content

-- a distance is known
pub dist_known : (core : Core) (a p : ℕ) (x : Term) (values : List ℤ) (sets : List ℕ) (i : ℕ) → slice_get core.nodes a ≡ Some (node.Dist p x) → lie_in values (ranges_round core.nodes a) ≡ true →
    (z : ℤ) × (value3 (world_of_core core) x values (known_at (world_of_core core) sets) i ≡ One z)
unfolding fitting
dist_known core a p x values sets i at lie =
    plain_known (world_of_core core) sets x values i (fitting core a values false x lie (node_facts core a (node.Dist p x) at).content) refl

-- an Exists
pub exists_body : (core : Core) (a from i : ℕ) (values : List ℤ) (low high : ℤ) (p : ℕ) → NodeAsked core a from i values → slice_get core.nodes a ≡ Some (node.Exists low high p) → BodyFits core low high p from i values
exists_body core a from i values low high p asked at =
    let n = node.Exists low high p in
    let facts = node_facts core a n at in
    let ends = and_parts (is_written low) (is_written high) facts.content in
    let part = and_parts (nat_lt p a) (same_ranges (ranges_round core.nodes p) (ranges_inside n (ranges_round core.nodes a)))
    (each_of (λ p. nat_lt p a && same_ranges (ranges_round core.nodes p) (ranges_inside n (ranges_round core.nodes a))) (p ∷ []) facts.parts 0 p refl) in
    let m = get_within core.nodes p (omega (arith, ltb-true p a part.0, slice_get_within core.nodes a n at)) in
    let round = ap length (same_ranges_true (ranges_round core.nodes p) (ranges_inside n (ranges_round core.nodes a)) part.1) in
    record {
      low_near = ends.0;
      high_near = ends.1;
      from_in = leb-true from (length (numbers low high)) (sym (ap (from_fits from) at) ∙ asked.from_in);
      room = omega (arith, round, length_push (ranges_round core.nodes a) (record { low = low; high = high }), (node_facts core p m.0 m.1).few, lie_long values (ranges_round core.nodes a) asked.values_in);
      body = λ z from_low to_high. (part_asked core a n at 0 p refl i (values ++ z ∷ []) asked.inside (lie_more values (ranges_round core.nodes a) z low high asked.values_in from_low to_high)).asked;
    }

pub exists_before : (core : Core) (a : ℕ) (low high : ℤ) (p : ℕ) → slice_get core.nodes a ≡ Some (node.Exists low high p) → p < a
exists_before core a low high p at =
    let n = node.Exists low high p in
    ltb-true p a (and_parts (nat_lt p a) (same_ranges (ranges_round core.nodes p) (ranges_inside n (ranges_round core.nodes a)))
    (each_of (λ p. nat_lt p a && same_ranges (ranges_round core.nodes p) (ranges_inside n (ranges_round core.nodes a))) (p ∷ []) (node_facts core a n at).parts 0 p refl)).0

-- roots
pub root_asked : (core : Core) (root : Root) (i : ℕ) → root_fits (world_of_core core) core.nodes root ≡ true → i < core.instants → NodeAsked core root.node 0 i []
root_asked core root i fits inside =
    let first = and_parts (nat_lt root.node (length core.nodes)) (same_ranges (ranges_round core.nodes root.node) [] && instant_fits core.instants root.at) fits in
    let rest = and_parts (same_ranges (ranges_round core.nodes root.node) []) (instant_fits core.instants root.at) first.1 in
    let m = get_within core.nodes root.node (ltb-true root.node (length core.nodes) first.0) in
    record {
      inside = inside;
      from_in = ap (from_fits 0) m.1 ∙ zero_fits m.0;
      values_in = ap (lie_in []) (same_ranges_true (ranges_round core.nodes root.node) [] rest.0);
    }

pub root_instant : (core : Core) (root : Root) (i : ℕ) → root_fits (world_of_core core) core.nodes root ≡ true → root.at ≡ Some i → i < core.instants
root_instant core root i fits at =
    let first = and_parts (nat_lt root.node (length core.nodes)) (same_ranges (ranges_round core.nodes root.node) [] && instant_fits core.instants root.at) fits in
    let rest = and_parts (same_ranges (ranges_round core.nodes root.node) []) (instant_fits core.instants root.at) first.1 in
    ltb-true i core.instants (sym (ap (instant_fits core.instants) at) ∙ rest.1)
