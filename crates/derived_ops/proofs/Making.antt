-- The rewriting of a specification makes a core, and it stands for the specification.
use Rattle.std.proofs.Common.{◌≡◌, ℕ, zero, suc, ◌+◌, ◌<◌, ◌≤◌, Bool, true, ◌&&◌, nat_lt, List, [], ◌∷◌, ◌++◌, length, map, take, get_or, slice_get, slice_index_or, Some, refl, sym, ap, subst, ◌∙◌, arith}
use Rattle.std.specs.List.{list_all, flat_map, enumerate_from}
use Rattle.std.specs.Option.{option_map}
use Rattle.std.proofs.lemmas.Bool.{and_parts, and_from, lt-ltb, false≢true}
use Rattle.std.proofs.lemmas.List.{append_assoc, append-nil, length-append, take_more}
use Rattle.std.proofs.lemmas.Option.{none-some, same_Some, slice_get-map}
use Rattle.trio_types.specs.declared.spec.Which.TheVariants as which
use Rattle.trio_types.specs.declared.spec.DomainKind.{DomainKind}
use Rattle.trio_types.specs.declared.spec.DomainKind.TheVariants as kind
use Rattle.trio_types.specs.declared.spec.Domain.{Domain}
use Rattle.trio_types.specs.declared.spec.Item.{Item}
use Rattle.trio_types.specs.declared.spec.Axiom.{Axiom}
use Rattle.trio_types.specs.declared.spec.Spec.{Spec}
use Rattle.trio_types.specs.World.{World}
use Rattle.trio_types.specs.Parts.{Parts, world_of_parts, claims_of, declarations_of}
use Rattle.trio_types.specs.Kinds.{is_right, item_uses, uses}
use Rattle.trio_types.specs.Bounds.{greatest_bound}
use Rattle.trio_types.specs.Nest.{nest_of, item_nest}
use Rattle.trio_types.specs.WellFormed.{has_bool, is_well_formed, instant_fits}
use Rattle.trio_types.specs.Verdict.{parts_of, world_of}
use Rattle.trio_types.proofs.Lists.{all_left, all_right, all_flat, get_left, get_right}
use Rattle.trio_types.proofs.Specs.{Formed, formed, some_instant, few_instants, domain_fits, within_limit}
use Rattle.trio_types.proofs.Declared.{declarations_formed}
use Rattle.trio_types.proofs.Reading.{greatest_above}
use Rattle.trio_core.specs.declared.nodes.Node.{Node}
use Rattle.trio_core.specs.declared.nodes.Root.{Root}
use Rattle.trio_core.specs.declared.nodes.Core.{Core}
use Rattle.trio_core.specs.Core.{core_truth}
use Rattle.trio_core.specs.CoreShape.{Ranges, same_ranges, ranges_of, node_fits, root_fits, is_core}
use Rattle.trio_core.specs.Stands.{world_of_core, RootStandsFor, StandsFor}
use Rattle.trio_core.proofs.Flat.{core_truth_kept}
use Rattle.derived_ops.specs.Shape.{before_last, nodes_of}
use Rattle.derived_ops.specs.declared.writer.Writer.{Writer}
use Rattle.derived_ops.specs.Rewriting.{written}
use Rattle.derived_ops.specs.Adding.{AddsShape}
use Rattle.derived_ops.specs.Rewritten.{core_shape, nodes_of_axioms, roots_of_axioms, IsRewriting}
use Rattle.derived_ops.proofs.Told.{shape_truth, length-nodes_of, core_told}
use Rattle.derived_ops.proofs.Keeps.{written_keeps}
use Rattle.derived_ops.proofs.Rounds.{rounds_of, rounds_of_axioms, length-rounds_of, all_rounded}
use Rattle.derived_ops.proofs.Placed.{ShapeFits, fits_by, Placed, placed_left, placed_right, last_placed, AllFit, both_fit, all_fit}
use Rattle.derived_ops.proofs.WrittenFits.{Grounded, shape_fits}

-- one axiom more
pub nodes_more : (w : World) (n : ℕ) (axioms : List Axiom) (a : Axiom) →
    nodes_of_axioms w n (axioms ++ a ∷ []) ≡ nodes_of_axioms w n axioms ++ nodes_of (core_shape w a.formula) (n + length (nodes_of_axioms w n axioms))
nodes_more w n [] a = let same : n ≡ n + 0 = omega arith in append-nil (nodes_of (core_shape w a.formula) n) ∙ ap (nodes_of (core_shape w a.formula)) same
nodes_more w n (x ∷ axioms) a =
    let s = core_shape w x.formula in
    let m = n + before_last s + 1 in
    let rest = nodes_of_axioms w m axioms in
    let same : m + length rest ≡ n + length (nodes_of s n ++ rest) = omega (arith, length-append (nodes_of s n) rest, length-nodes_of s n) in
    ap (λ ns. nodes_of s n ++ ns) (nodes_more w m axioms a ∙ ap (λ k. rest ++ nodes_of (core_shape w a.formula) k) same)
    ∙ sym (append_assoc (nodes_of s n) rest (nodes_of (core_shape w a.formula) (n + length (nodes_of s n ++ rest))))

pub roots_more : (w : World) (n : ℕ) (axioms : List Axiom) (a : Axiom) →
    roots_of_axioms w n (axioms ++ a ∷ [])
    ≡ roots_of_axioms w n axioms ++ record { node = n + length (nodes_of_axioms w n axioms) + before_last (core_shape w a.formula); at = a.at } ∷ []
roots_more w n [] a =
    let same : n ≡ n + 0 = omega arith in
    ap (λ (k : ℕ). let r : Root = record { node = k + before_last (core_shape w a.formula); at = a.at } in r ∷ []) same
roots_more w n (x ∷ axioms) a =
    let s = core_shape w x.formula in
    let m = n + before_last s + 1 in
    let rest = nodes_of_axioms w m axioms in
    let same : m + length rest ≡ n + length (nodes_of s n ++ rest) = omega (arith, length-append (nodes_of s n) rest, length-nodes_of s n) in
    ap (λ rs. record { node = n + before_last s; at = x.at } ∷ rs)
    (roots_more w m axioms a
    ∙ ap (λ (k : ℕ). let r : Root = record { node = k + before_last (core_shape w a.formula); at = a.at } in roots_of_axioms w m axioms ++ r ∷ []) same)

-- one step over the axioms
pub step_nodes : (w : World) (axioms : List Axiom) (i : ℕ) (a : Axiom) (old mid : Writer) (node : ℕ) → i < length axioms → a ≡ get_or axioms i a →
    old.nodes.items ≡ nodes_of_axioms w 0 (take i axioms) → old.levels.items ≡ [] → AddsShape (written w a.formula 0 old.levels.items) old mid node →
    mid.nodes.items ≡ nodes_of_axioms w 0 (take (i + 1) axioms)
step_nodes w axioms i a old mid node inside is nodes levels adds =
    let xs = take i axioms in
    let all = nodes_of_axioms w 0 xs in
    let same : length all ≡ 0 + length all = omega arith in
    adds.nodes ∙ ap (λ ls. old.nodes.items ++ nodes_of (written w a.formula 0 ls) (length old.nodes.items)) levels
    ∙ ap (λ ns. ns ++ nodes_of (core_shape w a.formula) (length ns)) nodes ∙ ap (λ m. all ++ nodes_of (core_shape w a.formula) m) same
    ∙ sym (nodes_more w 0 xs a) ∙ ap (λ a. nodes_of_axioms w 0 (xs ++ a ∷ [])) is ∙ ap (nodes_of_axioms w 0) (sym (take_more axioms i a inside))

pub step_roots : (w : World) (axioms : List Axiom) (i : ℕ) (a : Axiom) (old mid : Writer) (node : ℕ) (roots : List Root) → i < length axioms → a ≡ get_or axioms i a →
    old.nodes.items ≡ nodes_of_axioms w 0 (take i axioms) → old.levels.items ≡ [] → AddsShape (written w a.formula 0 old.levels.items) old mid node →
    roots ≡ roots_of_axioms w 0 (take i axioms) → roots ++ record { node = node; at = a.at } ∷ [] ≡ roots_of_axioms w 0 (take (i + 1) axioms)
step_roots w axioms i a old mid node roots inside is nodes levels adds so_far =
    let xs = take i axioms in
    let place : node ≡ 0 + length (nodes_of_axioms w 0 xs) + before_last (core_shape w a.formula) =
    omega (arith, adds.place, ap length nodes, ap (λ ls. before_last (written w a.formula 0 ls)) levels) in
    ap (λ rs. rs ++ record { node = node; at = a.at } ∷ []) so_far
    ∙ ap (λ (k : ℕ). let r : Root = record { node = k; at = a.at } in roots_of_axioms w 0 xs ++ r ∷ []) place
    ∙ sym (roots_more w 0 xs a) ∙ ap (λ a. roots_of_axioms w 0 (xs ++ a ∷ [])) is ∙ ap (roots_of_axioms w 0) (sym (take_more axioms i a inside))

-- what a specification gives
abbrev parts_with : Parts → List Domain → Parts
parts_with p ds = record { instants = p.instants; domains = ds; items = p.items; axioms = p.axioms; goals = p.goals }

abbrev named : Domain → DomainKind → Domain
named d k = record { name = d.name; kind = k }

first_kind : (p : Parts) (d : Domain) (ds : List Domain) (k : DomainKind) → has_bool (parts_with p (named d k ∷ ds)) ≡ true → k ≡ kind.Bool
first_kind p d ds kind.Bool first = refl
first_kind p d ds (kind.Range low high) first = absurd (false≢true (and_parts _ _ first).1)
first_kind p d ds (kind.Words words) first = absurd (false≢true (and_parts _ _ first).1)

bool_first : (p : Parts) (ds : List Domain) → p.domains ≡ ds → has_bool p ≡ true → (first : Domain) × (slice_get p.domains 0 ≡ Some first) × (first.kind ≡ kind.Bool)
bool_first p [] is first = absurd (false≢true (subst (λ ds. has_bool (parts_with p ds) ≡ true) is first))
bool_first p (d ∷ ds) is first = (d, ap (λ ds. slice_get ds 0) is, first_kind p d ds d.kind (subst (λ ds. has_bool (parts_with p ds) ≡ true) is first))

grounded : (p : Parts) → Formed p → Grounded (world_of_parts p)
grounded p f = record {
  some = some_instant p f;
  few = few_instants p f;
  truth = bool_first p p.domains refl f.bool_first;
  domains = domain_fits p f;
}

axiom_fits : (p : Parts) → Formed p → (k : ℕ) (a : Axiom) → slice_get p.axioms k ≡ Some a → ShapeFits (world_of_parts p) (core_shape (world_of_parts p) a.formula) []
axiom_fits p f k a at =
    let w = world_of_parts p in
    let there = get_left p.axioms p.goals k a at in
    let bounds = map (λ (a : Axiom). greatest_bound w a.formula []) (claims_of p) in
    let nests = map (λ (a : Axiom). (nest_of a.formula).plain) (claims_of p) in
    let claims_right = all_right is_right (flat_map (item_uses w) p.items) (flat_map (λ (a : Axiom). uses w a.formula []) (claims_of p)) f.kinds in
    let bound = greatest_above bounds k (greatest_bound w a.formula [])
    (slice_get-map (λ (a : Axiom). greatest_bound w a.formula []) (claims_of p) k ∙ ap (option_map (λ (a : Axiom). greatest_bound w a.formula [])) there) in
    let nest_at = slice_get-map (λ (a : Axiom). (nest_of a.formula).plain) (claims_of p) k ∙ ap (option_map (λ (a : Axiom). (nest_of a.formula).plain)) there in
    let nest = greatest_above (map item_nest p.items ++ nests) (length (map item_nest p.items) + k) (nest_of a.formula).plain (get_right (map item_nest p.items) nests k ∙ nest_at) in
    shape_fits w (grounded p f) a.formula (all_flat is_right (λ (a : Axiom). uses w a.formula []) (claims_of p) claims_right k a there)
    (omega (arith, bound, within_limit p f which.Bound)) (omega (arith, nest, within_limit p f which.Nest))

-- each node and root of the axioms
nodes_fit : (w : World) (rounds : List Ranges) (axioms : List Axiom) (n : ℕ) → Placed rounds n (rounds_of_axioms w axioms) →
    ((k : ℕ) (a : Axiom) → slice_get axioms k ≡ Some a → ShapeFits w (core_shape w a.formula) []) → AllFit w rounds n (nodes_of_axioms w n axioms)
nodes_fit w rounds [] n placed fits = refl
nodes_fit w rounds (a ∷ axioms) n placed fits =
    let s = core_shape w a.formula in
    let m = n + before_last s + 1 in
    both_fit w rounds n m (nodes_of s n) (nodes_of_axioms w m axioms) (omega (arith, length-nodes_of s n))
    (all_fit w rounds s n [] (placed_left rounds n (rounds_of s []) (rounds_of_axioms w axioms) placed) (fits 0 a refl))
    (nodes_fit w rounds axioms m (placed_right rounds n m (rounds_of s []) (rounds_of_axioms w axioms) (omega (arith, length-rounds_of s [])) placed) (λ k a at. fits (suc k) a at))

abbrev root_by : World → ℕ → List Ranges → Root → Bool
root_by w total rounds root = nat_lt root.node total && (same_ranges (slice_index_or rounds root.node []) [] && instant_fits w.instants root.at)

roots_fit : (w : World) (rounds : List Ranges) (total : ℕ) (axioms : List Axiom) (n : ℕ) → Placed rounds n (rounds_of_axioms w axioms) → n + length (nodes_of_axioms w n axioms) ≤ total →
    list_all (λ (a : Axiom). instant_fits w.instants a.at) axioms ≡ true → list_all (root_by w total rounds) (roots_of_axioms w n axioms) ≡ true
roots_fit w rounds total [] n placed enough inside = refl
roots_fit w rounds total (a ∷ axioms) n placed enough inside =
    let s = core_shape w a.formula in
    let at = n + before_last s in
    let m = at + 1 in
    let r : Root = record { node = at; at = a.at } in
    let parts = and_parts (instant_fits w.instants a.at) (list_all (λ (a : Axiom). instant_fits w.instants a.at) axioms) inside in
    let more = length-append (nodes_of s n) (nodes_of_axioms w m axioms) in
    let own = last_placed rounds s n [] (placed_left rounds n (rounds_of s []) (rounds_of_axioms w axioms) placed) in
    and_from (root_by w total rounds r) (list_all (root_by w total rounds) (roots_of_axioms w m axioms))
    (and_from (nat_lt at total) (same_ranges (slice_index_or rounds at []) [] && instant_fits w.instants a.at) (lt-ltb at total (omega (arith, enough, more, length-nodes_of s n)))
    (and_from (same_ranges (slice_index_or rounds at []) []) (instant_fits w.instants a.at) (ap (λ rs. same_ranges rs []) own) parts.0))
    (roots_fit w rounds total axioms m (placed_right rounds n m (rounds_of s []) (rounds_of_axioms w axioms) (omega (arith, length-rounds_of s [])) placed)
    (omega (arith, enough, more, length-nodes_of s n)) parts.1)

pub core_is : (spec : Spec) (domains : List Domain) (items : List Item) (nodes : List Node) (roots : List Root) → domains ≡ spec.domains → items ≡ spec.items →
    nodes ≡ nodes_of_axioms (world_of spec) 0 spec.axioms → roots ≡ roots_of_axioms (world_of spec) 0 spec.axioms →
    is_core (record { instants = spec.instants; domains = domains; items = items; nodes = nodes; roots = roots }) ≡ true
unfolding is_core ranges_of
core_is spec domains items nodes roots same_domains same_items same_nodes same_roots =
    let w = world_of spec in
    let f = formed spec in
    let all = nodes_of_axioms w 0 spec.axioms in
    let rounds = rounds_of_axioms w spec.axioms in
    let ranges : ranges_of all ≡ rounds = all_rounded w spec.axioms 0 in
    let placed : Placed rounds 0 rounds = record { at = λ k x at. let same : 0 + k ≡ k = omega arith in ap (slice_get rounds) same ∙ at } in
    rw (same_domains, same_items, same_nodes, same_roots)
    (and_from (is_well_formed (declarations_of w))
    (list_all (λ p. node_fits w all p.0 p.1) (enumerate_from 0 all) && list_all (root_fits w all) (roots_of_axioms w 0 spec.axioms)) (declarations_formed spec)
    (and_from (list_all (λ p. node_fits w all p.0 p.1) (enumerate_from 0 all)) (list_all (root_fits w all) (roots_of_axioms w 0 spec.axioms))
    (ap (λ rounds. list_all (λ (p : ℕ × Node). fits_by w rounds p.0 p.1) (enumerate_from 0 all)) ranges
    ∙ nodes_fit w rounds spec.axioms 0 placed (axiom_fits (parts_of spec) f))
    (ap (λ rounds. list_all (root_by w (length all) rounds) (roots_of_axioms w 0 spec.axioms)) ranges
    ∙ roots_fit w rounds (length all) spec.axioms 0 placed (omega arith) (all_left (λ (a : Axiom). instant_fits spec.instants a.at) spec.axioms spec.goals f.at))))

-- each root has its axiom's truth
record RootIs (w : World) (nodes : List Node) (root : Root) (a : Axiom) : Type 0 where
  at : root.at ≡ a.at
  told : core_truth w nodes root.node ≡ shape_truth w (core_shape w a.formula)

each_root : (w : World) (axioms : List Axiom) (before : List Node) (n : ℕ) → n ≡ length before → (k : ℕ) (root : Root) (a : Axiom) →
    slice_get (roots_of_axioms w n axioms) k ≡ Some root → slice_get axioms k ≡ Some a → RootIs w (before ++ nodes_of_axioms w n axioms) root a
each_root w [] before n is k root a rt ct = absurd (none-some a ct)
each_root w (x ∷ axioms) before n is zero root a rt ct =
    let s = core_shape w x.formula in
    let rest = nodes_of_axioms w (n + before_last s + 1) axioms in
    let r : Root = record { node = n + before_last s; at = x.at } in
    let front = before ++ nodes_of s n in
    let inside : n + before_last s < length front = omega (arith, is, length-append before (nodes_of s n), length-nodes_of s n) in
    let here : core_truth w (before ++ nodes_of s n) (n + before_last s) ≡ shape_truth w s =
    ap (λ m. core_truth w (before ++ nodes_of s m) (m + before_last s)) is ∙ core_told w before s in
    let whole : core_truth w (before ++ (nodes_of s n ++ rest)) (n + before_last s) ≡ shape_truth w s =
    ap (λ ns. core_truth w ns (n + before_last s)) (sym (append_assoc before (nodes_of s n) rest)) ∙ core_truth_kept w front rest (n + before_last s) inside ∙ here in
    let first : RootIs w (before ++ (nodes_of s n ++ rest)) r x = record { at = refl; told = whole } in
    let of_root : RootIs w (before ++ (nodes_of s n ++ rest)) root x = subst (λ root. RootIs w (before ++ (nodes_of s n ++ rest)) root x) (same_Some r root rt) first in
    subst (λ a. RootIs w (before ++ (nodes_of s n ++ rest)) root a) (same_Some x a ct) of_root
each_root w (x ∷ axioms) before n is (suc k) root a rt ct =
    let s = core_shape w x.formula in
    let m = n + before_last s + 1 in
    subst (λ ns. RootIs w ns root a) (append_assoc before (nodes_of s n) (nodes_of_axioms w m axioms))
    (each_root w axioms (before ++ nodes_of s n) m (omega (arith, is, length-append before (nodes_of s n), length-nodes_of s n)) k root a rt ct)

as_many_roots : (w : World) (axioms : List Axiom) (n : ℕ) → length (roots_of_axioms w n axioms) ≡ length axioms
as_many_roots w [] n = refl
as_many_roots w (x ∷ axioms) n = omega (arith, as_many_roots w axioms (n + before_last (core_shape w x.formula) + 1))

pub stands : (core : Core) (spec : Spec) → core.instants ≡ spec.instants → core.domains ≡ spec.domains → core.items ≡ spec.items → IsRewriting core spec → StandsFor core spec
stands core spec instants domains items rewriting = record {
  instants = instants;
  domains = domains;
  items = items;
  as_many = ap length rewriting.roots ∙ as_many_roots (world_of spec) spec.axioms 0;
  each = λ k root claim rt ct.
      let w = world_of spec in
      let is = each_root w spec.axioms [] 0 refl k root claim (ap (λ rs. slice_get rs k) (sym rewriting.roots) ∙ rt) ct in
      let mine : RootStandsFor w core.nodes root claim = record {
        at = is.at;
        same = λ table i inside.
            ap (λ ns. core_truth w ns root.node [] table i) rewriting.nodes ∙ ap (λ p. p [] table i) is.told ∙ written_keeps w claim.formula table i inside;
      } in
      subst (λ w. RootStandsFor w core.nodes root claim) (sym same_world) mine;
}
  where
    same_world : world_of_core core ≡ world_of spec
    same_world = rw (instants, domains, items) refl
