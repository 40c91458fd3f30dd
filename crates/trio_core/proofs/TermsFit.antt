-- Terms that fit: their values are within their bounds, and without reads they are known.
use Rattle.std.proofs.Common.{◌≡◌, ℕ, zero, suc, ◌*◌, ◌<◌, ◌≤◌, ℤ, pos, neg_ℤ, ◌+ℤ◌, ◌-ℤ◌, ◌*ℤ◌, ◌≤ℤ◌, nat_abs, Bool, true, false, ◌&&◌, if◌then◌else◌, nat_le, List, [], ◌∷◌, ◌++◌, map, length, take, sum, Option, None, Some, slice_get, slice_index_or, int_le, refl, sym, ap, ◌∙◌, arith}
use Rattle.std.specs.List.{list_all}
use Rattle.std.specs.Option.{option_map}
use Rattle.std.proofs.Math.Nat.{mul-le-mul_left}
use Rattle.std.proofs.lemmas.Bool.{and_parts, and_from, false≢true, ltb-true, leb-true, le-leb, eqb-true}
use Rattle.std.proofs.lemmas.Int.{unsigned_abs-mul}
use Rattle.std.proofs.lemmas.List.Sums.{sum_by-take-le, sum-map}
use Rattle.std.proofs.lemmas.Option.{none-some, same_Some, slice_get-map, slice_get-get_or}
use Rattle.trio_types.specs.declared.spec.DomainKind.TheVariants as kind
use Rattle.trio_types.specs.declared.spec.Item.{Item}
use Rattle.trio_types.specs.declared.formula.SignedTerm.{SignedTerm, out-SignedTerm}
use Rattle.trio_types.specs.declared.formula.Term.{Term}
use Rattle.trio_types.specs.declared.formula.Term.TheVariants as term
use Rattle.trio_types.specs.World.{World, at_least_zero}
use Rattle.trio_types.specs.Cells.{Cell, the_cell}
use Rattle.trio_types.specs.Values.{read_cell, cell_of_item, indexes}
use Rattle.trio_types.specs.Kinds.{is_arity}
use Rattle.trio_types.specs.Bounds.{Bound, bounded, most_of, domain_bound, item_bound}
use Rattle.trio_types.proofs.Domains.{from_first, at_integers}
use Rattle.trio_types.proofs.Integers.{Decides-int_le}
use Rattle.trio_types.proofs.Lists.{each_of, map-map, map_some}
use Rattle.trio_types.proofs.CellNumbers.{values_from_item}
use Rattle.trio_types.proofs.Reading.{greatest_above, domain_above, constant_value}
use Rattle.trio_core.specs.declared.nodes.Known.{Known}
use Rattle.trio_core.specs.declared.nodes.Known.TheVariants.{One}
use Rattle.trio_core.specs.Core.{numbers}
use Rattle.trio_core.specs.CoreShape.{Range, Ranges, range_bound, reaches, bound_by}
use Rattle.trio_core.specs.Three.{known_then, known_all, known_of_cell, known_sum, known_map, known_at, value3}
use Rattle.trio_core.specs.Stands.{lie_in}
use Rattle.trio_core.specs.Fits.{NodeTermFits, IsKnownNear}
use Rattle.trio_types.proofs.Inductions.{Each, term_of, every_term}
use Rattle.trio_core.proofs.TermsAt.{reaches-Value, reaches-Var, reaches-Read, reaches-Sum, reaches-Times, bound_by-Number, bound_by-Value, bound_by-Var, bound_by-Read, bound_by-Sum, bound_by-Times}
use Rattle.trio_core.proofs.Value3At.{signed_value3, value3-Number, value3-Value, value3-Var, value3-Read, value3-Sum, value3-Times}
use Rattle.trio_core.proofs.KnownAt.{same_One, map_one, then_one, read_one, known_at_one, signed_one, sum_small, each_one, value_if_known, all_one}

-- values of variables and their ranges
pub lie_long : (zs : List ℤ) (rs : Ranges) → lie_in zs rs ≡ true → length zs ≡ length rs
lie_long [] [] lie = refl
lie_long [] (r ∷ rs) lie = absurd (false≢true lie)
lie_long (z ∷ zs) [] lie = absurd (false≢true lie)
lie_long (z ∷ zs) (r ∷ rs) lie = ap suc (lie_long zs rs (and_parts (int_le r.low z && int_le z r.high) (lie_in zs rs) lie).1)

within_range : (r : Range) (z : ℤ) → r.low ≤ℤ z → z ≤ℤ r.high → nat_abs z ≤ range_bound r
within_range r z low high =
    let m = from_first (kind.Range r.low r.high) z (low, high) in
    let at = at_integers r.low (at_least_zero ((r.high +ℤ pos 1) -ℤ r.low)) m.0 m.1 in
    greatest_above (map nat_abs (numbers r.low r.high)) m.0 (nat_abs z)
    (slice_get-map nat_abs (numbers r.low r.high) m.0 ∙ ap (option_map nat_abs) at ∙ ap (λ y. Some (nat_abs y)) (sym m.2))

pub lie_bounded : (zs : List ℤ) (rs : Ranges) → lie_in zs rs ≡ true → (k : ℕ) (z : ℤ) → slice_get zs k ≡ Some z → nat_abs z ≤ slice_index_or (map range_bound rs) k 0
lie_bounded [] rs lie k z at = absurd (none-some z at)
lie_bounded (y ∷ ys) [] lie k z at = absurd (false≢true lie)
lie_bounded (y ∷ ys) (r ∷ rs) lie zero z at =
    let both = and_parts (int_le r.low y) (int_le y r.high) (and_parts (int_le r.low y && int_le y r.high) (lie_in ys rs) lie).0 in
    rw (← same_Some y z at) (within_range r y ((Decides-int_le r.low y).0 both.0) ((Decides-int_le y r.high).0 both.1))
lie_bounded (y ∷ ys) (r ∷ rs) lie (suc k) z at = lie_bounded ys rs (and_parts (int_le r.low y && int_le y r.high) (lie_in ys rs) lie).1 k z at

pub lie_more : (zs : List ℤ) (rs : Ranges) (z low high : ℤ) → lie_in zs rs ≡ true → low ≤ℤ z → z ≤ℤ high → lie_in (zs ++ z ∷ []) (rs ++ record { low = low; high = high } ∷ []) ≡ true
lie_more [] [] z low high lie from to = and_from (int_le low z && int_le z high) true (and_from (int_le low z) (int_le z high) ((Decides-int_le low z).1 from) ((Decides-int_le z high).1 to)) refl
lie_more [] (r ∷ rs) z low high lie from to = absurd (false≢true lie)
lie_more (y ∷ ys) [] z low high lie from to = absurd (false≢true lie)
lie_more (y ∷ ys) (r ∷ rs) z low high lie from to =
    let both = and_parts (int_le r.low y && int_le y r.high) (lie_in ys rs) lie in
    and_from (int_le r.low y && int_le y r.high) (lie_in (ys ++ z ∷ []) (rs ++ record { low = low; high = high } ∷ [])) both.0 (lie_more ys rs z low high both.1 from to)

-- what is known of a term's value is within its bound
record Small (w : World) (bounds : List ℕ) (e : List ℤ) (look : Cell → Known ℤ) (i : ℕ) (x : Term) : Type 0 where
  small : (reads : Bool) → reaches w x (length e) reads ≡ true → (z : ℤ) → value3 w x e look i ≡ One z → nat_abs z ≤ (bound_by w bounds x).own

-- variables are within their bounds, and what is known of cells within those of their items
record Bounds (w : World) (bounds : List ℕ) (e : List ℤ) (look : Cell → Known ℤ) : Type 0 where
  variable : (k : ℕ) (z : ℤ) → slice_get e k ≡ Some z → nat_abs z ≤ slice_index_or bounds k 0
  cell : (c : Cell) (item : Item) (z : ℤ) → slice_get w.items c.item ≡ Some item → look c ≡ One z → nat_abs z ≤ domain_bound w item.value

own_is : (b : Bound) (own parts : ℕ) → b ≡ bounded own parts → b.own ≡ own
own_is b own parts is = ap (λ (b : Bound). b.own) is

abbrev part_own : World → List ℕ → SignedTerm → ℕ
part_own w bounds p = (bound_by w bounds (term_of p)).own

each_part : (w : World) (bounds : List ℕ) (e : List ℤ) (look : Cell → Known ℤ) (i : ℕ) (reads : Bool) (ps : List SignedTerm) → Each (λ p. Small w bounds e look i (term_of p)) ps →
    list_all (λ p. reaches w (term_of p) (length e) reads) ps ≡ true → Each (λ p. (z : ℤ) → signed_value3 w p e look i ≡ One z → nat_abs z ≤ part_own w bounds p) ps
each_part w bounds e look i reads [] each all = tt
each_part w bounds e look i reads (p ∷ ps) each all =
    let both = and_parts (reaches w (term_of p) (length e) reads) (list_all (λ p. reaches w (term_of p) (length e) reads) ps) all in (
      λ z is. let s = signed_one (out-SignedTerm p).minus (value3 w (term_of p) e look i) z is in omega (arith, each.0.small reads both.0 s.0 s.1, s.2),
      each_part w bounds e look i reads ps each.1 both.1,
    )

value_small : (w : World) (bounds : List ℕ) (e : List ℤ) (look : Cell → Known ℤ) (i : ℕ) → Bounds w bounds e look → (x : Term) → Small w bounds e look i x
value_small w bounds e look i all = every_term (Small w bounds e look i) (record {
  at_number = λ n. record {
    small = λ reads r z is. let same = same_One (pos n) z (sym (value3-Number w n e look i) ∙ is) in
        omega (arith, own_is _ n 0 (bound_by-Number w bounds n), ap nat_abs (sym same));
  };
  at_value = λ d v. record {
    small = λ reads r z is. let same = same_One (pos v) z (sym (value3-Value w d v e look i) ∙ is) in
        let has = sym (reaches-Value w d v (length e) reads) ∙ r in
        omega (arith, own_is _ (domain_bound w d) 0 (bound_by-Value w bounds d v), ap nat_abs (sym same), domain_above w d v (pos v) (constant_value w d v has));
  };
  at_var = λ level. record {
    small = λ reads r z is. let same = same_One (slice_index_or e level (pos 0)) z (sym (value3-Var w level e look i) ∙ is) in
        let inside : level < length e = ltb-true level (length e) (sym (reaches-Var w level (length e) reads) ∙ r) in
        omega (arith, own_is _ (slice_index_or bounds level 0) 0 (bound_by-Var w bounds level), all.variable level z (slice_get-get_or e level (pos 0) inside ∙ ap Some same));
  };
  at_read = λ number args each. record {
    small = λ reads r z is.
        let t = then_one (λ zs. known_of_cell look (read_cell w number zs i)) (known_all (map (λ a. value3 w a e look i) args)) z (sym (value3-Read w number args e look i) ∙ is) in
        let f = read_one w number i look t.0 z t.1 in
        let own = own_is _ (item_bound w (slice_get w.items number)) (most_of (map (bound_by w bounds) args)) (bound_by-Read w bounds number args) in
        omega (arith, own, ap (item_bound w) f.2, all.cell f.1 f.0 z (ap (slice_get w.items) f.3 ∙ f.2) f.4);
  };
  at_sum = λ parts each. record {
    small = λ reads r z is.
        let bound = λ (p : SignedTerm). bound_by w bounds (term_of p) in
        let own = ap (λ (b : Bound). b.own) (bound_by-Sum w bounds parts) in
        let owns = ap sum (map-map (λ (b : Bound). b.own) bound parts) in
        omega (
          arith,
          own,
          owns,
          sum_small (λ p. signed_value3 w p e look i) (part_own w bounds) parts
              (each_part w bounds e look i reads parts each (sym (reaches-Sum w parts (length e) reads) ∙ r)) z (sym (value3-Sum w parts e look i) ∙ is),
        );
  };
  at_times = λ n x s. record {
    small = λ reads r z is.
        let m = map_one (λ z. pos n *ℤ z) (value3 w x e look i) z (sym (value3-Times w n x e look i) ∙ is) in
        let product : nat_abs (pos n *ℤ m.0) ≡ n * nat_abs m.0 = unsigned_abs-mul (pos n) m.0 in
        let less : n * nat_abs m.0 ≤ n * (bound_by w bounds x).own = mul-le-mul_left n (s.small reads (sym (reaches-Times w n x (length e) reads) ∙ r) m.0 m.1) in
        let own = ap (λ (b : Bound). b.own) (bound_by-Times w bounds n x) in
        omega (arith, own, product, less, ap nat_abs (sym m.2));
  };
})

-- a term's own bound is no greater than the greatest in it
record OwnMost (w : World) (bounds : List ℕ) (x : Term) : Type 0 where
  own_most : (bound_by w bounds x).own ≤ (bound_by w bounds x).most

own_of : (b : Bound) (own parts : ℕ) → b ≡ bounded own parts → b.own ≤ b.most
own_of b own parts is = omega (arith, ap (λ (b : Bound). b.own) is, ap (λ (b : Bound). b.most) is)

all_own_most : (w : World) (bounds : List ℕ) (x : Term) → OwnMost w bounds x
all_own_most w bounds = every_term (OwnMost w bounds) (record {
  at_number = λ n. record { own_most = own_of _ _ _ (bound_by-Number w bounds n) };
  at_value = λ d v. record { own_most = own_of _ _ _ (bound_by-Value w bounds d v) };
  at_var = λ level. record { own_most = own_of _ _ _ (bound_by-Var w bounds level) };
  at_read = λ number args each. record { own_most = own_of _ _ _ (bound_by-Read w bounds number args) };
  at_sum = λ parts each. record { own_most = own_of _ _ _ (bound_by-Sum w bounds parts) };
  at_times = λ n x s. record { own_most = own_of _ _ _ (bound_by-Times w bounds n x) };
})

-- a term without reads is known
record Plain (w : World) (e : List ℤ) (look : Cell → Known ℤ) (i : ℕ) (x : Term) : Type 0 where
  plain : reaches w x (length e) false ≡ true → (z : ℤ) × (value3 w x e look i ≡ One z)

each_plain : (w : World) (e : List ℤ) (look : Cell → Known ℤ) (i : ℕ) (ps : List SignedTerm) → Each (λ p. Plain w e look i (term_of p)) ps →
    list_all (λ p. reaches w (term_of p) (length e) false) ps ≡ true → Each (λ p. (z : ℤ) × (signed_value3 w p e look i ≡ One z)) ps
each_plain w e look i [] each all = tt
each_plain w e look i (p ∷ ps) each all =
    let both = and_parts (reaches w (term_of p) (length e) false) (list_all (λ p. reaches w (term_of p) (length e) false) ps) all in
    (sign (out-SignedTerm p).minus (value3 w (term_of p) e look i) (each.0.plain both.0), each_plain w e look i ps each.1 both.1)
  where
    sign : (minus : Bool) (k : Known ℤ) → (z : ℤ) × (k ≡ One z) → (z : ℤ) × ((if minus then known_map neg_ℤ k else k) ≡ One z)
    sign true k h = (neg_ℤ h.0, ap (known_map neg_ℤ) h.1)
    sign false k h = h

all_plain : (w : World) (e : List ℤ) (look : Cell → Known ℤ) (i : ℕ) (x : Term) → Plain w e look i x
all_plain w e look i = every_term (Plain w e look i) (record {
  at_number = λ n. record { plain = λ r. (pos n, value3-Number w n e look i) };
  at_value = λ d v. record { plain = λ r. (pos v, value3-Value w d v e look i) };
  at_var = λ level. record { plain = λ r. (slice_index_or e level (pos 0), value3-Var w level e look i) };
  at_read = λ number args each. record { plain = λ r. absurd (false≢true (sym (reaches-Read w number args (length e) false) ∙ r)) };
  at_sum = λ parts each. record {
    plain = λ r.
        let s = each_one (λ p. signed_value3 w p e look i) parts (each_plain w e look i parts each (sym (reaches-Sum w parts (length e) false) ∙ r)) in
        (s.0, value3-Sum w parts e look i ∙ s.1);
  };
  at_times = λ n x s. record {
    plain = λ r.
        let h = s.plain (sym (reaches-Times w n x (length e) false) ∙ r) in
        (pos n *ℤ h.0, value3-Times w n x e look i ∙ ap (known_map (λ z. pos n *ℤ z)) h.1);
  };
})

-- what the fact of a term says
pub term_reaches : (w : World) (x : Term) (e : List ℤ) (fits : NodeTermFits w x e) → reaches w x (length e) fits.reads ≡ true
term_reaches w x e fits =
    ap (λ n. reaches w x n fits.reads) (lie_long e fits.ranges fits.values_in)
    ∙ (and_parts (reaches w x (length fits.ranges) fits.reads) (nat_le (bound_by w (map range_bound fits.ranges) x).most 1000000000000) fits.fits).0

pub term_bounded : (w : World) (x : Term) (e : List ℤ) (fits : NodeTermFits w x e) → (bound_by w (map range_bound fits.ranges) x).most ≤ 1000000000000
term_bounded w x e fits =
    leb-true (bound_by w (map range_bound fits.ranges) x).most 1000000000000
    (and_parts (reaches w x (length fits.ranges) fits.reads) (nat_le (bound_by w (map range_bound fits.ranges) x).most 1000000000000) fits.fits).1

-- and what makes it
pub term_fits_by : (w : World) (x : Term) (e : List ℤ) (ranges : Ranges) (reads : Bool) → lie_in e ranges ≡ true → reaches w x (length e) reads ≡ true →
    (bound_by w (map range_bound ranges) x).most ≤ 1000000000000 → NodeTermFits w x e
term_fits_by w x e ranges reads lie reach less = record {
  ranges = ranges;
  reads = reads;
  fits = and_from (reaches w x (length ranges) reads) (nat_le (bound_by w (map range_bound ranges) x).most 1000000000000)
      (sym (ap (λ n. reaches w x n reads) (lie_long e ranges lie)) ∙ reach) (le-leb (bound_by w (map range_bound ranges) x).most 1000000000000 less);
  values_in = lie;
}

sets_bounds : (w : World) (sets : List ℕ) (x : Term) (e : List ℤ) (fits : NodeTermFits w x e) → Bounds w (map range_bound fits.ranges) e (known_at w sets)
sets_bounds w sets x e fits = record {
  variable = lie_bounded e fits.ranges fits.values_in;
  cell = λ c item z at is. let v = known_at_one w sets c z is in
      domain_above w item.value v.0 z (ap (λ zs. slice_get zs v.0) (sym (values_from_item w c item at)) ∙ v.1);
}

pub term_near : (w : World) (sets : List ℕ) (x : Term) (e : List ℤ) (i : ℕ) → NodeTermFits w x e → IsKnownNear (value3 w x e (known_at w sets) i)
term_near w sets x e i fits = λ z is.
    let small = (value_small w (map range_bound fits.ranges) e (known_at w sets) i (sets_bounds w sets x e fits) x).small fits.reads (term_reaches w x e fits) z is in
    omega (arith, small, (all_own_most w (map range_bound fits.ranges) x).own_most, term_bounded w x e fits)

-- products and sums
pub times_part : (w : World) (n : ℕ) (x : Term) (e : List ℤ) → NodeTermFits w (term.Times n x) e → NodeTermFits w x e
times_part w n x e fits =
    let most = ap (λ (b : Bound). b.most) (bound_by-Times w (map range_bound fits.ranges) n x) in
    term_fits_by w x e fits.ranges fits.reads fits.values_in (sym (reaches-Times w n x (length e) fits.reads) ∙ term_reaches w (term.Times n x) e fits)
    (omega (arith, most, term_bounded w (term.Times n x) e fits))

pub sum_part : (w : World) (parts : List SignedTerm) (e : List ℤ) → NodeTermFits w (term.Sum parts) e → (k : ℕ) (p : SignedTerm) → slice_get parts k ≡ Some p → NodeTermFits w (out-SignedTerm p).term e
sum_part w parts e fits k p at =
    let bounds = map range_bound fits.ranges in
    let bound = λ (p : SignedTerm). bound_by w bounds (term_of p) in
    let most = ap (λ (b : Bound). b.most) (bound_by-Sum w bounds parts) in
    let above = greatest_above (map (λ (b : Bound). b.most) (map bound parts)) k (bound p).most
    (slice_get-map (λ (b : Bound). b.most) (map bound parts) k ∙ ap (option_map (λ (b : Bound). b.most)) (slice_get-map bound parts k ∙ ap (option_map bound) at)) in
    term_fits_by w (term_of p) e fits.ranges fits.reads fits.values_in
    (each_of (λ p. reaches w (term_of p) (length e) fits.reads) parts (sym (reaches-Sum w parts (length e) fits.reads) ∙ term_reaches w (term.Sum parts) e fits) k p at)
    (omega (arith, most, above, term_bounded w (term.Sum parts) e fits))

all_small : (w : World) (bounds : List ℕ) (e : List ℤ) (look : Cell → Known ℤ) (i : ℕ) → Bounds w bounds e look → (ps : List SignedTerm) → Each (λ p. Small w bounds e look i (term_of p)) ps
all_small w bounds e look i all [] = tt
all_small w bounds e look i all (p ∷ ps) = (value_small w bounds e look i all (term_of p), all_small w bounds e look i all ps)

all_of_take : {X : Type 0} (p : X → Bool) (k : ℕ) (xs : List X) → list_all p xs ≡ true → list_all p (take k xs) ≡ true
all_of_take p zero xs all = refl
all_of_take p (suc k) [] all = refl
all_of_take p (suc k) (x ∷ xs) all = let both = and_parts (p x) (list_all p xs) all in and_from (p x) (list_all p (take k xs)) both.0 (all_of_take p k xs both.1)

-- the sum of the parts so far
pub front_near : (w : World) (sets : List ℕ) (parts : List SignedTerm) (e : List ℤ) (i k : ℕ) → NodeTermFits w (term.Sum parts) e →
    IsKnownNear (known_sum (map (λ p. signed_value3 w p e (known_at w sets) i) (take k parts)))
front_near w sets parts e i k fits = λ z is.
    let bounds = map range_bound fits.ranges in
    let look = known_at w sets in
    let bound = λ (p : SignedTerm). bound_by w bounds (term_of p) in
    let all = sets_bounds w sets (term.Sum parts) e fits in
    let reach = sym (reaches-Sum w parts (length e) fits.reads) ∙ term_reaches w (term.Sum parts) e fits in
    let own = ap (λ (b : Bound). b.own) (bound_by-Sum w bounds parts) in
    let owns = ap sum (map-map (λ (b : Bound). b.own) bound parts) in
    let front = sum_small (λ p. signed_value3 w p e look i) (part_own w bounds) (take k parts)
    (each_part w bounds e look i fits.reads (take k parts) (all_small w bounds e look i all (take k parts)) (all_of_take (λ p. reaches w (term_of p) (length e) fits.reads) k parts reach)) z is in
    omega (
      arith,
      own,
      owns,
      front,
      sum-map (part_own w bounds) parts,
      sum-map (part_own w bounds) (take k parts),
      sum_by-take-le (part_own w bounds) parts k,
      (all_own_most w bounds (term.Sum parts)).own_most,
      term_bounded w (term.Sum parts) e fits,
    )

-- the same world in other words
pub world_is : (a b : World) → a.instants ≡ b.instants → a.domains ≡ b.domains → a.items ≡ b.items → a ≡ b
world_is a b i d t =
    ap (λ n. record { instants = n; domains = a.domains; items = a.items }) i
    ∙ ap (λ ds. record { instants = b.instants; domains = ds; items = a.items }) d
    ∙ ap (λ is. record { instants = b.instants; domains = b.domains; items = is }) t

-- reads
read_parts : (w : World) (n : ℕ) (args : List Term) (e : List ℤ) (fits : NodeTermFits w (term.Read n args) e) →
    (is_arity (option_map (λ item. length item.args) (slice_get w.items n)) (length args) ≡ true) × (list_all (λ a. reaches w a (length e) false) args ≡ true)
read_parts w n args e fits =
    let arity = is_arity (option_map (λ item. length item.args) (slice_get w.items n)) (length args) in
    let all = list_all (λ a. reaches w a (length e) false) args in
    let inside = and_parts fits.reads (arity && all) (sym (reaches-Read w n args (length e) fits.reads) ∙ term_reaches w (term.Read n args) e fits) in
    and_parts arity all inside.1

pub read_item : (w : World) (n : ℕ) (args : List Term) (e : List ℤ) → NodeTermFits w (term.Read n args) e →
    (item : Item) × (slice_get w.items n ≡ Some item) × (length item.args ≡ length args)
read_item w n args e fits = there (slice_get w.items n) refl
  where
    there : (o : Option Item) → slice_get w.items n ≡ o → (item : Item) × (slice_get w.items n ≡ Some item) × (length item.args ≡ length args)
    there None is = absurd (false≢true (rw is at (read_parts w n args e fits).0))
    there (Some item) is = let same : length item.args ≡ length args = eqb-true (length item.args) (length args) (rw is at (read_parts w n args e fits).0) in (item, is, same)

pub read_length : (w : World) (n : ℕ) (args : List Term) (e : List ℤ) → NodeTermFits w (term.Read n args) e → (item : Item) → slice_get w.items n ≡ Some item → length item.args ≡ length args
read_length w n args e fits item at =
    let r = read_item w n args e fits in
    ap (λ (item : Item). length item.args) (same_Some item r.0 (sym at ∙ r.1)) ∙ r.2

pub read_arg : (w : World) (n : ℕ) (args : List Term) (e : List ℤ) → NodeTermFits w (term.Read n args) e → (k : ℕ) (x : Term) → slice_get args k ≡ Some x → NodeTermFits w x e
read_arg w n args e fits k x at =
    let bounds = map range_bound fits.ranges in
    let most = ap (λ (b : Bound). b.most) (bound_by-Read w bounds n args) in
    let above = greatest_above (map (λ (b : Bound). b.most) (map (bound_by w bounds) args)) k (bound_by w bounds x).most
    (slice_get-map (λ (b : Bound). b.most) (map (bound_by w bounds) args) k ∙ ap (option_map (λ (b : Bound). b.most)) (slice_get-map (bound_by w bounds) args k ∙ ap (option_map (bound_by w bounds)) at)) in
    term_fits_by w x e fits.ranges false fits.values_in (each_of (λ a. reaches w a (length e) false) args (read_parts w n args e fits).1 k x at)
    (omega (arith, most, above, term_bounded w (term.Read n args) e fits))

-- an argument is known
pub arg_known : (w : World) (sets : List ℕ) (n : ℕ) (args : List Term) (e : List ℤ) (i : ℕ) → NodeTermFits w (term.Read n args) e → (k : ℕ) (x : Term) → slice_get args k ≡ Some x →
    (z : ℤ) × (value3 w x e (known_at w sets) i ≡ One z)
arg_known w sets n args e i fits k x at =
    (all_plain w e (known_at w sets) i x).plain (each_of (λ a. reaches w a (length e) false) args (read_parts w n args e fits).1 k x at)

-- and so is a distance
pub plain_known : (w : World) (sets : List ℕ) (x : Term) (e : List ℤ) (i : ℕ) (fits : NodeTermFits w x e) → fits.reads ≡ false → (z : ℤ) × (value3 w x e (known_at w sets) i ≡ One z)
plain_known w sets x e i fits silent = (all_plain w e (known_at w sets) i x).plain (ap (reaches w x (length e)) (sym silent) ∙ term_reaches w x e fits)

pub each_arg : (w : World) (e : List ℤ) (look : Cell → Known ℤ) (i : ℕ) (args : List Term) → list_all (λ a. reaches w a (length e) false) args ≡ true →
    Each (λ a. (z : ℤ) × (value3 w a e look i ≡ One z)) args
each_arg w e look i [] all = tt
each_arg w e look i (a ∷ args) all =
    let both = and_parts (reaches w a (length e) false) (list_all (λ a. reaches w a (length e) false) args) all in
    ((all_plain w e look i a).plain both.0, each_arg w e look i args both.1)

-- the values of arguments
abbrev pub arg_values : World → List ℤ → (Cell → Known ℤ) → ℕ → List Term → List (Option ℤ)
arg_values w e look i args = map (λ a. value_if_known (value3 w a e look i)) args

pub args_known : (w : World) (look : Cell → Known ℤ) (n : ℕ) (args : List Term) (e : List ℤ) (i : ℕ) → NodeTermFits w (term.Read n args) e →
    known_all (map (λ a. value3 w a e look i) args) ≡ One (arg_values w e look i args)
args_known w look n args e i fits = all_one (λ a. value3 w a e look i) args (each_arg w e look i args (read_parts w n args e fits).1)

-- the cell that is read, by the indexes of the arguments
pub cell_by_indexes : (w : World) (n : ℕ) (item : Item) (zs : List (Option ℤ)) (i : ℕ) (o : Option (List ℕ)) → slice_get w.items n ≡ Some item → indexes w.domains item.args zs ≡ o →
    read_cell w n zs i ≡ option_map (λ vs. the_cell n vs i) o
cell_by_indexes w n item zs i o at is = ap (λ o. cell_of_item w n o zs i) at ∙ ap (option_map (λ vs. the_cell n vs i)) is

-- which is of the item
pub item_of_cell : (w : World) (n : ℕ) (zs : List (Option ℤ)) (i : ℕ) (cell : Cell) → read_cell w n zs i ≡ Some cell → cell.item ≡ n
item_of_cell w n zs i cell is = by_item (slice_get w.items n) is
  where
    by_item : (o : Option Item) → cell_of_item w n o zs i ≡ Some cell → cell.item ≡ n
    by_item None made = absurd (none-some cell made)
    by_item (Some item) made = let r = map_some (λ vs. the_cell n vs i) (indexes w.domains item.args zs) cell made in ap (λ (c : Cell). c.item) (sym r.2)

-- what is known of a read, by its cell
pub read3_by_cell : (w : World) (sets : List ℕ) (n : ℕ) (args : List Term) (e : List ℤ) (i : ℕ) → NodeTermFits w (term.Read n args) e → (o : Option Cell) →
    read_cell w n (arg_values w e (known_at w sets) i args) i ≡ o → value3 w (term.Read n args) e (known_at w sets) i ≡ known_of_cell (known_at w sets) o
read3_by_cell w sets n args e i fits o is =
    let look = known_at w sets in
    value3-Read w n args e look i
    ∙ ap (known_then (λ zs. known_of_cell look (read_cell w n zs i))) (args_known w look n args e i fits)
    ∙ ap (known_of_cell look) is
