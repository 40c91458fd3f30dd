-- Renamed terms fit where the ranges of their variables stand round them.
use Rattle.std.proofs.Common.{◌≡◌, ℕ, zero, suc, ◌+◌, ◌<◌, ◌≤◌, max, ℤ, pos, negsuc, ◌≤ℤ◌, nat_abs, Bool, true, false, not, ◌&&◌, nat_le, List, [], ◌∷◌, ◌++◌, map, length, slice_get, slice_index_or, Option, None, Some, refl, sym, ap, ◌∙◌, arith}
use Rattle.std.specs.List.{list_all, flat_map}
use Rattle.std.specs.Option.{option_map}
use Rattle.std.proofs.Math.Logic.{⊎_elim}
use Rattle.std.proofs.lemmas.Bool.{false≢true, and_parts, and_from, cases_lt, lt-ltb, le-leb, leb-true}
use Rattle.std.proofs.lemmas.Int.{ints}
use Rattle.std.proofs.lemmas.List.{length-map, length_push}
use Rattle.std.proofs.lemmas.Option.{none-some, same_Some, slice_get-map, slice_get_within, slice_get_past, get_or_from_slice_get}
use Rattle.trio_base.specs.declared.limits.TheConstants.{GREATEST_BOUND}
use Rattle.trio_types.specs.declared.formula.SignedTerm.{SignedTerm, out-SignedTerm, roll-SignedTerm, out-roll-SignedTerm}
use Rattle.trio_types.specs.declared.formula.Term.{Term}
use Rattle.trio_types.specs.declared.formula.Term.TheVariants as term
use Rattle.trio_types.specs.declared.formula.Term.TheOpen.{Term-F, SignedTerm-F}
use Rattle.trio_types.specs.declared.formula.Term.TheOpen as open_term
use Rattle.trio_types.specs.declared.spec.DomainKind.TheVariants as kind
use Rattle.trio_types.specs.World.{World}
use Rattle.trio_types.specs.Kinds.{Gathered, gathered, is_right, has_kind, kind_of_constant, term_uses, args_of, argument_uses, required, part}
use Rattle.trio_types.specs.Bounds.{Bound, bounded, greatest, bound_of, most_of, term_bound, variable_bound, item_bound}
use Rattle.trio_types.proofs.Lists.{all_left, all_right, get_left, get_right, get_split, get_within}
use Rattle.trio_types.proofs.Domains.{count_of_values, integers_at, value_at_first}
use Rattle.trio_types.proofs.KindsAt.{gathered-Value, gathered-Var, gathered-Read, gathered-Sum, gathered-Times}
use Rattle.trio_types.proofs.BoundsAt.{bound_of-Number, bound_of-Value, bound_of-Var, bound_of-Read, bound_of-Sum, bound_of-Times}
use Rattle.trio_core.specs.Core.{numbers}
use Rattle.trio_core.specs.CoreShape.{Range, Ranges, reaches, is_item_with, bound_by, range_bound, term_fits}
use Rattle.trio_types.proofs.Inductions.{Each, term_of, every_term}
use Rattle.trio_core.proofs.TermsAt.{reaches-Number, reaches-Value, reaches-Var, reaches-Read, reaches-Sum, reaches-Times, bound_by-Number, bound_by-Value, bound_by-Var, bound_by-Read, bound_by-Sum, bound_by-Times}
use Rattle.derived_ops.specs.declared.joint.Way.{Way}
use Rattle.derived_ops.specs.declared.joint.Way.TheVariants as way
use Rattle.derived_ops.specs.Terms.{part_of}
use Rattle.derived_ops.specs.Rewriting.{Levels, variable_at, renamed, range_of_domain, minus, towards}
use Rattle.derived_ops.proofs.Renaming.{renamed-Number, renamed-Value, renamed-Var, renamed-Read, renamed-Sum, renamed-Times}
use Rattle.derived_ops.proofs.Operators.{numbers_of_domain}

-- the ranges round a place, among them those of the formula's variables, at their levels
pub record Place (w : World) (k : ℕ) (ls : Levels) (vs : List ℕ) (rs : Ranges) : Type 0 where
  pub whole : length rs ≡ k
  pub as_many : length ls ≡ length vs
  pub each : (l m d : ℕ) → slice_get ls l ≡ Some m → slice_get vs l ≡ Some d → slice_get rs m ≡ Some (range_of_domain w d)

pub place_new : (w : World) (k : ℕ) (ls : Levels) (vs : List ℕ) (rs : Ranges) (r : Range) → Place w k ls vs rs → Place w (k + 1) ls vs (rs ++ r ∷ [])
place_new w k ls vs rs r place = record {
  whole = omega (arith, place.whole, length_push rs r);
  as_many = place.as_many;
  each = λ l m d lt dt. get_left rs (r ∷ []) m (range_of_domain w d) (place.each l m d lt dt);
}

pub place_own : (w : World) (k : ℕ) (ls : Levels) (vs : List ℕ) (rs : Ranges) (d : ℕ) → Place w k ls vs rs →
    Place w (k + 1) (ls ++ k ∷ []) (vs ++ d ∷ []) (rs ++ range_of_domain w d ∷ [])
place_own w k ls vs rs d place = record {
  whole = omega (arith, place.whole, length_push rs (range_of_domain w d));
  as_many = omega (arith, place.as_many, length_push ls k, length_push vs d);
  each = λ l m c lt ct.
      ⊎_elim
      (λ a. ⊎_elim
      (λ b. get_left rs (range_of_domain w d ∷ []) m (range_of_domain w c) (place.each l m c a.1 b.1))
      (λ b. absurd (omega (arith, a.0, b.1, place.as_many)))
      (get_split vs (d ∷ []) l c ct))
      (λ a. ⊎_elim
      (λ b. absurd (omega (arith, a.1, b.0, place.as_many)))
      (λ b. last m c a.0 b.0 a.2 b.2)
      (get_split vs (d ∷ []) l c ct))
      (get_split ls (k ∷ []) l m lt);
}
  where
    last : (m c i j : ℕ) → slice_get (k ∷ []) i ≡ Some m → slice_get (d ∷ []) j ≡ Some c → slice_get (rs ++ range_of_domain w d ∷ []) m ≡ Some (range_of_domain w c)
    last m c zero zero mt ct =
        let at : m ≡ length rs + 0 = omega (arith, same_Some k m mt, place.whole) in
        ap (slice_get (rs ++ range_of_domain w d ∷ [])) at ∙ get_right rs (range_of_domain w d ∷ []) 0 ∙ ap (λ d. Some (range_of_domain w d)) (same_Some d c ct)
    last m c (suc i) j mt ct = absurd (none-some m mt)
    last m c zero (suc j) mt ct = absurd (none-some c ct)

-- the values of a domain are those of its range
bound_of_domain : (w : World) (d : ℕ) → range_bound (range_of_domain w d) ≡ variable_bound w (Some d)
bound_of_domain w d = ap (λ zs. greatest (map nat_abs zs)) (numbers_of_domain w d)

bound_at : (rs : Ranges) (m : ℕ) (r : Range) → slice_get rs m ≡ Some r → slice_index_or (map range_bound rs) m 0 ≡ range_bound r
bound_at rs m r at = get_or_from_slice_get (map range_bound rs) m (range_bound r) 0 (slice_get-map range_bound rs m ∙ ap (option_map range_bound) at)

part_term : (ls : Levels) (p : SignedTerm) → term_of (part_of ls p) ≡ renamed ls (term_of p)
part_term ls p = ap (λ (q : SignedTerm-F Term SignedTerm). q.term) (out-roll-SignedTerm (record { minus = (out-SignedTerm p).minus; term = renamed ls (out-SignedTerm p).term }))

module _ (w : World) (k : ℕ) (ls : Levels) (vs : List ℕ) (rs : Ranges) (place : Place w k ls vs rs) where
  -- numbers are in range, and nothing reads where nothing may
  abbrev Reached : Term → Type 0
  Reached x = (inside reads : Bool) → (not inside ≡ true → reads ≡ true) → list_all is_right (term_uses w vs inside x) ≡ true → reaches w (renamed ls x) (length rs) reads ≡ true

  variable_reached : (l : ℕ) (inside reads : Bool) → list_all is_right (term_uses w vs inside (term.Var l)) ≡ true → (o : Option ℕ) → slice_get vs l ≡ o →
      reaches w (variable_at (slice_get ls l)) (length rs) reads ≡ true
  variable_reached l inside reads right None is =
      let uses = ap (λ (g : Gathered). g.uses inside) (gathered-Var w vs l) in
      let wrong = ap (list_all is_right) (sym uses) ∙ right in
      absurd (false≢true (rw is at wrong))
  variable_reached l inside reads right (Some d) is =
      let m = get_within ls l (omega (arith, place.as_many, slice_get_within vs l d is)) in
      let at = place.each l m.0 d m.1 is in
      ap (λ o. reaches w (variable_at o) (length rs) reads) m.1 ∙ reaches-Var w m.0 (length rs) reads ∙ lt-ltb m.0 (length rs) (slice_get_within rs m.0 (range_of_domain w d) at)

  args_reached : (args : List Term) → Each Reached args → list_all is_right (flat_map (λ (a : Gathered). a.uses true) (map (gathered w vs) args)) ≡ true →
      list_all (λ a. reaches w a (length rs) false) (map (renamed ls) args) ≡ true
  args_reached [] each right = refl
  args_reached (x ∷ args) each right =
      and_from (reaches w (renamed ls x) (length rs) false) (list_all (λ a. reaches w a (length rs) false) (map (renamed ls) args))
      (each.0 true false (λ no. absurd (false≢true no))
      (all_left is_right (term_uses w vs true x) (flat_map (λ (a : Gathered). a.uses true) (map (gathered w vs) args)) right))
      (args_reached args each.1 (all_right is_right (term_uses w vs true x) (flat_map (λ (a : Gathered). a.uses true) (map (gathered w vs) args)) right))

  parts_reached : (inside reads : Bool) → (not inside ≡ true → reads ≡ true) → (ps : List SignedTerm) → Each (λ p. Reached (term_of p)) ps →
      list_all is_right (flat_map (λ (p : Gathered). p.uses inside) (map (λ p. gathered w vs (out-SignedTerm p).term) ps)) ≡ true →
      list_all (λ p. reaches w (term_of p) (length rs) reads) (map (part_of ls) ps) ≡ true
  parts_reached inside reads may [] each right = refl
  parts_reached inside reads may (p ∷ ps) each right =
      let more = flat_map (λ (p : Gathered). p.uses inside) (map (λ p. gathered w vs (out-SignedTerm p).term) ps) in
      and_from (reaches w (term_of (part_of ls p)) (length rs) reads) (list_all (λ p. reaches w (term_of p) (length rs) reads) (map (part_of ls) ps))
      (ap (λ x. reaches w x (length rs) reads) (part_term ls p) ∙ each.0 inside reads may (all_left is_right (term_uses w vs inside (term_of p)) more right))
      (parts_reached inside reads may ps each.1 (all_right is_right (term_uses w vs inside (term_of p)) more right))

  read_reached : (number : ℕ) (args : List Term) → Each Reached args → Reached (term.Read number args)
  read_reached number args each inside reads may right =
      let uses = ap (λ (g : Gathered). g.uses inside) (gathered-Read w vs number args) in
      let all = ap (list_all is_right) (sym uses) ∙ right in
      let first = and_parts _ _ all in
      let own = and_parts _ _ first.0 in
      let many : length (map (gathered w vs) args) ≡ length (map (renamed ls) args) = length-map args (gathered w vs) ∙ sym (length-map args (renamed ls)) in
      ap (λ x. reaches w x (length rs) reads) (renamed-Read ls number args) ∙ reaches-Read w number (map (renamed ls) args) (length rs) reads
      ∙ and_from reads (is_item_with w number (length (map (renamed ls) args)) && list_all (λ a. reaches w a (length rs) false) (map (renamed ls) args)) (may own.0)
      (and_from (is_item_with w number (length (map (renamed ls) args))) (list_all (λ a. reaches w a (length rs) false) (map (renamed ls) args))
      (ap (is_item_with w number) (sym many) ∙ own.1)
      (args_reached args each
      (all_right is_right (argument_uses w (args_of (slice_get w.items number)) (map (gathered w vs) args)) (flat_map (λ (a : Gathered). a.uses true) (map (gathered w vs) args)) first.1)))

  pub reached : (x : Term) → Reached x
  reached = every_term Reached (record {
    at_number = λ n inside reads may right. ap (λ x. reaches w x (length rs) reads) (renamed-Number ls n) ∙ reaches-Number w n (length rs) reads;
    at_value = λ d v inside reads may right.
        let uses = ap (λ (g : Gathered). g.uses inside) (gathered-Value w vs d v) in
        ap (λ x. reaches w x (length rs) reads) (renamed-Value ls d v) ∙ reaches-Value w d v (length rs) reads
        ∙ (and_parts (has_kind (kind_of_constant w d v)) true (ap (list_all is_right) (sym uses) ∙ right)).0;
    at_var = λ l inside reads may right. ap (λ x. reaches w x (length rs) reads) (renamed-Var ls l) ∙ variable_reached l inside reads right (slice_get vs l) refl;
    at_read = read_reached;
    at_sum = λ ps each inside reads may right.
        let uses = ap (λ (g : Gathered). g.uses inside) (gathered-Sum w vs ps) in
        let parts = map (λ p. gathered w vs (out-SignedTerm p).term) ps in
        ap (λ x. reaches w x (length rs) reads) (renamed-Sum ls ps) ∙ reaches-Sum w (map (part_of ls) ps) (length rs) reads
        ∙ parts_reached inside reads may ps each
        (all_right is_right (map (λ (p : Gathered). required part p.kind) parts) (flat_map (λ (p : Gathered). p.uses inside) parts) (ap (list_all is_right) (sym uses) ∙ right));
    at_times = λ n x same inside reads may right.
        let uses = ap (λ (g : Gathered). g.uses inside) (gathered-Times w vs n x) in
        ap (λ x. reaches w x (length rs) reads) (renamed-Times ls n x) ∙ reaches-Times w n (renamed ls x) (length rs) reads
        ∙ same inside reads may (and_parts _ _ (ap (list_all is_right) (sym uses) ∙ right)).1;
  })

  -- bounds
  abbrev SameBound : Term → Type 0
  SameBound x = bound_by w (map range_bound rs) (renamed ls x) ≡ bound_of w vs x

  variable_bounded : (l : ℕ) → bound_by w (map range_bound rs) (variable_at (slice_get ls l)) ≡ bounded (variable_bound w (slice_get vs l)) 0
  variable_bounded l =
      ⊎_elim
      (λ inside.
      let m = get_within ls l (omega (arith, place.as_many, inside)) in
      let d = get_within vs l inside in
      ap (λ o. bound_by w (map range_bound rs) (variable_at o)) m.1 ∙ bound_by-Var w (map range_bound rs) m.0
      ∙ ap (λ n. bounded n 0) (bound_at rs m.0 (range_of_domain w d.0) (place.each l m.0 d.0 m.1 d.1) ∙ bound_of_domain w d.0)
      ∙ ap (λ o. bounded (variable_bound w o) 0) (sym d.1))
      (λ outside.
      ap (λ o. bound_by w (map range_bound rs) (variable_at o)) (slice_get_past ls l (omega (arith, place.as_many, outside))) ∙ bound_by-Number w (map range_bound rs) 0
      ∙ ap (λ o. bounded (variable_bound w o) 0) (sym (slice_get_past vs l outside)))
      (cases_lt l (length vs))

  args_bounded : (args : List Term) → Each SameBound args → map (bound_by w (map range_bound rs)) (map (renamed ls) args) ≡ map (bound_of w vs) args
  args_bounded [] each = refl
  args_bounded (x ∷ args) each = rw (each.0, args_bounded args each.1) refl

  parts_bounded : (ps : List SignedTerm) → Each (λ p. SameBound (term_of p)) ps →
      map (λ p. bound_by w (map range_bound rs) (term_of p)) (map (part_of ls) ps) ≡ map (λ p. bound_of w vs (out-SignedTerm p).term) ps
  parts_bounded [] each = refl
  parts_bounded (p ∷ ps) each = rw (part_term ls p, each.0, parts_bounded ps each.1) refl

  pub same_bound : (x : Term) → SameBound x
  same_bound = every_term SameBound (record {
    at_number = λ n. ap (bound_by w (map range_bound rs)) (renamed-Number ls n) ∙ bound_by-Number w (map range_bound rs) n ∙ sym (bound_of-Number w vs n);
    at_value = λ d v. ap (bound_by w (map range_bound rs)) (renamed-Value ls d v) ∙ bound_by-Value w (map range_bound rs) d v ∙ sym (bound_of-Value w vs d v);
    at_var = λ l. ap (bound_by w (map range_bound rs)) (renamed-Var ls l) ∙ variable_bounded l ∙ sym (bound_of-Var w vs l);
    at_read = λ number args each. ap (bound_by w (map range_bound rs)) (renamed-Read ls number args) ∙ bound_by-Read w (map range_bound rs) number (map (renamed ls) args)
        ∙ ap (λ bs. bounded (item_bound w (slice_get w.items number)) (most_of bs)) (args_bounded args each) ∙ sym (bound_of-Read w vs number args);
    at_sum = λ ps each. ap (bound_by w (map range_bound rs)) (renamed-Sum ls ps) ∙ bound_by-Sum w (map range_bound rs) (map (part_of ls) ps)
        ∙ ap (λ bs. term_bound w [] (open_term.Sum bs)) (parts_bounded ps each) ∙ sym (bound_of-Sum w vs ps);
    at_times = λ n x same. ap (bound_by w (map range_bound rs)) (renamed-Times ls n x) ∙ bound_by-Times w (map range_bound rs) n (renamed ls x)
        ∙ ap (λ b. term_bound w [] (open_term.Times n b)) same ∙ sym (bound_of-Times w vs n x);
  })

  pub renamed_fits : (x : Term) (inside reads : Bool) → (not inside ≡ true → reads ≡ true) → list_all is_right (term_uses w vs inside x) ≡ true →
      (bound_of w vs x).most ≤ GREATEST_BOUND → term_fits w rs reads (renamed ls x) ≡ true
  renamed_fits x inside reads may right small =
      and_from (reaches w (renamed ls x) (length rs) reads) (nat_le (bound_by w (map range_bound rs) (renamed ls x)).most GREATEST_BOUND) (reached x inside reads may right)
      (ap (λ (b : Bound). nat_le b.most GREATEST_BOUND) (same_bound x) ∙ le-leb (bound_of w vs x).most GREATEST_BOUND small)

-- terms that the rewriting brings
pub number_fits : (w : World) (rs : Ranges) (reads : Bool) → term_fits w rs reads (term.Number 0) ≡ true
number_fits w rs reads =
    and_from (reaches w (term.Number 0) (length rs) reads) (nat_le (bound_by w (map range_bound rs) (term.Number 0)).most GREATEST_BOUND) (reaches-Number w 0 (length rs) reads)
    (ap (λ (b : Bound). nat_le b.most GREATEST_BOUND) (bound_by-Number w (map range_bound rs) 0))

pub variable_fits : (w : World) (rs : Ranges) (reads : Bool) (k : ℕ) (r : Range) → slice_get rs k ≡ Some r → range_bound r ≤ 255 → term_fits w rs reads (term.Var k) ≡ true
variable_fits w rs reads k r at small =
    and_from (reaches w (term.Var k) (length rs) reads) (nat_le (bound_by w (map range_bound rs) (term.Var k)).most GREATEST_BOUND)
    (reaches-Var w k (length rs) reads ∙ lt-ltb k (length rs) (slice_get_within rs k r at))
    (ap (λ (b : Bound). nat_le b.most GREATEST_BOUND) (bound_by-Var w (map range_bound rs) k ∙ ap (λ n. bounded n 0) (bound_at rs k r at))
    ∙ le-leb (max (range_bound r) 0) GREATEST_BOUND (omega (arith, small)))

OwnBelow : World → List ℕ → Term → Type 0
OwnBelow w bs x = (bound_by w bs x).own ≤ (bound_by w bs x).most

own_below_from : (w : World) (bs : List ℕ) (x : Term) (own parts : ℕ) → bound_by w bs x ≡ bounded own parts → OwnBelow w bs x
unfolding OwnBelow
own_below_from w bs x own parts is = omega (arith, ap (λ (b : Bound). b.own) is, ap (λ (b : Bound). b.most) is)

own_below : (w : World) (bs : List ℕ) (x : Term) → OwnBelow w bs x
own_below w bs = every_term (OwnBelow w bs) (record {
  at_number = λ n. own_below_from w bs (term.Number n) _ _ (bound_by-Number w bs n);
  at_value = λ d v. own_below_from w bs (term.Value d v) _ _ (bound_by-Value w bs d v);
  at_var = λ l. own_below_from w bs (term.Var l) _ _ (bound_by-Var w bs l);
  at_read = λ number args each. own_below_from w bs (term.Read number args) _ _ (bound_by-Read w bs number args);
  at_sum = λ ps each. own_below_from w bs (term.Sum ps) _ _ (bound_by-Sum w bs ps);
  at_times = λ n x same. own_below_from w bs (term.Times n x) _ _ (bound_by-Times w bs n x);
})

minus_fits : (w : World) (rs : Ranges) (reads : Bool) (x : Term) → term_fits w rs reads x ≡ true → term_fits w rs reads (minus x) ≡ true
unfolding OwnBelow
minus_fits w rs reads x fits =
    let p = roll-SignedTerm (record { minus = true; term = x }) in
    let bs = map range_bound rs in
    let same : term_of p ≡ x = ap (λ (q : SignedTerm-F Term SignedTerm). q.term) (out-roll-SignedTerm (record { minus = true; term = x })) in
    let parts = and_parts (reaches w x (length rs) reads) (nat_le (bound_by w bs x).most GREATEST_BOUND) fits in
    let small = leb-true (bound_by w bs x).most GREATEST_BOUND parts.1 in
    let own = own_below w bs x in
    let whole = bound_by-Sum w bs (p ∷ []) ∙ ap (λ x. term_bound w [] (open_term.Sum (bound_by w bs x ∷ []))) same in
    let most : (term_bound w [] (open_term.Sum (bound_by w bs x ∷ []))).most ≤ GREATEST_BOUND = omega (arith, small, own) in
    and_from (reaches w (minus x) (length rs) reads) (nat_le (bound_by w bs (minus x)).most GREATEST_BOUND)
    (reaches-Sum w (p ∷ []) (length rs) reads ∙ and_from (reaches w (term_of p) (length rs) reads) true (ap (λ x. reaches w x (length rs) reads) same ∙ parts.0) refl)
    (ap (λ (b : Bound). nat_le b.most GREATEST_BOUND) whole ∙ le-leb (term_bound w [] (open_term.Sum (bound_by w bs x ∷ []))).most GREATEST_BOUND most)

pub towards_fits : (w : World) (rs : Ranges) (reads : Bool) (m : Way) (x : Term) → term_fits w rs reads x ≡ true → term_fits w rs reads (towards m x) ≡ true
towards_fits w rs reads way.Ahead x fits = fits
towards_fits w rs reads way.Back x fits = minus_fits w rs reads x fits

-- distances inside time
greatest_below : (ns : List ℕ) (b : ℕ) → ((k n : ℕ) → slice_get ns k ≡ Some n → n ≤ b) → greatest ns ≤ b
greatest_below [] b each = omega arith
greatest_below (n ∷ ns) b each = omega (arith, each 0 n refl, greatest_below ns b (λ k n at. each (suc k) n at))

near : (z : ℤ) → negsuc 254 ≤ℤ z → z ≤ℤ pos 255 → nat_abs z ≤ 255
near (pos n) from to = omega (arith, ints, to)
near (negsuc n) from to = omega (arith, ints, from)

pub small_range : (low high : ℤ) → negsuc 254 ≤ℤ low → high ≤ℤ pos 255 → range_bound (record { low = low; high = high }) ≤ 255
small_range low high from to = greatest_below (map nat_abs (numbers low high)) 255 each
  where
    of_number : (z : ℤ) (n : ℕ) (o : Option ℤ) → o ≡ Some z → option_map nat_abs o ≡ Some n → nat_abs z ≤ 255 → n ≤ 255
    of_number z n o is at small = omega (arith, small, same_Some (nat_abs z) n (sym (ap (option_map nat_abs) is) ∙ at))

    each : (k n : ℕ) → slice_get (map nat_abs (numbers low high)) k ≡ Some n → n ≤ 255
    each k n at =
        let inside : k < length (numbers low high) = omega (arith, slice_get_within (map nat_abs (numbers low high)) k n at, length-map (numbers low high) nat_abs) in
        let z = get_within (numbers low high) k inside in
        let i = integers_at low (count_of_values (kind.Range low high)) k z.0 z.1 in
        let r = value_at_first (kind.Range low high) z.0 k i.0 i.1 in
        of_number z.0 n (slice_get (numbers low high) k) z.1 (sym (slice_get-map nat_abs (numbers low high) k) ∙ at) (near z.0 (omega (arith, ints, from, r.0)) (omega (arith, ints, to, r.1)))
