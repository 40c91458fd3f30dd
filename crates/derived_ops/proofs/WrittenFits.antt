-- What a formula becomes fits: its terms, its ranges, and how many ranges stand round.
use Rattle.std.proofs.Common.{◌≡◌, ℕ, zero, suc, ◌+◌, ◌*◌, ◌/◌, ◌<◌, ◌≤◌, max, ℤ, pos, negsuc, neg_ℤ, ◌-ℤ◌, ◌≤ℤ◌, Bool, true, false, nat_lt, nat_le, List, [], ◌∷◌, ◌++◌, map, length, take, drop, slice_get, Some, refl, sym, ap, ◌∙◌, arith}
use Rattle.std.specs.Prelude.{int_le}
use Rattle.std.specs.List.{list_all, flat_map}
use Rattle.std.proofs.lemmas.Bool.{and_parts, and_from, false≢true, leb-true}
use Rattle.std.proofs.lemmas.Int.{ints}
use Rattle.std.proofs.lemmas.Option.{none-some}
use Rattle.trio_base.specs.declared.limits.TheConstants.{GREATEST_BOUND, MOST_VALUES}
use Rattle.trio_base.specs.declared.operators.Rel.{Rel}
use Rattle.trio_base.specs.declared.operators.Rel.TheVariants as rel
use Rattle.trio_base.specs.declared.operators.OneOp.{OneOp}
use Rattle.trio_base.specs.declared.operators.OneOp.TheVariants as one
use Rattle.trio_base.specs.declared.operators.Ends.{Ends}
use Rattle.trio_base.specs.declared.operators.Ends.TheVariants as ends
use Rattle.trio_base.specs.declared.operators.FarOp.{FarOp}
use Rattle.trio_base.specs.declared.operators.FarOp.TheVariants as far
use Rattle.trio_base.specs.declared.operators.PairOp.{PairOp}
use Rattle.trio_types.specs.declared.spec.DomainKind.{DomainKind}
use Rattle.trio_types.specs.declared.spec.DomainKind.TheVariants as kind
use Rattle.trio_types.specs.declared.spec.Domain.{Domain}
use Rattle.trio_types.specs.declared.formula.Term.{Term}
use Rattle.trio_types.specs.declared.formula.Term.TheVariants as term
use Rattle.trio_types.specs.declared.formula.Formula.{Formula}
use Rattle.trio_types.specs.declared.formula.Formula.TheVariants as formula
use Rattle.trio_types.specs.World.{World, integers, values_of}
use Rattle.trio_types.specs.Kinds.{is_right, has_kind, kind_in, kind_of_constant, term_uses, uses}
use Rattle.trio_types.specs.Bounds.{Bound, bounded, greatest, domain_bound, bound_of, greatest_bound}
use Rattle.trio_types.specs.Nest.{FormulaNest, nest_of}
use Rattle.trio_types.specs.WellFormed.{is_written, values_fit}
use Rattle.trio_types.proofs.Integers.{Decides-int_le}
use Rattle.trio_types.proofs.Lists.{all_left, all_right, get_left, get_right}
use Rattle.trio_types.proofs.Domains.{length-integers}
use Rattle.trio_types.proofs.Specs.{inside_from_kind}
use Rattle.trio_types.proofs.KindsAt.{uses-Lone, uses-Compare, uses-Not, uses-And, uses-Or, uses-Implies, uses-Iff, uses-All, uses-Ex, uses-One, uses-Far, uses-Pair}
use Rattle.trio_types.proofs.BoundsAt.{greatest_bound-Lone, greatest_bound-Compare, greatest_bound-Not, greatest_bound-And, greatest_bound-Or, greatest_bound-Implies, greatest_bound-Iff, greatest_bound-All, greatest_bound-Ex, greatest_bound-One, greatest_bound-Far, greatest_bound-Pair}
use Rattle.trio_types.proofs.CountsAt.{nest_of-Lone, nest_of-Compare, nest_of-Not, nest_of-And, nest_of-Or, nest_of-Implies, nest_of-Iff, nest_of-All, nest_of-Ex, nest_of-One, nest_of-Far, nest_of-Pair}
use Rattle.trio_core.specs.CoreShape.{Range, Ranges, reaches, bound_by, range_bound, term_fits}
use Rattle.trio_types.proofs.Inductions.{Each, every_formula}
use Rattle.trio_core.proofs.TermsAt.{reaches-Value, bound_by-Value}
use Rattle.derived_ops.specs.declared.joint.Joint.{Joint}
use Rattle.derived_ops.specs.declared.joint.Joint.TheVariants as joint
use Rattle.derived_ops.specs.declared.joint.Way.{Way}
use Rattle.derived_ops.specs.declared.joint.Way.TheVariants as way
use Rattle.derived_ops.specs.Shape.{Shape, atom, no, either, equal}
use Rattle.derived_ops.specs.Rewriting.{Levels, Written, renamed, opposite, joined, of_none, of_two, all_joined, range_of_kind, range_of_domain, for_some, last, somewhere, one_written, dist_written, at_far, least_of, within, throughout, next, far_written, until, way_of, written}
use Rattle.derived_ops.proofs.WrittenAt.{written-Lone, written-Compare, written-Not, written-And, written-Or, written-Implies, written-Iff, written-All, written-Ex, written-One, written-Far, written-Pair}
use Rattle.derived_ops.proofs.Placed.{ShapeFits}
use Rattle.derived_ops.proofs.TermsPlaced.{Place, place_new, place_own, renamed_fits, number_fits, variable_fits, towards_fits, small_range}

-- what is known of the instants and domains of a specification
pub record Grounded (w : World) : Type 0 where
  pub some : 0 < w.instants
  pub few : w.instants ≤ 256
  pub truth : (first : Domain) × (slice_get w.domains 0 ≡ Some first) × (first.kind ≡ kind.Bool)
  pub domains : (d : ℕ) (domain : Domain) → slice_get w.domains d ≡ Some domain → values_fit domain.kind ≡ true

-- what is written fits wherever the formula's variables have their ranges, with room for so many more
pub record Fits (w : World) (vs : List ℕ) (room : ℕ) (g : Written) : Type 0 where
  pub at : (k : ℕ) (ls : Levels) (rs : Ranges) → Place w k ls vs rs → k + room ≤ 200 → ShapeFits w (g k ls) rs

in_words : (w : World) (vs : List ℕ) (room more : ℕ) (f g : Written) → ((k : ℕ) (ls : Levels) → g k ls ≡ f k ls) → room ≤ more → Fits w vs room f → Fits w vs more g
in_words w vs room more f g same less fits = record {
  at = λ k ls rs place space. let fit = fits.at k ls rs place (omega (arith, space, less)) in rw (same k ls) fit;
}

-- whole numbers that may be written
written_number : (z : ℤ) → negsuc 999999 ≤ℤ z → z ≤ℤ pos 1000000 → is_written z ≡ true
written_number z from to =
    and_from (int_le (negsuc 999999) z) (int_le z (pos 1000000)) ((Decides-int_le (negsuc 999999) z).1 from) ((Decides-int_le z (pos 1000000)).1 to)

-- the ends of a new variable's range
record Distances (low high : ℤ) : Type 0 where
  low_from : negsuc 254 ≤ℤ low
  low_to : low ≤ℤ pos 255
  high_from : negsuc 254 ≤ℤ high
  high_to : high ≤ℤ pos 255

low_written : (low high : ℤ) → Distances low high → is_written low ≡ true
low_written low high d = written_number low (omega (arith, ints, d.low_from)) (omega (arith, ints, d.low_to))

high_written : (low high : ℤ) → Distances low high → is_written high ≡ true
high_written low high d = written_number high (omega (arith, ints, d.high_from)) (omega (arith, ints, d.high_to))

module _ (w : World) (ground : Grounded w) where
  last_near : (negsuc 254 ≤ℤ last w) × (last w ≤ℤ pos 255)
  last_near = let some = ground.some in let few = ground.few in (omega (arith, ints, some, few), omega (arith, ints, some, few))

  ends_near : (s : Ends) → (negsuc 254 ≤ℤ least_of s) × (least_of s ≤ℤ pos 255)
  ends_near ends.Bare = (omega (arith, ints), omega (arith, ints))
  ends_near ends.Ii = (omega (arith, ints), omega (arith, ints))
  ends_near ends.Ie = (omega (arith, ints), omega (arith, ints))
  ends_near ends.Ei = (omega (arith, ints), omega (arith, ints))

  range_distances : (s : Ends) → Distances (least_of s) (last w)
  range_distances s = record { low_from = (ends_near s).0; low_to = (ends_near s).1; high_from = last_near.0; high_to = last_near.1 }

  ahead_distances : Distances (pos 1) (last w)
  ahead_distances = record { low_from = omega (arith, ints); low_to = omega (arith, ints); high_from = last_near.0; high_to = last_near.1 }

  around_distances : Distances (neg_ℤ (last w)) (last w)
  around_distances = record {
    low_from = let l = last_near in omega (arith, ints, l.0, l.1);
    low_to = let l = last_near in let some = ground.some in omega (arith, ints, some);
    high_from = last_near.0;
    high_to = last_near.1;
  }

  behind_distances : Distances (neg_ℤ (last w)) (neg_ℤ (pos 1))
  behind_distances = record {
    low_from = around_distances.low_from;
    low_to = around_distances.low_to;
    high_from = omega (arith, ints);
    high_to = omega (arith, ints);
  }

  -- a truth constant
  true_fits : (rs : Ranges) (reads : Bool) → term_fits w rs reads (term.Value 0 1) ≡ true
  unfolding integers
  true_fits rs reads =
      let at = ground.truth.1 in
      let is = ground.truth.2 in
      let has : has_kind (kind_of_constant w 0 1) ≡ true = rw (at, is) refl in
      let small : nat_le (bounded (domain_bound w 0) 0).most GREATEST_BOUND ≡ true = rw (at, is) refl in
      and_from (reaches w (term.Value 0 1) (length rs) reads) (nat_le (bound_by w (map range_bound rs) (term.Value 0 1)).most GREATEST_BOUND)
      (reaches-Value w 0 1 (length rs) reads ∙ has)
      (ap (λ (b : Bound). nat_le b.most GREATEST_BOUND) (bound_by-Value w (map range_bound rs) 0 1) ∙ small)

  -- a new variable
  newest : (rs : Ranges) (r : Range) (k : ℕ) → length rs ≡ k → slice_get (rs ++ r ∷ []) k ≡ Some r
  newest rs r k whole = let at : k ≡ length rs + 0 = omega (arith, whole) in ap (slice_get (rs ++ r ∷ [])) at ∙ get_right rs (r ∷ []) 0

  new_fits : (rs : Ranges) (k : ℕ) (reads : Bool) (low high : ℤ) → Distances low high → length rs ≡ k → term_fits w (rs ++ record { low = low; high = high } ∷ []) reads (term.Var k) ≡ true
  new_fits rs k reads low high d whole =
      let r : Range = record { low = low; high = high } in
      variable_fits w (rs ++ r ∷ []) reads k r (newest rs r k whole) (small_range low high d.low_from d.high_to)

  outer_fits : (rs : Ranges) (k : ℕ) (reads : Bool) (low high : ℤ) (q : Range) → Distances low high → length rs ≡ k →
      term_fits w (rs ++ record { low = low; high = high } ∷ [] ++ q ∷ []) reads (term.Var k) ≡ true
  outer_fits rs k reads low high q d whole =
      let r : Range = record { low = low; high = high } in
      variable_fits w (rs ++ r ∷ [] ++ q ∷ []) reads k r (get_left (rs ++ r ∷ []) (q ∷ []) k r (newest rs r k whole)) (small_range low high d.low_from d.high_to)

  -- a distance of the formula: nothing reads in it
  record Distance (vs : List ℕ) (x : Term) : Type 0 where
    right : list_all is_right (term_uses w vs true x) ≡ true
    small : (bound_of w vs x).most ≤ GREATEST_BOUND

  distance_fits : (k : ℕ) (ls : Levels) (vs : List ℕ) (rs : Ranges) (x : Term) (reads : Bool) → Distance vs x → Place w k ls vs rs → term_fits w rs reads (renamed ls x) ≡ true
  distance_fits k ls vs rs x reads d place = renamed_fits w k ls vs rs place x true reads (λ no. absurd (false≢true no)) d.right d.small

  -- operators on what fits
  fit_opposite : (vs : List ℕ) (room : ℕ) (g : Written) → Fits w vs room g → Fits w vs room (opposite g)
  fit_opposite vs room g fits = record { at = λ k ls rs place space. fits.at k ls rs place space }

  range_written : (k : DomainKind) → values_fit k ≡ true → (is_written (range_of_kind k).low ≡ true) × (is_written (range_of_kind k).high ≡ true)
  range_written kind.Bool fit = (refl, refl)
  range_written (kind.Range low high) fit = and_parts (is_written low) (is_written high) (and_parts _ _ fit).0
  range_written (kind.Words words) fit =
      let whole = length-integers (pos 0) (length words) in
      let few = leb-true (length (values_of (kind.Words words))) MOST_VALUES
      (and_parts (nat_lt 0 (length (values_of (kind.Words words)))) (nat_le (length (values_of (kind.Words words))) MOST_VALUES) fit).1 in
      (refl, written_number (pos (length words) -ℤ pos 1) (omega (arith, ints)) (omega (arith, ints, few, whole)))

  domain_written : (d : ℕ) (domain : Domain) → slice_get w.domains d ≡ Some domain → (is_written (range_of_domain w d).low ≡ true) × (is_written (range_of_domain w d).high ≡ true)
  domain_written d domain at = let both = range_written domain.kind (ground.domains d domain at) in rw at both

  fit_for_some : (vs : List ℕ) (room d : ℕ) (domain : Domain) (g : Written) → slice_get w.domains d ≡ Some domain → Fits w (vs ++ d ∷ []) room g →
      Fits w vs (room + 1) (for_some (range_of_domain w d) g)
  fit_for_some vs room d domain g at fits = record {
    at = λ k ls rs place space.
        let both = domain_written d domain at in
        (both.0, both.1, fits.at (k + 1) (ls ++ k ∷ []) (rs ++ range_of_domain w d ∷ []) (place_own w k ls vs rs d place) (omega (arith, space)));
  }

  fit_somewhere : (vs : List ℕ) (room : ℕ) (low high : ℤ) (g : Written) → Distances low high → Fits w vs room g → Fits w vs (room + 1) (somewhere low high g)
  fit_somewhere vs room low high g d fits = record {
    at = λ k ls rs place space.
        let r : Range = record { low = low; high = high } in (
          low_written low high d,
          high_written low high d,
          (fits.at (k + 1) ls (rs ++ r ∷ []) (place_new w k ls vs rs r place) (omega (arith, space)), new_fits rs k false low high d place.whole),
        );
  }

  fit_dist : (vs : List ℕ) (room : ℕ) (x : Term) (g : Written) → Distance vs x → Fits w vs room g → Fits w vs room (dist_written g x)
  fit_dist vs room x g d fits = record {
    at = λ k ls rs place space. (fits.at k ls rs place space, distance_fits k ls vs rs x false d place);
  }

  fit_at_far : (vs : List ℕ) (room : ℕ) (m : Way) (x : Term) (g : Written) → Distance vs x → Fits w vs room g → Fits w vs room (at_far m g x)
  fit_at_far vs room m x g d fits = record {
    at = λ k ls rs place space. (
      (number_fits w rs true, distance_fits k ls vs rs x true d place, omega (arith, space, place.whole)),
      (fits.at k ls rs place space, towards_fits w rs false m (renamed ls x) (distance_fits k ls vs rs x false d place)),
    );
  }

  fit_within : (vs : List ℕ) (room : ℕ) (m : Way) (s : Ends) (x : Term) (g : Written) → Distance vs x → Fits w vs room g → Fits w vs (room + 1) (within w m s g x)
  fit_within vs room m s x g d fits = record {
    at = λ k ls rs place space.
        let r : Range = record { low = least_of s; high = last w } in
        let inside = place_new w k ls vs rs r place in
        let near = range_distances s in (
          low_written (least_of s) (last w) near,
          high_written (least_of s) (last w) near,
          (
            (new_fits rs k true (least_of s) (last w) near place.whole, distance_fits (k + 1) ls vs (rs ++ r ∷ []) x true d inside, omega (arith, space, inside.whole)),
            (
              fits.at (k + 1) ls (rs ++ r ∷ []) inside (omega (arith, space)),
              towards_fits w (rs ++ r ∷ []) false m (term.Var k) (new_fits rs k false (least_of s) (last w) near place.whole),
            ),
          ),
        );
  }

  fit_throughout : (vs : List ℕ) (room : ℕ) (m : Way) (s : Ends) (x : Term) (g : Written) → Distance vs x → Fits w vs room g → Fits w vs (room + 1) (throughout w m s g x)
  fit_throughout vs room m s x g d fits =
      fit_opposite vs (room + 1) (within w m s (opposite g) x) (fit_within vs room m s x (opposite g) d (fit_opposite vs room g fits))

  weaker : (vs : List ℕ) (room more : ℕ) (g : Written) → room ≤ more → Fits w vs room g → Fits w vs more g
  weaker vs room more g less fits = in_words w vs room more g g (λ k ls. refl) less fits

  fit_next : (vs : List ℕ) (room : ℕ) (m : Way) (x : Term) (g : Written) → Distance vs x → Fits w vs room g → Fits w vs (room + 1) (next w m g x)
  fit_next vs room m x g d fits =
      let first = weaker vs room (room + 1) (at_far m g x) (omega arith) (fit_at_far vs room m x g d fits) in
      let second = fit_throughout vs room m ends.Bare x (opposite g) d (fit_opposite vs room g fits) in
      record { at = λ k ls rs place space. (first.at k ls rs place space, second.at k ls rs place space) }

  deeper_place : (k : ℕ) (ls : Levels) (vs : List ℕ) (rs : Ranges) (q r : Range) → Place w k ls vs rs → Place w (k + 2) ls vs (rs ++ q ∷ [] ++ r ∷ [])
  deeper_place k ls vs rs q r place =
      let inside = place_new w (k + 1) ls vs (rs ++ q ∷ []) r (place_new w k ls vs rs q place) in
      record { whole = omega (arith, inside.whole); as_many = inside.as_many; each = inside.each }

  fit_until : (vs : List ℕ) (room : ℕ) (m : Way) (f g : Written) → Fits w vs room f → Fits w vs room g → Fits w vs (room + 2) (until w m f g)
  fit_until vs room m f g fits_f fits_g = record {
    at = λ k ls rs place space.
        let r : Range = record { low = pos 1; high = last w } in
        let one = rs ++ r ∷ [] in
        let near = ahead_distances in
        let inside = place_new w k ls vs rs r place in
        let deep = deeper_place k ls vs rs r r place in
        let low = low_written (pos 1) (last w) near in
        let high = high_written (pos 1) (last w) near in (
          low,
          high,
          (
            (
              fits_g.at (k + 1) ls one inside (omega (arith, space)),
              towards_fits w one false m (term.Var k) (new_fits rs k false (pos 1) (last w) near place.whole),
            ),
            (
              low,
              high,
              (
                (
                  new_fits one (k + 1) true (pos 1) (last w) near inside.whole,
                  outer_fits rs k true (pos 1) (last w) r near place.whole,
                  omega (arith, space, deep.whole),
                ),
                (
                  fits_f.at (k + 2) ls (one ++ r ∷ []) deep (omega (arith, space)),
                  towards_fits w (one ++ r ∷ []) false m (term.Var (k + 1)) (new_fits one (k + 1) false (pos 1) (last w) near inside.whole),
                ),
              ),
            ),
          ),
        );
  }

  fit_one : (vs : List ℕ) (room : ℕ) (o : OneOp) (g : Written) → Fits w vs room g → Fits w vs (room + 1) (one_written w o g)
  fit_one vs room one.Som g fits = fit_somewhere vs room (neg_ℤ (last w)) (last w) g around_distances fits
  fit_one vs room one.SomF g fits = fit_somewhere vs room (pos 1) (last w) g ahead_distances fits
  fit_one vs room one.SomP g fits = fit_somewhere vs room (neg_ℤ (last w)) (neg_ℤ (pos 1)) g behind_distances fits
  fit_one vs room one.Alw g fits = fit_opposite vs (room + 1) (somewhere (neg_ℤ (last w)) (last w) (opposite g))
      (fit_somewhere vs room (neg_ℤ (last w)) (last w) (opposite g) around_distances (fit_opposite vs room g fits))
  fit_one vs room one.AlwF g fits = fit_opposite vs (room + 1) (somewhere (pos 1) (last w) (opposite g))
      (fit_somewhere vs room (pos 1) (last w) (opposite g) ahead_distances (fit_opposite vs room g fits))
  fit_one vs room one.AlwP g fits = fit_opposite vs (room + 1) (somewhere (neg_ℤ (last w)) (neg_ℤ (pos 1)) (opposite g))
      (fit_somewhere vs room (neg_ℤ (last w)) (neg_ℤ (pos 1)) (opposite g) behind_distances (fit_opposite vs room g fits))

  fit_far : (vs : List ℕ) (room : ℕ) (o : FarOp) (g : Written) (x : Term) → Distance vs x → Fits w vs room g → Fits w vs (room + 1) (far_written w o g x)
  fit_far vs room far.Dist g x d fits = weaker vs room (room + 1) (dist_written g x) (omega arith) (fit_dist vs room x g d fits)
  fit_far vs room far.Futr g x d fits = weaker vs room (room + 1) (at_far way.Ahead g x) (omega arith) (fit_at_far vs room way.Ahead x g d fits)
  fit_far vs room far.Past g x d fits = weaker vs room (room + 1) (at_far way.Back g x) (omega arith) (fit_at_far vs room way.Back x g d fits)
  fit_far vs room far.NextTime g x d fits = fit_next vs room way.Ahead x g d fits
  fit_far vs room far.LastTime g x d fits = fit_next vs room way.Back x g d fits
  fit_far vs room (far.Lasts s) g x d fits = fit_throughout vs room way.Ahead s x g d fits
  fit_far vs room (far.Lasted s) g x d fits = fit_throughout vs room way.Back s x g d fits
  fit_far vs room (far.WithinF s) g x d fits = fit_within vs room way.Ahead s x g d fits
  fit_far vs room (far.WithinP s) g x d fits = fit_within vs room way.Back s x g d fits

  -- many parts
  abbrev EachFits : Ranges → List Shape → Type 0
  EachFits rs ss = Each (λ s. ShapeFits w s rs) ss

  each_take : (rs : Ranges) (n : ℕ) (ss : List Shape) → EachFits rs ss → EachFits rs (take n ss)
  each_take rs zero ss each = tt
  each_take rs (suc n) [] each = tt
  each_take rs (suc n) (s ∷ ss) each = (each.0, each_take rs n ss each.1)

  each_drop : (rs : Ranges) (n : ℕ) (ss : List Shape) → EachFits rs ss → EachFits rs (drop n ss)
  each_drop rs zero ss each = each
  each_drop rs (suc n) [] each = tt
  each_drop rs (suc n) (s ∷ ss) each = each_drop rs n ss each.1

  none_fits : (j : Joint) (rs : Ranges) → length rs ≤ 200 → ShapeFits w (of_none j) rs
  none_fits joint.And rs few = (number_fits w rs true, number_fits w rs true, few)
  none_fits joint.Or rs few = (number_fits w rs true, number_fits w rs true, few)

  two_fit : (j : Joint) (rs : Ranges) (s u : Shape) → ShapeFits w s rs → ShapeFits w u rs → ShapeFits w (of_two j s u) rs
  two_fit joint.And rs s u a b = (a, b)
  two_fit joint.Or rs s u a b = (a, b)

  joined_fits : (j : Joint) (rs : Ranges) → length rs ≤ 200 → (depth : ℕ) (ss : List Shape) → EachFits rs ss → ShapeFits w (joined (of_two j) (of_none j) depth ss) rs
  joined_fits j rs few zero [] each = none_fits j rs few
  joined_fits j rs few (suc depth) [] each = none_fits j rs few
  joined_fits j rs few zero (s ∷ []) each = each.0
  joined_fits j rs few (suc depth) (s ∷ []) each = each.0
  joined_fits j rs few zero (s ∷ u ∷ ss) each =
      two_fit j rs s (joined (of_two j) (of_none j) zero (u ∷ ss)) each.0 (joined_fits j rs few zero (u ∷ ss) each.1)
  joined_fits j rs few (suc depth) (s ∷ u ∷ ss) each =
      let half = (length (s ∷ u ∷ ss) + 1) / 2 in
      let first = take half (s ∷ u ∷ ss) in
      let rest = drop half (s ∷ u ∷ ss) in
      two_fit j rs (joined (of_two j) (of_none j) depth first) (joined (of_two j) (of_none j) depth rest)
      (joined_fits j rs few depth first (each_take rs half (s ∷ u ∷ ss) each)) (joined_fits j rs few depth rest (each_drop rs half (s ∷ u ∷ ss) each))

-- a formula of which the terms are right, and its brackets
NoFewer : Formula → Type 0
NoFewer f = (nest_of f).plain ≤ (nest_of f).grouped

no_fewer : (f : Formula) (n : FormulaNest) → nest_of f ≡ n → n.plain ≤ n.grouped → NoFewer f
unfolding NoFewer
no_fewer f n is less = omega (arith, ap (λ (n : FormulaNest). n.plain) is, ap (λ (n : FormulaNest). n.grouped) is, less)

all_no_fewer : (f : Formula) → NoFewer f
all_no_fewer = every_formula NoFewer (record {
  at_lone = λ x. no_fewer (formula.Lone x) _ (nest_of-Lone x) (omega arith);
  at_compare = λ r x y. no_fewer (formula.Compare r x y) _ (nest_of-Compare r x y) (omega arith);
  at_not = λ f p. no_fewer (formula.Not f) _ (nest_of-Not f) (omega arith);
  at_and = λ fs p. no_fewer (formula.And fs) _ (nest_of-And fs) (omega arith);
  at_or = λ fs p. no_fewer (formula.Or fs) _ (nest_of-Or fs) (omega arith);
  at_implies = λ f g p q. no_fewer (formula.Implies f g) _ (nest_of-Implies f g) (omega arith);
  at_iff = λ f g p q. no_fewer (formula.Iff f g) _ (nest_of-Iff f g) (omega arith);
  at_all = λ name d f p. no_fewer (formula.All name d f) _ (nest_of-All name d f) (omega arith);
  at_ex = λ name d f p. no_fewer (formula.Ex name d f) _ (nest_of-Ex name d f) (omega arith);
  at_one = λ o f p. no_fewer (formula.One o f) _ (nest_of-One o f) (omega arith);
  at_far = λ o f x p. no_fewer (formula.Far o f x) _ (nest_of-Far o f x) (omega arith);
  at_pair = λ o f g p q. no_fewer (formula.Pair o f g) _ (nest_of-Pair o f g) (omega arith);
})

grouped : (f : Formula) → (nest_of f).plain ≤ (nest_of f).grouped
unfolding NoFewer
grouped f = all_no_fewer f

plain_of : (f : Formula) {n : FormulaNest} → nest_of f ≡ n → (nest_of f).plain ≡ n.plain
plain_of f is = ap (λ (n : FormulaNest). n.plain) is

module _ (w : World) (ground : Grounded w) where
  abbrev room_of : Formula → ℕ
  room_of f = 2 * (nest_of f).plain

  abbrev Fit : Formula → Type 0
  Fit f = (vs : List ℕ) → list_all is_right (uses w f vs) ≡ true → greatest_bound w f vs ≤ GREATEST_BOUND → Fits w vs (room_of f) (written w f)

  fit_lone : (x : Term) → Fit (formula.Lone x)
  fit_lone x vs right small = record {
    at = λ k ls rs place space.
        let parts = and_parts _ _ (sym (ap (list_all is_right) (uses-Lone w x vs)) ∙ right) in
        let fits = renamed_fits w k ls vs rs place x false true (λ yes. refl) parts.1 (omega (arith, small, greatest_bound-Lone w x vs)) in
        let shape : ShapeFits w (atom rel.Eq (renamed ls x) (term.Value 0 1)) rs = (fits, true_fits w ground rs true, omega (arith, space, place.whole)) in
        rw (written-Lone w k ls x) shape;
  }

  fit_compare : (r : Rel) (x y : Term) → Fit (formula.Compare r x y)
  fit_compare r x y vs right small = record {
    at = λ k ls rs place space.
        let rest = (and_parts _ _ (sym (ap (list_all is_right) (uses-Compare w r x y vs)) ∙ right)).1 in
        let bound = greatest_bound-Compare w r x y vs in
        let left = renamed_fits w k ls vs rs place x false true (λ yes. refl) (all_left is_right (term_uses w vs false x) (term_uses w vs false y) rest) (omega (arith, small, bound)) in
        let other = renamed_fits w k ls vs rs place y false true (λ yes. refl) (all_right is_right (term_uses w vs false x) (term_uses w vs false y) rest) (omega (arith, small, bound)) in
        let shape : ShapeFits w (atom r (renamed ls x) (renamed ls y)) rs = (left, other, omega (arith, space, place.whole)) in
        rw (written-Compare w k ls r x y) shape;
  }

  fit_not : (f : Formula) → Fit f → Fit (formula.Not f)
  fit_not f fit vs right small =
      in_words w vs (room_of f) (room_of (formula.Not f)) (opposite (written w f)) (written w (formula.Not f)) (λ k ls. written-Not w k ls f)
      (omega (arith, plain_of (formula.Not f) (nest_of-Not f), grouped f))
      (fit_opposite w ground vs (room_of f) (written w f) (fit vs (sym (ap (list_all is_right) (uses-Not w f vs)) ∙ right) (omega (arith, small, greatest_bound-Not w f vs))))

  -- each of many parts
  parts_fit : (vs : List ℕ) (k : ℕ) (ls : Levels) (rs : Ranges) → Place w k ls vs rs → (fs : List Formula) → Each Fit fs → list_all is_right (flat_map (λ f. uses w f vs) fs) ≡ true →
      greatest (map (λ f. greatest_bound w f vs) fs) ≤ GREATEST_BOUND → k + 2 * greatest (map (λ f. (nest_of f).grouped) fs) ≤ 200 →
      EachFits w ground rs (map (λ f. written w f k ls) fs)
  parts_fit vs k ls rs place [] each right small space = tt
  parts_fit vs k ls rs place (f ∷ fs) each right small space = (
    (each.0 vs (all_left is_right (uses w f vs) (flat_map (λ f. uses w f vs) fs) right) (omega (arith, small))).at k ls rs place (omega (arith, space, grouped f)),
    parts_fit vs k ls rs place fs each.1 (all_right is_right (uses w f vs) (flat_map (λ f. uses w f vs) fs) right) (omega (arith, small)) (omega (arith, space)),
  )

  all_joined_fit : (j : Joint) (whole : Formula) (fs : List Formula) (vs : List ℕ) → ((k : ℕ) (ls : Levels) → written w whole k ls ≡ all_joined j (map (λ f. written w f k ls) fs)) →
      uses w whole vs ≡ flat_map (λ f. uses w f vs) fs → greatest_bound w whole vs ≡ greatest (map (λ f. greatest_bound w f vs) fs) →
      (nest_of whole).plain ≡ greatest (map (λ f. (nest_of f).grouped) fs) → Each Fit fs → list_all is_right (uses w whole vs) ≡ true → greatest_bound w whole vs ≤ GREATEST_BOUND →
      Fits w vs (room_of whole) (written w whole)
  all_joined_fit j whole fs vs shape used bound nest each right small = record {
    at = λ k ls rs place space.
        let ss = map (λ f. written w f k ls) fs in
        let parts = parts_fit vs k ls rs place fs each (sym (ap (list_all is_right) used) ∙ right) (omega (arith, small, bound)) (omega (arith, space, nest)) in
        let fits = joined_fits w ground j rs (omega (arith, space, place.whole)) (length ss) ss parts in
        rw (shape k ls) fits;
  }

  fit_and : (fs : List Formula) → Each Fit fs → Fit (formula.And fs)
  fit_and fs each vs right small =
      all_joined_fit joint.And (formula.And fs) fs vs (λ k ls. written-And w k ls fs) (uses-And w fs vs) (greatest_bound-And w fs vs) (plain_of (formula.And fs) (nest_of-And fs)) each right small

  fit_or : (fs : List Formula) → Each Fit fs → Fit (formula.Or fs)
  fit_or fs each vs right small =
      all_joined_fit joint.Or (formula.Or fs) fs vs (λ k ls. written-Or w k ls fs) (uses-Or w fs vs) (greatest_bound-Or w fs vs) (plain_of (formula.Or fs) (nest_of-Or fs)) each right small

  -- two parts
  record TwoFit (vs : List ℕ) (room : ℕ) (f g : Formula) : Type 0 where
    left : Fits w vs room (written w f)
    other : Fits w vs room (written w g)

  two : (whole f g : Formula) (vs : List ℕ) (room : ℕ) → Fit f → Fit g → uses w whole vs ≡ uses w f vs ++ uses w g vs →
      greatest_bound w whole vs ≡ max (greatest_bound w f vs) (greatest_bound w g vs) → room_of f ≤ room → room_of g ≤ room →
      list_all is_right (uses w whole vs) ≡ true → greatest_bound w whole vs ≤ GREATEST_BOUND → TwoFit vs room f g
  two whole f g vs room fit_f fit_g used bound less_f less_g right small =
      let all = sym (ap (list_all is_right) used) ∙ right in
      record {
        left = weaker w ground vs (room_of f) room (written w f) less_f (fit_f vs (all_left is_right (uses w f vs) (uses w g vs) all) (omega (arith, small, bound)));
        other = weaker w ground vs (room_of g) room (written w g) less_g (fit_g vs (all_right is_right (uses w f vs) (uses w g vs) all) (omega (arith, small, bound)));
      }

  fit_implies : (f g : Formula) → Fit f → Fit g → Fit (formula.Implies f g)
  fit_implies f g fit_f fit_g vs right small =
      let nest = plain_of (formula.Implies f g) (nest_of-Implies f g) in
      let room = room_of (formula.Implies f g) in
      let parts = two (formula.Implies f g) f g vs room fit_f fit_g (uses-Implies w f g vs) (greatest_bound-Implies w f g vs)
      (omega (arith, nest, grouped f)) (omega (arith, nest, grouped g)) right small in
      record {
        at = λ k ls rs place space.
            let shape : ShapeFits w (either (no (written w f k ls)) (written w g k ls)) rs = (parts.left.at k ls rs place space, parts.other.at k ls rs place space) in
            rw (written-Implies w k ls f g) shape;
      }

  fit_iff : (f g : Formula) → Fit f → Fit g → Fit (formula.Iff f g)
  fit_iff f g fit_f fit_g vs right small =
      let nest = plain_of (formula.Iff f g) (nest_of-Iff f g) in
      let room = room_of (formula.Iff f g) in
      let parts = two (formula.Iff f g) f g vs room fit_f fit_g (uses-Iff w f g vs) (greatest_bound-Iff w f g vs)
      (omega (arith, nest, grouped f)) (omega (arith, nest, grouped g)) right small in
      record {
        at = λ k ls rs place space.
            let shape : ShapeFits w (equal (written w f k ls) (written w g k ls)) rs = (parts.left.at k ls rs place space, parts.other.at k ls rs place space) in
            rw (written-Iff w k ls f g) shape;
      }

  -- quantifiers
  fit_quantified : (whole f : Formula) (d : ℕ) (g : Written) (vs : List ℕ) → ((k : ℕ) (ls : Levels) → written w whole k ls ≡ for_some (range_of_domain w d) g k ls) →
      has_kind (kind_in w d) ≡ true → (nest_of whole).plain ≡ 1 + (nest_of f).plain → Fits w (vs ++ d ∷ []) (room_of f) g → Fits w vs (room_of whole) (written w whole)
  fit_quantified whole f d g vs shape has nest fits =
      let domain = inside_from_kind w d has in
      in_words w vs (room_of f + 1) (room_of whole) (for_some (range_of_domain w d) g) (written w whole) shape (omega (arith, nest))
      (fit_for_some w ground vs (room_of f) d domain.0 g domain.1 fits)

  fit_ex : (name : List ℕ) (d : ℕ) (f : Formula) → Fit f → Fit (formula.Ex name d f)
  fit_ex name d f fit vs right small =
      let all = and_parts _ _ (sym (ap (list_all is_right) (uses-Ex w name d f vs)) ∙ right) in
      fit_quantified (formula.Ex name d f) f d (written w f) vs (λ k ls. written-Ex w k ls name d f) all.0 (plain_of (formula.Ex name d f) (nest_of-Ex name d f))
      (fit (vs ++ d ∷ []) all.1 (omega (arith, small, greatest_bound-Ex w name d f vs)))

  fit_all : (name : List ℕ) (d : ℕ) (f : Formula) → Fit f → Fit (formula.All name d f)
  fit_all name d f fit vs right small =
      let all = and_parts _ _ (sym (ap (list_all is_right) (uses-All w name d f vs)) ∙ right) in
      let domain = inside_from_kind w d all.0 in
      let body = fit_opposite w ground (vs ++ d ∷ []) (room_of f) (written w f) (fit (vs ++ d ∷ []) all.1 (omega (arith, small, greatest_bound-All w name d f vs))) in
      in_words w vs (room_of f + 1) (room_of (formula.All name d f)) (opposite (for_some (range_of_domain w d) (opposite (written w f)))) (written w (formula.All name d f))
      (λ k ls. written-All w k ls name d f) (omega (arith, plain_of (formula.All name d f) (nest_of-All name d f)))
      (fit_opposite w ground vs (room_of f + 1) (for_some (range_of_domain w d) (opposite (written w f)))
      (fit_for_some w ground vs (room_of f) d domain.0 (opposite (written w f)) domain.1 body))

  -- operators
  fit_at_one : (o : OneOp) (f : Formula) → Fit f → Fit (formula.One o f)
  fit_at_one o f fit vs right small =
      in_words w vs (room_of f + 1) (room_of (formula.One o f)) (one_written w o (written w f)) (written w (formula.One o f)) (λ k ls. written-One w k ls o f)
      (omega (arith, plain_of (formula.One o f) (nest_of-One o f)))
      (fit_one w ground vs (room_of f) o (written w f) (fit vs (sym (ap (list_all is_right) (uses-One w o f vs)) ∙ right) (omega (arith, small, greatest_bound-One w o f vs))))

  fit_at_distance : (o : FarOp) (f : Formula) (x : Term) → Fit f → Fit (formula.Far o f x)
  fit_at_distance o f x fit vs right small =
      let rest = (and_parts _ _ (sym (ap (list_all is_right) (uses-Far w o f x vs)) ∙ right)).1 in
      let bound = greatest_bound-Far w o f x vs in
      in_words w vs (room_of f + 1) (room_of (formula.Far o f x)) (far_written w o (written w f) x) (written w (formula.Far o f x)) (λ k ls. written-Far w k ls o f x)
      (omega (arith, plain_of (formula.Far o f x) (nest_of-Far o f x)))
      (fit_far w ground vs (room_of f) o (written w f) x
      (record { right = all_right is_right (uses w f vs) (term_uses w vs true x) rest; small = omega (arith, small, bound) })
      (fit vs (all_left is_right (uses w f vs) (term_uses w vs true x) rest) (omega (arith, small, bound))))

  fit_pair : (o : PairOp) (f g : Formula) → Fit f → Fit g → Fit (formula.Pair o f g)
  fit_pair o f g fit_f fit_g vs right small =
      let nest = plain_of (formula.Pair o f g) (nest_of-Pair o f g) in
      let room = 2 * max (nest_of f).plain (nest_of g).plain in
      let parts = two (formula.Pair o f g) f g vs room fit_f fit_g (uses-Pair w o f g vs) (greatest_bound-Pair w o f g vs) (omega arith) (omega arith) right small in
      in_words w vs (room + 2) (room_of (formula.Pair o f g)) (until w (way_of o) (written w f) (written w g)) (written w (formula.Pair o f g)) (λ k ls. written-Pair w k ls o f g)
      (omega (arith, nest))
      (fit_until w ground vs room (way_of o) (written w f) (written w g) parts.left parts.other)

  pub fits : (f : Formula) → Fit f
  fits = every_formula Fit (record {
    at_lone = fit_lone;
    at_compare = fit_compare;
    at_not = fit_not;
    at_and = fit_and;
    at_or = fit_or;
    at_implies = fit_implies;
    at_iff = fit_iff;
    at_all = fit_all;
    at_ex = fit_ex;
    at_one = fit_at_one;
    at_far = fit_at_distance;
    at_pair = fit_pair;
  })

  -- where no variable is round the formula
  pub shape_fits : (f : Formula) → list_all is_right (uses w f []) ≡ true → greatest_bound w f [] ≤ GREATEST_BOUND → (nest_of f).plain ≤ 100 → ShapeFits w (written w f 0 []) []
  shape_fits f right small nest =
      (fits f [] right small).at 0 [] [] (record { whole = refl; as_many = refl; each = λ l m d lt dt. absurd (none-some m lt) }) (omega (arith, nest))
