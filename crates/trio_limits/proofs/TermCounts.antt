-- The counts of each form of a term, from those of its parts.
use Rattle.std.proofs.Common.{◌≡◌, ℕ, ◌+◌, ◌*◌, ◌≤◌, max, sum, List, map, take, length, get_or, ◌<◌, slice_get, refl, sym, ap, ◌∙◌, arith}
use Rattle.trio_types.specs.declared.formula.Term.{Term}
use Rattle.trio_types.specs.declared.formula.Term.TheVariants as term
use Rattle.trio_types.specs.declared.formula.SignedTerm.{SignedTerm, out-SignedTerm}
use Rattle.trio_types.specs.World.{World}
use Rattle.trio_types.specs.Bounds.{Bound, greatest, bound_of, domain_bound, item_bound, variable_bound}
use Rattle.trio_types.specs.Nest.{TermNest, nest_of_term, in_brackets}
use Rattle.trio_types.proofs.BoundsAt.{bound_of-Number, bound_of-Value, bound_of-Var, bound_of-Read, bound_of-Sum, bound_of-Times}
use Rattle.trio_types.proofs.CountsAt.{nest_of_term-Number, nest_of_term-Value, nest_of_term-Var, nest_of_term-Read, nest_of_term-Sum, nest_of_term-Times}
use Rattle.trio_types.proofs.Lists.{map-map}
use Rattle.trio_limits.specs.declared.counts.TermCounts.{TermCounts}
use Rattle.trio_limits.specs.declared.counts.ArgumentCounts.{ArgumentCounts}
use Rattle.trio_limits.specs.declared.counts.PartCounts.{PartCounts}
use Rattle.trio_limits.specs.Given.{given_count}
use Rattle.trio_limits.specs.Counting.{leaf, term_counts_of, arguments_of, part_counts}
use Rattle.trio_limits.proofs.Saturating.{given_small, given_times}
use Rattle.trio_limits.proofs.Greatest.{greatest-last, sum-last, in_brackets-last, mapped_next}

abbrev pub the_counts : ℕ → ℕ → ℕ → ℕ → ℕ → TermCounts
the_counts o m p q r = record { own = o; most = m; plain = p; as_part = q; as_factor = r }

abbrev pub the_argument_counts : ℕ → ℕ → ArgumentCounts
the_argument_counts m p = record { most = m; plain = p }

abbrev pub the_part_counts : ℕ → ℕ → ℕ → PartCounts
the_part_counts o m p = record { own = o; most = m; as_part = p }

same_arguments : (m p m' p' : ℕ) → m ≡ m' → p ≡ p' → the_argument_counts m p ≡ the_argument_counts m' p'
same_arguments m p m' p' first second = rw (first, second) refl

same_parts : (o m p o' m' p' : ℕ) → o ≡ o' → m ≡ m' → p ≡ p' → the_part_counts o m p ≡ the_part_counts o' m' p'
same_parts o m p o' m' p' first second third = rw (first, second, third) refl

same : (o m p q r o' m' p' q' r' : ℕ) → o ≡ o' → m ≡ m' → p ≡ p' → q ≡ q' → r ≡ r' →
    the_counts o m p q r ≡ the_counts o' m' p' q' r'
same o m p q r o' m' p' q' r' first second third fourth fifth = rw (first, second, third, fourth, fifth) refl

-- the counts by the bound and the brackets of a term
of_both : (w : World) (vs : List ℕ) (x : Term) (b : Bound) (n : TermNest) → bound_of w vs x ≡ b → nest_of_term x ≡ n →
    the_counts (given_count b.own) (given_count b.most) (given_count n.plain) (given_count n.as_part) (given_count n.as_factor) ≡ term_counts_of w vs x
of_both w vs x b n bound nest = rw (bound, nest) refl

module _ (w : World) (vs : List ℕ) where
  leaf_is : (x : Term) (b : ℕ) → b ≤ 18446744073709551615 → bound_of w vs x ≡ record { own = b; most = max b 0 } →
      nest_of_term x ≡ record { plain = 0; as_part = 0; as_factor = 0 } → leaf b ≡ term_counts_of w vs x
  leaf_is x b small bound nest =
      same b b 0 0 0 (given_count b) (given_count (max b 0)) 0 0 0 (sym (given_small b small)) (omega arith) refl refl refl
      ∙ of_both w vs x (record { own = b; most = max b 0 }) (record { plain = 0; as_part = 0; as_factor = 0 }) bound nest

  pub counts-Number : (n : ℕ) → n ≤ 18446744073709551615 → leaf n ≡ term_counts_of w vs (term.Number n)
  counts-Number n small = leaf_is (term.Number n) n small (bound_of-Number w vs n) (nest_of_term-Number n)

  pub counts-Value : (d v b : ℕ) → b ≡ domain_bound w d → b ≤ 18446744073709551615 → leaf b ≡ term_counts_of w vs (term.Value d v)
  counts-Value d v b is small = leaf_is (term.Value d v) b small (bound_of-Value w vs d v ∙ ap (λ n. record { own = n; most = max n 0 }) (sym is)) (nest_of_term-Value d v)

  pub counts-Var : (level b : ℕ) → b ≡ variable_bound w (slice_get vs level) → b ≤ 18446744073709551615 → leaf b ≡ term_counts_of w vs (term.Var level)
  counts-Var level b is small =
      leaf_is (term.Var level) b small (bound_of-Var w vs level ∙ ap (λ n. record { own = n; most = max n 0 }) (sym is)) (nest_of_term-Var level)

  pub counts-Read : (n : ℕ) (args : List Term) (b most : ℕ) → b ≡ item_bound w (slice_get w.items n) → b ≤ 18446744073709551615 →
      (a : ArgumentCounts) → a ≡ arguments_of w vs args → most ≡ max b a.most →
      the_counts b most a.plain a.plain a.plain ≡ term_counts_of w vs (term.Read n args)
  counts-Read n args b most is small a counted greater =
      let own : ℕ = item_bound w (slice_get w.items n) in
      let inner : ℕ = greatest (map (λ (p : Bound). p.most) (map (bound_of w vs) args)) in
      let brackets : ℕ = in_brackets (map (λ (p : TermNest). p.plain) (map nest_of_term args)) in
      let mosts : a.most ≡ given_count inner =
      ap (λ (c : ArgumentCounts). c.most) counted ∙ ap (λ ns. given_count (greatest ns)) (sym (map-map (λ (p : Bound). p.most) (bound_of w vs) args)) in
      let plains : a.plain ≡ given_count brackets =
      ap (λ (c : ArgumentCounts). c.plain) counted ∙ ap (λ ns. given_count (in_brackets ns)) (sym (map-map (λ (p : TermNest). p.plain) nest_of_term args)) in
      same b most a.plain a.plain a.plain (given_count own) (given_count (max own inner)) (given_count brackets) (given_count brackets) (given_count brackets)
      (omega (arith, is)) (omega (arith, is, greater, mosts)) plains plains plains
      ∙ of_both w vs (term.Read n args) (record { own = own; most = max own inner }) (record { plain = brackets; as_part = brackets; as_factor = brackets })
      (bound_of-Read w vs n args) (nest_of_term-Read n args)

  pub counts-Sum : (parts : List SignedTerm) (p : PartCounts) → p ≡ part_counts w vs parts → (most bracketed : ℕ) → most ≡ max p.own p.most →
      bracketed ≡ given_count (p.as_part + 1) → the_counts p.own most p.as_part bracketed bracketed ≡ term_counts_of w vs (term.Sum parts)
  counts-Sum parts p counted most bracketed greater is =
      let bounds : List Bound = map (λ (q : SignedTerm). bound_of w vs (out-SignedTerm q).term) parts in
      let nests : List TermNest = map (λ (q : SignedTerm). nest_of_term (out-SignedTerm q).term) parts in
      let own : ℕ = sum (map (λ (b : Bound). b.own) bounds) in
      let inner : ℕ = greatest (map (λ (b : Bound). b.most) bounds) in
      let brackets : ℕ = greatest (map (λ (n : TermNest). n.as_part) nests) in
      let owns : p.own ≡ given_count own =
      ap (λ (c : PartCounts). c.own) counted
      ∙ ap (λ ns. given_count (sum ns)) (sym (map-map (λ (b : Bound). b.own) (λ (q : SignedTerm). bound_of w vs (out-SignedTerm q).term) parts)) in
      let mosts : p.most ≡ given_count inner =
      ap (λ (c : PartCounts). c.most) counted
      ∙ ap (λ ns. given_count (greatest ns)) (sym (map-map (λ (b : Bound). b.most) (λ (q : SignedTerm). bound_of w vs (out-SignedTerm q).term) parts)) in
      let plains : p.as_part ≡ given_count brackets =
      ap (λ (c : PartCounts). c.as_part) counted
      ∙ ap (λ ns. given_count (greatest ns)) (sym (map-map (λ (n : TermNest). n.as_part) (λ (q : SignedTerm). nest_of_term (out-SignedTerm q).term) parts)) in
      let more : bracketed ≡ given_count (1 + brackets) = omega (arith, is, plains) in
      same p.own most p.as_part bracketed bracketed (given_count own) (given_count (max own inner)) (given_count brackets) (given_count (1 + brackets)) (given_count (1 + brackets))
      owns (omega (arith, greater, owns, mosts)) plains more more
      ∙ of_both w vs (term.Sum parts) (record { own = own; most = max own inner }) (record { plain = brackets; as_part = 1 + brackets; as_factor = 1 + brackets })
      (bound_of-Sum w vs parts) (nest_of_term-Sum parts)

  pub counts-Times : (n : ℕ) (x : Term) (f : TermCounts) → f ≡ term_counts_of w vs x → (own most bracketed : ℕ) → own ≡ given_count (n * f.own) → most ≡ max own f.most →
      bracketed ≡ given_count (f.as_factor + 1) → the_counts own most f.as_factor f.as_factor bracketed ≡ term_counts_of w vs (term.Times n x)
  counts-Times n x f counted own most bracketed is greater more =
      let b : Bound = bound_of w vs x in
      let m : TermNest = nest_of_term x in
      let owns : own ≡ given_count (n * b.own) = is ∙ ap (λ (c : TermCounts). given_count (n * c.own)) counted ∙ given_times n b.own in
      let mosts : f.most ≡ given_count b.most = ap (λ (c : TermCounts). c.most) counted in
      let plains : f.as_factor ≡ given_count m.as_factor = ap (λ (c : TermCounts). c.as_factor) counted in
      same own most f.as_factor f.as_factor bracketed (given_count (n * b.own)) (given_count (max (n * b.own) b.most)) (given_count m.as_factor) (given_count m.as_factor)
      (given_count (1 + m.as_factor)) owns (omega (arith, greater, owns, mosts)) plains plains (omega (arith, more, plains))
      ∙ of_both w vs (term.Times n x) (record { own = n * b.own; most = max (n * b.own) b.most }) (record { plain = m.as_factor; as_part = m.as_factor; as_factor = 1 + m.as_factor })
      (bound_of-Times w vs n x) (nest_of_term-Times n x)

  -- one more argument
  pub arguments_next : (args : List Term) (i : ℕ) (x : Term) → i < length args → x ≡ get_or args i x → (before : ArgumentCounts) →
      before ≡ arguments_of w vs (take i args) → (c : TermCounts) → c ≡ term_counts_of w vs x → (most bracketed plain : ℕ) → most ≡ max before.most c.most →
      bracketed ≡ given_count (c.plain + 1) → plain ≡ max before.plain bracketed →
      the_argument_counts most plain ≡ arguments_of w vs (take (i + 1) args)
  arguments_next args i x below is before counted c more most bracketed plain greater one deeper =
      let mosts : greatest (map (λ a. (bound_of w vs a).most) (take (i + 1) args)) ≡ max (greatest (map (λ a. (bound_of w vs a).most) (take i args))) (bound_of w vs x).most =
      ap greatest (mapped_next (λ a. (bound_of w vs a).most) args i x below is) ∙ greatest-last (map (λ a. (bound_of w vs a).most) (take i args)) (bound_of w vs x).most in
      let plains : in_brackets (map (λ a. (nest_of_term a).plain) (take (i + 1) args)) ≡ max (in_brackets (map (λ a. (nest_of_term a).plain) (take i args))) ((nest_of_term x).plain + 1) =
      ap in_brackets (mapped_next (λ a. (nest_of_term a).plain) args i x below is)
      ∙ in_brackets-last (map (λ a. (nest_of_term a).plain) (take i args)) (nest_of_term x).plain in
      same_arguments most plain _ _
      (omega (arith, greater, mosts, ap (λ (a : ArgumentCounts). a.most) counted, ap (λ (a : TermCounts). a.most) more))
      (omega (arith, deeper, one, plains, ap (λ (a : ArgumentCounts). a.plain) counted, ap (λ (a : TermCounts). a.plain) more))

  -- one more part
  pub parts_next : (parts : List SignedTerm) (i : ℕ) (x : SignedTerm) → i < length parts → x ≡ get_or parts i x → (before : PartCounts) →
      before ≡ part_counts w vs (take i parts) → (c : TermCounts) → c ≡ term_counts_of w vs (out-SignedTerm x).term → (own most as_part : ℕ) →
      own ≡ given_count (before.own + c.own) → most ≡ max before.most c.most → as_part ≡ max before.as_part c.as_part →
      the_part_counts own most as_part ≡ part_counts w vs (take (i + 1) parts)
  parts_next parts i x below is before counted c more own most as_part added greater deeper =
      let b : SignedTerm → Bound = λ p. bound_of w vs (out-SignedTerm p).term in
      let n : SignedTerm → TermNest = λ p. nest_of_term (out-SignedTerm p).term in
      let owns : sum (map (λ p. (b p).own) (take (i + 1) parts)) ≡ sum (map (λ p. (b p).own) (take i parts)) + (b x).own =
      ap sum (mapped_next (λ p. (b p).own) parts i x below is) ∙ sum-last (map (λ p. (b p).own) (take i parts)) (b x).own in
      let mosts : greatest (map (λ p. (b p).most) (take (i + 1) parts)) ≡ max (greatest (map (λ p. (b p).most) (take i parts))) (b x).most =
      ap greatest (mapped_next (λ p. (b p).most) parts i x below is) ∙ greatest-last (map (λ p. (b p).most) (take i parts)) (b x).most in
      let plains : greatest (map (λ p. (n p).as_part) (take (i + 1) parts)) ≡ max (greatest (map (λ p. (n p).as_part) (take i parts))) (n x).as_part =
      ap greatest (mapped_next (λ p. (n p).as_part) parts i x below is) ∙ greatest-last (map (λ p. (n p).as_part) (take i parts)) (n x).as_part in
      same_parts own most as_part _ _ _
      (omega (arith, added, owns, ap (λ (a : PartCounts). a.own) counted, ap (λ (a : TermCounts). a.own) more))
      (omega (arith, greater, mosts, ap (λ (a : PartCounts). a.most) counted, ap (λ (a : TermCounts). a.most) more))
      (omega (arith, deeper, plains, ap (λ (a : PartCounts). a.as_part) counted, ap (λ (a : TermCounts). a.as_part) more))
