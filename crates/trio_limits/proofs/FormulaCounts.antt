-- The counts of each form of a formula, from those of its parts.
use Rattle.std.proofs.Common.{◌≡◌, ℕ, ◌+◌, ◌-◌, ◌*◌, ◌<◌, max, sum, List, [], ◌∷◌, ◌++◌, map, take, length, get_or, refl, ap, ◌∙◌, arith}
use Rattle.trio_base.specs.declared.operators.Rel.{Rel}
use Rattle.trio_base.specs.declared.operators.OneOp.{OneOp}
use Rattle.trio_base.specs.declared.operators.FarOp.{FarOp}
use Rattle.trio_base.specs.declared.operators.FarOp.TheVariants as far
use Rattle.trio_base.specs.declared.operators.PairOp.{PairOp}
use Rattle.trio_types.specs.declared.formula.Term.{Term}
use Rattle.trio_types.specs.declared.formula.Formula.{Formula}
use Rattle.trio_types.specs.declared.formula.Formula.TheVariants as formula
use Rattle.trio_types.specs.World.{World, size_of}
use Rattle.trio_types.specs.Bounds.{greatest, bound_of, greatest_bound}
use Rattle.trio_types.specs.Instances.{instances, far_instances}
use Rattle.trio_types.specs.Nest.{nest_of_term, nest_of, its_own_group, bracketed_group}
use Rattle.trio_types.proofs.BoundsAt.{greatest_bound-Lone, greatest_bound-Compare, greatest_bound-Not, greatest_bound-And, greatest_bound-Or, greatest_bound-Implies, greatest_bound-Iff, greatest_bound-All, greatest_bound-Ex, greatest_bound-One, greatest_bound-Far, greatest_bound-Pair}
use Rattle.trio_types.proofs.CountsAt.{instances-Lone, instances-Compare, instances-Not, instances-And, instances-Or, instances-Implies, instances-Iff, instances-All, instances-Ex, instances-One, instances-Far, instances-Pair, nest_of-Lone, nest_of-Compare, nest_of-Not, nest_of-And, nest_of-Or, nest_of-Implies, nest_of-Iff, nest_of-All, nest_of-Ex, nest_of-One, nest_of-Far, nest_of-Pair}
use Rattle.trio_limits.specs.declared.counts.TermCounts.{TermCounts}
use Rattle.trio_limits.specs.declared.counts.Counts.{Counts}
use Rattle.trio_limits.specs.declared.counts.ListCounts.{ListCounts}
use Rattle.trio_limits.specs.Given.{given_count}
use Rattle.trio_limits.specs.Counting.{bracketed, unbracketed, term_counts_of, counts_of, formulas_of, connected_counts, quantified_of}
use Rattle.trio_limits.proofs.Saturating.{given_times}
use Rattle.trio_limits.proofs.Greatest.{greatest-last, sum-last, mapped_next}

-- a number times a count as it is given, and more
pub given_times_more : (n x m : ℕ) → given_count (n * given_count x + m) ≡ given_count (n * x + m)
given_times_more n x m = omega (arith, given_times n x)

given_twice : (n x : ℕ) → given_count ((n + 1) * (given_count x + 1) + 2) ≡ given_count ((n + 1) * (x + 1) + 2)
given_twice n x =
    let inner : given_count (given_count x + 1) ≡ given_count (x + 1) = omega arith in
    omega (arith, given_times (n + 1) (given_count x + 1), given_times (n + 1) (x + 1), ap (λ m. (n + 1) * m) inner)

pub given_far : (n : ℕ) (op : FarOp) (x : ℕ) → given_count (far_instances n op (given_count x)) ≡ given_count (far_instances n op x)
given_far n far.Dist x = omega arith
given_far n far.Futr x = omega arith
given_far n far.Past x = omega arith
given_far n far.NextTime x = given_twice n x
given_far n far.LastTime x = given_twice n x
given_far n (far.Lasts s) x = given_times_more n x 1
given_far n (far.Lasted s) x = given_times_more n x 1
given_far n (far.WithinF s) x = given_times_more n x 1
given_far n (far.WithinP s) x = given_times_more n x 1

pub given_pair : (n x y : ℕ) → given_count (n * (given_count y + n * given_count x + 2) + 1) ≡ given_count (n * (y + n * x + 2) + 1)
given_pair n x y =
    let inner : given_count (given_count y + n * given_count x + 2) ≡ given_count (y + n * x + 2) = omega (arith, given_times n x) in
    omega (arith, given_times n (given_count y + n * given_count x + 2), given_times n (y + n * x + 2), ap (λ m. n * m) inner)

abbrev pub the_list_counts : ℕ → ℕ → ℕ → ListCounts
the_list_counts b j p = record { bound = b; instances = j; grouped = p }

same_list : (o m p o' m' p' : ℕ) → o ≡ o' → m ≡ m' → p ≡ p' → the_list_counts o m p ≡ the_list_counts o' m' p'
same_list o m p o' m' p' first second third = rw (first, second, third) refl

module _ (w : World) (vs : List ℕ) where
  bracketed_is : (f : Formula) (bound i n : ℕ) → greatest_bound w f vs ≡ bound → instances w f ≡ i → nest_of f ≡ bracketed_group n → (b j p : ℕ) →
      b ≡ given_count bound → j ≡ given_count i → p ≡ given_count n → bracketed b j p ≡ counts_of w vs f
  bracketed_is f bound i n is_bound is_count is_nest b j p first second third =
      let more : given_count (given_count n + 1) ≡ given_count (1 + n) = omega arith in
      rw (is_bound, is_count, is_nest, first, second, third, more) refl

  unbracketed_is : (f : Formula) (bound i n : ℕ) → greatest_bound w f vs ≡ bound → instances w f ≡ i → nest_of f ≡ its_own_group n → (b j p : ℕ) →
      b ≡ given_count bound → j ≡ given_count i → p ≡ given_count n → unbracketed b j p ≡ counts_of w vs f
  unbracketed_is f bound i n is_bound is_count is_nest b j p first second third = rw (is_bound, is_count, is_nest, first, second, third) refl

  pub counts-Lone : (x : Term) (t : TermCounts) → t ≡ term_counts_of w vs x → unbracketed t.most 1 t.plain ≡ counts_of w vs (formula.Lone x)
  counts-Lone x t is =
      unbracketed_is (formula.Lone x) (bound_of w vs x).most 1 (nest_of_term x).plain (greatest_bound-Lone w x vs) (instances-Lone w x) (nest_of-Lone x)
      t.most 1 t.plain (ap (λ (c : TermCounts). c.most) is) refl (ap (λ (c : TermCounts). c.plain) is)

  pub counts-Compare : (r : Rel) (x y : Term) (t u : TermCounts) → t ≡ term_counts_of w vs x → u ≡ term_counts_of w vs y → (b p : ℕ) →
      b ≡ max t.most u.most → p ≡ max t.plain u.plain → bracketed b 1 p ≡ counts_of w vs (formula.Compare r x y)
  counts-Compare r x y t u first second b p most plain =
      bracketed_is (formula.Compare r x y) (max (bound_of w vs x).most (bound_of w vs y).most) 1 (max (nest_of_term x).plain (nest_of_term y).plain)
      (greatest_bound-Compare w r x y vs) (instances-Compare w r x y) (nest_of-Compare r x y) b 1 p
      (omega (arith, most, ap (λ (c : TermCounts). c.most) first, ap (λ (c : TermCounts). c.most) second)) refl
      (omega (arith, plain, ap (λ (c : TermCounts). c.plain) first, ap (λ (c : TermCounts). c.plain) second))

  pub counts-Not : (f : Formula) (c : Counts) → c ≡ counts_of w vs f → (j : ℕ) → j ≡ given_count (c.instances + 1) →
      bracketed c.bound j c.grouped ≡ counts_of w vs (formula.Not f)
  counts-Not f c is j more =
      bracketed_is (formula.Not f) (greatest_bound w f vs) (instances w f + 1) (nest_of f).grouped (greatest_bound-Not w f vs) (instances-Not w f) (nest_of-Not f)
      c.bound j c.grouped (ap (λ (d : Counts). d.bound) is) (omega (arith, more, ap (λ (d : Counts). d.instances) is)) (ap (λ (d : Counts). d.grouped) is)

  pub counts-And : (fs : List Formula) → connected_counts w vs fs ≡ counts_of w vs (formula.And fs)
  counts-And fs =
      bracketed_is (formula.And fs) (greatest (map (λ f. greatest_bound w f vs) fs)) (sum (map (instances w) fs) + (length fs - 1)) (greatest (map (λ f. (nest_of f).grouped) fs))
      (greatest_bound-And w fs vs) (instances-And w fs) (nest_of-And fs) _ _ _ refl refl refl

  pub counts-Or : (fs : List Formula) → connected_counts w vs fs ≡ counts_of w vs (formula.Or fs)
  counts-Or fs =
      bracketed_is (formula.Or fs) (greatest (map (λ f. greatest_bound w f vs) fs)) (sum (map (instances w) fs) + (length fs - 1)) (greatest (map (λ f. (nest_of f).grouped) fs))
      (greatest_bound-Or w fs vs) (instances-Or w fs) (nest_of-Or fs) _ _ _ refl refl refl

  pub counts-joined : (fs : List Formula) (l : ListCounts) → l ≡ formulas_of w vs fs → (between j : ℕ) → between ≡ length fs - 1 →
      j ≡ given_count (l.instances + between) → bracketed l.bound j l.grouped ≡ connected_counts w vs fs
  counts-joined fs l is between j gaps added =
      let count : j ≡ given_count (sum (map (instances w) fs) + (length fs - 1)) = omega (arith, added, gaps, ap (λ (c : ListCounts). c.instances) is) in
      rw (count, is) refl

  pub counts-Implies : (f g : Formula) (c d : Counts) → c ≡ counts_of w vs f → d ≡ counts_of w vs g → (b i j p : ℕ) → b ≡ max c.bound d.bound →
      i ≡ given_count (c.instances + d.instances) → j ≡ given_count (i + 1) → p ≡ max c.grouped d.grouped → bracketed b j p ≡ counts_of w vs (formula.Implies f g)
  counts-Implies f g c d first second b i j p most added more plain =
      bracketed_is (formula.Implies f g) (max (greatest_bound w f vs) (greatest_bound w g vs)) (instances w f + instances w g + 1) (max (nest_of f).grouped (nest_of g).grouped)
      (greatest_bound-Implies w f g vs) (instances-Implies w f g) (nest_of-Implies f g) b j p
      (omega (arith, most, ap (λ (e : Counts). e.bound) first, ap (λ (e : Counts). e.bound) second))
      (omega (arith, added, more, ap (λ (e : Counts). e.instances) first, ap (λ (e : Counts). e.instances) second))
      (omega (arith, plain, ap (λ (e : Counts). e.grouped) first, ap (λ (e : Counts). e.grouped) second))

  pub counts-Iff : (f g : Formula) (c d : Counts) → c ≡ counts_of w vs f → d ≡ counts_of w vs g → (b i j p : ℕ) → b ≡ max c.bound d.bound →
      i ≡ given_count (c.instances + d.instances) → j ≡ given_count (2 * i + 5) → p ≡ max c.grouped d.grouped → bracketed b j p ≡ counts_of w vs (formula.Iff f g)
  counts-Iff f g c d first second b i j p most added more plain =
      bracketed_is (formula.Iff f g) (max (greatest_bound w f vs) (greatest_bound w g vs)) (2 * (instances w f + instances w g) + 5) (max (nest_of f).grouped (nest_of g).grouped)
      (greatest_bound-Iff w f g vs) (instances-Iff w f g) (nest_of-Iff f g) b j p
      (omega (arith, most, ap (λ (e : Counts). e.bound) first, ap (λ (e : Counts). e.bound) second))
      (omega (arith, added, more, ap (λ (e : Counts). e.instances) first, ap (λ (e : Counts). e.instances) second))
      (omega (arith, plain, ap (λ (e : Counts). e.grouped) first, ap (λ (e : Counts). e.grouped) second))

  pub counts-All : (name : List ℕ) (d : ℕ) (f : Formula) → quantified_of w vs d f ≡ counts_of w vs (formula.All name d f)
  counts-All name d f =
      unbracketed_is (formula.All name d f) (greatest_bound w f (vs ++ d ∷ [])) (size_of w.domains d * instances w f + 1) (1 + (nest_of f).plain)
      (greatest_bound-All w name d f vs) (instances-All w name d f) (nest_of-All name d f) _ _ _ refl refl refl

  pub counts-Ex : (name : List ℕ) (d : ℕ) (f : Formula) → quantified_of w vs d f ≡ counts_of w vs (formula.Ex name d f)
  counts-Ex name d f =
      unbracketed_is (formula.Ex name d f) (greatest_bound w f (vs ++ d ∷ [])) (size_of w.domains d * instances w f + 1) (1 + (nest_of f).plain)
      (greatest_bound-Ex w name d f vs) (instances-Ex w name d f) (nest_of-Ex name d f) _ _ _ refl refl refl

  pub counts-quantified : (d : ℕ) (f : Formula) (c : Counts) → c ≡ counts_of w (vs ++ d ∷ []) f → (size j p : ℕ) → size ≡ size_of w.domains d →
      j ≡ given_count (size * c.instances + 1) → p ≡ given_count (c.plain + 1) → unbracketed c.bound j p ≡ quantified_of w vs d f
  counts-quantified d f c is size j p sized counted plain =
      let count : j ≡ given_count (size_of w.domains d * instances w f + 1) =
      counted ∙ ap (λ n. given_count (n * c.instances + 1)) sized ∙ ap (λ (e : Counts). given_count (size_of w.domains d * e.instances + 1)) is
      ∙ given_times_more (size_of w.domains d) (instances w f) 1 in
      let brackets : p ≡ given_count (1 + (nest_of f).plain) = omega (arith, plain, ap (λ (e : Counts). e.plain) is) in
      rw (count, brackets, ap (λ (e : Counts). e.bound) is) refl

  pub counts-One : (op : OneOp) (f : Formula) (c : Counts) → c ≡ counts_of w vs f → (n j p : ℕ) → n ≡ w.instants → j ≡ given_count (n * c.instances + 1) →
      p ≡ given_count (c.plain + 1) → unbracketed c.bound j p ≡ counts_of w vs (formula.One op f)
  counts-One op f c is n j p time counted plain =
      unbracketed_is (formula.One op f) (greatest_bound w f vs) (w.instants * instances w f + 1) (1 + (nest_of f).plain) (greatest_bound-One w op f vs) (instances-One w op f)
      (nest_of-One op f) c.bound j p (ap (λ (e : Counts). e.bound) is)
      (counted ∙ ap (λ n. given_count (n * c.instances + 1)) time ∙ ap (λ (e : Counts). given_count (w.instants * e.instances + 1)) is ∙ given_times_more w.instants (instances w f) 1)
      (omega (arith, plain, ap (λ (e : Counts). e.plain) is))

  pub counts-Far : (op : FarOp) (f : Formula) (x : Term) (c : Counts) (t : TermCounts) → c ≡ counts_of w vs f → t ≡ term_counts_of w vs x → (n b j m p : ℕ) → n ≡ w.instants →
      b ≡ max c.bound t.most → j ≡ given_count (far_instances n op c.instances) → m ≡ max c.plain t.plain → p ≡ given_count (m + 1) →
      unbracketed b j p ≡ counts_of w vs (formula.Far op f x)
  counts-Far op f x c t first second n b j m p time most counted greater plain =
      unbracketed_is (formula.Far op f x) (max (greatest_bound w f vs) (bound_of w vs x).most) (far_instances w.instants op (instances w f)) (1 + max (nest_of f).plain (nest_of_term x).plain)
      (greatest_bound-Far w op f x vs) (instances-Far w op f x) (nest_of-Far op f x) b j p
      (omega (arith, most, ap (λ (e : Counts). e.bound) first, ap (λ (e : TermCounts). e.most) second))
      (counted ∙ ap (λ n. given_count (far_instances n op c.instances)) time ∙ ap (λ (e : Counts). given_count (far_instances w.instants op e.instances)) first
      ∙ given_far w.instants op (instances w f))
      (omega (arith, greater, plain, ap (λ (e : Counts). e.plain) first, ap (λ (e : TermCounts). e.plain) second))

  pub counts-Pair : (op : PairOp) (f g : Formula) (c d : Counts) → c ≡ counts_of w vs f → d ≡ counts_of w vs g → (n b j m p : ℕ) → n ≡ w.instants →
      b ≡ max c.bound d.bound → j ≡ given_count (n * (d.instances + n * c.instances + 2) + 1) → m ≡ max c.plain d.plain → p ≡ given_count (m + 1) →
      unbracketed b j p ≡ counts_of w vs (formula.Pair op f g)
  counts-Pair op f g c d first second n b j m p time most counted greater plain =
      unbracketed_is (formula.Pair op f g) (max (greatest_bound w f vs) (greatest_bound w g vs)) (w.instants * (instances w g + w.instants * instances w f + 2) + 1)
      (1 + max (nest_of f).plain (nest_of g).plain) (greatest_bound-Pair w op f g vs) (instances-Pair w op f g) (nest_of-Pair op f g) b j p
      (omega (arith, most, ap (λ (e : Counts). e.bound) first, ap (λ (e : Counts). e.bound) second))
      (counted ∙ ap (λ n. given_count (n * (d.instances + n * c.instances + 2) + 1)) time
      ∙ ap (λ (e : Counts). given_count (w.instants * (d.instances + w.instants * e.instances + 2) + 1)) first
      ∙ ap (λ (e : Counts). given_count (w.instants * (e.instances + w.instants * given_count (instances w f) + 2) + 1)) second
      ∙ given_pair w.instants (instances w f) (instances w g))
      (omega (arith, greater, plain, ap (λ (e : Counts). e.plain) first, ap (λ (e : Counts). e.plain) second))

  -- one more formula
  pub formulas_next : (fs : List Formula) (k : ℕ) (f : Formula) → k < length fs → f ≡ get_or fs k f → (before : ListCounts) → before ≡ formulas_of w vs (take k fs) →
      (c : Counts) → c ≡ counts_of w vs f → (b j p : ℕ) → b ≡ max before.bound c.bound → j ≡ given_count (before.instances + c.instances) →
      p ≡ max before.grouped c.grouped → the_list_counts b j p ≡ formulas_of w vs (take (k + 1) fs)
  formulas_next fs k f below is before counted c more b j p most added plain =
      let mosts : greatest (map (λ f. greatest_bound w f vs) (take (k + 1) fs)) ≡ max (greatest (map (λ f. greatest_bound w f vs) (take k fs))) (greatest_bound w f vs) =
      ap greatest (mapped_next (λ f. greatest_bound w f vs) fs k f below is) ∙ greatest-last (map (λ f. greatest_bound w f vs) (take k fs)) (greatest_bound w f vs) in
      let sums : sum (map (instances w) (take (k + 1) fs)) ≡ sum (map (instances w) (take k fs)) + instances w f =
      ap sum (mapped_next (instances w) fs k f below is) ∙ sum-last (map (instances w) (take k fs)) (instances w f) in
      let groups : greatest (map (λ f. (nest_of f).grouped) (take (k + 1) fs)) ≡ max (greatest (map (λ f. (nest_of f).grouped) (take k fs))) (nest_of f).grouped =
      ap greatest (mapped_next (λ f. (nest_of f).grouped) fs k f below is) ∙ greatest-last (map (λ f. (nest_of f).grouped) (take k fs)) (nest_of f).grouped in
      same_list b j p _ _ _
      (omega (arith, most, mosts, ap (λ (l : ListCounts). l.bound) counted, ap (λ (e : Counts). e.bound) more))
      (omega (arith, added, sums, ap (λ (l : ListCounts). l.instances) counted, ap (λ (e : Counts). e.instances) more))
      (omega (arith, plain, groups, ap (λ (l : ListCounts). l.grouped) counted, ap (λ (e : Counts). e.grouped) more))
