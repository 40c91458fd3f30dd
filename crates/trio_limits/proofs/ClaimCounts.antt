-- The counts of axioms and goals, claim after claim, and of both together.
use Rattle.std.proofs.Common.{◌≡◌, ℕ, ◌+◌, ◌*◌, ◌<◌, max, List, [], ◌∷◌, ◌++◌, map, take, length, get_or, sum_by, refl, sym, ap, ◌∙◌, arith}
use Rattle.std.proofs.lemmas.List.{take_more, map-append}
use Rattle.std.proofs.lemmas.List.Sums.{sum_by-append}
use Rattle.trio_types.specs.declared.spec.Axiom.{Axiom}
use Rattle.trio_types.specs.World.{World}
use Rattle.trio_types.specs.Bounds.{greatest, greatest_bound}
use Rattle.trio_types.specs.Instances.{instances}
use Rattle.trio_types.specs.Nest.{nest_of}
use Rattle.trio_limits.specs.declared.counts.Counts.{Counts}
use Rattle.trio_limits.specs.declared.counts.ClaimCounts.{ClaimCounts}
use Rattle.trio_limits.specs.Given.{given_count}
use Rattle.trio_limits.specs.Counting.{counts_of}
use Rattle.trio_limits.specs.Claims.{claims_counts}
use Rattle.trio_limits.proofs.Saturating.{given_times}
use Rattle.trio_limits.proofs.Greatest.{greatest-last, mapped_next}

abbrev pub the_claim_counts : ℕ → ℕ → ℕ → ClaimCounts
the_claim_counts b j p = record { bound = b; instances = j; plain = p }

same_counts : (o m p o' m' p' : ℕ) → o ≡ o' → m ≡ m' → p ≡ p' → the_claim_counts o m p ≡ the_claim_counts o' m' p'
same_counts o m p o' m' p' first second third = rw (first, second, third) refl

-- one more claim
pub claims_next : (w : World) (claims : List Axiom) (k : ℕ) (a : Axiom) → k < length claims → a ≡ get_or claims k a → (before : ClaimCounts) →
    before ≡ claims_counts w (take k claims) → (c : Counts) → c ≡ counts_of w [] a.formula → (n i b j p : ℕ) → n ≡ w.instants →
    i ≡ given_count (n * c.instances) → b ≡ max before.bound c.bound → j ≡ given_count (before.instances + i) → p ≡ max before.plain c.plain →
    the_claim_counts b j p ≡ claims_counts w (take (k + 1) claims)
claims_next w claims k a below is before counted c more n i b j p time times most added plain =
    let worth : Axiom → ℕ = λ a. w.instants * instances w a.formula in
    let bounds : Axiom → ℕ = λ a. greatest_bound w a.formula [] in
    let plains : Axiom → ℕ = λ a. (nest_of a.formula).plain in
    let mosts : greatest (map bounds (take (k + 1) claims)) ≡ max (greatest (map bounds (take k claims))) (bounds a) =
    ap greatest (mapped_next bounds claims k a below is) ∙ greatest-last (map bounds (take k claims)) (bounds a) in
    let groups : greatest (map plains (take (k + 1) claims)) ≡ max (greatest (map plains (take k claims))) (plains a) =
    ap greatest (mapped_next plains claims k a below is) ∙ greatest-last (map plains (take k claims)) (plains a) in
    let sums : sum_by worth (take (k + 1) claims) ≡ sum_by worth (take k claims) + worth a =
    ap (sum_by worth) (take_more claims k a below ∙ ap (λ x. take k claims ++ x ∷ []) (sym is)) ∙ sum_by-append worth (take k claims) (a ∷ []) ∙ omega arith in
    let own : i ≡ given_count (worth a) =
    times ∙ ap (λ n. given_count (n * c.instances)) time ∙ ap (λ (e : Counts). given_count (w.instants * e.instances)) more ∙ given_times w.instants (instances w a.formula) in
    same_counts b j p _ _ _
    (omega (arith, most, mosts, ap (λ (l : ClaimCounts). l.bound) counted, ap (λ (e : Counts). e.bound) more))
    (omega (arith, added, sums, own, ap (λ (l : ClaimCounts). l.instances) counted))
    (omega (arith, plain, groups, ap (λ (l : ClaimCounts). l.plain) counted, ap (λ (e : Counts). e.plain) more))

pub greatest-append : (xs ys : List ℕ) → greatest (xs ++ ys) ≡ max (greatest xs) (greatest ys)
greatest-append [] ys = omega arith
greatest-append (x ∷ xs) ys = omega (arith, greatest-append xs ys)

-- of axioms and goals together
module _ (w : World) (axioms goals : List Axiom) where
  pub both_bounds : greatest (map (λ a. greatest_bound w a.formula []) (axioms ++ goals))
      ≡ max (greatest (map (λ a. greatest_bound w a.formula []) axioms)) (greatest (map (λ a. greatest_bound w a.formula []) goals))
  both_bounds =
      ap greatest (map-append (λ (a : Axiom). greatest_bound w a.formula []) axioms goals)
      ∙ greatest-append (map (λ a. greatest_bound w a.formula []) axioms) (map (λ a. greatest_bound w a.formula []) goals)

  pub both_plains : greatest (map (λ a. (nest_of a.formula).plain) (axioms ++ goals))
      ≡ max (greatest (map (λ a. (nest_of a.formula).plain) axioms)) (greatest (map (λ a. (nest_of a.formula).plain) goals))
  both_plains =
      ap greatest (map-append (λ (a : Axiom). (nest_of a.formula).plain) axioms goals)
      ∙ greatest-append (map (λ a. (nest_of a.formula).plain) axioms) (map (λ a. (nest_of a.formula).plain) goals)

  pub both_instances : sum_by (λ (a : Axiom). w.instants * instances w a.formula) (axioms ++ goals)
      ≡ sum_by (λ a. w.instants * instances w a.formula) axioms + sum_by (λ a. w.instants * instances w a.formula) goals
  both_instances = sum_by-append (λ (a : Axiom). w.instants * instances w a.formula) axioms goals
