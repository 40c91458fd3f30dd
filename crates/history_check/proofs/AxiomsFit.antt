-- The axioms of a specification fit, and there are not too many.
use Rattle.std.proofs.Common.{◌≡◌, ℕ, suc, ◌+◌, ◌*◌, ◌≤◌, List, [], ◌∷◌, ◌++◌, map, length, sum_by, Option, None, Some, slice_get, refl, ap, ◌∙◌, arith, true}
use Rattle.std.specs.List.{flat_map}
use Rattle.std.specs.Option.{option_map}
use Rattle.std.proofs.Math.Nat.{mul-le-mul_left}
use Rattle.std.proofs.lemmas.Bool.{ltb-true}
use Rattle.std.proofs.lemmas.List.{length-append}
use Rattle.std.proofs.lemmas.List.Sums.{sum_by-cons}
use Rattle.std.proofs.lemmas.Option.{none-some, slice_get-map}
use Rattle.trio_types.specs.declared.spec.Axiom.{Axiom}
use Rattle.trio_types.specs.declared.spec.Spec.{Spec}
use Rattle.trio_types.specs.declared.spec.Which.TheVariants as which
use Rattle.trio_types.specs.Parts.{claims_of}
use Rattle.trio_types.specs.Kinds.{is_right, item_uses, uses}
use Rattle.trio_types.specs.Bounds.{greatest_bound}
use Rattle.trio_types.specs.Instances.{instances}
use Rattle.trio_types.specs.Nest.{nest_of, item_nest}
use Rattle.trio_types.specs.Shape.{is_shaped}
use Rattle.trio_types.specs.WellFormed.{instant_fits}
use Rattle.trio_types.specs.Verdict.{parts_of, world_of}
use Rattle.trio_types.proofs.Lists.{each_of, all_right, all_flat, get_left, get_right}
use Rattle.trio_types.proofs.Specs.{formed, some_instant, within_limit}
use Rattle.trio_types.proofs.Reading.{greatest_above}
use Rattle.history_check.specs.Fits.{FormulaFits, AskedInside}
use Rattle.history_check.proofs.FormulasFit.{counted}

pub axiom_fits : (spec : Spec) (k : ℕ) (a : Axiom) → slice_get spec.axioms k ≡ Some a → FormulaFits (world_of spec) a.formula []
axiom_fits spec k a at =
    let w = world_of spec in
    let p = parts_of spec in
    let claimed = get_left spec.axioms spec.goals k a at in
    let bounds : List ℕ = map (λ (a : Axiom). greatest_bound w a.formula []) (claims_of p) in
    let nests : List ℕ = map (λ (a : Axiom). (nest_of a.formula).plain) (claims_of p) in
    let bound_at = slice_get-map (λ (a : Axiom). greatest_bound w a.formula []) (claims_of p) k ∙ ap (option_map (λ (a : Axiom). greatest_bound w a.formula [])) claimed in
    let nest_at = slice_get-map (λ (a : Axiom). (nest_of a.formula).plain) (claims_of p) k ∙ ap (option_map (λ (a : Axiom). (nest_of a.formula).plain)) claimed in
    let items : List ℕ = map item_nest spec.items in
    record {
      variables = [];
      are_values = record { as_many = refl; each = λ k d z dt zt. absurd (none-some d dt) };
      right = all_flat is_right (λ (a : Axiom). uses w a.formula []) (claims_of p)
          (all_right is_right (flat_map (item_uses w) spec.items) (flat_map (λ (a : Axiom). uses w a.formula []) (claims_of p)) (formed spec).kinds) k a claimed;
      bounded = omega (arith, greatest_above bounds k (greatest_bound w a.formula []) bound_at, within_limit p (formed spec) which.Bound);
      room = omega (arith, greatest_above (items ++ nests) (length items + k) (nest_of a.formula).plain (get_right items nests k ∙ nest_at), within_limit p (formed spec) which.Nest);
    }

pub asked_inside : (spec : Spec) (k : ℕ) (a : Axiom) → slice_get spec.axioms k ≡ Some a → AskedInside (world_of spec) a.at
asked_inside spec k a at = named a.at (each_of (λ (a : Axiom). instant_fits spec.instants a.at) (claims_of (parts_of spec)) (formed spec).at k a (get_left spec.axioms spec.goals k a at))
  where
    named : (o : Option ℕ) → instant_fits spec.instants o ≡ true → AskedInside (world_of spec) o
    named None fit = tt
    named (Some i) fit = ltb-true i spec.instants fit

one_each : (f : Axiom → ℕ) (xs : List Axiom) → ((k : ℕ) (a : Axiom) → slice_get xs k ≡ Some a → 1 ≤ f a) → length xs ≤ sum_by f xs
one_each f [] each = omega arith
one_each f (x ∷ xs) each = omega (arith, sum_by-cons f x xs, each 0 x refl, one_each f xs (λ k a at. each (suc k) a at))

pub few_axioms : (spec : Spec) → length spec.axioms ≤ 1000000
few_axioms spec =
    let w = world_of spec in
    let p = parts_of spec in
    let count = λ (a : Axiom). spec.instants * instances w a.formula in
    let each : (k : ℕ) (a : Axiom) → slice_get (claims_of p) k ≡ Some a → 1 ≤ count a = λ k a at.
    let one = counted w a.formula (each_of (λ (a : Axiom). is_shaped a.formula) (claims_of p) (formed spec).many k a at) in
    let less : spec.instants * 1 ≤ spec.instants * instances w a.formula = mul-le-mul_left spec.instants one in
    omega (arith, less, some_instant p (formed spec)) in
    omega (arith, one_each count (claims_of p) each, within_limit p (formed spec) which.Instances, length-append spec.axioms spec.goals)
