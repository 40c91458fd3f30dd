-- The answers to the goals of `check`.
use Rattle.std.proofs.Common.{◌≡◌, ℕ, ◌<◌, List, length, get_or, Some, Ok, slice_get, sym, ap, ◌∙◌, arith}
use Rattle.std.proofs.lemmas.Option.{slice_get-get_or}
use Rattle.trio_types.specs.declared.spec.Axiom.{Axiom}
use Rattle.trio_types.specs.declared.spec.Spec.{Spec}
use Rattle.trio_types.specs.Verdict.{world_of}
use Rattle.trio_types.proofs.Verdicts.{first_false_is, first_false_from}
use Rattle.history_check.specs.Answers.{verdict_of}
use Rattle.history_check.proofs.AxiomsFit.{axiom_fits, asked_inside, few_axioms}
use Rattle.history_check.proofs.Axioms.{passed_over, found_here, none_left}
use Rattle.history_check.proofs.checker.check.Goals as goal

pub loop-number-init : goal.loop-number-init
loop-number-init c =
    let spec = c.args.spec.now in
    first_false_is spec c.args.table.now ∙ ap (first_false_from (world_of spec) c.args.table.now 0) (sym c.as_slice-axiom-items.ensures)

pub returns-in-Some : goal.returns-in-Some
returns-in-Some c =
    let spec = c.args.spec.now in
    let t = c.args.table.now in
    let k = c.loop-number.number in
    let found = c.loop-number.invariant
    ∙ found_here (world_of spec) t k c.as_slice-axiom-items.result.now c.axiom-item.result c.in-Some.instant c.loop-number-test.true c.axiom-item.is
    (sym c.first_false_instant.ensures ∙ c.in-Some.is) in
    ap (λ o. Ok (verdict_of o)) (sym found)

pub loop-number-preserved : goal.loop-number-preserved
loop-number-preserved c =
    let spec = c.args.spec.now in
    c.loop-number.invariant
    ∙ passed_over (world_of spec) c.args.table.now c.loop-number.number c.as_slice-axiom-items.result.now c.axiom-item.result c.loop-number-test.true c.axiom-item.is
    (sym c.first_false_instant.ensures ∙ c.in_default.is)

at_hand : (spec : Spec) (items : List Axiom) (k : ℕ) (a : Axiom) → items ≡ spec.axioms → k < length items → a ≡ get_or items k a → slice_get spec.axioms k ≡ Some a
at_hand spec items k a is inside at = ap (λ l. slice_get l k) (sym is) ∙ slice_get-get_or items k a inside ∙ ap Some (sym at)

pub first_false_instant-requires-clause-formula_fits : goal.first_false_instant-requires-clause-formula_fits
first_false_instant-requires-clause-formula_fits c =
    let spec = c.args.spec.now in
    let k = c.loop-number.number in
    axiom_fits spec k c.axiom-item.result (at_hand spec c.as_slice-axiom-items.result.now k c.axiom-item.result c.as_slice-axiom-items.ensures c.loop-number-test.true c.axiom-item.is)

pub first_false_instant-requires-clause-asked_inside : goal.first_false_instant-requires-clause-asked_inside
first_false_instant-requires-clause-asked_inside c =
    let spec = c.args.spec.now in
    let k = c.loop-number.number in
    asked_inside spec k c.axiom-item.result (at_hand spec c.as_slice-axiom-items.result.now k c.axiom-item.result c.as_slice-axiom-items.ensures c.loop-number-test.true c.axiom-item.is)

pub overflow_cast-result : goal.overflow_cast-result
overflow_cast-result c =
    omega (arith, ap length c.as_slice-axiom-items.ensures, c.loop-number-test.true, few_axioms c.args.spec.now)

pub returns : goal.returns
returns c =
    let spec = c.args.spec.now in
    ap (λ o. Ok (verdict_of o)) (sym (c.loop-number.invariant ∙ none_left (world_of spec) c.args.table.now c.loop-number.number c.as_slice-axiom-items.result.now c.loop-number-test.false))
