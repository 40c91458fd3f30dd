-- The answers to the goals of `holds` and the functions that call each other with it.
use Rattle.std.proofs.Common.{◌≡◌, ℕ, ◌+◌, ◌-◌, Bool, true, false, not, ◌&&◌, ◌||◌, ℤ, pos, neg_ℤ, to_z, of_z, w64, [], ◌∷◌, ◌++◌, length, take, get_or, None, Some, subst, sym, ap, ◌∙◌, arith, rules}
use Rattle.std.specs.List.{list_all, list_any, filter, range_with_len}
use Rattle.std.specs.Option.{option_map}
use Rattle.std.proofs.lemmas.Bool.{or_from}
use Rattle.std.proofs.lemmas.Int.{ints}
use Rattle.std.proofs.lemmas.List.{take_more_set, take-set-le, length-set}
use Rattle.std.proofs.lemmas.List.Folds.{list_any_more}
use Rattle.std.proofs.lemmas.Option.{slice_get_within, get_or_from_slice_get}
use Rattle.trio_base.specs.declared.operators.Ends.TheVariants as ends
use Rattle.trio_types.specs.declared.formula.Formula.{Formula}
use Rattle.trio_types.specs.declared.formula.Formula.TheFolds.{the_lemmas}
use Rattle.trio_types.specs.World.{instants_of, values_in}
use Rattle.trio_types.specs.Values.{value}
use Rattle.trio_types.specs.Truth.{truth, is_value, relates, is_iff, one_truth, far_truth, is_at_distance, is_not_negative, is_ahead, is_behind}
use Rattle.trio_types.specs.Verdict.{world_of, parts_of}
use Rattle.trio_types.proofs.Lists.{any_from_some, all_is_not_any, range_has_any}
use Rattle.trio_types.proofs.Specs.{formed, few_instants}
use Rattle.trio_types.proofs.TruthAt.{truth-Lone, truth-Compare, truth-Not, truth-And, truth-Or, truth-Implies, truth-Iff, truth-All, truth-Ex, truth-One, truth-Far}
use Rattle.trio_types.proofs.Operators.{guarded}
use Rattle.history_check.specs.Fits.{FormulaFits, AllFit, QuantifierFits, IsNearest}
use Rattle.history_check.proofs.TermsFit.{small_value}
use Rattle.history_check.proofs.FormulasFit.{lone_term, compared_terms, not_part, and_parts_fit, or_parts_fit, implies_parts, iff_parts, pair_parts, one_part, far_parts, all_body, ex_body}
use Rattle.history_check.proofs.Searches.{any_range_more, window_any, window_all, window_none, nearest_inside, between_inside, pair_found, pair_not_found, first_between}
use Rattle.history_check.proofs.truth.+truth.Goals as goal

pub holds-holds-requires : goal.holds-holds-requires
holds-holds-requires t c =
    let w = world_of c.args.under.spec.now in
    let e = c.args.under.values.now in
    let table = c.args.under.table.now in
    let i = c.args.instant in
    let P : Formula → Type 0 = λ f. FormulaFits w f e in
    (search (ints, rules, the_lemmas), (c.requires.table_fits, (subst P (sym c.get.ensures) (not_part w c.in-Not.part e (subst P c.in-Not.is c.requires.formula_fits)), c.requires.instant_in)))

pub holds-all_hold-requires : goal.holds-all_hold-requires
holds-all_hold-requires t c =
    let w = world_of c.args.under.spec.now in
    let e = c.args.under.values.now in
    let table = c.args.under.table.now in
    let i = c.args.instant in
    let P : Formula → Type 0 = λ f. FormulaFits w f e in
    (search (ints, rules, the_lemmas), (c.requires.table_fits, (subst (λ fs. AllFit w fs e) (sym c.as_slice.ensures) (and_parts_fit w c.in-And.parts e (subst P c.in-And.is c.requires.formula_fits)), c.requires.instant_in)))

pub holds-any_holds-requires : goal.holds-any_holds-requires
holds-any_holds-requires t c =
    let w = world_of c.args.under.spec.now in
    let e = c.args.under.values.now in
    let table = c.args.under.table.now in
    let i = c.args.instant in
    let P : Formula → Type 0 = λ f. FormulaFits w f e in
    (search (ints, rules, the_lemmas), (c.requires.table_fits, (subst (λ fs. AllFit w fs e) (sym c.as_slice-in-Or.ensures) (or_parts_fit w c.in-Or.parts e (subst P c.in-Or.is c.requires.formula_fits)), c.requires.instant_in)))

pub holds-holds-requires-in-Implies : goal.holds-holds-requires-in-Implies
holds-holds-requires-in-Implies t c =
    let w = world_of c.args.under.spec.now in
    let e = c.args.under.values.now in
    let table = c.args.under.table.now in
    let i = c.args.instant in
    let P : Formula → Type 0 = λ f. FormulaFits w f e in
    (search (ints, rules, the_lemmas), (c.requires.table_fits, (subst P (sym c.get-in-Implies.ensures) (implies_parts w c.in-Implies.left c.in-Implies.right e (subst P c.in-Implies.is c.requires.formula_fits)).0, c.requires.instant_in)))

pub holds-holds-requires-else-not-holds : goal.holds-holds-requires-else-not-holds
holds-holds-requires-else-not-holds t c =
    let w = world_of c.args.under.spec.now in
    let e = c.args.under.values.now in
    let table = c.args.under.table.now in
    let i = c.args.instant in
    let P : Formula → Type 0 = λ f. FormulaFits w f e in
    (search (ints, rules, the_lemmas), (c.requires.table_fits, (subst P (sym c.get-else-not-holds.ensures) (implies_parts w c.in-Implies.left c.in-Implies.right e (subst P c.in-Implies.is c.requires.formula_fits)).1, c.requires.instant_in)))

pub holds-holds-left-requires : goal.holds-holds-left-requires
holds-holds-left-requires t c =
    let w = world_of c.args.under.spec.now in
    let e = c.args.under.values.now in
    let table = c.args.under.table.now in
    let i = c.args.instant in
    let P : Formula → Type 0 = λ f. FormulaFits w f e in
    (search (ints, rules, the_lemmas), (c.requires.table_fits, (subst P (sym c.get-in-Iff.ensures) (iff_parts w c.in-Iff.left c.in-Iff.right e (subst P c.in-Iff.is c.requires.formula_fits)).0, c.requires.instant_in)))

pub holds-holds-right-requires : goal.holds-holds-right-requires
holds-holds-right-requires t c =
    let w = world_of c.args.under.spec.now in
    let e = c.args.under.values.now in
    let table = c.args.under.table.now in
    let i = c.args.instant in
    let P : Formula → Type 0 = λ f. FormulaFits w f e in
    (search (ints, rules, the_lemmas), (c.requires.table_fits, (subst P (sym c.get-in-Iff-2.ensures) (iff_parts w c.in-Iff.left c.in-Iff.right e (subst P c.in-Iff.is c.requires.formula_fits)).1, c.requires.instant_in)))

pub holds-for_some-requires : goal.holds-for_some-requires
holds-for_some-requires t c =
    let w = world_of c.args.under.spec.now in
    let e = c.args.under.values.now in
    let table = c.args.under.table.now in
    let i = c.args.instant in
    let P : Formula → Type 0 = λ f. FormulaFits w f e in
    (search (ints, rules, the_lemmas), (c.requires.table_fits, (subst (λ f. QuantifierFits w c.in-All.domain f e) (sym c.get-in-All.ensures) (all_body w c.in-All.field-0 c.in-All.domain c.in-All.part e (subst P c.in-All.is c.requires.formula_fits)), c.requires.instant_in)))

pub holds-for_some-requires-in-Ex : goal.holds-for_some-requires-in-Ex
holds-for_some-requires-in-Ex t c =
    let w = world_of c.args.under.spec.now in
    let e = c.args.under.values.now in
    let table = c.args.under.table.now in
    let i = c.args.instant in
    let P : Formula → Type 0 = λ f. FormulaFits w f e in
    (search (ints, rules, the_lemmas), (c.requires.table_fits, (subst (λ f. QuantifierFits w c.in-Ex.domain f e) (sym c.get-in-Ex.ensures) (ex_body w c.in-Ex.field-0 c.in-Ex.domain c.in-Ex.part e (subst P c.in-Ex.is c.requires.formula_fits)), c.requires.instant_in)))

pub holds-somewhere-requires : goal.holds-somewhere-requires
holds-somewhere-requires t c =
    let w = world_of c.args.under.spec.now in
    let e = c.args.under.values.now in
    let table = c.args.under.table.now in
    let i = c.args.instant in
    let P : Formula → Type 0 = λ f. FormulaFits w f e in
    (search (ints, rules, the_lemmas), (c.requires.table_fits, (subst P (sym c.get-in-One.ensures) (one_part w c.in-One.operator c.in-One.part e (subst P c.in-One.is c.requires.formula_fits)), c.window_of-some.ensures.inside)))

pub holds-far_holds-requires : goal.holds-far_holds-requires
holds-far_holds-requires t c =
    let w = world_of c.args.under.spec.now in
    let e = c.args.under.values.now in
    let table = c.args.under.table.now in
    let i = c.args.instant in
    let P : Formula → Type 0 = λ f. FormulaFits w f e in
    let parts = (far_parts w c.in-Far.operator c.in-Far.part c.in-Far.distance e (subst P c.in-Far.is c.requires.formula_fits)) in (
      search (ints, rules, the_lemmas),
      (
        c.requires.table_fits,
        (
          subst P (sym c.get-in-Far.ensures) parts.0,
          (
            c.requires.instant_in,
            λ d is. small_value parts.1 c.value_of-distance.ensures.bounded is,
          ),
        ),
      ),
    )

pub holds-value_of-requires-clause-term_fits : goal.holds-value_of-requires-clause-term_fits
holds-value_of-requires-clause-term_fits t c =
    let w = world_of c.args.under.spec.now in
    let e = c.args.under.values.now in
    let table = c.args.under.table.now in
    let i = c.args.instant in
    let P : Formula → Type 0 = λ f. FormulaFits w f e in
    lone_term w c.in-Lone.term e (subst P c.in-Lone.is c.requires.formula_fits)

pub holds-value_of-left-requires-clause-term_fits : goal.holds-value_of-left-requires-clause-term_fits
holds-value_of-left-requires-clause-term_fits t c =
    let w = world_of c.args.under.spec.now in
    let e = c.args.under.values.now in
    let table = c.args.under.table.now in
    let i = c.args.instant in
    let P : Formula → Type 0 = λ f. FormulaFits w f e in
    (compared_terms w c.in-Compare.rel c.in-Compare.left c.in-Compare.right e (subst P c.in-Compare.is c.requires.formula_fits)).0

pub holds-value_of-right-requires-clause-term_fits : goal.holds-value_of-right-requires-clause-term_fits
holds-value_of-right-requires-clause-term_fits t c =
    let w = world_of c.args.under.spec.now in
    let e = c.args.under.values.now in
    let table = c.args.under.table.now in
    let i = c.args.instant in
    let P : Formula → Type 0 = λ f. FormulaFits w f e in
    (compared_terms w c.in-Compare.rel c.in-Compare.left c.in-Compare.right e (subst P c.in-Compare.is c.requires.formula_fits)).1

pub holds-value_of-distance-requires-clause-term_fits : goal.holds-value_of-distance-requires-clause-term_fits
holds-value_of-distance-requires-clause-term_fits t c =
    let w = world_of c.args.under.spec.now in
    let e = c.args.under.values.now in
    let table = c.args.under.table.now in
    let i = c.args.instant in
    let P : Formula → Type 0 = λ f. FormulaFits w f e in
    (far_parts w c.in-Far.operator c.in-Far.part c.in-Far.distance e (subst P c.in-Far.is c.requires.formula_fits)).1

pub holds-returns-in-Lone : goal.holds-returns-in-Lone
holds-returns-in-Lone t c =
    let w = world_of c.args.under.spec.now in
    let e = c.args.under.values.now in
    let table = c.args.under.table.now in
    let i = c.args.instant in
    c.is_one.ensures ∙ ap (is_value (pos 1)) c.value_of.ensures.is ∙ sym (truth-Lone w c.in-Lone.term e table i) ∙ ap (λ f. truth w f e table i) (sym c.in-Lone.is)

pub holds-returns-in-Compare : goal.holds-returns-in-Compare
holds-returns-in-Compare t c =
    let w = world_of c.args.under.spec.now in
    let e = c.args.under.values.now in
    let table = c.args.under.table.now in
    let i = c.args.instant in
    c.stands.ensures ∙ ap (λ v. relates c.in-Compare.rel v c.value_of-right.result) c.value_of-left.ensures.is
    ∙ ap (relates c.in-Compare.rel (value w c.in-Compare.left e table i)) c.value_of-right.ensures.is ∙ sym (truth-Compare w c.in-Compare.rel c.in-Compare.left c.in-Compare.right e table i) ∙ ap (λ f. truth w f e table i) (sym c.in-Compare.is)

pub holds-returns-in-Not : goal.holds-returns-in-Not
holds-returns-in-Not t c =
    let w = world_of c.args.under.spec.now in
    let e = c.args.under.values.now in
    let table = c.args.under.table.now in
    let i = c.args.instant in
    ap not (c.holds.ensures ∙ ap (λ f. truth w f e table i) c.get.ensures) ∙ sym (truth-Not w c.in-Not.part e table i) ∙ ap (λ f. truth w f e table i) (sym c.in-Not.is)

pub holds-returns-in-And : goal.holds-returns-in-And
holds-returns-in-And t c =
    let w = world_of c.args.under.spec.now in
    let e = c.args.under.values.now in
    let table = c.args.under.table.now in
    let i = c.args.instant in
    c.all_hold.ensures ∙ ap (list_all (λ f. truth w f e table i)) c.as_slice.ensures ∙ sym (truth-And w c.in-And.parts e table i) ∙ ap (λ f. truth w f e table i) (sym c.in-And.is)

pub holds-returns-in-Or : goal.holds-returns-in-Or
holds-returns-in-Or t c =
    let w = world_of c.args.under.spec.now in
    let e = c.args.under.values.now in
    let table = c.args.under.table.now in
    let i = c.args.instant in
    c.any_holds.ensures ∙ ap (list_any (λ f. truth w f e table i)) c.as_slice-in-Or.ensures ∙ sym (truth-Or w c.in-Or.parts e table i) ∙ ap (λ f. truth w f e table i) (sym c.in-Or.is)

pub holds-returns-then-not-holds : goal.holds-returns-then-not-holds
holds-returns-then-not-holds t c =
    let w = world_of c.args.under.spec.now in
    let e = c.args.under.values.now in
    let table = c.args.under.table.now in
    let i = c.args.instant in
    let p = c.in-Implies in
    let left : truth w p.left e table i ≡ false = ap (λ f. truth w f e table i) (sym c.get-in-Implies.ensures) ∙ sym c.holds-in-Implies.ensures ∙ c.if-not-holds.true in
    ap not c.if-not-holds.true ∙ sym (truth-Implies w p.left p.right e table i ∙ ap (λ b. not b || truth w p.right e table i) left) ∙ ap (λ f. truth w f e table i) (sym p.is)

pub holds-returns-else-not-holds : goal.holds-returns-else-not-holds
holds-returns-else-not-holds t c =
    let w = world_of c.args.under.spec.now in
    let e = c.args.under.values.now in
    let table = c.args.under.table.now in
    let i = c.args.instant in
    let p = c.in-Implies in
    let left : truth w p.left e table i ≡ true = ap (λ f. truth w f e table i) (sym c.get-in-Implies.ensures) ∙ sym c.holds-in-Implies.ensures ∙ c.if-not-holds.false in
    c.holds-else-not-holds.ensures ∙ ap (λ f. truth w f e table i) c.get-else-not-holds.ensures
    ∙ sym (truth-Implies w p.left p.right e table i ∙ ap (λ b. not b || truth w p.right e table i) left) ∙ ap (λ f. truth w f e table i) (sym p.is)

pub holds-returns-in-Iff : goal.holds-returns-in-Iff
holds-returns-in-Iff t c =
    let w = world_of c.args.under.spec.now in
    let e = c.args.under.values.now in
    let table = c.args.under.table.now in
    let i = c.args.instant in
    c.agrees.ensures ∙ ap (λ b. is_iff b c.holds-right.result) (c.holds-left.ensures ∙ ap (λ f. truth w f e table i) c.get-in-Iff.ensures)
    ∙ ap (is_iff (truth w c.in-Iff.left e table i)) (c.holds-right.ensures ∙ ap (λ f. truth w f e table i) c.get-in-Iff-2.ensures) ∙ sym (truth-Iff w c.in-Iff.left c.in-Iff.right e table i) ∙ ap (λ f. truth w f e table i) (sym c.in-Iff.is)

pub holds-returns-in-All : goal.holds-returns-in-All
holds-returns-in-All t c =
    let w = world_of c.args.under.spec.now in
    let e = c.args.under.values.now in
    let table = c.args.under.table.now in
    let i = c.args.instant in
    ap not (c.for_some.ensures ∙ ap (λ f. list_any (λ z. not (truth w f (e ++ z ∷ []) table i)) (values_in w.domains c.in-All.domain)) c.get-in-All.ensures)
    ∙ sym (all_is_not_any (λ z. truth w c.in-All.part (e ++ z ∷ []) table i) (values_in w.domains c.in-All.domain)) ∙ sym (truth-All w c.in-All.field-0 c.in-All.domain c.in-All.part e table i) ∙ ap (λ f. truth w f e table i) (sym c.in-All.is)

pub holds-returns-in-Ex : goal.holds-returns-in-Ex
holds-returns-in-Ex t c =
    let w = world_of c.args.under.spec.now in
    let e = c.args.under.values.now in
    let table = c.args.under.table.now in
    let i = c.args.instant in
    c.for_some-in-Ex.ensures ∙ ap (λ f. list_any (λ z. truth w f (e ++ z ∷ []) table i) (values_in w.domains c.in-Ex.domain)) c.get-in-Ex.ensures
    ∙ sym (truth-Ex w c.in-Ex.field-0 c.in-Ex.domain c.in-Ex.part e table i) ∙ ap (λ f. truth w f e table i) (sym c.in-Ex.is)

pub holds-returns-in-One : goal.holds-returns-in-One
holds-returns-in-One t c =
    let w = world_of c.args.under.spec.now in
    let e = c.args.under.values.now in
    let table = c.args.under.table.now in
    let i = c.args.instant in
    let o = c.in-One.operator in
    let some = c.window_of-some.result.1 in
    let window = c.window_of-some.result.0 in
    c.agrees-in-One.ensures ∙ ap (is_iff some) c.somewhere.ensures
    ∙ sym (c.window_of-some.ensures.is (truth w c.get-in-One.result.now e table))
    ∙ ap (λ f. one_truth w o (truth w f e table) i) c.get-in-One.ensures ∙ sym (truth-One w o c.in-One.part e table i) ∙ ap (λ f. truth w f e table i) (sym c.in-One.is)

pub holds-returns-in-Far : goal.holds-returns-in-Far
holds-returns-in-Far t c =
    let w = world_of c.args.under.spec.now in
    let e = c.args.under.values.now in
    let table = c.args.under.table.now in
    let i = c.args.instant in
    let o = c.in-Far.operator in
    c.far_holds.ensures ∙ ap (λ f. far_truth w o (truth w f e table) i c.value_of-distance.result) c.get-in-Far.ensures
    ∙ ap (far_truth w o (truth w c.in-Far.part e table) i) c.value_of-distance.ensures.is ∙ sym (truth-Far w o c.in-Far.part c.in-Far.distance e table i) ∙ ap (λ f. truth w f e table i) (sym c.in-Far.is)

pub far_holds-returns-in-Dist : goal.far_holds-returns-in-Dist
far_holds-returns-in-Dist t c =
    let w = world_of c.args.under.spec.now in
    let e = c.args.under.values.now in
    let table = c.args.under.table.now in
    let i = c.args.instant in
    let d = c.args.distance in
    let f = truth w c.args.part.now e table in
    c.somewhere.ensures ∙ window_any w c.at_distance.result.from c.at_distance.result.to f (is_at_distance i d) c.at_distance.ensures ∙ ap (λ o. far_truth w o f i d) (sym c.in-Dist.is)

pub far_holds-returns-in-Futr : goal.far_holds-returns-in-Futr
far_holds-returns-in-Futr t c =
    let w = world_of c.args.under.spec.now in
    let e = c.args.under.values.now in
    let table = c.args.under.table.now in
    let i = c.args.instant in
    let d = c.args.distance in
    let f = truth w c.args.part.now e table in
    c.somewhere-in-Futr.ensures ∙ window_any w c.in_future.result.from c.in_future.result.to f (λ j. is_not_negative d && is_at_distance i d j) c.in_future.ensures ∙ sym (guarded (is_not_negative d) f (is_at_distance i d) (instants_of w)) ∙ ap (λ o. far_truth w o f i d) (sym c.in-Futr.is)

pub far_holds-returns-in-Past : goal.far_holds-returns-in-Past
far_holds-returns-in-Past t c =
    let w = world_of c.args.under.spec.now in
    let e = c.args.under.values.now in
    let table = c.args.under.table.now in
    let i = c.args.instant in
    let d = c.args.distance in
    let f = truth w c.args.part.now e table in
    c.somewhere-in-Past.ensures ∙ window_any w c.in_past.result.from c.in_past.result.to f (λ j. is_not_negative d && is_at_distance i (option_map neg_ℤ d) j) c.in_past.ensures ∙ sym (guarded (is_not_negative d) f (is_at_distance i (option_map neg_ℤ d)) (instants_of w)) ∙ ap (λ o. far_truth w o f i d) (sym c.in-Past.is)

pub far_holds-returns-in-Lasts : goal.far_holds-returns-in-Lasts
far_holds-returns-in-Lasts t c =
    let w = world_of c.args.under.spec.now in
    let e = c.args.under.values.now in
    let table = c.args.under.table.now in
    let i = c.args.instant in
    let d = c.args.distance in
    let f = truth w c.args.part.now e table in
    ap not c.somewhere-in-Lasts.ensures ∙ window_all w c.ahead-in-Lasts.result.from c.ahead-in-Lasts.result.to f (is_ahead c.in-Lasts.ends i d) c.ahead-in-Lasts.ensures ∙ ap (λ o. far_truth w o f i d) (sym c.in-Lasts.is)

pub far_holds-returns-in-WithinF : goal.far_holds-returns-in-WithinF
far_holds-returns-in-WithinF t c =
    let w = world_of c.args.under.spec.now in
    let e = c.args.under.values.now in
    let table = c.args.under.table.now in
    let i = c.args.instant in
    let d = c.args.distance in
    let f = truth w c.args.part.now e table in
    c.somewhere-in-WithinF.ensures ∙ window_any w c.ahead-in-WithinF.result.from c.ahead-in-WithinF.result.to f (is_ahead c.in-WithinF.ends i d) c.ahead-in-WithinF.ensures ∙ ap (λ o. far_truth w o f i d) (sym c.in-WithinF.is)

pub far_holds-returns-in-Lasted : goal.far_holds-returns-in-Lasted
far_holds-returns-in-Lasted t c =
    let w = world_of c.args.under.spec.now in
    let e = c.args.under.values.now in
    let table = c.args.under.table.now in
    let i = c.args.instant in
    let d = c.args.distance in
    let f = truth w c.args.part.now e table in
    ap not c.somewhere-in-Lasted.ensures ∙ window_all w c.behind-in-Lasted.result.from c.behind-in-Lasted.result.to f (is_behind c.in-Lasted.ends i d) c.behind-in-Lasted.ensures ∙ ap (λ o. far_truth w o f i d) (sym c.in-Lasted.is)

pub far_holds-returns-in-WithinP : goal.far_holds-returns-in-WithinP
far_holds-returns-in-WithinP t c =
    let w = world_of c.args.under.spec.now in
    let e = c.args.under.values.now in
    let table = c.args.under.table.now in
    let i = c.args.instant in
    let d = c.args.distance in
    let f = truth w c.args.part.now e table in
    c.somewhere-in-WithinP.ensures ∙ window_any w c.behind-in-WithinP.result.from c.behind-in-WithinP.result.to f (is_behind c.in-WithinP.ends i d) c.behind-in-WithinP.ensures ∙ ap (λ o. far_truth w o f i d) (sym c.in-WithinP.is)

pub far_holds-returns-else-somewhere : goal.far_holds-returns-else-somewhere
far_holds-returns-else-somewhere t c =
    let w = world_of c.args.under.spec.now in
    let e = c.args.under.values.now in
    let table = c.args.under.table.now in
    let i = c.args.instant in
    let d = c.args.distance in
    let f = truth w c.args.part.now e table in
    let never = list_all (λ j. not (f j)) (filter (is_ahead ends.Bare i d) (instants_of w)) in
    let first = c.somewhere-in-NextTime.ensures ∙ window_any w c.in_future-in-NextTime.result.from c.in_future-in-NextTime.result.to f (λ j. is_not_negative d && is_at_distance i d j) c.in_future-in-NextTime.ensures ∙ sym (guarded (is_not_negative d) f (is_at_distance i d) (instants_of w)) in
    c.if-somewhere.false ∙ ap (λ b. b && never) (sym c.if-somewhere.false ∙ first) ∙ ap (λ o. far_truth w o f i d) (sym c.in-NextTime.is)

pub far_holds-returns-then-somewhere : goal.far_holds-returns-then-somewhere
far_holds-returns-then-somewhere t c =
    let w = world_of c.args.under.spec.now in
    let e = c.args.under.values.now in
    let table = c.args.under.table.now in
    let i = c.args.instant in
    let d = c.args.distance in
    let f = truth w c.args.part.now e table in
    let never = list_all (λ j. not (f j)) (filter (is_ahead ends.Bare i d) (instants_of w)) in
    let first = c.somewhere-in-NextTime.ensures ∙ window_any w c.in_future-in-NextTime.result.from c.in_future-in-NextTime.result.to f (λ j. is_not_negative d && is_at_distance i d j) c.in_future-in-NextTime.ensures ∙ sym (guarded (is_not_negative d) f (is_at_distance i d) (instants_of w)) in
    ap not c.somewhere-then-somewhere.ensures ∙ window_none w c.ahead.result.from c.ahead.result.to f (is_ahead ends.Bare i d) c.ahead.ensures
    ∙ ap (λ b. b && never) (sym c.if-somewhere.true ∙ first) ∙ ap (λ o. far_truth w o f i d) (sym c.in-NextTime.is)

pub far_holds-returns-else-somewhere-2 : goal.far_holds-returns-else-somewhere-2
far_holds-returns-else-somewhere-2 t c =
    let w = world_of c.args.under.spec.now in
    let e = c.args.under.values.now in
    let table = c.args.under.table.now in
    let i = c.args.instant in
    let d = c.args.distance in
    let f = truth w c.args.part.now e table in
    let never = list_all (λ j. not (f j)) (filter (is_behind ends.Bare i d) (instants_of w)) in
    let first = c.somewhere-in-LastTime.ensures ∙ window_any w c.in_past-in-LastTime.result.from c.in_past-in-LastTime.result.to f (λ j. is_not_negative d && is_at_distance i (option_map neg_ℤ d) j) c.in_past-in-LastTime.ensures ∙ sym (guarded (is_not_negative d) f (is_at_distance i (option_map neg_ℤ d)) (instants_of w)) in
    c.if-somewhere-2.false ∙ ap (λ b. b && never) (sym c.if-somewhere-2.false ∙ first) ∙ ap (λ o. far_truth w o f i d) (sym c.in-LastTime.is)

pub far_holds-returns-then-somewhere-2 : goal.far_holds-returns-then-somewhere-2
far_holds-returns-then-somewhere-2 t c =
    let w = world_of c.args.under.spec.now in
    let e = c.args.under.values.now in
    let table = c.args.under.table.now in
    let i = c.args.instant in
    let d = c.args.distance in
    let f = truth w c.args.part.now e table in
    let never = list_all (λ j. not (f j)) (filter (is_behind ends.Bare i d) (instants_of w)) in
    let first = c.somewhere-in-LastTime.ensures ∙ window_any w c.in_past-in-LastTime.result.from c.in_past-in-LastTime.result.to f (λ j. is_not_negative d && is_at_distance i (option_map neg_ℤ d) j) c.in_past-in-LastTime.ensures ∙ sym (guarded (is_not_negative d) f (is_at_distance i (option_map neg_ℤ d)) (instants_of w)) in
    ap not c.somewhere-then-somewhere-2.ensures ∙ window_none w c.behind.result.from c.behind.result.to f (is_behind ends.Bare i d) c.behind.ensures
    ∙ ap (λ b. b && never) (sym c.if-somewhere-2.true ∙ first) ∙ ap (λ o. far_truth w o f i d) (sym c.in-LastTime.is)

pub for_some-returns-then-agrees : goal.for_some-returns-then-agrees
for_some-returns-then-agrees t c =
    let w = world_of c.args.under.spec.now in
    let e = c.args.under.values.now in
    let table = c.args.under.table.now in
    let i = c.args.instant in
    let f = c.args.part.now in
    let q : ℤ → Bool = λ z. is_iff c.args.wanted (truth w f (e ++ z ∷ []) table i) in
    let zs = values_in w.domains c.args.domain in
    let k = c.loop-index.index in
    let z = c.value_at.result in
    let inner = c.loop-index.inner in
    let same : to_z w64 (of_z w64 z) ≡ z = omega (arith, ints) in
    let environment = take_more_set inner (length e) (to_z w64 (of_z w64 z)) (omega (arith, c.loop-index.invariant.enough, c.requires.part_fits.room))
    ∙ ap (λ l. l ++ to_z w64 (of_z w64 z) ∷ []) c.loop-index.invariant.front ∙ ap (λ z. e ++ z ∷ []) same in
    let here = c.agrees.ensures ∙ ap (is_iff c.args.wanted) (c.holds.ensures ∙ ap (λ v. truth w f v table i) environment) in
    sym (any_from_some q zs k z c.value_at.ensures (sym here ∙ c.if-agrees.true))

pub for_some-loop-index-preserved : goal.for_some-loop-index-preserved
for_some-loop-index-preserved t c =
    let w = world_of c.args.under.spec.now in
    let e = c.args.under.values.now in
    let table = c.args.under.table.now in
    let i = c.args.instant in
    let f = c.args.part.now in
    let q : ℤ → Bool = λ z. is_iff c.args.wanted (truth w f (e ++ z ∷ []) table i) in
    let zs = values_in w.domains c.args.domain in
    let k = c.loop-index.index in
    let z = c.value_at.result in
    let inner = c.loop-index.inner in
    let same : to_z w64 (of_z w64 z) ≡ z = omega (arith, ints) in
    let environment = take_more_set inner (length e) (to_z w64 (of_z w64 z)) (omega (arith, c.loop-index.invariant.enough, c.requires.part_fits.room))
    ∙ ap (λ l. l ++ to_z w64 (of_z w64 z) ∷ []) c.loop-index.invariant.front ∙ ap (λ z. e ++ z ∷ []) same in
    let here = c.agrees.ensures ∙ ap (is_iff c.args.wanted) (c.holds.ensures ∙ ap (λ v. truth w f v table i) environment) in
    record {
      enough = length-set inner (length e) (to_z w64 (of_z w64 z)) ∙ c.loop-index.invariant.enough;
      front = take-set-le (length e) inner (length e) (to_z w64 (of_z w64 z)) (omega arith) ∙ c.loop-index.invariant.front;
      none = list_any_more q zs k z (slice_get_within zs k z c.value_at.ensures)
          ∙ or_from (list_any q (take k zs)) (q (get_or zs k z)) c.loop-index.invariant.none (ap q (get_or_from_slice_get zs k z z c.value_at.ensures) ∙ sym here ∙ c.if-agrees.false);
    }

pub somewhere-loop-instant-init : goal.somewhere-loop-instant-init
somewhere-loop-instant-init t c =
    let w = world_of c.args.under.spec.now in
    let e = c.args.under.values.now in
    let table = c.args.under.table.now in
    let p : ℕ → Bool = λ j. is_iff c.args.wanted (truth w c.args.part.now e table j) in
    let from = c.args.window.from in
    let to = c.args.window.to in
    let zero : from - from ≡ 0 = omega arith in
    record { none = ap (λ n. list_any p (range_with_len from n)) zero; within = omega arith }

pub somewhere-loop-instant-preserved : goal.somewhere-loop-instant-preserved
somewhere-loop-instant-preserved t c =
    let w = world_of c.args.under.spec.now in
    let e = c.args.under.values.now in
    let table = c.args.under.table.now in
    let p : ℕ → Bool = λ j. is_iff c.args.wanted (truth w c.args.part.now e table j) in
    let from = c.args.window.from in
    let to = c.args.window.to in
    let i = c.loop-instant.instant in
    let here = c.agrees.ensures ∙ ap (is_iff c.args.wanted) c.holds.ensures in
    let more : (i + 1) - from ≡ (i - from) + 1 = omega arith in
    let place : from + (i - from) ≡ i = omega arith in
    record {
      none = ap (λ n. list_any p (range_with_len from n)) more ∙ any_range_more p from (i - from) c.loop-instant.invariant.none (ap p place ∙ sym here ∙ c.if-agrees.false);
      within = omega arith;
    }

pub somewhere-returns-then-agrees : goal.somewhere-returns-then-agrees
somewhere-returns-then-agrees t c =
    let w = world_of c.args.under.spec.now in
    let e = c.args.under.values.now in
    let table = c.args.under.table.now in
    let p : ℕ → Bool = λ j. is_iff c.args.wanted (truth w c.args.part.now e table j) in
    let from = c.args.window.from in
    let to = c.args.window.to in
    let i = c.loop-instant.instant in
    let here = c.agrees.ensures ∙ ap (is_iff c.args.wanted) c.holds.ensures in
    sym (range_has_any p from (to - from) i (omega arith) (omega arith) (sym here ∙ c.if-agrees.true))

pub somewhere-returns : goal.somewhere-returns
somewhere-returns t c =
    let w = world_of c.args.under.spec.now in
    let e = c.args.under.values.now in
    let table = c.args.under.table.now in
    let p : ℕ → Bool = λ j. is_iff c.args.wanted (truth w c.args.part.now e table j) in
    let from = c.args.window.from in
    let to = c.args.window.to in
    let i = c.loop-instant.instant in
    let end : i - from ≡ to - from = omega (arith, c.loop-instant.invariant.within, c.loop-instant-test.false) in
    sym (ap (λ n. list_any p (range_with_len from n)) (sym end) ∙ c.loop-instant.invariant.none)

pub holds-nearest_true-requires : goal.holds-nearest_true-requires
holds-nearest_true-requires t c =
    let w = world_of c.args.under.spec.now in
    let e = c.args.under.values.now in
    let P : Formula → Type 0 = λ f. FormulaFits w f e in
    let p = c.in-Pair in
    let parts = pair_parts w p.operator p.left p.right e (subst P p.is c.requires.formula_fits) in
    (search (ints, rules, the_lemmas), (c.requires.table_fits, (subst P (sym c.get-in-Pair.ensures) parts.1, c.requires.instant_in)))

pub holds-between-requires-clause-other_small : goal.holds-between-requires-clause-other_small
holds-between-requires-clause-other_small t c =
    let w = world_of c.args.under.spec.now in
    let p = c.in-Pair in
    let inside = nearest_inside w p.operator (truth w c.get-in-Pair.result.now c.args.under.values.now c.args.under.table.now) c.args.instant c.in-Some.nearest c.requires.instant_in c.in-Some.ensures in
    omega (arith, inside, few_instants (parts_of c.args.under.spec.now) (formed c.args.under.spec.now))

pub holds-between-requires-clause-one_small : goal.holds-between-requires-clause-one_small
holds-between-requires-clause-one_small t c =
    omega (arith, c.requires.instant_in, few_instants (parts_of c.args.under.spec.now) (formed c.args.under.spec.now))

pub holds-somewhere-requires-in-Some : goal.holds-somewhere-requires-in-Some
holds-somewhere-requires-in-Some t c =
    let w = world_of c.args.under.spec.now in
    let e = c.args.under.values.now in
    let i = c.args.instant in
    let P : Formula → Type 0 = λ f. FormulaFits w f e in
    let p = c.in-Pair in
    let parts = pair_parts w p.operator p.left p.right e (subst P p.is c.requires.formula_fits) in
    let there = nearest_inside w p.operator (truth w c.get-in-Pair.result.now e c.args.under.table.now) i c.in-Some.nearest c.requires.instant_in c.in-Some.ensures in
    (search (ints, rules, the_lemmas), (c.requires.table_fits, (subst P (sym c.get-in-Some.ensures) parts.0, between_inside w i c.in-Some.nearest _ _ c.requires.instant_in there c.between.ensures)))

pub holds-returns-in-Some : goal.holds-returns-in-Some
holds-returns-in-Some t c =
    let w = world_of c.args.under.spec.now in
    let e = c.args.under.values.now in
    let table = c.args.under.table.now in
    let i = c.args.instant in
    let p = c.in-Pair in
    let j = c.in-Some.nearest in
    let near = subst (λ g. IsNearest w p.operator (truth w g e table) i (Some j)) c.get-in-Pair.ensures c.in-Some.ensures in
    ap not (c.somewhere-in-Some.ensures ∙ ap (λ f. list_any (λ k. not (truth w f e table k)) (range_with_len c.between.result.from (c.between.result.to - c.between.result.from))) c.get-in-Some.ensures)
    ∙ pair_found w p.operator p.left p.right e table i j c.between.result.from c.between.result.to c.requires.instant_in near c.between.ensures ∙ ap (λ f. truth w f e table i) (sym p.is)

pub holds-returns-in-None : goal.holds-returns-in-None
holds-returns-in-None t c =
    let w = world_of c.args.under.spec.now in
    let e = c.args.under.values.now in
    let table = c.args.under.table.now in
    let i = c.args.instant in
    let p = c.in-Pair in
    let near = subst (λ g. IsNearest w p.operator (truth w g e table) i None) c.get-in-Pair.ensures c.in-None.ensures in
    pair_not_found w p.operator p.left p.right e table i c.requires.instant_in near ∙ ap (λ f. truth w f e table i) (sym p.is)

pub nearest_true-between-requires-clause-one_small : goal.nearest_true-between-requires-clause-one_small
nearest_true-between-requires-clause-one_small t c =
    omega (arith, c.requires.instant_in, few_instants (parts_of c.args.under.spec.now) (formed c.args.under.spec.now))

pub nearest_true-between-requires-clause-other_small : goal.nearest_true-between-requires-clause-other_small
nearest_true-between-requires-clause-other_small t c =
    omega (arith, few_instants (parts_of c.args.under.spec.now) (formed c.args.under.spec.now))

pub nearest_true-first_true-requires : goal.nearest_true-first_true-requires
nearest_true-first_true-requires t c =
    let ends = c.between.ensures.on (omega (arith, c.requires.instant_in)) in
    (search (ints, rules, the_lemmas), (c.requires.table_fits, (c.requires.part_fits, omega (arith, ends.1))))

pub nearest_true-last_true-requires : goal.nearest_true-last_true-requires
nearest_true-last_true-requires t c =
    (search (ints, rules, the_lemmas), (c.requires.table_fits, (c.requires.part_fits, omega (arith, c.requires.instant_in))))

pub nearest_true-returns-in-Until : goal.nearest_true-returns-in-Until
nearest_true-returns-in-Until t c =
    let w = world_of c.args.under.spec.now in
    let f = truth w c.args.part.now c.args.under.values.now c.args.under.table.now in
    let i = c.args.instant in
    let ends = c.between.ensures.on (omega (arith, c.requires.instant_in)) in
    subst (λ o. IsNearest w o f i c.first_true.result) (sym c.in-Until.is) (first_between f c.between.result.from c.between.result.to (i + 1) w.instants c.first_true.result ends.0 ends.1 c.first_true.ensures)

pub nearest_true-returns-in-Since : goal.nearest_true-returns-in-Since
nearest_true-returns-in-Since t c =
    let w = world_of c.args.under.spec.now in
    let f = truth w c.args.part.now c.args.under.values.now c.args.under.table.now in
    subst (λ o. IsNearest w o f c.args.instant c.last_true.result) (sym c.in-Since.is) c.last_true.ensures
