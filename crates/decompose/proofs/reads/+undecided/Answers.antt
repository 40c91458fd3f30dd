-- The answers to the goals of `undecided_of_term` and `undecided_of_parts`.
use Rattle.std.proofs.Common.{◌≡◌, ℕ, List, take, None, Some, subst, sym, ap, ◌∙◌, arith, rules}
use Rattle.std.specs.ControlFlow.{continue_value}
use Rattle.std.specs.List.{flat_map}
use Rattle.std.proofs.lemmas.Bool.{cond-true, cond-false}
use Rattle.std.proofs.lemmas.Int.{ints}
use Rattle.std.proofs.lemmas.List.{take_all}
use Rattle.std.proofs.lemmas.Option.{slice_get-get_or, slice_get_within}
use Rattle.trio_types.specs.declared.formula.SignedTerm.{SignedTerm}
use Rattle.trio_types.specs.declared.formula.Term.{Term}
use Rattle.trio_types.specs.declared.formula.Term.TheVariants as term
use Rattle.trio_types.specs.declared.formula.Term.TheFolds.{the_lemmas}
use Rattle.trio_types.specs.Cells.{cells_of}
use Rattle.trio_core.specs.Three.{known_at}
use Rattle.trio_core.specs.Stands.{world_of_core}
use Rattle.trio_core.specs.Fits.{NodeTermFits, IsCellRead}
use Rattle.trio_types.proofs.Inductions.{term_of}
use Rattle.trio_core.proofs.TermsFit.{times_part, sum_part, arg_values, args_known}
use Rattle.branch_state.proofs.CodeReads.{flat_next}
use Rattle.decompose.specs.Reads.{is_undecided, first_undecided}
use Rattle.decompose.proofs.Readings.{cells_read, cells_of_number, cells_of_value, cells_of_var, cells_of_times, cells_of_sum, cells_of_item, none_of_both, found_in_flat}
use Rattle.decompose.proofs.reads.+undecided.Goals as goal

pub undecided_of_parts-undecided_of_term-requires : goal.undecided_of_parts-undecided_of_term-requires
undecided_of_parts-undecided_of_term-requires t c =
    let w = world_of_core c.args.under.core.now in
    let sets = c.args.under.doms.now in
    let e = c.args.under.values.now in
    let i = c.args.instant in
    let parts = c.args.parts.now in
    let k = c.loop-part.part-index in
    let p = c.part-item.result in
    let at = slice_get-get_or parts k p c.loop-part-test.true ∙ ap Some (sym c.part-item.is) in
    let part_fits = sum_part w parts e c.requires.term_fits k p at in
    (search (ints, rules, the_lemmas), (c.requires.sets_fit, (part_fits, c.requires.instant_in)))

pub undecided_of_parts-returns-in-Some : goal.undecided_of_parts-returns-in-Some
undecided_of_parts-returns-in-Some t c =
    let w = world_of_core c.args.under.core.now in
    let sets = c.args.under.doms.now in
    let e = c.args.under.values.now in
    let i = c.args.instant in
    let parts = c.args.parts.now in
    let k = c.loop-part.part-index in
    let p = c.part-item.result in
    let at = slice_get-get_or parts k p c.loop-part-test.true ∙ ap Some (sym c.part-item.is) in
    let f : SignedTerm → List ℕ = λ p. cells_read w sets e i (term_of p) in
    sym (ap (first_undecided w sets) (cells_of_sum w sets e i parts)
    ∙ found_in_flat (is_undecided w sets) f parts k p c.in-Some.cell at c.loop-part.invariant (sym c.undecided_of_term.ensures ∙ c.in-Some.is))

pub undecided_of_parts-loop-part-preserved : goal.undecided_of_parts-loop-part-preserved
undecided_of_parts-loop-part-preserved t c =
    let w = world_of_core c.args.under.core.now in
    let sets = c.args.under.doms.now in
    let e = c.args.under.values.now in
    let i = c.args.instant in
    let parts = c.args.parts.now in
    let k = c.loop-part.part-index in
    let p = c.part-item.result in
    let at = slice_get-get_or parts k p c.loop-part-test.true ∙ ap Some (sym c.part-item.is) in
    let f : SignedTerm → List ℕ = λ p. cells_read w sets e i (term_of p) in
    ap (first_undecided w sets) (flat_next f parts k p at)
    ∙ none_of_both (is_undecided w sets) (flat_map f (take k parts)) (f p) c.loop-part.invariant (sym c.undecided_of_term.ensures ∙ c.in_default.is)

pub undecided_of_parts-returns : goal.undecided_of_parts-returns
undecided_of_parts-returns t c =
    let w = world_of_core c.args.under.core.now in
    let sets = c.args.under.doms.now in
    let e = c.args.under.values.now in
    let i = c.args.instant in
    let parts = c.args.parts.now in
    let k = c.loop-part.part-index in
    let f : SignedTerm → List ℕ = λ p. cells_read w sets e i (term_of p) in
    sym (ap (first_undecided w sets) (cells_of_sum w sets e i parts ∙ sym (ap (flat_map f) (take_all k parts c.loop-part-test.false))) ∙ c.loop-part.invariant)

pub undecided_of_term-returns-in_err-cell-in-Read : goal.undecided_of_term-returns-in_err-cell-in-Read
undecided_of_term-returns-in_err-cell-in-Read t c =
    let w = world_of_core c.args.under.core.now in
    let sets = c.args.under.doms.now in
    let e = c.args.under.values.now in
    let i = c.args.instant in
    let n = c.in-Read.item in
    let args = c.as_slice.result.now in
    let P : Term → Type 0 = λ x. NodeTermFits w x e in
    let form : c.args.term.now ≡ term.Read n args = c.in-Read.is ∙ ap (term.Read n) (sym c.as_slice.ensures) in
    let fits = subst P form c.requires.term_fits in
    let told = c.cell_read.ensures (arg_values w e (known_at w sets) i args) (args_known w (known_at w sets) n args e i fits) in
    let none = subst (IsCellRead w n (arg_values w e (known_at w sets) i args) i) (c.branch-cell.ensures ∙ ap continue_value c.in_err-cell-in-Read.is) told in
    c.from_residual.ensures ∙ sym (ap (first_undecided w sets) (ap (cells_read w sets e i) form ∙ cells_of_item w sets e i n args fits None none))

pub undecided_of_term-is_undecided-requires-clause-cell_in : goal.undecided_of_term-is_undecided-requires-clause-cell_in
undecided_of_term-is_undecided-requires-clause-cell_in t c =
    let w = world_of_core c.args.under.core.now in
    let sets = c.args.under.doms.now in
    let e = c.args.under.values.now in
    let i = c.args.instant in
    let n = c.in-Read.item in
    let args = c.as_slice.result.now in
    let P : Term → Type 0 = λ x. NodeTermFits w x e in
    let form : c.args.term.now ≡ term.Read n args = c.in-Read.is ∙ ap (term.Read n) (sym c.as_slice.ensures) in
    let fits = subst P form c.requires.term_fits in
    let told = c.cell_read.ensures (arg_values w e (known_at w sets) i args) (args_known w (known_at w sets) n args e i fits) in
    let m = c.in_ok-cell-in-Read.cell in
    let there = subst (IsCellRead w n (arg_values w e (known_at w sets) i args) i) (c.branch-cell.ensures ∙ ap continue_value c.in_ok-cell-in-Read.is) told in
    omega (arith, c.requires.sets_fit.whole, slice_get_within (cells_of w) m there.0 there.2)

pub undecided_of_term-returns-then-is_undecided : goal.undecided_of_term-returns-then-is_undecided
undecided_of_term-returns-then-is_undecided t c =
    let w = world_of_core c.args.under.core.now in
    let sets = c.args.under.doms.now in
    let e = c.args.under.values.now in
    let i = c.args.instant in
    let n = c.in-Read.item in
    let args = c.as_slice.result.now in
    let P : Term → Type 0 = λ x. NodeTermFits w x e in
    let form : c.args.term.now ≡ term.Read n args = c.in-Read.is ∙ ap (term.Read n) (sym c.as_slice.ensures) in
    let fits = subst P form c.requires.term_fits in
    let told = c.cell_read.ensures (arg_values w e (known_at w sets) i args) (args_known w (known_at w sets) n args e i fits) in
    let m = c.in_ok-cell-in-Read.cell in
    let there = subst (IsCellRead w n (arg_values w e (known_at w sets) i args) i) (c.branch-cell.ensures ∙ ap continue_value c.in_ok-cell-in-Read.is) told in
    sym (ap (first_undecided w sets) (ap (cells_read w sets e i) form ∙ cells_of_item w sets e i n args fits (Some m) there)
    ∙ cond-true (is_undecided w sets m) (Some m) None (sym c.is_undecided.ensures ∙ c.if-is_undecided.true))

pub undecided_of_term-returns-else-is_undecided : goal.undecided_of_term-returns-else-is_undecided
undecided_of_term-returns-else-is_undecided t c =
    let w = world_of_core c.args.under.core.now in
    let sets = c.args.under.doms.now in
    let e = c.args.under.values.now in
    let i = c.args.instant in
    let n = c.in-Read.item in
    let args = c.as_slice.result.now in
    let P : Term → Type 0 = λ x. NodeTermFits w x e in
    let form : c.args.term.now ≡ term.Read n args = c.in-Read.is ∙ ap (term.Read n) (sym c.as_slice.ensures) in
    let fits = subst P form c.requires.term_fits in
    let told = c.cell_read.ensures (arg_values w e (known_at w sets) i args) (args_known w (known_at w sets) n args e i fits) in
    let m = c.in_ok-cell-in-Read.cell in
    let there = subst (IsCellRead w n (arg_values w e (known_at w sets) i args) i) (c.branch-cell.ensures ∙ ap continue_value c.in_ok-cell-in-Read.is) told in
    sym (ap (first_undecided w sets) (ap (cells_read w sets e i) form ∙ cells_of_item w sets e i n args fits (Some m) there)
    ∙ cond-false (is_undecided w sets m) (Some m) None (sym c.is_undecided.ensures ∙ c.if-is_undecided.false))

pub undecided_of_term-undecided_of_term-requires : goal.undecided_of_term-undecided_of_term-requires
undecided_of_term-undecided_of_term-requires t c =
    let w = world_of_core c.args.under.core.now in
    let sets = c.args.under.doms.now in
    let e = c.args.under.values.now in
    let i = c.args.instant in
    let P : Term → Type 0 = λ x. NodeTermFits w x e in
    let whole = subst P c.in-Times.is c.requires.term_fits in
    let part = times_part w c.in-Times.field-0 c.in-Times.factor e whole in
    (search (ints, rules, the_lemmas), (c.requires.sets_fit, (subst P (sym c.get.ensures) part, c.requires.instant_in)))

pub undecided_of_term-returns-in-Times : goal.undecided_of_term-returns-in-Times
undecided_of_term-returns-in-Times t c =
    let w = world_of_core c.args.under.core.now in
    let sets = c.args.under.doms.now in
    let e = c.args.under.values.now in
    let i = c.args.instant in
    c.undecided_of_term.ensures
    ∙ ap (first_undecided w sets) (ap (cells_read w sets e i) c.get.ensures ∙ sym (ap (cells_read w sets e i) c.in-Times.is ∙ cells_of_times w sets e i c.in-Times.field-0 c.in-Times.factor))

pub undecided_of_term-returns-in-Number : goal.undecided_of_term-returns-in-Number
undecided_of_term-returns-in-Number t c =
    let w = world_of_core c.args.under.core.now in
    let sets = c.args.under.doms.now in
    let e = c.args.under.values.now in
    let i = c.args.instant in
    ap (first_undecided w sets) (sym (ap (cells_read w sets e i) c.in-Number.is ∙ cells_of_number w sets e i c.in-Number.field-0))

pub undecided_of_term-returns-in-Value : goal.undecided_of_term-returns-in-Value
undecided_of_term-returns-in-Value t c =
    let w = world_of_core c.args.under.core.now in
    let sets = c.args.under.doms.now in
    let e = c.args.under.values.now in
    let i = c.args.instant in
    ap (first_undecided w sets) (sym (ap (cells_read w sets e i) c.in-Value.is ∙ cells_of_value w sets e i c.in-Value.field-0 c.in-Value.field-1))

pub undecided_of_term-returns-in-Var : goal.undecided_of_term-returns-in-Var
undecided_of_term-returns-in-Var t c =
    let w = world_of_core c.args.under.core.now in
    let sets = c.args.under.doms.now in
    let e = c.args.under.values.now in
    let i = c.args.instant in
    ap (first_undecided w sets) (sym (ap (cells_read w sets e i) c.in-Var.is ∙ cells_of_var w sets e i c.in-Var.field-0))
