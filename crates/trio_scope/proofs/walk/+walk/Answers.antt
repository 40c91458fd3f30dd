-- The answers to the goals of the walk over a formula.
use Rattle.std.proofs.Common.{◌≡◌, ◌⊎◌, inl, inr, List, [], ◌∷◌, ◌++◌, refl, ◌∙◌}
use Rattle.std.specs.List.{flat_map}
use Rattle.std.proofs.lemmas.List.{map-append}
use Rattle.trio_base.specs.declared.operators.OneOp.{OneOp}
use Rattle.trio_base.specs.declared.operators.PairOp.{PairOp}
use Rattle.trio_syntax.specs.declared.tree.FormulaTree.{FormulaTree}
use Rattle.trio_syntax.specs.declared.tree.FormulaTree.TheVariants as formula
use Rattle.trio_scope.specs.Places.{least}
use Rattle.trio_scope.specs.Gather.{Variable, Finding, variables_from, places_in}
use Rattle.trio_scope.proofs.Least.{least-append, least_both, least_next}
use Rattle.trio_scope.proofs.Gathers.{in-Lone, in-Compare, in-Not, in-And, in-Or, in-Implies, in-Iff, in-Quantified, in-One, in-Far, in-Pair}
use Rattle.trio_scope.proofs.walk.+walk.Goals as goal

-- what is found in a formula of one part, of a list of parts, or of two sides
one_part : (rule : Finding) (f part : FormulaTree) (e : List Variable) → (f ≡ formula.Not part) ⊎ ((op : OneOp) × (f ≡ formula.One op part)) →
    places_in rule f e ≡ places_in rule part e
one_part rule f part e (inl is) = rw is (in-Not rule e part)
one_part rule f part e (inr is) = rw is.1 (in-One rule e is.0 part)

parts_found : (rule : Finding) (f : FormulaTree) (fs : List FormulaTree) (e : List Variable) → (f ≡ formula.And fs) ⊎ (f ≡ formula.Or fs) →
    places_in rule f e ≡ flat_map (λ g. places_in rule g e) fs
parts_found rule f fs e (inl is) = rw is (in-And rule e fs)
parts_found rule f fs e (inr is) = rw is (in-Or rule e fs)

two_sides : (rule : Finding) (f left right : FormulaTree) (e : List Variable) →
    (f ≡ formula.Implies left right) ⊎ ((f ≡ formula.Iff left right) ⊎ ((op : PairOp) × (f ≡ formula.Pair op left right))) →
    places_in rule f e ≡ places_in rule left e ++ places_in rule right e
two_sides rule f left right e (inl is) = rw is (in-Implies rule e left right)
two_sides rule f left right e (inr (inl is)) = rw is (in-Iff rule e left right)
two_sides rule f left right e (inr (inr is)) = rw is.1 (in-Pair rule e is.0 left right)

pub first_in-returns-in-Lone-clause-found : goal.first_in-returns-in-Lone-clause-found
first_in-returns-in-Lone-clause-found g t c = rw (c.in-Lone.is, in-Lone, ← c.as_slice.ensures.value) c.first_in_term.ensures

pub first_in-returns-in-Compare-clause-found : goal.first_in-returns-in-Compare-clause-found
first_in-returns-in-Compare-clause-found g t c = rw (c.in-Compare.is, in-Compare, ← c.as_slice-in-Compare.ensures.value) c.first_compared.ensures

pub first_in-returns-in-Not-clause-found : goal.first_in-returns-in-Not-clause-found
first_in-returns-in-Not-clause-found g t c =
    rw (
      one_part (g.R.Rule.finding c.args.rule.now) c.args.formula.now c.in-Not.part (variables_from c.args.around.now.items) c.in-Not.is,
      ← c.get-in-Not.ensures,
    ) c.first_in-in-Not.ensures.found

pub first_in-returns-in-And-clause-found : goal.first_in-returns-in-And-clause-found
first_in-returns-in-And-clause-found g t c =
    rw (
      parts_found (g.R.Rule.finding c.args.rule.now) c.args.formula.now c.in-And.parts (variables_from c.args.around.now.items) c.in-And.is,
      ← c.as_slice-in-And.ensures,
    ) c.first_among.ensures.found

pub first_in-returns-in_ok-right-in-Implies-clause-found : goal.first_in-returns-in_ok-right-in-Implies-clause-found
first_in-returns-in_ok-right-in-Implies-clause-found g t c =
    rw (
      two_sides (g.R.Rule.finding c.args.rule.now) c.args.formula.now c.in-Implies.left c.in-Implies.right (variables_from c.args.around.now.items) c.in-Implies.is,
      least-append,
      ← c.get-in-Implies.ensures,
      ← c.get-in-Implies-2.ensures,
      ← c.in_ok-left-in-Implies.ensures.found,
      ← c.in_ok-left-in-Implies.ensures.kept,
      ← c.in_ok-right-in-Implies.ensures.found,
    ) c.earlier-in-Implies.ensures

pub first_in-returns-in-Quantified-clause-found : goal.first_in-returns-in-Quantified-clause-found
first_in-returns-in-Quantified-clause-found g t c =
    rw (c.in-Quantified.is, in-Quantified, ← c.get.ensures) c.first_under.ensures.found

pub first_in-returns-in_ok-part-in-Far-clause-found : goal.first_in-returns-in_ok-part-in-Far-clause-found
first_in-returns-in_ok-part-in-Far-clause-found g t c =
    rw (
      c.in-Far.is,
      in-Far,
      least-append,
      ← c.get-in-Far.ensures,
      ← c.in_ok-part-in-Far.ensures.found,
      ← c.in_ok-part-in-Far.ensures.kept,
      ← c.as_slice-in-Far.ensures.value,
      ← c.first_in_term-distance.ensures,
    ) c.earlier.ensures

pub first_among-loop-formula-preserved : goal.first_among-loop-formula-preserved
first_among-loop-formula-preserved g t c = (
  c.in_ok-first_in.ensures.kept ∙ c.loop-formula.invariant.0,
  least_next (λ (f : FormulaTree). places_in (g.R.Rule.finding c.args.rule.now) f (variables_from c.args.around.now.items)) [] refl
      c.loop-formula.formula-index c.formula-item.result c.loop-formula-test.true c.formula-item.is c.loop-formula.invariant.1
      (rw (← c.loop-formula.invariant.0) c.in_ok-first_in.ensures.found) c.earlier-first.ensures,
)

pub first_under-returns-clause-found : goal.first_under-returns-clause-found
first_under-returns-clause-found g t c =
    let rule : Finding = g.R.Rule.finding c.args.rule.now in
    let e : List Variable = variables_from c.args.around.now.items in
    let x : Variable = record { name = c.args.binder.variable.now.name; domain = c.args.binder.domain.now } in
    let grown : c.in_ok-inside.inside ≡ least (places_in rule c.args.body.now (e ++ x ∷ [])) =
    rw (c.in_ok-push.ensures.items, map-append) at c.in_ok-inside.ensures.found in
    least_both (rule.variable e c.args.binder.variable.now c.args.binder.domain.now) (places_in rule c.args.body.now (e ++ x ∷ []))
    (rw (← c.as_slice.ensures.value) c.variable-own.ensures) grown c.earlier.ensures
