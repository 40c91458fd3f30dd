-- The answers to the goals of the erasure of formulas.
use Rattle.std.proofs.Common.{refl}
use Rattle.trio_reader.proofs.Erased.{formula-Lone, formula-Compare, formula-Not, formula-And, formula-Or, formula-Implies, formula-Iff, formula-Quantified, formula-One, formula-Far, formula-Pair}
use Rattle.trio_reader.proofs.building.+building.Goals as goal

pub formula_of-returns-in-Lone-clause-made : goal.formula_of-returns-in-Lone-clause-made
formula_of-returns-in-Lone-clause-made t c = rw (c.in-Lone.is, formula-Lone, ← c.as_slice.ensures.value) c.lone_of.ensures

pub formula_of-returns-in-Compare-clause-made : goal.formula_of-returns-in-Compare-clause-made
formula_of-returns-in-Compare-clause-made t c =
    rw (c.in-Compare.is, formula-Compare, ← c.as_slice-in-Compare.ensures.value) c.compared_of.ensures

pub formula_of-returns-in_ok-boxed_of-in-Not-clause-made : goal.formula_of-returns-in_ok-boxed_of-in-Not-clause-made
formula_of-returns-in_ok-boxed_of-in-Not-clause-made t c =
    rw (c.in-Not.is, formula-Not, c.in_ok-boxed_of-in-Not.ensures.made, c.get.ensures) refl

pub formula_of-returns-in_ok-formulas_of-in-And-clause-made : goal.formula_of-returns-in_ok-formulas_of-in-And-clause-made
formula_of-returns-in_ok-formulas_of-in-And-clause-made t c =
    rw (c.in-And.is, formula-And, c.in_ok-formulas_of-in-And.ensures.made, c.as_slice-in-And.ensures) refl

pub formula_of-returns-in_ok-formulas_of-in-Or-clause-made : goal.formula_of-returns-in_ok-formulas_of-in-Or-clause-made
formula_of-returns-in_ok-formulas_of-in-Or-clause-made t c =
    rw (c.in-Or.is, formula-Or, c.in_ok-formulas_of-in-Or.ensures.made, c.as_slice-in-Or.ensures) refl

pub formula_of-returns-in-Quantified-clause-made : goal.formula_of-returns-in-Quantified-clause-made
formula_of-returns-in-Quantified-clause-made t c =
    rw (c.in-Quantified.is, formula-Quantified, ← c.get-in-Quantified.ensures) c.quantified_of.ensures.made

pub formula_of-returns-in_ok-boxed_of-in-One-clause-made : goal.formula_of-returns-in_ok-boxed_of-in-One-clause-made
formula_of-returns-in_ok-boxed_of-in-One-clause-made t c =
    rw (c.in-One.is, formula-One, c.in_ok-boxed_of-in-One.ensures.made, c.get-in-One.ensures) refl

pub formula_of-returns-in_ok-distance-in-Far-clause-made : goal.formula_of-returns-in_ok-distance-in-Far-clause-made
formula_of-returns-in_ok-distance-in-Far-clause-made t c =
    rw (
      c.in-Far.is,
      formula-Far,
      c.in_ok-distance-in-Far.ensures,
      c.as_slice-in-Far.ensures.value,
      c.in_ok-part-in-Far.ensures.kept,
      c.in_ok-part-in-Far.ensures.made,
      c.get-in-Far.ensures,
    ) refl

pub formula_of-returns-in_ok-left-in-Implies-2-clause-made : goal.formula_of-returns-in_ok-left-in-Implies-2-clause-made
formula_of-returns-in_ok-left-in-Implies-2-clause-made t c =
    rw (
      c.in-Implies.is,
      formula-Implies,
      c.in_ok-left-in-Implies-2.ensures.first,
      c.in_ok-left-in-Implies-2.ensures.made,
      c.in_ok-left-in-Implies.ensures.kept,
      c.in_ok-left-in-Implies.ensures.made,
      c.get-in-Implies.ensures,
      c.get-in-Implies-2.ensures,
    ) refl

pub formula_of-returns-in_ok-left-in-Iff-2-clause-made : goal.formula_of-returns-in_ok-left-in-Iff-2-clause-made
formula_of-returns-in_ok-left-in-Iff-2-clause-made t c =
    rw (
      c.in-Iff.is,
      formula-Iff,
      c.in_ok-left-in-Iff-2.ensures.first,
      c.in_ok-left-in-Iff-2.ensures.made,
      c.in_ok-left-in-Iff.ensures.kept,
      c.in_ok-left-in-Iff.ensures.made,
      c.get-in-Iff.ensures,
      c.get-in-Iff-2.ensures,
    ) refl

pub formula_of-returns-in_ok-left-in-Pair-2-clause-made : goal.formula_of-returns-in_ok-left-in-Pair-2-clause-made
formula_of-returns-in_ok-left-in-Pair-2-clause-made t c =
    rw (
      c.in-Pair.is,
      formula-Pair,
      c.in_ok-left-in-Pair-2.ensures.first,
      c.in_ok-left-in-Pair-2.ensures.made,
      c.in_ok-left-in-Pair.ensures.kept,
      c.in_ok-left-in-Pair.ensures.made,
      c.get-in-Pair.ensures,
      c.get-in-Pair-2.ensures,
    ) refl
