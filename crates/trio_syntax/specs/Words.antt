-- Which words and symbols stand for what: each operator, relation and choice is a line.
use Rattle.std.specs.Prelude.{Bool, true, false}
use Rattle.trio_base.specs.declared.operators.Rel.{Rel}
use Rattle.trio_base.specs.declared.operators.Rel.TheVariants as rel
use Rattle.trio_base.specs.declared.operators.Ends.TheVariants as ends
use Rattle.trio_base.specs.declared.operators.OneOp.{OneOp}
use Rattle.trio_base.specs.declared.operators.OneOp.TheVariants as one
use Rattle.trio_base.specs.declared.operators.FarOp.{FarOp}
use Rattle.trio_base.specs.declared.operators.FarOp.TheVariants as far
use Rattle.trio_base.specs.declared.operators.PairOp.{PairOp}
use Rattle.trio_base.specs.declared.operators.PairOp.TheVariants as pair
use Rattle.trio_text.specs.declared.token.Reserved.{Reserved}
use Rattle.trio_text.specs.declared.token.Reserved.TheVariants as word
use Rattle.trio_text.specs.declared.token.Symbol.{Symbol}
use Rattle.trio_text.specs.declared.token.Symbol.TheVariants as symbol
use Rattle.trio_syntax.specs.declared.tree.Quantifier.{Quantifier}
use Rattle.trio_syntax.specs.declared.tree.Quantifier.TheVariants as quantifier

abbrev pub rel_sign : Rel → Symbol
rel_sign rel.Eq = symbol.Eq
rel_sign rel.Ne = symbol.Ne
rel_sign rel.Lt = symbol.Lt
rel_sign rel.Le = symbol.Le
rel_sign rel.Gt = symbol.Gt
rel_sign rel.Ge = symbol.Ge

abbrev pub one_word : OneOp → Reserved
one_word one.Alw = word.Alw
one_word one.AlwF = word.AlwF
one_word one.AlwP = word.AlwP
one_word one.Som = word.Som
one_word one.SomF = word.SomF
one_word one.SomP = word.SomP

abbrev pub far_word : FarOp → Reserved
far_word far.Dist = word.Dist
far_word far.Futr = word.Futr
far_word far.Past = word.Past
far_word far.NextTime = word.NextTime
far_word far.LastTime = word.LastTime
far_word (far.Lasts ends.Bare) = word.Lasts
far_word (far.Lasts ends.Ii) = word.LastsIi
far_word (far.Lasts ends.Ie) = word.LastsIe
far_word (far.Lasts ends.Ei) = word.LastsEi
far_word (far.Lasted ends.Bare) = word.Lasted
far_word (far.Lasted ends.Ii) = word.LastedIi
far_word (far.Lasted ends.Ie) = word.LastedIe
far_word (far.Lasted ends.Ei) = word.LastedEi
far_word (far.WithinF ends.Bare) = word.WithinF
far_word (far.WithinF ends.Ii) = word.WithinFIi
far_word (far.WithinF ends.Ie) = word.WithinFIe
far_word (far.WithinF ends.Ei) = word.WithinFEi
far_word (far.WithinP ends.Bare) = word.WithinP
far_word (far.WithinP ends.Ii) = word.WithinPIi
far_word (far.WithinP ends.Ie) = word.WithinPIe
far_word (far.WithinP ends.Ei) = word.WithinPEi

abbrev pub pair_word : PairOp → Reserved
pair_word pair.Until = word.Until
pair_word pair.Since = word.Since

abbrev pub quantifier_word : Quantifier → Reserved
quantifier_word quantifier.All = word.All
quantifier_word quantifier.Ex = word.Ex

abbrev pub truth_word : Bool → Reserved
truth_word false = word.False
truth_word true = word.True

-- whether an item is an input
abbrev pub item_word : Bool → Reserved
item_word false = word.Item
item_word true = word.Input

-- whether a claim is a goal
abbrev pub claim_word : Bool → Reserved
claim_word false = word.Axiom
claim_word true = word.Goal

-- whether the arrow goes both ways
abbrev pub arrow_sign : Bool → Symbol
arrow_sign false = symbol.Arrow
arrow_sign true = symbol.Both

-- whether a part is taken off
abbrev pub adding_sign : Bool → Symbol
adding_sign false = symbol.Plus
adding_sign true = symbol.Minus
