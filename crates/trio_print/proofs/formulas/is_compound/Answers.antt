-- At each form: whether its text there is in brackets.
use Rattle.std.proofs.Common.{◌≡◌, refl, sym, subst}
use Rattle.trio_print.specs.Canonical.{FormulaText, in_round}
use Rattle.trio_print.proofs.TextsAt.{text_of_formula-Lone, text_of_formula-Compare, text_of_formula-Not, text_of_formula-And, text_of_formula-Or, text_of_formula-Implies, text_of_formula-Iff, text_of_formula-All, text_of_formula-Ex, text_of_formula-One, text_of_formula-Far, text_of_formula-Pair}
use Rattle.trio_print.proofs.formulas.is_compound.Goals as goal

pub returns-in-Lone : goal.returns-in-Lone
returns-in-Lone c = λ parts names.
    let P : FormulaText → Type 0 = λ t. t.grouped names ≡ t.plain names in
    rw c.in-Lone.is (subst P (sym (text_of_formula-Lone parts c.in-Lone.field-0)) refl)

pub returns-in-Compare : goal.returns-in-Compare
returns-in-Compare c = λ parts names.
    let P : FormulaText → Type 0 = λ t. t.grouped names ≡ in_round (t.plain names) in
    rw c.in-Compare.is (subst P (sym (text_of_formula-Compare parts c.in-Compare.field-0 c.in-Compare.field-1 c.in-Compare.field-2)) refl)

pub returns-in-Not : goal.returns-in-Not
returns-in-Not c = λ parts names.
    let P : FormulaText → Type 0 = λ t. t.grouped names ≡ in_round (t.plain names) in
    rw c.in-Not.is (subst P (sym (text_of_formula-Not parts c.in-Not.field-0)) refl)

pub returns-in-And : goal.returns-in-And
returns-in-And c = λ parts names.
    let P : FormulaText → Type 0 = λ t. t.grouped names ≡ in_round (t.plain names) in
    rw c.in-And.is (subst P (sym (text_of_formula-And parts c.in-And.field-0)) refl)

pub returns-in-Or : goal.returns-in-Or
returns-in-Or c = λ parts names.
    let P : FormulaText → Type 0 = λ t. t.grouped names ≡ in_round (t.plain names) in
    rw c.in-Or.is (subst P (sym (text_of_formula-Or parts c.in-Or.field-0)) refl)

pub returns-in-Implies : goal.returns-in-Implies
returns-in-Implies c = λ parts names.
    let P : FormulaText → Type 0 = λ t. t.grouped names ≡ in_round (t.plain names) in
    rw c.in-Implies.is (subst P (sym (text_of_formula-Implies parts c.in-Implies.field-0 c.in-Implies.field-1)) refl)

pub returns-in-Iff : goal.returns-in-Iff
returns-in-Iff c = λ parts names.
    let P : FormulaText → Type 0 = λ t. t.grouped names ≡ in_round (t.plain names) in
    rw c.in-Iff.is (subst P (sym (text_of_formula-Iff parts c.in-Iff.field-0 c.in-Iff.field-1)) refl)

pub returns-in-All : goal.returns-in-All
returns-in-All c = λ parts names.
    let P : FormulaText → Type 0 = λ t. t.grouped names ≡ t.plain names in
    rw c.in-All.is (subst P (sym (text_of_formula-All parts c.in-All.field-0 c.in-All.field-1 c.in-All.field-2)) refl)

pub returns-in-Ex : goal.returns-in-Ex
returns-in-Ex c = λ parts names.
    let P : FormulaText → Type 0 = λ t. t.grouped names ≡ t.plain names in
    rw c.in-Ex.is (subst P (sym (text_of_formula-Ex parts c.in-Ex.field-0 c.in-Ex.field-1 c.in-Ex.field-2)) refl)

pub returns-in-One : goal.returns-in-One
returns-in-One c = λ parts names.
    let P : FormulaText → Type 0 = λ t. t.grouped names ≡ t.plain names in
    rw c.in-One.is (subst P (sym (text_of_formula-One parts c.in-One.field-0 c.in-One.field-1)) refl)

pub returns-in-Far : goal.returns-in-Far
returns-in-Far c = λ parts names.
    let P : FormulaText → Type 0 = λ t. t.grouped names ≡ t.plain names in
    rw c.in-Far.is (subst P (sym (text_of_formula-Far parts c.in-Far.field-0 c.in-Far.field-1 c.in-Far.field-2)) refl)

pub returns-in-Pair : goal.returns-in-Pair
returns-in-Pair c = λ parts names.
    let P : FormulaText → Type 0 = λ t. t.grouped names ≡ t.plain names in
    rw c.in-Pair.is (subst P (sym (text_of_formula-Pair parts c.in-Pair.field-0 c.in-Pair.field-1 c.in-Pair.field-2)) refl)
