-- At each form: whether its text there is in brackets.
use Rattle.std.proofs.Common.{◌≡◌, refl, sym, subst}
use Rattle.trio_print.specs.Canonical.{TermText, in_square}
use Rattle.trio_print.proofs.TextsAt.{text_of_term-Number, text_of_term-Value, text_of_term-Var, text_of_term-Read, text_of_term-Sum, text_of_term-Times}
use Rattle.trio_print.proofs.terms.is_sum.Goals as goal

pub returns-in-Number : goal.returns-in-Number
returns-in-Number c = λ parts names.
    let P : TermText → Type 0 = λ t. t.as_part names ≡ t.plain names in
    rw c.in-Number.is (subst P (sym (text_of_term-Number parts c.in-Number.field-0)) refl)

pub returns-in-Value : goal.returns-in-Value
returns-in-Value c = λ parts names.
    let P : TermText → Type 0 = λ t. t.as_part names ≡ t.plain names in
    rw c.in-Value.is (subst P (sym (text_of_term-Value parts c.in-Value.field-0 c.in-Value.field-1)) refl)

pub returns-in-Var : goal.returns-in-Var
returns-in-Var c = λ parts names.
    let P : TermText → Type 0 = λ t. t.as_part names ≡ t.plain names in
    rw c.in-Var.is (subst P (sym (text_of_term-Var parts c.in-Var.field-0)) refl)

pub returns-in-Read : goal.returns-in-Read
returns-in-Read c = λ parts names.
    let P : TermText → Type 0 = λ t. t.as_part names ≡ t.plain names in
    rw c.in-Read.is (subst P (sym (text_of_term-Read parts c.in-Read.field-0 c.in-Read.field-1)) refl)

pub returns-in-Sum : goal.returns-in-Sum
returns-in-Sum c = λ parts names.
    let P : TermText → Type 0 = λ t. t.as_part names ≡ in_square (t.plain names) in
    rw c.in-Sum.is (subst P (sym (text_of_term-Sum parts c.in-Sum.field-0)) refl)

pub returns-in-Times : goal.returns-in-Times
returns-in-Times c = λ parts names.
    let P : TermText → Type 0 = λ t. t.as_part names ≡ t.plain names in
    rw c.in-Times.is (subst P (sym (text_of_term-Times parts c.in-Times.field-0 c.in-Times.field-1)) refl)
