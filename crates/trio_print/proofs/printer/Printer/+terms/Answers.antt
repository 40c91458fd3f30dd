-- The answers to the goals of printing terms.
use Rattle.std.proofs.Common.{◌++◌, map, refl, sym, ap, ap₂, ◌∙◌}
use Rattle.trio_text.specs.declared.token.Symbol.TheVariants as symbol
use Rattle.trio_types.specs.Verdict.{parts_of}
use Rattle.trio_print.specs.Canonical.{number_, name_, spaced, listed_pieces, comma, sum_text, term_plain, text_of_term}
use Rattle.trio_print.specs.Printing.{text_of_part, names_in}
use Rattle.trio_print.proofs.TextsAt.{text_of_term-Number, text_of_term-Value, text_of_term-Var, text_of_term-Sum, text_of_term-Times, plain-Read}
use Rattle.trio_print.proofs.Combining.{told, told_ok, told_here, nothing, behind, joined_more, joined_whole, sum_more, sum_whole}
use Rattle.trio_print.proofs.printer.Printer.+terms.Goals as goal

pub term-returns-in-Number : goal.term-returns-in-Number
term-returns-in-Number t c =
    rw c.in-Number.is (told_ok c.number.result c.args.self.now c.number.new.self (λ parts names. ap (λ t. t.plain names) (sym (text_of_term-Number parts c.in-Number.number))) c.number.ensures)

pub term-returns-in-Value : goal.term-returns-in-Value
term-returns-in-Value t c =
    rw c.in-Value.is (told_ok c.constant.result c.args.self.now c.constant.new.self (λ parts names. ap (λ t. t.plain names) (sym (text_of_term-Value parts c.in-Value.domain c.in-Value.index))) c.constant.ensures)

pub term-returns-in-Var : goal.term-returns-in-Var
term-returns-in-Var t c =
    rw c.in-Var.is (told_ok c.variable.result c.args.self.now c.variable.new.self (λ parts names. ap (λ t. t.plain names) (sym (text_of_term-Var parts c.in-Var.level))) c.variable.ensures)

pub term-returns-in_ok-arguments-in-Read : goal.term-returns-in_ok-arguments-in-Read
term-returns-in_ok-arguments-in-Read t c =
    let parts = parts_of c.args.self.now.spec.now in
    let names = names_in c.args.self.now in
    rw c.in-Read.is (told_here (ap₂ (λ n xs. name_ n ++ listed_pieces (map (λ x. term_plain parts x names) xs)) c.item_name.ensures c.as_slice.ensures
    ∙ sym (plain-Read parts c.in-Read.item c.in-Read.arguments names)) (behind c.in_ok-name-in-Read.ensures c.in_ok-arguments-in-Read.ensures))

pub term-returns-in-Sum : goal.term-returns-in-Sum
term-returns-in-Sum t c =
    rw c.in-Sum.is (told_ok c.sum.result c.args.self.now c.sum.new.self (λ parts names. ap (λ ps. sum_text (map (text_of_part parts) ps) names) c.as_slice-in-Sum.ensures
    ∙ ap (λ t. t.plain names) (sym (text_of_term-Sum parts c.in-Sum.parts))) c.sum.ensures)

pub term-returns-in_ok-factor-in-Times : goal.term-returns-in_ok-factor-in-Times
term-returns-in_ok-factor-in-Times t c =
    rw c.in-Times.is (told (λ parts names. ap (λ x. number_ c.in-Times.number ++ spaced symbol.Times ++ (text_of_term parts x).as_factor names) c.get.ensures
    ∙ ap (λ t. t.plain names) (sym (text_of_term-Times parts c.in-Times.number c.in-Times.factor)))
    (behind (behind c.in_ok-number-in-Times.ensures c.in_ok-spaced-in-Times.ensures) c.in_ok-factor-in-Times.ensures))

pub terms-loop-place-init : goal.terms-loop-place-init
terms-loop-place-init t c = nothing c.args.self.now

pub terms-loop-place-preserved : goal.terms-loop-place-preserved
terms-loop-place-preserved t c =
    joined_more comma (λ parts names x. term_plain parts x names) c.args.terms.now c.loop-place.place c.index-terms-place.result c.loop-place-test.true c.index-terms-place.is
    c.loop-place.invariant c.in_ok-comma_before.ensures c.in_ok-term.ensures

pub terms-returns : goal.terms-returns
terms-returns t c =
    joined_whole comma (λ parts names x. term_plain parts x names) c.args.terms.now c.loop-place.place c.loop-place-test.false c.loop-place.invariant

pub sum-loop-place-init : goal.sum-loop-place-init
sum-loop-place-init t c = nothing c.args.self.now

pub sum-loop-place-preserved : goal.sum-loop-place-preserved
sum-loop-place-preserved t c =
    sum_more text_of_part c.args.parts.now c.loop-place.place c.index-parts-place.result _ c.loop-place-test.true c.index-parts-place.is (λ parts. refl)
    c.loop-place.invariant c.in_ok-part_sign.ensures c.in_ok-part.ensures

pub sum-returns : goal.sum-returns
sum-returns t c = sum_whole text_of_part c.args.parts.now c.loop-place.place c.loop-place-test.false c.loop-place.invariant
