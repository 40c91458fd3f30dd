-- The answers to the goals of printing formulas.
use Rattle.std.proofs.Common.{List, ◌++◌, map, sym, ap, ap₂, ◌∙◌}
use Rattle.std.proofs.lemmas.Result.{on_ok_weaker}
use Rattle.trio_text.specs.declared.token.Reserved.{Reserved}
use Rattle.trio_types.specs.declared.formula.Formula.{Formula}
use Rattle.trio_print.specs.Pieces.{Piece}
use Rattle.trio_text.specs.declared.token.Reserved.TheVariants as word
use Rattle.trio_text.specs.declared.token.Symbol.TheVariants as symbol
use Rattle.trio_syntax.specs.Words.{far_word, pair_word}
use Rattle.trio_print.specs.Canonical.{sign, word_, comma, spaced, joined_pieces, in_round, term_plain, text_of_formula, quantified_text}
use Rattle.trio_print.proofs.TextsAt.{text_of_formula-Lone, text_of_formula-Compare, text_of_formula-Not, text_of_formula-Implies, text_of_formula-Iff, text_of_formula-All, text_of_formula-Ex, text_of_formula-One, text_of_formula-Far, text_of_formula-Pair, plain-And, plain-Or}
use Rattle.trio_print.proofs.Combining.{told, told_ok, nothing, behind, joined_more, joined_whole, two_operands}
use Rattle.trio_print.proofs.printer.Printer.+formulas.Goals as goal

pub formula-returns-in-Lone : goal.formula-returns-in-Lone
formula-returns-in-Lone t c =
    rw c.in-Lone.is (told_ok c.term.result c.args.self.now c.term.new.self (λ parts names. ap (λ t. t.plain names) (sym (text_of_formula-Lone parts c.in-Lone.term))) c.term.ensures)

pub formula-returns-in-Compare : goal.formula-returns-in-Compare
formula-returns-in-Compare t c =
    rw c.in-Compare.is (told_ok c.comparison.result c.args.self.now c.comparison.new.self
    (λ parts names. ap (λ t. t.plain names) (sym (text_of_formula-Compare parts c.in-Compare.rel c.in-Compare.left c.in-Compare.right))) c.comparison.ensures)

pub formula-returns-in-Not : goal.formula-returns-in-Not
formula-returns-in-Not t c =
    rw c.in-Not.is (told_ok c.negation.result c.args.self.now c.negation.new.self
    (λ parts names. ap (λ f. sign symbol.Not ++ (text_of_formula parts f).grouped names) c.get.ensures
    ∙ ap (λ t. t.plain names) (sym (text_of_formula-Not parts c.in-Not.part))) c.negation.ensures)

pub formula-returns-in-And : goal.formula-returns-in-And
formula-returns-in-And t c =
    rw c.in-And.is (told_ok c.groups.result c.args.self.now c.groups.new.self
    (λ parts names. ap (λ fs. joined_pieces (spaced symbol.And) (map (λ f. (text_of_formula parts f).grouped names) fs)) c.as_slice.ensures
    ∙ sym (plain-And parts c.in-And.parts names)) c.groups.ensures)

pub formula-returns-in-Or : goal.formula-returns-in-Or
formula-returns-in-Or t c =
    rw c.in-Or.is (told_ok c.groups-in-Or.result c.args.self.now c.groups-in-Or.new.self
    (λ parts names. ap (λ fs. joined_pieces (spaced symbol.Or) (map (λ f. (text_of_formula parts f).grouped names) fs)) c.as_slice-in-Or.ensures
    ∙ sym (plain-Or parts c.in-Or.parts names)) c.groups-in-Or.ensures)

pub formula-returns-in_ok-spaced-in-Implies : goal.formula-returns-in_ok-spaced-in-Implies
formula-returns-in_ok-spaced-in-Implies t c =
    rw c.in-Implies.is (on_ok_weaker c.group-in-Implies.result (λ last. told
    (λ parts names. ap₂ (λ f g. (text_of_formula parts f).grouped names ++ spaced symbol.Arrow ++ (text_of_formula parts g).grouped names) c.get-in-Implies.ensures c.get-in-Implies-2.ensures
    ∙ ap (λ t. t.plain names) (sym (text_of_formula-Implies parts c.in-Implies.left c.in-Implies.right)))
    (behind (behind c.in_ok-group-in-Implies.ensures c.in_ok-spaced-in-Implies.ensures) last)) c.group-in-Implies.ensures)

pub formula-returns-in_ok-spaced-in-Iff : goal.formula-returns-in_ok-spaced-in-Iff
formula-returns-in_ok-spaced-in-Iff t c =
    rw c.in-Iff.is (on_ok_weaker c.group-in-Iff-2.result (λ last. told
    (λ parts names. ap₂ (λ f g. (text_of_formula parts f).grouped names ++ spaced symbol.Both ++ (text_of_formula parts g).grouped names) c.get-in-Iff.ensures c.get-in-Iff-2.ensures
    ∙ ap (λ t. t.plain names) (sym (text_of_formula-Iff parts c.in-Iff.left c.in-Iff.right)))
    (behind (behind c.in_ok-group-in-Iff.ensures c.in_ok-spaced-in-Iff.ensures) last)) c.group-in-Iff-2.ensures)

pub formula-returns-in-All : goal.formula-returns-in-All
formula-returns-in-All t c =
    rw c.in-All.is (told_ok c.quantified.result c.args.self.now c.quantified.new.self
    (λ parts names. ap (λ f. quantified_text parts word.All c.in-All.name c.in-All.domain (text_of_formula parts f) names) c.get-in-All.ensures
    ∙ ap (λ t. t.plain names) (sym (text_of_formula-All parts c.in-All.name c.in-All.domain c.in-All.body))) c.quantified.ensures)

pub formula-returns-in-Ex : goal.formula-returns-in-Ex
formula-returns-in-Ex t c =
    rw c.in-Ex.is (told_ok c.quantified-in-Ex.result c.args.self.now c.quantified-in-Ex.new.self
    (λ parts names. ap (λ f. quantified_text parts word.Ex c.in-Ex.name c.in-Ex.domain (text_of_formula parts f) names) c.get-in-Ex.ensures
    ∙ ap (λ t. t.plain names) (sym (text_of_formula-Ex parts c.in-Ex.name c.in-Ex.domain c.in-Ex.body))) c.quantified-in-Ex.ensures)

pub formula-returns-in-One : goal.formula-returns-in-One
formula-returns-in-One t c =
    rw c.in-One.is (told_ok c.operator.result c.args.self.now c.operator.new.self
    (λ parts names. ap₂ (λ w f. word_ w ++ in_round ((text_of_formula parts f).plain names)) c.one_word.ensures c.get-in-One.ensures
    ∙ ap (λ t. t.plain names) (sym (text_of_formula-One parts c.in-One.op c.in-One.part))) c.operator.ensures)

pub formula-returns-in-Far : goal.formula-returns-in-Far
formula-returns-in-Far t c =
    rw c.in-Far.is (told_ok c.distant.result c.args.self.now c.distant.new.self
    (λ parts names. ap (λ f. word_ (far_word c.in-Far.op) ++ in_round ((text_of_formula parts f).plain names ++ comma ++ term_plain parts c.in-Far.distance names)) c.get-in-Far.ensures
    ∙ ap (λ t. t.plain names) (sym (text_of_formula-Far parts c.in-Far.op c.in-Far.part c.in-Far.distance))) c.distant.ensures)

pub formula-returns-in_ok-comma-in-Pair : goal.formula-returns-in_ok-comma-in-Pair
formula-returns-in_ok-comma-in-Pair t c =
    let first = c.get-in-Pair.result.now in
    let second = c.get-in-Pair-2.result.now in
    rw c.in-Pair.is (on_ok_weaker c.closed.result (λ last. told
    (λ parts names. let whole : Reserved → Formula → Formula → List Piece = λ w f g. word_ w ++ in_round ((text_of_formula parts f).plain names ++ comma ++ (text_of_formula parts g).plain names) in
    two_operands (word_ c.pair_word.result) (sign symbol.LeftRound) ((text_of_formula parts first).plain names) comma ((text_of_formula parts second).plain names) (sign symbol.RightRound)
    ∙ ap (λ w. whole w first second) c.pair_word.ensures ∙ ap₂ (whole (pair_word c.in-Pair.op)) c.get-in-Pair.ensures c.get-in-Pair-2.ensures
    ∙ ap (λ t. t.plain names) (sym (text_of_formula-Pair parts c.in-Pair.op c.in-Pair.first c.in-Pair.second)))
    (behind (behind c.in_ok-opened-in-Pair.ensures c.in_ok-comma-in-Pair.ensures) last)) c.closed.ensures)

pub groups-loop-place-init : goal.groups-loop-place-init
groups-loop-place-init t c = nothing c.args.self.now

pub groups-loop-place-preserved : goal.groups-loop-place-preserved
groups-loop-place-preserved t c =
    joined_more (spaced c.args.symbol) (λ parts names f. (text_of_formula parts f).grouped names) c.args.formulas.now c.loop-place.place c.index-formulas-place.result
    c.loop-place-test.true c.index-formulas-place.is c.loop-place.invariant c.in_ok-spaced_before.ensures c.in_ok-group.ensures

pub groups-returns : goal.groups-returns
groups-returns t c =
    joined_whole (spaced c.args.symbol) (λ parts names f. (text_of_formula parts f).grouped names) c.args.formulas.now c.loop-place.place c.loop-place-test.false
    c.loop-place.invariant
