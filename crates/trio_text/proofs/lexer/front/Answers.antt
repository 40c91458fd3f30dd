-- a word, a number or a symbol stands at the front, or none of them
use Rattle.std.proofs.Common.{true, false, sym, ap, ◌∙◌, length}
use Rattle.trio_text.specs.Spelling.{is_letter, is_digit}
use Rattle.trio_text.proofs.Longest.{word_front, front_word, front_number, front_symbol, begins_at, begins_none, no_token, no_token_empty}
use Rattle.trio_text.proofs.lexer.front.Goals as goal

pub word_kind-requires : goal.word_kind-requires
word_kind-requires c =
    word_front c.args.text.now _ c.name_length-count.ensures (begins_at is_letter _ _ true c.in_ok-first.ensures.value c.if-is_letter.ensures)

pub returns-then-is_letter : goal.returns-then-is_letter
returns-then-is_letter c =
    front_word c.args.text.now _ _ c.name_length-count.ensures (begins_at is_letter _ _ true c.in_ok-first.ensures.value c.if-is_letter.ensures) c.word_kind.ensures

pub returns-then-is_digit : goal.returns-then-is_digit
returns-then-is_digit c =
    front_number c.args.text.now _ c.number_length.ensures (begins_at is_digit _ _ true c.in_ok-first.ensures.value c.if-is_digit.ensures)

pub returns : goal.returns
returns c = front_symbol c.args.text.now c.in_ok-sign.sign _ (sym c.symbol.ensures ∙ c.in_ok-sign.was) (ap length c.text.ensures)

pub returns-in_err-first : goal.returns-in_err-first
returns-in_err-first c = rw c.from_residual.ensures (no_token_empty c.args.text.now (begins_none _ c.in_err-first.ensures.value))

pub returns-in_err-sign : goal.returns-in_err-sign
returns-in_err-sign c =
    rw c.from_residual-in_err-sign.ensures
    (no_token c.args.text.now (begins_at is_letter _ _ false c.in_ok-first.ensures.value c.if-is_letter.ensures)
    (begins_at is_digit _ _ false c.in_ok-first.ensures.value c.if-is_digit.ensures) (sym c.symbol.ensures ∙ c.in_err-sign.was))
