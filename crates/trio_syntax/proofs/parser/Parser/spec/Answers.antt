-- At each exit: the only specification, or where none goes on.
use Rattle.std.proofs.Common.{refl}
use Rattle.trio_text.specs.declared.token.Symbol.TheVariants as signs
use Rattle.trio_text.specs.declared.token.Reserved.TheVariants as words
use Rattle.trio_syntax.specs.Grammar.{a_sign, a_word, a_number, behind_sign, both, declaring, claims, spec}
use Rattle.trio_syntax.proofs.Left.{left_read, left_stuck, left_seq, seq_stuck}
use Rattle.trio_syntax.proofs.Filled.{fill}
use Rattle.trio_syntax.proofs.Exits.{passed_on}
use Rattle.trio_syntax.proofs.parser.Parser.spec.Goals as goal

pub returns-in_err-word : goal.returns-in_err-word
returns-in_err-word c =
    passed_on spec (a_word words.Time) _ _ _ _ _ c.from_residual.ensures.1 c.in_err-word.ensures
    (λ stuck. seq_stuck (fill (both a_number (behind_sign signs.Semi (both declaring claims)))) refl stuck)

pub returns-in_err-instants : goal.returns-in_err-instants
returns-in_err-instants c =
    passed_on spec a_number _ _ _ _ _ c.from_residual-in_err-instants.ensures.1 c.in_err-instants.ensures
    (λ stuck. left_stuck (left_seq refl c.in_ok-word.ensures) (seq_stuck (fill (behind_sign signs.Semi (both declaring claims))) refl stuck))

pub returns-in_err-sign : goal.returns-in_err-sign
returns-in_err-sign c =
    passed_on spec (a_sign signs.Semi) _ _ _ _ _ c.from_residual-in_err-sign.ensures.1 c.in_err-sign.ensures
    (λ stuck. left_stuck (left_seq refl c.in_ok-word.ensures) (left_stuck (left_seq refl c.in_ok-instants.ensures) (seq_stuck (fill (both declaring claims)) refl stuck)))

pub returns-in_err-declarations : goal.returns-in_err-declarations
returns-in_err-declarations c =
    passed_on spec declaring _ _ _ _ _ c.from_residual-in_err-declarations.ensures.1 c.in_err-declarations.ensures
    (λ stuck. left_stuck (left_seq refl c.in_ok-word.ensures) (left_stuck (left_seq refl c.in_ok-instants.ensures) (left_stuck (left_seq refl c.in_ok-sign.ensures) (seq_stuck (fill claims) refl stuck))))

pub returns-in_err-claims : goal.returns-in_err-claims
returns-in_err-claims c =
    passed_on spec claims _ _ _ _ _ c.from_residual-in_err-claims.ensures.1 c.in_err-claims.ensures
    (λ stuck. left_stuck (left_seq refl c.in_ok-word.ensures) (left_stuck (left_seq refl c.in_ok-instants.ensures) (left_stuck (left_seq refl c.in_ok-sign.ensures) (left_stuck (left_seq refl c.in_ok-declarations.ensures) (stuck)))))

pub returns : goal.returns
returns c =
    left_read (left_seq refl c.in_ok-word.ensures) (left_read (left_seq refl c.in_ok-instants.ensures) (left_read (left_seq refl c.in_ok-sign.ensures) (left_read (left_seq refl c.in_ok-declarations.ensures) (c.in_ok-claims.ensures))))
