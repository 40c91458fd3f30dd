-- each token stands at its bytes and is spelled by them
use Rattle.std.proofs.Common.{sym, subst, le_of_lt}
use Rattle.trio_text.specs.Spelling.{Spells}
use Rattle.trio_text.specs.Tokens.{IsTokens}
use Rattle.trio_text.proofs.Spans.{stands}
use Rattle.trio_text.proofs.lexeme.lexemes.Goals as goal

pub spelling-requires-clause-some : goal.spelling-requires-clause-some
spelling-requires-clause-some c =
    le_of_lt (stands c.args.text.now _ (subst (IsTokens c.args.text.now) (sym c.as_slice-token-items.ensures) c.requires) c.loop-token.token-index _ c.loop-token-test.true).some

pub spelling-requires-clause-within : goal.spelling-requires-clause-within
spelling-requires-clause-within c =
    (stands c.args.text.now _ (subst (IsTokens c.args.text.now) (sym c.as_slice-token-items.ensures) c.requires) c.loop-token.token-index _ c.loop-token-test.true).within

pub meaning-requires : goal.meaning-requires
meaning-requires c =
    subst (Spells _) (sym c.spelling.ensures)
    (stands c.args.text.now _ (subst (IsTokens c.args.text.now) (sym c.as_slice-token-items.ensures) c.requires) c.loop-token.token-index _ c.loop-token-test.true).spells
