-- the word that was found spells so, and a word that is not reserved is a name
use Rattle.std.proofs.Common.{sym, ◌∙◌}
use Rattle.trio_text.proofs.Spellings.{reserved_spells, word_name}
use Rattle.trio_text.proofs.lexer.word_kind.Goals as goal

pub returns-in-Some : goal.returns-in-Some
returns-in-Some c = reserved_spells c.args.word.now c.in-Some.found (sym c.reserved.ensures ∙ c.in-Some.is)

pub returns-in-None : goal.returns-in-None
returns-in-None c = word_name c.args.word.now c.requires (sym c.reserved.ensures ∙ c.in-None.is)
