-- a name is ASCII
use Rattle.trio_text.proofs.Ascii.{name_text}
use Rattle.trio_text.proofs.lexeme.name.Goals as goal

pub unwrap-requires : goal.unwrap-requires
unwrap-requires c = name_text _ _ c.args.word.now c.requires c.from_utf8.result c.from_utf8.ensures.cases
