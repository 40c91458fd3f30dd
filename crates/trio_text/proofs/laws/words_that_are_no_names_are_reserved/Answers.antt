-- The answers to the goals of `words_that_are_no_names_are_reserved`.
use Rattle.trio_text.proofs.Spellings.{reserved_is_word, word_is_reserved}
use Rattle.trio_text.proofs.laws.words_that_are_no_names_are_reserved.Goals as goal

pub returns : goal.returns
returns c = λ word. (reserved_is_word word, word_is_reserved word)
