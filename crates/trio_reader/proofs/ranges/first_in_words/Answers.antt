-- The answers to the goals of `first_in_words`.
use Rattle.std.proofs.Common.{sym, ap, ◌∙◌}
use Rattle.std.specs.Option.{option_map}
use Rattle.trio_syntax.specs.declared.tree.Mention.{Mention}
use Rattle.trio_reader.proofs.RangeLemmas.{least_word}
use Rattle.trio_reader.proofs.ranges.first_in_words.Goals as goal

pub returns-in-Some : goal.returns-in-Some
returns-in-Some c = ap (option_map (λ (w : Mention). w.place)) c.in-Some.ensures ∙ sym (least_word c.args.words.now)

pub returns-in-None : goal.returns-in-None
returns-in-None c = ap (option_map (λ (w : Mention). w.place)) c.in-None.ensures ∙ sym (least_word c.args.words.now)
