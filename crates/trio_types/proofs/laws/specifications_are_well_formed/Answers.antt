-- The answers to the goals of `specifications_are_well_formed`.
use Rattle.trio_types.specs.Verdict.{parts_of}
use Rattle.trio_types.proofs.Specs.{formed}
use Rattle.trio_types.proofs.Formed.{in_words, formed_law}
use Rattle.trio_types.proofs.laws.specifications_are_well_formed.Goals as goal

pub returns-clause-words : goal.returns-clause-words
returns-clause-words c = in_words (parts_of c.args._spec.now) (formed c.args._spec.now)

pub returns-clause-only : goal.returns-clause-only
returns-clause-only c = formed_law
