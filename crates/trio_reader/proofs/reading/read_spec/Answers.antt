-- The answers to the goals of `read_spec`.
use Rattle.std.proofs.Common.{ap, ◌∙◌}
use Rattle.trio_syntax.specs.Shape.{is_formed}
use Rattle.trio_reader.proofs.Texts.{text_formed}
use Rattle.trio_reader.proofs.reading.read_spec.Goals as goal

pub spec_of-requires : goal.spec_of-requires
spec_of-requires c = ap is_formed c.in_ok-scope.ensures ∙ text_formed c.args.text.now _ c.in_ok-tree.ensures
