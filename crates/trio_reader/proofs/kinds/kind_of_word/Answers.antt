-- The answers to the goals of `kind_of_word`.
use Rattle.std.proofs.Common.{ap, slice_get, nat_lt, if◌then◌else◌, ◌∙◌}
use Rattle.trio_reader.specs.declared.kind.TermKind.TheVariants as kind
use Rattle.trio_reader.specs.TermKinds.{seen}
use Rattle.trio_reader.specs.Erasure.{world_of_tree}
use Rattle.trio_reader.proofs.KindLemmas.{constant-bool, constant-words}
use Rattle.trio_reader.proofs.kinds.kind_of_word.Goals as goal

pub returns-in-Bool : goal.returns-in-Bool
returns-in-Bool c =
    ap seen c.kind_below.ensures
    ∙ constant-bool (world_of_tree c.args.world.now.scope.now.tree.now) c.args.domain c.args.index c.in-Some.found.now
    (c.in-Some.ensures ∙ ap (λ ds. slice_get ds c.args.domain) (c.as_slice.ensures ∙ c.args.world.now.has_domains)) c.in-Bool.is

pub returns-in-Words : goal.returns-in-Words
returns-in-Words c =
    ap seen (c.kind_below-in-Words.ensures ∙ ap (λ n. if nat_lt c.args.index n then kind.Word c.args.domain else kind.Unkinded) c.len.ensures)
    ∙ constant-words (world_of_tree c.args.world.now.scope.now.tree.now) c.args.domain c.args.index c.in-Some.found.now c.in-Words.words
    (c.in-Some.ensures ∙ ap (λ ds. slice_get ds c.args.domain) (c.as_slice.ensures ∙ c.args.world.now.has_domains)) c.in-Words.is
