-- The answer to the goal of `first_out_of_range`.
use Rattle.std.proofs.Common.{ap, ◌∙◌}
use Rattle.std.specs.List.{flat_map}
use Rattle.trio_syntax.specs.declared.tree.SpecTree.{SpecTree}
use Rattle.trio_syntax.specs.declared.tree.ClaimTree.{ClaimTree}
use Rattle.trio_scope.specs.Places.{least}
use Rattle.trio_scope.specs.Gather.{places_in_claims}
use Rattle.trio_scope.proofs.Least.{least_both}
use Rattle.trio_reader.specs.Ranges.{instants_places, statement_places, at_places, range_finding, out_of_range}
use Rattle.trio_reader.proofs.ranges.first_out_of_range.Goals as goal

pub returns : goal.returns
unfolding out_of_range
returns c =
    let tree : SpecTree = c.args.tree.now in
    least_both (instants_places tree.instants) _ c.first_in_instants-instants.ensures
    (least_both (flat_map statement_places tree.declarations) _
    (c.in_ok-statements.ensures ∙ ap (λ ss. least (flat_map statement_places ss)) c.as_slice.ensures)
    (least_both (flat_map (λ (a : ClaimTree). at_places tree.instants.number a.at) tree.claims) (places_in_claims range_finding tree)
    (c.first_named-named.ensures ∙ ap (λ cs. least (flat_map (λ (a : ClaimTree). at_places tree.instants.number a.at) cs)) c.as_slice-2.ensures)
    c.in_ok-numbers.ensures c.earlier.ensures) c.earlier-2.ensures) c.earlier-3.ensures
