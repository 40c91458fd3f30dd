-- The answers to the goals of `root_truth`.
use Rattle.std.proofs.Common.{◌≡◌, ℕ, ◌+◌, ◌<◌, [], Some, length, drop, slice_get, sym, ap, ◌∙◌, arith}
use Rattle.std.proofs.lemmas.List.FromFn.{length-range_with_len}
use Rattle.trio_types.specs.World.{World, instants_of}
use Rattle.trio_types.specs.Verdict.{instants_asked}
use Rattle.trio_types.proofs.CellNumbers.{range_at}
use Rattle.trio_core.specs.declared.nodes.Three.{Three}
use Rattle.trio_core.specs.Three.{and3, all3, core_truth3}
use Rattle.trio_core.specs.Stands.{world_of_core}
use Rattle.trio_core.proofs.Evaluating.{all_more, all_end, all_found}
use Rattle.trio_core.proofs.truth.root_truth.Goals as goal

instant_at : (w : World) (k : ℕ) → k < w.instants → slice_get (instants_of w) k ≡ Some k
unfolding instants_of
instant_at w k inside = let e : 0 + k ≡ k = omega arith in range_at 0 w.instants k inside ∙ ap Some e

instants_long : (w : World) → length (instants_of w) ≡ w.instants
unfolding instants_of
instants_long w = length-range_with_len 0 w.instants

pub returns-in-False : goal.returns-in-False
returns-in-False c =
    let core = c.args.core.now in
    let w = world_of_core core in
    let f : ℕ → Three = λ i. core_truth3 w core.nodes c.args.root.node 0 [] c.args.doms.now i in
    let k = c.loop-instant.instant in
    let more = all_more f (instants_of w) k k c.loop-instant.found c.both-found.result (all3 f (instants_of w)) (instant_at w k c.loop-instant-test.true)
    (c.both-found.ensures ∙ ap (and3 c.loop-instant.found) (c.node_truth-in-loop-instant.ensures ∙ ap (λ sets. core_truth3 w core.nodes c.args.root.node 0 [] sets k) c.as_slice.ensures)) c.loop-instant.invariant in
    all_found c.both-found.result (all3 f (drop (k + 1) (instants_of w))) (all3 f (instants_of w)) c.in-False.is more ∙ ap (λ at. all3 f (instants_asked w at)) (sym c.in_default.is)

pub loop-instant-preserved : goal.loop-instant-preserved
loop-instant-preserved c =
    let core = c.args.core.now in
    let w = world_of_core core in
    let f : ℕ → Three = λ i. core_truth3 w core.nodes c.args.root.node 0 [] c.args.doms.now i in
    let k = c.loop-instant.instant in
    all_more f (instants_of w) k k c.loop-instant.found c.both-found.result (all3 f (instants_of w)) (instant_at w k c.loop-instant-test.true)
    (c.both-found.ensures ∙ ap (and3 c.loop-instant.found) (c.node_truth-in-loop-instant.ensures ∙ ap (λ sets. core_truth3 w core.nodes c.args.root.node 0 [] sets k) c.as_slice.ensures)) c.loop-instant.invariant

pub returns : goal.returns
returns c =
    let core = c.args.core.now in
    let w = world_of_core core in
    let f : ℕ → Three = λ i. core_truth3 w core.nodes c.args.root.node 0 [] c.args.doms.now i in
    let k = c.loop-instant.instant in
    all_end f (instants_of w) k c.loop-instant.found (all3 f (instants_of w)) (omega (arith, instants_long w, c.loop-instant-test.false)) c.loop-instant.invariant ∙ ap (λ at. all3 f (instants_asked w at)) (sym c.in_default.is)
