-- The core of a specification: its nodes, its type's fact, and what it stands for.
use Rattle.std.proofs.Common.{◌≡◌, ◌<◌, length, take, get_or, refl, ap, ◌∙◌, arith}
use Rattle.std.proofs.lemmas.List.{take_all}
use Rattle.trio_types.specs.Verdict.{world_of}
use Rattle.derived_ops.specs.Rewritten.{nodes_of_axioms, roots_of_axioms}
use Rattle.derived_ops.proofs.Making.{step_nodes, step_roots, core_is, stands}
use Rattle.derived_ops.proofs.cores.rewrite.Goals as goal

pub loop-claim-preserved : goal.loop-claim-preserved
loop-claim-preserved c =
    let w = world_of c.args.spec.now in
    let axioms = c.args.spec.now.axioms in
    let i = c.loop-claim.claim-index in
    let a = c.claim-item.result in
    let so_far = c.loop-claim.invariant in
    let inside : i < length axioms = omega (arith, ap length c.as_slice-claim-items.ensures, c.loop-claim-test.true) in
    let is : a ≡ get_or axioms i a = c.claim-item.is ∙ ap (λ xs. get_or xs i a) c.as_slice-claim-items.ensures in
    record {
      nodes = step_nodes w axioms i a c.loop-claim.writer c.formula.new.self c.in_ok-node.node inside is so_far.nodes so_far.levels c.in_ok-node.ensures;
      roots = c.in_ok-push.ensures.items
          ∙ step_roots w axioms i a c.loop-claim.writer c.formula.new.self c.in_ok-node.node c.loop-claim.roots.items inside is so_far.nodes so_far.levels c.in_ok-node.ensures so_far.roots;
      levels = c.in_ok-node.ensures.levels ∙ so_far.levels;
    }

pub invariant_of-result : goal.invariant_of-result
invariant_of-result c =
    let w = world_of c.args.spec.now in
    let axioms = c.args.spec.now.axioms in
    let all : take c.loop-claim.claim-index axioms ≡ axioms = take_all c.loop-claim.claim-index axioms (omega (arith, ap length c.as_slice-claim-items.ensures)) in
    record {
      shaped = core_is c.args.spec.now c.in_ok-domains.domains c.in_ok-items.items c.from_vec.result c.from_vec-2.result
          (c.in_ok-domains.ensures ∙ c.as_slice.ensures) (c.in_ok-items.ensures ∙ c.as_slice-2.ensures)
          (c.from_vec.ensures ∙ c.loop-claim.invariant.nodes ∙ ap (nodes_of_axioms w 0) all)
          (c.from_vec-2.ensures ∙ c.loop-claim.invariant.roots ∙ ap (roots_of_axioms w 0) all);
    }

pub returns-clause-stands : goal.returns-clause-stands
returns-clause-stands c =
    let w = world_of c.args.spec.now in
    let axioms = c.args.spec.now.axioms in
    let all : take c.loop-claim.claim-index axioms ≡ axioms = take_all c.loop-claim.claim-index axioms (omega (arith, ap length c.as_slice-claim-items.ensures)) in
    stands _ c.args.spec.now refl (c.in_ok-domains.ensures ∙ c.as_slice.ensures) (c.in_ok-items.ensures ∙ c.as_slice-2.ensures)
    (record {
      nodes = c.from_vec.ensures ∙ c.loop-claim.invariant.nodes ∙ ap (nodes_of_axioms w 0) all;
      roots = c.from_vec-2.ensures ∙ c.loop-claim.invariant.roots ∙ ap (roots_of_axioms w 0) all;
    })
