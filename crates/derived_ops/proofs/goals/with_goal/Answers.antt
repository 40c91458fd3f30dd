-- The specification with a goal among its axioms: its type's fact, and its parts.
use Rattle.std.proofs.Common.{◌≡◌, true, subst, sym, ◌∙◌}
use Rattle.trio_types.specs.WellFormed.{is_well_formed}
use Rattle.trio_types.specs.Verdict.{parts_of}
use Rattle.trio_types.proofs.Specs.{formed}
use Rattle.derived_ops.proofs.GoalMoved.{goal_moved, moved_parts}
use Rattle.derived_ops.proofs.goals.with_goal.Goals as goal

pub invariant_of-result : goal.invariant_of-result
invariant_of-result c =
    let spec = c.args.spec.now in
    let parts = moved_parts spec c.args.goal c.remove.result c.requires
    (c.in_ok-domains.ensures ∙ c.as_slice.ensures) (c.in_ok-items.ensures ∙ c.as_slice-2.ensures)
    (c.in_ok-axioms.ensures ∙ c.as_slice-3.ensures) c.in_ok-add.ensures.ok
    (c.into_vec-goals.ensures ∙ c.in_ok-copied_axioms.ensures ∙ c.as_slice-4.ensures) c.remove.ensures.value c.remove.ensures.items c.from_vec.ensures in
    record {
      well_formed = subst (λ parts. is_well_formed parts ≡ true) (sym parts) (goal_moved (parts_of spec) (formed spec) c.args.goal c.requires);
    }

pub returns : goal.returns
returns c =
    moved_parts c.args.spec.now c.args.goal c.remove.result c.requires
    (c.in_ok-domains.ensures ∙ c.as_slice.ensures) (c.in_ok-items.ensures ∙ c.as_slice-2.ensures)
    (c.in_ok-axioms.ensures ∙ c.as_slice-3.ensures) c.in_ok-add.ensures.ok
    (c.into_vec-goals.ensures ∙ c.in_ok-copied_axioms.ensures ∙ c.as_slice-4.ensures) c.remove.ensures.value c.remove.ensures.items c.from_vec.ensures
