-- A specification with a goal among its axioms is well formed.
use Rattle.std.proofs.Common.{◌≡◌, ℕ, ◌<◌, true, List, [], ◌∷◌, ◌++◌, length, get_or, refl, sym, ap, ◌∙◌}
use Rattle.std.specs.List.{remove}
use Rattle.std.specs.Option.{option_to_list}
use Rattle.std.proofs.lemmas.Option.{slice_get_read, get_or_from_slice_get}
use Rattle.std.proofs.lemmas.List.Sorted.{IsPermutation-refl, IsPermutation-more}
use Rattle.trio_types.specs.declared.spec.Domain.{Domain}
use Rattle.trio_types.specs.declared.spec.Item.{Item}
use Rattle.trio_types.specs.declared.spec.Axiom.{Axiom}
use Rattle.trio_types.specs.declared.spec.Spec.{Spec}
use Rattle.trio_types.specs.Parts.{Parts, claims_of}
use Rattle.trio_types.specs.WellFormed.{is_well_formed}
use Rattle.trio_types.specs.Verdict.{parts_of}
use Rattle.trio_types.proofs.Lists.{get_within}
use Rattle.trio_types.proofs.Specs.{Formed, well_formed_from}
use Rattle.derived_ops.specs.Goals.{with_goal}
use Rattle.derived_ops.proofs.Reordered.{reordered}

pub goal_moved : (p : Parts) → Formed p → (goal : ℕ) → goal < length p.goals → is_well_formed (with_goal goal p) ≡ true
goal_moved p f goal inside =
    let moved = get_within p.goals goal inside in
    let is = sym (get_or_from_slice_get p.goals goal moved.0 moved.0 moved.1) in
    let alone = ap option_to_list moved.1 in
    rw alone
    (well_formed_from _ (reordered p f (p.axioms ++ moved.0 ∷ []) (remove p.goals goal)
    (IsPermutation-more (claims_of p) p.axioms p.goals goal moved.0 inside is (IsPermutation-refl (claims_of p)))))

-- the parts that are made of copies: the goal is taken out of theirs, and pushed behind their axioms
pub moved_parts : (spec : Spec) (goal : ℕ) (moved : Axiom) → goal < length spec.goals →
    {domains : List Domain} → domains ≡ spec.domains → {items : List Item} → items ≡ spec.items →
    {copied axioms : List Axiom} → copied ≡ spec.axioms → axioms ≡ copied ++ moved ∷ [] →
    {copies fewer goals : List Axiom} → copies ≡ spec.goals → moved ≡ get_or copies goal moved → fewer ≡ remove copies goal → goals ≡ fewer →
    record { instants = spec.instants; domains = domains; items = items; axioms = axioms; goals = goals } ≡ with_goal goal (parts_of spec)
moved_parts spec goal moved inside same_domains same_items same_axioms pushed same_goals taken removed made_goals =
    let is = taken ∙ ap (λ goals. get_or goals goal moved) same_goals in
    let alone = ap option_to_list (slice_get_read spec.goals (length spec.goals) goal moved refl inside is) in
    let behind = pushed ∙ ap (λ axioms. axioms ++ moved ∷ []) same_axioms in
    let without = made_goals ∙ removed ∙ ap (λ goals. remove goals goal) same_goals in
    rw (same_domains, same_items, behind, without, alone) refl
