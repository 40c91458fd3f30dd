-- What the reader has put together is what its tree stands for.
use Rattle.std.proofs.Common.{◌≡◌, true, false, List, None, ap, sym, ◌∙◌}
use Rattle.trio_types.specs.declared.spec.Domain.{Domain}
use Rattle.trio_types.specs.declared.spec.Item.{Item}
use Rattle.trio_types.specs.declared.spec.Axiom.{Axiom}
use Rattle.trio_types.specs.Parts.{Parts}
use Rattle.trio_types.specs.WellFormed.{is_well_formed}
use Rattle.trio_syntax.specs.declared.tree.SpecTree.{SpecTree}
use Rattle.trio_syntax.specs.Shape.{is_formed}
use Rattle.trio_limits.specs.Limits.{count_fault}
use Rattle.trio_reader.specs.Erasure.{parts_of_tree, world_of_tree, claims_from}
use Rattle.trio_reader.proofs.Phases.{IsRanged, limit_is}
use Rattle.trio_reader.proofs.WellFormed.{well_formed}

abbrev draft_of : SpecTree → List Domain → List Item → List Axiom → List Axiom → Parts
draft_of tree domains items axioms goals =
    record { instants = tree.instants.number; domains = domains; items = items; axioms = axioms; goals = goals }

pub record IsMade (tree at : SpecTree) (domains : List Domain) (items : List Item) (axioms goals : List Axiom) : Type 0 where
  pub same : at ≡ tree
  pub has_domains : domains ≡ (world_of_tree at).domains
  pub has_items : items ≡ (world_of_tree at).items
  pub has_axioms : axioms ≡ claims_from tree false tree.claims
  pub has_goals : goals ≡ claims_from tree true tree.claims

pub is_made : {tree at : SpecTree} {domains : List Domain} {items : List Item} {axioms goals : List Axiom} → at ≡ tree → domains ≡ (world_of_tree at).domains →
    items ≡ (world_of_tree at).items → axioms ≡ claims_from tree false tree.claims → goals ≡ claims_from tree true tree.claims →
    IsMade tree at domains items axioms goals
is_made same domains items axioms goals =
    record { same = same; has_domains = domains; has_items = items; has_axioms = axioms; has_goals = goals }

pub made : {tree at : SpecTree} {domains : List Domain} {items : List Item} {axioms goals : List Axiom} → IsMade tree at domains items axioms goals →
    draft_of tree domains items axioms goals ≡ parts_of_tree tree
unfolding parts_of_tree
made {tree} m = λ i. record {
  instants = tree.instants.number;
  domains = (m.has_domains ∙ ap (λ t. (parts_of_tree t).domains) m.same) i;
  items = (m.has_items ∙ ap (λ t. (parts_of_tree t).items) m.same) i;
  axioms = m.has_axioms i;
  goals = m.has_goals i;
}

pub well_formed_made : (tree at : SpecTree) (domains : List Domain) (items : List Item) (axioms goals : List Axiom) → IsMade tree at domains items axioms goals →
    is_formed tree ≡ true → IsRanged tree → count_fault (draft_of tree domains items axioms goals) ≡ None →
    is_well_formed (draft_of tree domains items axioms goals) ≡ true
well_formed_made tree at domains items axioms goals m formed ranged counts =
    let is = made m in
    ap is_well_formed is ∙ well_formed tree (record { formed = formed; sound = limit_is tree None ranged (ap count_fault (sym is) ∙ counts) })
