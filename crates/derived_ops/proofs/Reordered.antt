-- A specification stays well formed where its axioms and goals come in another order.
use Rattle.std.proofs.Common.{◌*◌, ◌≤◌, nat_le, List, [], ◌++◌, map, drop, sym, ◌∙◌, arith}
use Rattle.std.specs.List.{flat_map}
use Rattle.std.specs.List.Sorted.{IsPermutation}
use Rattle.std.proofs.lemmas.Bool.{le-leb}
use Rattle.std.proofs.lemmas.List.Sorted.{IsPermutation-append_right, IsPermutation-map, sum_by-IsPermutation}
use Rattle.trio_base.specs.Names.{is_name}
use Rattle.trio_base.specs.declared.limits.TheConstants.{GREATEST_NUMBER}
use Rattle.trio_types.specs.declared.spec.Axiom.{Axiom}
use Rattle.trio_types.specs.declared.spec.Which.{Which}
use Rattle.trio_types.specs.declared.spec.Which.TheVariants as which
use Rattle.trio_types.specs.Parts.{Parts, world_of_parts, claims_of}
use Rattle.trio_types.specs.Names.{names_of_domain, declared_names, variables_of, variables_are_new}
use Rattle.trio_types.specs.Kinds.{item_uses, is_right, uses}
use Rattle.trio_types.specs.Shape.{is_shaped, numbers_of}
use Rattle.trio_types.specs.Bounds.{greatest_bound}
use Rattle.trio_types.specs.Instances.{instances}
use Rattle.trio_types.specs.Nest.{item_nest, nest_of}
use Rattle.trio_types.specs.Limits.{count_of, limit_of, counted}
use Rattle.trio_types.specs.WellFormed.{instant_fits}
use Rattle.trio_types.proofs.Lists.{all_left, all_right, all_from_each}
use Rattle.trio_types.proofs.Specs.{Formed, within_limit}
use Rattle.derived_ops.proofs.InAnyOrder.{all_permuted, flat_permuted, both_all, all_same, greatest_permuted}
use Rattle.derived_ops.proofs.NamesInAnyOrder.{distinct_permuted, new_in_any_order}

-- the same declarations with other axioms and goals
abbrev with_claims : Parts → List Axiom → List Axiom → Parts
with_claims p axioms goals = record { instants = p.instants; domains = p.domains; items = p.items; axioms = axioms; goals = goals }

module _ (p : Parts) (f : Formed p) (axioms goals : List Axiom) (order : IsPermutation (claims_of p) (axioms ++ goals)) where
  abbrev q : Parts
  q = with_claims p axioms goals

  names_permuted : IsPermutation (declared_names p) (declared_names q)
  names_permuted =
      IsPermutation-append_right (flat_map names_of_domain (drop 1 p.domains) ++ map (λ item. item.name) p.items) _ _
      (IsPermutation-map (λ (a : Axiom). a.name) (claims_of p) (claims_of q) order)

  -- each count is as before, or within the same limit
  fits : (w : Which) → count_of w q ≤ limit_of w
  fits which.Items = within_limit p f which.Items
  fits which.Cells = within_limit p f which.Cells
  fits which.Sizes = within_limit p f which.Sizes
  fits which.Bound =
      let bound = λ (a : Axiom). greatest_bound (world_of_parts p) a.formula [] in
      greatest_permuted (limit_of which.Bound) (map bound (claims_of p)) (map bound (claims_of q))
      (IsPermutation-map bound (claims_of p) (claims_of q) order) (within_limit p f which.Bound)
  fits which.Instances =
      let same = sum_by-IsPermutation (λ (a : Axiom). p.instants * instances (world_of_parts p) a.formula) (claims_of p) (claims_of q) order in
      omega (arith, same, within_limit p f which.Instances)
  fits which.Nest =
      let nest = λ (a : Axiom). (nest_of a.formula).plain in
      greatest_permuted (limit_of which.Nest) (map item_nest p.items ++ map nest (claims_of p)) (map item_nest p.items ++ map nest (claims_of q))
      (IsPermutation-append_right (map item_nest p.items) _ _ (IsPermutation-map nest (claims_of p) (claims_of q) order)) (within_limit p f which.Nest)

  pub reordered : Formed q
  reordered =
      let declared = flat_map (item_uses (world_of_parts p)) p.items in
      let used = λ (a : Axiom). uses (world_of_parts p) a.formula [] in
      let variables = λ (a : Axiom). variables_of a.formula in
      record {
        instants = f.instants;
        bool_first = f.bool_first;
        domains = f.domains;
        items = f.items;
        names = both_all is_name (declared_names q) (flat_map variables (claims_of q))
            (sym (all_permuted is_name (declared_names p) (declared_names q) names_permuted) ∙ all_left is_name (declared_names p) (flat_map variables (claims_of p)) f.names)
            (flat_permuted is_name variables (claims_of p) (claims_of q) order (all_right is_name (declared_names p) (flat_map variables (claims_of p)) f.names));
        distinct = distinct_permuted (declared_names p) (declared_names q) names_permuted f.distinct;
        variables = all_same (λ (a : Axiom). variables_are_new a.formula (declared_names q)) (λ (a : Axiom). variables_are_new a.formula (declared_names p))
            (λ a. sym (new_in_any_order a.formula (declared_names p) (declared_names q) names_permuted)) (claims_of q)
            ∙ sym (all_permuted (λ (a : Axiom). variables_are_new a.formula (declared_names p)) (claims_of p) (claims_of q) order) ∙ f.variables;
        kinds = both_all is_right declared (flat_map used (claims_of q))
            (all_left is_right declared (flat_map used (claims_of p)) f.kinds)
            (flat_permuted is_right used (claims_of p) (claims_of q) order (all_right is_right declared (flat_map used (claims_of p)) f.kinds));
        many = sym (all_permuted (λ (a : Axiom). is_shaped a.formula) (claims_of p) (claims_of q) order) ∙ f.many;
        numbers = flat_permuted (λ n. nat_le n GREATEST_NUMBER) (λ (a : Axiom). numbers_of a.formula) (claims_of p) (claims_of q) order f.numbers;
        at = sym (all_permuted (λ (a : Axiom). instant_fits p.instants a.at) (claims_of p) (claims_of q) order) ∙ f.at;
        limits = all_from_each (λ w. nat_le (count_of w q) (limit_of w)) counted (λ k w at. le-leb (count_of w q) (limit_of w) (fits w));
      }
