-- The first fault of a tree is that of the first phase that finds one.
use Rattle.std.proofs.Common.{◌≡◌, ℕ, Option, None, ap, sym, ◌∙◌}
use Rattle.std.specs.Option.{option_map}
use Rattle.trio_types.specs.declared.spec.Which.{Which}
use Rattle.trio_syntax.specs.declared.tree.SpecTree.{SpecTree}
use Rattle.trio_scope.specs.Places.{least}
use Rattle.trio_scope.specs.Scope.{unknown_places, repeated_places}
use Rattle.trio_limits.specs.Limits.{count_fault}
use Rattle.trio_reader.specs.declared.fault.SpecFault.{SpecFault}
use Rattle.trio_reader.specs.declared.fault.SpecFault.TheVariants as fault
use Rattle.trio_reader.specs.Erasure.{parts_of_tree}
use Rattle.trio_reader.specs.Kinds.{kind_places}
use Rattle.trio_reader.specs.Ranges.{out_of_range}
use Rattle.trio_reader.specs.Reading.{or_later, tree_fault}

abbrev limit_fault : SpecTree → Option SpecFault
limit_fault tree = option_map (λ c. fault.Limit c.0 c.1) (count_fault (parts_of_tree tree))

abbrev range_fault : SpecTree → Option SpecFault
range_fault tree = or_later (option_map fault.Range (least (out_of_range tree))) (limit_fault tree)

abbrev kind_fault : SpecTree → Option SpecFault
kind_fault tree = or_later (option_map fault.Kind (least (kind_places tree))) (range_fault tree)

abbrev twice_fault : SpecTree → Option SpecFault
twice_fault tree = or_later (option_map fault.Twice (least (repeated_places tree))) (kind_fault tree)

-- ---- no fault so far

pub unknown_is : (tree : SpecTree) (found : Option ℕ) → least (unknown_places tree) ≡ found → tree_fault tree ≡ or_later (option_map fault.Unknown found) (twice_fault tree)
unknown_is tree found is = λ i. or_later (option_map fault.Unknown (is i)) (twice_fault tree)

pub twice_is : (tree : SpecTree) (found : Option ℕ) → least (unknown_places tree) ≡ None → least (repeated_places tree) ≡ found →
    tree_fault tree ≡ or_later (option_map fault.Twice found) (kind_fault tree)
twice_is tree found known is = unknown_is tree None known ∙ (λ i. or_later (option_map fault.Twice (is i)) (kind_fault tree))

-- the phases before Kind find nothing
pub record IsNamed (tree : SpecTree) : Type 0 where
  pub known : least (unknown_places tree) ≡ None
  pub once : least (repeated_places tree) ≡ None

pub kind_is : (tree : SpecTree) (found : Option ℕ) → IsNamed tree → least (kind_places tree) ≡ found → tree_fault tree ≡ or_later (option_map fault.Kind found) (range_fault tree)
kind_is tree found named is = twice_is tree None named.known named.once ∙ (λ i. or_later (option_map fault.Kind (is i)) (range_fault tree))

pub range_is : (tree : SpecTree) (found : Option ℕ) → IsNamed tree → least (kind_places tree) ≡ None → least (out_of_range tree) ≡ found →
    tree_fault tree ≡ or_later (option_map fault.Range found) (limit_fault tree)
range_is tree found named kinds is = kind_is tree None named kinds ∙ (λ i. or_later (option_map fault.Range (is i)) (limit_fault tree))

-- the phases before Limit find nothing
pub record IsRanged (tree : SpecTree) : Type 0 where
  pub named : IsNamed tree
  pub kinds : least (kind_places tree) ≡ None
  pub ranges : least (out_of_range tree) ≡ None

pub is_ranged : (tree at : SpecTree) → at ≡ tree → least (unknown_places tree) ≡ None → least (repeated_places tree) ≡ None → least (kind_places at) ≡ None →
    least (out_of_range tree) ≡ None → IsRanged tree
is_ranged tree at same known once kinds ranges = record {
  named = record { known = known; once = once };
  kinds = ap (λ t. least (kind_places t)) (sym same) ∙ kinds;
  ranges = ranges;
}

pub limit_is : (tree : SpecTree) (found : Option (Which × ℕ)) → IsRanged tree → count_fault (parts_of_tree tree) ≡ found →
    tree_fault tree ≡ option_map (λ c. fault.Limit c.0 c.1) found
limit_is tree found ranged is =
    range_is tree None ranged.named ranged.kinds ranged.ranges ∙ (λ i. option_map (λ (c : Which × ℕ). fault.Limit c.0 c.1) (is i))
