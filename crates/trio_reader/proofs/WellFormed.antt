-- A tree without faults stands for a specification.
use Rattle.std.proofs.Common.{◌≡◌, true}
use Rattle.trio_types.specs.WellFormed.{is_well_formed}
use Rattle.trio_types.proofs.Specs.{well_formed_from}
use Rattle.trio_syntax.specs.declared.tree.SpecTree.{SpecTree}
use Rattle.trio_reader.specs.Erasure.{parts_of_tree}
use Rattle.trio_reader.specs.Sound.{IsSound}
use Rattle.trio_reader.proofs.FormedPhases.{clean}
use Rattle.trio_reader.proofs.FormedClaims.{has_bool_of_tree, instants_fit_from_range, limits_are_met_from_counts}
use Rattle.trio_reader.proofs.FormedDomains.{has_instants_from_range, domains_fit_from_range, items_fit_from_range}
use Rattle.trio_reader.proofs.FormedNames.{names_are_names_from_form, names_are_distinct_from_once}
use Rattle.trio_reader.proofs.FormedVariables.{variables_are_distinct_from_once}
use Rattle.trio_reader.proofs.FormedKinds.{kinds_formed}
use Rattle.trio_reader.proofs.FormedShape.{parts_are_many_from_form}
use Rattle.trio_reader.proofs.FormedNumbers.{numbers_are_small_from_range}

pub well_formed : (tree : SpecTree) → IsSound tree → is_well_formed (parts_of_tree tree) ≡ true
well_formed tree sound =
    let c = clean tree sound.sound in
    well_formed_from (parts_of_tree tree)
    (record {
      instants = has_instants_from_range tree c.ranges;
      bool_first = has_bool_of_tree tree;
      domains = domains_fit_from_range tree sound.formed c.ranges;
      items = items_fit_from_range tree sound.formed c.ranges;
      names = names_are_names_from_form tree sound.formed;
      distinct = names_are_distinct_from_once tree c.once;
      variables = variables_are_distinct_from_once tree c.once;
      kinds = kinds_formed tree sound;
      many = parts_are_many_from_form tree sound.formed;
      numbers = numbers_are_small_from_range tree c.ranges;
      at = instants_fit_from_range tree c.ranges;
      limits = limits_are_met_from_counts (parts_of_tree tree) c.limits;
    })
