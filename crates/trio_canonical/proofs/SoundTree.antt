-- A tree that was read and stands for the parts of a well-formed specification has no fault.
use Rattle.std.proofs.Common.{◌≡◌, true, List, None, ap, ◌∙◌}
use Rattle.trio_text.specs.declared.lexeme.Lexeme.{Lexeme}
use Rattle.trio_types.specs.Parts.{Parts}
use Rattle.trio_types.specs.WellFormed.{is_well_formed}
use Rattle.trio_types.proofs.Specs.{formed_of}
use Rattle.trio_syntax.specs.declared.tree.DomainTree.{DomainTree}
use Rattle.trio_syntax.specs.declared.tree.ItemTree.{ItemTree}
use Rattle.trio_syntax.specs.declared.tree.SpecTree.{SpecTree}
use Rattle.trio_syntax.specs.Grammar.{IsSpec}
use Rattle.trio_scope.specs.Places.{least}
use Rattle.trio_reader.specs.Erasure.{parts_of_tree}
use Rattle.trio_reader.specs.Reading.{tree_fault}
use Rattle.trio_canonical.proofs.SoundPhases.{sound_from, no_count_above}
use Rattle.trio_canonical.proofs.SoundRanges.{nothing_out_of_range}
use Rattle.trio_canonical.proofs.SoundKinds.{no_kind_wrong}
use Rattle.trio_canonical.proofs.SoundNames.{in_order, no_name_twice}
use Rattle.trio_canonical.proofs.SoundOrder.{rises}
use Rattle.trio_canonical.proofs.SoundKnown.{no_name_unknown}

pub tree_is_sound : (parts : Parts) (tokens : List Lexeme) (tree : SpecTree) → IsSpec tokens tree → parts_of_tree tree ≡ parts → is_well_formed parts ≡ true →
    (ds : List DomainTree) (is : List ItemTree) → tree.declarations ≡ in_order ds is → tree_fault tree ≡ None
tree_is_sound parts tokens tree reading same well_formed ds is order =
    let f = formed_of (parts_of_tree tree) (ap is_well_formed same ∙ well_formed) in
    sound_from tree
    (record {
      known = ap least (no_name_unknown tree ds is order (rises tokens tree reading ds is order) f.kinds);
      once = ap least (no_name_twice tree ds is order f.distinct f.variables);
      kinds = ap least (no_kind_wrong tree f.kinds);
      ranges = ap least (nothing_out_of_range tree f);
      limits = no_count_above (parts_of_tree tree) f.limits;
    })
