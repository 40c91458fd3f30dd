-- What it means that a phase finds no fault.
use Rattle.std.proofs.Common.{◌≡◌, ℕ, Bool, true, false, List, [], ◌∷◌, ◌++◌, Option, None, Some, refl}
use Rattle.std.specs.Option.{option_map}
use Rattle.trio_types.specs.declared.spec.Which.{Which}
use Rattle.trio_syntax.specs.declared.tree.SpecTree.{SpecTree}
use Rattle.trio_scope.specs.Places.{earlier, least, unless}
use Rattle.trio_scope.specs.Scope.{unknown_places, repeated_places}
use Rattle.trio_limits.specs.Limits.{count_fault}
use Rattle.trio_reader.specs.declared.fault.SpecFault.{SpecFault}
use Rattle.trio_reader.specs.declared.fault.SpecFault.TheVariants as fault
use Rattle.trio_reader.specs.Erasure.{parts_of_tree}
use Rattle.trio_reader.specs.Kinds.{kind_places}
use Rattle.trio_reader.specs.Ranges.{out_of_range}
use Rattle.trio_reader.specs.Reading.{or_later, tree_fault}

pub append_empty : {A : Type 0} (xs ys : List A) → xs ++ ys ≡ [] → (xs ≡ []) × (ys ≡ [])
append_empty [] ys is = (refl, is)
append_empty (x ∷ xs) ys is = cc

pub unless_empty : (b : Bool) (p : ℕ) → unless b p ≡ [] → b ≡ true
unless_empty true p is = refl
unless_empty false p is = cc

least_some : (p : ℕ) (r : Option ℕ) → earlier (Some p) r ≡ None → ⊥
least_some p None is = cc
least_some p (Some q) is = cc

pub least_none : (ps : List ℕ) → least ps ≡ None → ps ≡ []
least_none [] is = refl
least_none (p ∷ ps) is = absurd (least_some p (least ps) is)

pub none_mapped : {A B : Type 0} (f : A → B) (r : Option A) → option_map f r ≡ None → r ≡ None
none_mapped f None is = refl
none_mapped f (Some x) is = cc

no_fault : (first later : Option SpecFault) → or_later first later ≡ None → (first ≡ None) × (later ≡ None)
no_fault None later is = (refl, is)
no_fault (Some f) later is = cc

-- no phase finds a fault
pub record IsClean (tree : SpecTree) : Type 0 where
  pub known : least (unknown_places tree) ≡ None
  pub once : least (repeated_places tree) ≡ None
  pub kinds : least (kind_places tree) ≡ None
  pub ranges : least (out_of_range tree) ≡ None
  pub limits : count_fault (parts_of_tree tree) ≡ None

pub clean : (tree : SpecTree) → tree_fault tree ≡ None → IsClean tree
clean tree is =
    let a = no_fault (option_map fault.Unknown (least (unknown_places tree))) _ is in
    let b = no_fault (option_map fault.Twice (least (repeated_places tree))) _ a.1 in
    let c = no_fault (option_map fault.Kind (least (kind_places tree))) _ b.1 in
    let d = no_fault (option_map fault.Range (least (out_of_range tree))) _ c.1 in
    record {
      known = none_mapped fault.Unknown (least (unknown_places tree)) a.0;
      once = none_mapped fault.Twice (least (repeated_places tree)) b.0;
      kinds = none_mapped fault.Kind (least (kind_places tree)) c.0;
      ranges = none_mapped fault.Range (least (out_of_range tree)) d.0;
      limits = none_mapped (λ (w : Which × ℕ). fault.Limit w.0 w.1) (count_fault (parts_of_tree tree)) d.1;
    }
