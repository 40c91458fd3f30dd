-- A term of a tree at which no kind is at fault uses nothing that is not right.
use Rattle.std.proofs.Common.{◌≡◌, ℕ, Bool, true, if◌then◌else◌, List, [], ◌∷◌, ◌++◌, Option, length, map, slice_get, refl, sym, ap, subst, ◌∙◌}
use denote.Hole.Holds.{Such}
use Rattle.std.specs.List.{flat_map, list_all, zip}
use Rattle.std.specs.Option.{option_map}
use Rattle.std.proofs.lemmas.Bool.{and_parts, and_from}
use Rattle.std.proofs.lemmas.List.{length-map}
use Rattle.std.proofs.lemmas.List.Folds.{list_all-append, list_all-map}
use Rattle.trio_types.specs.declared.spec.Item.{Item}
use Rattle.trio_types.specs.declared.formula.Term.{Term}
use Rattle.trio_types.specs.declared.formula.SignedTerm.{SignedTerm, out-SignedTerm, out-roll-SignedTerm}
use Rattle.trio_types.specs.Kinds.{Use, Gathered, gathered, kind_in, term_uses, is_right, required, named, part, argument, of_item, argument_uses, args_of}
use Rattle.trio_types.proofs.Lists.{all_left, all_right, map-map, map_same}
use Rattle.trio_types.proofs.KindsAt.{gathered-Number, gathered-Value, gathered-Read, gathered-Sum, gathered-Times}
use Rattle.trio_syntax.specs.declared.tree.Mention.{Mention}
use Rattle.trio_syntax.specs.declared.tree.Written.{Written}
use Rattle.trio_syntax.specs.declared.tree.TermTree.{TermTree, TermTree-F, out-TermTree, roll-TermTree, out-roll-TermTree, map-TermTree, ind-TermTree}
use Rattle.trio_syntax.specs.declared.tree.TermShape.{TermShape, TermShape-F, out-TermShape, roll-TermShape, map-TermShape}
use Rattle.trio_syntax.specs.declared.tree.TermShape.TheOpen as open_shape
use Rattle.trio_syntax.specs.declared.tree.TermShape.TheVariants as shape
use Rattle.trio_syntax.specs.declared.tree.TermShape.TheFolds.{claims}
use Rattle.trio_syntax.specs.declared.tree.TermShape.TheBlock.{the_family, member-TermShape, member-PartTree, member-TermTree}
use Rattle.trio_syntax.specs.declared.tree.PartTree.{PartTree, PartTree-F, out-PartTree, roll-PartTree, out-roll-PartTree, map-PartTree}
use Rattle.trio_syntax.specs.declared.tree.SpecTree.{SpecTree}
use Rattle.trio_scope.specs.declared.walk.Role.{Role}
use Rattle.trio_scope.specs.declared.walk.Role.TheVariants as role
use Rattle.trio_scope.specs.Places.{unless}
use Rattle.trio_scope.specs.Gather.{Variable, places_in_term, places_in_shape, places_in_arguments, places_in_sum}
use Rattle.trio_scope.proofs.Gathers.{in-term, in-Call, in-Sum, in-Times}
use Rattle.trio_reader.specs.Erasure.{domains_of, world_of_tree, shape_of, term_of, part_from, sense_of, sense_term, sense_item, item_count}
use Rattle.trio_reader.specs.Kinds.{PlacedUse, placed, wrong_places, kind_of, role_uses, argument_use, item_use, shape_uses, own_uses, kind_finding}
use Rattle.trio_reader.proofs.Erased.{term-shape, shape-Number, shape-Truth, shape-Named, shape-Call, shape-Sum, shape-Times}
use Rattle.trio_reader.proofs.KindLemmas.{truth-constant}
use Rattle.trio_reader.proofs.FormedPhases.{append_empty, unless_empty}

-- all pass in a list and in the one behind it
pub all_both : {X : Type 0} (p : X → Bool) (xs ys : List X) → list_all p xs ≡ true → list_all p ys ≡ true → list_all p (xs ++ ys) ≡ true
all_both p xs ys first second = list_all-append p xs ys ∙ and_from (list_all p xs) (list_all p ys) first second

-- where no place is wrong, each use is right
abbrev pub placed_right : PlacedUse → Bool
placed_right u = is_right u.use_

pub no_wrong : (us : List PlacedUse) → wrong_places us ≡ [] → list_all placed_right us ≡ true
no_wrong [] is = refl
no_wrong (u ∷ us) is =
    let both = append_empty (unless (is_right u.use_) u.place) (wrong_places us) is in
    and_from (is_right u.use_) (list_all placed_right us) (unless_empty (is_right u.use_) u.place both.0) (no_wrong us both.1)

-- the one use of these is right
pub one_right : (p : ℕ) (u : Use) → list_all placed_right (placed p u ∷ []) ≡ true → is_right u ≡ true
one_right p u all = (and_parts (is_right u) true all).0

-- what is asked of an occurrence of a term is right
module _ (tree : SpecTree) (t : TermTree) (e : List Variable) (r : Role) (inside : Bool) (clean : places_in_term (kind_finding tree) t e r inside ≡ []) where
  halves : (wrong_places (own_uses tree e r inside t) ≡ []) × (places_in_shape (kind_finding tree) (out-TermTree t).shape e inside ≡ [])
  halves =
      append_empty (wrong_places (own_uses tree e r inside t)) (places_in_shape (kind_finding tree) (out-TermTree t).shape e inside)
      (sym (in-term (kind_finding tree) t e r inside) ∙ clean)

  pub role_right : list_all placed_right (role_uses r (out-TermTree t).place (kind_of tree e t)) ≡ true
  role_right =
      all_left placed_right (role_uses r (out-TermTree t).place (kind_of tree e t)) (shape_uses tree e inside (out-TermShape (out-TermTree t).shape))
      (no_wrong (own_uses tree e r inside t) halves.0)

  own_right : list_all placed_right (shape_uses tree e inside (out-TermShape (out-TermTree t).shape)) ≡ true
  own_right =
      all_right placed_right (role_uses r (out-TermTree t).place (kind_of tree e t)) (shape_uses tree e inside (out-TermShape (out-TermTree t).shape))
      (no_wrong (own_uses tree e r inside t) halves.0)

-- all that a term uses is right
abbrev uses_right : SpecTree → List Variable → Bool → Term → Bool
uses_right tree e inside x = list_all is_right (term_uses (world_of_tree tree) (domains_of tree e) inside x)

-- where no place in a term is wrong, all that it uses is right
TermFine : SpecTree → TermTree → Type 0
TermFine tree t = (e : List Variable) (r : Role) (inside : Bool) → places_in_term (kind_finding tree) t e r inside ≡ [] → uses_right tree e inside (term_of tree t e) ≡ true

PartFine : SpecTree → PartTree → Type 0
PartFine tree p = TermFine tree (out-PartTree p).term

ShapeFine : SpecTree → TermShape → Type 0
ShapeFine tree s =
    (e : List Variable) (inside : Bool) → list_all placed_right (shape_uses tree e inside (out-TermShape s)) ≡ true →
    places_in_shape (kind_finding tree) s e inside ≡ [] → uses_right tree e inside (shape_of tree s e) ≡ true

-- a part of a term, and that it is so
abbrev SomeShape : SpecTree → Type 0
SomeShape tree = Such the_family (claims (ShapeFine tree) (PartFine tree) (TermFine tree)) member-TermShape

abbrev SomePart : SpecTree → Type 0
SomePart tree = Such the_family (claims (ShapeFine tree) (PartFine tree) (TermFine tree)) member-PartTree

abbrev SomeTerm : SpecTree → Type 0
SomeTerm tree = Such the_family (claims (ShapeFine tree) (PartFine tree) (TermFine tree)) member-TermTree

fine_term : (tree : SpecTree) (t : TermTree) → ShapeFine tree (out-TermTree t).shape → TermFine tree t
unfolding ShapeFine TermFine
fine_term tree t fine e r inside clean =
    ap (uses_right tree e inside) (term-shape tree t e) ∙ fine e inside (own_right tree t e r inside clean) (halves tree t e r inside clean).1

fine_number : (tree : SpecTree) (n : Written) → ShapeFine tree (shape.Number n)
unfolding ShapeFine
fine_number tree n e inside own clean =
    ap (uses_right tree e inside) (shape-Number tree e n)
    ∙ ap (λ (g : Gathered). list_all is_right (g.uses inside)) (gathered-Number (world_of_tree tree) (domains_of tree e) n.number)

fine_truth : (tree : SpecTree) (b : Bool) → ShapeFine tree (shape.Truth b)
unfolding ShapeFine
fine_truth tree b e inside own clean =
    ap (uses_right tree e inside) (shape-Truth tree e b)
    ∙ ap (λ (g : Gathered). list_all is_right (g.uses inside)) (gathered-Value (world_of_tree tree) (domains_of tree e) 0 (if b then 1 else 0))
    ∙ ap (λ k. list_all is_right (required named k ∷ [])) (truth-constant tree b)

fine_name : (tree : SpecTree) (m : Mention) → ShapeFine tree (shape.Named m)
unfolding ShapeFine
fine_name tree m e inside own clean =
    ap (uses_right tree e inside) (shape-Named tree e m)
    ∙ sym (list_all-map placed_right (placed m.place) (term_uses (world_of_tree tree) (domains_of tree e) inside (sense_term (sense_of tree e m.name))))
    ∙ sym (ap (λ s. list_all placed_right (shape_uses tree e inside s)) (shape.outs-Named m)) ∙ own

module _ (tree : SpecTree) (e : List Variable) where
  abbrev gathered_of : TermTree → Gathered
  gathered_of t = gathered (world_of_tree tree) (domains_of tree e) (term_of tree t e)

  arguments_right : (ds : List ℕ) (args : List TermTree) → list_all placed_right (map (argument_use tree e) (zip ds args)) ≡ true →
      list_all is_right (argument_uses (world_of_tree tree) ds (map gathered_of args)) ≡ true
  arguments_right [] args all = refl
  arguments_right (d ∷ ds) [] all = refl
  arguments_right (d ∷ ds) (a ∷ as_) all =
      let both = and_parts (placed_right (argument_use tree e (d, a))) (list_all placed_right (map (argument_use tree e) (zip ds as_))) all in
      and_from (is_right (required (argument (kind_in (world_of_tree tree) d)) (kind_of tree e a)))
      (list_all is_right (argument_uses (world_of_tree tree) ds (map gathered_of as_))) both.0 (arguments_right ds as_ both.1)

  in_arguments : (xs : List (SomeTerm tree)) → places_in_arguments (kind_finding tree) e (map (λ x. x.0) xs) ≡ [] →
      list_all is_right (flat_map (λ (g : Gathered). g.uses true) (map gathered_of (map (λ x. x.0) xs))) ≡ true
  unfolding TermFine
  in_arguments [] clean = refl
  in_arguments (x ∷ xs) clean =
      let both = append_empty (places_in_term (kind_finding tree) x.0 e role.Argument true) (places_in_arguments (kind_finding tree) e (map (λ x. x.0) xs)) clean in
      all_both is_right (term_uses (world_of_tree tree) (domains_of tree e) true (term_of tree x.0 e))
      (flat_map (λ (g : Gathered). g.uses true) (map gathered_of (map (λ x. x.0) xs))) (x.1 e role.Argument true both.0) (in_arguments xs both.1)

  parts_right : (inside : Bool) (ps : List PartTree) → places_in_sum (kind_finding tree) e inside ps ≡ [] →
      list_all is_right (map (λ (g : Gathered). required part g.kind) (map (λ p. gathered_of (out-PartTree p).term) ps)) ≡ true
  parts_right inside [] clean = refl
  parts_right inside (p ∷ ps) clean =
      let t : TermTree = (out-PartTree p).term in
      let both = append_empty (places_in_term (kind_finding tree) t e role.Part inside) (places_in_sum (kind_finding tree) e inside ps) clean in
      and_from (is_right (required part (kind_of tree e t)))
      (list_all is_right (map (λ (g : Gathered). required part g.kind) (map (λ p. gathered_of (out-PartTree p).term) ps)))
      (one_right (out-TermTree t).place (required part (kind_of tree e t)) (role_right tree t e role.Part inside both.0)) (parts_right inside ps both.1)

  in_parts : (inside : Bool) (xs : List (SomePart tree)) → places_in_sum (kind_finding tree) e inside (map (λ x. x.0) xs) ≡ [] →
      list_all is_right (flat_map (λ (g : Gathered). g.uses inside) (map (λ p. gathered_of (out-PartTree p).term) (map (λ x. x.0) xs))) ≡ true
  unfolding TermFine PartFine
  in_parts inside [] clean = refl
  in_parts inside (x ∷ xs) clean =
      let t : TermTree = (out-PartTree x.0).term in
      let both = append_empty (places_in_term (kind_finding tree) t e role.Part inside) (places_in_sum (kind_finding tree) e inside (map (λ x. x.0) xs)) clean in
      all_both is_right (term_uses (world_of_tree tree) (domains_of tree e) inside (term_of tree t e))
      (flat_map (λ (g : Gathered). g.uses inside) (map (λ p. gathered_of (out-PartTree p).term) (map (λ x. x.0) xs)))
      (x.1 e role.Part inside both.0) (in_parts inside xs both.1)

  pub signed_parts : (ps : List PartTree) →
      map (λ (p : SignedTerm). gathered (world_of_tree tree) (domains_of tree e) (out-SignedTerm p).term) (map (λ p. part_from tree p e) ps)
      ≡ map (λ p. gathered_of (out-PartTree p).term) ps
  signed_parts ps =
      map-map (λ (p : SignedTerm). gathered (world_of_tree tree) (domains_of tree e) (out-SignedTerm p).term) (λ p. part_from tree p e) ps
      ∙ map_same (λ p. gathered (world_of_tree tree) (domains_of tree e) (out-SignedTerm (part_from tree p e)).term) (λ p. gathered_of (out-PartTree p).term)
      (λ p. ap (λ s. gathered (world_of_tree tree) (domains_of tree e) s.term)
      (out-roll-SignedTerm (record { minus = (out-PartTree p).minus; term = term_of tree (out-PartTree p).term e }))) ps

fine_call : (tree : SpecTree) (m : Mention) (xs : List (SomeTerm tree)) → ShapeFine tree (shape.Call m (map (λ x. x.0) xs))
unfolding ShapeFine
fine_call tree m xs e inside own clean =
    let args : List TermTree = map (λ x. x.0) xs in
    let n : ℕ = sense_item (item_count tree) (sense_of tree e m.name) in
    let o : Option Item = slice_get (world_of_tree tree).items n in
    let terms : List Term = map (λ t. term_of tree t e) args in
    let gs : List Gathered = map (gathered (world_of_tree tree) (domains_of tree e)) terms in
    let same : gs ≡ map (gathered_of tree e) args = map-map (gathered (world_of_tree tree) (domains_of tree e)) (λ t. term_of tree t e) args in
    let read = and_parts (is_right (item_use tree inside n (length args))) (list_all placed_right (map (argument_use tree e) (zip (args_of o) args)))
    (sym (ap (λ s. list_all placed_right (shape_uses tree e inside s)) (shape.outs-Call m args)) ∙ own) in
    ap (uses_right tree e inside) (shape-Call tree e m args)
    ∙ ap (λ (g : Gathered). list_all is_right (g.uses inside)) (gathered-Read (world_of_tree tree) (domains_of tree e) n terms)
    ∙ ap (λ hs. list_all is_right (of_item inside (option_map (λ (item : Item). length item.args) o) (length hs)
    ∷ argument_uses (world_of_tree tree) (args_of o) hs ++ flat_map (λ (g : Gathered). g.uses true) hs)) same
    ∙ and_from (is_right (of_item inside (option_map (λ (item : Item). length item.args) o) (length (map (gathered_of tree e) args))))
    (list_all is_right (argument_uses (world_of_tree tree) (args_of o) (map (gathered_of tree e) args)
    ++ flat_map (λ (g : Gathered). g.uses true) (map (gathered_of tree e) args)))
    (ap (λ k. is_right (item_use tree inside n k)) (length-map args (gathered_of tree e)) ∙ read.0)
    (all_both is_right (argument_uses (world_of_tree tree) (args_of o) (map (gathered_of tree e) args))
    (flat_map (λ (g : Gathered). g.uses true) (map (gathered_of tree e) args))
    (arguments_right tree e (args_of o) args
    read.1)
    (in_arguments tree e xs (sym (in-Call (kind_finding tree) e inside m args) ∙ clean)))

fine_sum : (tree : SpecTree) (xs : List (SomePart tree)) → ShapeFine tree (shape.Sum (map (λ x. x.0) xs))
unfolding ShapeFine
fine_sum tree xs e inside own clean =
    let ps : List PartTree = map (λ x. x.0) xs in
    let gs : List Gathered = map (λ p. gathered_of tree e (out-PartTree p).term) ps in
    let found = sym (in-Sum (kind_finding tree) e inside ps) ∙ clean in
    ap (uses_right tree e inside) (shape-Sum tree e ps)
    ∙ ap (λ (g : Gathered). list_all is_right (g.uses inside)) (gathered-Sum (world_of_tree tree) (domains_of tree e) (map (λ p. part_from tree p e) ps))
    ∙ ap (λ hs. list_all is_right (map (λ (g : Gathered). required part g.kind) hs ++ flat_map (λ (g : Gathered). g.uses inside) hs)) (signed_parts tree e ps)
    ∙ all_both is_right (map (λ (g : Gathered). required part g.kind) gs) (flat_map (λ (g : Gathered). g.uses inside) gs)
    (parts_right tree e inside ps found) (in_parts tree e inside xs found)

fine_times : (tree : SpecTree) (n : Written) (t : TermTree) → TermFine tree t → ShapeFine tree (shape.Times n t)
unfolding ShapeFine TermFine
fine_times tree n t fine e inside own clean =
    let found = sym (in-Times (kind_finding tree) e inside n t) ∙ clean in
    ap (uses_right tree e inside) (shape-Times tree e n t)
    ∙ ap (λ (g : Gathered). list_all is_right (g.uses inside)) (gathered-Times (world_of_tree tree) (domains_of tree e) n.number (term_of tree t e))
    ∙ and_from (is_right (required part (kind_of tree e t))) (uses_right tree e inside (term_of tree t e))
    (one_right (out-TermTree t).place (required part (kind_of tree e t)) (role_right tree t e role.Factor inside found)) (fine e role.Factor inside found)

-- by induction over terms, their shapes and the parts of sums
all_terms : (tree : SpecTree) (t : TermTree) → TermFine tree t
unfolding PartFine
all_terms tree =
    ind-TermTree (ShapeFine tree) (PartFine tree) (TermFine tree) (λ x y is. subst (λ z. ShapeFine tree (roll-TermShape z)) is (each y))
    (λ x y is. subst (λ z. PartFine tree (roll-PartTree z)) is (each_part y)) (λ x y is. subst (λ z. TermFine tree (roll-TermTree z)) is (each_term y))
  where
    each : (y : TermShape-F (SomeShape tree) (SomePart tree) (SomeTerm tree)) →
        ShapeFine tree (roll-TermShape (map-TermShape (SomeShape tree) (SomePart tree) (SomeTerm tree) TermShape PartTree TermTree (λ x. x.0) (λ x. x.0) (λ x. x.0) y))
    each (open_shape.Number n) = subst (ShapeFine tree) (sym (shape.rolls-Number n)) (fine_number tree n)
    each (open_shape.Truth b) = subst (ShapeFine tree) (sym (shape.rolls-Truth b)) (fine_truth tree b)
    each (open_shape.Named m) = subst (ShapeFine tree) (sym (shape.rolls-Named m)) (fine_name tree m)
    each (open_shape.Call m xs) = subst (ShapeFine tree) (sym (shape.rolls-Call m (map (λ x. x.0) xs))) (fine_call tree m xs)
    each (open_shape.Sum xs) = subst (ShapeFine tree) (sym (shape.rolls-Sum (map (λ x. x.0) xs))) (fine_sum tree xs)
    each (open_shape.Times n x) = subst (ShapeFine tree) (sym (shape.rolls-Times n x.0)) (fine_times tree n x.0 x.1)

    each_part : (y : PartTree-F (SomeShape tree) (SomePart tree) (SomeTerm tree)) →
        PartFine tree (roll-PartTree (map-PartTree (SomeShape tree) (SomePart tree) (SomeTerm tree) TermShape PartTree TermTree (λ x. x.0) (λ x. x.0) (λ x. x.0) y))
    each_part y = subst (TermFine tree) (ap (λ p. p.term) (sym (out-roll-PartTree (record { minus = y.minus; term = y.term.0 })))) y.term.1

    each_term : (y : TermTree-F (SomeShape tree) (SomePart tree) (SomeTerm tree)) →
        TermFine tree (roll-TermTree (map-TermTree (SomeShape tree) (SomePart tree) (SomeTerm tree) TermShape PartTree TermTree (λ x. x.0) (λ x. x.0) (λ x. x.0) y))
    each_term y =
        fine_term tree (roll-TermTree (record { place = y.place; shape = y.shape.0 }))
        (subst (ShapeFine tree) (ap (λ t. t.shape) (sym (out-roll-TermTree (record { place = y.place; shape = y.shape.0 })))) y.shape.1)

-- all that an occurrence of a term uses is right where no place in it is wrong
pub term_right : (tree : SpecTree) (t : TermTree) (e : List Variable) (r : Role) (inside : Bool) → places_in_term (kind_finding tree) t e r inside ≡ [] →
    list_all is_right (term_uses (world_of_tree tree) (domains_of tree e) inside (term_of tree t e)) ≡ true
unfolding TermFine
term_right tree t = all_terms tree t
