-- Where all that a term uses is right, no kind in it is wrong.
use Rattle.std.proofs.Common.{◌≡◌, ℕ, Bool, true, ◌&&◌, List, [], ◌∷◌, ◌++◌, Option, length, map, slice_get, refl, sym, ap, ◌∙◌}
use Rattle.std.specs.List.{flat_map, list_all, zip}
use Rattle.std.specs.Option.{option_map}
use Rattle.std.proofs.lemmas.Bool.{and_parts, and_from}
use Rattle.std.proofs.lemmas.List.{length-map}
use Rattle.std.proofs.lemmas.List.Folds.{list_all-map}
use Rattle.trio_types.specs.declared.spec.Item.{Item}
use Rattle.trio_types.specs.declared.formula.Term.{Term}
use Rattle.trio_types.specs.World.{World}
use Rattle.trio_types.specs.Kinds.{Use, Gathered, gathered, kind_in, term_uses, is_right, required, part, argument, of_item, argument_uses, args_of}
use Rattle.trio_types.proofs.Lists.{all_left, all_right, map-map}
use Rattle.trio_types.proofs.KindsAt.{gathered-Read, gathered-Sum, gathered-Times}
use Rattle.trio_syntax.specs.declared.tree.TermTree.{TermTree, out-TermTree}
use Rattle.trio_syntax.specs.declared.tree.TermShape.{TermShape, out-TermShape}
use Rattle.trio_syntax.specs.declared.tree.TermShape.TheVariants as shape
use Rattle.trio_syntax.specs.declared.tree.PartTree.{PartTree, out-PartTree}
use Rattle.trio_syntax.specs.declared.tree.SpecTree.{SpecTree}
use Rattle.trio_scope.specs.declared.walk.Role.{Role}
use Rattle.trio_scope.specs.declared.walk.Role.TheVariants as role
use Rattle.trio_scope.specs.Places.{unless}
use Rattle.trio_scope.specs.Gather.{Variable, places_in_term, places_in_shape}
use Rattle.trio_scope.proofs.Gathers.{in-term, in-Number, in-Truth, in-Named, in-Call, in-Sum, in-Times}
use Rattle.trio_reader.specs.Erasure.{domains_of, world_of_tree, shape_of, term_of, part_from, sense_of, sense_term, sense_item, item_count}
use Rattle.trio_reader.specs.Kinds.{PlacedUse, placed, wrong_places, kind_of, role_uses, argument_use, item_use, shape_uses, own_uses, kind_finding}
use Rattle.trio_reader.proofs.Erased.{term-shape, shape-Named, shape-Call, shape-Sum, shape-Times}
use Rattle.trio_reader.proofs.FormedCases.{TermCases, every_shape, term_in}
use Rattle.trio_reader.proofs.FormedNumbers.{flat_all_of}
use Rattle.trio_reader.proofs.FormedTerms.{all_both, placed_right, signed_parts}
use Rattle.trio_canonical.proofs.SoundPhases.{both_empty, passes, each_empty, all_empty}

-- where each use is right, no place is wrong
pub none_wrong : (us : List PlacedUse) → list_all placed_right us ≡ true → wrong_places us ≡ []
none_wrong us all = all_empty (λ (u : PlacedUse). unless (is_right u.use_) u.place) placed_right (λ u is. passes (is_right u.use_) u.place is) us all

pub one_placed : (p : ℕ) (u : Use) → is_right u ≡ true → list_all placed_right (placed p u ∷ []) ≡ true
one_placed p u is = and_from (is_right u) true is refl

-- two tests of each element
all_and : {X : Type 0} (p q : X → Bool) (xs : List X) → list_all p xs ≡ true → list_all q xs ≡ true → list_all (λ x. p x && q x) xs ≡ true
all_and p q [] first second = refl
all_and p q (x ∷ xs) first second =
    let a = and_parts (p x) (list_all p xs) first in
    let b = and_parts (q x) (list_all q xs) second in
    and_from (p x && q x) (list_all (λ x. p x && q x) xs) (and_from (p x) (q x) a.0 b.0) (all_and p q xs a.1 b.1)

module _ (tree : SpecTree) where
  abbrev world : World
  world = world_of_tree tree

  -- all that a term uses is right
  abbrev uses_right : List Variable → Bool → Term → Bool
  uses_right e inside x = list_all is_right (term_uses world (domains_of tree e) inside x)

  abbrev gathered_of : List Variable → TermTree → Gathered
  gathered_of e t = gathered world (domains_of tree e) (term_of tree t e)

  ShapeRight : TermShape → Type 0
  ShapeRight s = (e : List Variable) (inside : Bool) → uses_right e inside (shape_of tree s e) ≡ true →
      (list_all placed_right (shape_uses tree e inside (out-TermShape s)) ≡ true) × (places_in_shape (kind_finding tree) s e inside ≡ [])

  of_term : (t : TermTree) → ShapeRight (out-TermTree t).shape → (e : List Variable) (r : Role) (inside : Bool) →
      list_all placed_right (role_uses r (out-TermTree t).place (kind_of tree e t)) ≡ true → uses_right e inside (term_of tree t e) ≡ true →
      places_in_term (kind_finding tree) t e r inside ≡ []
  unfolding ShapeRight
  of_term t is e r inside in_its_role all =
      let both = is e inside (sym (ap (uses_right e inside) (term-shape tree t e)) ∙ all) in
      in-term (kind_finding tree) t e r inside
      ∙ both_empty (wrong_places (own_uses tree e r inside t)) (places_in_shape (kind_finding tree) (out-TermTree t).shape e inside)
      (none_wrong (own_uses tree e r inside t)
      (all_both placed_right (role_uses r (out-TermTree t).place (kind_of tree e t)) (shape_uses tree e inside (out-TermShape (out-TermTree t).shape)) in_its_role both.0))
      both.1

  arguments_placed : (e : List Variable) (ds : List ℕ) (args : List TermTree) → list_all is_right (argument_uses world ds (map (gathered_of e) args)) ≡ true →
      list_all placed_right (map (argument_use tree e) (zip ds args)) ≡ true
  arguments_placed e [] args all = refl
  arguments_placed e (d ∷ ds) [] all = refl
  arguments_placed e (d ∷ ds) (a ∷ as_) all =
      let both = and_parts (is_right (required (argument (kind_in world d)) (kind_of tree e a))) (list_all is_right (argument_uses world ds (map (gathered_of e) as_))) all in
      and_from (placed_right (argument_use tree e (d, a))) (list_all placed_right (map (argument_use tree e) (zip ds as_))) both.0
      (arguments_placed e ds as_ both.1)

  shape_cases : TermCases ShapeRight
  unfolding ShapeRight
  shape_cases = record {
    at_number = λ n e inside all.
        (ap (λ s. list_all placed_right (shape_uses tree e inside s)) (shape.outs-Number n), in-Number (kind_finding tree) e inside n);
    at_truth = λ b e inside all.
        (ap (λ s. list_all placed_right (shape_uses tree e inside s)) (shape.outs-Truth b), in-Truth (kind_finding tree) e inside b);
    at_named = λ m e inside all. (
      ap (λ s. list_all placed_right (shape_uses tree e inside s)) (shape.outs-Named m)
          ∙ list_all-map placed_right (placed m.place) (term_uses world (domains_of tree e) inside (sense_term (sense_of tree e m.name)))
          ∙ sym (ap (uses_right e inside) (shape-Named tree e m)) ∙ all,
      in-Named (kind_finding tree) e inside m,
    );
    at_call = λ m args each e inside all.
        let n : ℕ = sense_item (item_count tree) (sense_of tree e m.name) in
        let o : Option Item = slice_get world.items n in
        let terms : List Term = map (λ t. term_of tree t e) args in
        let gs : List Gathered = map (gathered_of e) args in
        let same : map (gathered world (domains_of tree e)) terms ≡ gs = map-map (gathered world (domains_of tree e)) (λ t. term_of tree t e) args in
        let own : List Use = argument_uses world (args_of o) gs in
        let below : List Use = flat_map (λ (g : Gathered). g.uses true) gs in
        let read = and_parts (is_right (of_item inside (option_map (λ (item : Item). length item.args) o) (length gs))) (list_all is_right (own ++ below))
        (sym (ap (uses_right e inside) (shape-Call tree e m args)
        ∙ ap (λ (g : Gathered). list_all is_right (g.uses inside)) (gathered-Read world (domains_of tree e) n terms)
        ∙ ap (λ hs. list_all is_right (of_item inside (option_map (λ (item : Item). length item.args) o) (length hs)
        ∷ argument_uses world (args_of o) hs ++ flat_map (λ (g : Gathered). g.uses true) hs)) same) ∙ all) in (
          ap (λ s. list_all placed_right (shape_uses tree e inside s)) (shape.outs-Call m args)
              ∙ and_from (is_right (item_use tree inside n (length args))) (list_all placed_right (map (argument_use tree e) (zip (args_of o) args)))
              (sym (ap (λ k. is_right (item_use tree inside n k)) (length-map args (gathered_of e))) ∙ read.0)
              (arguments_placed e (args_of o) args (all_left is_right own below read.1)),
          in-Call (kind_finding tree) e inside m args
              ∙ each_empty (λ t. ShapeRight (out-TermTree t).shape) (λ t. places_in_term (kind_finding tree) t e role.Argument true)
              (λ t. uses_right e true (term_of tree t e)) (λ t is yes. of_term t is e role.Argument true refl yes) args each
              (sym (flat_all_of is_right (λ (g : Gathered). g.uses true) (gathered_of e) args) ∙ all_right is_right own below read.1),
        );
    at_sum = λ ps each e inside all.
        let of_part : PartTree → Gathered = λ p. gathered_of e (out-PartTree p).term in
        let gs : List Gathered = map of_part ps in
        let kinds : List Use = map (λ (g : Gathered). required part g.kind) gs in
        let below : List Use = flat_map (λ (g : Gathered). g.uses inside) gs in
        let right = sym (ap (uses_right e inside) (shape-Sum tree e ps)
        ∙ ap (λ (g : Gathered). list_all is_right (g.uses inside)) (gathered-Sum world (domains_of tree e) (map (λ p. part_from tree p e) ps))
        ∙ ap (λ hs. list_all is_right (map (λ (g : Gathered). required part g.kind) hs ++ flat_map (λ (g : Gathered). g.uses inside) hs)) (signed_parts tree e ps)) ∙ all in (
          ap (λ s. list_all placed_right (shape_uses tree e inside s)) (shape.outs-Sum ps),
          in-Sum (kind_finding tree) e inside ps
              ∙ each_empty (λ p. ShapeRight (term_in p)) (λ p. places_in_term (kind_finding tree) (out-PartTree p).term e role.Part inside)
              (λ p. is_right (required part (of_part p).kind) && list_all is_right ((of_part p).uses inside))
              (λ p is yes. let b = and_parts (is_right (required part (of_part p).kind)) (list_all is_right ((of_part p).uses inside)) yes in
              of_term (out-PartTree p).term is e role.Part inside
              (one_placed (out-TermTree (out-PartTree p).term).place (required part (of_part p).kind) b.0) b.1) ps each
              (all_and (λ p. is_right (required part (of_part p).kind)) (λ p. list_all is_right ((of_part p).uses inside)) ps
              (sym (list_all-map is_right (λ (g : Gathered). required part g.kind) gs ∙ list_all-map (λ (g : Gathered). is_right (required part g.kind)) of_part ps)
              ∙ all_left is_right kinds below right)
              (sym (flat_all_of is_right (λ (g : Gathered). g.uses inside) of_part ps) ∙ all_right is_right kinds below right)),
        );
    at_times = λ n t is e inside all.
        let both = and_parts (is_right (required part (kind_of tree e t))) (uses_right e inside (term_of tree t e))
        (sym (ap (uses_right e inside) (shape-Times tree e n t)
        ∙ ap (λ (g : Gathered). list_all is_right (g.uses inside)) (gathered-Times world (domains_of tree e) n.number (term_of tree t e))) ∙ all) in (
          ap (λ s. list_all placed_right (shape_uses tree e inside s)) (shape.outs-Times n t),
          in-Times (kind_finding tree) e inside n t
              ∙ of_term t is e role.Factor inside (one_placed (out-TermTree t).place (required part (kind_of tree e t)) both.0) both.1,
        );
  }

  -- no kind in an occurrence of a term is wrong where what its role asks of it is right, and all that it uses
  pub no_wrong_kind : (t : TermTree) (e : List Variable) (r : Role) (inside : Bool) →
      list_all placed_right (role_uses r (out-TermTree t).place (kind_of tree e t)) ≡ true →
      list_all is_right (term_uses (world_of_tree tree) (domains_of tree e) inside (term_of tree t e)) ≡ true →
      places_in_term (kind_finding tree) t e r inside ≡ []
  no_wrong_kind t = of_term t (every_shape ShapeRight shape_cases (out-TermTree t).shape)
