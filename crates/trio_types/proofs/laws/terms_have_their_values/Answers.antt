-- The answers to the goals of `terms_have_their_values`.
use Rattle.std.proofs.Common.{◌≡◌, ◌≢◌, ℕ, suc, Bool, true, false, if◌then◌else◌, List, [], ◌∷◌, map, length, Option, None, Some, slice_get, Contains, ℤ, pos, neg_ℤ, ◌*ℤ◌, refl, sym, ap, ◌∙◌}
use Rattle.std.specs.Option.{option_map, option_and_then}
use Rattle.std.proofs.Math.Logic.{⊎_elim}
use Rattle.std.proofs.lemmas.List.{length-map}
use Rattle.std.proofs.lemmas.Option.{none-some, same_Some, get_or_from_slice_get}
use Rattle.trio_types.specs.declared.formula.SignedTerm.{SignedTerm, out-SignedTerm}
use Rattle.trio_types.specs.declared.formula.Term.{Term}
use Rattle.trio_types.specs.declared.formula.Term.TheVariants as term
use Rattle.trio_types.specs.declared.spec.Domain.{Domain}
use Rattle.trio_types.specs.declared.spec.Item.{Item}
use Rattle.trio_types.specs.World.{World, values_in}
use Rattle.trio_types.specs.Cells.{the_cell, number_at}
use Rattle.trio_types.specs.Values.{index_of, indexes, cell_of_item, plus, sum_of, value}
use Rattle.trio_types.proofs.Contained.{contains_cases, map_law, none_contained}
use Rattle.trio_types.proofs.ValueAt.{signed_value, value-Number, value-Value, value-Var, value-Read, value-Sum, value-Times}
use Rattle.trio_types.proofs.Atoms.{read_law, outside_law, part_law}
use Rattle.trio_types.proofs.laws.terms_have_their_values.Goals as goal

pub returns-clause-read : goal.returns-clause-read
returns-clause-read c = read_law

pub returns-clause-outside : goal.returns-clause-outside
returns-clause-outside c = outside_law

-- the cell that is read, and none where the arguments have no indexes
unread : (w : World) (number : ℕ) (args : List Term) (e : List ℤ) (t : List ℕ) (i : ℕ) →
    ((item : Item) → slice_get w.items number ≡ Some item → indexes w.domains item.args (map (λ x. value w x e t i) args) ≡ None) →
    value w (term.Read number args) e t i ≡ None
unread w number args e t i none = value-Read w number args e t i ∙ ap (option_and_then (number_at w t)) (no_cell (slice_get w.items number) none)
  where
    no_cell : (o : Option Item) → ((item : Item) → o ≡ Some item → indexes w.domains item.args (map (λ x. value w x e t i) args) ≡ None) →
        cell_of_item w number o (map (λ x. value w x e t i) args) i ≡ None
    no_cell None none = refl
    no_cell (Some item) none = ap (option_map (λ vs. the_cell number vs i)) (none item refl)

no_more : (o : Option ℕ) → option_and_then (λ v. option_map (λ vs. v ∷ vs) None) o ≡ None
no_more None = refl
no_more (Some v) = refl

none_among : (domains : List Domain) (ds : List ℕ) (zs : List (Option ℤ)) → Contains zs None → indexes domains ds zs ≡ None
none_among domains [] [] has = absurd (none_contained None has)
none_among domains [] (z ∷ zs) has = refl
none_among domains (d ∷ ds) [] has = refl
none_among domains (d ∷ ds) (None ∷ zs) has = refl
none_among domains (d ∷ ds) (Some z ∷ zs) has =
    ⊎_elim (λ here. absurd (none-some z (sym here)))
    (λ behind. rw (none_among domains ds zs behind) (no_more (index_of (values_in domains d) z)))
    (contains_cases (Some z) None zs has)

other_number : (domains : List Domain) (ds : List ℕ) (zs : List (Option ℤ)) → length zs ≢ length ds → indexes domains ds zs ≡ None
other_number domains [] [] other = absurd (other refl)
other_number domains [] (z ∷ zs) other = refl
other_number domains (d ∷ ds) [] other = refl
other_number domains (d ∷ ds) (None ∷ zs) other = refl
other_number domains (d ∷ ds) (Some z ∷ zs) other =
    rw (other_number domains ds zs (λ same. other (ap suc same))) (no_more (index_of (values_in domains d) z))

pub returns-clause-no_argument : goal.returns-clause-no_argument
returns-clause-no_argument c = λ w number args x e t i has none.
    unread w number args e t i (λ item at. none_among w.domains item.args (map (λ x. value w x e t i) args)
    ((map_law (λ x. value w x e t i) args None).1 (x, has, sym none)))

pub returns-clause-arity : goal.returns-clause-arity
returns-clause-arity c = λ w number item args e t i at other.
    unread w number args e t i (λ found there. other_number w.domains found.args (map (λ x. value w x e t i) args)
    (λ same. other (sym (length-map args (λ x. value w x e t i)) ∙ same ∙ ap (λ it. length it.args) (same_Some found item (sym there ∙ at)))))

pub returns-clause-no_item : goal.returns-clause-no_item
returns-clause-no_item c = λ w number args e t i none. unread w number args e t i (λ item at. absurd (none-some item (sym none ∙ at)))

pub returns-clause-no_part : goal.returns-clause-no_part
returns-clause-no_part c = λ w e t i. value-Sum w [] e t i

pub returns-clause-part : goal.returns-clause-part
returns-clause-part c = part_law

pub returns-clause-times : goal.returns-clause-times
returns-clause-times c = λ w n x e t i a is. value-Times w n x e t i ∙ ap (option_map (λ z. pos n *ℤ z)) is

-- the opposite of no value is none, and so is a sum with none
signed_none : (minus : Bool) (o : Option ℤ) → o ≡ None → (if minus then option_map neg_ℤ o else o) ≡ None
signed_none true o none = ap (option_map neg_ℤ) none
signed_none false o none = none

plus_none : (o : Option ℤ) → plus o None ≡ None
plus_none None = refl
plus_none (Some z) = refl

sum_none : (w : World) (ps : List SignedTerm) (p : SignedTerm) (e : List ℤ) (t : List ℕ) (i : ℕ) → Contains ps p → value w (out-SignedTerm p).term e t i ≡ None →
    sum_of (map (λ q. signed_value w q e t i) ps) ≡ None
sum_none w [] p e t i has none = absurd (none_contained p has)
sum_none w (q ∷ ps) p e t i has none =
    ⊎_elim
    (λ here. ap (λ o. plus o (sum_of (map (λ q. signed_value w q e t i) ps)))
    (signed_none (out-SignedTerm q).minus (value w (out-SignedTerm q).term e t i) (ap (λ r. value w (out-SignedTerm r).term e t i) here ∙ none)))
    (λ behind. ap (plus (signed_value w q e t i)) (sum_none w ps p e t i behind none) ∙ plus_none (signed_value w q e t i))
    (contains_cases q p ps has)

pub returns-clause-no_sum : goal.returns-clause-no_sum
returns-clause-no_sum c = λ w p ps e t i has none. value-Sum w ps e t i ∙ sum_none w ps p e t i has none

pub returns-clause-no_product : goal.returns-clause-no_product
returns-clause-no_product c = λ w n x e t i none. value-Times w n x e t i ∙ ap (option_map (λ z. pos n *ℤ z)) none

pub returns-clause-number : goal.returns-clause-number
returns-clause-number c = value-Number

pub returns-clause-index : goal.returns-clause-index
returns-clause-index c = value-Value

pub returns-clause-variable : goal.returns-clause-variable
returns-clause-variable c = λ w level z e t i at. value-Var w level e t i ∙ ap Some (get_or_from_slice_get e level z (pos 0) at)
