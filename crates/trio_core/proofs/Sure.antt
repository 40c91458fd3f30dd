-- Where every cell's value is known, what is known of terms is their value, and three-valued truth is truth.
use Rattle.std.proofs.Common.{◌≡◌, ◌⊎◌, inl, inr, ℕ, ℤ, pos, neg_ℤ, ◌+ℤ◌, ◌*ℤ◌, Bool, true, false, not, ◌&&◌, ◌||◌, if◌then◌else◌, List, [], ◌∷◌, Option, None, Some, map, refl, sym, ap, ◌∙◌}
use Rattle.std.specs.List.{list_all, list_any, filter}
use Rattle.std.specs.Option.{option_map, option_and_then}
use Rattle.std.proofs.Math.Logic.{⊎_elim}
use Rattle.trio_base.specs.declared.operators.Rel.{Rel}
use Rattle.trio_types.specs.declared.spec.Domain.{Domain}
use Rattle.trio_types.specs.declared.spec.Item.{Item}
use Rattle.trio_types.specs.declared.formula.SignedTerm.{SignedTerm, out-SignedTerm}
use Rattle.trio_types.specs.declared.formula.Term.{Term}
use Rattle.trio_types.specs.World.{World, instants_of, values_in}
use Rattle.trio_types.specs.Cells.{Cell, number_at}
use Rattle.trio_types.specs.Values.{value, index_of, indexes, cell_of_item, read_cell, plus, sum_of}
use Rattle.trio_types.specs.Truth.{relates, at_distance, is_at_distance}
use Rattle.trio_types.proofs.ValueAt.{signed_value, value-Number, value-Value, value-Var, value-Read, value-Sum, value-Times}
use Rattle.trio_core.specs.declared.nodes.Three.{Three}
use Rattle.trio_core.specs.declared.nodes.Known.{Known}
use Rattle.trio_core.specs.declared.nodes.Known.TheVariants.{Nothing, One}
use Rattle.trio_core.specs.Three.{known_both, known_map, known_then, known_of_option, known_all, known_of_cell, known_sum, value3, sure, not3, and3, or3, all3, any3, relates3, at_distance3}
use Rattle.trio_types.proofs.Inductions.{Each, term_of, every_term}
use Rattle.trio_core.proofs.Value3At.{signed_value3, value3-Number, value3-Value, value3-Var, value3-Read, value3-Sum, value3-Times}

-- what is known of cells is their value in the table
pub record IsKnown (w : World) (look : Cell → Known ℤ) (t : List ℕ) : Type 0 where
  pub each : (c : Cell) → look c ≡ known_of_option (number_at w t c)

-- arguments
no_index : (domains : List Domain) (ds : List ℕ) (zs : List (Option ℤ)) → indexes domains ds (None ∷ zs) ≡ None
no_index domains [] zs = refl
no_index domains (d ∷ ds) zs = refl

stuck : (o : Option ℕ) → option_and_then (λ v. option_map (λ vs. v ∷ vs) None) o ≡ None
stuck None = refl
stuck (Some v) = refl

no_index_behind : (domains : List Domain) (ds : List ℕ) (z : ℤ) (zs : List (Option ℤ)) → ((ds : List ℕ) → indexes domains ds zs ≡ None) → indexes domains ds (Some z ∷ zs) ≡ None
no_index_behind domains [] z zs none = refl
no_index_behind domains (d ∷ ds) z zs none = rw (none ds) (stuck (index_of (values_in domains d) z))

all_or_none : (domains : List Domain) (zs : List (Option ℤ)) →
    (known_all (map known_of_option zs) ≡ One zs) ⊎ ((known_all (map known_of_option zs) ≡ Nothing) × ((ds : List ℕ) → indexes domains ds zs ≡ None))
all_or_none domains [] = inl refl
all_or_none domains (None ∷ zs) = inr (refl, λ ds. no_index domains ds zs)
all_or_none domains (Some z ∷ zs) =
    ⊎_elim
    (λ all. inl (rw all refl))
    (λ none. inr (rw (none.0) refl, λ ds. no_index_behind domains ds z zs none.1))
    (all_or_none domains zs)

no_cell : (w : World) (number : ℕ) (o : Option Item) (zs : List (Option ℤ)) (i : ℕ) → ((ds : List ℕ) → indexes w.domains ds zs ≡ None) → cell_of_item w number o zs i ≡ None
no_cell w number None zs i none = refl
no_cell w number (Some item) zs i none = rw (none item.args) refl

sure_cell : (w : World) (look : Cell → Known ℤ) (t : List ℕ) → IsKnown w look t → (o : Option Cell) → known_of_cell look o ≡ known_of_option (option_and_then (number_at w t) o)
sure_cell w look t known None = refl
sure_cell w look t known (Some c) = known.each c

sure_read : (w : World) (look : Cell → Known ℤ) (t : List ℕ) → IsKnown w look t → (number : ℕ) (zs : List (Option ℤ)) (i : ℕ) →
    known_then (λ zs. known_of_cell look (read_cell w number zs i)) (known_all (map known_of_option zs)) ≡ known_of_option (option_and_then (number_at w t) (read_cell w number zs i))
sure_read w look t known number zs i =
    ⊎_elim
    (λ all. rw all (sure_cell w look t known (read_cell w number zs i)))
    (λ none. ap (known_then (λ zs. known_of_cell look (read_cell w number zs i))) none.0
    ∙ sym (ap (λ o. known_of_option (option_and_then (number_at w t) o)) (no_cell w number _ zs i none.1)))
    (all_or_none w.domains zs)

-- sums and products
sure_plus : (x y : Option ℤ) → known_both (λ x y. x +ℤ y) (known_of_option x) (known_of_option y) ≡ known_of_option (plus x y)
sure_plus None None = refl
sure_plus None (Some y) = refl
sure_plus (Some x) None = refl
sure_plus (Some x) (Some y) = refl

sure_sum : (zs : List (Option ℤ)) → known_sum (map known_of_option zs) ≡ known_of_option (sum_of zs)
sure_sum [] = refl
sure_sum (z ∷ zs) = rw (sure_sum zs) (sure_plus z (sum_of zs))

sure_map : (f : ℤ → ℤ) (x : Option ℤ) → known_map f (known_of_option x) ≡ known_of_option (option_map f x)
sure_map f None = refl
sure_map f (Some x) = refl

sure_signed : (minus : Bool) (k : Known ℤ) (x : Option ℤ) → k ≡ known_of_option x →
    (if minus then known_map neg_ℤ k else k) ≡ known_of_option (if minus then option_map neg_ℤ x else x)
sure_signed true k x is = rw is (sure_map neg_ℤ x)
sure_signed false k x is = is

-- terms
record ValueSure (w : World) (look : Cell → Known ℤ) (t : List ℕ) (e : List ℤ) (i : ℕ) (x : Term) : Type 0 where
  is : value3 w x e look i ≡ known_of_option (value w x e t i)

mapped_sure : {X : Type 0} (f : X → Known ℤ) (g : X → Option ℤ) (xs : List X) → Each (λ x. f x ≡ known_of_option (g x)) xs → map f xs ≡ map known_of_option (map g xs)
mapped_sure f g [] each = refl
mapped_sure f g (x ∷ xs) each = rw (each.0, mapped_sure f g xs each.1) refl

each_value : (w : World) (look : Cell → Known ℤ) (t : List ℕ) (e : List ℤ) (i : ℕ) (xs : List Term) → Each (ValueSure w look t e i) xs →
    Each (λ x. value3 w x e look i ≡ known_of_option (value w x e t i)) xs
each_value w look t e i [] each = tt
each_value w look t e i (x ∷ xs) each = (each.0.is, each_value w look t e i xs each.1)

each_part : (w : World) (look : Cell → Known ℤ) (t : List ℕ) (e : List ℤ) (i : ℕ) (ps : List SignedTerm) → Each (λ p. ValueSure w look t e i (term_of p)) ps →
    Each (λ p. signed_value3 w p e look i ≡ known_of_option (signed_value w p e t i)) ps
each_part w look t e i [] each = tt
each_part w look t e i (p ∷ ps) each =
    (sure_signed (out-SignedTerm p).minus (value3 w (term_of p) e look i) (value w (term_of p) e t i) each.0.is, each_part w look t e i ps each.1)

value_sure : (w : World) (look : Cell → Known ℤ) (t : List ℕ) (e : List ℤ) (i : ℕ) → IsKnown w look t → (x : Term) → ValueSure w look t e i x
value_sure w look t e i known = every_term (ValueSure w look t e i) (record {
  at_number = λ n. record { is = value3-Number w n e look i ∙ sym (ap known_of_option (value-Number w n e t i)) };
  at_value = λ d v. record { is = value3-Value w d v e look i ∙ sym (ap known_of_option (value-Value w d v e t i)) };
  at_var = λ level. record { is = value3-Var w level e look i ∙ sym (ap known_of_option (value-Var w level e t i)) };
  at_read = λ number args each. record {
    is = value3-Read w number args e look i
        ∙ ap (λ ks. known_then (λ zs. known_of_cell look (read_cell w number zs i)) (known_all ks))
        (mapped_sure (λ a. value3 w a e look i) (λ a. value w a e t i) args (each_value w look t e i args each))
        ∙ sure_read w look t known number (map (λ a. value w a e t i) args) i
        ∙ sym (ap known_of_option (value-Read w number args e t i));
  };
  at_sum = λ parts each. record {
    is = value3-Sum w parts e look i
        ∙ ap known_sum (mapped_sure (λ p. signed_value3 w p e look i) (λ p. signed_value w p e t i) parts (each_part w look t e i parts each))
        ∙ sure_sum (map (λ p. signed_value w p e t i) parts)
        ∙ sym (ap known_of_option (value-Sum w parts e t i));
  };
  at_times = λ n x s. record {
    is = value3-Times w n x e look i ∙ ap (known_map (λ z. pos n *ℤ z)) s.is ∙ sure_map (λ z. pos n *ℤ z) (value w x e t i)
        ∙ sym (ap known_of_option (value-Times w n x e t i));
  };
})

pub value3_sure : (w : World) (look : Cell → Known ℤ) (t : List ℕ) (e : List ℤ) (i : ℕ) → IsKnown w look t → (x : Term) → value3 w x e look i ≡ known_of_option (value w x e t i)
value3_sure w look t e i known x = (value_sure w look t e i known x).is

-- truths
pub sure_not : (a : Bool) → not3 (sure a) ≡ sure (not a)
sure_not true = refl
sure_not false = refl

pub sure_and : (a b : Bool) → and3 (sure a) (sure b) ≡ sure (a && b)
sure_and true b = refl
sure_and false b = refl

pub sure_or : (a b : Bool) → or3 (sure a) (sure b) ≡ sure (a || b)
sure_or true b = refl
sure_or false b = refl

pub sure_all : {X : Type 0} (p : X → Three) (q : X → Bool) → ((x : X) → p x ≡ sure (q x)) → (xs : List X) → all3 p xs ≡ sure (list_all q xs)
sure_all p q each [] = refl
sure_all p q each (x ∷ xs) = rw (each x, sure_all p q each xs) (sure_and (q x) (list_all q xs))

pub sure_any : {X : Type 0} (p : X → Three) (q : X → Bool) → ((x : X) → p x ≡ sure (q x)) → (xs : List X) → any3 p xs ≡ sure (list_any q xs)
sure_any p q each [] = refl
sure_any p q each (x ∷ xs) = rw (each x, sure_any p q each xs) (sure_or (q x) (list_any q xs))

pub sure_relates : (r : Rel) (x y : Option ℤ) → relates3 r (known_of_option x) (known_of_option y) ≡ sure (relates r x y)
sure_relates r None None = refl
sure_relates r None (Some y) = refl
sure_relates r (Some x) None = refl
sure_relates r (Some x) (Some y) = refl

none_at : (i : ℕ) (q : ℕ → Bool) (xs : List ℕ) → list_any q (filter (is_at_distance i None) xs) ≡ false
none_at i q [] = refl
none_at i q (x ∷ xs) = none_at i q xs

pub sure_distance : (w : World) (i : ℕ) (d : Option ℤ) (p : ℕ → Three) (q : ℕ → Bool) → ((j : ℕ) → p j ≡ sure (q j)) →
    at_distance3 w i (known_of_option d) p ≡ sure (list_any q (at_distance w i d))
sure_distance w i None p q each = sym (ap sure (none_at i q (instants_of w)))
sure_distance w i (Some d) p q each = sure_any p q each (at_distance w i (Some d))
