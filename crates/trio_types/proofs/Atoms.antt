-- The laws of atoms, terms and quantifiers.
use Rattle.std.proofs.Common.{◌≡◌, ◌↔◌, ℕ, zero, suc, ◌<◌, ℤ, pos, neg_ℤ, ◌+ℤ◌, ◌-ℤ◌, true, false, List, [], ◌∷◌, ◌++◌, map, length, Option, None, Some, slice_get, refl, sym, ap, ◌∙◌, arith, Decides}
use Rattle.std.specs.Option.{option_map, option_and_then}
use Rattle.std.specs.Ordering.{int_eq}
use Rattle.std.proofs.lemmas.Bool.{false≢true, false_from_ne_true, not-true, not_from_false, cond-true, cond-false}
use Rattle.std.proofs.lemmas.Bool.Decides.{Decides-int_eq}
use Rattle.std.proofs.lemmas.Int.{ints}
use Rattle.std.proofs.lemmas.Option.{none-some, same_Some, slice_get-map}
use Rattle.trio_base.specs.declared.operators.Rel.{Rel}
use Rattle.trio_base.specs.declared.operators.Rel.TheVariants as rel
use Rattle.trio_types.specs.declared.formula.SignedTerm.{SignedTerm, out-SignedTerm}
use Rattle.trio_types.specs.declared.formula.Term.{Term}
use Rattle.trio_types.specs.declared.formula.Term.TheVariants as term
use Rattle.trio_types.specs.declared.formula.Formula.{Formula}
use Rattle.trio_types.specs.declared.formula.Formula.TheVariants as formula
use Rattle.trio_types.specs.declared.spec.Domain.{Domain}
use Rattle.trio_types.specs.declared.spec.Item.{Item}
use Rattle.trio_types.specs.World.{World, values_in, values_of}
use Rattle.trio_types.specs.Cells.{Cell, the_cell, cells_of, cell_values, number_at, IsTable}
use Rattle.trio_types.specs.Values.{value, index_of, indexes, cell_of_item, plus, sum_of}
use Rattle.trio_types.specs.Truth.{truth, is_value, compares, relates}
use Rattle.trio_types.specs.Laws.{IsValue, TrueForSome, Related, ValuesRelated, number_of_index, AreArguments}
use Rattle.trio_types.proofs.Integers.{Decides-int_le, Decides-int_lt}
use Rattle.trio_types.proofs.Lists.{each_of, all_from_each, some_of, any_from_some, get_within}
use Rattle.trio_types.proofs.Domains.{first_of, count_of_values, values_at, values_are, length-integers, integers_at, from_first, value_at_first, number_is, index_of_value, no_index, value_of_index, size_at}
use Rattle.trio_types.proofs.TruthAt.{truth-Lone, truth-Compare, truth-All, truth-Ex}
use Rattle.trio_types.proofs.ValueAt.{signed_value, value-Value, value-Read, value-Sum}
use Rattle.trio_types.proofs.CellNumbers.{values_from_item}
use Rattle.trio_types.proofs.CellOrder.{entry_is_value, entry_below}

-- relations
pub compares_is : (r : Rel) (x y : ℤ) → Decides (compares r x y) (Related r x y)
compares_is rel.Eq x y = Decides-int_eq x y
compares_is rel.Ne x y = (
  λ h e. false≢true (sym (not-true (int_eq x y) h) ∙ (Decides-int_eq x y).1 e),
  λ ne. not_from_false (int_eq x y) (false_from_ne_true (int_eq x y) (λ h. ne ((Decides-int_eq x y).0 h))),
)
compares_is rel.Lt x y = Decides-int_lt x y
compares_is rel.Le x y = Decides-int_le x y
compares_is rel.Gt x y = Decides-int_lt y x
compares_is rel.Ge x y = Decides-int_le y x

relates_from : (r : Rel) (u v : Option ℤ) → relates r u v ≡ true → (a : ℤ) × (b : ℤ) × (u ≡ Some a) × (v ≡ Some b) × Related r a b
relates_from r None v h = absurd (false≢true h)
relates_from r (Some a) None h = absurd (false≢true h)
relates_from r (Some a) (Some b) h = (a, b, refl, refl, (compares_is r a b).0 h)

relates_at : (r : Rel) (u v : Option ℤ) (a b : ℤ) → u ≡ Some a → v ≡ Some b → Related r a b → relates r u v ≡ true
relates_at r u v a b ua vb h = rw (ua, vb) ((compares_is r a b).1 h)

pub compare_law : (w : World) (r : Rel) (x y : Term) (e : List ℤ) (t : List ℕ) (i : ℕ) → (truth w (formula.Compare r x y) e t i ≡ true) ↔ ValuesRelated w r x y e t i
compare_law w r x y e t i = (
  λ h. let p = relates_from r (value w x e t i) (value w y e t i) (sym (truth-Compare w r x y e t i) ∙ h) in
      record { left = p.0; right = p.1; left_is = p.2; right_is = p.3; related = p.4 },
  λ h. truth-Compare w r x y e t i ∙ relates_at r (value w x e t i) (value w y e t i) h.left h.right h.left_is h.right_is h.related,
)

is_from : (z : ℤ) (v : Option ℤ) → is_value z v ≡ true → v ≡ Some z
is_from z None h = absurd (false≢true h)
is_from z (Some x) h = ap Some ((Decides-int_eq x z).0 h)

is_at : (z : ℤ) (v : Option ℤ) → v ≡ Some z → is_value z v ≡ true
is_at z v is = rw is ((Decides-int_eq z z).1 refl)

pub lone_law : (w : World) (x : Term) (e : List ℤ) (t : List ℕ) (i : ℕ) → (truth w (formula.Lone x) e t i ≡ true) ↔ (value w x e t i ≡ Some (pos 1))
lone_law w x e t i = (
  λ h. is_from (pos 1) (value w x e t i) (sym (truth-Lone w x e t i) ∙ h),
  λ h. truth-Lone w x e t i ∙ is_at (pos 1) (value w x e t i) h,
)

no_left : (r : Rel) (u v : Option ℤ) → u ≡ None → relates r u v ≡ false
no_left r u v none = rw none refl

no_right : (r : Rel) (u v : Option ℤ) → v ≡ None → relates r u v ≡ false
no_right r None v none = refl
no_right r (Some a) v none = rw none refl

pub no_value_law : (w : World) (r : Rel) (x y : Term) (e : List ℤ) (t : List ℕ) (i : ℕ) → value w x e t i ≡ None →
    (truth w (formula.Lone x) e t i ≡ false) × (truth w (formula.Compare r x y) e t i ≡ false) × (truth w (formula.Compare r y x) e t i ≡ false)
no_value_law w r x y e t i none = (
  truth-Lone w x e t i ∙ ap (is_value (pos 1)) none,
  truth-Compare w r x y e t i ∙ no_left r (value w x e t i) (value w y e t i) none,
  truth-Compare w r y x e t i ∙ no_right r (value w y e t i) (value w x e t i) none,
)

one_only : (n : ℕ) → Some (pos n) ≡ Some (pos 1) → n ≡ 1
one_only n same = let e : pos n ≡ pos 1 = same_Some (pos n) (pos 1) same in omega (arith, ints, e)

pub constant_law : (w : World) (v : ℕ) (e : List ℤ) (t : List ℕ) (i : ℕ) → (truth w (formula.Lone (term.Value 0 v)) e t i ≡ true) ↔ (v ≡ 1)
constant_law w v e t i = (
  λ h. one_only v (sym (value-Value w 0 v e t i) ∙ (lone_law w (term.Value 0 v) e t i).0 h),
  λ h. (lone_law w (term.Value 0 v) e t i).1 (value-Value w 0 v e t i ∙ ap (λ n. Some (pos n)) h),
)

-- quantifiers
pub all_law : (w : World) (name : List ℕ) (d : ℕ) (domain : Domain) (f : Formula) (e : List ℤ) (t : List ℕ) (i : ℕ) → slice_get w.domains d ≡ Some domain →
    (truth w (formula.All name d f) e t i ≡ true) ↔ ((z : ℤ) → IsValue domain.kind z → truth w f (e ++ z ∷ []) t i ≡ true)
all_law w name d domain f e t i at =
    let p = λ (z : ℤ). truth w f (e ++ z ∷ []) t i in
    let first = first_of domain.kind in
    let count = count_of_values domain.kind in (
      λ h z is. let m = from_first domain.kind z is in
          each_of p (values_in w.domains d) (sym (truth-All w name d f e t i) ∙ h) m.0 z
          (value_of_index w.domains d domain m.0 at m.1 ∙ ap Some (sym m.2)),
      λ h. truth-All w name d f e t i
          ∙ all_from_each p (values_in w.domains d)
          (λ k z is. let m = integers_at first count k z (ap (λ zs. slice_get zs k) (sym (values_at w.domains d domain at)) ∙ is) in h z (value_at_first domain.kind z k m.0 m.1)),
    )

pub ex_law : (w : World) (name : List ℕ) (d : ℕ) (domain : Domain) (f : Formula) (e : List ℤ) (t : List ℕ) (i : ℕ) → slice_get w.domains d ≡ Some domain →
    (truth w (formula.Ex name d f) e t i ≡ true) ↔ TrueForSome w domain.kind f e t i
ex_law w name d domain f e t i at =
    let p = λ (z : ℤ). truth w f (e ++ z ∷ []) t i in
    let first = first_of domain.kind in
    let count = count_of_values domain.kind in (
      λ h. let r = some_of p (values_in w.domains d) (sym (truth-Ex w name d f e t i) ∙ h) in
          let m = integers_at first count r.0 r.1 (ap (λ zs. slice_get zs r.0) (sym (values_at w.domains d domain at)) ∙ r.2) in
          record { number = r.1; is_value = value_at_first domain.kind r.1 r.0 m.0 m.1; true_for = r.3 },
      λ h. let m = from_first domain.kind h.number h.is_value in
          truth-Ex w name d f e t i
          ∙ any_from_some p (values_in w.domains d) m.0 h.number (value_of_index w.domains d domain m.0 at m.1 ∙ ap Some (sym m.2)) h.true_for,
    )

-- sums and products
plus_parts : (u v : Option ℤ) (a b : ℤ) → u ≡ Some a → v ≡ Some b → plus u v ≡ Some (a +ℤ b)
plus_parts u v a b ua vb = rw (ua, vb) refl

pub part_law : (w : World) (p : SignedTerm) (ps : List SignedTerm) (e : List ℤ) (t : List ℕ) (i : ℕ) (a b : ℤ) →
    value w (out-SignedTerm p).term e t i ≡ Some a → value w (term.Sum ps) e t i ≡ Some b →
    ((out-SignedTerm p).minus ≡ false → value w (term.Sum (p ∷ ps)) e t i ≡ Some (a +ℤ b))
    × ((out-SignedTerm p).minus ≡ true → value w (term.Sum (p ∷ ps)) e t i ≡ Some (b -ℤ a))
part_law w p ps e t i a b first rest =
    let x = value w (out-SignedTerm p).term e t i in
    let more = sym (value-Sum w ps e t i) ∙ rest in (
      λ plain. value-Sum w (p ∷ ps) e t i
          ∙ plus_parts (signed_value w p e t i) (sum_of (map (λ p. signed_value w p e t i) ps)) a b (cond-false (out-SignedTerm p).minus (option_map neg_ℤ x) x plain ∙ first) more,
      λ minus. let turned : neg_ℤ a +ℤ b ≡ b -ℤ a = omega (arith, ints) in
          value-Sum w (p ∷ ps) e t i
          ∙ plus_parts (signed_value w p e t i) (sum_of (map (λ p. signed_value w p e t i) ps)) (neg_ℤ a) b
          (cond-true (out-SignedTerm p).minus (option_map neg_ℤ x) x minus ∙ ap (option_map neg_ℤ) first) more ∙ ap Some turned,
    )

-- reads
indexes_are : (w : World) (ds : List ℕ) (args : List Term) (vs : List ℕ) (e : List ℤ) (t : List ℕ) (i : ℕ) → length args ≡ length ds → length vs ≡ length ds →
    ((k d : ℕ) → slice_get ds k ≡ Some d → d < length w.domains) →
    ((k : ℕ) (d : ℕ) (domain : Domain) (v : ℕ) (x : Term) → slice_get ds k ≡ Some d → slice_get w.domains d ≡ Some domain → slice_get vs k ≡ Some v → slice_get args k ≡ Some x →
    (v < length (values_of domain.kind)) × (value w x e t i ≡ Some (number_of_index domain.kind v))) →
    indexes w.domains ds (map (λ x. value w x e t i) args) ≡ Some vs
indexes_are w [] [] [] e t i enough many there each = refl
indexes_are w [] (x ∷ args) vs e t i enough many there each = absurd (omega arith)
indexes_are w [] [] (v ∷ vs) e t i enough many there each = absurd (omega arith)
indexes_are w (d ∷ ds) [] vs e t i enough many there each = absurd (omega arith)
indexes_are w (d ∷ ds) (x ∷ args) [] e t i enough many there each = absurd (omega arith)
indexes_are w (d ∷ ds) (x ∷ args) (v ∷ vs) e t i enough many there each =
    let domain = get_within w.domains d (there 0 d refl) in
    let here = each 0 d domain.0 v x refl domain.1 refl refl in
    let size = ap length (values_are domain.0.kind) ∙ length-integers (first_of domain.0.kind) (count_of_values domain.0.kind) in
    let at = index_of_value w.domains d domain.0 v (number_of_index domain.0.kind v) domain.1 (omega (arith, here.0, size)) (number_is domain.0.kind v) in
    let rest = indexes_are w ds args vs e t i (omega arith) (omega arith) (λ k d is. there (suc k) d is) (λ k d domain v x dt at vt xt. each (suc k) d domain v x dt at vt xt) in
    ap (λ u. indexes w.domains (d ∷ ds) (u ∷ map (λ x. value w x e t i) args)) here.1
    ∙ ap (option_and_then (λ v. option_map (λ vs. v ∷ vs) (indexes w.domains ds (map (λ x. value w x e t i) args)))) at
    ∙ ap (option_map (λ vs. v ∷ vs)) rest

-- what a cell of a table reads as
pub cell_reads : (w : World) (c : Cell) (item : Item) (domain : Domain) (t : List ℕ) (n v : ℕ) → slice_get w.items c.item ≡ Some item → slice_get w.domains item.value ≡ Some domain →
    IsTable w t → slice_get (cells_of w) n ≡ Some c → slice_get t n ≡ Some v → number_at w t c ≡ Some (first_of domain.kind +ℤ pos v)
cell_reads w c item domain t n v at value_at_ table place entry =
    let values = values_from_item w c item at in
    let size = ap length values ∙ size_at w.domains item.value domain value_at_ in
    let below = entry_below w t n v c table place entry in
    ap (option_and_then (λ index. slice_get (cell_values w c) index)) (entry_is_value w t n c table place ∙ entry)
    ∙ ap (λ zs. slice_get zs v) values ∙ value_of_index w.domains item.value domain v value_at_ (omega (arith, below, size))

pub read_law : (w : World) (number : ℕ) (item : Item) (domain : Domain) (args : List Term) (vs : List ℕ) (e : List ℤ) (t : List ℕ) (i n v : ℕ) →
    slice_get w.items number ≡ Some item → slice_get w.domains item.value ≡ Some domain → ((k d : ℕ) → slice_get item.args k ≡ Some d → d < length w.domains) →
    AreArguments w item args vs e t i → IsTable w t → slice_get (cells_of w) n ≡ Some (the_cell number vs i) → slice_get t n ≡ Some v →
    value w (term.Read number args) e t i ≡ Some (number_of_index domain.kind v)
read_law w number item domain args vs e t i n v at value_at_ there are table place entry =
    value-Read w number args e t i
    ∙ ap (λ o. option_and_then (number_at w t) (cell_of_item w number o (map (λ x. value w x e t i) args) i)) at
    ∙ ap (λ o. option_and_then (number_at w t) (option_map (λ vs. the_cell number vs i) o)) (indexes_are w item.args args vs e t i are.enough are.as_many there are.each)
    ∙ cell_reads w (the_cell number vs i) item domain t n v at value_at_ table place entry
    ∙ ap Some (sym (number_is domain.kind v))

no_indexes : (w : World) (ds : List ℕ) (zs : List (Option ℤ)) (k d : ℕ) (domain : Domain) (z : ℤ) → slice_get ds k ≡ Some d → slice_get w.domains d ≡ Some domain →
    slice_get zs k ≡ Some (Some z) → (IsValue domain.kind z → ⊥) → indexes w.domains ds zs ≡ None
no_indexes w [] zs k d domain z dt at zt outside = absurd (none-some d dt)
no_indexes w (c ∷ ds) [] k d domain z dt at zt outside = refl
no_indexes w (c ∷ ds) (None ∷ zs) k d domain z dt at zt outside = refl
no_indexes w (c ∷ ds) (Some y ∷ zs) zero d domain z dt at zt outside =
    let same_d = same_Some c d dt in
    let same_z = same_Some y z (same_Some (Some y) (Some z) zt) in
    let none = no_index w.domains d domain z at (λ m inside is. outside (value_at_first domain.kind z m inside is)) in
    ap (option_and_then (λ v. option_map (λ vs. v ∷ vs) (indexes w.domains ds zs))) (ap (λ d. index_of (values_in w.domains d) y) same_d ∙ ap (index_of (values_in w.domains d)) same_z ∙ none)
no_indexes w (c ∷ ds) (Some y ∷ zs) (suc k) d domain z dt at zt outside =
    rw (no_indexes w ds zs k d domain z dt at zt outside) (nothing (index_of (values_in w.domains c) y))
  where
    nothing : (o : Option ℕ) → option_and_then (λ v. option_map (λ vs. v ∷ vs) None) o ≡ None
    nothing None = refl
    nothing (Some v) = refl

pub outside_law : (w : World) (number : ℕ) (item : Item) (domain : Domain) (args : List Term) (e : List ℤ) (t : List ℕ) (i k d : ℕ) (x : Term) (z : ℤ) →
    slice_get w.items number ≡ Some item → slice_get item.args k ≡ Some d → slice_get w.domains d ≡ Some domain → slice_get args k ≡ Some x →
    value w x e t i ≡ Some z → (IsValue domain.kind z → ⊥) → value w (term.Read number args) e t i ≡ None
outside_law w number item domain args e t i k d x z at dt domain_at xt is outside =
    value-Read w number args e t i
    ∙ ap (λ o. option_and_then (number_at w t) (cell_of_item w number o (map (λ x. value w x e t i) args) i)) at
    ∙ ap (λ o. option_and_then (number_at w t) (option_map (λ vs. the_cell number vs i) o))
    (no_indexes w item.args (map (λ x. value w x e t i) args) k d domain z dt domain_at
    (slice_get-map (λ x. value w x e t i) args k ∙ ap (option_map (λ x. value w x e t i)) xt ∙ ap Some is) outside)
