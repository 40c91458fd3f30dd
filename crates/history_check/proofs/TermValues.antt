-- What `value_of`, `read` and `sum` answer, by the parts of a term.
use Rattle.std.proofs.Common.{◌≡◌, ℕ, ◌+◌, ◌<◌, ◌≤◌, ℤ, pos, ◌+ℤ◌, ◌*ℤ◌, nat_abs, List, map, length, take, get_or, sum, Option, Some, slice_get, to_z, of_z, w64, subst, refl, sym, ap, ◌∙◌, arith}
use Rattle.std.specs.Option.{option_map, option_and_then}
use Rattle.std.proofs.lemmas.Int.{ints}
use Rattle.std.proofs.lemmas.Option.{slice_get-get_or, slice_get_within, same_Some}
use Rattle.trio_types.specs.declared.spec.Item.{Item}
use Rattle.trio_types.specs.declared.spec.Spec.{Spec}
use Rattle.trio_types.specs.declared.formula.SignedTerm.{SignedTerm, out-SignedTerm}
use Rattle.trio_types.specs.declared.formula.Term.{Term}
use Rattle.trio_types.specs.declared.formula.Term.TheVariants as term
use Rattle.trio_types.specs.World.{World, values_in}
use Rattle.trio_types.specs.Cells.{the_cell, number_at}
use Rattle.trio_types.specs.Values.{value, index_of, indexes, sum_of}
use Rattle.trio_types.specs.Verdict.{world_of, parts_of}
use Rattle.trio_types.proofs.Arguments.{ArgumentsOf, arguments_of, element_at, index_passed, mapped_at}
use Rattle.trio_types.proofs.Bounded.{near_of, own_more, passed, product_fits, product_passed, signed, signed_abs, signed_some, sum_more, triangle}
use Rattle.trio_types.proofs.Reading.{read_is}
use Rattle.trio_types.proofs.Specs.{formed}
use Rattle.trio_types.proofs.ValueAt.{signed_value, value-Number, value-Value, value-Var, value-Times}
use Rattle.history_check.specs.declared.interpretation.Interpretation.{Interpretation}
use Rattle.history_check.specs.Fits.{AreValues, TermFits, IsWithin, IsBounded}
use Rattle.history_check.proofs.TermsFit.{small_value, read_item, read_length, read_arg, sum_part, own_bound, front_bounded, times_part, times_within, times_bounded, var_inside, var_within, value_within, number_within}
use mir.Val.{SFits}

abbrev pub valued : Interpretation → ℕ → Term → Option ℤ
valued under i x = value (world_of under.spec.now) x under.values.now under.table.now i

-- a term fits under an interpretation
abbrev pub FitsUnder : Interpretation → Term → Type 0
FitsUnder under x = TermFits (world_of under.spec.now) x under.values.now

pub fits_as : {w : World} {x y : Term} {e : List ℤ} → TermFits w x e → x ≡ y → TermFits w y e
fits_as {w = w} {e = e} fits is = subst (λ x. TermFits w x e) is fits

-- what an arm answers: a value of the term that the arm is of, within its bound
pub record Told (under : Interpretation) (i : ℕ) (x : Term) (answer : ℤ) : Type 0 where
  pub is : Some answer ≡ valued under i x
  pub bounded : IsBounded (world_of under.spec.now) x under.values.now (Some answer)

told : (under : Interpretation) (i : ℕ) (x y : Term) (z answer : ℤ) → x ≡ y → z ≡ answer → valued under i y ≡ Some z →
    ((vs : List ℕ) → AreValues (world_of under.spec.now) vs under.values.now → IsWithin (world_of under.spec.now) y vs z) → Told under i x answer
told under i x y z answer is same value_is within = record {
  is = sym (ap (valued under i) is ∙ value_is ∙ ap Some same);
  bounded = λ vs are a answer_is.
      subst (λ x. IsWithin (world_of under.spec.now) x vs a) (sym is) (subst (IsWithin (world_of under.spec.now) y vs) (same ∙ same_Some answer a answer_is) (within vs are));
}

pub number_told : (under : Interpretation) (i n : ℕ) (x : Term) (answer : ℤ) → x ≡ term.Number n → pos n ≡ answer → Told under i x answer
number_told under i n x answer is same =
    let w = world_of under.spec.now in
    told under i x (term.Number n) (pos n) answer is same (value-Number w n under.values.now under.table.now i) (λ vs are. number_within w n vs (pos n) refl)

pub value_told : (under : Interpretation) (i d v : ℕ) (x : Term) (answer : ℤ) → FitsUnder under x → x ≡ term.Value d v → pos v ≡ answer → Told under i x answer
value_told under i d v x answer fits is same =
    let w = world_of under.spec.now in
    let e = under.values.now in
    told under i x (term.Value d v) (pos v) answer is same (value-Value w d v e under.table.now i) (λ vs are. value_within w d v e (fits_as fits is) vs (pos v) refl)

pub var_told : (under : Interpretation) (i level : ℕ) (x : Term) → FitsUnder under x → x ≡ term.Var level → Told under i x (to_z w64 (of_z w64 (get_or under.values.now level (pos 0))))
var_told under i level x fits is =
    let w = world_of under.spec.now in
    let e = under.values.now in
    let var_fits = fits_as fits is in
    let z = get_or e level (pos 0) in
    let at = slice_get-get_or e level (pos 0) (var_inside w level e var_fits) in
    let near = var_within w level e var_fits.variables var_fits.are_values z at in
    told under i x (term.Var level) z (to_z w64 (of_z w64 z)) is (passed z (omega (arith, near.most, var_fits.bounded))) (value-Var w level e under.table.now i) (λ vs are. var_within w level e vs are z at)

-- a product, by the value of its factor
pub record Product (under : Interpretation) (i : ℕ) (x : Term) (a z : ℤ) : Type 0 where
  pub fits : SFits w64 (a *ℤ to_z w64 (of_z w64 z))
  pub answer : Told under i x (to_z w64 (of_z w64 (a *ℤ to_z w64 (of_z w64 z))))

pub product : (under : Interpretation) (i n : ℕ) (x part factor : Term) (a z : ℤ) (o : Option ℤ) → FitsUnder under x → x ≡ term.Times n factor → part ≡ factor → a ≡ pos n → o ≡ valued under i part →
    IsBounded (world_of under.spec.now) part under.values.now o → o ≡ Some z → Product under i x a z
product under i n x part factor a z o fits is part_is a_is value_is bounded some =
    let w = world_of under.spec.now in
    let e = under.values.now in
    let times_fits = fits_as fits is in
    let within = λ (vs : List ℕ) (are : AreValues w vs e). subst (λ x. IsWithin w x vs z) part_is (bounded vs are z some) in
    let factor_fits = times_part w n factor e times_fits in
    let b_is = sym (passed z (omega (arith, (within factor_fits.variables factor_fits.are_values).most, factor_fits.bounded))) in
    let small = times_bounded w n factor e times_fits z (within times_fits.variables times_fits.are_values) in
    record {
      fits = product_fits a (to_z w64 (of_z w64 z)) z n a_is b_is small;
      answer = told under i x (term.Times n factor) (pos n *ℤ z) (to_z w64 (of_z w64 (a *ℤ to_z w64 (of_z w64 z)))) is (product_passed a (to_z w64 (of_z w64 z)) z n a_is b_is small)
          (value-Times w n factor e under.table.now i ∙ ap (option_map (λ z. pos n *ℤ z)) (ap (valued under i) (sym part_is) ∙ sym value_is ∙ some))
          (λ vs are. times_within w n factor vs z (pos n *ℤ z) (within vs are) refl);
    }

-- reads
pub read_declared : {w : World} {e : List ℤ} → (n : ℕ) (args : List Term) → TermFits w (term.Read n args) e → n < length w.items
read_declared {w = w} {e = e} n args fits = let r = read_item w n args e fits in slice_get_within w.items n r.0 r.1

pub read_arguments : (spec : Spec) (n : ℕ) (args : List Term) {e : List ℤ} {item : Item} {ds : List ℕ} → TermFits (world_of spec) (term.Read n args) e → slice_get spec.items n ≡ Some item → ds ≡ item.args →
    ArgumentsOf spec.domains item (length args) ds
read_arguments spec n args {e = e} {item = item} {ds = ds} fits at are =
    arguments_of (parts_of spec) (formed spec) n (length args) item ds at (read_length (world_of spec) n args e fits item at) are

pub argument_fits : {w : World} {e : List ℤ} → (n : ℕ) (args : List Term) → TermFits w (term.Read n args) e → (k : ℕ) (x : Term) → k < length args → x ≡ get_or args k x → TermFits w x e
argument_fits {w = w} {e = e} n args fits k x inside is = read_arg w n args e fits k x (element_at args k x inside is)

pub read_by : (under : Interpretation) (n : ℕ) (args : List Term) (i : ℕ) (item : Item) (o : Option (List ℕ)) → slice_get under.spec.now.items n ≡ Some item →
    indexes under.spec.now.domains item.args (map (valued under i) args) ≡ o → valued under i (term.Read n args) ≡ option_and_then (number_at (world_of under.spec.now) under.table.now) (option_map (λ vs. the_cell n vs i) o)
read_by under n args i = read_is (world_of under.spec.now) n args under.values.now under.table.now i

-- the value of an argument, and what the look-up of its index found
pub record ArgumentIndex (under : Interpretation) (i : ℕ) (ds : List ℕ) (args : List Term) (k : ℕ) (z : ℤ) (found : Option ℕ) : Type 0 where
  pub value_at : slice_get (map (valued under i) args) k ≡ Some (Some z)
  pub index_is : index_of (values_in under.spec.now.domains (get_or ds k 0)) z ≡ found

pub argument_index : (under : Interpretation) (i : ℕ) (ds : List ℕ) (args : List Term) (k : ℕ) (x : Term) (z : ℤ) (o : Option ℤ) (found : Option ℕ) → FitsUnder under x → k < length args → x ≡ get_or args k x → o ≡ valued under i x →
    IsBounded (world_of under.spec.now) x under.values.now o → o ≡ Some z → found ≡ index_of (values_in under.spec.now.domains (get_or ds k 0)) (to_z w64 (of_z w64 z)) → ArgumentIndex under i ds args k z found
argument_index under i ds args k x z o found fits inside at value_is bounded some is = record {
  value_at = mapped_at (valued under i) args k x (Some z) inside at (sym value_is ∙ some);
  index_is = index_passed under.spec.now.domains under.spec.now.domains (get_or ds k 0) z found refl (small_value fits bounded some) is;
}

-- sums
pub part_fits : {w : World} {e : List ℤ} → (parts : List SignedTerm) → TermFits w (term.Sum parts) e → (k : ℕ) (p : SignedTerm) → k < length parts → p ≡ get_or parts k p → TermFits w (out-SignedTerm p).term e
part_fits {w = w} {e = e} parts fits k p inside is = sum_part w parts e fits k p (element_at parts k p inside is)

abbrev pub part_valued : Interpretation → ℕ → SignedTerm → Option ℤ
part_valued under i p = signed_value (world_of under.spec.now) p under.values.now under.table.now i

-- the sum of the first parts, and its bound
pub record Summed (under : Interpretation) (i : ℕ) (parts : List SignedTerm) (k : ℕ) (so : ℤ) : Type 0 where
  pub is : sum_of (map (part_valued under i) (take k parts)) ≡ Some so
  pub small : (vs : List ℕ) → AreValues (world_of under.spec.now) vs under.values.now → nat_abs so ≤ sum (map (own_bound (world_of under.spec.now) vs) (take k parts))

-- with one part more
pub record SummedMore (under : Interpretation) (i : ℕ) (parts : List SignedTerm) (k : ℕ) (so addend : ℤ) : Type 0 where
  pub fits : SFits w64 (so +ℤ to_z w64 (of_z w64 addend))
  pub more : Summed under i parts (k + 1) (to_z w64 (of_z w64 (so +ℤ to_z w64 (of_z w64 addend))))

pub summed_more : {under : Interpretation} {i : ℕ} {parts : List SignedTerm} {k : ℕ} {so : ℤ} → Summed under i parts k so → (p : SignedTerm) (o : Option ℤ) (z addend : ℤ) → FitsUnder under (term.Sum parts) → k < length parts → p ≡ get_or parts k p →
    o ≡ valued under i (out-SignedTerm p).term → IsBounded (world_of under.spec.now) (out-SignedTerm p).term under.values.now o → o ≡ Some z → addend ≡ signed (out-SignedTerm p).minus (to_z w64 (of_z w64 z)) →
    SummedMore under i parts k so addend
summed_more {under = under} {i = i} {parts = parts} {k = k} {so = so} so_far p o z addend fits inside at value_is bounded some addend_is =
    let w = world_of under.spec.now in
    let e = under.values.now in
    let minus = (out-SignedTerm p).minus in
    let small = small_value (part_fits parts fits k p inside at) bounded some in
    let before = so_far.small fits.variables fits.are_values in
    let near = near_of so (omega (arith, before, front_bounded w parts e fits k)) in
    let near_addend = near_of (signed minus z) (omega (arith, small, signed_abs minus z)) in
    let is : addend ≡ signed minus z = addend_is ∙ ap (signed minus) (sym (passed z small)) in
    let total : so +ℤ signed minus z ≡ to_z w64 (of_z w64 (so +ℤ to_z w64 (of_z w64 addend))) =
    omega (arith, ints, near.not_far_back, near.not_far_on, near_addend.not_far_back, near_addend.not_far_on, is) in
    record {
      fits = omega (arith, ints, near.not_far_back, near.not_far_on, near_addend.not_far_back, near_addend.not_far_on, is);
      more = record {
        is = sum_more (part_valued under i) parts k p so (signed minus z) inside at so_far.is (signed_some minus (valued under i (out-SignedTerm p).term) z (sym value_is ∙ some)) ∙ ap Some total;
        small = λ vs are.
            omega (arith, ap nat_abs total, triangle so (signed minus z), signed_abs minus z, (bounded vs are z some).own, own_more (own_bound w vs) parts k p inside at, so_far.small vs are);
      };
    }
