-- The values and the bounds of terms that fit.
use Rattle.std.proofs.Common.{◌≡◌, ℕ, ◌*◌, ◌<◌, ◌≤◌, ℤ, pos, ◌*ℤ◌, nat_abs, true, not, ◌&&◌, List, map, length, take, sum, Option, None, Some, slice_get, refl, sym, ap, ◌∙◌, arith}
use Rattle.std.specs.List.{list_all, flat_map}
use Rattle.std.specs.Option.{option_map}
use Rattle.std.proofs.lemmas.Bool.{false≢true, and_parts, eqb-true}
use Rattle.std.proofs.lemmas.Int.{unsigned_abs-mul}
use Rattle.std.proofs.Math.Nat.{mul-le-mul_left}
use Rattle.std.proofs.lemmas.List.{length-map}
use Rattle.std.proofs.lemmas.List.Sums.{sum_by-take-le, sum-map}
use Rattle.std.proofs.lemmas.Option.{same_Some, slice_get-map, slice_get_within}
use Rattle.trio_types.specs.declared.spec.Item.{Item}
use Rattle.trio_types.specs.declared.formula.SignedTerm.{SignedTerm, out-SignedTerm}
use Rattle.trio_types.specs.declared.formula.Term.{Term}
use Rattle.trio_types.specs.declared.formula.Term.TheVariants as term
use Rattle.trio_types.specs.declared.formula.Term.TheOpen as open_term
use Rattle.trio_types.specs.World.{World, values_in}
use Rattle.trio_types.specs.Kinds.{Gathered, gathered, gather_term, required, part, is_right, is_arity, has_kind, kind_of_constant, args_of, argument_uses}
use Rattle.trio_types.specs.Bounds.{Bound, bound_of, bounded, most_of, domain_bound, variable_bound, item_bound}
use Rattle.trio_types.proofs.Lists.{all_right, all_flat, get_within, map-map}
use Rattle.trio_types.proofs.KindsAt.{gathered-Value, gathered-Var, gathered-Read, gathered-Sum, gathered-Times}
use Rattle.trio_types.proofs.BoundsAt.{bound_of-Number, bound_of-Value, bound_of-Var, bound_of-Read, bound_of-Sum, bound_of-Times}
use Rattle.trio_types.proofs.Reading.{constant_value, domain_above, greatest_above}
use Rattle.history_check.specs.Fits.{AreValues, TermFits, IsWithin, IsBounded}

-- the parts of a bound
pub within : (w : World) (x : Term) (vs : List ℕ) (z : ℤ) (own parts : ℕ) → bound_of w vs x ≡ bounded own parts → nat_abs z ≤ own → IsWithin w x vs z
within w x vs z own parts is small = record {
  own = omega (arith, ap (λ (b : Bound). b.own) is, small);
  most = omega (arith, ap (λ (b : Bound). b.most) is, small);
}

-- variables
pub var_inside : (w : World) (level : ℕ) (e : List ℤ) → TermFits w (term.Var level) e → level < length e
var_inside w level e fits = inside (slice_get fits.variables level) refl
  where
    inside : (o : Option ℕ) → slice_get fits.variables level ≡ o → level < length e
    inside (Some d) is = omega (arith, fits.are_values.as_many, slice_get_within fits.variables level d is)
    inside None is =
        let uses = ap (λ (g : Gathered). g.uses fits.is_inside) (gathered-Var w fits.variables level) in
        let wrong = ap (list_all is_right) (sym uses) ∙ fits.right in
        absurd (false≢true (rw is at wrong))

pub var_within : (w : World) (level : ℕ) (e : List ℤ) (vs : List ℕ) → AreValues w vs e → (z : ℤ) → slice_get e level ≡ Some z → IsWithin w (term.Var level) vs z
var_within w level e vs are z at =
    let d = get_within vs level (omega (arith, are.as_many, slice_get_within e level z at)) in
    let value_at = are.each level d.0 z d.1 at in
    within w (term.Var level) vs z (domain_bound w d.0) 0 (bound_of-Var w vs level ∙ ap (λ o. bounded (variable_bound w o) 0) d.1) (domain_above w d.0 value_at.0 z value_at.1)

pub value_within : (w : World) (d v : ℕ) (e : List ℤ) → TermFits w (term.Value d v) e → (vs : List ℕ) → (z : ℤ) → z ≡ pos v → IsWithin w (term.Value d v) vs z
value_within w d v e fits vs z is =
    let uses = ap (λ (g : Gathered). list_all is_right (g.uses fits.is_inside)) (gathered-Value w fits.variables d v) in
    let has = (and_parts (has_kind (kind_of_constant w d v)) true (sym uses ∙ fits.right)).0 in
    within w (term.Value d v) vs z (domain_bound w d) 0 (bound_of-Value w vs d v)
    (omega (arith, ap nat_abs is, domain_above w d v (pos v) (constant_value w d v has)))

pub number_within : (w : World) (n : ℕ) (vs : List ℕ) (z : ℤ) → z ≡ pos n → IsWithin w (term.Number n) vs z
number_within w n vs z is = within w (term.Number n) vs z n 0 (bound_of-Number w vs n) (omega (arith, ap nat_abs is))

-- reads
read_uses : (w : World) (n : ℕ) (args : List Term) (e : List ℤ) (fits : TermFits w (term.Read n args) e) →
    list_all is_right ((gather_term w fits.variables (open_term.Read n (map (gathered w fits.variables) args))).uses fits.is_inside) ≡ true
read_uses w n args e fits = sym (ap (λ (g : Gathered). list_all is_right (g.uses fits.is_inside)) (gathered-Read w fits.variables n args)) ∙ fits.right

pub read_item : (w : World) (n : ℕ) (args : List Term) (e : List ℤ) → TermFits w (term.Read n args) e →
    (item : Item) × (slice_get w.items n ≡ Some item) × (length item.args ≡ length args)
read_item w n args e fits = there (slice_get w.items n) refl
  where
    first : (not fits.is_inside && is_arity (option_map (λ item. length item.args) (slice_get w.items n)) (length (map (gathered w fits.variables) args))) ≡ true
    first = (and_parts _ _ (read_uses w n args e fits)).0

    arity : is_arity (option_map (λ item. length item.args) (slice_get w.items n)) (length (map (gathered w fits.variables) args)) ≡ true
    arity = (and_parts (not fits.is_inside) (is_arity (option_map (λ item. length item.args) (slice_get w.items n)) (length (map (gathered w fits.variables) args))) first).1

    there : (o : Option Item) → slice_get w.items n ≡ o → (item : Item) × (slice_get w.items n ≡ Some item) × (length item.args ≡ length args)
    there None is = absurd (false≢true (rw is at arity))
    there (Some item) is =
        let same : length item.args ≡ length (map (gathered w fits.variables) args) = eqb-true (length item.args) (length (map (gathered w fits.variables) args)) (rw is at arity) in
        (item, is, same ∙ length-map args (gathered w fits.variables))

pub read_arg : (w : World) (n : ℕ) (args : List Term) (e : List ℤ) → TermFits w (term.Read n args) e → (k : ℕ) (x : Term) → slice_get args k ≡ Some x → TermFits w x e
read_arg w n args e fits k x at =
    let vs = fits.variables in
    let gs = map (gathered w vs) args in
    let rest = (and_parts _ _ (read_uses w n args e fits)).1 in
    let inner = all_right is_right (argument_uses w (args_of (slice_get w.items n)) gs) (flat_map (λ (a : Gathered). a.uses true) gs) rest in
    let most = ap (λ (b : Bound). b.most) (bound_of-Read w vs n args) in
    let above = greatest_above (map (λ (b : Bound). b.most) (map (bound_of w vs) args)) k (bound_of w vs x).most
    (slice_get-map (λ (b : Bound). b.most) (map (bound_of w vs) args) k ∙ ap (option_map (λ (b : Bound). b.most)) (slice_get-map (bound_of w vs) args k ∙ ap (option_map (bound_of w vs)) at)) in
    record {
      variables = vs;
      are_values = fits.are_values;
      is_inside = true;
      right = all_flat is_right (λ (a : Gathered). a.uses true) gs inner k (gathered w vs x) (slice_get-map (gathered w vs) args k ∙ ap (option_map (gathered w vs)) at);
      bounded = omega (arith, most, above, fits.bounded);
    }

pub read_within : (w : World) (n : ℕ) (args : List Term) (vs : List ℕ) (item : Item) (z : ℤ) (m : ℕ) → slice_get w.items n ≡ Some item → slice_get (values_in w.domains item.value) m ≡ Some z →
    IsWithin w (term.Read n args) vs z
read_within w n args vs item z m at is =
    let own = ap (item_bound w) at in
    within w (term.Read n args) vs z (item_bound w (slice_get w.items n)) (most_of (map (bound_of w vs) args)) (bound_of-Read w vs n args)
    (omega (arith, own, domain_above w item.value m z is))

-- sums
pub sum_part : (w : World) (parts : List SignedTerm) (e : List ℤ) → TermFits w (term.Sum parts) e → (k : ℕ) (p : SignedTerm) → slice_get parts k ≡ Some p → TermFits w (out-SignedTerm p).term e
sum_part w parts e fits k p at =
    let vs = fits.variables in
    let inner = λ (p : SignedTerm). gathered w vs (out-SignedTerm p).term in
    let gs = map inner parts in
    let all = sym (ap (λ (g : Gathered). list_all is_right (g.uses fits.is_inside)) (gathered-Sum w vs parts)) ∙ fits.right in
    let deep = all_right is_right (map (λ (g : Gathered). required part g.kind) gs) (flat_map (λ (g : Gathered). g.uses fits.is_inside) gs) all in
    let most = ap (λ (b : Bound). b.most) (bound_of-Sum w vs parts) in
    let bound = λ (p : SignedTerm). bound_of w vs (out-SignedTerm p).term in
    let above = greatest_above (map (λ (b : Bound). b.most) (map bound parts)) k (bound p).most
    (slice_get-map (λ (b : Bound). b.most) (map bound parts) k ∙ ap (option_map (λ (b : Bound). b.most)) (slice_get-map bound parts k ∙ ap (option_map bound) at)) in
    record {
      variables = vs;
      are_values = fits.are_values;
      is_inside = fits.is_inside;
      right = all_flat is_right (λ (g : Gathered). g.uses fits.is_inside) gs deep k (inner p) (slice_get-map inner parts k ∙ ap (option_map inner) at);
      bounded = omega (arith, most, above, fits.bounded);
    }

abbrev pub own_bound : World → List ℕ → SignedTerm → ℕ
own_bound w vs p = (bound_of w vs (out-SignedTerm p).term).own

-- the bounds of the parts so far are no more than the limit
pub front_bounded : (w : World) (parts : List SignedTerm) (e : List ℤ) (fits : TermFits w (term.Sum parts) e) (k : ℕ) → sum (map (own_bound w fits.variables) (take k parts)) ≤ 1000000000000
front_bounded w parts e fits k =
    let vs = fits.variables in
    let most = ap (λ (b : Bound). b.most) (bound_of-Sum w vs parts) in
    let whole = sum-map (own_bound w vs) parts in
    let owns = ap sum (map-map (λ (b : Bound). b.own) (λ (p : SignedTerm). bound_of w vs (out-SignedTerm p).term) parts) in
    omega (arith, most, owns, whole, sum-map (own_bound w vs) (take k parts), sum_by-take-le (own_bound w vs) parts k, fits.bounded)

pub sum_within : (w : World) (parts : List SignedTerm) (vs : List ℕ) (z : ℤ) → nat_abs z ≤ sum (map (own_bound w vs) parts) → IsWithin w (term.Sum parts) vs z
sum_within w parts vs z small =
    let bound = λ (p : SignedTerm). bound_of w vs (out-SignedTerm p).term in
    let owns = ap sum (map-map (λ (b : Bound). b.own) bound parts) in
    within w (term.Sum parts) vs z (sum (map (λ (b : Bound). b.own) (map bound parts))) (most_of (map bound parts)) (bound_of-Sum w vs parts) (omega (arith, owns, small))

-- products
pub times_part : (w : World) (n : ℕ) (x : Term) (e : List ℤ) → TermFits w (term.Times n x) e → TermFits w x e
times_part w n x e fits =
    let vs = fits.variables in
    let all = sym (ap (λ (g : Gathered). list_all is_right (g.uses fits.is_inside)) (gathered-Times w vs n x)) ∙ fits.right in
    let most = ap (λ (b : Bound). b.most) (bound_of-Times w vs n x) in
    record {
      variables = vs;
      are_values = fits.are_values;
      is_inside = fits.is_inside;
      right = (and_parts _ _ all).1;
      bounded = omega (arith, most, fits.bounded);
    }

product_within : (w : World) (n : ℕ) (x : Term) (vs : List ℕ) (z : ℤ) → IsWithin w x vs z → nat_abs (pos n *ℤ z) ≤ n * (bound_of w vs x).own
product_within w n x vs z small =
    let e : nat_abs (pos n *ℤ z) ≡ n * nat_abs z = unsigned_abs-mul (pos n) z in
    let less : n * nat_abs z ≤ n * (bound_of w vs x).own = mul-le-mul_left n small.own in
    omega (arith, e, less)

pub times_within : (w : World) (n : ℕ) (x : Term) (vs : List ℕ) (z y : ℤ) → IsWithin w x vs z → y ≡ pos n *ℤ z → IsWithin w (term.Times n x) vs y
times_within w n x vs z y small is =
    within w (term.Times n x) vs y (n * (bound_of w vs x).own) (bound_of w vs x).most (bound_of-Times w vs n x) (omega (arith, ap nat_abs is, product_within w n x vs z small))

pub times_bounded : (w : World) (n : ℕ) (x : Term) (e : List ℤ) (fits : TermFits w (term.Times n x) e) (z : ℤ) → IsWithin w x fits.variables z → nat_abs (pos n *ℤ z) ≤ 1000000000000
times_bounded w n x e fits z small =
    let most = ap (λ (b : Bound). b.most) (bound_of-Times w fits.variables n x) in
    omega (arith, most, fits.bounded, product_within w n x fits.variables z small)

pub read_length : (w : World) (n : ℕ) (args : List Term) (e : List ℤ) → TermFits w (term.Read n args) e → (item : Item) → slice_get w.items n ≡ Some item → length item.args ≡ length args
read_length w n args e fits item at =
    let r = read_item w n args e fits in
    ap (λ (item : Item). length item.args) (same_Some item r.0 (sym at ∙ r.1)) ∙ r.2

-- a value is no greater than the limit
pub small_value : {w : World} {x : Term} {e : List ℤ} {o : Option ℤ} {z : ℤ} → TermFits w x e → IsBounded w x e o → o ≡ Some z → nat_abs z ≤ 1000000000000
small_value {z = z} fits bounded_ is = let small = bounded_ fits.variables fits.are_values z is in omega (arith, small.most, fits.bounded)
