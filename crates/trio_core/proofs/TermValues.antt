-- What the functions on terms answer, by the parts of a term.
use Rattle.std.proofs.Common.{◌≡◌, ℕ, ◌<◌, ℤ, pos, neg_ℤ, ◌*ℤ◌, Bool, if◌then◌else◌, List, map, length, get_or, Option, None, Some, slice_get, to_z, of_z, w64, subst, refl, sym, ap, ◌∙◌, arith}
use Rattle.std.proofs.lemmas.Bool.{ltb-true}
use Rattle.std.proofs.lemmas.Option.{slice_get_within}
use Rattle.trio_types.specs.declared.spec.Domain.{Domain}
use Rattle.trio_types.specs.declared.spec.Item.{Item}
use Rattle.trio_types.specs.declared.formula.SignedTerm.{SignedTerm, out-SignedTerm}
use Rattle.trio_types.specs.declared.formula.Term.{Term}
use Rattle.trio_types.specs.declared.formula.Term.TheVariants as term
use Rattle.trio_types.specs.World.{World, values_in}
use Rattle.trio_types.specs.Cells.{Cell, cells_of}
use Rattle.trio_types.specs.Parts.{declarations_of}
use Rattle.trio_types.specs.Values.{index_of, read_cell}
use Rattle.trio_types.proofs.Arguments.{ArgumentsOf, arguments_of, element_at, index_passed, mapped_at}
use Rattle.trio_types.proofs.Bounded.{passed}
use Rattle.trio_core.specs.declared.interpretation.Interpretation.{Interpretation}
use Rattle.trio_core.specs.declared.nodes.Core.{Core}
use Rattle.trio_core.specs.declared.nodes.Known.{Known}
use Rattle.trio_core.specs.declared.nodes.Known.TheVariants.{Nothing, One}
use Rattle.trio_core.specs.Three.{known_all, known_map, known_at, value3}
use Rattle.trio_core.specs.Stands.{world_of_core}
use Rattle.trio_core.specs.Fits.{NodeTermFits, IsCellOf, IsCellRead, IsKnownNear}
use Rattle.trio_core.proofs.KnownAt.{same_One, signed_one, value_if_known}
use Rattle.trio_core.proofs.NodesFit.{core_formed}
use Rattle.trio_core.proofs.TermsAt.{reaches-Var}
use Rattle.trio_core.proofs.TermsFit.{term_reaches, term_near, times_part, sum_part, read_item, read_length, read_arg, arg_known, arg_values, args_known, item_of_cell, read3_by_cell}
use Rattle.trio_core.proofs.Value3At.{value3-Number, value3-Value, value3-Var, value3-Times}

abbrev pub told_of : Interpretation → Cell → Known ℤ
told_of under = known_at (world_of_core under.core.now) under.doms.now

-- what is known of a term
abbrev pub known_value : Interpretation → ℕ → Term → Known ℤ
known_value under i x = value3 (world_of_core under.core.now) x under.values.now (told_of under) i

abbrev pub FitsUnder : Interpretation → Term → Type 0
FitsUnder under x = NodeTermFits (world_of_core under.core.now) x under.values.now

pub fits_as : {w : World} {x y : Term} {e : List ℤ} → NodeTermFits w x e → x ≡ y → NodeTermFits w y e
fits_as {w = w} {e = e} fits is = subst (λ x. NodeTermFits w x e) is fits

pub known_near : (under : Interpretation) (i : ℕ) (x : Term) (k : Known ℤ) → FitsUnder under x → k ≡ known_value under i x → IsKnownNear k
known_near under i x k fits told = λ z is. term_near (world_of_core under.core.now) under.doms.now x under.values.now i fits z (sym told ∙ is)

-- terms without parts
pub number_told : (under : Interpretation) (i n : ℕ) (x : Term) (answer : ℤ) → x ≡ term.Number n → pos n ≡ answer → One answer ≡ known_value under i x
number_told under i n x answer is same = sym (ap (known_value under i) is ∙ value3-Number (world_of_core under.core.now) n under.values.now (told_of under) i ∙ ap One same)

pub value_told : (under : Interpretation) (i d v : ℕ) (x : Term) (answer : ℤ) → x ≡ term.Value d v → pos v ≡ answer → One answer ≡ known_value under i x
value_told under i d v x answer is same = sym (ap (known_value under i) is ∙ value3-Value (world_of_core under.core.now) d v under.values.now (told_of under) i ∙ ap One same)

pub var_told : (under : Interpretation) (i level : ℕ) (x : Term) → FitsUnder under x → x ≡ term.Var level → One (to_z w64 (of_z w64 (get_or under.values.now level (pos 0)))) ≡ known_value under i x
var_told under i level x fits is =
    let z = get_or under.values.now level (pos 0) in
    let known = value3-Var (world_of_core under.core.now) level under.values.now (told_of under) i in
    sym (ap (known_value under i) is ∙ known ∙ ap One (passed z (known_near under i (term.Var level) (One z) (fits_as fits is) (sym known) z refl)))

pub var_inside : {w : World} {e : List ℤ} {x : Term} → (level : ℕ) → NodeTermFits w x e → x ≡ term.Var level → level < length e
var_inside {w = w} {e = e} level fits is =
    let whole = fits_as fits is in
    ltb-true level (length e) (sym (reaches-Var w level (length e) whole.reads) ∙ term_reaches w (term.Var level) e whole)

-- products
pub record Product (under : Interpretation) (i n : ℕ) (x part : Term) (k : Known ℤ) : Type 0 where
  pub fits : FitsUnder under part
  pub near : IsKnownNear k
  pub product_near : IsKnownNear (known_map (λ z. pos n *ℤ z) k)
  pub answer : known_map (λ z. pos n *ℤ z) k ≡ known_value under i x

pub product : (under : Interpretation) (i n : ℕ) (x part factor : Term) (k : Known ℤ) → FitsUnder under x → x ≡ term.Times n factor → part ≡ factor → k ≡ known_value under i part → Product under i n x part k
product under i n x part factor k fits is part_is told =
    let part_fits = fits_as (times_part (world_of_core under.core.now) n factor under.values.now (fits_as fits is)) (sym part_is) in
    let answer = ap (known_map (λ z. pos n *ℤ z)) (told ∙ ap (known_value under i) part_is) ∙ sym (value3-Times (world_of_core under.core.now) n factor under.values.now (told_of under) i) ∙ ap (known_value under i) (sym is) in
    record { fits = part_fits; near = known_near under i part k part_fits told; product_near = known_near under i x (known_map (λ z. pos n *ℤ z) k) fits answer; answer = answer }

-- sums
pub part_fits : {w : World} {e : List ℤ} → (parts : List SignedTerm) → NodeTermFits w (term.Sum parts) e → (k : ℕ) (p : SignedTerm) → k < length parts → p ≡ get_or parts k p → NodeTermFits w (out-SignedTerm p).term e
part_fits {w = w} {e = e} parts fits k p inside is = sum_part w parts e fits k p (element_at parts k p inside is)

abbrev pub signed_by : Bool → Known ℤ → Known ℤ
signed_by minus k = if minus then known_map neg_ℤ k else k

pub signed_near : (minus : Bool) (k s : Known ℤ) → IsKnownNear k → s ≡ signed_by minus k → IsKnownNear s
signed_near minus k s near told = λ z is. let one = signed_one minus k z (sym told ∙ is) in omega (arith, one.2, near one.0 one.1)

-- reads
pub read_declared : {w : World} {e : List ℤ} → (n : ℕ) (args : List Term) → NodeTermFits w (term.Read n args) e → n < length w.items
read_declared {w = w} {e = e} n args fits = let r = read_item w n args e fits in slice_get_within w.items n r.0 r.1

pub read_arguments : (core : Core) (n : ℕ) (args : List Term) {e : List ℤ} {item : Item} {ds : List ℕ} → NodeTermFits (world_of_core core) (term.Read n args) e → slice_get core.items n ≡ Some item → ds ≡ item.args →
    ArgumentsOf core.domains item (length args) ds
read_arguments core n args {e = e} {item = item} {ds = ds} fits at are =
    let w = world_of_core core in arguments_of (declarations_of w) (core_formed core) n (length args) item ds at (read_length w n args e fits item at) are

-- an argument, what is known of it, and the index that is looked up
abbrev pub known_args : Interpretation → ℕ → List Term → List (Option ℤ)
known_args under i args = arg_values (world_of_core under.core.now) under.values.now (told_of under) i args

pub record Argument (under : Interpretation) (i : ℕ) (args : List Term) (k : ℕ) (x : Term) : Type 0 where
  pub fits : FitsUnder under x
  pub value : ℤ
  pub known : known_value under i x ≡ One value

pub argument : (under : Interpretation) (i n : ℕ) (args : List Term) (k : ℕ) (x : Term) → FitsUnder under (term.Read n args) → k < length args → x ≡ get_or args k x → Argument under i args k x
argument under i n args k x fits inside is =
    let w = world_of_core under.core.now in
    let at = element_at args k x inside is in
    let known = arg_known w under.doms.now n args under.values.now i fits k x at in
    record { fits = read_arg w n args under.values.now fits k x at; value = known.0; known = known.1 }

pub record ArgumentIndex (under : Interpretation) (i : ℕ) (ds : List ℕ) (args : List Term) (k : ℕ) (z : ℤ) (found : Option ℕ) : Type 0 where
  pub value_at : slice_get (known_args under i args) k ≡ Some (Some z)
  pub index_is : index_of (values_in under.core.now.domains (get_or ds k 0)) z ≡ found

pub argument_index : (under : Interpretation) (i : ℕ) (ds : List ℕ) (args : List Term) (k : ℕ) (x : Term) (z : ℤ) (o : Known ℤ) (given : List Domain) (found : Option ℕ) → FitsUnder under x → k < length args → x ≡ get_or args k x →
    o ≡ known_value under i x → o ≡ One z → given ≡ under.core.now.domains → found ≡ index_of (values_in given (get_or ds k 0)) (to_z w64 (of_z w64 z)) → ArgumentIndex under i ds args k z found
argument_index under i ds args k x z o given found fits inside at told one same is = record {
  value_at = mapped_at (λ a. value_if_known (known_value under i a)) args k x (Some z) inside at (ap value_if_known (sym told ∙ one));
  index_is = index_passed under.core.now.domains given (get_or ds k 0) z found same (known_near under i x o fits told z one) is;
}

-- what all arguments of a read tell
abbrev pub IsRead : Interpretation → ℕ → ℕ → List Term → Option ℕ → Type 0
IsRead under i n args o = (zs : List (Option ℤ)) → known_all (map (known_value under i) args) ≡ One zs → IsCellRead (world_of_core under.core.now) n zs i o

all_known : (under : Interpretation) (i n : ℕ) (args : List Term) → FitsUnder under (term.Read n args) → known_all (map (known_value under i) args) ≡ One (known_args under i args)
all_known under i n args fits = args_known (world_of_core under.core.now) (told_of under) n args under.values.now i fits

pub is_read : (under : Interpretation) (i n : ℕ) (args : List Term) (o : Option ℕ) → FitsUnder under (term.Read n args) → IsCellRead (world_of_core under.core.now) n (known_args under i args) i o → IsRead under i n args o
is_read under i n args o fits is = λ zs known.
    subst (λ zs. IsCellRead (world_of_core under.core.now) n zs i o) (same_One (known_args under i args) zs (sym (all_known under i n args fits) ∙ known)) is

-- a read by its cell
pub record ReadBy (under : Interpretation) (i n : ℕ) (args : List Term) (number : ℕ) : Type 0 where
  pub cell_is : IsCellOf (world_of_core under.core.now) under.doms.now n number
  pub answer : (k : Known ℤ) → ((c : Cell) → slice_get (cells_of (world_of_core under.core.now)) number ≡ Some c → k ≡ told_of under c) → k ≡ known_value under i (term.Read n args)

pub read_by : (under : Interpretation) (i n : ℕ) (args : List Term) (number : ℕ) (cell : Cell) → FitsUnder under (term.Read n args) → read_cell (world_of_core under.core.now) n (known_args under i args) i ≡ Some cell →
    slice_get (cells_of (world_of_core under.core.now)) number ≡ Some cell → ReadBy under i n args number
read_by under i n args number cell fits is place =
    let w = world_of_core under.core.now in
    let known = read3_by_cell w under.doms.now n args under.values.now i fits (Some cell) is in
    record {
      cell_is = record {
        declared = read_declared n args fits;
        cell = cell;
        place = place;
        of_item = item_of_cell w n (known_args under i args) i cell is;
        near = known_near under i (term.Read n args) (told_of under cell) fits (sym known);
      };
      answer = λ k told. told cell place ∙ sym known;
    }

pub read_found : (under : Interpretation) (i n : ℕ) (args : List Term) (o : Option ℕ) (number : ℕ) → FitsUnder under (term.Read n args) → IsRead under i n args o → o ≡ Some number → ReadBy under i n args number
read_found under i n args o number fits told some =
    let there = subst (IsCellRead (world_of_core under.core.now) n (known_args under i args) i) some (told (known_args under i args) (all_known under i n args fits)) in
    read_by under i n args number there.0 fits there.1 there.2

pub read_nowhere : (under : Interpretation) (i n : ℕ) (args : List Term) (o : Option ℕ) → FitsUnder under (term.Read n args) → IsRead under i n args o → o ≡ None → Nothing ≡ known_value under i (term.Read n args)
read_nowhere under i n args o fits told none =
    sym (read3_by_cell (world_of_core under.core.now) under.doms.now n args under.values.now i fits None
    (subst (IsCellRead (world_of_core under.core.now) n (known_args under i args) i) none (told (known_args under i args) (all_known under i n args fits))))
