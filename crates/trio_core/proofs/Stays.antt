-- What is known of values and truths stays where more is known of cells.
use Rattle.std.proofs.Common.{◌≡◌, ℕ, ℤ, pos, neg_ℤ, ◌+ℤ◌, ◌*ℤ◌, Bool, true, false, if◌then◌else◌, List, [], ◌∷◌, Option, None, Some, map, refl, sym, ◌∙◌}
use Rattle.trio_base.specs.declared.operators.Rel.{Rel}
use Rattle.trio_types.specs.declared.formula.SignedTerm.{SignedTerm, out-SignedTerm}
use Rattle.trio_types.specs.declared.formula.Term.{Term}
use Rattle.trio_types.specs.World.{World}
use Rattle.trio_types.specs.Cells.{Cell}
use Rattle.trio_types.specs.Values.{read_cell}
use Rattle.trio_types.specs.Truth.{compares, at_distance}
use Rattle.trio_core.specs.declared.nodes.Three.{Three}
use Rattle.trio_core.specs.declared.nodes.Three.TheVariants as three
use Rattle.trio_core.specs.declared.nodes.Known.{Known}
use Rattle.trio_core.specs.declared.nodes.Known.TheVariants.{Nothing, Several, One}
use Rattle.trio_core.specs.Three.{known_both, known_map, known_then, known_all, known_of_cell, known_sum, value3, sure, not3, and3, or3, all3, any3, three_of_known, relates3, at_distance3}
use Rattle.trio_types.proofs.Inductions.{Each, term_of, every_term}
use Rattle.trio_core.proofs.Value3At.{signed_value3, value3-Number, value3-Value, value3-Var, value3-Read, value3-Sum, value3-Times}

-- that there is none stays known, and which value it is
pub record KnownStays {X : Type 0} (k l : Known X) : Type 0 where
  pub none : k ≡ Nothing → l ≡ Nothing
  pub same : (x : X) → k ≡ One x → l ≡ One x

pub known_stays_same : {X : Type 0} (k l : Known X) → k ≡ l → KnownStays k l
known_stays_same k l is = record { none = λ e. sym is ∙ e; same = λ x e. sym is ∙ e }

pub stays_from_nothing : {X : Type 0} (l : Known X) → l ≡ Nothing → KnownStays Nothing l
stays_from_nothing l is = record { none = λ e. is; same = λ x e. absurd (differ x e) }
  where
    differ : {X : Type 0} (x : X) → Nothing ≡ One x → ⊥
    differ x e = cc

pub stays_from_several : {X : Type 0} (l : Known X) → KnownStays Several l
stays_from_several {X} l = record { none = λ e. absurd (not_none e); same = λ x e. absurd (not_one x e) }
  where
    not_none : {X : Type 0} → ◌≡◌ {A = Known X} Several Nothing → ⊥
    not_none e = cc

    not_one : {X : Type 0} (x : X) → Several ≡ One x → ⊥
    not_one x e = cc

pub both_nothing : {X Y Z : Type 0} (f : X → Y → Z) (k : Known X) → known_both f k Nothing ≡ Nothing
both_nothing f Nothing = refl
both_nothing f Several = refl
both_nothing f (One x) = refl

pub stays_both : {X Y Z : Type 0} (f : X → Y → Z) (k k' : Known X) (l l' : Known Y) → KnownStays k k' → KnownStays l l' →
    KnownStays (known_both f k l) (known_both f k' l')
stays_both f Nothing k' l l' s t = stays_from_nothing _ (rw (s.none refl) refl)
stays_both f Several k' Nothing l' s t = stays_from_nothing _ (rw (t.none refl) (both_nothing f k'))
stays_both f Several k' Several l' s t = stays_from_several _
stays_both f Several k' (One y) l' s t = stays_from_several _
stays_both f (One x) k' Nothing l' s t = stays_from_nothing _ (rw (t.none refl) (both_nothing f k'))
stays_both f (One x) k' Several l' s t = stays_from_several _
stays_both f (One x) k' (One y) l' s t = known_stays_same _ _ (rw (s.same x refl, t.same y refl) refl)

pub stays_map : {X Y : Type 0} (f : X → Y) (k k' : Known X) → KnownStays k k' → KnownStays (known_map f k) (known_map f k')
stays_map f Nothing k' s = stays_from_nothing _ (rw (s.none refl) refl)
stays_map f Several k' s = stays_from_several _
stays_map f (One x) k' s = known_stays_same _ _ (rw (s.same x refl) refl)

pub stays_then : {X Y : Type 0} (f g : X → Known Y) → ((x : X) → KnownStays (f x) (g x)) → (k k' : Known X) → KnownStays k k' → KnownStays (known_then f k) (known_then g k')
stays_then f g h Nothing k' s = stays_from_nothing _ (rw (s.none refl) refl)
stays_then f g h Several k' s = stays_from_several _
stays_then f g h (One x) k' s = rw (s.same x refl) (h x)

stays_all_known : {X : Type 0} (f g : X → Known ℤ) (xs : List X) → Each (λ x. KnownStays (f x) (g x)) xs → KnownStays (known_all (map f xs)) (known_all (map g xs))
stays_all_known f g [] each = known_stays_same _ _ refl
stays_all_known f g (x ∷ xs) each = stays_both (λ z zs. Some z ∷ zs) (f x) (g x) (known_all (map f xs)) (known_all (map g xs)) each.0 (stays_all_known f g xs each.1)

stays_sum : {X : Type 0} (f g : X → Known ℤ) (xs : List X) → Each (λ x. KnownStays (f x) (g x)) xs → KnownStays (known_sum (map f xs)) (known_sum (map g xs))
stays_sum f g [] each = known_stays_same _ _ refl
stays_sum f g (x ∷ xs) each = stays_both (λ x y. x +ℤ y) (f x) (g x) (known_sum (map f xs)) (known_sum (map g xs)) each.0 (stays_sum f g xs each.1)

-- more is known of each cell
pub record MoreKnown (look less : Cell → Known ℤ) : Type 0 where
  pub each : (c : Cell) → KnownStays (look c) (less c)

stays_cell : (look less : Cell → Known ℤ) → MoreKnown look less → (o : Option Cell) → KnownStays (known_of_cell look o) (known_of_cell less o)
stays_cell look less more None = known_stays_same _ _ refl
stays_cell look less more (Some c) = more.each c

record ValueStays (w : World) (look less : Cell → Known ℤ) (e : List ℤ) (i : ℕ) (x : Term) : Type 0 where
  stays : KnownStays (value3 w x e look i) (value3 w x e less i)

each_value : (w : World) (look less : Cell → Known ℤ) (e : List ℤ) (i : ℕ) (xs : List Term) → Each (ValueStays w look less e i) xs →
    Each (λ x. KnownStays (value3 w x e look i) (value3 w x e less i)) xs
each_value w look less e i [] each = tt
each_value w look less e i (x ∷ xs) each = (each.0.stays, each_value w look less e i xs each.1)

stays_signed : (minus : Bool) (k l : Known ℤ) → KnownStays k l → KnownStays (if minus then known_map neg_ℤ k else k) (if minus then known_map neg_ℤ l else l)
stays_signed true k l s = stays_map neg_ℤ k l s
stays_signed false k l s = s

each_part : (w : World) (look less : Cell → Known ℤ) (e : List ℤ) (i : ℕ) (ps : List SignedTerm) → Each (λ p. ValueStays w look less e i (term_of p)) ps →
    Each (λ p. KnownStays (signed_value3 w p e look i) (signed_value3 w p e less i)) ps
each_part w look less e i [] each = tt
each_part w look less e i (p ∷ ps) each =
    (stays_signed (out-SignedTerm p).minus (value3 w (term_of p) e look i) (value3 w (term_of p) e less i) each.0.stays, each_part w look less e i ps each.1)

value_stays : (w : World) (look less : Cell → Known ℤ) (e : List ℤ) (i : ℕ) → MoreKnown look less → (x : Term) → ValueStays w look less e i x
value_stays w look less e i more = every_term (ValueStays w look less e i) (record {
  at_number = λ n. record { stays = known_stays_same _ _ (value3-Number w n e look i ∙ sym (value3-Number w n e less i)) };
  at_value = λ d v. record { stays = known_stays_same _ _ (value3-Value w d v e look i ∙ sym (value3-Value w d v e less i)) };
  at_var = λ level. record { stays = known_stays_same _ _ (value3-Var w level e look i ∙ sym (value3-Var w level e less i)) };
  at_read = λ number args each. record {
    stays = rw (value3-Read w number args e look i, value3-Read w number args e less i)
        (stays_then (λ zs. known_of_cell look (read_cell w number zs i)) (λ zs. known_of_cell less (read_cell w number zs i))
        (λ zs. stays_cell look less more (read_cell w number zs i))
        (known_all (map (λ a. value3 w a e look i) args)) (known_all (map (λ a. value3 w a e less i) args))
        (stays_all_known (λ a. value3 w a e look i) (λ a. value3 w a e less i) args (each_value w look less e i args each)));
  };
  at_sum = λ parts each. record {
    stays = rw (value3-Sum w parts e look i, value3-Sum w parts e less i)
        (stays_sum (λ p. signed_value3 w p e look i) (λ p. signed_value3 w p e less i) parts (each_part w look less e i parts each));
  };
  at_times = λ n x s. record {
    stays = rw (value3-Times w n x e look i, value3-Times w n x e less i) (stays_map (λ z. pos n *ℤ z) (value3 w x e look i) (value3 w x e less i) s.stays);
  };
})

pub value3_stays : (w : World) (look less : Cell → Known ℤ) (e : List ℤ) (i : ℕ) → MoreKnown look less → (x : Term) → KnownStays (value3 w x e look i) (value3 w x e less i)
value3_stays w look less e i more x = (value_stays w look less e i more x).stays

-- a decided truth stays
pub record Stays (p q : Three) : Type 0 where
  pub stays : (b : Bool) → p ≡ sure b → q ≡ sure b

pub stays_same : (p q : Three) → p ≡ q → Stays p q
stays_same p q is = record { stays = λ b e. sym is ∙ e }

undecided : (b : Bool) → three.Unknown ≡ sure b → ⊥
undecided true e = cc
undecided false e = cc

pub stays_from_unknown : (q : Three) → Stays three.Unknown q
stays_from_unknown q = record { stays = λ b e. absurd (undecided b e) }

pub stays_not : (p q : Three) → Stays p q → Stays (not3 p) (not3 q)
stays_not three.False q s = stays_same _ _ (rw (s.stays false refl) refl)
stays_not three.Unknown q s = stays_from_unknown _
stays_not three.True q s = stays_same _ _ (rw (s.stays true refl) refl)

and_false : (p : Three) → and3 p three.False ≡ three.False
and_false three.False = refl
and_false three.Unknown = refl
and_false three.True = refl

or_true : (p : Three) → or3 p three.True ≡ three.True
or_true three.False = refl
or_true three.Unknown = refl
or_true three.True = refl

pub stays_and : (p p' q q' : Three) → Stays p p' → Stays q q' → Stays (and3 p q) (and3 p' q')
stays_and three.False p' q q' s t = stays_same _ _ (rw (s.stays false refl) refl)
stays_and three.True p' q q' s t = rw (s.stays true refl) t
stays_and three.Unknown p' three.False q' s t = stays_same _ _ (rw (t.stays false refl) (sym (and_false p')))
stays_and three.Unknown p' three.Unknown q' s t = stays_from_unknown _
stays_and three.Unknown p' three.True q' s t = stays_from_unknown _

pub stays_or : (p p' q q' : Three) → Stays p p' → Stays q q' → Stays (or3 p q) (or3 p' q')
stays_or three.True p' q q' s t = stays_same _ _ (rw (s.stays true refl) refl)
stays_or three.False p' q q' s t = rw (s.stays false refl) t
stays_or three.Unknown p' three.True q' s t = stays_same _ _ (rw (t.stays true refl) (sym (or_true p')))
stays_or three.Unknown p' three.Unknown q' s t = stays_from_unknown _
stays_or three.Unknown p' three.False q' s t = stays_from_unknown _

pub stays_all : {X : Type 0} (p q : X → Three) → ((x : X) → Stays (p x) (q x)) → (xs : List X) → Stays (all3 p xs) (all3 q xs)
stays_all p q each [] = stays_same _ _ refl
stays_all p q each (x ∷ xs) = stays_and (p x) (q x) (all3 p xs) (all3 q xs) (each x) (stays_all p q each xs)

pub stays_any : {X : Type 0} (p q : X → Three) → ((x : X) → Stays (p x) (q x)) → (xs : List X) → Stays (any3 p xs) (any3 q xs)
stays_any p q each [] = stays_same _ _ refl
stays_any p q each (x ∷ xs) = stays_or (p x) (q x) (any3 p xs) (any3 q xs) (each x) (stays_any p q each xs)

stays_three : (k l : Known Bool) → KnownStays k l → Stays (three_of_known k) (three_of_known l)
stays_three Nothing l s = stays_same _ _ (rw (s.none refl) refl)
stays_three Several l s = stays_from_unknown _
stays_three (One b) l s = stays_same _ _ (rw (s.same b refl) refl)

pub stays_relates : (r : Rel) (k k' l l' : Known ℤ) → KnownStays k k' → KnownStays l l' → Stays (relates3 r k l) (relates3 r k' l')
stays_relates r k k' l l' s t = stays_three _ _ (stays_both (compares r) k k' l l' s t)

pub stays_distance : (w : World) (i : ℕ) (k k' : Known ℤ) → KnownStays k k' → (p q : ℕ → Three) → ((j : ℕ) → Stays (p j) (q j)) →
    Stays (at_distance3 w i k p) (at_distance3 w i k' q)
stays_distance w i Nothing k' s p q each = stays_same _ _ (rw (s.none refl) refl)
stays_distance w i Several k' s p q each = stays_from_unknown _
stays_distance w i (One d) k' s p q each = rw (s.same d refl) (stays_any p q each (at_distance w i (Some d)))
