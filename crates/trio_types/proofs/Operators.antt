-- The laws of the operators: what is true at each or at some instant inside time.
use Rattle.std.proofs.Common.{cond, ◌≡◌, ◌↔◌, ℕ, ◌<◌, ◌≤◌, ℤ, pos, neg_ℤ, ◌+ℤ◌, ◌-ℤ◌, Bool, true, false, not, ◌&&◌, ◌||◌, nat_lt, List, [], ◌∷◌, ◌++◌, Option, None, Some, refl, sym, ap, ◌∙◌, arith, Decides}
use Rattle.std.specs.Prelude.{int_lt, int_le}
use Rattle.std.specs.List.{list_all, list_any, filter, range_with_len}
use Rattle.std.specs.Option.{option_map}
use Rattle.std.specs.Ordering.{int_eq}
use Rattle.std.proofs.Math.Logic.{⊎_elim}
use Rattle.std.proofs.lemmas.Bool.{false≢true, and_parts, and_from, not-true, not_from_false, false_from_ne_true, cases_Bool, ltb-true, lt-ltb}
use Rattle.std.proofs.lemmas.Bool.Decides.{Decides-int_eq, Decides-ltb}
use Rattle.std.proofs.lemmas.Int.{ints}
use Rattle.trio_base.specs.declared.operators.OneOp.TheVariants as one
use Rattle.trio_base.specs.declared.operators.Ends.{Ends}
use Rattle.trio_base.specs.declared.operators.Ends.TheVariants as ends
use Rattle.trio_base.specs.declared.operators.FarOp.TheVariants as far
use Rattle.trio_base.specs.declared.operators.PairOp.TheVariants as pair
use Rattle.trio_types.specs.declared.formula.Term.{Term}
use Rattle.trio_types.specs.declared.formula.Formula.{Formula}
use Rattle.trio_types.specs.declared.formula.Formula.TheVariants as formula
use Rattle.trio_types.specs.World.{World, instants_of}
use Rattle.trio_types.specs.Values.{value}
use Rattle.trio_types.specs.Truth.{truth, between, is_at_distance, at_distance, is_not_negative, is_ahead, is_behind, ahead, behind}
use Rattle.trio_types.specs.Laws.{TrueAtEach, TrueAtSome, TrueAtFar, TrueAtEachFar, IsFuture, IsPast, Ahead, Behind, TrueUntil, TrueSince, NoneFar}
use Rattle.trio_types.proofs.Integers.{Decides-int_le, Decides-int_lt}
use Rattle.trio_types.proofs.Lists.{any_of_range, range_has_any, any_same, all_is_not_any}
use Rattle.trio_types.proofs.TruthAt.{truth-Not, truth-Alw, truth-Som, truth-AlwF, truth-SomF, truth-AlwP, truth-SomP, truth-Dist, truth-Futr, truth-Past, truth-NextTime, truth-LastTime, truth-Lasts, truth-WithinF, truth-Lasted, truth-WithinP, truth-Until, truth-Since}

-- some element of those that pass q passes p
any_filter : {X : Type 0} (q p : X → Bool) (xs : List X) → list_any p (filter q xs) ≡ list_any (λ x. q x && p x) xs
any_filter q p [] = refl
any_filter q p (x ∷ xs) = first (q x) (any_filter q p xs)
  where
    first : (b : Bool) → list_any p (filter q xs) ≡ list_any (λ x. q x && p x) xs →
        list_any p (cond b (x ∷ filter q xs) (filter q xs)) ≡ ((b && p x) || list_any (λ x. q x && p x) xs)
    first true more = ap (λ b. p x || b) more
    first false more = more

-- some instant inside time
pub some_instant : (w : World) (q p : ℕ → Bool) → list_any p (filter q (instants_of w)) ≡ true → (j : ℕ) × (j < w.instants) × (q j ≡ true) × (p j ≡ true)
unfolding instants_of
some_instant w q p any =
    let r = any_of_range (λ j. q j && p j) 0 w.instants (sym (any_filter q p (range_with_len 0 w.instants)) ∙ any) in
    let both = and_parts (q r.0) (p r.0) r.3 in
    (r.0, omega (arith, r.2), both.0, both.1)

pub at_instant : (w : World) (q p : ℕ → Bool) (j : ℕ) → j < w.instants → q j ≡ true → p j ≡ true → list_any p (filter q (instants_of w)) ≡ true
unfolding instants_of
at_instant w q p j inside there here =
    any_filter q p (range_with_len 0 w.instants) ∙ range_has_any (λ j. q j && p j) 0 w.instants j (omega arith) (omega arith) (and_from (q j) (p j) there here)

-- each instant inside time
pub each_instant : (w : World) (q p : ℕ → Bool) → list_all p (filter q (instants_of w)) ≡ true → (j : ℕ) → j < w.instants → q j ≡ true → p j ≡ true
each_instant w q p all j inside there =
    ⊎_elim (λ yes. yes)
    (λ no. let any = at_instant w q (λ j. not (p j)) j inside there (not_from_false (p j) no) in
    absurd (false≢true (sym (ap not any) ∙ sym (all_is_not_any p (filter q (instants_of w))) ∙ all)))
    (cases_Bool (p j))

pub from_each : (w : World) (q p : ℕ → Bool) → ((j : ℕ) → j < w.instants → q j ≡ true → p j ≡ true) → list_all p (filter q (instants_of w)) ≡ true
from_each w q p each =
    all_is_not_any p (filter q (instants_of w))
    ∙ not_from_false (list_any (λ j. not (p j)) (filter q (instants_of w)))
    (false_from_ne_true (list_any (λ j. not (p j)) (filter q (instants_of w)))
    (λ any. let r = some_instant w q (λ j. not (p j)) any in false≢true (sym (not-true (p r.0) r.3) ∙ each r.0 r.1 r.2)))

-- a filter that passes all
pub all_pass : {X : Type 0} (xs : List X) → filter (λ x. true) xs ≡ xs
all_pass [] = refl
all_pass (x ∷ xs) = ap (λ ys. x ∷ ys) (all_pass xs)

-- true at each instant where a test tells, and at some
each_law : (w : World) (f : Formula) (e : List ℤ) (t : List ℕ) (b : Bool) (q : ℕ → Bool) (There : ℕ → Type 0) → ((j : ℕ) → Decides (q j) (There j)) →
    b ≡ list_all (λ j. truth w f e t j) (filter q (instants_of w)) → (b ≡ true) ↔ TrueAtEach w f e t There
each_law w f e t b q There tells is = (
  λ h j inside there. each_instant w q (λ j. truth w f e t j) (sym is ∙ h) j inside ((tells j).1 there),
  λ h. is ∙ from_each w q (λ j. truth w f e t j) (λ j inside there. h j inside ((tells j).0 there)),
)

some_law : (w : World) (f : Formula) (e : List ℤ) (t : List ℕ) (b : Bool) (q : ℕ → Bool) (There : ℕ → Type 0) → ((j : ℕ) → Decides (q j) (There j)) →
    b ≡ list_any (λ j. truth w f e t j) (filter q (instants_of w)) → (b ≡ true) ↔ TrueAtSome w f e t There
some_law w f e t b q There tells is = (
  λ h. let r = some_instant w q (λ j. truth w f e t j) (sym is ∙ h) in record { instant = r.0; inside = r.1; there = (tells r.0).0 r.2; true_there = r.3 },
  λ h. is ∙ at_instant w q (λ j. truth w f e t j) h.instant h.inside ((tells h.instant).1 h.there) h.true_there,
)

always : (j : ℕ) → Decides true (Unit {0})
always j = (λ h. tt, λ h. refl)

pub alw_law : (w : World) (f : Formula) (e : List ℤ) (t : List ℕ) (i : ℕ) → (truth w (formula.One one.Alw f) e t i ≡ true) ↔ TrueAtEach w f e t (λ j. Unit {0})
alw_law w f e t i =
    each_law w f e t (truth w (formula.One one.Alw f) e t i) (λ j. true) (λ j. Unit {0}) always
    (truth-Alw w f e t i ∙ ap (list_all (λ j. truth w f e t j)) (sym (all_pass (instants_of w))))

pub som_law : (w : World) (f : Formula) (e : List ℤ) (t : List ℕ) (i : ℕ) → (truth w (formula.One one.Som f) e t i ≡ true) ↔ TrueAtSome w f e t (λ j. Unit {0})
som_law w f e t i =
    some_law w f e t (truth w (formula.One one.Som f) e t i) (λ j. true) (λ j. Unit {0}) always
    (truth-Som w f e t i ∙ ap (list_any (λ j. truth w f e t j)) (sym (all_pass (instants_of w))))

pub alw_f_law : (w : World) (f : Formula) (e : List ℤ) (t : List ℕ) (i : ℕ) → (truth w (formula.One one.AlwF f) e t i ≡ true) ↔ TrueAtEach w f e t (λ j. i < j)
alw_f_law w f e t i = each_law w f e t (truth w (formula.One one.AlwF f) e t i) (λ j. nat_lt i j) (λ j. i < j) (Decides-ltb i) (truth-AlwF w f e t i)

pub som_f_law : (w : World) (f : Formula) (e : List ℤ) (t : List ℕ) (i : ℕ) → (truth w (formula.One one.SomF f) e t i ≡ true) ↔ TrueAtSome w f e t (λ j. i < j)
som_f_law w f e t i = some_law w f e t (truth w (formula.One one.SomF f) e t i) (λ j. nat_lt i j) (λ j. i < j) (Decides-ltb i) (truth-SomF w f e t i)

pub alw_p_law : (w : World) (f : Formula) (e : List ℤ) (t : List ℕ) (i : ℕ) → (truth w (formula.One one.AlwP f) e t i ≡ true) ↔ TrueAtEach w f e t (λ j. j < i)
alw_p_law w f e t i = each_law w f e t (truth w (formula.One one.AlwP f) e t i) (λ j. nat_lt j i) (λ j. j < i) (λ j. Decides-ltb j i) (truth-AlwP w f e t i)

pub som_p_law : (w : World) (f : Formula) (e : List ℤ) (t : List ℕ) (i : ℕ) → (truth w (formula.One one.SomP f) e t i ≡ true) ↔ TrueAtSome w f e t (λ j. j < i)
som_p_law w f e t i = some_law w f e t (truth w (formula.One one.SomP f) e t i) (λ j. nat_lt j i) (λ j. j < i) (λ j. Decides-ltb j i) (truth-SomP w f e t i)

-- at a distance: a test that passes nothing without one
unfoldable pub Tells : (Option ℤ → ℕ → Bool) → (ℤ → ℕ → Type 0) → Type 0
Tells q There = ((j : ℕ) → q None j ≡ false) × ((d : ℤ) (j : ℕ) → Decides (q (Some d) j) (There d j))

given : (q : Option ℤ → ℕ → Bool) (There : ℤ → ℕ → Type 0) → Tells q There → (v : Option ℤ) (j : ℕ) → q v j ≡ true → (d : ℤ) × (v ≡ Some d) × There d j
unfolding Tells
given q There tells None j h = absurd (false≢true (sym (tells.0 j) ∙ h))
given q There tells (Some d) j h = (d, refl, (tells.1 d j).0 h)

pub far_some_law : (w : World) (f : Formula) (x : Term) (e : List ℤ) (t : List ℕ) (i : ℕ) (b : Bool) (q : Option ℤ → ℕ → Bool) (There : ℤ → ℕ → Type 0) → Tells q There →
    b ≡ list_any (λ j. truth w f e t j) (filter (q (value w x e t i)) (instants_of w)) → (b ≡ true) ↔ TrueAtFar w f x e t i There
unfolding Tells
far_some_law w f x e t i b q There tells is = (
  λ h. let r = some_instant w (q (value w x e t i)) (λ j. truth w f e t j) (sym is ∙ h) in
      let d = given q There tells (value w x e t i) r.0 r.2 in
      record { distance = d.0; given = d.1; instant = r.0; inside = r.1; there = d.2; true_there = r.3 },
  λ h. is ∙ at_instant w (q (value w x e t i)) (λ j. truth w f e t j) h.instant h.inside (ap (λ v. q v h.instant) h.given ∙ (tells.1 h.distance h.instant).1 h.there) h.true_there,
)

pub far_each_law : (w : World) (f : Formula) (x : Term) (e : List ℤ) (t : List ℕ) (i : ℕ) (b : Bool) (q : Option ℤ → ℕ → Bool) (There : ℤ → ℕ → Type 0) → Tells q There →
    b ≡ list_all (λ j. truth w f e t j) (filter (q (value w x e t i)) (instants_of w)) → (b ≡ true) ↔ TrueAtEachFar w f x e t i There
unfolding Tells
far_each_law w f x e t i b q There tells is = (
  λ h d is_d j inside there. each_instant w (q (value w x e t i)) (λ j. truth w f e t j) (sym is ∙ h) j inside (ap (λ v. q v j) is_d ∙ (tells.1 d j).1 there),
  λ h. is ∙ from_each w (q (value w x e t i)) (λ j. truth w f e t j)
      (λ j inside there. let d = given q There tells (value w x e t i) j there in h d.0 d.1 j inside d.2),
)

pub tells_distance : (i : ℕ) → Tells (is_at_distance i) (λ d j. pos j ≡ (pos i +ℤ d))
unfolding Tells
tells_distance i = (λ j. refl, λ d j. Decides-int_eq (pos j) (pos i +ℤ d))

-- forward or back by a distance that is not negative
abbrev future : ℕ → Option ℤ → ℕ → Bool
future i v j = is_not_negative v && is_at_distance i v j

abbrev past : ℕ → Option ℤ → ℕ → Bool
past i v j = is_not_negative v && is_at_distance i (option_map neg_ℤ v) j

tells_future : (i : ℕ) → Tells (future i) (IsFuture i)
unfolding Tells
tells_future i = (
  λ j. refl,
  λ d j. (
    λ h. let both = and_parts (int_le (pos 0) d) (int_eq (pos j) (pos i +ℤ d)) h in ((Decides-int_le (pos 0) d).0 both.0, (Decides-int_eq (pos j) (pos i +ℤ d)).0 both.1),
    λ h. and_from (int_le (pos 0) d) (int_eq (pos j) (pos i +ℤ d)) ((Decides-int_le (pos 0) d).1 h.0) ((Decides-int_eq (pos j) (pos i +ℤ d)).1 h.1),
  ),
)

tells_past : (i : ℕ) → Tells (past i) (IsPast i)
unfolding Tells
tells_past i = (
  λ j. refl,
  λ d j. (
    λ h. let both = and_parts (int_le (pos 0) d) (int_eq (pos j) (pos i +ℤ neg_ℤ d)) h in
        let at = (Decides-int_eq (pos j) (pos i +ℤ neg_ℤ d)).0 both.1 in
        let back : pos j ≡ pos i -ℤ d = omega (arith, ints, at) in
        ((Decides-int_le (pos 0) d).0 both.0, back),
    λ h. let at : pos j ≡ pos i +ℤ neg_ℤ d = omega (arith, ints, h.1) in
        and_from (int_le (pos 0) d) (int_eq (pos j) (pos i +ℤ neg_ℤ d)) ((Decides-int_le (pos 0) d).1 h.0) ((Decides-int_eq (pos j) (pos i +ℤ neg_ℤ d)).1 at),
  ),
)

-- a test before a filter, and in it
pub guarded : {X : Type 0} (b : Bool) (p q : X → Bool) (xs : List X) → (b && list_any p (filter q xs)) ≡ list_any p (filter (λ x. b && q x) xs)
guarded true p q xs = refl
guarded false p q [] = refl
guarded false p q (x ∷ xs) = guarded false p q xs

futr_is : (w : World) (f : Formula) (x : Term) (e : List ℤ) (t : List ℕ) (i : ℕ) →
    truth w (formula.Far far.Futr f x) e t i ≡ list_any (λ j. truth w f e t j) (filter (future i (value w x e t i)) (instants_of w))
futr_is w f x e t i =
    truth-Futr w f x e t i ∙ guarded (is_not_negative (value w x e t i)) (λ j. truth w f e t j) (is_at_distance i (value w x e t i)) (instants_of w)

past_is : (w : World) (f : Formula) (x : Term) (e : List ℤ) (t : List ℕ) (i : ℕ) →
    truth w (formula.Far far.Past f x) e t i ≡ list_any (λ j. truth w f e t j) (filter (past i (value w x e t i)) (instants_of w))
past_is w f x e t i =
    truth-Past w f x e t i ∙ guarded (is_not_negative (value w x e t i)) (λ j. truth w f e t j) (is_at_distance i (option_map neg_ℤ (value w x e t i))) (instants_of w)

pub dist_law : (w : World) (f : Formula) (x : Term) (e : List ℤ) (t : List ℕ) (i : ℕ) →
    (truth w (formula.Far far.Dist f x) e t i ≡ true) ↔ TrueAtFar w f x e t i (λ d j. pos j ≡ (pos i +ℤ d))
dist_law w f x e t i =
    far_some_law w f x e t i (truth w (formula.Far far.Dist f x) e t i) (is_at_distance i) (λ d j. pos j ≡ (pos i +ℤ d)) (tells_distance i) (truth-Dist w f x e t i)

pub futr_law : (w : World) (f : Formula) (x : Term) (e : List ℤ) (t : List ℕ) (i : ℕ) → (truth w (formula.Far far.Futr f x) e t i ≡ true) ↔ TrueAtFar w f x e t i (IsFuture i)
futr_law w f x e t i = far_some_law w f x e t i (truth w (formula.Far far.Futr f x) e t i) (future i) (IsFuture i) (tells_future i) (futr_is w f x e t i)

pub past_law : (w : World) (f : Formula) (x : Term) (e : List ℤ) (t : List ℕ) (i : ℕ) → (truth w (formula.Far far.Past f x) e t i ≡ true) ↔ TrueAtFar w f x e t i (IsPast i)
past_law w f x e t i = far_some_law w f x e t i (truth w (formula.Far far.Past f x) e t i) (past i) (IsPast i) (tells_past i) (past_is w f x e t i)

-- ranges and their ends
strictly : (j k : ℕ) → Decides (int_lt (pos j) (pos k)) (j < k)
strictly j k = (λ h. omega (arith, ints, (Decides-int_lt (pos j) (pos k)).0 h), λ h. (Decides-int_lt (pos j) (pos k)).1 (omega (arith, ints)))

loosely : (j k : ℕ) → Decides (int_le (pos j) (pos k)) (j ≤ k)
loosely j k = (λ h. omega (arith, ints, (Decides-int_le (pos j) (pos k)).0 h), λ h. (Decides-int_le (pos j) (pos k)).1 (omega (arith, ints)))

both : {P Q : Type 0} (a b : Bool) → Decides a P → Decides b Q → Decides (a && b) (P × Q)
both a b p q = (λ h. let r = and_parts a b h in (p.0 r.0, q.0 r.1), λ h. and_from a b (p.1 h.0) (q.1 h.1))

pub tells_ahead : (s : Ends) (i : ℕ) → Tells (is_ahead s i) (Ahead s i)
unfolding Tells
tells_ahead ends.Bare i = (λ j. refl, λ d j. both (int_lt (pos i) (pos j)) (int_lt (pos j) (pos i +ℤ d)) (strictly i j) (Decides-int_lt (pos j) (pos i +ℤ d)))
tells_ahead ends.Ii i = (λ j. refl, λ d j. both (int_le (pos i) (pos j)) (int_le (pos j) (pos i +ℤ d)) (loosely i j) (Decides-int_le (pos j) (pos i +ℤ d)))
tells_ahead ends.Ie i = (λ j. refl, λ d j. both (int_le (pos i) (pos j)) (int_lt (pos j) (pos i +ℤ d)) (loosely i j) (Decides-int_lt (pos j) (pos i +ℤ d)))
tells_ahead ends.Ei i = (λ j. refl, λ d j. both (int_lt (pos i) (pos j)) (int_le (pos j) (pos i +ℤ d)) (strictly i j) (Decides-int_le (pos j) (pos i +ℤ d)))

pub tells_behind : (s : Ends) (i : ℕ) → Tells (is_behind s i) (Behind s i)
unfolding Tells
tells_behind ends.Bare i = (λ j. refl, λ d j. both (int_lt (pos i -ℤ d) (pos j)) (int_lt (pos j) (pos i)) (Decides-int_lt (pos i -ℤ d) (pos j)) (strictly j i))
tells_behind ends.Ii i = (λ j. refl, λ d j. both (int_le (pos i -ℤ d) (pos j)) (int_le (pos j) (pos i)) (Decides-int_le (pos i -ℤ d) (pos j)) (loosely j i))
tells_behind ends.Ie i = (λ j. refl, λ d j. both (int_lt (pos i -ℤ d) (pos j)) (int_le (pos j) (pos i)) (Decides-int_lt (pos i -ℤ d) (pos j)) (loosely j i))
tells_behind ends.Ei i = (λ j. refl, λ d j. both (int_le (pos i -ℤ d) (pos j)) (int_lt (pos j) (pos i)) (Decides-int_le (pos i -ℤ d) (pos j)) (strictly j i))

pub lasts_law : (w : World) (s : Ends) (f : Formula) (x : Term) (e : List ℤ) (t : List ℕ) (i : ℕ) → (truth w (formula.Far (far.Lasts s) f x) e t i ≡ true) ↔ TrueAtEachFar w f x e t i (Ahead s i)
lasts_law w s f x e t i = far_each_law w f x e t i (truth w (formula.Far (far.Lasts s) f x) e t i) (is_ahead s i) (Ahead s i) (tells_ahead s i) (truth-Lasts w s f x e t i)

pub within_f_law : (w : World) (s : Ends) (f : Formula) (x : Term) (e : List ℤ) (t : List ℕ) (i : ℕ) → (truth w (formula.Far (far.WithinF s) f x) e t i ≡ true) ↔ TrueAtFar w f x e t i (Ahead s i)
within_f_law w s f x e t i = far_some_law w f x e t i (truth w (formula.Far (far.WithinF s) f x) e t i) (is_ahead s i) (Ahead s i) (tells_ahead s i) (truth-WithinF w s f x e t i)

pub lasted_law : (w : World) (s : Ends) (f : Formula) (x : Term) (e : List ℤ) (t : List ℕ) (i : ℕ) → (truth w (formula.Far (far.Lasted s) f x) e t i ≡ true) ↔ TrueAtEachFar w f x e t i (Behind s i)
lasted_law w s f x e t i = far_each_law w f x e t i (truth w (formula.Far (far.Lasted s) f x) e t i) (is_behind s i) (Behind s i) (tells_behind s i) (truth-Lasted w s f x e t i)

pub within_p_law : (w : World) (s : Ends) (f : Formula) (x : Term) (e : List ℤ) (t : List ℕ) (i : ℕ) → (truth w (formula.Far (far.WithinP s) f x) e t i ≡ true) ↔ TrueAtFar w f x e t i (Behind s i)
within_p_law w s f x e t i = far_some_law w f x e t i (truth w (formula.Far (far.WithinP s) f x) e t i) (is_behind s i) (Behind s i) (tells_behind s i) (truth-WithinP w s f x e t i)

-- two facts at once
conjoined : {P Q : Type 0} (a b : Bool) → (a ≡ true) ↔ P → (b ≡ true) ↔ Q → ((a && b) ≡ true) ↔ (P × Q)
conjoined a b p q = (λ h. let r = and_parts a b h in (p.0 r.0, q.0 r.1), λ h. and_from a b (p.1 h.0) (q.1 h.1))

all_same : {X : Type 0} (p q : X → Bool) → ((x : X) → p x ≡ q x) → (xs : List X) → list_all p xs ≡ list_all q xs
all_same p q same [] = refl
all_same p q same (x ∷ xs) = rw (same x, all_same p q same xs) refl

not_each : (w : World) (f : Formula) (e : List ℤ) (t : List ℕ) (xs : List ℕ) → list_all (λ j. not (truth w f e t j)) xs ≡ list_all (λ j. truth w (formula.Not f) e t j) xs
not_each w f e t xs = all_same (λ j. not (truth w f e t j)) (λ j. truth w (formula.Not f) e t j) (λ j. sym (truth-Not w f e t j)) xs

pub next_time_law : (w : World) (f : Formula) (x : Term) (e : List ℤ) (t : List ℕ) (i : ℕ) →
    (truth w (formula.Far far.NextTime f x) e t i ≡ true) ↔ (TrueAtFar w f x e t i (IsFuture i) × TrueAtEachFar w (formula.Not f) x e t i (Ahead ends.Bare i))
next_time_law w f x e t i =
    let v = value w x e t i in
    let later = is_not_negative v && list_any (λ j. truth w f e t j) (at_distance w i v) in
    let never = list_all (λ j. not (truth w f e t j)) (ahead w ends.Bare i v) in
    let law = conjoined later never
    (far_some_law w f x e t i later (future i) (IsFuture i) (tells_future i) (guarded (is_not_negative v) (λ j. truth w f e t j) (is_at_distance i v) (instants_of w)))
    (far_each_law w (formula.Not f) x e t i never (is_ahead ends.Bare i) (Ahead ends.Bare i) (tells_ahead ends.Bare i) (not_each w f e t (ahead w ends.Bare i v))) in
    (λ h. law.0 (sym (truth-NextTime w f x e t i) ∙ h), λ h. truth-NextTime w f x e t i ∙ law.1 h)

pub last_time_law : (w : World) (f : Formula) (x : Term) (e : List ℤ) (t : List ℕ) (i : ℕ) →
    (truth w (formula.Far far.LastTime f x) e t i ≡ true) ↔ (TrueAtFar w f x e t i (IsPast i) × TrueAtEachFar w (formula.Not f) x e t i (Behind ends.Bare i))
last_time_law w f x e t i =
    let v = value w x e t i in
    let earlier = is_not_negative v && list_any (λ j. truth w f e t j) (at_distance w i (option_map neg_ℤ v)) in
    let never = list_all (λ j. not (truth w f e t j)) (behind w ends.Bare i v) in
    let law = conjoined earlier never
    (far_some_law w f x e t i earlier (past i) (IsPast i) (tells_past i) (guarded (is_not_negative v) (λ j. truth w f e t j) (is_at_distance i (option_map neg_ℤ v)) (instants_of w)))
    (far_each_law w (formula.Not f) x e t i never (is_behind ends.Bare i) (Behind ends.Bare i) (tells_behind ends.Bare i) (not_each w f e t (behind w ends.Bare i v))) in
    (λ h. law.0 (sym (truth-LastTime w f x e t i) ∙ h), λ h. truth-LastTime w f x e t i ∙ law.1 h)

-- two formulas
pub until_law : (w : World) (f g : Formula) (e : List ℤ) (t : List ℕ) (i : ℕ) → (truth w (formula.Pair pair.Until f g) e t i ≡ true) ↔ TrueUntil w f g e t i
until_law w f g e t i = (
  λ h. let r = some_instant w (λ j. nat_lt i j) (λ j. truth w g e t j && list_all (λ k. truth w f e t k) (between w i j)) (sym (truth-Until w f g e t i) ∙ h) in
      let parts = and_parts (truth w g e t r.0) (list_all (λ k. truth w f e t k) (between w i r.0)) r.3 in
      record {
        instant = r.0;
        inside = r.1;
        later = ltb-true i r.0 r.2;
        there = parts.0;
        between = λ k from to. each_instant w (λ k. nat_lt i k && nat_lt k r.0) (λ k. truth w f e t k) parts.1 k (omega (arith, r.1))
            (and_from (nat_lt i k) (nat_lt k r.0) (lt-ltb i k from) (lt-ltb k r.0 to));
      },
  λ h. truth-Until w f g e t i
      ∙ at_instant w (λ j. nat_lt i j) (λ j. truth w g e t j && list_all (λ k. truth w f e t k) (between w i j)) h.instant h.inside (lt-ltb i h.instant h.later)
      (and_from (truth w g e t h.instant) (list_all (λ k. truth w f e t k) (between w i h.instant)) h.there
      (from_each w (λ k. nat_lt i k && nat_lt k h.instant) (λ k. truth w f e t k)
      (λ k inside there. let ends_ = and_parts (nat_lt i k) (nat_lt k h.instant) there in h.between k (ltb-true i k ends_.0) (ltb-true k h.instant ends_.1)))),
)

pub since_law : (w : World) (f g : Formula) (e : List ℤ) (t : List ℕ) (i : ℕ) → i < w.instants → (truth w (formula.Pair pair.Since f g) e t i ≡ true) ↔ TrueSince w f g e t i
since_law w f g e t i now = (
  λ h. let r = some_instant w (λ j. nat_lt j i) (λ j. truth w g e t j && list_all (λ k. truth w f e t k) (between w j i)) (sym (truth-Since w f g e t i) ∙ h) in
      let parts = and_parts (truth w g e t r.0) (list_all (λ k. truth w f e t k) (between w r.0 i)) r.3 in
      record {
        instant = r.0;
        inside = r.1;
        earlier = ltb-true r.0 i r.2;
        there = parts.0;
        between = λ k from to. each_instant w (λ k. nat_lt r.0 k && nat_lt k i) (λ k. truth w f e t k) parts.1 k (omega arith)
            (and_from (nat_lt r.0 k) (nat_lt k i) (lt-ltb r.0 k from) (lt-ltb k i to));
      },
  λ h. truth-Since w f g e t i
      ∙ at_instant w (λ j. nat_lt j i) (λ j. truth w g e t j && list_all (λ k. truth w f e t k) (between w j i)) h.instant h.inside (lt-ltb h.instant i h.earlier)
      (and_from (truth w g e t h.instant) (list_all (λ k. truth w f e t k) (between w h.instant i)) h.there
      (from_each w (λ k. nat_lt h.instant k && nat_lt k i) (λ k. truth w f e t k)
      (λ k inside there. let ends_ = and_parts (nat_lt h.instant k) (nat_lt k i) there in h.between k (ltb-true h.instant k ends_.0) (ltb-true k i ends_.1)))),
)

-- opposites
pub opposite : (w : World) (f : Formula) (e : List ℤ) (t : List ℕ) (xs : List ℕ) →
    list_all (λ j. truth w f e t j) xs ≡ not (list_any (λ j. truth w (formula.Not f) e t j) xs)
opposite w f e t xs =
    all_is_not_any (λ j. truth w f e t j) xs
    ∙ ap not (any_same (λ j. not (truth w f e t j)) (λ j. truth w (formula.Not f) e t j) (λ j. sym (truth-Not w f e t j)) xs)

pub quantifier_opposite : (w : World) (f : Formula) (e : List ℤ) (t : List ℕ) (i : ℕ) (zs : List ℤ) →
    list_all (λ z. truth w f (e ++ z ∷ []) t i) zs ≡ not (list_any (λ z. truth w (formula.Not f) (e ++ z ∷ []) t i) zs)
quantifier_opposite w f e t i zs =
    all_is_not_any (λ z. truth w f (e ++ z ∷ []) t i) zs
    ∙ ap not (any_same (λ z. not (truth w f (e ++ z ∷ []) t i)) (λ z. truth w (formula.Not f) (e ++ z ∷ []) t i) (λ z. sym (truth-Not w f (e ++ z ∷ []) t i)) zs)

-- empty ranges
pub none_each : (w : World) (f : Formula) (x : Term) (e : List ℤ) (t : List ℕ) (i : ℕ) (There : ℤ → ℕ → Type 0) → NoneFar w x e t i There → TrueAtEachFar w f x e t i There
none_each w f x e t i There none = λ d is j inside there. absurd (none d is j inside there)

pub none_some : (w : World) (f : Formula) (x : Term) (e : List ℤ) (t : List ℕ) (i : ℕ) (There : ℤ → ℕ → Type 0) (b : Bool) → NoneFar w x e t i There →
    (b ≡ true) ↔ TrueAtFar w f x e t i There → b ≡ false
none_some w f x e t i There b none law = false_from_ne_true b (λ h. let r = law.0 h in none r.distance r.given r.instant r.inside r.there)
