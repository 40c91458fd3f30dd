-- What is written of parts that keep truth keeps the truth of the operator on them.
use Rattle.std.proofs.Common.{◌≡◌, ℕ, ◌+◌, ◌<◌, ℤ, pos, neg_ℤ, ◌+ℤ◌, ◌-ℤ◌, ◌≤ℤ◌, ◌<ℤ◌, Bool, true, false, not, ◌&&◌, nat_lt, List, [], ◌∷◌, ◌++◌, Option, None, Some, filter, length, slice_get, refl, sym, ap, ◌∙◌, arith, Decides}
use Rattle.std.specs.List.{list_any, list_all}
use Rattle.std.specs.Option.{option_map}
use Rattle.std.proofs.lemmas.Bool.{false≢true, and_parts, and_from, ltb-true, lt-ltb}
use Rattle.std.proofs.lemmas.Int.{ints}
use Rattle.std.proofs.lemmas.List.{length_push, get_or_push, get_or_append_left}
use Rattle.trio_base.specs.declared.operators.Rel.{Rel}
use Rattle.trio_base.specs.declared.operators.Rel.TheVariants as rel
use Rattle.trio_base.specs.declared.operators.Ends.{Ends}
use Rattle.trio_base.specs.declared.operators.Ends.TheVariants as ends
use Rattle.trio_types.specs.declared.spec.DomainKind.{DomainKind}
use Rattle.trio_types.specs.declared.spec.DomainKind.TheVariants as kind
use Rattle.trio_types.specs.declared.spec.Domain.{Domain}
use Rattle.trio_types.specs.declared.formula.Term.{Term}
use Rattle.trio_types.specs.declared.formula.Term.TheVariants as term
use Rattle.trio_types.specs.World.{World, integers, at_least_zero, instants_of, values_of, values_in}
use Rattle.trio_types.specs.Values.{value}
use Rattle.trio_types.specs.Truth.{Truth, relates, at_distance, is_not_negative, is_ahead, is_behind}
use Rattle.trio_types.specs.Laws.{Ahead, Behind}
use Rattle.trio_types.proofs.Integers.{Decides-int_lt, Decides-int_le}
use Rattle.trio_types.proofs.Lists.{any_same, all_is_not_any}
use Rattle.trio_types.proofs.ValueAt.{value-Number, value-Var}
use Rattle.trio_types.proofs.Operators.{Tells, tells_ahead, tells_behind}
use Rattle.trio_core.specs.Core.{numbers, not_truth}
use Rattle.derived_ops.specs.declared.joint.Way.{Way}
use Rattle.derived_ops.specs.declared.joint.Way.TheVariants as way
use Rattle.derived_ops.specs.Rewriting.{Levels, Written, renamed, opposite, range_of_kind, range_of_domain, for_some, last, towards, somewhere, dist_written, at_far, least_of, relation_of, within, throughout, next, up_to, until}
use Rattle.derived_ops.proofs.Told.{shape_truth}
use Rattle.derived_ops.proofs.Renaming.{pick, Below, below_more, below_new, pick_more, pick_new, moved, renamed_value, towards_value}
use Rattle.derived_ops.proofs.Seeking.{there_at, at_there, there_inside, seek, distance_to, Reaches, sought}

-- at each instant inside time what is written is true exactly where this is
pub record KeepsTruth (w : World) (f : Written) (p : Truth) : Type 0 where
  pub at : (k : ℕ) (ls : Levels) (e : List ℤ) (t : List ℕ) (i : ℕ) → length e ≡ k → Below k ls → i < w.instants →
      shape_truth w (f k ls) e t i ≡ p (pick e ls) t i

-- the same where the truth is put in other words
pub in_words : (w : World) (f g : Written) (p q : Truth) → ((k : ℕ) (ls : Levels) → g k ls ≡ f k ls) →
    ((e : List ℤ) (t : List ℕ) (i : ℕ) → i < w.instants → p e t i ≡ q e t i) → KeepsTruth w f p → KeepsTruth w g q
in_words w f g p q shape truth keeps = record {
  at = λ k ls e t i whole below inside.
      ap (λ s. shape_truth w s e t i) (shape k ls) ∙ keeps.at k ls e t i whole below inside ∙ truth (pick e ls) t i inside;
}

pub keeps_opposite : (w : World) (f : Written) (p : Truth) → KeepsTruth w f p → KeepsTruth w (opposite f) (not_truth p)
keeps_opposite w f p keeps = record { at = λ k ls e t i whole below inside. ap not (keeps.at k ls e t i whole below inside) }

-- under one more variable, that is none of the formula's
under_new : (w : World) (f : Written) (p : Truth) → KeepsTruth w f p → (k : ℕ) (ls : Levels) (e : List ℤ) (t : List ℕ) → length e ≡ k → Below k ls →
    (z : ℤ) (j : ℕ) → j < w.instants → shape_truth w (f (k + 1) ls) (e ++ z ∷ []) t j ≡ p (pick e ls) t j
under_new w f p keeps k ls e t whole below z j inside =
    let below_e : Below (length e) ls = rw whole below in
    keeps.at (k + 1) ls (e ++ z ∷ []) t j (omega (arith, length_push e z, whole)) (below_more k ls below) inside
    ∙ ap (λ e. p e t j) (pick_more e z ls below_e)

-- and under two
under_two : (w : World) (f : Written) (p : Truth) → KeepsTruth w f p → (k : ℕ) (ls : Levels) (e : List ℤ) (t : List ℕ) → length e ≡ k → Below k ls →
    (y z : ℤ) (j : ℕ) → j < w.instants → shape_truth w (f (k + 2) ls) (e ++ y ∷ [] ++ z ∷ []) t j ≡ p (pick e ls) t j
under_two w f p keeps k ls e t whole below y z j inside =
    let below_e : Below (length e) ls = rw whole below in
    let one : length (e ++ y ∷ []) ≡ k + 1 = omega (arith, length_push e y, whole) in
    let below_one : Below (length (e ++ y ∷ [])) ls = rw one (below_more k ls below) in
    let two : k + 1 + 1 ≡ k + 2 = omega arith in
    let below_two : Below (k + 2) ls = rw (← two) (below_more (k + 1) ls (below_more k ls below)) in
    keeps.at (k + 2) ls (e ++ y ∷ [] ++ z ∷ []) t j (omega (arith, length_push (e ++ y ∷ []) z, one)) below_two inside
    ∙ ap (λ e. p e t j) (pick_more (e ++ y ∷ []) z ls below_one ∙ pick_more e y ls below_e)

-- the values of the new variables, and of a term below them
new_value : (w : World) (e : List ℤ) (z : ℤ) (t : List ℕ) (i k : ℕ) → length e ≡ k → value w (term.Var k) (e ++ z ∷ []) t i ≡ Some z
new_value w e z t i k whole = value-Var w k (e ++ z ∷ []) t i ∙ ap Some (get_or_push e z (pos 0) k whole)

outer_value : (w : World) (e : List ℤ) (z : ℤ) (t : List ℕ) (i k : ℕ) → k < length e → value w (term.Var k) (e ++ z ∷ []) t i ≡ value w (term.Var k) e t i
outer_value w e z t i k inside =
    value-Var w k (e ++ z ∷ []) t i ∙ ap Some (get_or_append_left e (z ∷ []) (pos 0) k inside) ∙ sym (value-Var w k e t i)

term_value_below : (w : World) (x : Term) (ls : Levels) (e : List ℤ) (z : ℤ) (t : List ℕ) (i k : ℕ) → length e ≡ k → Below k ls →
    value w (renamed ls x) (e ++ z ∷ []) t i ≡ value w x (pick e ls) t i
term_value_below w x ls e z t i k whole below =
    let below_e : Below (length e) ls = rw whole below in
    renamed_value w ls (e ++ z ∷ []) t i x ∙ ap (λ e. value w x e t i) (pick_more e z ls below_e)

new_distance : (w : World) (m : Way) (e : List ℤ) (z : ℤ) (t : List ℕ) (i k : ℕ) → length e ≡ k →
    value w (towards m (term.Var k)) (e ++ z ∷ []) t i ≡ Some (moved m z)
new_distance w m e z t i k whole = towards_value w m (term.Var k) (e ++ z ∷ []) t i ∙ ap (option_map (moved m)) (new_value w e z t i k whole)

-- a quantifier of the formula
whole_number : (z : ℤ) (n : ℕ) → z ≡ pos n → at_least_zero z ≡ n
whole_number z n is = rw is refl

numbers_of_kind : (k : DomainKind) → numbers (range_of_kind k).low (range_of_kind k).high ≡ values_of k
numbers_of_kind kind.Bool = refl
numbers_of_kind (kind.Range low high) = refl
numbers_of_kind (kind.Words words) =
    ap (integers (pos 0)) (whole_number (((pos (length words) -ℤ pos 1) +ℤ pos 1) -ℤ pos 0) (length words) (omega (arith, ints)))

pub numbers_of_domain : (w : World) (d : ℕ) → numbers (range_of_domain w d).low (range_of_domain w d).high ≡ values_in w.domains d
unfolding integers
numbers_of_domain w d = at_option (slice_get w.domains d) refl
  where
    at_option : (o : Option Domain) → slice_get w.domains d ≡ o → numbers (range_of_domain w d).low (range_of_domain w d).high ≡ values_in w.domains d
    at_option None is = rw is refl
    at_option (Some domain) is = rw is (numbers_of_kind domain.kind)

pub keeps_for_some : (w : World) (d : ℕ) (f : Written) (p : Truth) → KeepsTruth w f p →
    KeepsTruth w (for_some (range_of_domain w d) f) (λ e t i. list_any (λ z. p (e ++ z ∷ []) t i) (values_in w.domains d))
keeps_for_some w d f p keeps = record {
  at = λ k ls e t i whole below inside.
      any_same (λ z. shape_truth w (f (k + 1) (ls ++ k ∷ [])) (e ++ z ∷ []) t i) (λ z. p (pick e ls ++ z ∷ []) t i)
      (λ z. keeps.at (k + 1) (ls ++ k ∷ []) (e ++ z ∷ []) t i (omega (arith, length_push e z, whole)) (below_new k ls below) inside
      ∙ ap (λ e. p e t i) (pick_new e z ls k whole below))
      (numbers (range_of_domain w d).low (range_of_domain w d).high)
      ∙ ap (list_any (λ z. p (pick e ls ++ z ∷ []) t i)) (numbers_of_domain w d);
}

-- at a distance
pub keeps_dist : (w : World) (f : Written) (p : Truth) (x : Term) → KeepsTruth w f p →
    KeepsTruth w (dist_written f x) (λ e t i. list_any (p e t) (at_distance w i (value w x e t i)))
keeps_dist w f p x keeps = record {
  at = λ k ls e t i whole below inside.
      ap (λ d. list_any (shape_truth w (f k ls) e t) (at_distance w i d)) (renamed_value w ls e t i x)
      ∙ there_inside w i (value w x (pick e ls) t i) (shape_truth w (f k ls) e t) (p (pick e ls) t) (λ j at. keeps.at k ls e t j whole below at);
}

no_less : (v : Option ℤ) → relates rel.Le (Some (pos 0)) v ≡ is_not_negative v
no_less None = refl
no_less (Some d) = refl

pub keeps_at_far : (w : World) (m : Way) (f : Written) (p : Truth) (x : Term) → KeepsTruth w f p →
    KeepsTruth w (at_far m f x) (λ e t i. is_not_negative (value w x e t i) && list_any (p e t) (at_distance w i (option_map (moved m) (value w x e t i))))
keeps_at_far w m f p x keeps = record {
  at = λ k ls e t i whole below inside.
      let v = value w x (pick e ls) t i in
      let first : relates rel.Le (value w (term.Number 0) e t i) (value w (renamed ls x) e t i) ≡ is_not_negative v =
      ap (λ u. relates rel.Le u (value w (renamed ls x) e t i)) (value-Number w 0 e t i) ∙ ap (relates rel.Le (Some (pos 0))) (renamed_value w ls e t i x) ∙ no_less v in
      let second : list_any (shape_truth w (f k ls) e t) (at_distance w i (value w (towards m (renamed ls x)) e t i)) ≡ list_any (p (pick e ls) t) (at_distance w i (option_map (moved m) v)) =
      ap (λ d. list_any (shape_truth w (f k ls) e t) (at_distance w i d)) (towards_value w m (renamed ls x) e t i ∙ ap (option_map (moved m)) (renamed_value w ls e t i x))
      ∙ there_inside w i (option_map (moved m) v) (shape_truth w (f k ls) e t) (p (pick e ls) t) (λ j at. keeps.at k ls e t j whole below at) in
      ap (λ b. b && list_any (shape_truth w (f k ls) e t) (at_distance w i (value w (towards m (renamed ls x)) e t i))) first
      ∙ ap (λ b. is_not_negative v && b) second;
}

-- at some distance of a range
pub keeps_somewhere : (w : World) (low high : ℤ) (g : ℕ → ℕ → Bool) (f : Written) (p : Truth) →
    ((i : ℕ) → i < w.instants → Reaches w way.Ahead i low high (λ z. true) (g i)) → KeepsTruth w f p →
    KeepsTruth w (somewhere low high f) (λ e t i. list_any (p e t) (filter (g i) (instants_of w)))
keeps_somewhere w low high g f p reaches keeps = record {
  at = λ k ls e t i whole below inside.
      any_same
      (λ z. list_any (shape_truth w (f (k + 1) ls) (e ++ z ∷ []) t) (at_distance w i (value w (term.Var k) (e ++ z ∷ []) t i)))
      (λ z. true && list_any (p (pick e ls) t) (at_distance w i (Some (moved way.Ahead z))))
      (λ z. ap (λ d. list_any (shape_truth w (f (k + 1) ls) (e ++ z ∷ []) t) (at_distance w i d)) (new_value w e z t i k whole)
      ∙ there_inside w i (Some z) (shape_truth w (f (k + 1) ls) (e ++ z ∷ []) t) (p (pick e ls) t) (under_new w f p keeps k ls e t whole below z))
      (numbers low high)
      ∙ sought w way.Ahead i low high (λ z. true) (g i) (p (pick e ls) t) (reaches i inside);
}

pub reaches_all : (w : World) (i : ℕ) → i < w.instants → Reaches w way.Ahead i (neg_ℤ (last w)) (last w) (λ z. true) (λ j. true)
reaches_all w i now = record {
  to = λ z j inside at from to yes. refl;
  from = λ z j inside at there. (omega (arith, ints, at, inside, now), omega (arith, ints, at, inside, now), refl);
}

pub reaches_after : (w : World) (i : ℕ) → i < w.instants → Reaches w way.Ahead i (pos 1) (last w) (λ z. true) (λ j. nat_lt i j)
reaches_after w i now = record {
  to = λ z j inside at from to yes. lt-ltb i j (omega (arith, ints, at, from));
  from = λ z j inside at there. let later = ltb-true i j there in (omega (arith, ints, at, later), omega (arith, ints, at, inside, now), refl);
}

pub reaches_before : (w : World) (i : ℕ) → i < w.instants → Reaches w way.Ahead i (neg_ℤ (last w)) (neg_ℤ (pos 1)) (λ z. true) (λ j. nat_lt j i)
reaches_before w i now = record {
  to = λ z j inside at from to yes. lt-ltb j i (omega (arith, ints, at, to));
  from = λ z j inside at there. let earlier = ltb-true j i there in (omega (arith, ints, at, inside, now), omega (arith, ints, at, earlier), refl);
}

-- the instants of a range ahead or back
abbrev pub is_in_range : Way → Ends → ℕ → Option ℤ → ℕ → Bool
is_in_range way.Ahead = is_ahead
is_in_range way.Back = is_behind

abbrev InRange : Way → Ends → ℕ → ℤ → ℕ → Type 0
InRange way.Ahead = Ahead
InRange way.Back = Behind

tells_range : (m : Way) (s : Ends) (i : ℕ) → Tells (is_in_range m s i) (InRange m s i)
tells_range way.Ahead s i = tells_ahead s i
tells_range way.Back s i = tells_behind s i

no_distance : (m : Way) (s : Ends) (i j : ℕ) → is_in_range m s i None j ≡ false
no_distance way.Ahead s i j = refl
no_distance way.Back s i j = refl

in_range : (m : Way) (s : Ends) (i : ℕ) (d : ℤ) (j : ℕ) → Decides (is_in_range m s i (Some d) j) (InRange m s i d j)
unfolding Tells
in_range m s i d j = (tells_range m s i).1 d j

-- a distance of the range leads to an instant of it
to_range : (m : Way) (s : Ends) (i j : ℕ) (z d : ℤ) → pos j ≡ pos i +ℤ moved m z → least_of s ≤ℤ z → relates (relation_of s) (Some z) (Some d) ≡ true → InRange m s i d j
to_range way.Ahead ends.Bare i j z d at from test = let less = (Decides-int_lt z d).0 test in (omega (arith, ints, at, from), omega (arith, ints, at, less))
to_range way.Ahead ends.Ii i j z d at from test = let less = (Decides-int_le z d).0 test in (omega (arith, ints, at, from), omega (arith, ints, at, less))
to_range way.Ahead ends.Ie i j z d at from test = let less = (Decides-int_lt z d).0 test in (omega (arith, ints, at, from), omega (arith, ints, at, less))
to_range way.Ahead ends.Ei i j z d at from test = let less = (Decides-int_le z d).0 test in (omega (arith, ints, at, from), omega (arith, ints, at, less))
to_range way.Back ends.Bare i j z d at from test = let less = (Decides-int_lt z d).0 test in (omega (arith, ints, at, less), omega (arith, ints, at, from))
to_range way.Back ends.Ii i j z d at from test = let less = (Decides-int_le z d).0 test in (omega (arith, ints, at, less), omega (arith, ints, at, from))
to_range way.Back ends.Ie i j z d at from test = let less = (Decides-int_lt z d).0 test in (omega (arith, ints, at, less), omega (arith, ints, at, from))
to_range way.Back ends.Ei i j z d at from test = let less = (Decides-int_le z d).0 test in (omega (arith, ints, at, less), omega (arith, ints, at, from))

from_range : (m : Way) (s : Ends) (i j : ℕ) (z d : ℤ) → pos j ≡ pos i +ℤ moved m z → InRange m s i d j → (least_of s ≤ℤ z) × (relates (relation_of s) (Some z) (Some d) ≡ true)
from_range way.Ahead ends.Bare i j z d at there = (omega (arith, ints, at, there.0), (Decides-int_lt z d).1 (omega (arith, ints, at, there.1)))
from_range way.Ahead ends.Ii i j z d at there = (omega (arith, ints, at, there.0), (Decides-int_le z d).1 (omega (arith, ints, at, there.1)))
from_range way.Ahead ends.Ie i j z d at there = (omega (arith, ints, at, there.0), (Decides-int_lt z d).1 (omega (arith, ints, at, there.1)))
from_range way.Ahead ends.Ei i j z d at there = (omega (arith, ints, at, there.0), (Decides-int_le z d).1 (omega (arith, ints, at, there.1)))
from_range way.Back ends.Bare i j z d at there = (omega (arith, ints, at, there.1), (Decides-int_lt z d).1 (omega (arith, ints, at, there.0)))
from_range way.Back ends.Ii i j z d at there = (omega (arith, ints, at, there.1), (Decides-int_le z d).1 (omega (arith, ints, at, there.0)))
from_range way.Back ends.Ie i j z d at there = (omega (arith, ints, at, there.1), (Decides-int_lt z d).1 (omega (arith, ints, at, there.0)))
from_range way.Back ends.Ei i j z d at there = (omega (arith, ints, at, there.1), (Decides-int_le z d).1 (omega (arith, ints, at, there.0)))

-- no instant inside time is further than the greatest distance
not_beyond : (w : World) (m : Way) (i j : ℕ) (z : ℤ) → i < w.instants → j < w.instants → pos j ≡ pos i +ℤ moved m z → z ≤ℤ last w
not_beyond w way.Ahead i j z now inside at = omega (arith, ints, at, now, inside)
not_beyond w way.Back i j z now inside at = omega (arith, ints, at, now, inside)

no_relation : (r : Rel) (z : ℤ) → relates r (Some z) None ≡ true → ⊥
no_relation r z h = false≢true h

reaches_range : (w : World) (m : Way) (s : Ends) (i : ℕ) (v : Option ℤ) → i < w.instants →
    Reaches w m i (least_of s) (last w) (λ z. relates (relation_of s) (Some z) v) (is_in_range m s i v)
reaches_range w m s i None now = record {
  to = λ z j inside at from to test. absurd (no_relation (relation_of s) z test);
  from = λ z j inside at there. absurd (false≢true (sym (no_distance m s i j) ∙ there));
}
reaches_range w m s i (Some d) now = record {
  to = λ z j inside at from to test. (in_range m s i d j).1 (to_range m s i j z d at from test);
  from = λ z j inside at there.
      let r = from_range m s i j z d at ((in_range m s i d j).0 there) in
      (r.0, not_beyond w m i j z now inside at, r.1);
}

pub keeps_within : (w : World) (m : Way) (s : Ends) (f : Written) (p : Truth) (x : Term) → KeepsTruth w f p →
    KeepsTruth w (within w m s f x) (λ e t i. list_any (p e t) (filter (is_in_range m s i (value w x e t i)) (instants_of w)))
keeps_within w m s f p x keeps = record {
  at = λ k ls e t i whole below inside.
      let v = value w x (pick e ls) t i in
      any_same
      (λ z. relates (relation_of s) (value w (term.Var k) (e ++ z ∷ []) t i) (value w (renamed ls x) (e ++ z ∷ []) t i)
      && list_any (shape_truth w (f (k + 1) ls) (e ++ z ∷ []) t) (at_distance w i (value w (towards m (term.Var k)) (e ++ z ∷ []) t i)))
      (λ z. relates (relation_of s) (Some z) v && list_any (p (pick e ls) t) (at_distance w i (Some (moved m z))))
      (λ z. ap (λ b. b && list_any (shape_truth w (f (k + 1) ls) (e ++ z ∷ []) t) (at_distance w i (value w (towards m (term.Var k)) (e ++ z ∷ []) t i)))
      (ap (λ u. relates (relation_of s) u (value w (renamed ls x) (e ++ z ∷ []) t i)) (new_value w e z t i k whole)
      ∙ ap (relates (relation_of s) (Some z)) (term_value_below w x ls e z t i k whole below))
      ∙ ap (λ b. relates (relation_of s) (Some z) v && b)
      (ap (λ d. list_any (shape_truth w (f (k + 1) ls) (e ++ z ∷ []) t) (at_distance w i d)) (new_distance w m e z t i k whole)
      ∙ there_inside w i (Some (moved m z)) (shape_truth w (f (k + 1) ls) (e ++ z ∷ []) t) (p (pick e ls) t) (under_new w f p keeps k ls e t whole below z)))
      (numbers (least_of s) (last w))
      ∙ sought w m i (least_of s) (last w) (λ z. relates (relation_of s) (Some z) v) (is_in_range m s i v) (p (pick e ls) t) (reaches_range w m s i v inside);
}

pub keeps_throughout : (w : World) (m : Way) (s : Ends) (f : Written) (p : Truth) (x : Term) → KeepsTruth w f p →
    KeepsTruth w (throughout w m s f x) (λ e t i. list_all (p e t) (filter (is_in_range m s i (value w x e t i)) (instants_of w)))
keeps_throughout w m s f p x keeps =
    in_words w (throughout w m s f x) (throughout w m s f x)
    (λ e t i. not (list_any (λ j. not (p e t j)) (filter (is_in_range m s i (value w x e t i)) (instants_of w))))
    (λ e t i. list_all (p e t) (filter (is_in_range m s i (value w x e t i)) (instants_of w)))
    (λ k ls. refl) (λ e t i inside. sym (all_is_not_any (p e t) (filter (is_in_range m s i (value w x e t i)) (instants_of w))))
    (keeps_opposite w (within w m s (opposite f) x) (λ e t i. list_any (λ j. not (p e t j)) (filter (is_in_range m s i (value w x e t i)) (instants_of w)))
    (keeps_within w m s (opposite f) (not_truth p) x (keeps_opposite w f p keeps)))

pub keeps_next : (w : World) (m : Way) (f : Written) (p : Truth) (x : Term) → KeepsTruth w f p →
    KeepsTruth w (next w m f x) (λ e t i.
    (is_not_negative (value w x e t i) && list_any (p e t) (at_distance w i (option_map (moved m) (value w x e t i))))
    && list_all (λ j. not (p e t j)) (filter (is_in_range m ends.Bare i (value w x e t i)) (instants_of w)))
keeps_next w m f p x keeps = record {
  at = λ k ls e t i whole below inside.
      ap (λ b. b && shape_truth w (throughout w m ends.Bare (opposite f) x k ls) e t i) ((keeps_at_far w m f p x keeps).at k ls e t i whole below inside)
      ∙ ap (λ b. (is_not_negative (value w x (pick e ls) t i) && list_any (p (pick e ls) t) (at_distance w i (option_map (moved m) (value w x (pick e ls) t i)))) && b)
      ((keeps_throughout w m ends.Bare (opposite f) (not_truth p) x (keeps_opposite w f p keeps)).at k ls e t i whole below inside);
}

-- two formulas: the instants beyond i, and those between i and j
abbrev pub is_beyond : Way → ℕ → ℕ → Bool
is_beyond way.Ahead i j = nat_lt i j
is_beyond way.Back i j = nat_lt j i

abbrev pub is_amid : Way → ℕ → ℕ → ℕ → Bool
is_amid way.Ahead i j k = nat_lt i k && nat_lt k j
is_amid way.Back i j k = nat_lt j k && nat_lt k i

-- the distances below another lead to the instants between
amid_to : (m : Way) (i j l : ℕ) (z y : ℤ) → pos j ≡ pos i +ℤ moved m z → pos l ≡ pos i +ℤ moved m y → pos 1 ≤ℤ y → y <ℤ z → is_amid m i j l ≡ true
amid_to way.Ahead i j l z y at there from less = and_from (nat_lt i l) (nat_lt l j) (lt-ltb i l (omega (arith, ints, there, from))) (lt-ltb l j (omega (arith, ints, at, there, less)))
amid_to way.Back i j l z y at there from less = and_from (nat_lt j l) (nat_lt l i) (lt-ltb j l (omega (arith, ints, at, there, less))) (lt-ltb l i (omega (arith, ints, there, from)))

amid_from : (m : Way) (i j l : ℕ) (z y : ℤ) → pos j ≡ pos i +ℤ moved m z → pos l ≡ pos i +ℤ moved m y → is_amid m i j l ≡ true → (pos 1 ≤ℤ y) × (y <ℤ z)
amid_from way.Ahead i j l z y at there amid =
    let parts = and_parts (nat_lt i l) (nat_lt l j) amid in
    let later = ltb-true i l parts.0 in
    let earlier = ltb-true l j parts.1 in
    (omega (arith, ints, there, later), omega (arith, ints, at, there, earlier))
amid_from way.Back i j l z y at there amid =
    let parts = and_parts (nat_lt j l) (nat_lt l i) amid in
    let later = ltb-true j l parts.0 in
    let earlier = ltb-true l i parts.1 in
    (omega (arith, ints, there, earlier), omega (arith, ints, at, there, later))

reaches_amid : (w : World) (m : Way) (i j : ℕ) (z : ℤ) → i < w.instants → pos j ≡ pos i +ℤ moved m z →
    Reaches w m i (pos 1) (last w) (λ y. relates rel.Lt (Some y) (Some z)) (is_amid m i j)
reaches_amid w m i j z now at = record {
  to = λ y l inside there from to test. amid_to m i j l z y at there from ((Decides-int_lt y z).0 test);
  from = λ y l inside there amid.
      let r = amid_from m i j l z y at there amid in
      (r.0, not_beyond w m i l y now inside there, (Decides-int_lt y z).1 r.1);
}

beyond_to : (m : Way) (i j : ℕ) (z : ℤ) → pos j ≡ pos i +ℤ moved m z → pos 1 ≤ℤ z → is_beyond m i j ≡ true
beyond_to way.Ahead i j z at from = lt-ltb i j (omega (arith, ints, at, from))
beyond_to way.Back i j z at from = lt-ltb j i (omega (arith, ints, at, from))

beyond_from : (m : Way) (i j : ℕ) (z : ℤ) → pos j ≡ pos i +ℤ moved m z → is_beyond m i j ≡ true → pos 1 ≤ℤ z
beyond_from way.Ahead i j z at beyond = let later = ltb-true i j beyond in omega (arith, ints, at, later)
beyond_from way.Back i j z at beyond = let earlier = ltb-true j i beyond in omega (arith, ints, at, earlier)

-- at each instant between
keeps_up_to : (w : World) (m : Way) (f : Written) (p : Truth) → KeepsTruth w f p → (k : ℕ) (ls : Levels) (e : List ℤ) (t : List ℕ) (i : ℕ) → length e ≡ k → Below k ls →
    i < w.instants → (z : ℤ) (j : ℕ) → pos j ≡ pos i +ℤ moved m z →
    shape_truth w (up_to w m f k ls) (e ++ z ∷ []) t i ≡ list_all (p (pick e ls) t) (filter (is_amid m i j) (instants_of w))
keeps_up_to w m f p keeps k ls e t i whole below now z j at =
    let one : length (e ++ z ∷ []) ≡ k + 1 = omega (arith, length_push e z, whole) in
    ap not
    (any_same
    (λ y. relates rel.Lt (value w (term.Var (k + 1)) (e ++ z ∷ [] ++ y ∷ []) t i) (value w (term.Var k) (e ++ z ∷ [] ++ y ∷ []) t i)
    && list_any (λ l. not (shape_truth w (f (k + 2) ls) (e ++ z ∷ [] ++ y ∷ []) t l)) (at_distance w i (value w (towards m (term.Var (k + 1))) (e ++ z ∷ [] ++ y ∷ []) t i)))
    (λ y. relates rel.Lt (Some y) (Some z) && list_any (λ l. not (p (pick e ls) t l)) (at_distance w i (Some (moved m y))))
    (λ y.
    ap (λ b. b && list_any (λ l. not (shape_truth w (f (k + 2) ls) (e ++ z ∷ [] ++ y ∷ []) t l)) (at_distance w i (value w (towards m (term.Var (k + 1))) (e ++ z ∷ [] ++ y ∷ []) t i)))
    (ap (λ u. relates rel.Lt u (value w (term.Var k) (e ++ z ∷ [] ++ y ∷ []) t i)) (new_value w (e ++ z ∷ []) y t i (k + 1) one)
    ∙ ap (relates rel.Lt (Some y)) (outer_value w (e ++ z ∷ []) y t i k (omega (arith, one)) ∙ new_value w e z t i k whole))
    ∙ ap (λ b. relates rel.Lt (Some y) (Some z) && b)
    (ap (λ d. list_any (λ l. not (shape_truth w (f (k + 2) ls) (e ++ z ∷ [] ++ y ∷ []) t l)) (at_distance w i d)) (new_distance w m (e ++ z ∷ []) y t i (k + 1) one)
    ∙ there_inside w i (Some (moved m y)) (λ l. not (shape_truth w (f (k + 2) ls) (e ++ z ∷ [] ++ y ∷ []) t l)) (λ l. not (p (pick e ls) t l))
    (λ l inside. ap not (under_two w f p keeps k ls e t whole below z y l inside))))
    (numbers (pos 1) (last w))
    ∙ sought w m i (pos 1) (last w) (λ y. relates rel.Lt (Some y) (Some z)) (is_amid m i j) (λ l. not (p (pick e ls) t l)) (reaches_amid w m i j z now at))
    ∙ sym (all_is_not_any (p (pick e ls) t) (filter (is_amid m i j) (instants_of w)))

pub keeps_until : (w : World) (m : Way) (f g : Written) (p q : Truth) → KeepsTruth w f p → KeepsTruth w g q →
    KeepsTruth w (until w m f g) (λ e t i. list_any (λ j. q e t j && list_all (p e t) (filter (is_amid m i j) (instants_of w))) (filter (is_beyond m i) (instants_of w)))
keeps_until w m f g p q keeps_f keeps_g = record {
  at = λ k ls e t i whole below now.
      let there = λ (z : ℤ). list_any (shape_truth w (g (k + 1) ls) (e ++ z ∷ []) t) (at_distance w i (value w (towards m (term.Var k)) (e ++ z ∷ []) t i)) in
      let there_is : (z : ℤ) → there z ≡ list_any (q (pick e ls) t) (at_distance w i (Some (moved m z))) =
      λ z. ap (λ d. list_any (shape_truth w (g (k + 1) ls) (e ++ z ∷ []) t) (at_distance w i d)) (new_distance w m e z t i k whole)
      ∙ there_inside w i (Some (moved m z)) (shape_truth w (g (k + 1) ls) (e ++ z ∷ []) t) (q (pick e ls) t) (under_new w g q keeps_g k ls e t whole below z) in
      let between = λ (z : ℤ). shape_truth w (up_to w m f k ls) (e ++ z ∷ []) t i in
      seek w (pos 1) (last w) (λ z. there z && between z) (is_beyond m i)
      (λ j. q (pick e ls) t j && list_all (p (pick e ls) t) (filter (is_amid m i j) (instants_of w)))
      (λ z from to holds.
      let parts = and_parts (there z) (between z) holds in
      let j = there_at w i (moved m z) (q (pick e ls) t) (sym (there_is z) ∙ parts.0) in (
        j.0,
        j.1,
        beyond_to m i j.0 z j.2 from,
        and_from (q (pick e ls) t j.0) (list_all (p (pick e ls) t) (filter (is_amid m i j.0) (instants_of w))) j.3
            (sym (keeps_up_to w m f p keeps_f k ls e t i whole below now z j.0 j.2) ∙ parts.1),
      ))
      (λ j inside beyond holds.
      let parts = and_parts (q (pick e ls) t j) (list_all (p (pick e ls) t) (filter (is_amid m i j) (instants_of w))) holds in
      let z = distance_to m i j in (
        z.0,
        beyond_from m i j z.0 z.1 beyond,
        not_beyond w m i j z.0 now inside z.1,
        and_from (there z.0) (between z.0) (there_is z.0 ∙ at_there w i (moved m z.0) (q (pick e ls) t) j inside z.1 parts.0)
            (keeps_up_to w m f p keeps_f k ls e t i whole below now z.0 j z.1 ∙ parts.1),
      ));
}
