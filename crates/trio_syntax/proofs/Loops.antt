-- Loops over texts of one form behind one another, and how many tokens each step leaves.
use Rattle.std.proofs.Common.{◌≡◌, ℕ, ◌<◌, ◌≤◌, true, false, List, [], ◌∷◌, ◌++◌, length, sym, ap, subst, ◌∙◌, append_assoc, arith, length-append}
use Rattle.std.proofs.lemmas.List.{append-nil}
use Rattle.trio_syntax.specs.Forms.{Sort, SortValue, Form, many}
use Rattle.trio_syntax.specs.Exact.{Spot, may_be_empty, first, follow, apart, ReadsForm, Stuck, Fronts, Takes, Stays}
use Rattle.trio_syntax.proofs.Sets.{says_fronts}
use Rattle.trio_syntax.proofs.Left.{Left, left_left, left_read, left_stuck, left_value, left_seq, seq_stuck, left_many, many_end}
use Rattle.trio_syntax.proofs.Filled.{fill}

pub loop_end : {A E : Type 0} {g : Form A} {h : Form E} {old middle new : Spot} (value : List E → A) (parts : List E) → may_be_empty h ≡ false →
    Left g old (many h) (λ vs. value (parts ++ vs)) middle → Stays (first h) middle new → ReadsForm g old new (value parts)
loop_end {g = g} {old = old} {new = new} value parts some left stays =
    subst (λ vs. ReadsForm g old new (value vs)) (append-nil parts) (left_read left (many_end some stays))

pub loop_more : {A E : Type 0} {g : Form A} {h : Form E} {old middle new : Spot} {v : E} (value : List E → A) (parts : List E) → apart (follow h) (first h) ≡ true →
    Left g old (many h) (λ vs. value (parts ++ vs)) middle → Fronts (first h) middle.rest → ReadsForm h middle new v → Left g old (many h) (λ vs. value ((parts ++ v ∷ []) ++ vs)) new
loop_more {v = v} value parts other left front reads =
    left_value (λ vs. value ((parts ++ v ∷ []) ++ vs)) (λ vs. ap value (sym (append_assoc parts (v ∷ []) vs)))
    (left_left left (left_left (left_many other front) (left_seq other reads)))

pub loop_stuck : {A E : Type 0} {g : Form A} {h : Form E} {old middle new : Spot} {value : List E → A} → apart (follow h) (first h) ≡ true →
    Left g old (many h) value middle → Fronts (first h) middle.rest → Stuck h middle new → Stuck g old new
loop_stuck {h = h} other left front stuck = left_stuck left (left_stuck (left_many other front) (seq_stuck (fill (many h)) other stuck))

-- what is left is no more than before
pub reads_less : {A : Type 0} {g : Form A} {old new : Spot} {v : A} → ReadsForm g old new v → length new.rest ≤ length old.rest
reads_less {new = new} r = omega (arith, ap length r.whole, length-append r.text new.rest)

pub takes_less : {sort : Sort} {m : SortValue sort} {old new : Spot} → Takes sort m old new → length new.rest < length old.rest
takes_less takes = omega (arith, ap length takes.whole)

pub stays_same : {set : List (List ℕ)} {old new : Spot} → Stays set old new → length new.rest ≡ length old.rest
stays_same stays = ap (λ w. length w.rest) stays.same

pub left_less : {A B : Type 0} {g : Form A} {h : Form B} {value : B → A} {old new : Spot} → Left g old h value new → length new.rest ≤ length old.rest
left_less {new = new} l = omega (arith, ap length l.whole, length-append l.text new.rest)

pub some_less : {A : Type 0} {g : Form A} {old new : Spot} {v : A} → may_be_empty g ≡ false → ReadsForm g old new v → length new.rest < length old.rest
some_less {new = new} some r =
    let front = says_fronts some r.reading in
    omega (arith, ap length r.whole, length-append r.text new.rest, ap length front.whole)

-- the parts that were read, said otherwise
pub loop_as : {A E : Type 0} {g : Form A} {h : Form E} {old new : Spot} {parts : List E} (value : List E → A) (other : List E) → other ≡ parts →
    Left g old (many h) (λ vs. value (parts ++ vs)) new → Left g old (many h) (λ vs. value (other ++ vs)) new
loop_as {g = g} {h = h} {old = old} {new = new} value other same left = subst (λ list. Left g old (many h) (λ vs. value (list ++ vs)) new) (sym same) left

-- the first part of a new list
pub first_part : {E : Type 0} {empty_ list : List E} (v : E) → list ≡ empty_ ++ v ∷ [] → empty_ ≡ [] → list ≡ v ∷ []
first_part v is none = is ∙ ap (λ l. l ++ v ∷ []) none

-- the spot where nothing was taken
pub stays_at_place : {set : List (List ℕ)} {old new : Spot} → Stays set old new → new.at ≡ old.at
stays_at_place stays = ap (λ w. w.at) stays.same
