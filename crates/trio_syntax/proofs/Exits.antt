-- What holds at the exits of a function that reads a form, by what the last call answered.
use Rattle.std.proofs.Common.{◌≡◌, ℕ, ◌+◌, Bool, true, false, List, ◌++◌, length, refl, sym, ap, subst, ◌∙◌, Option, None, Some, Result, Ok, Err}
use Rattle.trio_text.specs.declared.lexeme.Lexeme.{Lexeme}
use Rattle.std.specs.Result.{IsErrAnd, IfOk, result_ok, result_map_both}
use Rattle.std.proofs.lemmas.Option.{none-some, some_pair_parts}
use Rattle.std.specs.Bool.{OnTrue, OnFalse}
use Rattle.trio_text.specs.declared.token.Symbol.TheVariants as signs
use Rattle.trio_syntax.specs.declared.refusal.Refusal.{Refusal}
use Rattle.trio_syntax.specs.declared.refusal.Refusal.TheVariants as refusal
use Rattle.trio_syntax.specs.Forms.{Form, Sort, SortValue, sign, one}
use Rattle.trio_syntax.specs.Grammar.{signed, Derives}
use Rattle.trio_syntax.specs.Exact.{Spot, tokens_of, first, ReadsForm, Stuck, ExactAt, ExactNextAt, Fronts, Takes, Stays}
use Rattle.trio_syntax.proofs.Says.{says_one, one_is}
use Rattle.trio_syntax.proofs.Sets.{has_left, has_right}
use Rattle.trio_syntax.proofs.Left.{Left, left_read, left_stuck, left_first, left_right, reads_one, reads_empty, fronts_taken}

-- the exit of a `?`
pub passed_on : {A B : Type 0} (g : Form A) (h : Form B) (old middle new : Spot) (r : Result A Refusal) (e : Refusal) →
    IsErrAnd r (λ y. y ≡ e) → ExactAt h middle new (Err e) → (Stuck h middle new → Stuck g old new) → ExactAt g old new r
passed_on g h old middle new (Ok v) e same exact goes_on = absurd same
passed_on g h old middle new (Err refusal.Syntax) e same exact goes_on = goes_on (subst (λ y. ExactAt h middle new (Err y)) (sym same) exact)
passed_on g h old middle new (Err refusal.Memory) e same exact goes_on = tt

-- the last call, whose answer is returned as it is
pub handed_on : {A : Type 0} (g h : Form A) (old middle new : Spot) (r : Result A Refusal) → Left g old h (λ v. v) middle → ExactAt h middle new r → ExactAt g old new r
handed_on g h old middle new (Ok v) left exact = left_read left exact
handed_on g h old middle new (Err refusal.Syntax) left exact = left_stuck left exact
handed_on g h old middle new (Err refusal.Memory) left exact = tt

-- the last call, whose answer stands beside what was read before
pub handed_as : {A B : Type 0} {g : Form A} {h : Form B} {value : B → A} {old middle : Spot} (new : Spot) {r : Result A Refusal} (q : Result B Refusal) →
    Left g old h value middle → ExactAt h middle new q → r ≡ result_map_both value (λ e. e) q → ExactAt g old new r
handed_as {g = g} {old = old} new (Ok v) left exact is = subst (λ y. ExactAt g old new y) (sym is) (left_read left exact)
handed_as {g = g} {old = old} new (Err refusal.Syntax) left exact is = subst (λ y. ExactAt g old new y) (sym is) (left_stuck left exact)
handed_as {g = g} {old = old} new (Err refusal.Memory) left exact is = subst (λ y. ExactAt g old new y) (sym is) tt

-- a value, and the box that was made beside it
pub made_beside : {A B E : Type 0} {kept f : A} {inner b : B} (q : Result B E) → IfOk q (λ v. v ≡ inner) →
    result_map_both {U = A × B} (λ there. (kept, there)) (λ e. e) q ≡ Ok (f, b) → (f ≡ kept) × (b ≡ inner)
made_beside {kept = kept} {f = f} {b = b} (Ok v) made is = let p = some_pair_parts kept f v b (ap result_ok is) in (sym p.0, sym p.1 ∙ made)
made_beside {f = f} {b = b} (Err e) made is = absurd (none-some (f, b) (ap result_ok is))

-- the same reading, with its value said otherwise
pub reads_as : {A : Type 0} {g : Form A} {old new : Spot} {v w : A} → w ≡ v → ReadsForm g old new v → ReadsForm g old new w
reads_as {g = g} {old = old} {new = new} same reads = subst (λ a. ReadsForm g old new a) (sym same) reads

-- whether `-` stands in front
pub reads_signed : {old new : Spot} (minus : Bool) → OnTrue minus (Takes (sign signs.Minus) tt old new) → OnFalse minus (Stays (tokens_of (sign signs.Minus)) old new) → ReadsForm signed old new minus
reads_signed true taken left = left_read (left_first refl (fronts_taken taken)) (reads_one taken)
reads_signed false taken left = left_read (left_right refl left) reads_empty

-- the same token, which stands for something else
pub one_reads : {A B : Type 0} {sort : Sort} {value : ℕ → SortValue sort → A} {other : ℕ → SortValue sort → B} {old new : Spot} {v : A} (f : A → B) →
    ((p : ℕ) (m : SortValue sort) → f (value p m) ≡ other p m) → ReadsForm (one sort value) old new v → ReadsForm (one sort other) old new (f v)
one_reads {sort = sort} {old = old} {new = new} f same r =
    let d = one_is r.reading in
    let takes : Takes sort d.0 old new = record { whole = r.whole ∙ ap (λ (y : List Lexeme). y ++ new.rest) d.1; place = r.place ∙ ap (λ (y : List Lexeme). old.at + length y) d.1 } in
    reads_as (ap f d.2 ∙ same old.at d.0) (reads_one takes)

pub one_stuck : {A B : Type 0} {sort : Sort} {value : ℕ → SortValue sort → A} {other : ℕ → SortValue sort → B} {old new : Spot} → Stuck (one sort value) old new → Stuck (one sort other) old new
one_stuck {sort = sort} {value = value} {other = other} {old = old} {new = new} r =
    let b = one_is r.begins in
    record {
      text = r.text;
      whole = r.whole;
      place = r.place;
      more = r.more;
      value = other old.at b.0;
      begins = subst (λ (y : List Lexeme). Derives (one sort other) old.at y (other old.at b.0)) (sym b.1) (says_one old.at b.0);
      dead = λ x w s z d st e al.
          let d' = one_is d in
          r.dead x (value old.at d'.0) s z (subst (λ (y : List Lexeme). Derives (one sort value) old.at y (value old.at d'.0)) (sym d'.1) (says_one old.at d'.0)) st e al;
    }

-- the exit of a `?`, where a text of the form begins here
pub passed_next : {A B : Type 0} (g : Form A) (h : Form B) (old middle new : Spot) (r : Result (Option A) Refusal) (e : Refusal) →
    IsErrAnd r (λ y. y ≡ e) → ExactAt h middle new (Err e) → Fronts (first g) old.rest → (Stuck h middle new → Stuck g old new) → ExactNextAt g old new r
passed_next g h old middle new (Ok v) e same exact front goes_on = absurd same
passed_next g h old middle new (Err refusal.Syntax) e same exact front goes_on = (front, goes_on (subst (λ y. ExactAt h middle new (Err y)) (sym same) exact))
passed_next g h old middle new (Err refusal.Memory) e same exact front goes_on = tt

pub fronts_one : {set : List (List ℕ)} {x : List Lexeme} (other : List (List ℕ)) → Fronts set x → Fronts (set ++ other) x
fronts_one {set} other front = record { token = front.token; tail = front.tail; whole = front.whole; is = has_left set other front.token front.is }

pub fronts_other : {set : List (List ℕ)} {old new : Spot} (before : List (List ℕ)) → Stays before old new → Fronts set new.rest → Fronts (before ++ set) old.rest
fronts_other {set} {old} {new} before stays front =
    record { token = front.token; tail = front.tail; whole = ap (λ w. w.rest) (sym stays.same) ∙ front.whole; is = has_right before set front.token front.is }

-- the exit of a `?` in a loop, behind the next text
pub passed_loop : {A E : Type 0} (g : Form A) (h : Form E) (old middle new : Spot) (r : Result A Refusal) (e : Refusal) →
    IsErrAnd r (λ y. y ≡ e) → ExactNextAt h middle new (Err e) → (Fronts (first h) middle.rest → Stuck h middle new → Stuck g old new) → ExactAt g old new r
passed_loop g h old middle new (Ok v) e same exact goes_on = absurd same
passed_loop g h old middle new (Err refusal.Syntax) e same exact goes_on =
    let both = subst (λ y. ExactNextAt h middle new (Err y)) (sym same) exact in goes_on both.0 both.1
passed_loop g h old middle new (Err refusal.Memory) e same exact goes_on = tt

pub next_some : {A : Type 0} (g : Form A) (old new : Spot) (o : Option A) (v : A) → o ≡ Some v → ExactNextAt g old new (Ok o) → Fronts (first g) old.rest × ReadsForm g old new v
next_some g old new o v is exact = subst (λ x. ExactNextAt g old new (Ok x)) is exact

pub next_none : {A : Type 0} (g : Form A) (old new : Spot) (o : Option A) → o ≡ None → ExactNextAt g old new (Ok o) → Stays (first g) old new
next_none g old new o is exact = subst (λ x. ExactNextAt g old new (Ok x)) is exact
