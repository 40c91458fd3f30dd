-- What is left to read of a text that was begun, and how the parts that are read make it up.
use Rattle.std.proofs.Common.{◌≡◌, ℕ, ◌+◌, ◌⊎◌, inl, inr, true, false, List, [], ◌∷◌, ◌++◌, length, refl, sym, ap, subst, ◌∙◌, append_assoc, arith, length-append}
use Rattle.std.proofs.lemmas.List.{append_cancel_left}
use Rattle.trio_text.specs.declared.lexeme.Lexeme.{Lexeme}
use Rattle.trio_syntax.specs.Forms.{Sort, SortValue, token_of, Nonterminal, Form, empty, one, row, seq, either, many, Joined}
use Rattle.trio_syntax.specs.Grammar.{production, Derives}
use Rattle.trio_syntax.specs.Exact.{Spot, tokens_of, goes_on, may_be_empty, where_empty, first, follow, apart, Stops, Alike, ReadsForm, Stuck, Fronts, Takes, Stays}
use Rattle.trio_syntax.proofs.Says.{says_empty, empty_is, says_one, one_is, says_row, row_is, says_seq, seq_is, says_left, says_right, either_is, says_none, says_more, IsMore, many_is}
use Rattle.trio_syntax.proofs.Sets.{stops_parts, stops_both, stops_within, stops_where, fronts_right, fronts_stop, fronts_alike, alike_fronts, fronts_apart, stops_apart, token_among, row_goes_on, Opens, says_opens, says_fronts}
use Rattle.trio_syntax.proofs.Tokens.{same_meaning}

alike_append : (x z y : List Lexeme) → Alike z y → Alike (x ++ z) (x ++ y)
alike_append [] z y same = same
alike_append (t ∷ x) z y same = refl

alike_whole : (inner z middle end : List Lexeme) → middle ≡ inner ++ end → Alike z end → Alike (inner ++ z) middle
alike_whole inner z middle end whole same = subst (λ (w : List Lexeme). Alike (inner ++ z) w) (sym whole) (alike_append inner z end same)

-- the tokens behind the text, from those of the whole
rest_same : (text y x s z : List Lexeme) → x ≡ text ++ y → x ++ s ≡ text ++ z → y ++ s ≡ z
rest_same text y x s z is same = append_cancel_left text (y ++ s) z (sym (append_assoc text y s) ∙ ap (λ (w : List Lexeme). w ++ s) (sym is) ∙ same)

whole_same : (text inner old middle end : List Lexeme) → old ≡ text ++ middle → middle ≡ inner ++ end → old ≡ (text ++ inner) ++ end
whole_same text inner old middle end one_ two_ = one_ ∙ ap (λ (w : List Lexeme). text ++ w) two_ ∙ sym (append_assoc text inner end)

place_same : (text inner : List Lexeme) (p q r : ℕ) → q ≡ p + length text → r ≡ q + length inner → r ≡ p + length (text ++ inner)
place_same text inner p q r one_ two_ = omega (arith, one_, two_, length-append text inner)

-- Of a text of g that begins at the old spot, a text of h is left at the new one.
pub record Left {A B : Type 0} (g : Form A) (old : Spot) (h : Form B) (value : B → A) (new : Spot) : Type 0 where
  pub text : List Lexeme
  pub whole : old.rest ≡ text ++ new.rest
  pub place : new.at ≡ old.at + length text
  pub into : (y : List Lexeme) (b : B) → Derives h new.at y b → Derives g old.at (text ++ y) (value b)
  pub back : (x : List Lexeme) (a : A) (s z : List Lexeme) → Derives g old.at x a → Stops (follow g) s → x ++ s ≡ text ++ z → Alike z new.rest →
      (y : List Lexeme) × (b : B) × Derives h new.at y b × Stops (follow h) s × (x ≡ text ++ y) × (a ≡ value b)

pub left_left : {A B C : Type 0} {g : Form A} {h : Form B} {k : Form C} {value : B → A} {inner : C → B} {old middle new : Spot} →
    Left g old h value middle → Left h middle k inner new → Left g old k (λ c. value (inner c)) new
left_left {g = g} {value = value} {inner = inner} {old = old} {middle = middle} {new = new} l m =
    record {
      text = l.text ++ m.text;
      whole = whole_same l.text m.text old.rest middle.rest new.rest l.whole m.whole;
      place = place_same l.text m.text old.at middle.at new.at l.place m.place;
      into = λ y c d. subst (λ (x : List Lexeme). Derives g old.at x (value (inner c))) (sym (append_assoc l.text m.text y)) (l.into (m.text ++ y) (inner c) (m.into y c d));
      back = λ x a s z d st e al.
          let same = e ∙ append_assoc l.text m.text z in
          let got = l.back x a s (m.text ++ z) d st same (alike_whole m.text z middle.rest new.rest m.whole al) in
          let next = m.back got.0 got.1 s z got.2 got.3 (rest_same l.text got.0 x s (m.text ++ z) got.4 same) al in
          (next.0, next.1, next.2, next.3, whole_same l.text m.text x got.0 next.0 got.4 next.4, got.5 ∙ ap value next.5);
    }

pub left_read : {A B : Type 0} {g : Form A} {h : Form B} {value : B → A} {old middle new : Spot} {v : B} →
    Left g old h value middle → ReadsForm h middle new v → ReadsForm g old new (value v)
left_read {g = g} {value = value} {old = old} {middle = middle} {new = new} {v = v} l r =
    record {
      text = l.text ++ r.text;
      whole = whole_same l.text r.text old.rest middle.rest new.rest l.whole r.whole;
      place = place_same l.text r.text old.at middle.at new.at l.place r.place;
      reading = l.into r.text v r.reading;
      only = λ x w s z d st e al.
          let same = e ∙ append_assoc l.text r.text z in
          let got = l.back x w s (r.text ++ z) d st same (alike_whole r.text z middle.rest new.rest r.whole al) in
          let sole = r.only got.0 got.1 s z got.2 got.3 (rest_same l.text got.0 x s (r.text ++ z) got.4 same) al in
          (got.4 ∙ ap (λ (y : List Lexeme). l.text ++ y) sole.0, got.5 ∙ ap value sole.1);
    }

pub left_stuck : {A B : Type 0} {g : Form A} {h : Form B} {value : B → A} {old middle new : Spot} →
    Left g old h value middle → Stuck h middle new → Stuck g old new
left_stuck {g = g} {value = value} {old = old} {middle = middle} {new = new} l r =
    record {
      text = l.text ++ r.text;
      whole = whole_same l.text r.text old.rest middle.rest new.rest l.whole r.whole;
      place = place_same l.text r.text old.at middle.at new.at l.place r.place;
      more = r.more;
      value = value r.value;
      begins = subst (λ (x : List Lexeme). Derives g old.at x (value r.value)) (sym (append_assoc l.text r.text r.more)) (l.into (r.text ++ r.more) r.value r.begins);
      dead = λ x w s z d st e al.
          let same = e ∙ append_assoc l.text r.text z in
          let got = l.back x w s (r.text ++ z) d st same (alike_whole r.text z middle.rest new.rest r.whole al) in
          r.dead got.0 got.1 s z got.2 got.3 (rest_same l.text got.0 x s (r.text ++ z) got.4 same) al;
    }

-- the same rest, with its value said otherwise
pub left_value : {A B : Type 0} {g : Form A} {h : Form B} {value : B → A} {old new : Spot} (other : B → A) → ((b : B) → value b ≡ other b) → Left g old h value new → Left g old h other new
left_value {g = g} {old = old} other same l =
    record {
      text = l.text;
      whole = l.whole;
      place = l.place;
      into = λ y b d. subst (λ v. Derives g old.at (l.text ++ y) v) (same b) (l.into y b d);
      back = λ x a s z d st e al. let got = l.back x a s z d st e al in (got.0, got.1, got.2, got.3, got.4, got.5 ∙ same got.1);
    }

-- from the same spot a text of g is one of h
left_here : {A B : Type 0} {g : Form A} {h : Form B} {value : B → A} {old new : Spot} → new ≡ old →
    ((y : List Lexeme) (b : B) → Derives h old.at y b → Derives g old.at y (value b)) →
    ((x : List Lexeme) (a : A) (s : List Lexeme) → Derives g old.at x a → Stops (follow g) s → Alike (x ++ s) old.rest → (b : B) × Derives h old.at x b × Stops (follow h) s × (a ≡ value b)) →
    Left g old h value new
left_here {g = g} {h = h} {value = value} {old = old} same into back =
    subst (λ w. Left g old h value w) (sym same)
    (record {
      text = [];
      whole = refl;
      place = omega arith;
      into = into;
      back = λ x a s z d st e al.
          let got = back x a s d st (subst (λ (w : List Lexeme). Alike w old.rest) (sym e) al) in
          (x, got.0, got.1, got.2, refl, got.3);
    })

pub left_row : (r : Nonterminal) {old : Spot} → Left (row r) old (production r) (λ v. v) old
left_row r = left_here refl (λ y b d. says_row d) (λ x a s d st al. (a, row_is d, stops_within (follow (production r)) (goes_on r) s (row_goes_on r) st, refl))

-- where no text of the first stands in front
pub left_right : {A : Type 0} {g h : Form A} {old new : Spot} → may_be_empty g ≡ false → Stays (first g) old new → Left (either g h) old h (λ v. v) new
left_right {A} {g} {h} {old} some stays = left_here stays.same (λ y b d. says_right d) (λ x a s d st al. cases x a s st al (either_is d))
  where
    cases : (x : List Lexeme) (a : A) (s : List Lexeme) → Stops (follow (either g h)) s → Alike (x ++ s) old.rest → Derives g old.at x a ⊎ Derives h old.at x a →
        (b : A) × Derives h old.at x b × Stops (follow h) s × (a ≡ b)
    cases x a s st al (inl d) = absurd (fronts_stop (first g) old.rest (alike_fronts (first g) (x ++ s) old.rest (fronts_right s (says_fronts some d)) al) stays.stops)
    cases x a s st al (inr d) =
        let ends = stops_parts (follow g ++ follow h) (where_empty (may_be_empty g) (first h) ++ where_empty (may_be_empty h) (first g)) s st in
        (a, d, (stops_parts (follow g) (follow h) s ends.0).1, refl)

-- where a token of the first stands in front
pub left_first : {A : Type 0} {g h : Form A} {old : Spot} → apart (first g) (first h) ≡ true → Fronts (first g) old.rest → Left (either g h) old g (λ v. v) old
left_first {A} {g} {h} {old} other front = left_here refl (λ y b d. says_left d) (λ x a s d st al. cases x a s st al (either_is d))
  where
    ended : (x s : List Lexeme) → Stops (follow (either g h)) s → Alike (x ++ s) old.rest → Opens h x → ⊥
    ended x s st al (inl nil) =
        let ends = stops_parts (follow g ++ follow h) (where_empty (may_be_empty g) (first h) ++ where_empty (may_be_empty h) (first g)) s st in
        let last = stops_where (may_be_empty h) (first g) s nil.1 (stops_parts (where_empty (may_be_empty g) (first h)) (where_empty (may_be_empty h) (first g)) s ends.1).1 in
        fronts_stop (first g) s (fronts_alike (first g) s old.rest (subst (λ (w : List Lexeme). Alike (w ++ s) old.rest) nil.0 al) front) last
    ended x s st al (inr second) =
        fronts_apart (first g) (first h) (x ++ s) other (fronts_alike (first g) (x ++ s) old.rest al front) (fronts_right s second)

    cases : (x : List Lexeme) (a : A) (s : List Lexeme) → Stops (follow (either g h)) s → Alike (x ++ s) old.rest → Derives g old.at x a ⊎ Derives h old.at x a →
        (b : A) × Derives g old.at x b × Stops (follow g) s × (a ≡ b)
    cases x a s st al (inl d) =
        let ends = stops_parts (follow g ++ follow h) (where_empty (may_be_empty g) (first h) ++ where_empty (may_be_empty h) (first g)) s st in
        (a, d, (stops_parts (follow g) (follow h) s ends.0).0, refl)
    cases x a s st al (inr d) = absurd (ended x s st al (says_opens d))

-- behind a text of the first part no longer text of it stands
seq_stops : {A B C : Type 0} (g : Form B) (h : Form C) (value : ℕ → B → C → A) {p : ℕ} {y : List Lexeme} {c : C} →
    apart (follow g) (first h) ≡ true → (s : List Lexeme) → Stops (follow (seq g h value)) s → Derives h p y c → Stops (follow g) (y ++ s)
seq_stops g h value {y = y} other s st d = cases (says_opens d)
  where
    cases : Opens h y → Stops (follow g) (y ++ s)
    cases (inl nil) =
        let last = stops_where (may_be_empty h) (first h ++ follow g) s nil.1 (stops_parts (follow h) (where_empty (may_be_empty h) (first h ++ follow g)) s st).1 in
        subst (λ (w : List Lexeme). Stops (follow g) (w ++ s)) (sym nil.0) (stops_parts (first h) (follow g) s last).1
    cases (inr front) = stops_apart (follow g) (first h) (y ++ s) other (fronts_right s front)

-- behind the first part that was read
pub left_seq : {A B C : Type 0} {g : Form B} {h : Form C} {value : ℕ → B → C → A} {old middle : Spot} {b : B} →
    apart (follow g) (first h) ≡ true → ReadsForm g old middle b → Left (seq g h value) old h (value old.at b) middle
left_seq {A} {B} {C} {g} {h} {value} {old} {middle} {b} other r =
    record {
      text = r.text;
      whole = r.whole;
      place = r.place;
      into = λ y c d. says_seq r.reading (subst (λ n. Derives h n y c) r.place d);
      back = λ x a s z d st e al. joined x a s z st e al (seq_is d);
    }
  where
    joined : (x : List Lexeme) (a : A) (s z : List Lexeme) → Stops (follow (seq g h value)) s → x ++ s ≡ r.text ++ z → Alike z middle.rest → Joined (Derives g) (Derives h) value old.at x a →
        (y : List Lexeme) × (c : C) × Derives h middle.at y c × Stops (follow h) s × (x ≡ r.text ++ y) × (a ≡ value old.at b c)
    joined x a s z st e al j =
        let here = sym (append_assoc j.front j.rest s) ∙ ap (λ (w : List Lexeme). w ++ s) (sym j.whole) ∙ e in
        let same = r.only j.front j.first (j.rest ++ s) z j.one (seq_stops g h value other s st j.two) here al in
        let place : old.at + length j.front ≡ middle.at = ap (λ (w : List Lexeme). old.at + length w) same.0 ∙ sym r.place in (
          j.rest,
          j.second,
          subst (λ n. Derives h n j.rest j.second) place j.two,
          (stops_parts (follow h) (where_empty (may_be_empty h) (first h ++ follow g)) s st).0,
          j.whole ∙ ap (λ (w : List Lexeme). w ++ j.rest) same.0,
          j.is ∙ ap (λ f. value old.at f j.second) same.1,
        )

-- where the first part is stuck
pub seq_stuck : {A B C : Type 0} {g : Form B} {h : Form C} {value : ℕ → B → C → A} {old new : Spot} →
    ((p : ℕ) → (y : List Lexeme) × (c : C) × Derives h p y c) → apart (follow g) (first h) ≡ true → Stuck g old new → Stuck (seq g h value) old new
seq_stuck {A} {B} {C} {g} {h} {value} {old} {new} some other r =
    let last = some (old.at + length (r.text ++ r.more)) in
    record {
      text = r.text;
      whole = r.whole;
      place = r.place;
      more = r.more ++ last.0;
      value = value old.at r.value last.1;
      begins = subst (λ (x : List Lexeme). Derives (seq g h value) old.at x (value old.at r.value last.1)) (append_assoc r.text r.more last.0) (says_seq r.begins last.2);
      dead = λ x a s z d st e al. joined x a s z st e al (seq_is d);
    }
  where
    joined : (x : List Lexeme) (a : A) (s z : List Lexeme) → Stops (follow (seq g h value)) s → x ++ s ≡ r.text ++ z → Alike z new.rest → Joined (Derives g) (Derives h) value old.at x a → ⊥
    joined x a s z st e al j =
        r.dead j.front j.first (j.rest ++ s) z j.one (seq_stops g h value other s st j.two)
        (sym (append_assoc j.front j.rest s) ∙ ap (λ (w : List Lexeme). w ++ s) (sym j.whole) ∙ e) al

abbrev pub cons : {A : Type 0} → ℕ → A → List A → List A
cons p v vs = v ∷ vs

-- where one more text stands in front
pub left_many : {A : Type 0} {g : Form A} {old : Spot} → apart (follow g) (first g) ≡ true → Fronts (first g) old.rest → Left (many g) old (seq g (many g) cons) (λ vs. vs) old
left_many {A} {g} {old} other front = left_here refl (λ y b d. one_more y b (seq_is d)) (λ x a s d st al. cases x a s st al (many_is d))
  where
    one_more : (y : List Lexeme) (b : List A) → Joined (Derives g) (Derives (many g)) cons old.at y b → Derives (many g) old.at y b
    one_more y b j =
        subst (λ (w : List Lexeme). Derives (many g) old.at w b) (sym j.whole) (subst (λ v. Derives (many g) old.at (j.front ++ j.rest) v) (sym j.is) (says_more j.one j.two))

    cases : (x : List Lexeme) (a : List A) (s : List Lexeme) → Stops (follow (many g)) s → Alike (x ++ s) old.rest → (x ≡ []) × (a ≡ []) ⊎ IsMore g old.at x a →
        (b : List A) × Derives (seq g (many g) cons) old.at x b × Stops (follow (seq g (many g) (cons {A = A}))) s × (a ≡ b)
    cases x a s st al (inl nil) =
        absurd (fronts_stop (first g) s (fronts_alike (first g) s old.rest (subst (λ (w : List Lexeme). Alike (w ++ s) old.rest) nil.0 al) front) (stops_parts (first g) (follow g) s st).0)
    cases x a s st al (inr j) =
        let said : Derives (seq g (many g) cons) old.at (j.front ++ j.rest) (j.first ∷ j.later) = says_seq j.one j.two in (
          j.first ∷ j.later,
          subst (λ (w : List Lexeme). Derives (seq g (many g) cons) old.at w (j.first ∷ j.later)) (sym j.whole) said,
          stops_both (first g ++ follow g) (first g ++ follow g) s st st,
          j.is,
        )

-- where no more text stands in front
pub many_end : {A : Type 0} {g : Form A} {old new : Spot} → may_be_empty g ≡ false → Stays (first g) old new → ReadsForm (many g) old new []
many_end {A} {g} {old} {new} some stays =
    record {
      text = [];
      whole = ap (λ w. w.rest) (sym stays.same);
      place = omega (arith, ap (λ w. w.at) stays.same);
      reading = says_none old.at;
      only = λ x w s z d st e al. cases x w s z e al (many_is d);
    }
  where
    cases : (x : List Lexeme) (w : List A) (s z : List Lexeme) → x ++ s ≡ z → Alike z new.rest → (x ≡ []) × (w ≡ []) ⊎ IsMore g old.at x w → (x ≡ []) × (w ≡ [])
    cases x w s z e al (inl nil) = nil
    cases x w s z e al (inr j) =
        let front : Fronts (first g) (j.front ++ (j.rest ++ s)) = fronts_right (j.rest ++ s) (says_fronts some j.one) in
        let here : j.front ++ (j.rest ++ s) ≡ z = sym (append_assoc j.front j.rest s) ∙ ap (λ (y : List Lexeme). y ++ s) (sym j.whole) ∙ e in
        let last : Fronts (first g) new.rest = alike_fronts (first g) z new.rest (subst (λ (y : List Lexeme). Fronts (first g) y) here front) al in
        absurd (fronts_stop (first g) old.rest (subst (λ w. Fronts (first g) w.rest) stays.same last) stays.stops)

-- one token, and none
pub reads_one : {A : Type 0} {sort : Sort} {value : ℕ → SortValue sort → A} {m : SortValue sort} {old new : Spot} → Takes sort m old new → ReadsForm (one sort value) old new (value old.at m)
reads_one {A} {sort} {value} {m} {old} {new} takes =
    record {
      text = token_of sort m ∷ [];
      whole = takes.whole;
      place = takes.place;
      reading = says_one old.at m;
      only = λ x w s z d st e al.
          let d' = one_is d in
          let token : token_of sort d'.0 ≡ token_of sort m = cc (d'.1, e) in
          let same = same_meaning sort d'.0 m token in
          (d'.1 ∙ ap (λ t. t ∷ []) token, d'.2 ∙ ap (value old.at) same);
    }

pub stuck_one : {A : Type 0} {sort : Sort} {value : ℕ → SortValue sort → A} {old new : Spot} → SortValue sort → Stays (tokens_of sort) old new → Stuck (one sort value) old new
stuck_one {A} {sort} {value} {old} {new} some stays =
    record {
      text = [];
      whole = ap (λ w. w.rest) (sym stays.same);
      place = omega (arith, ap (λ w. w.at) stays.same);
      more = token_of sort some ∷ [];
      value = value old.at some;
      begins = says_one old.at some;
      dead = λ x w s z d st e al.
          let d' = one_is d in
          let front : Fronts (tokens_of sort) (x ++ s) =
          record { token = token_of sort d'.0; tail = s; whole = ap (λ (y : List Lexeme). y ++ s) d'.1; is = token_among sort d'.0 } in
          let last : Fronts (tokens_of sort) new.rest = alike_fronts (tokens_of sort) z new.rest (subst (λ (y : List Lexeme). Fronts (tokens_of sort) y) e front) al in
          fronts_stop (tokens_of sort) old.rest (subst (λ w. Fronts (tokens_of sort) w.rest) stays.same last) stays.stops;
    }

pub reads_empty : {A : Type 0} {v : A} {old : Spot} → ReadsForm (empty v) old old v
reads_empty {old = old} =
    record { text = []; whole = refl; place = omega arith; reading = says_empty old.at; only = λ x w s z d st e al. empty_is d }

-- the token that was taken stands in front
pub fronts_taken : {sort : Sort} {m : SortValue sort} {old new : Spot} → Takes sort m old new → Fronts (tokens_of sort) old.rest
fronts_taken {sort} {m} {new = new} takes = record { token = token_of sort m; tail = new.rest; whole = takes.whole; is = token_among sort m }
