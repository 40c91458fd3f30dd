-- Sets of tokens by their spelling, and the tokens that the texts of a form begin with.
use Rattle.std.proofs.Common.{◌≡◌, ℕ, zero, suc, ◌+◌, ◌⊎◌, inl, inr, ⊎_elim, Bool, true, false, not, ◌&&◌, ◌||◌, List, [], ◌∷◌, ◌++◌, length, refl, sym, ap, subst, ◌∙◌}
use Rattle.std.specs.List.{list_any, list_all}
use Rattle.std.specs.Str.{bytes_eq}
use Rattle.std.proofs.lemmas.List.Folds.{list_any-append}
use Rattle.std.proofs.lemmas.Bool.{both_ways, and_parts, or_parts, or_from, or_left, or_right, true≢false}
use Rattle.std.proofs.lemmas.Slice.Eq.{bytes_eq-Decides}
use Rattle.trio_text.specs.declared.lexeme.Lexeme.{Lexeme}
use Rattle.trio_text.specs.Spelling.{word_text, symbol_text}
use Rattle.trio_syntax.specs.Reading.{Language}
use Rattle.trio_syntax.specs.Forms.{Sort, sign, word, number, name, relation, adding, arrow, truth, quantifier, one_operator, far_operator, pair_operator, item_kind, claim_kind}
use Rattle.trio_syntax.specs.Forms.{SortValue, token_of, Nonterminal, formula, disj, conj, unary, primary, term, summand, factor, basic, Tree, Form, empty, one, row, seq, either, many, Many, none, more, Under}
use Rattle.trio_syntax.specs.Grammar.{production, rows_within, Derives}
use Rattle.trio_syntax.specs.Exact.{class, has, tokens_of, opens, goes_on, may_be_empty, where_empty, first, follow, apart, Stops, Alike, Fronts}
use Rattle.trio_base.specs.declared.operators.Rel.TheVariants as rel
use Rattle.trio_base.specs.declared.operators.Ends.TheVariants as ends
use Rattle.trio_base.specs.declared.operators.OneOp.TheVariants as op
use Rattle.trio_base.specs.declared.operators.FarOp.TheVariants as far
use Rattle.trio_base.specs.declared.operators.PairOp.TheVariants as pair
use Rattle.trio_syntax.specs.declared.tree.Quantifier.TheVariants as quant

-- each token of the one set is in the other
abbrev pub within : List (List ℕ) → List (List ℕ) → Bool
within set other = list_all (λ c. list_any (bytes_eq c) other) set

pub either_true : (x y : Bool) → (x || y) ≡ true → (x ≡ true) ⊎ (y ≡ true)
either_true true y is = inl refl
either_true false y is = inr is

not_true : (x : Bool) → not x ≡ true → x ≡ false
not_true true is = absurd (true≢false (sym is))
not_true false is = refl

-- what holds of each text of a set holds of each token that is in it
in_set : (test : List ℕ → Bool) (set : List (List ℕ)) (t : Lexeme) → list_all test set ≡ true → has set t ≡ true → test (class t) ≡ true
in_set test [] t all is = absurd (true≢false (sym is))
in_set test (c ∷ set) t all is =
    let both = and_parts (test c) (list_all test set) all in
    ⊎_elim
    (λ (here : bytes_eq (class t) c ≡ true). ap test ((bytes_eq-Decides (class t) c).0 here) ∙ both.0)
    (λ (later : has set t ≡ true). in_set test set t both.1 later)
    (either_true (bytes_eq (class t) c) (has set t) is)

pub apart_sets : (set other : List (List ℕ)) (t : Lexeme) → apart set other ≡ true → has set t ≡ true → has other t ≡ false
apart_sets set other t all is = not_true (has other t) (in_set (λ c. not (list_any (bytes_eq c) other)) set t all is)

pub within_set : (set other : List (List ℕ)) (t : Lexeme) → within set other ≡ true → has set t ≡ true → has other t ≡ true
within_set set other t all is = in_set (λ c. list_any (bytes_eq c) other) set t all is

pub has_parts : (set other : List (List ℕ)) (t : Lexeme) → has (set ++ other) t ≡ false → (has set t ≡ false) × (has other t ≡ false)
has_parts set other t is = or_parts (has set t) (has other t) (sym (list_any-append (bytes_eq (class t)) set other) ∙ is)

pub has_left : (set other : List (List ℕ)) (t : Lexeme) → has set t ≡ true → has (set ++ other) t ≡ true
has_left set other t is = list_any-append (bytes_eq (class t)) set other ∙ or_left (has set t) (has other t) is

pub has_right : (set other : List (List ℕ)) (t : Lexeme) → has other t ≡ true → has (set ++ other) t ≡ true
has_right set other t is = list_any-append (bytes_eq (class t)) set other ∙ or_right (has set t) (has other t) is

pub stops_parts : (set other : List (List ℕ)) (s : List Lexeme) → Stops (set ++ other) s → Stops set s × Stops other s
stops_parts set other [] stops = (tt, tt)
stops_parts set other (t ∷ s) stops = has_parts set other t stops

pub stops_both : (set other : List (List ℕ)) (s : List Lexeme) → Stops set s → Stops other s → Stops (set ++ other) s
stops_both set other [] one_ two_ = tt
stops_both set other (t ∷ s) one_ two_ = list_any-append (bytes_eq (class t)) set other ∙ or_from (has set t) (has other t) one_ two_

pub stops_within : (set other : List (List ℕ)) (s : List Lexeme) → within set other ≡ true → Stops other s → Stops set s
stops_within set other [] inside stops = tt
stops_within set other (t ∷ s) inside stops = cases (has set t) refl
  where
    cases : (b : Bool) → has set t ≡ b → has set t ≡ false
    cases false is = is
    cases true is = absurd (both_ways (has other t) stops (within_set set other t inside is))

pub stops_where : (b : Bool) (set : List (List ℕ)) (s : List Lexeme) → b ≡ true → Stops (where_empty b set) s → Stops set s
stops_where true set s is stops = stops
stops_where false set s is stops = absurd (true≢false (sym is))

pub fronts_right : {x : List Lexeme} {set : List (List ℕ)} (y : List Lexeme) → Fronts set x → Fronts set (x ++ y)
fronts_right y front = record { token = front.token; tail = front.tail ++ y; whole = ap (λ (z : List Lexeme). z ++ y) front.whole; is = front.is }

pub fronts_stop : (set : List (List ℕ)) (x : List Lexeme) → Fronts set x → Stops set x → ⊥
fronts_stop set x front stops =
    both_ways (has set front.token) (let P : List Lexeme → Type 0 = λ y. Stops set y in subst P front.whole stops) front.is

-- of two lists with the same token in front, both have it in the set
pub fronts_alike : (set : List (List ℕ)) (x y : List Lexeme) → Alike x y → Fronts set y → Fronts set x
fronts_alike set [] y same front = absurd (subst (λ (w : List Lexeme). Alike [] w) front.whole same)
fronts_alike set (t ∷ x) y same front =
    let token : t ≡ front.token = subst (λ (w : List Lexeme). Alike (t ∷ x) w) front.whole same in
    record { token = t; tail = x; whole = refl; is = ap (has set) token ∙ front.is }

alike_back : (x y : List Lexeme) → Alike x y → Alike y x
alike_back [] [] same = tt
alike_back [] (u ∷ y) same = same
alike_back (t ∷ x) [] same = same
alike_back (t ∷ x) (u ∷ y) same = sym same

pub alike_fronts : (set : List (List ℕ)) (x y : List Lexeme) → Fronts set x → Alike x y → Fronts set y
alike_fronts set x y front same = fronts_alike set y x (alike_back x y same) front

pub fronts_apart : (set other : List (List ℕ)) (x : List Lexeme) → apart set other ≡ true → Fronts set x → Fronts other x → ⊥
fronts_apart set other x all front second =
    let token : second.token ≡ front.token = cc (front.whole, second.whole) in
    both_ways (has other front.token) (apart_sets set other front.token all front.is) (ap (has other) (sym token) ∙ second.is)

pub stops_apart : (set other : List (List ℕ)) (x : List Lexeme) → apart set other ≡ true → Fronts other x → Stops set x
stops_apart set other x all front = cases (has set front.token) refl
  where
    cases : (b : Bool) → has set front.token ≡ b → Stops set x
    cases true is = absurd (fronts_apart set other x all (record { token = front.token; tail = front.tail; whole = front.whole; is = is }) front)
    cases false is = subst (λ (w : List Lexeme). Stops set w) (sym front.whole) is

among_itself : (text : List ℕ) → (bytes_eq text text || false) ≡ true
among_itself text = or_left (bytes_eq text text) false ((bytes_eq-Decides text text).1 refl)

-- each token of a sort is among the tokens of the sort
pub token_among : (sort : Sort) (m : SortValue sort) → has (tokens_of sort) (token_of sort m) ≡ true
token_among (sign s) m = among_itself (symbol_text s)
token_among (word w) m = among_itself (word_text w)
token_among number m = refl
token_among name m = refl
token_among relation rel.Eq = refl
token_among relation rel.Ne = refl
token_among relation rel.Lt = refl
token_among relation rel.Le = refl
token_among relation rel.Gt = refl
token_among relation rel.Ge = refl
token_among adding false = refl
token_among adding true = refl
token_among arrow false = refl
token_among arrow true = refl
token_among truth false = refl
token_among truth true = refl
token_among quantifier quant.All = refl
token_among quantifier quant.Ex = refl
token_among one_operator op.Alw = refl
token_among one_operator op.AlwF = refl
token_among one_operator op.AlwP = refl
token_among one_operator op.Som = refl
token_among one_operator op.SomF = refl
token_among one_operator op.SomP = refl
token_among far_operator far.Dist = refl
token_among far_operator far.Futr = refl
token_among far_operator far.Past = refl
token_among far_operator far.NextTime = refl
token_among far_operator far.LastTime = refl
token_among far_operator (far.Lasts ends.Bare) = refl
token_among far_operator (far.Lasts ends.Ii) = refl
token_among far_operator (far.Lasts ends.Ie) = refl
token_among far_operator (far.Lasts ends.Ei) = refl
token_among far_operator (far.Lasted ends.Bare) = refl
token_among far_operator (far.Lasted ends.Ii) = refl
token_among far_operator (far.Lasted ends.Ie) = refl
token_among far_operator (far.Lasted ends.Ei) = refl
token_among far_operator (far.WithinF ends.Bare) = refl
token_among far_operator (far.WithinF ends.Ii) = refl
token_among far_operator (far.WithinF ends.Ie) = refl
token_among far_operator (far.WithinF ends.Ei) = refl
token_among far_operator (far.WithinP ends.Bare) = refl
token_among far_operator (far.WithinP ends.Ii) = refl
token_among far_operator (far.WithinP ends.Ie) = refl
token_among far_operator (far.WithinP ends.Ei) = refl
token_among pair_operator pair.Until = refl
token_among pair_operator pair.Since = refl
token_among item_kind false = refl
token_among item_kind true = refl
token_among claim_kind false = refl
token_among claim_kind true = refl

-- The rows' tokens in front, and those with which they go on, are right.
pub row_opens : (r : Nonterminal) → within (first (production r)) (opens r) ≡ true
row_opens formula = refl
row_opens disj = refl
row_opens conj = refl
row_opens unary = refl
row_opens primary = refl
row_opens term = refl
row_opens summand = refl
row_opens factor = refl
row_opens basic = refl

pub row_goes_on : (r : Nonterminal) → within (follow (production r)) (goes_on r) ≡ true
row_goes_on formula = refl
row_goes_on disj = refl
row_goes_on conj = refl
row_goes_on unary = refl
row_goes_on primary = refl
row_goes_on term = refl
row_goes_on summand = refl
row_goes_on factor = refl
row_goes_on basic = refl

pub row_some : (r : Nonterminal) → may_be_empty (production r) ≡ false
row_some formula = refl
row_some disj = refl
row_some conj = refl
row_some unary = refl
row_some primary = refl
row_some term = refl
row_some summand = refl
row_some factor = refl
row_some basic = refl

-- no token, where the form allows it, or one that its texts begin with
abbrev pub Opens : {A : Type 0} → Form A → List Lexeme → Type 0
Opens g x = (x ≡ []) × (may_be_empty g ≡ true) ⊎ Fronts (first g) x

seq_opens : {A B C : Type 0} (g : Form B) (h : Form C) (value : ℕ → B → C → A) (x y z : List Lexeme) → Opens g y → Opens h z → x ≡ y ++ z → Opens (seq g h value) x
seq_opens g h value x y z (inr front) second whole =
    inr (record {
      token = front.token;
      tail = front.tail ++ z;
      whole = whole ∙ ap (λ (w : List Lexeme). w ++ z) front.whole;
      is = has_left (first g) (where_empty (may_be_empty g) (first h)) front.token front.is;
    })
seq_opens g h value x y z (inl nil) (inl others) whole =
    inl (whole ∙ ap (λ (w : List Lexeme). w ++ z) nil.0 ∙ others.0, ap (λ b. b && may_be_empty h) nil.1 ∙ others.1)
seq_opens g h value x y z (inl nil) (inr front) whole =
    inr (record {
      token = front.token;
      tail = front.tail;
      whole = whole ∙ ap (λ (w : List Lexeme). w ++ z) nil.0 ∙ front.whole;
      is = has_right (first g) (where_empty (may_be_empty g) (first h)) front.token
          (subst (λ b. has (where_empty b (first h)) front.token ≡ true) (sym nil.1) front.is);
    })

left_opens : {A : Type 0} (g h : Form A) (x : List Lexeme) → Opens g x → Opens (either g h) x
left_opens g h x (inl nil) = inl (nil.0, or_left (may_be_empty g) (may_be_empty h) nil.1)
left_opens g h x (inr front) = inr (record { token = front.token; tail = front.tail; whole = front.whole; is = has_left (first g) (first h) front.token front.is })

right_opens : {A : Type 0} (g h : Form A) (x : List Lexeme) → Opens h x → Opens (either g h) x
right_opens g h x (inl nil) = inl (nil.0, or_right (may_be_empty g) (may_be_empty h) nil.1)
right_opens g h x (inr front) = inr (record { token = front.token; tail = front.tail; whole = front.whole; is = has_right (first g) (first h) front.token front.is })

many_opens : {A : Type 0} (g : Form A) (G : ℕ → Language A) → ((p : ℕ) (x : List Lexeme) (v : A) → G p x v → Opens g x) → (p : ℕ) (x : List Lexeme) (vs : List A) → Many G p x vs → (x ≡ []) ⊎ Fronts (first g) x
many_opens g G each p x vs none = inl refl
many_opens {A} g G each p x vs (more {x = y} {y = z} {v = v} {vs = ws} d ds) = cases (each p y v d) (many_opens g G each (p + length y) z ws ds)
  where
    cases : Opens g y → (z ≡ []) ⊎ Fronts (first g) z → (y ++ z ≡ []) ⊎ Fronts (first g) (y ++ z)
    cases (inr front) rest = inr (fronts_right z front)
    cases (inl empty_) (inl others) = inl (ap (λ (w : List Lexeme). w ++ z) empty_.0 ∙ others)
    cases (inl empty_) (inr front) = inr (record { token = front.token; tail = front.tail; whole = ap (λ (w : List Lexeme). w ++ z) empty_.0 ∙ front.whole; is = front.is })

under_opens : {A : Type 0} (R : (r : Nonterminal) → ℕ → Language (Tree r)) → ((r : Nonterminal) (p : ℕ) (x : List Lexeme) (v : Tree r) → R r p x v → Fronts (opens r) x) →
    (g : Form A) (p : ℕ) (x : List Lexeme) (v : A) → Under R g p x v → Opens g x
unfolding Under
under_opens R rows (empty a) p x v d = inl (d.0, refl)
under_opens R rows (one sort value) p x v d = inr (record { token = token_of sort d.0; tail = []; whole = d.1; is = token_among sort d.0 })
under_opens R rows (row r) p x v d = inr (rows r p x v d)
under_opens R rows (seq g h value) p x v d =
    seq_opens g h value x d.front d.rest (under_opens R rows g p d.front d.first d.one) (under_opens R rows h (p + length d.front) d.rest d.second d.two) d.whole
under_opens R rows (either g h) p x v (inl d) = left_opens g h x (under_opens R rows g p x v d)
under_opens R rows (either g h) p x v (inr d) = right_opens g h x (under_opens R rows h p x v d)
under_opens R rows (many g) p x v d =
    ⊎_elim (λ (nil : x ≡ []). inl (nil, refl)) (λ (front : Fronts (first g) x). inr front) (many_opens g (Under R g) (under_opens R rows g) p x v d)

row_fronts : (r : Nonterminal) (x : List Lexeme) → Opens (production r) x → Fronts (opens r) x
row_fronts r x (inl nil_) = absurd (both_ways (may_be_empty (production r)) (row_some r) nil_.1)
row_fronts r x (inr front) = record { token = front.token; tail = front.tail; whole = front.whole; is = within_set (first (production r)) (opens r) front.token (row_opens r) front.is }

rows_open : (n : ℕ) (r : Nonterminal) (p : ℕ) (x : List Lexeme) (v : Tree r) → rows_within n r p x v → Fronts (opens r) x
unfolding rows_within
rows_open zero r p x v d = absurd d
rows_open (suc n) r p x v d = row_fronts r x (under_opens (rows_within n) (rows_open n) (production r) p x v d)

-- how the texts of a form begin
pub says_opens : {A : Type 0} {g : Form A} {p : ℕ} {x : List Lexeme} {v : A} → Derives g p x v → Opens g x
says_opens {g = g} {p = p} {x = x} {v = v} d = under_opens (rows_within d.depth) (rows_open d.depth) g p x v d.reading

pub says_fronts : {A : Type 0} {g : Form A} {p : ℕ} {x : List Lexeme} {v : A} → may_be_empty g ≡ false → Derives g p x v → Fronts (first g) x
says_fronts {g = g} {x = x} some d = cases (says_opens d)
  where
    cases : Opens g x → Fronts (first g) x
    cases (inl nil_) = absurd (both_ways (may_be_empty g) some nil_.1)
    cases (inr front) = front
