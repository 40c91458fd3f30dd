-- What the texts of a form are, form by form.
use Rattle.std.proofs.Common.{◌≡◌, ℕ, zero, suc, ◌+◌, ◌≤◌, ◌⊎◌, inl, inr, List, [], ◌∷◌, ◌++◌, length, refl, arith}
use Rattle.trio_text.specs.declared.lexeme.Lexeme.{Lexeme}
use Rattle.trio_syntax.specs.Reading.{Language}
use Rattle.trio_syntax.specs.Forms.{Sort, SortValue, token_of, Nonterminal, Tree, Form, empty, one, row, seq, either, many, Joined, Many, none, more, Under}
use Rattle.trio_syntax.specs.Grammar.{production, rows_within, Derives}

many_map : {A : Type 0} (G H : ℕ → Language A) → ((p : ℕ) (x : List Lexeme) (v : A) → G p x v → H p x v) → (p : ℕ) (x : List Lexeme) (vs : List A) → Many G p x vs → Many H p x vs
many_map G H over p x vs none = none
many_map G H over p x vs (more {x = y} {y = z} {v = v} {vs = ws} d ds) = more (over p y v d) (many_map G H over (p + length y) z ws ds)

-- where rows have more texts, so has every form
under_map : {A : Type 0} (R S : (r : Nonterminal) → ℕ → Language (Tree r)) → ((r : Nonterminal) (p : ℕ) (x : List Lexeme) (v : Tree r) → R r p x v → S r p x v) →
    (g : Form A) (p : ℕ) (x : List Lexeme) (v : A) → Under R g p x v → Under S g p x v
unfolding Under
under_map R S over (empty a) p x v d = d
under_map R S over (one sort value) p x v d = d
under_map R S over (row r) p x v d = over r p x v d
under_map R S over (seq g h value) p x v d =
    record {
      front = d.front;
      rest = d.rest;
      first = d.first;
      second = d.second;
      one = under_map R S over g p d.front d.first d.one;
      two = under_map R S over h (p + length d.front) d.rest d.second d.two;
      whole = d.whole;
      is = d.is;
    }
under_map R S over (either g h) p x v (inl d) = inl (under_map R S over g p x v d)
under_map R S over (either g h) p x v (inr d) = inr (under_map R S over h p x v d)
under_map R S over (many g) p x v d = many_map (Under R g) (Under S g) (under_map R S over g) p x v d

deeper : (n m : ℕ) → n ≤ m → (r : Nonterminal) (p : ℕ) (x : List Lexeme) (v : Tree r) → rows_within n r p x v → rows_within m r p x v
unfolding rows_within
deeper zero m less r p x v d = absurd d
deeper (suc n) zero less r p x v d = absurd (omega (arith, less))
deeper (suc n) (suc m) less r p x v d = under_map (rows_within n) (rows_within m) (deeper n m (omega (arith, less))) (production r) p x v d

under_deeper : {A : Type 0} (n m : ℕ) → n ≤ m → (g : Form A) (p : ℕ) (x : List Lexeme) (v : A) → Under (rows_within n) g p x v → Under (rows_within m) g p x v
under_deeper n m less g p x v d = under_map (rows_within n) (rows_within m) (deeper n m less) g p x v d

-- a part that may not follow a form
pub says_empty : {A : Type 0} {v : A} (p : ℕ) → Derives (empty v) p [] v
unfolding Under
says_empty p = record { depth = 0; reading = (refl, refl) }

pub empty_is : {A : Type 0} {a v : A} {p : ℕ} {x : List Lexeme} → Derives (empty a) p x v → (x ≡ []) × (v ≡ a)
unfolding Under
empty_is d = d.reading

pub says_one : {A : Type 0} {sort : Sort} {value : ℕ → SortValue sort → A} (p : ℕ) (m : SortValue sort) → Derives (one sort value) p (token_of sort m ∷ []) (value p m)
unfolding Under
says_one p m = record { depth = 0; reading = (m, refl, refl) }

pub one_is : {A : Type 0} {sort : Sort} {value : ℕ → SortValue sort → A} {p : ℕ} {x : List Lexeme} {v : A} → Derives (one sort value) p x v →
    (m : SortValue sort) × (x ≡ token_of sort m ∷ []) × (v ≡ value p m)
unfolding Under
one_is d = d.reading

pub says_row : {r : Nonterminal} {p : ℕ} {x : List Lexeme} {v : Tree r} → Derives (production r) p x v → Derives (row r) p x v
unfolding Under rows_within
says_row d = record { depth = suc d.depth; reading = d.reading }

pub row_is : {r : Nonterminal} {p : ℕ} {x : List Lexeme} {v : Tree r} → Derives (row r) p x v → Derives (production r) p x v
unfolding Under rows_within
row_is {r} {p} {x} {v} d = at_depth d.depth d.reading
  where
    at_depth : (n : ℕ) → rows_within n r p x v → Derives (production r) p x v
    at_depth zero reading = absurd reading
    at_depth (suc n) reading = record { depth = n; reading = reading }

pub says_seq : {A B C : Type 0} {g : Form B} {h : Form C} {value : ℕ → B → C → A} {p : ℕ} {x y : List Lexeme} {b : B} {c : C} →
    Derives g p x b → Derives h (p + length x) y c → Derives (seq g h value) p (x ++ y) (value p b c)
unfolding Under
says_seq {g = g} {h = h} {p = p} {x = x} {y = y} {b = b} {c = c} d e =
    record {
      depth = d.depth + e.depth;
      reading = record {
        front = x;
        rest = y;
        first = b;
        second = c;
        one = under_deeper d.depth (d.depth + e.depth) (omega arith) g p x b d.reading;
        two = under_deeper e.depth (d.depth + e.depth) (omega arith) h (p + length x) y c e.reading;
        whole = refl;
        is = refl;
      };
    }

pub seq_is : {A B C : Type 0} {g : Form B} {h : Form C} {value : ℕ → B → C → A} {p : ℕ} {x : List Lexeme} {v : A} →
    Derives (seq g h value) p x v → Joined (Derives g) (Derives h) value p x v
unfolding Under
seq_is d =
    let r = d.reading in
    record {
      front = r.front;
      rest = r.rest;
      first = r.first;
      second = r.second;
      one = record { depth = d.depth; reading = r.one };
      two = record { depth = d.depth; reading = r.two };
      whole = r.whole;
      is = r.is;
    }

pub says_left : {A : Type 0} {g h : Form A} {p : ℕ} {x : List Lexeme} {v : A} → Derives g p x v → Derives (either g h) p x v
unfolding Under
says_left d = record { depth = d.depth; reading = inl d.reading }

pub says_right : {A : Type 0} {g h : Form A} {p : ℕ} {x : List Lexeme} {v : A} → Derives h p x v → Derives (either g h) p x v
unfolding Under
says_right d = record { depth = d.depth; reading = inr d.reading }

pub either_is : {A : Type 0} {g h : Form A} {p : ℕ} {x : List Lexeme} {v : A} → Derives (either g h) p x v → Derives g p x v ⊎ Derives h p x v
unfolding Under
either_is {g = g} {h = h} {p = p} {x = x} {v = v} d = cases d.reading
  where
    cases : Under (rows_within d.depth) g p x v ⊎ Under (rows_within d.depth) h p x v → Derives g p x v ⊎ Derives h p x v
    cases (inl e) = inl (record { depth = d.depth; reading = e })
    cases (inr e) = inr (record { depth = d.depth; reading = e })

pub says_none : {A : Type 0} {g : Form A} (p : ℕ) → Derives (many g) p [] []
unfolding Under
says_none p = record { depth = 0; reading = none }

pub says_more : {A : Type 0} {g : Form A} {p : ℕ} {x y : List Lexeme} {v : A} {vs : List A} →
    Derives g p x v → Derives (many g) (p + length x) y vs → Derives (many g) p (x ++ y) (v ∷ vs)
unfolding Under
says_more {g = g} {p = p} {x = x} {y = y} {v = v} {vs = vs} d e =
    record {
      depth = d.depth + e.depth;
      reading = more
          (under_deeper d.depth (d.depth + e.depth) (omega arith) g p x v d.reading)
          (many_map (Under (rows_within e.depth) g) (Under (rows_within (d.depth + e.depth)) g)
          (under_deeper e.depth (d.depth + e.depth) (omega arith) g) (p + length x) y vs e.reading);
    }

-- none, or one before others
pub record IsMore {A : Type 0} (g : Form A) (p : ℕ) (x : List Lexeme) (vs : List A) : Type 0 where
  pub front : List Lexeme
  pub rest : List Lexeme
  pub first : A
  pub later : List A
  pub one : Derives g p front first
  pub two : Derives (many g) (p + length front) rest later
  pub whole : x ≡ front ++ rest
  pub is : vs ≡ first ∷ later

pub many_is : {A : Type 0} {g : Form A} {p : ℕ} {x : List Lexeme} {vs : List A} → Derives (many g) p x vs → (x ≡ []) × (vs ≡ []) ⊎ IsMore g p x vs
unfolding Under
many_is {A} {g} d = cases d.reading
  where
    cases : {q : ℕ} {y : List Lexeme} {ws : List A} → Many (Under (rows_within d.depth) g) q y ws → (y ≡ []) × (ws ≡ []) ⊎ IsMore g q y ws
    cases none = inl (refl, refl)
    cases (more {x = y} {y = z} {v = v} {vs = vs} e es) =
        inr (record {
          front = y;
          rest = z;
          first = v;
          later = vs;
          one = record { depth = d.depth; reading = e };
          two = record { depth = d.depth; reading = es };
          whole = refl;
          is = refl;
        })
