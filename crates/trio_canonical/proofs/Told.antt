-- Which tokens are a text of a form at every place, and what is known of the values that they stand for.
use Rattle.std.proofs.Common.{◌≡◌, ℕ, ◌+◌, List, [], ◌∷◌, ◌++◌, length, refl, subst, sym}
use Rattle.std.specs.List.{flat_map}
use Rattle.std.proofs.lemmas.List.{append_assoc}
use Rattle.trio_text.specs.declared.lexeme.Lexeme.{Lexeme}
use Rattle.trio_text.specs.declared.lexeme.Lexeme.TheVariants as lexeme
use Rattle.trio_text.specs.declared.token.Symbol.{Symbol}
use Rattle.trio_text.specs.declared.token.Symbol.TheVariants as signs
use Rattle.trio_syntax.specs.Forms.{Sort, SortValue, token_of, Nonterminal, Tree, Form, empty, one, row, seq, either, many}
use Rattle.trio_syntax.specs.Grammar.{production, behind_sign, before_sign, round, both, listed, Derives}
use Rattle.trio_syntax.proofs.Says.{says_empty, says_one, says_row, says_seq, says_left, says_right, says_none, says_more}
use Rattle.trio_types.proofs.Inductions.{Each}

-- at this place
pub record Tells {A : Type 0} (g : Form A) (P : A → Type 0) (text : List Lexeme) (p : ℕ) : Type 0 where
  pub value : A
  pub says : Derives g p text value
  pub good : P value

-- at every place
pub record Told {A : Type 0} (g : Form A) (P : A → Type 0) (text : List Lexeme) : Type 0 where
  pub at : (p : ℕ) → Tells g P text p

pub told_text : {A : Type 0} {g : Form A} {P : A → Type 0} {x y : List Lexeme} → x ≡ y → Told g P x → Told g P y
told_text {g = g} {P = P} same t = subst (Told g P) same t

pub told_map : {A : Type 0} {g : Form A} {P Q : A → Type 0} {x : List Lexeme} → ((v : A) → P v → Q v) → Told g P x → Told g Q x
told_map give t = record { at = λ p. let u = t.at p in record { value = u.value; says = u.says; good = give u.value u.good } }

pub told_empty : {A : Type 0} {v : A} {P : A → Type 0} → P v → Told (empty v) P []
told_empty {v = v} good = record { at = λ p. record { value = v; says = says_empty p; good = good } }

pub told_one : {A : Type 0} {sort : Sort} {value : ℕ → SortValue sort → A} {P : A → Type 0} (m : SortValue sort) → ((p : ℕ) → P (value p m)) →
    Told (one sort value) P (token_of sort m ∷ [])
told_one {value = value} m good = record { at = λ p. record { value = value p m; says = says_one p m; good = good p } }

pub told_row : (r : Nonterminal) {P : Tree r → Type 0} {x : List Lexeme} → Told (production r) P x → Told (row r) P x
told_row r t = record { at = λ p. let u = t.at p in record { value = u.value; says = says_row u.says; good = u.good } }

pub told_seq : {A B C : Type 0} {g : Form B} {h : Form C} {value : ℕ → B → C → A} {P : B → Type 0} {Q : C → Type 0} {R : A → Type 0} {x y : List Lexeme} →
    ((p : ℕ) (b : B) (c : C) → P b → Q c → R (value p b c)) → Told g P x → Told h Q y → Told (seq g h value) R (x ++ y)
told_seq {value = value} {x = x} give first second = record {
  at = λ p.
      let t = first.at p in
      let u = second.at (p + length x) in
      record { value = value p t.value u.value; says = says_seq t.says u.says; good = give p t.value u.value t.good u.good };
}

pub told_left : {A : Type 0} {g h : Form A} {P : A → Type 0} {x : List Lexeme} → Told g P x → Told (either g h) P x
told_left t = record { at = λ p. let u = t.at p in record { value = u.value; says = says_left u.says; good = u.good } }

pub told_right : {A : Type 0} {g h : Form A} {P : A → Type 0} {x : List Lexeme} → Told h P x → Told (either g h) P x
told_right t = record { at = λ p. let u = t.at p in record { value = u.value; says = says_right u.says; good = u.good } }

pub told_both : {A B : Type 0} {g : Form A} {h : Form B} {P : A → Type 0} {Q : B → Type 0} {x y : List Lexeme} → Told g P x → Told h Q y →
    Told (both g h) (λ r. P r.0 × Q r.1) (x ++ y)
told_both first second = told_seq (λ p v w one two. (one, two)) first second

pub told_behind : {A : Type 0} {g : Form A} {P : A → Type 0} {x : List Lexeme} (s : Symbol) → Told g P x → Told (behind_sign s g) P (lexeme.Sign s ∷ x)
told_behind s t = told_seq {P = λ u. Unit {0}} (λ p u v one good. good) (told_one tt (λ p. tt)) t

pub told_before : {A : Type 0} {g : Form A} {P : A → Type 0} {x : List Lexeme} (s : Symbol) → Told g P x → Told (before_sign g s) P (x ++ lexeme.Sign s ∷ [])
told_before s t = told_seq {Q = λ u. Unit {0}} (λ p v u good one. good) t (told_one tt (λ p. tt))

pub told_round : {A : Type 0} {g : Form A} {P : A → Type 0} {x : List Lexeme} → Told g P x →
    Told (round g) P (lexeme.Sign signs.LeftRound ∷ (x ++ lexeme.Sign signs.RightRound ∷ []))
told_round t = told_behind signs.LeftRound (told_before signs.RightRound t)

-- lists of things, each of which has its own text

-- the lists are as long, and each pair of elements is in the relation
abbrev pub Pairwise : {X A : Type 0} → (X → A → Type 0) → List X → List A → Type 0
Pairwise R [] [] = Unit {0}
Pairwise R [] (v ∷ vs) = ⊥
Pairwise R (x ∷ xs) [] = ⊥
Pairwise R (x ∷ xs) (v ∷ vs) = R x v × Pairwise R xs vs

pub each_map : {X : Type 0} (P Q : X → Type 0) → ((x : X) → P x → Q x) → (xs : List X) → Each P xs → Each Q xs
each_map P Q give [] each = tt
each_map P Q give (x ∷ xs) each = (give x each.0, each_map P Q give xs each.1)

pub told_none : {A : Type 0} {g : Form A} {S : List A → Type 0} → S [] → Told (many g) S []
told_none good = record { at = λ p. record { value = []; says = says_none p; good = good } }

pub told_more : {A : Type 0} {g : Form A} {P : A → Type 0} {Q S : List A → Type 0} {x y : List Lexeme} → ((v : A) (vs : List A) → P v → Q vs → S (v ∷ vs)) →
    Told g P x → Told (many g) Q y → Told (many g) S (x ++ y)
told_more {x = x} give first second = record {
  at = λ p.
      let t = first.at p in
      let u = second.at (p + length x) in
      record { value = t.value ∷ u.value; says = says_more t.says u.says; good = give t.value u.value t.good u.good };
}

pub told_many : {X A : Type 0} (g : Form A) (R : X → A → Type 0) (text : X → List Lexeme) (xs : List X) → Each (λ x. Told g (R x) (text x)) xs →
    Told (many g) (Pairwise R xs) (flat_map text xs)
told_many g R text [] each = told_none tt
told_many g R text (x ∷ xs) each = told_more {P = R x} {Q = Pairwise R xs} (λ v vs good more. (good, more)) each.0 (told_many g R text xs each.1)

-- two parts, the first of which are of these things
pub record Split {X A : Type 0} (R : X → A → Type 0) (xs : List X) (Q : List A → Type 0) (vs : List A) : Type 0 where
  pub front : List A
  pub rest : List A
  pub whole : vs ≡ front ++ rest
  pub one : Pairwise R xs front
  pub two : Q rest

pub told_many_then : {X A : Type 0} (g : Form A) (R : X → A → Type 0) (text : X → List Lexeme) (Q : List A → Type 0) (y : List Lexeme) → Told (many g) Q y →
    (xs : List X) → Each (λ x. Told g (R x) (text x)) xs → Told (many g) (Split R xs Q) (flat_map text xs ++ y)
told_many_then g R text Q y others [] each = told_map (λ vs good. record { front = []; rest = vs; whole = refl; one = tt; two = good }) others
told_many_then g R text Q y others (x ∷ xs) each =
    told_text (sym (append_assoc (text x) (flat_map text xs) y))
    (told_more {P = R x} {Q = Split R xs Q}
    (λ v vs good more. record { front = v ∷ more.front; rest = more.rest; whole = rw (more.whole) refl; one = (good, more.one); two = more.two })
    each.0 (told_many_then g R text Q y others xs each.1))

pub told_listed : {X A : Type 0} (g : Form A) (R : X → A → Type 0) (text : X → List Lexeme) (s : Symbol) (x : X) (xs : List X) →
    Each (λ x. Told g (R x) (text x)) (x ∷ xs) → Told (listed s g) (Pairwise R (x ∷ xs)) (text x ++ flat_map (λ y. lexeme.Sign s ∷ text y) xs)
told_listed g R text s x xs each =
    told_seq {P = R x} {Q = Pairwise R xs} (λ p v vs good more. (good, more)) each.0
    (told_many (behind_sign s g) R (λ y. lexeme.Sign s ∷ text y) xs
    (each_map (λ x. Told g (R x) (text x)) (λ x. Told (behind_sign s g) (R x) (lexeme.Sign s ∷ text x)) (λ x t. told_behind s t) xs each.1))
