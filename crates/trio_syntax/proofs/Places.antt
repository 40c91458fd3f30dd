-- From what the parser promises to what is said of the whole list of tokens.
use Rattle.std.proofs.Common.{◌≡◌, ℕ, ◌+◌, ◌<◌, List, [], ◌∷◌, ◌++◌, length, take, refl, sym, ap, subst, ◌∙◌, append_assoc, arith, length-append}
use Rattle.std.proofs.lemmas.List.{append_cancel_left, append-nil, take_at}
use Rattle.trio_text.specs.declared.lexeme.Lexeme.{Lexeme}
use Rattle.trio_syntax.specs.Reading.{Begins, IsReading, IsSyntaxFault}
use Rattle.trio_syntax.specs.Forms.{Form}
use Rattle.trio_syntax.specs.Grammar.{Derives}
use Rattle.trio_syntax.specs.Exact.{Spot, Alike, ReadsForm, Stuck}

-- all tokens are read
pub whole_read : {A : Type 0} {g : Form A} {old new : Spot} {v : A} → new.rest ≡ [] → ReadsForm g old new v → IsReading (Derives g old.at) old.rest v
whole_read {g = g} {old = old} {new = new} {v = v} none r =
    let all : old.rest ≡ r.text = r.whole ∙ ap (λ (y : List Lexeme). r.text ++ y) none ∙ append-nil r.text in
    record {
      reading = subst (λ (y : List Lexeme). Derives g old.at y v) (sym all) r.reading;
      only = λ w p. (r.only old.rest w [] [] p tt (ap (λ (y : List Lexeme). y ++ []) all) (subst (λ (y : List Lexeme). Alike [] y) (sym none) tt)).1;
    }

-- No text of the form goes on at the new spot.
pub record Ends {A : Type 0} (g : Form A) (old new : Spot) : Type 0 where
  pub text : List Lexeme
  pub whole : old.rest ≡ text ++ new.rest
  pub place : new.at ≡ old.at + length text
  pub more : List Lexeme
  pub value : A
  pub begins : Derives g old.at (text ++ more) value
  pub dead : (x : List Lexeme) (w : A) (z : List Lexeme) → Derives g old.at x w → x ≡ text ++ z → Alike z new.rest → ⊥

pub stuck_ends : {A : Type 0} {g : Form A} {old new : Spot} → Stuck g old new → Ends g old new
stuck_ends r =
    record {
      text = r.text;
      whole = r.whole;
      place = r.place;
      more = r.more;
      value = r.value;
      begins = r.begins;
      dead = λ x w z d e al. r.dead x w [] z d tt (append-nil x ∙ e) al;
    }

ends : (z y : List Lexeme) → z ≡ [] → Alike z y → y ≡ []
ends z [] none same = refl
ends z (u ∷ y) none same = absurd (subst (λ (w : List Lexeme). Alike w (u ∷ y)) none same)

-- some token is left
pub unread_ends : {A : Type 0} {g : Form A} {old new : Spot} {v : A} → (new.rest ≡ [] → ⊥) → ReadsForm g old new v → Ends g old new
unread_ends {g = g} {old = old} {new = new} {v = v} some r =
    record {
      text = r.text;
      whole = r.whole;
      place = r.place;
      more = [];
      value = v;
      begins = subst (λ (y : List Lexeme). Derives g old.at y v) (sym (append-nil r.text)) r.reading;
      dead = λ x w z d e al.
          let same = r.only x w [] z d tt (append-nil x ∙ e) al in
          let none : [] ≡ z = append_cancel_left r.text [] z (append-nil r.text ∙ sym same.0 ∙ e) in
          some (ends z new.rest (sym none) al);
    }

take_next : (text : List Lexeme) (t : Lexeme) (later : List Lexeme) (k : ℕ) → length text ≡ k → take (k + 1) (text ++ t ∷ later) ≡ text ++ t ∷ []
take_next text t later k is =
    ap (λ (y : List Lexeme). take (k + 1) y) (sym (append_assoc text (t ∷ []) later))
    ∙ take_at (text ++ t ∷ []) later (k + 1) (length-append text (t ∷ []) ∙ ap (λ n. n + 1) is)

-- the parser stands at the fault
pub fault_here : {A : Type 0} {g : Form A} {old new : Spot} → old.at ≡ 0 → Ends g old new → IsSyntaxFault (Derives g old.at) old.rest new.at
fault_here {A} {g} {old} {new} start r =
    record {
      within = omega (arith, at, ap length r.whole, length-append r.text new.rest);
      before = (r.more, r.value, subst (λ (y : List Lexeme). Derives g old.at (y ++ r.more) r.value) (sym front) r.begins);
      here = here new.rest refl;
      end = end new.rest refl;
    }
  where
    at : length r.text ≡ new.at
    at = omega (arith, r.place, start)

    front : take new.at old.rest ≡ r.text
    front = ap (λ (y : List Lexeme). take new.at y) r.whole ∙ take_at r.text new.rest new.at at

    here : (rest : List Lexeme) → rest ≡ new.rest → new.at < length old.rest → Begins (Derives g old.at) (take (new.at + 1) old.rest) → ⊥
    here [] none less begins = omega (arith, at, less, ap length none, ap length r.whole, length-append r.text new.rest)
    here (t ∷ rest) some less begins =
        let next : take (new.at + 1) old.rest ≡ r.text ++ t ∷ [] =
        ap (λ (y : List Lexeme). take (new.at + 1) y) (r.whole ∙ ap (λ (y : List Lexeme). r.text ++ y) (sym some)) ∙ take_next r.text t rest new.at at in
        let whole : take (new.at + 1) old.rest ++ begins.0 ≡ r.text ++ (t ∷ begins.0) =
        ap (λ (y : List Lexeme). y ++ begins.0) next ∙ append_assoc r.text (t ∷ []) begins.0 in
        let same : Alike (t ∷ begins.0) new.rest = subst (λ (y : List Lexeme). Alike (t ∷ begins.0) y) some refl in
        r.dead (take (new.at + 1) old.rest ++ begins.0) begins.1 (t ∷ begins.0) begins.2 whole same

    end : (rest : List Lexeme) → rest ≡ new.rest → new.at ≡ length old.rest → (v : A) → Derives g old.at old.rest v → ⊥
    end [] none last v p =
        let whole : old.rest ≡ r.text ++ [] = r.whole ∙ ap (λ (y : List Lexeme). r.text ++ y) (sym none) in
        r.dead old.rest v [] p whole (subst (λ (y : List Lexeme). Alike [] y) none tt)
    end (t ∷ rest) some last v p = omega (arith, at, last, ap length some, ap length r.whole, length-append r.text new.rest)
