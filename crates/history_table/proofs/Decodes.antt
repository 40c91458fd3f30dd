-- What the reader of a line takes from the front, step by step.
use Rattle.std.proofs.Common.{◌≡◌, ◌<◌, List, [], ◌∷◌, ◌++◌, length, refl, sym, ap, append_assoc, append-nil, true, false, arith, Option, None, Some, option_map}
use Rattle.std.proofs.lemmas.Option.{same_Some}
use Rattle.trio_text.specs.declared.token.Reserved.TheVariants as reserved
use Rattle.trio_text.specs.declared.token.Symbol.TheVariants as symbol
use Rattle.trio_text.specs.declared.lexeme.Lexeme.{Lexeme}
use Rattle.trio_text.specs.declared.lexeme.Lexeme.TheVariants as lexeme
use Rattle.history_table.specs.declared.line.Value.{Value}
use Rattle.history_table.specs.declared.line.Value.TheVariants as written
use Rattle.history_table.specs.Decoding.{value_front, entries_of, with_entry, args_from, with_arg, Lacks}

-- what a value in front means for all that is read so
pub record TakesValue (x : List Lexeme) (v : Value) (y : List Lexeme) : Type 0 where
  pub shorter : length y < length x
  pub entries : entries_of x ≡ with_entry (Some v) (entries_of y)
  pub args : args_from true x ≡ with_arg v (args_from false y)

taken : (w v : Value) (x y : List Lexeme) {t : List Lexeme} → TakesValue t w x → ◌≡◌ {A = Option (Value × List Lexeme)} (Some (w, x)) (Some (v, y)) → TakesValue t v y
taken w v x y {t} is e =
    let p : ◌≡◌ {A = Value × List Lexeme} (w, x) (v, y) = same_Some _ _ e in
    rw (← ap (λ (q : Value × List Lexeme). q.0) p, ← ap (λ (q : Value × List Lexeme). q.1) p) is

pub takes_value : (x : List Lexeme) (v : Value) (y : List Lexeme) → value_front x ≡ Some (v, y) → TakesValue x v y
takes_value [] v y e = cc
takes_value (lexeme.Number n ∷ x) v y e = taken (written.Number n) v x y (record { shorter = omega arith; entries = refl; args = refl }) e
takes_value (lexeme.Sign symbol.Minus ∷ lexeme.Number n ∷ x) v y e = taken (written.Opposite n) v x y (record { shorter = omega arith; entries = refl; args = refl }) e
takes_value (lexeme.Word reserved.True ∷ x) v y e = taken (written.Truth true) v x y (record { shorter = omega arith; entries = refl; args = refl }) e
takes_value (lexeme.Word reserved.False ∷ x) v y e = taken (written.Truth false) v x y (record { shorter = omega arith; entries = refl; args = refl }) e
takes_value (lexeme.Name name ∷ x) v y e = taken (written.Word name) v x y (record { shorter = omega arith; entries = refl; args = refl }) e
takes_value (t ∷ x) v y e = cc

-- no value in front
pub no_args : (x : List Lexeme) → value_front x ≡ None → args_from true x ≡ None
no_args [] e = refl
no_args (lexeme.Number n ∷ x) e = cc
no_args (lexeme.Sign symbol.Minus ∷ lexeme.Number n ∷ x) e = cc
no_args (lexeme.Word reserved.True ∷ x) e = cc
no_args (lexeme.Word reserved.False ∷ x) e = cc
no_args (lexeme.Name name ∷ x) e = cc
no_args (t ∷ x) e = refl

-- behind a value neither `)` nor `,`
pub no_more : (x : List Lexeme) → Lacks (lexeme.Sign symbol.RightRound) x → Lacks (lexeme.Sign symbol.Comma) x → args_from false x ≡ None
no_more [] l r = refl
no_more (lexeme.Sign symbol.RightRound ∷ x) l r = absurd (l refl)
no_more (lexeme.Sign symbol.Comma ∷ x) l r = absurd (r refl)
no_more (t ∷ x) l r = refl

-- values that were found before what is left
pub behind_args : List Value → Option (List Value × List Lexeme) → Option (List Value × List Lexeme)
behind_args found args = option_map (λ p. (found ++ p.0, p.1)) args

pub behind_none : (args : Option (List Value × List Lexeme)) → behind_args [] args ≡ args
unfolding behind_args
behind_none None = refl
behind_none (Some p) = refl

pub behind_one : (found : List Value) (v : Value) (args : Option (List Value × List Lexeme)) →
    behind_args found (with_arg v args) ≡ behind_args (found ++ v ∷ []) args
unfolding behind_args
behind_one found v None = refl
behind_one found v (Some p) = ap (λ vs. Some (vs, p.1)) (sym (append_assoc found (v ∷ []) p.0))

pub behind_end : (found : List Value) (x : List Lexeme) → behind_args found (Some ([], x)) ≡ Some (found, x)
unfolding behind_args
behind_end found x = ap (λ vs. Some (vs, x)) (append-nil found)

pub behind_nothing : (found : List Value) → behind_args found None ≡ None
unfolding behind_args
behind_nothing found = refl
