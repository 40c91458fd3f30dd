-- What terms are worth whose variables have got other levels.
use Rattle.std.proofs.Common.{◌≡◌, ℕ, zero, suc, ◌+◌, ◌<◌, ℤ, pos, neg_ℤ, ◌+ℤ◌, ◌*ℤ◌, true, if◌then◌else◌, List, [], ◌∷◌, ◌++◌, map, length, Option, None, Some, slice_get, slice_index_or, refl, sym, ap, ◌∙◌, arith}
use Rattle.std.specs.Option.{option_map, option_and_then}
use Rattle.std.proofs.lemmas.Int.{ints}
use Rattle.std.proofs.lemmas.List.{get_or_push, get_or_append_left}
use Rattle.trio_types.specs.declared.formula.SignedTerm.{SignedTerm, out-SignedTerm, roll-SignedTerm, out-roll-SignedTerm, fold-SignedTerm, fold_out-SignedTerm}
use Rattle.trio_types.specs.declared.formula.Term.{Term}
use Rattle.trio_types.specs.declared.formula.Term.TheVariants as term
use Rattle.trio_types.specs.declared.formula.Term.TheOpen.{Term-F, SignedTerm-F}
use Rattle.trio_types.specs.declared.formula.Term.TheOpen as open_term
use Rattle.trio_types.specs.declared.formula.Term.TheFolds.{fold-roll-Term, map-Term}
use Rattle.trio_types.specs.declared.formula.Term.TheViews.{roll-Term}
use Rattle.trio_types.specs.World.{World}
use Rattle.trio_types.specs.Cells.{number_at}
use Rattle.trio_types.specs.Values.{value, read_cell, sum_of, plus}
use Rattle.trio_types.proofs.Lists.{map_same}
use Rattle.trio_types.proofs.ValueAt.{signed_value, value-Number, value-Value, value-Var, value-Read, value-Sum, value-Times}
use Rattle.trio_types.proofs.Inductions.{Each, term_of, every_term}
use Rattle.derived_ops.specs.declared.joint.Way.{Way}
use Rattle.derived_ops.specs.declared.joint.Way.TheVariants as way
use Rattle.derived_ops.specs.Terms.{part_of}
use Rattle.derived_ops.specs.Rewriting.{Levels, variable_at, term_renamed, part_renamed, renamed, towards}

-- the terms, form by form
abbrev signed_renamed : Levels → SignedTerm → SignedTerm
signed_renamed ls = fold-SignedTerm Term SignedTerm (term_renamed ls) part_renamed

renamed_at : (ls : Levels) {f : Term} (x : Term-F Term SignedTerm) → roll-Term x ≡ f → renamed ls f ≡ term_renamed ls (map-Term Term SignedTerm Term SignedTerm (renamed ls) (signed_renamed ls) x)
unfolding renamed
renamed_at ls x is = ap (renamed ls) (sym is) ∙ fold-roll-Term Term SignedTerm (term_renamed ls) part_renamed x

signed_renamed_is : (ls : Levels) (p : SignedTerm) → signed_renamed ls p ≡ part_of ls p
unfolding renamed
signed_renamed_is ls p = fold_out-SignedTerm Term SignedTerm (term_renamed ls) part_renamed p

pub renamed-Number : (ls : Levels) (n : ℕ) → renamed ls (term.Number n) ≡ term.Number n
renamed-Number ls n = renamed_at ls (open_term.Number n) (term.rolls-Number n)

pub renamed-Value : (ls : Levels) (d v : ℕ) → renamed ls (term.Value d v) ≡ term.Value d v
renamed-Value ls d v = renamed_at ls (open_term.Value d v) (term.rolls-Value d v)

pub renamed-Var : (ls : Levels) (level : ℕ) → renamed ls (term.Var level) ≡ variable_at (slice_get ls level)
renamed-Var ls level = renamed_at ls (open_term.Var level) (term.rolls-Var level)

pub renamed-Read : (ls : Levels) (number : ℕ) (args : List Term) → renamed ls (term.Read number args) ≡ term.Read number (map (renamed ls) args)
renamed-Read ls number args = renamed_at ls (open_term.Read number args) (term.rolls-Read number args)

pub renamed-Sum : (ls : Levels) (parts : List SignedTerm) → renamed ls (term.Sum parts) ≡ term.Sum (map (part_of ls) parts)
renamed-Sum ls parts = renamed_at ls (open_term.Sum parts) (term.rolls-Sum parts) ∙ ap term.Sum (map_same (signed_renamed ls) (part_of ls) (signed_renamed_is ls) parts)

pub renamed-Times : (ls : Levels) (n : ℕ) (x : Term) → renamed ls (term.Times n x) ≡ term.Times n (renamed ls x)
renamed-Times ls n x = renamed_at ls (open_term.Times n x) (term.rolls-Times n x)

-- the values of the formula's variables, where these are those of the core's
abbrev pub pick : List ℤ → Levels → List ℤ
pick e ls = map (λ l. slice_index_or e l (pos 0)) ls

-- each level is that of a variable of the core
abbrev pub Below : ℕ → Levels → Type 0
Below k ls = Each (λ l. l < k) ls

pub below_more : (k : ℕ) (ls : Levels) → Below k ls → Below (k + 1) ls
below_more k [] b = tt
below_more k (l ∷ ls) b = (omega (arith, b.0), below_more k ls b.1)

pub below_new : (k : ℕ) (ls : Levels) → Below k ls → Below (k + 1) (ls ++ k ∷ [])
below_new k [] b = (omega arith, tt)
below_new k (l ∷ ls) b = (omega (arith, b.0), below_new k ls b.1)

-- a new variable that is none of the formula's, and one that is
pub pick_more : (e : List ℤ) (z : ℤ) (ls : Levels) → Below (length e) ls → pick (e ++ z ∷ []) ls ≡ pick e ls
pick_more e z [] b = refl
pick_more e z (l ∷ ls) b = rw (get_or_append_left e (z ∷ []) (pos 0) l b.0, pick_more e z ls b.1) refl

pub pick_new : (e : List ℤ) (z : ℤ) (ls : Levels) (k : ℕ) → length e ≡ k → Below k ls → pick (e ++ z ∷ []) (ls ++ k ∷ []) ≡ pick e ls ++ z ∷ []
pick_new e z [] k whole b = rw (get_or_push e z (pos 0) k whole) refl
pick_new e z (l ∷ ls) k whole b = rw (get_or_append_left e (z ∷ []) (pos 0) l (omega (arith, b.0, whole)), pick_new e z ls k whole b.1) refl

-- the value of a renamed term
variable_value : (w : World) (e : List ℤ) (t : List ℕ) (i : ℕ) (ls : Levels) (l : ℕ) → value w (variable_at (slice_get ls l)) e t i ≡ Some (slice_index_or (pick e ls) l (pos 0))
variable_value w e t i [] l = value-Number w 0 e t i
variable_value w e t i (m ∷ ls) zero = value-Var w m e t i
variable_value w e t i (m ∷ ls) (suc l) = variable_value w e t i ls l

module _ (w : World) (ls : Levels) (e : List ℤ) (t : List ℕ) (i : ℕ) where
  abbrev Same : Term → Type 0
  Same x = value w (renamed ls x) e t i ≡ value w x (pick e ls) t i

  args_same : (args : List Term) → Each Same args → map (λ x. value w x e t i) (map (renamed ls) args) ≡ map (λ x. value w x (pick e ls) t i) args
  args_same [] each = refl
  args_same (x ∷ args) each = rw (each.0, args_same args each.1) refl

  part_same : (p : SignedTerm) → Same (term_of p) → signed_value w (part_of ls p) e t i ≡ signed_value w p (pick e ls) t i
  part_same p same =
      let out = out-roll-SignedTerm (record { minus = (out-SignedTerm p).minus; term = renamed ls (out-SignedTerm p).term }) in
      ap (λ (q : SignedTerm-F Term SignedTerm). if q.minus then option_map neg_ℤ (value w q.term e t i) else value w q.term e t i) out
      ∙ ap (λ v. if (out-SignedTerm p).minus then option_map neg_ℤ v else v) same

  parts_same : (ps : List SignedTerm) → Each (λ p. Same (term_of p)) ps → map (λ p. signed_value w p e t i) (map (part_of ls) ps) ≡ map (λ p. signed_value w p (pick e ls) t i) ps
  parts_same [] each = refl
  parts_same (p ∷ ps) each = rw (part_same p each.0, parts_same ps each.1) refl

  pub renamed_value : (x : Term) → value w (renamed ls x) e t i ≡ value w x (pick e ls) t i
  renamed_value = every_term Same (record {
    at_number = λ n. ap (λ x. value w x e t i) (renamed-Number ls n) ∙ value-Number w n e t i ∙ sym (value-Number w n (pick e ls) t i);
    at_value = λ d v. ap (λ x. value w x e t i) (renamed-Value ls d v) ∙ value-Value w d v e t i ∙ sym (value-Value w d v (pick e ls) t i);
    at_var = λ l. ap (λ x. value w x e t i) (renamed-Var ls l) ∙ variable_value w e t i ls l ∙ sym (value-Var w l (pick e ls) t i);
    at_read = λ number args each. ap (λ x. value w x e t i) (renamed-Read ls number args) ∙ value-Read w number (map (renamed ls) args) e t i
        ∙ ap (λ vs. option_and_then (number_at w t) (read_cell w number vs i)) (args_same args each) ∙ sym (value-Read w number args (pick e ls) t i);
    at_sum = λ ps each. ap (λ x. value w x e t i) (renamed-Sum ls ps) ∙ value-Sum w (map (part_of ls) ps) e t i
        ∙ ap sum_of (parts_same ps each) ∙ sym (value-Sum w ps (pick e ls) t i);
    at_times = λ n x same. ap (λ x. value w x e t i) (renamed-Times ls n x) ∙ value-Times w n (renamed ls x) e t i
        ∙ ap (option_map (λ z. pos n *ℤ z)) same ∙ sym (value-Times w n x (pick e ls) t i);
  })

-- the distance ahead or back
abbrev pub moved : Way → ℤ → ℤ
moved way.Ahead z = z
moved way.Back z = neg_ℤ z

same_option : (o : Option ℤ) → o ≡ option_map (λ z. z) o
same_option None = refl
same_option (Some z) = refl

turned : (o : Option ℤ) → plus (option_map neg_ℤ o) (Some (pos 0)) ≡ option_map neg_ℤ o
turned None = refl
turned (Some z) = let e : neg_ℤ z +ℤ pos 0 ≡ neg_ℤ z = omega (arith, ints) in ap Some e

pub towards_value : (w : World) (m : Way) (x : Term) (e : List ℤ) (t : List ℕ) (i : ℕ) → value w (towards m x) e t i ≡ option_map (moved m) (value w x e t i)
towards_value w way.Ahead x e t i = same_option (value w x e t i)
towards_value w way.Back x e t i =
    value-Sum w (roll-SignedTerm (record { minus = true; term = x }) ∷ []) e t i
    ∙ ap (λ (q : SignedTerm-F Term SignedTerm). sum_of ((if q.minus then option_map neg_ℤ (value w q.term e t i) else value w q.term e t i) ∷ []))
    (out-roll-SignedTerm (record { minus = true; term = x }))
    ∙ turned (value w x e t i)
