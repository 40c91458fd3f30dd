-- What the value of a term is at each variant.
use Rattle.std.proofs.Common.{◌≡◌, ℕ, ℤ, pos, neg_ℤ, ◌*ℤ◌, if◌then◌else◌, List, Some, map, slice_index_or, ap, sym, ◌∙◌}
use Rattle.std.specs.Option.{option_map, option_and_then}
use Rattle.trio_types.specs.declared.formula.SignedTerm.{SignedTerm, out-SignedTerm, fold-SignedTerm, fold_out-SignedTerm}
use Rattle.trio_types.specs.declared.formula.Term.{Term}
use Rattle.trio_types.specs.declared.formula.Term.TheVariants as term
use Rattle.trio_types.specs.declared.formula.Term.TheOpen.{Term-F}
use Rattle.trio_types.specs.declared.formula.Term.TheOpen as open_term
use Rattle.trio_types.specs.declared.formula.Term.TheFolds.{fold-roll-Term, map-Term}
use Rattle.trio_types.specs.declared.formula.Term.TheViews.{roll-Term}
use Rattle.trio_types.specs.World.{World}
use Rattle.trio_types.specs.Cells.{number_at}
use Rattle.trio_types.specs.Values.{Value, value, term_value, part_value, read_cell, sum_of}
use Rattle.trio_types.proofs.Lists.{map-map, map_same}

-- what a part of a sum is worth: its term's value, or that value's opposite
abbrev pub signed_value : World → SignedTerm → Value
signed_value w part e t i =
    if (out-SignedTerm part).minus then option_map neg_ℤ (value w (out-SignedTerm part).term e t i) else value w (out-SignedTerm part).term e t i

abbrev signed_of : World → SignedTerm → Value
signed_of w = fold-SignedTerm Value Value (term_value w) part_value

value_at : (w : World) {f : Term} (x : Term-F Term SignedTerm) → roll-Term x ≡ f → value w f ≡ term_value w (map-Term Term SignedTerm Value Value (value w) (signed_of w) x)
unfolding value
value_at w x is = ap (value w) (sym is) ∙ fold-roll-Term Value Value (term_value w) part_value x

signed_of_is : (w : World) (p : SignedTerm) → signed_of w p ≡ part_value (record { minus = (out-SignedTerm p).minus; term = value w (out-SignedTerm p).term })
unfolding value
signed_of_is w p = fold_out-SignedTerm Value Value (term_value w) part_value p

pub value-Number : (w : World) (n : ℕ) (e : List ℤ) (t : List ℕ) (i : ℕ) → value w (term.Number n) e t i ≡ Some (pos n)
value-Number w n e t i = ap (λ f. f e t i) (value_at w (open_term.Number n) (term.rolls-Number n))

pub value-Value : (w : World) (d v : ℕ) (e : List ℤ) (t : List ℕ) (i : ℕ) → value w (term.Value d v) e t i ≡ Some (pos v)
value-Value w d v e t i = ap (λ f. f e t i) (value_at w (open_term.Value d v) (term.rolls-Value d v))

pub value-Var : (w : World) (level : ℕ) (e : List ℤ) (t : List ℕ) (i : ℕ) → value w (term.Var level) e t i ≡ Some (slice_index_or e level (pos 0))
value-Var w level e t i = ap (λ f. f e t i) (value_at w (open_term.Var level) (term.rolls-Var level))

pub value-Read : (w : World) (number : ℕ) (args : List Term) (e : List ℤ) (t : List ℕ) (i : ℕ) → value w (term.Read number args) e t i ≡ option_and_then (number_at w t) (read_cell w number (map (λ a. value w a e t i) args) i)
value-Read w number args e t i = ap (λ f. f e t i) (value_at w (open_term.Read number args) (term.rolls-Read number args))
    ∙ ap (λ vs. option_and_then (number_at w t) (read_cell w number vs i)) (map-map (λ a. a e t i) (value w) args)

pub value-Sum : (w : World) (parts : List SignedTerm) (e : List ℤ) (t : List ℕ) (i : ℕ) → value w (term.Sum parts) e t i ≡ sum_of (map (λ p. signed_value w p e t i) parts)
value-Sum w parts e t i = ap (λ f. f e t i) (value_at w (open_term.Sum parts) (term.rolls-Sum parts))
    ∙ ap sum_of (map-map (λ p. p e t i) (signed_of w) parts ∙ map_same (λ p. signed_of w p e t i) (λ p. signed_value w p e t i) (λ p. ap (λ f. f e t i) (signed_of_is w p)) parts)

pub value-Times : (w : World) (n : ℕ) (x : Term) (e : List ℤ) (t : List ℕ) (i : ℕ) → value w (term.Times n x) e t i ≡ option_map (λ z. pos n *ℤ z) (value w x e t i)
value-Times w n x e t i = ap (λ f. f e t i) (value_at w (open_term.Times n x) (term.rolls-Times n x))
