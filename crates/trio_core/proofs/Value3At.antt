-- What is known of a term's value at each variant.
use Rattle.std.proofs.Common.{◌≡◌, ℕ, ℤ, pos, neg_ℤ, ◌*ℤ◌, if◌then◌else◌, List, map, slice_index_or, ap, sym, ◌∙◌}
use Rattle.trio_types.specs.declared.formula.SignedTerm.{SignedTerm, out-SignedTerm, fold-SignedTerm, fold_out-SignedTerm}
use Rattle.trio_types.specs.declared.formula.Term.{Term}
use Rattle.trio_types.specs.declared.formula.Term.TheVariants as term
use Rattle.trio_types.specs.declared.formula.Term.TheOpen.{Term-F}
use Rattle.trio_types.specs.declared.formula.Term.TheOpen as open_term
use Rattle.trio_types.specs.declared.formula.Term.TheFolds.{fold-roll-Term, map-Term}
use Rattle.trio_types.specs.declared.formula.Term.TheViews.{roll-Term}
use Rattle.trio_types.specs.World.{World}
use Rattle.trio_types.specs.Cells.{Cell}
use Rattle.trio_types.specs.Values.{read_cell}
use Rattle.trio_types.proofs.Lists.{map-map, map_same}
use Rattle.trio_core.specs.declared.nodes.Known.{Known}
use Rattle.trio_core.specs.declared.nodes.Known.TheVariants.{One}
use Rattle.trio_core.specs.Three.{known_map, known_then, known_all, known_of_cell, known_sum, Value3, value3, term_value3, part_value3}

-- what is known of a part of a sum: its term's value, or that value's opposite
abbrev pub signed_value3 : World → SignedTerm → Value3
signed_value3 w part e look i =
    if (out-SignedTerm part).minus then known_map neg_ℤ (value3 w (out-SignedTerm part).term e look i) else value3 w (out-SignedTerm part).term e look i

abbrev signed_of : World → SignedTerm → Value3
signed_of w = fold-SignedTerm Value3 Value3 (term_value3 w) part_value3

value3_at : (w : World) {f : Term} (x : Term-F Term SignedTerm) → roll-Term x ≡ f → value3 w f ≡ term_value3 w (map-Term Term SignedTerm Value3 Value3 (value3 w) (signed_of w) x)
unfolding value3
value3_at w x is = ap (value3 w) (sym is) ∙ fold-roll-Term Value3 Value3 (term_value3 w) part_value3 x

signed_of_is : (w : World) (p : SignedTerm) → signed_of w p ≡ part_value3 (record { minus = (out-SignedTerm p).minus; term = value3 w (out-SignedTerm p).term })
unfolding value3
signed_of_is w p = fold_out-SignedTerm Value3 Value3 (term_value3 w) part_value3 p

pub value3-Number : (w : World) (n : ℕ) (e : List ℤ) (look : Cell → Known ℤ) (i : ℕ) → value3 w (term.Number n) e look i ≡ One (pos n)
value3-Number w n e look i = ap (λ f. f e look i) (value3_at w (open_term.Number n) (term.rolls-Number n))

pub value3-Value : (w : World) (d v : ℕ) (e : List ℤ) (look : Cell → Known ℤ) (i : ℕ) → value3 w (term.Value d v) e look i ≡ One (pos v)
value3-Value w d v e look i = ap (λ f. f e look i) (value3_at w (open_term.Value d v) (term.rolls-Value d v))

pub value3-Var : (w : World) (level : ℕ) (e : List ℤ) (look : Cell → Known ℤ) (i : ℕ) → value3 w (term.Var level) e look i ≡ One (slice_index_or e level (pos 0))
value3-Var w level e look i = ap (λ f. f e look i) (value3_at w (open_term.Var level) (term.rolls-Var level))

pub value3-Read : (w : World) (number : ℕ) (args : List Term) (e : List ℤ) (look : Cell → Known ℤ) (i : ℕ) →
    value3 w (term.Read number args) e look i ≡ known_then (λ zs. known_of_cell look (read_cell w number zs i)) (known_all (map (λ a. value3 w a e look i) args))
value3-Read w number args e look i = ap (λ f. f e look i) (value3_at w (open_term.Read number args) (term.rolls-Read number args))
    ∙ ap (λ vs. known_then (λ zs. known_of_cell look (read_cell w number zs i)) (known_all vs)) (map-map (λ a. a e look i) (value3 w) args)

pub value3-Sum : (w : World) (parts : List SignedTerm) (e : List ℤ) (look : Cell → Known ℤ) (i : ℕ) →
    value3 w (term.Sum parts) e look i ≡ known_sum (map (λ p. signed_value3 w p e look i) parts)
value3-Sum w parts e look i = ap (λ f. f e look i) (value3_at w (open_term.Sum parts) (term.rolls-Sum parts))
    ∙ ap known_sum (map-map (λ p. p e look i) (signed_of w) parts
    ∙ map_same (λ p. signed_of w p e look i) (λ p. signed_value3 w p e look i) (λ p. ap (λ f. f e look i) (signed_of_is w p)) parts)

pub value3-Times : (w : World) (n : ℕ) (x : Term) (e : List ℤ) (look : Cell → Known ℤ) (i : ℕ) →
    value3 w (term.Times n x) e look i ≡ known_map (λ z. pos n *ℤ z) (value3 w x e look i)
value3-Times w n x e look i = ap (λ f. f e look i) (value3_at w (open_term.Times n x) (term.rolls-Times n x))
