-- The reach and the bound of a term at each variant.
use Rattle.std.proofs.Common.{◌≡◌, ℕ, Bool, true, ◌&&◌, nat_lt, false, List, [], map, length, slice_get, slice_index_or, ap, sym, ◌∙◌}
use Rattle.std.specs.List.{list_all}
use Rattle.std.proofs.lemmas.List.{length-map}
use Rattle.std.proofs.lemmas.List.Folds.{list_all-map}
use Rattle.trio_types.specs.declared.formula.SignedTerm.{SignedTerm, fold-SignedTerm, fold_out-SignedTerm}
use Rattle.trio_types.specs.declared.formula.Term.{Term}
use Rattle.trio_types.specs.declared.formula.Term.TheVariants as term
use Rattle.trio_types.specs.declared.formula.Term.TheOpen.{Term-F}
use Rattle.trio_types.specs.declared.formula.Term.TheOpen as open_term
use Rattle.trio_types.specs.declared.formula.Term.TheFolds.{fold-roll-Term, map-Term}
use Rattle.trio_types.specs.declared.formula.Term.TheViews.{roll-Term}
use Rattle.trio_types.specs.World.{World}
use Rattle.trio_types.specs.Kinds.{has_kind, kind_of_constant}
use Rattle.trio_types.specs.Bounds.{Bound, bounded, most_of, domain_bound, item_bound, term_bound, part_bound}
use Rattle.trio_types.proofs.Lists.{map_same}
use Rattle.trio_core.specs.CoreShape.{Reach, reaches, term_reach, part_reach, is_item_with, bound_by, term_bound_by}
use Rattle.trio_types.proofs.Inductions.{term_of}

abbrev part_reaches : World → SignedTerm → Reach
part_reaches w = fold-SignedTerm Reach Reach (term_reach w) part_reach

reaches_at : (w : World) {f : Term} (x : Term-F Term SignedTerm) → roll-Term x ≡ f → reaches w f ≡ term_reach w (map-Term Term SignedTerm Reach Reach (reaches w) (part_reaches w) x)
unfolding reaches
reaches_at w x is = ap (reaches w) (sym is) ∙ fold-roll-Term Reach Reach (term_reach w) part_reach x

part_reaches_is : (w : World) (p : SignedTerm) → part_reaches w p ≡ reaches w (term_of p)
unfolding reaches
part_reaches_is w p = fold_out-SignedTerm Reach Reach (term_reach w) part_reach p

pub reaches-Number : (w : World) (n v : ℕ) (r : Bool) → reaches w (term.Number n) v r ≡ true
reaches-Number w n v r = ap (λ f. f v r) (reaches_at w (open_term.Number n) (term.rolls-Number n))

pub reaches-Value : (w : World) (d k v : ℕ) (r : Bool) → reaches w (term.Value d k) v r ≡ has_kind (kind_of_constant w d k)
reaches-Value w d k v r = ap (λ f. f v r) (reaches_at w (open_term.Value d k) (term.rolls-Value d k))

pub reaches-Var : (w : World) (level v : ℕ) (r : Bool) → reaches w (term.Var level) v r ≡ nat_lt level v
reaches-Var w level v r = ap (λ f. f v r) (reaches_at w (open_term.Var level) (term.rolls-Var level))

pub reaches-Read : (w : World) (number : ℕ) (args : List Term) (v : ℕ) (r : Bool) →
    reaches w (term.Read number args) v r ≡ (r && (is_item_with w number (length args) && list_all (λ a. reaches w a v false) args))
reaches-Read w number args v r =
    ap (λ f. f v r) (reaches_at w (open_term.Read number args) (term.rolls-Read number args))
    ∙ ap (λ n. r && (is_item_with w number n && list_all (λ a. a v false) (map (reaches w) args))) (length-map args (reaches w))
    ∙ ap (λ b. r && (is_item_with w number (length args) && b)) (list_all-map (λ a. a v false) (reaches w) args)

pub reaches-Sum : (w : World) (parts : List SignedTerm) (v : ℕ) (r : Bool) → reaches w (term.Sum parts) v r ≡ list_all (λ p. reaches w (term_of p) v r) parts
reaches-Sum w parts v r =
    ap (λ f. f v r) (reaches_at w (open_term.Sum parts) (term.rolls-Sum parts))
    ∙ ap (list_all (λ p. p v r)) (map_same (part_reaches w) (λ p. reaches w (term_of p)) (part_reaches_is w) parts)
    ∙ list_all-map (λ p. p v r) (λ p. reaches w (term_of p)) parts

pub reaches-Times : (w : World) (n : ℕ) (x : Term) (v : ℕ) (r : Bool) → reaches w (term.Times n x) v r ≡ reaches w x v r
reaches-Times w n x v r = ap (λ f. f v r) (reaches_at w (open_term.Times n x) (term.rolls-Times n x))

-- bounds
abbrev part_bound_by : World → List ℕ → SignedTerm → Bound
part_bound_by w bs = fold-SignedTerm Bound Bound (term_bound_by w bs) part_bound

bound_by_at : (w : World) (bs : List ℕ) {f : Term} (x : Term-F Term SignedTerm) → roll-Term x ≡ f →
    bound_by w bs f ≡ term_bound_by w bs (map-Term Term SignedTerm Bound Bound (bound_by w bs) (part_bound_by w bs) x)
unfolding bound_by
bound_by_at w bs x is = ap (bound_by w bs) (sym is) ∙ fold-roll-Term Bound Bound (term_bound_by w bs) part_bound x

part_bound_by_is : (w : World) (bs : List ℕ) (p : SignedTerm) → part_bound_by w bs p ≡ bound_by w bs (term_of p)
unfolding bound_by
part_bound_by_is w bs p = fold_out-SignedTerm Bound Bound (term_bound_by w bs) part_bound p

pub bound_by-Number : (w : World) (bs : List ℕ) (n : ℕ) → bound_by w bs (term.Number n) ≡ bounded n 0
bound_by-Number w bs n = bound_by_at w bs (open_term.Number n) (term.rolls-Number n)

pub bound_by-Value : (w : World) (bs : List ℕ) (d v : ℕ) → bound_by w bs (term.Value d v) ≡ bounded (domain_bound w d) 0
bound_by-Value w bs d v = bound_by_at w bs (open_term.Value d v) (term.rolls-Value d v)

pub bound_by-Var : (w : World) (bs : List ℕ) (level : ℕ) → bound_by w bs (term.Var level) ≡ bounded (slice_index_or bs level 0) 0
bound_by-Var w bs level = bound_by_at w bs (open_term.Var level) (term.rolls-Var level)

pub bound_by-Read : (w : World) (bs : List ℕ) (number : ℕ) (args : List Term) →
    bound_by w bs (term.Read number args) ≡ bounded (item_bound w (slice_get w.items number)) (most_of (map (bound_by w bs) args))
bound_by-Read w bs number args = bound_by_at w bs (open_term.Read number args) (term.rolls-Read number args)

pub bound_by-Sum : (w : World) (bs : List ℕ) (parts : List SignedTerm) →
    bound_by w bs (term.Sum parts) ≡ term_bound w [] (open_term.Sum (map (λ p. bound_by w bs (term_of p)) parts))
bound_by-Sum w bs parts =
    bound_by_at w bs (open_term.Sum parts) (term.rolls-Sum parts)
    ∙ ap (λ ps. term_bound w [] (open_term.Sum ps)) (map_same (part_bound_by w bs) (λ p. bound_by w bs (term_of p)) (part_bound_by_is w bs) parts)

pub bound_by-Times : (w : World) (bs : List ℕ) (n : ℕ) (x : Term) → bound_by w bs (term.Times n x) ≡ term_bound w [] (open_term.Times n (bound_by w bs x))
bound_by-Times w bs n x = bound_by_at w bs (open_term.Times n x) (term.rolls-Times n x)
