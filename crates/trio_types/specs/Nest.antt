-- The most brackets `(` and `[` that are open at a token of a canonical text.
use Rattle.std.specs.Prelude.{ℕ, ◌+◌, max, List, [], ◌∷◌, map}
use Rattle.trio_types.specs.declared.spec.Item.{Item}
use Rattle.trio_types.specs.declared.formula.Term.{Term}
use Rattle.trio_types.specs.declared.formula.Term.TheOpen.{Term-F, SignedTerm-F}
use Rattle.trio_types.specs.declared.formula.Term.TheOpen as open_term
use Rattle.trio_types.specs.declared.formula.Term.TheFolds.{fold-Term}
use Rattle.trio_types.specs.declared.formula.Formula.{Formula}
use Rattle.trio_types.specs.declared.formula.Formula.TheOpen.{Formula-F}
use Rattle.trio_types.specs.declared.formula.Formula.TheOpen as open_formula
use Rattle.trio_types.specs.declared.formula.Formula.TheFolds.{fold-Formula}
use Rattle.trio_types.specs.Bounds.{greatest}

-- a term's text by itself, as a part of a sum, where a sum stands in `[` and `]`, and as a factor, where a product does too
pub record TermNest : Type 0 where
  pub plain : ℕ
  pub as_part : ℕ
  pub as_factor : ℕ

-- arguments stand in `(` and `)`, where there are some
abbrev pub in_brackets : List ℕ → ℕ
in_brackets [] = 0
in_brackets (n ∷ ns) = 1 + greatest (n ∷ ns)

abbrev pub term_nest : Term-F TermNest TermNest → TermNest
term_nest (open_term.Number n) = record { plain = 0; as_part = 0; as_factor = 0 }
term_nest (open_term.Value d v) = record { plain = 0; as_part = 0; as_factor = 0 }
term_nest (open_term.Var level) = record { plain = 0; as_part = 0; as_factor = 0 }
term_nest (open_term.Read number args) = let n = in_brackets (map (λ a. a.plain) args) in record { plain = n; as_part = n; as_factor = n }
term_nest (open_term.Sum parts) = let n = greatest (map (λ p. p.as_part) parts) in record { plain = n; as_part = 1 + n; as_factor = 1 + n }
term_nest (open_term.Times k x) = let n = x.as_factor in record { plain = n; as_part = n; as_factor = 1 + n }

abbrev pub part_nest : SignedTerm-F TermNest TermNest → TermNest
part_nest p = p.term

unfoldable pub nest_of_term : Term → TermNest
nest_of_term = fold-Term TermNest TermNest term_nest part_nest

-- a formula's text by itself, and as a group, where all but a lone term, a quantifier and an operator stand in `(` and `)`
pub record FormulaNest : Type 0 where
  pub plain : ℕ
  pub grouped : ℕ

abbrev pub its_own_group : ℕ → FormulaNest
its_own_group n = record { plain = n; grouped = n }

abbrev pub bracketed_group : ℕ → FormulaNest
bracketed_group n = record { plain = n; grouped = 1 + n }

abbrev pub formula_nest : Formula-F FormulaNest → FormulaNest
formula_nest (open_formula.Lone x) = its_own_group (nest_of_term x).plain
formula_nest (open_formula.Compare r x y) = bracketed_group (max (nest_of_term x).plain (nest_of_term y).plain)
formula_nest (open_formula.Not f) = bracketed_group f.grouped
formula_nest (open_formula.And fs) = bracketed_group (greatest (map (λ f. f.grouped) fs))
formula_nest (open_formula.Or fs) = bracketed_group (greatest (map (λ f. f.grouped) fs))
formula_nest (open_formula.Implies f g) = bracketed_group (max f.grouped g.grouped)
formula_nest (open_formula.Iff f g) = bracketed_group (max f.grouped g.grouped)
formula_nest (open_formula.All name d f) = its_own_group (1 + f.plain)
formula_nest (open_formula.Ex name d f) = its_own_group (1 + f.plain)
formula_nest (open_formula.One o f) = its_own_group (1 + f.plain)
formula_nest (open_formula.Far o f x) = its_own_group (1 + max f.plain (nest_of_term x).plain)
formula_nest (open_formula.Pair o f g) = its_own_group (1 + max f.plain g.plain)

unfoldable pub nest_of : Formula → FormulaNest
nest_of = fold-Formula FormulaNest formula_nest

abbrev has_brackets : List ℕ → ℕ
has_brackets [] = 0
has_brackets (d ∷ ds) = 1

-- an item's arguments stand in `(` and `)`
abbrev pub item_nest : Item → ℕ
item_nest item = has_brackets item.args
