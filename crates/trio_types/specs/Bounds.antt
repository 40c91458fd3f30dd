-- The static bound of a term: no value of it, or of its opposite, is above.
use Rattle.std.specs.Prelude.{ℕ, ◌*◌, max, nat_abs, List, [], ◌∷◌, ◌++◌, Option, None, Some, map, slice_get, sum}
use Rattle.trio_types.specs.declared.spec.Item.{Item}
use Rattle.trio_types.specs.declared.formula.Term.{Term}
use Rattle.trio_types.specs.declared.formula.Term.TheOpen.{Term-F, SignedTerm-F}
use Rattle.trio_types.specs.declared.formula.Term.TheOpen as open_term
use Rattle.trio_types.specs.declared.formula.Term.TheFolds.{fold-Term}
use Rattle.trio_types.specs.declared.formula.Formula.{Formula}
use Rattle.trio_types.specs.declared.formula.Formula.TheOpen.{Formula-F}
use Rattle.trio_types.specs.declared.formula.Formula.TheOpen as open_formula
use Rattle.trio_types.specs.declared.formula.Formula.TheFolds.{fold-Formula}
use Rattle.trio_types.specs.World.{World, values_in}

-- the greatest of these, and 0 of none
abbrev pub greatest : List ℕ → ℕ
greatest [] = 0
greatest (n ∷ ns) = max n (greatest ns)

-- the greatest absolute value of a domain's values
abbrev pub domain_bound : World → ℕ → ℕ
domain_bound world d = greatest (map nat_abs (values_in world.domains d))

abbrev pub variable_bound : World → Option ℕ → ℕ
variable_bound world None = 0
variable_bound world (Some d) = domain_bound world d

abbrev pub item_bound : World → Option Item → ℕ
item_bound world None = 0
item_bound world (Some item) = domain_bound world item.value

-- a term's bound, and the greatest of it and of those of the terms in it
pub record Bound : Type 0 where
  pub own : ℕ
  pub most : ℕ

abbrev pub bounded : ℕ → ℕ → Bound
bounded own parts = record { own = own; most = max own parts }

abbrev pub most_of : List Bound → ℕ
most_of parts = greatest (map (λ p. p.most) parts)

abbrev pub term_bound : World → List ℕ → Term-F Bound Bound → Bound
term_bound world variables (open_term.Number n) = bounded n 0
term_bound world variables (open_term.Value d v) = bounded (domain_bound world d) 0
term_bound world variables (open_term.Var level) = bounded (variable_bound world (slice_get variables level)) 0
term_bound world variables (open_term.Read number args) = bounded (item_bound world (slice_get world.items number)) (most_of args)
term_bound world variables (open_term.Sum parts) = bounded (sum (map (λ p. p.own) parts)) (most_of parts)
term_bound world variables (open_term.Times n x) = bounded (n * x.own) x.most

abbrev pub part_bound : SignedTerm-F Bound Bound → Bound
part_bound p = p.term

-- the bounds of a term, where these are the domains of the variables in whose bodies it stands
unfoldable pub bound_of : World → List ℕ → Term → Bound
bound_of world variables = fold-Term Bound Bound (term_bound world variables) part_bound

-- the bound of a formula's terms, by the variables' domains
abbrev pub Bounding : Type 0
Bounding = List ℕ → ℕ

abbrev pub formula_bound : World → Formula-F Bounding → Bounding
formula_bound world (open_formula.Lone x) vs = (bound_of world vs x).most
formula_bound world (open_formula.Compare r x y) vs = max (bound_of world vs x).most (bound_of world vs y).most
formula_bound world (open_formula.Not f) vs = f vs
formula_bound world (open_formula.And fs) vs = greatest (map (λ f. f vs) fs)
formula_bound world (open_formula.Or fs) vs = greatest (map (λ f. f vs) fs)
formula_bound world (open_formula.Implies f g) vs = max (f vs) (g vs)
formula_bound world (open_formula.Iff f g) vs = max (f vs) (g vs)
formula_bound world (open_formula.All name d f) vs = f (vs ++ d ∷ [])
formula_bound world (open_formula.Ex name d f) vs = f (vs ++ d ∷ [])
formula_bound world (open_formula.One o f) vs = f vs
formula_bound world (open_formula.Far o f x) vs = max (f vs) (bound_of world vs x).most
formula_bound world (open_formula.Pair o f g) vs = max (f vs) (g vs)

-- the greatest static bound of a formula's terms
unfoldable pub greatest_bound : World → Formula → Bounding
greatest_bound world = fold-Formula Bounding (formula_bound world)
