-- The names of a specification: which are declared, and which are variables.
use Rattle.std.specs.Prelude.{ℕ, Bool, true, not, ◌&&◌, List, [], ◌∷◌, ◌++◌, map, drop}
use Rattle.std.specs.List.{list_all, list_any, flat_map}
use Rattle.std.specs.Str.{bytes_eq}
use Rattle.trio_types.specs.declared.spec.DomainKind.{DomainKind}
use Rattle.trio_types.specs.declared.spec.DomainKind.TheVariants as kind
use Rattle.trio_types.specs.declared.spec.Domain.{Domain}
use Rattle.trio_types.specs.declared.formula.Formula.{Formula}
use Rattle.trio_types.specs.declared.formula.Formula.TheOpen.{Formula-F}
use Rattle.trio_types.specs.declared.formula.Formula.TheOpen as open_formula
use Rattle.trio_types.specs.declared.formula.Formula.TheFolds.{fold-Formula}
use Rattle.trio_types.specs.Parts.{Parts, claims_of}

abbrev pub words_of : DomainKind → List (List ℕ)
words_of (kind.Words words) = words
words_of values = []

-- a domain's name, and its words
abbrev pub names_of_domain : Domain → List (List ℕ)
names_of_domain domain = domain.name ∷ words_of domain.kind

-- the declared names, without that of `bool`
abbrev pub declared_names : Parts → List (List ℕ)
declared_names parts =
    flat_map names_of_domain (drop 1 parts.domains) ++ map (λ item. item.name) parts.items ++ map (λ a. a.name) (claims_of parts)

-- no name stands twice
abbrev pub are_distinct : List (List ℕ) → Bool
are_distinct [] = true
are_distinct (name ∷ names) = not (list_any (bytes_eq name) names) && are_distinct names

abbrev pub formula_variables : Formula-F (List (List ℕ)) → List (List ℕ)
formula_variables (open_formula.Lone x) = []
formula_variables (open_formula.Compare r x y) = []
formula_variables (open_formula.Not f) = f
formula_variables (open_formula.And fs) = flat_map (λ f. f) fs
formula_variables (open_formula.Or fs) = flat_map (λ f. f) fs
formula_variables (open_formula.Implies f g) = f ++ g
formula_variables (open_formula.Iff f g) = f ++ g
formula_variables (open_formula.All name d f) = name ∷ f
formula_variables (open_formula.Ex name d f) = name ∷ f
formula_variables (open_formula.One o f) = f
formula_variables (open_formula.Far o f x) = f
formula_variables (open_formula.Pair o f g) = f ++ g

-- the names of a formula's variables
unfoldable pub variables_of : Formula → List (List ℕ)
variables_of = fold-Formula (List (List ℕ)) formula_variables

-- whether variables are new, by the names that are taken
abbrev pub Newness : Type 0
Newness = List (List ℕ) → Bool

abbrev pub is_new : List ℕ → Newness
is_new name taken = not (list_any (bytes_eq name) taken)

abbrev pub formula_newness : Formula-F Newness → Newness
formula_newness (open_formula.Lone x) taken = true
formula_newness (open_formula.Compare r x y) taken = true
formula_newness (open_formula.Not f) taken = f taken
formula_newness (open_formula.And fs) taken = list_all (λ f. f taken) fs
formula_newness (open_formula.Or fs) taken = list_all (λ f. f taken) fs
formula_newness (open_formula.Implies f g) taken = f taken && g taken
formula_newness (open_formula.Iff f g) taken = f taken && g taken
formula_newness (open_formula.All name d f) taken = is_new name taken && f (taken ++ name ∷ [])
formula_newness (open_formula.Ex name d f) taken = is_new name taken && f (taken ++ name ∷ [])
formula_newness (open_formula.One o f) taken = f taken
formula_newness (open_formula.Far o f x) taken = f taken
formula_newness (open_formula.Pair o f g) taken = f taken && g taken

-- no variable has a name of these, or that of a variable in whose body it stands
unfoldable pub variables_are_new : Formula → Newness
variables_are_new = fold-Formula Newness formula_newness
