-- The parts of a specification that a tree stands for: places and brackets leave no trace, names become the numbers of what they stand for.
use Rattle.std.specs.Prelude.{ℕ, ℤ, pos, neg_ℤ, ◌+◌, Bool, true, false, not, if◌then◌else◌, List, [], ◌∷◌, ◌++◌, Option, None, Some, map, filter, position, length, codes}
use Rattle.std.specs.Option.{option_map}
use Rattle.std.specs.Str.{bytes_eq}
use Rattle.trio_syntax.specs.declared.tree.Quantifier.{Quantifier}
use Rattle.trio_syntax.specs.declared.tree.Quantifier.TheVariants as quantifier
use Rattle.trio_syntax.specs.declared.tree.Mention.{Mention}
use Rattle.trio_syntax.specs.declared.tree.RefTree.{RefTree}
use Rattle.trio_syntax.specs.declared.tree.RefTree.TheVariants as ref
use Rattle.trio_syntax.specs.declared.tree.TermTree.{TermTree, TermTree-F, fold-TermTree}
use Rattle.trio_syntax.specs.declared.tree.TermShape.{TermShape, TermShape-F, fold-TermShape}
use Rattle.trio_syntax.specs.declared.tree.TermShape.TheOpen as shape
use Rattle.trio_syntax.specs.declared.tree.PartTree.{PartTree, PartTree-F, out-PartTree}
use Rattle.trio_syntax.specs.declared.tree.FormulaTree.{FormulaTree}
use Rattle.trio_syntax.specs.declared.tree.FormulaTree.TheOpen.{FormulaTree-F}
use Rattle.trio_syntax.specs.declared.tree.FormulaTree.TheOpen as tree_node
use Rattle.trio_syntax.specs.declared.tree.FormulaTree.TheFolds.{fold-FormulaTree}
use Rattle.trio_syntax.specs.declared.tree.IntTree.{IntTree}
use Rattle.trio_syntax.specs.declared.tree.ValuesTree.{ValuesTree}
use Rattle.trio_syntax.specs.declared.tree.ValuesTree.TheVariants as values
use Rattle.trio_syntax.specs.declared.tree.DomainTree.{DomainTree}
use Rattle.trio_syntax.specs.declared.tree.ItemTree.{ItemTree}
use Rattle.trio_syntax.specs.declared.tree.ClaimTree.{ClaimTree}
use Rattle.trio_syntax.specs.declared.tree.SpecTree.{SpecTree}
use Rattle.trio_types.specs.declared.spec.DomainKind.{DomainKind}
use Rattle.trio_types.specs.declared.spec.DomainKind.TheVariants as kind
use Rattle.trio_types.specs.declared.spec.Domain.{Domain}
use Rattle.trio_types.specs.declared.spec.Item.{Item}
use Rattle.trio_types.specs.declared.spec.Axiom.{Axiom}
use Rattle.trio_types.specs.declared.formula.Term.{Term}
use Rattle.trio_types.specs.declared.formula.Term.TheVariants as term
use Rattle.trio_types.specs.declared.formula.SignedTerm.{SignedTerm, roll-SignedTerm}
use Rattle.trio_types.specs.declared.formula.Formula.{Formula}
use Rattle.trio_types.specs.declared.formula.Formula.TheVariants as formula
use Rattle.trio_types.specs.World.{World}
use Rattle.trio_types.specs.Parts.{Parts, world_of_parts}
use Rattle.trio_scope.specs.declared.meaning.Meaning.{Meaning}
use Rattle.trio_scope.specs.declared.meaning.Meaning.TheVariants as meaning
use Rattle.trio_reader.specs.declared.sense.Sense.{Sense}
use Rattle.trio_reader.specs.declared.sense.Sense.TheVariants as sense
use Rattle.trio_scope.specs.Names.{declarations, declared_of, domains_in, items_in}
use Rattle.trio_scope.specs.Gather.{Variable}

-- what a name stands for, by its first declaration
abbrev pub meaning_of : SpecTree → List ℕ → Option Meaning
meaning_of tree name = option_map (λ d. d.meaning) (declared_of (declarations tree) name)

-- how many domains there are, `bool` among them, and how many items: the first numbers that none of them has
abbrev pub domain_count : SpecTree → ℕ
domain_count tree = 1 + length (domains_in tree.declarations)

abbrev pub item_count : SpecTree → ℕ
item_count tree = length (items_in tree.declarations)

abbrev pub domain_meant : ℕ → Option Meaning → ℕ
domain_meant none (Some (meaning.Domain d)) = d
domain_meant none m = none

-- the number of the domain of a name; where the name is none of a domain, a number that no domain has
abbrev pub domain_of : SpecTree → RefTree → ℕ
domain_of tree ref.Bool = 0
domain_of tree (ref.Named m) = domain_meant (domain_count tree) (meaning_of tree m.name)

-- the domains of variables
abbrev pub domains_of : SpecTree → List Variable → List ℕ
domains_of tree around = map (λ v. domain_of tree v.domain) around

-- the level of the variable of a name
abbrev pub level_in : List Variable → List ℕ → Option ℕ
level_in around name = position (λ v. bytes_eq v.name name) around

-- a name in a term is a variable, a word or an item; where it is none of them, it stands for an item that there is not
abbrev pub sense_in : ℕ → Option ℕ → Option Meaning → Sense
sense_in none (Some level) m = sense.Variable level
sense_in none None (Some (meaning.Word d v)) = sense.Word d v
sense_in none None (Some (meaning.Item n)) = sense.Item n
sense_in none None m = sense.Item none

abbrev pub sense_of : SpecTree → List Variable → List ℕ → Sense
sense_of tree around name = sense_in (item_count tree) (level_in around name) (meaning_of tree name)

-- a name alone
abbrev pub sense_term : Sense → Term
sense_term (sense.Variable level) = term.Var level
sense_term (sense.Word d v) = term.Value d v
sense_term (sense.Item n) = term.Read n []

-- the item that a name with arguments reads; a variable and a word are none
abbrev pub sense_item : ℕ → Sense → ℕ
sense_item none (sense.Item n) = n
sense_item none s = none

-- a term of a tree, under the variables in whose body it stands
abbrev pub Erased : Type 0
Erased = List Variable → Term

abbrev pub erased_shape : SpecTree → TermShape-F Erased (List Variable → SignedTerm) Erased → Erased
erased_shape tree (shape.Number n) e = term.Number n.number
erased_shape tree (shape.Truth b) e = term.Value 0 (if b then 1 else 0)
erased_shape tree (shape.Named m) e = sense_term (sense_of tree e m.name)
erased_shape tree (shape.Call m args) e = term.Read (sense_item (item_count tree) (sense_of tree e m.name)) (map (λ a. a e) args)
erased_shape tree (shape.Sum parts) e = term.Sum (map (λ p. p e) parts)
erased_shape tree (shape.Times n factor) e = term.Times n.number (factor e)

abbrev pub erased_part : PartTree-F Erased (List Variable → SignedTerm) Erased → List Variable → SignedTerm
erased_part p e = roll-SignedTerm (record { minus = p.minus; term = p.term e })

abbrev pub erased_term : TermTree-F Erased (List Variable → SignedTerm) Erased → Erased
erased_term t e = t.shape e

unfoldable pub shape_of : SpecTree → TermShape → Erased
shape_of tree = fold-TermShape Erased (List Variable → SignedTerm) Erased (erased_shape tree) erased_part erased_term

unfoldable pub term_of : SpecTree → TermTree → Erased
term_of tree = fold-TermTree Erased (List Variable → SignedTerm) Erased (erased_shape tree) erased_part erased_term

-- a part of a sum
abbrev pub part_from : SpecTree → PartTree → List Variable → SignedTerm
part_from tree p e = roll-SignedTerm (record { minus = (out-PartTree p).minus; term = term_of tree (out-PartTree p).term e })

abbrev pub quantified : Quantifier → List ℕ → ℕ → Formula → Formula
quantified quantifier.All name d f = formula.All name d f
quantified quantifier.Ex name d f = formula.Ex name d f

-- a quantifier, whose body stands under its variable
abbrev pub quantified_from : SpecTree → List Variable → Quantifier → Mention → RefTree → (List Variable → Formula) → Formula
quantified_from tree e q x domain body = quantified q x.name (domain_of tree domain) (body (e ++ record { name = x.name; domain = domain } ∷ []))

abbrev pub erased_formula : SpecTree → FormulaTree-F (List Variable → Formula) → List Variable → Formula
erased_formula tree (tree_node.Lone t) e = formula.Lone (term_of tree t e)
erased_formula tree (tree_node.Compare rel p t u) e = formula.Compare rel (term_of tree t e) (term_of tree u e)
erased_formula tree (tree_node.Not f) e = formula.Not (f e)
erased_formula tree (tree_node.And fs) e = formula.And (map (λ f. f e) fs)
erased_formula tree (tree_node.Or fs) e = formula.Or (map (λ f. f e) fs)
erased_formula tree (tree_node.Implies f g) e = formula.Implies (f e) (g e)
erased_formula tree (tree_node.Iff f g) e = formula.Iff (f e) (g e)
erased_formula tree (tree_node.Quantified q x domain f) e = quantified_from tree e q x domain f
erased_formula tree (tree_node.One op f) e = formula.One op (f e)
erased_formula tree (tree_node.Far op f t) e = formula.Far op (f e) (term_of tree t e)
erased_formula tree (tree_node.Pair op f g) e = formula.Pair op (f e) (g e)

-- a formula of a tree, under the variables in whose body it stands
unfoldable pub formula_of : SpecTree → FormulaTree → List Variable → Formula
formula_of tree = fold-FormulaTree (List Variable → Formula) (erased_formula tree)

abbrev pub integer_of : IntTree → ℤ
integer_of n = if n.minus then neg_ℤ (pos n.number.number) else pos n.number.number

abbrev pub values_kind : ValuesTree → DomainKind
values_kind (values.Range low high) = kind.Range (integer_of low) (integer_of high)
values_kind (values.Words words) = kind.Words (map (λ w. w.name) words)

abbrev pub domain_from : DomainTree → Domain
domain_from d = record { name = d.name.name; kind = values_kind d.values }

-- domain 0
abbrev pub bool_domain : Domain
bool_domain = record { name = codes "bool"; kind = kind.Bool }

abbrev pub item_from : SpecTree → ItemTree → Item
item_from tree i = record { name = i.name.name; input = i.input; args = map (domain_of tree) i.args; value = domain_of tree i.value }

abbrev pub axiom_from : SpecTree → ClaimTree → Axiom
axiom_from tree c = record { name = c.name.name; at = option_map (λ k. k.number) c.at; formula = formula_of tree c.formula [] }

-- an axiom, or a goal
abbrev pub is_wanted : Bool → ClaimTree → Bool
is_wanted goals c = if goals then c.goal else not c.goal

-- the axioms among claims, or the goals
abbrev pub claims_from : SpecTree → Bool → List ClaimTree → List Axiom
claims_from tree goals claims = map (axiom_from tree) (filter (is_wanted goals) claims)

-- the parts of a specification that a tree stands for
unfoldable pub parts_of_tree : SpecTree → Parts
parts_of_tree tree = record {
  instants = tree.instants.number;
  domains = bool_domain ∷ map domain_from (domains_in tree.declarations);
  items = map (item_from tree) (items_in tree.declarations);
  axioms = claims_from tree false tree.claims;
  goals = claims_from tree true tree.claims;
}

-- what its formulas speak of
abbrev pub world_of_tree : SpecTree → World
world_of_tree tree = world_of_parts (parts_of_tree tree)
