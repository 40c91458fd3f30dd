-- The form of the trees that are read: names are names, and conjunctions, disjunctions, sums and calls have parts.
use Rattle.std.specs.Prelude.{Bool, true, false, ◌&&◌, nat_le, List, [], ◌∷◌, length}
use Rattle.std.specs.List.{list_all}
use Rattle.trio_base.specs.Names.{is_name}
use Rattle.trio_syntax.specs.declared.tree.Mention.{Mention}
use Rattle.trio_syntax.specs.declared.tree.TermTree.{TermTree, TermTree-F, fold-TermTree}
use Rattle.trio_syntax.specs.declared.tree.PartTree.{PartTree-F}
use Rattle.trio_syntax.specs.declared.tree.TermShape.{TermShape-F}
use Rattle.trio_syntax.specs.declared.tree.TermShape.TheOpen as shape
use Rattle.trio_syntax.specs.declared.tree.RefTree.{RefTree}
use Rattle.trio_syntax.specs.declared.tree.RefTree.TheVariants as ref
use Rattle.trio_syntax.specs.declared.tree.FormulaTree.{FormulaTree}
use Rattle.trio_syntax.specs.declared.tree.FormulaTree.TheOpen.{FormulaTree-F}
use Rattle.trio_syntax.specs.declared.tree.FormulaTree.TheOpen as node
use Rattle.trio_syntax.specs.declared.tree.FormulaTree.TheFolds.{fold-FormulaTree}
use Rattle.trio_syntax.specs.declared.tree.ValuesTree.{ValuesTree}
use Rattle.trio_syntax.specs.declared.tree.ValuesTree.TheVariants as values
use Rattle.trio_syntax.specs.declared.tree.DeclarationTree.{DeclarationTree}
use Rattle.trio_syntax.specs.declared.tree.DeclarationTree.TheVariants as declaration
use Rattle.trio_syntax.specs.declared.tree.ClaimTree.{ClaimTree}
use Rattle.trio_syntax.specs.declared.tree.SpecTree.{SpecTree}

abbrev pub mentions_a_name : Mention → Bool
mentions_a_name mention = is_name mention.name

-- so many of these at least, and each of them so
abbrev pub some_all : List Bool → Bool
some_all parts = nat_le 1 (length parts) && list_all (λ part. part) parts

abbrev pub two_all : List Bool → Bool
two_all parts = nat_le 2 (length parts) && list_all (λ part. part) parts

-- A part of a sum: whether `-` stands before it, and whether it is formed.
pub record Part : Type 0 where
  pub minus : Bool
  pub formed : Bool

-- a part with `-` before it, or two parts and more
abbrev pub is_sum : List Part → Bool
is_sum [] = false
is_sum (part ∷ []) = part.minus && part.formed
is_sum parts = list_all (λ part. part.formed) parts

abbrev pub shape_is_formed : TermShape-F Bool Part Bool → Bool
shape_is_formed (shape.Number n) = true
shape_is_formed (shape.Truth b) = true
shape_is_formed (shape.Named name) = mentions_a_name name
shape_is_formed (shape.Call name args) = mentions_a_name name && some_all args
shape_is_formed (shape.Sum parts) = is_sum parts
shape_is_formed (shape.Times n factor) = factor

abbrev pub part_formed : PartTree-F Bool Part Bool → Part
part_formed part = record { minus = part.minus; formed = part.term }

abbrev pub term_formed : TermTree-F Bool Part Bool → Bool
term_formed term = term.shape

-- every name of a term is a name, every call has an argument, and a sum of one part has a sign
unfoldable pub term_is_formed : TermTree → Bool
term_is_formed = fold-TermTree Bool Part Bool shape_is_formed part_formed term_formed

abbrev pub ref_is_formed : RefTree → Bool
ref_is_formed ref.Bool = true
ref_is_formed (ref.Named name) = mentions_a_name name

abbrev pub node_is_formed : FormulaTree-F Bool → Bool
node_is_formed (node.Lone term) = term_is_formed term
node_is_formed (node.Compare rel place left right) = term_is_formed left && term_is_formed right
node_is_formed (node.Not part) = part
node_is_formed (node.And parts) = two_all parts
node_is_formed (node.Or parts) = two_all parts
node_is_formed (node.Implies left right) = left && right
node_is_formed (node.Iff left right) = left && right
node_is_formed (node.Quantified quantifier name domain part) = mentions_a_name name && ref_is_formed domain && part
node_is_formed (node.One op part) = part
node_is_formed (node.Far op part distance) = part && term_is_formed distance
node_is_formed (node.Pair op left right) = left && right

-- the same of a formula's names and terms, and every And and every Or has two parts or more
unfoldable pub formula_is_formed : FormulaTree → Bool
formula_is_formed = fold-FormulaTree Bool node_is_formed

abbrev pub values_are_formed : ValuesTree → Bool
values_are_formed (values.Range least greatest) = true
values_are_formed (values.Words []) = false
values_are_formed (values.Words names) = list_all mentions_a_name names

abbrev pub declaration_is_formed : DeclarationTree → Bool
declaration_is_formed (declaration.Domain domain) = mentions_a_name domain.name && values_are_formed domain.values
declaration_is_formed (declaration.Item item) = mentions_a_name item.name && list_all ref_is_formed item.args && ref_is_formed item.value

abbrev pub claim_is_formed : ClaimTree → Bool
claim_is_formed claim = mentions_a_name claim.name && formula_is_formed claim.formula

-- every declaration and every claim is so
abbrev pub is_formed : SpecTree → Bool
is_formed tree = list_all declaration_is_formed tree.declarations && list_all claim_is_formed tree.claims
