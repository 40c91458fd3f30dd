-- What a text uses, as the kinds of a specification's parts are judged, with the token that is at fault where a use is wrong.
use Rattle.std.specs.Prelude.{ℕ, Bool, List, [], ◌∷◌, ◌++◌, map, length, slice_get, zip}
use Rattle.std.specs.List.{flat_map}
use Rattle.std.specs.Option.{option_map}
use Rattle.trio_syntax.specs.declared.tree.Mention.{Mention}
use Rattle.trio_syntax.specs.declared.tree.RefTree.{RefTree}
use Rattle.trio_syntax.specs.declared.tree.RefTree.TheVariants as ref
use Rattle.trio_syntax.specs.declared.tree.TermTree.{TermTree, out-TermTree}
use Rattle.trio_syntax.specs.declared.tree.TermShape.{TermShape, TermShape-F, out-TermShape}
use Rattle.trio_syntax.specs.declared.tree.TermShape.TheOpen as shape
use Rattle.trio_syntax.specs.declared.tree.PartTree.{PartTree}
use Rattle.trio_syntax.specs.declared.tree.SpecTree.{SpecTree}
use Rattle.trio_types.specs.Kinds.{args_of, Kind, Use, kind_of_term, kind_in, term_uses, required, of_domain, of_item, alone, part, distance, argument, compared, is_right}
use Rattle.trio_scope.specs.Places.{unless}
use Rattle.trio_scope.specs.declared.walk.Role.{Role}
use Rattle.trio_scope.specs.declared.walk.Role.TheVariants as role
use Rattle.trio_scope.specs.Scope.{refs_of}
use Rattle.trio_scope.specs.Gather.{Variable, Finding, places_in_claims}
use Rattle.trio_reader.specs.Erasure.{domain_of, domains_of, sense_of, sense_term, sense_item, item_count, term_of, world_of_tree}

-- a use, with its token
pub record PlacedUse : Type 0 where
  pub place : ℕ
  pub use_ : Use

abbrev pub placed : ℕ → Use → PlacedUse
placed p u = record { place = p; use_ = u }

-- the places of the uses that are not right
abbrev pub wrong_places : List PlacedUse → List ℕ
wrong_places uses = flat_map (λ u. unless (is_right u.use_) u.place) uses

-- the kind of a term of the tree
abbrev pub kind_of : SpecTree → List Variable → TermTree → Kind
kind_of tree e t = kind_of_term (world_of_tree tree) (domains_of tree e) (term_of tree t e)

-- what a term's role asks of it, at its first token; a comparison and a read ask it of their terms themselves
abbrev pub role_uses : Role → ℕ → Kind → List PlacedUse
role_uses role.Alone p k = placed p (required alone k) ∷ []
role_uses role.Distance p k = placed p (required distance k) ∷ []
role_uses role.Part p k = placed p (required part k) ∷ []
role_uses role.Factor p k = placed p (required part k) ∷ []
role_uses role.Compared p k = []
role_uses role.Argument p k = []

-- a name alone, at its token
abbrev pub name_uses : SpecTree → List Variable → Bool → Mention → List PlacedUse
name_uses tree e inside m = map (placed m.place) (term_uses (world_of_tree tree) (domains_of tree e) inside (sense_term (sense_of tree e m.name)))

-- an argument of a domain, at its first token
abbrev pub argument_use : SpecTree → List Variable → ℕ × TermTree → PlacedUse
argument_use tree e a = placed (out-TermTree a.1).place (required (argument (kind_in (world_of_tree tree) a.0)) (kind_of tree e a.1))

-- a read with this many arguments
abbrev pub item_use : SpecTree → Bool → ℕ → ℕ → Use
item_use tree inside number given = of_item inside (option_map (λ item. length item.args) (slice_get (world_of_tree tree).items number)) given

-- a read of the item of this number, at its name, and its arguments
abbrev pub read_uses : SpecTree → List Variable → Bool → ℕ → ℕ → List TermTree → List PlacedUse
read_uses tree e inside p number args =
    placed p (item_use tree inside number (length args))
    ∷ map (argument_use tree e) (zip (args_of (slice_get (world_of_tree tree).items number)) args)

-- what a term itself uses, apart from its parts
abbrev pub shape_uses : SpecTree → List Variable → Bool → TermShape-F TermShape PartTree TermTree → List PlacedUse
shape_uses tree e inside (shape.Named m) = name_uses tree e inside m
shape_uses tree e inside (shape.Call m args) = read_uses tree e inside m.place (sense_item (item_count tree) (sense_of tree e m.name)) args
shape_uses tree e inside s = []

-- what an occurrence of a term uses, apart from its parts
abbrev pub own_uses : SpecTree → List Variable → Role → Bool → TermTree → List PlacedUse
own_uses tree e r inside t =
    role_uses r (out-TermTree t).place (kind_of tree e t) ++ shape_uses tree e inside (out-TermShape (out-TermTree t).shape)

-- what names a domain, at its name
abbrev pub ref_uses : SpecTree → RefTree → List PlacedUse
ref_uses tree ref.Bool = []
ref_uses tree (ref.Named m) = placed m.place (of_domain (kind_in (world_of_tree tree) (domain_of tree (ref.Named m)))) ∷ []

abbrev pub kind_finding : SpecTree → Finding
kind_finding tree = record {
  term = λ e r inside t. wrong_places (own_uses tree e r inside t);
  compared = λ e rel p t u. wrong_places (placed p (required (compared rel (kind_of tree e t)) (kind_of tree e u)) ∷ []);
  variable = λ e x domain. wrong_places (ref_uses tree domain);
}

-- the places at which a use is wrong
unfoldable pub kind_places : SpecTree → List ℕ
kind_places tree =
    flat_map (λ s. flat_map (λ r. wrong_places (ref_uses tree r)) (refs_of s)) tree.declarations ++ places_in_claims (kind_finding tree) tree
