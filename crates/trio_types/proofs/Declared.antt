-- The instants, domains and items of a specification make one without axioms and goals.
use Rattle.std.proofs.Common.{◌≡◌, ℕ, ◌≤◌, Bool, true, false, not, nat_le, List, [], ◌∷◌, ◌++◌, map, drop, refl, ap, arith}
use Rattle.std.specs.List.{list_all, list_any, flat_map}
use Rattle.std.specs.Str.{bytes_eq}
use Rattle.std.proofs.lemmas.Bool.{and_parts, and_from, le-leb, not-true, not_from_false, or_parts}
use Rattle.std.proofs.lemmas.List.{append-nil}
use Rattle.trio_base.specs.Names.{is_name}
use Rattle.trio_types.specs.declared.spec.Which.{Which}
use Rattle.trio_types.specs.declared.spec.Which.TheVariants as which
use Rattle.trio_types.specs.declared.spec.Spec.{Spec}
use Rattle.trio_types.specs.Parts.{Parts, world_of_parts, claims_of, declarations_of}
use Rattle.trio_types.specs.Names.{names_of_domain, declared_names, are_distinct, variables_of}
use Rattle.trio_types.specs.Kinds.{item_uses, is_right, uses}
use Rattle.trio_types.specs.Bounds.{greatest}
use Rattle.trio_types.specs.Nest.{item_nest, nest_of}
use Rattle.trio_types.specs.Limits.{count_of, limit_of, counted}
use Rattle.trio_types.specs.WellFormed.{is_well_formed}
use Rattle.trio_types.specs.Verdict.{parts_of, world_of}
use Rattle.trio_types.proofs.Lists.{all_left}
use Rattle.trio_types.proofs.Specs.{Formed, formed_of, well_formed_from, within_limit}

-- the first of names in a row are distinct where all are
first_distinct : (xs ys : List (List ℕ)) → are_distinct (xs ++ ys) ≡ true → are_distinct xs ≡ true
first_distinct [] ys all = refl
first_distinct (x ∷ xs) ys all =
    let both = and_parts (not (list_any (bytes_eq x) (xs ++ ys))) (are_distinct (xs ++ ys)) all in
    and_from (not (list_any (bytes_eq x) xs)) (are_distinct xs)
    (not_from_false (list_any (bytes_eq x) xs) (not_in xs (not-true (list_any (bytes_eq x) (xs ++ ys)) both.0)))
    (first_distinct xs ys both.1)
  where
    not_in : (zs : List (List ℕ)) → list_any (bytes_eq x) (zs ++ ys) ≡ false → list_any (bytes_eq x) zs ≡ false
    not_in [] none = refl
    not_in (z ∷ zs) none = let p = or_parts (bytes_eq x z) (list_any (bytes_eq x) (zs ++ ys)) none in rw p.0 (not_in zs p.1)

greatest_first : (ms ns : List ℕ) → greatest ms ≤ greatest (ms ++ ns)
greatest_first [] ns = omega arith
greatest_first (m ∷ ms) ns = omega (arith, greatest_first ms ns)

-- the names that are declared, without those of axioms and goals
abbrev names_before : Parts → List (List ℕ)
names_before p = flat_map names_of_domain (drop 1 p.domains) ++ map (λ item. item.name) p.items

-- each count is no greater without axioms and goals
fewer : (p : Parts) → Formed p → (which : Which) → count_of which (declarations_of (world_of_parts p)) ≤ limit_of which
fewer p f which.Items = within_limit p f which.Items
fewer p f which.Cells = within_limit p f which.Cells
fewer p f which.Sizes = within_limit p f which.Sizes
fewer p f which.Bound = omega arith
fewer p f which.Instances = omega arith
fewer p f which.Nest =
    let alone : greatest (map item_nest p.items ++ []) ≡ greatest (map item_nest p.items) = ap greatest (append-nil (map item_nest p.items)) in
    omega (arith, alone, greatest_first (map item_nest p.items) (map (λ a. (nest_of a.formula).plain) (claims_of p)), within_limit p f which.Nest)

all_which : (q : Which → Bool) → ((which : Which) → q which ≡ true) → (ws : List Which) → list_all q ws ≡ true
all_which q each [] = refl
all_which q each (x ∷ xs) = and_from (q x) (list_all q xs) (each x) (all_which q each xs)

pub declared_alone : (p : Parts) → Formed p → Formed (declarations_of (world_of_parts p))
declared_alone p f =
    let d = declarations_of (world_of_parts p) in
    record {
      instants = f.instants;
      bool_first = f.bool_first;
      domains = f.domains;
      items = f.items;
      names = rw (append-nil (declared_names d), append-nil (names_before p))
          (all_left is_name (names_before p) (map (λ a. a.name) (claims_of p)) (all_left is_name (declared_names p) (flat_map (λ a. variables_of a.formula) (claims_of p)) f.names));
      distinct = rw (append-nil (names_before p)) (first_distinct (names_before p) (map (λ a. a.name) (claims_of p)) f.distinct);
      variables = refl;
      kinds = rw (append-nil (flat_map (item_uses (world_of_parts p)) p.items))
          (all_left is_right (flat_map (item_uses (world_of_parts p)) p.items) (flat_map (λ a. uses (world_of_parts p) a.formula []) (claims_of p)) f.kinds);
      many = refl;
      numbers = refl;
      at = refl;
      limits = all_which (λ w. nat_le (count_of w d) (limit_of w)) (λ w. le-leb (count_of w d) (limit_of w) (fewer p f w)) counted;
    }

-- so the declarations of a specification are well formed by themselves
pub declarations_formed : (spec : Spec) → is_well_formed (declarations_of (world_of spec)) ≡ true
declarations_formed spec = well_formed_from (declarations_of (world_of spec)) (declared_alone (parts_of spec) (formed_of (parts_of spec) spec.well_formed))
