-- The texts of formulas that use nothing wrong are spaced.
use Rattle.std.proofs.Common.{◌≡◌, ℕ, ◌+◌, true, false, ◌&&◌, List, [], ◌∷◌, ◌++◌, map, refl, sym, ap, subst, ◌∙◌, flat_map}
use Rattle.std.specs.List.{list_all}
use Rattle.std.proofs.lemmas.Bool.{and_parts, and_from}
use Rattle.std.proofs.lemmas.List.{length_push}
use Rattle.std.proofs.lemmas.List.Folds.{list_all-append}
use Rattle.trio_base.specs.Names.{is_name}
use Rattle.trio_base.specs.declared.operators.Rel.{Rel}
use Rattle.trio_base.specs.declared.operators.OneOp.{OneOp}
use Rattle.trio_base.specs.declared.operators.FarOp.{FarOp}
use Rattle.trio_base.specs.declared.operators.PairOp.{PairOp}
use Rattle.trio_text.specs.declared.lexeme.Lexeme.TheVariants as lexeme
use Rattle.trio_text.specs.declared.token.Reserved.{Reserved}
use Rattle.trio_text.specs.declared.token.Reserved.TheVariants as word
use Rattle.trio_text.specs.declared.token.Symbol.{Symbol}
use Rattle.trio_text.specs.declared.token.Symbol.TheVariants as symbol
use Rattle.trio_syntax.specs.Words.{rel_sign}
use Rattle.trio_types.specs.declared.formula.Term.{Term}
use Rattle.trio_types.specs.declared.formula.Formula.{Formula}
use Rattle.trio_types.specs.declared.formula.Formula.TheVariants as formula
use Rattle.trio_types.specs.declared.formula.Formula.TheOpen.{Formula-F}
use Rattle.trio_types.specs.declared.formula.Formula.TheOpen as open_formula
use Rattle.trio_types.specs.declared.formula.Formula.TheFolds.{map-Formula, ind-Formula}
use Rattle.trio_types.specs.declared.formula.Formula.TheViews.{roll-Formula}
use Rattle.trio_types.specs.Parts.{Parts, world_of_parts}
use Rattle.trio_types.specs.Kinds.{of_domain, required, alone, compared, distance, is_right, kind_of_term, kind_in, term_uses, uses}
use Rattle.trio_types.specs.Shape.{numbers_in, numbers_of}
use Rattle.trio_types.specs.Names.{variables_of}
use Rattle.trio_types.proofs.Lists.{all_left, all_right}
use Rattle.trio_types.proofs.Specs.{Formed, inside_from_kind}
use Rattle.trio_types.proofs.KindsAt.{uses-Lone, uses-Compare, uses-Not, uses-And, uses-Or, uses-Implies, uses-Iff, uses-All, uses-Ex, uses-One, uses-Far, uses-Pair}
use Rattle.trio_types.proofs.ShapeAt.{numbers_of-Lone, numbers_of-Compare, numbers_of-Not, numbers_of-And, numbers_of-Or, numbers_of-Implies, numbers_of-Iff, numbers_of-All, numbers_of-Ex, numbers_of-One, numbers_of-Far, numbers_of-Pair}
use Rattle.trio_types.proofs.NamesAt.{variables_of-Not, variables_of-And, variables_of-Or, variables_of-Implies, variables_of-Iff, variables_of-All, variables_of-Ex, variables_of-One, variables_of-Far, variables_of-Pair}
use Rattle.trio_print.specs.Pieces.{Piece, token, blank}
use Rattle.trio_print.specs.Canonical.{FormulaText, ref_pieces, spaced, comma, in_round, term_plain, many_text, quantified_text, formula_text, text_of_formula}
use Rattle.trio_print.proofs.Spaced.{are_spaced, first_of, spaced_blank}
use Rattle.trio_print.proofs.SpacedTexts.{starts_apart, after_sign, one_token, round_spaced, blanks_between, comma_between, symbols_spaced}
use Rattle.trio_print.proofs.PrintedNames.{ref_token}
use Rattle.trio_print.proofs.SpacedTerms.{is_small, Scope, term_spaced}
use Rattle.trio_print.proofs.TextsAt.{text_of_formula-Lone, text_of_formula-Compare, text_of_formula-Not, text_of_formula-And, text_of_formula-Or, text_of_formula-Implies, text_of_formula-Iff, text_of_formula-All, text_of_formula-Ex, text_of_formula-One, text_of_formula-Far, text_of_formula-Pair}

-- A formula's texts under these names are spaced, and as a group it may stand behind any sign.
pub record SpacedFormula (t : FormulaText) (names : List (List ℕ)) : Type 0 where
  pub plain : are_spaced (t.plain names) ≡ true
  pub grouped : are_spaced (t.grouped names) ≡ true
  pub group_apart : starts_apart (first_of (t.grouped names)) ≡ true

-- what a formula in this scope uses is right, its numbers are small, and its variables' names are names
record Stands (p : Parts) (x : Formula) (vs : List ℕ) : Type 0 where
  right : list_all is_right (uses (world_of_parts p) x vs) ≡ true
  small : list_all is_small (numbers_of x) ≡ true
  named : list_all is_name (variables_of x) ≡ true

-- what is claimed of each formula
SpacedAt : Parts → Formula → Type 0
SpacedAt p x = (vs : List ℕ) (names : List (List ℕ)) → Scope vs names → Stands p x vs → SpacedFormula (text_of_formula p x) names

abbrev Part : Parts → Type 0
Part p = (x : Formula) × SpacedAt p x

at_variant : (p : Parts) (x : Formula) (t : FormulaText) (names : List (List ℕ)) → text_of_formula p x ≡ t → SpacedFormula t names → SpacedFormula (text_of_formula p x) names
at_variant p x t names text is = subst (λ (u : FormulaText). SpacedFormula u names) (sym text) is

-- ---- what stands of a formula's parts

-- what stands of the one part that a formula has the uses, numbers and names of
same_stands : (p : Parts) (whole x : Formula) (vs : List ℕ) → Stands p whole vs → uses (world_of_parts p) whole vs ≡ uses (world_of_parts p) x vs →
    numbers_of whole ≡ numbers_of x → variables_of whole ≡ variables_of x → Stands p x vs
same_stands p whole x vs stands u n v = record {
  right = sym (ap (list_all is_right) u) ∙ stands.right;
  small = sym (ap (list_all is_small) n) ∙ stands.small;
  named = sym (ap (list_all is_name) v) ∙ stands.named;
}

two_stand : (p : Parts) (whole x y : Formula) (vs : List ℕ) → Stands p whole vs → uses (world_of_parts p) whole vs ≡ uses (world_of_parts p) x vs ++ uses (world_of_parts p) y vs →
    numbers_of whole ≡ numbers_of x ++ numbers_of y → variables_of whole ≡ variables_of x ++ variables_of y → Stands p x vs × Stands p y vs
two_stand p whole x y vs stands u n v =
    let w = world_of_parts p in
    let right = sym (ap (list_all is_right) u) ∙ stands.right in
    let small = sym (ap (list_all is_small) n) ∙ stands.small in
    let named = sym (ap (list_all is_name) v) ∙ stands.named in (
      record {
        right = all_left is_right (uses w x vs) (uses w y vs) right;
        small = all_left is_small (numbers_of x) (numbers_of y) small;
        named = all_left is_name (variables_of x) (variables_of y) named;
      },
      record {
        right = all_right is_right (uses w x vs) (uses w y vs) right;
        small = all_right is_small (numbers_of x) (numbers_of y) small;
        named = all_right is_name (variables_of x) (variables_of y) named;
      },
    )

-- each group of a row
groups_spaced : (p : Parts) (vs : List ℕ) (names : List (List ℕ)) → Scope vs names → (xs : List (Part p)) →
    list_all is_right (flat_map (λ x. uses (world_of_parts p) x vs) (map (λ e. e.0) xs)) ≡ true → list_all is_small (flat_map numbers_of (map (λ e. e.0) xs)) ≡ true →
    list_all is_name (flat_map variables_of (map (λ e. e.0) xs)) ≡ true →
    list_all are_spaced (map (λ (t : FormulaText). t.grouped names) (map (text_of_formula p) (map (λ e. e.0) xs))) ≡ true
unfolding SpacedAt
groups_spaced p vs names scope [] right small named = refl
groups_spaced p vs names scope (x ∷ xs) right small named =
    let w = world_of_parts p in
    let rest : List Formula = map (λ e. e.0) xs in
    let own = x.1 vs names scope (record {
      right = all_left is_right (uses w x.0 vs) (flat_map (λ y. uses w y vs) rest) right;
      small = all_left is_small (numbers_of x.0) (flat_map numbers_of rest) small;
      named = all_left is_name (variables_of x.0) (flat_map variables_of rest) named;
    }) in
    and_from (are_spaced ((text_of_formula p x.0).grouped names)) (list_all are_spaced (map (λ (t : FormulaText). t.grouped names) (map (text_of_formula p) rest))) own.grouped
    (groups_spaced p vs names scope xs (all_right is_right (uses w x.0 vs) (flat_map (λ y. uses w y vs) rest) right)
    (all_right is_small (numbers_of x.0) (flat_map numbers_of rest) small) (all_right is_name (variables_of x.0) (flat_map variables_of rest) named))

-- ---- each form

spaced_lone : (p : Parts) → Formed p → (x : Term) → SpacedAt p (formula.Lone x)
unfolding SpacedAt
spaced_lone p f x vs names scope stands =
    let w = world_of_parts p in
    let right = and_parts (is_right (required alone (kind_of_term w vs x))) (list_all is_right (term_uses w vs false x)) (sym (ap (list_all is_right) (uses-Lone w x vs)) ∙ stands.right) in
    let text = term_spaced p f x vs names false scope right.1 (sym (ap (list_all is_small) (numbers_of-Lone x)) ∙ stands.small) in
    at_variant p (formula.Lone x) (formula_text p (open_formula.Lone x)) names (text_of_formula-Lone p x)
    (record { plain = text.plain; grouped = text.plain; group_apart = text.alone_apart right.0 })

spaced_comparison : (p : Parts) → Formed p → (r : Rel) (x y : Term) → SpacedAt p (formula.Compare r x y)
unfolding SpacedAt
spaced_comparison p f r x y vs names scope stands =
    let w = world_of_parts p in
    let right = (and_parts (is_right (required (compared r (kind_of_term w vs x)) (kind_of_term w vs y))) (list_all is_right (term_uses w vs false x ++ term_uses w vs false y))
    (sym (ap (list_all is_right) (uses-Compare w r x y vs)) ∙ stands.right)).1 in
    let small = sym (ap (list_all is_small) (numbers_of-Compare r x y)) ∙ stands.small in
    let first = term_spaced p f x vs names false scope (all_left is_right (term_uses w vs false x) (term_uses w vs false y) right) (all_left is_small (numbers_in x) (numbers_in y) small) in
    let second = term_spaced p f y vs names false scope (all_right is_right (term_uses w vs false x) (term_uses w vs false y) right) (all_right is_small (numbers_in x) (numbers_in y) small) in
    let text = blanks_between (rel_sign r) (term_plain p x names) (term_plain p y names) first.plain second.plain in
    at_variant p (formula.Compare r x y) (formula_text p (open_formula.Compare r x y)) names (text_of_formula-Compare p r x y)
    (record { plain = text; grouped = round_spaced (term_plain p x names ++ spaced (rel_sign r) ++ term_plain p y names) text; group_apart = refl })

spaced_negation : (p : Parts) (x : Formula) → SpacedAt p x → SpacedAt p (formula.Not x)
unfolding SpacedAt
spaced_negation p x each vs names scope stands =
    let group = each vs names scope (same_stands p (formula.Not x) x vs stands (uses-Not (world_of_parts p) x vs) (numbers_of-Not x) (variables_of-Not x)) in
    let text = after_sign symbol.Not ((text_of_formula p x).grouped names) group.grouped group.group_apart in
    at_variant p (formula.Not x) (formula_text p (open_formula.Not (text_of_formula p x))) names (text_of_formula-Not p x)
    (record { plain = text; grouped = round_spaced (token (lexeme.Sign symbol.Not) ∷ (text_of_formula p x).grouped names) text; group_apart = refl })

spaced_row : (p : Parts) (s : Symbol) (whole : Formula) (xs : List (Part p)) (vs : List ℕ) (names : List (List ℕ)) → Scope vs names → Stands p whole vs →
    uses (world_of_parts p) whole vs ≡ flat_map (λ x. uses (world_of_parts p) x vs) (map (λ e. e.0) xs) → numbers_of whole ≡ flat_map numbers_of (map (λ e. e.0) xs) →
    variables_of whole ≡ flat_map variables_of (map (λ e. e.0) xs) → are_spaced (many_text s (map (text_of_formula p) (map (λ e. e.0) xs)) names) ≡ true
spaced_row p s whole xs vs names scope stands u n v =
    let texts : List FormulaText = map (text_of_formula p) (map (λ e. e.0) xs) in
    symbols_spaced s (map (λ (t : FormulaText). t.grouped names) texts)
    (groups_spaced p vs names scope xs (sym (ap (list_all is_right) u) ∙ stands.right) (sym (ap (list_all is_small) n) ∙ stands.small) (sym (ap (list_all is_name) v) ∙ stands.named))

spaced_and : (p : Parts) (xs : List (Part p)) → SpacedAt p (formula.And (map (λ e. e.0) xs))
unfolding SpacedAt
spaced_and p xs vs names scope stands =
    let parts : List Formula = map (λ e. e.0) xs in
    let texts : List FormulaText = map (text_of_formula p) parts in
    let text = spaced_row p symbol.And (formula.And parts) xs vs names scope stands (uses-And (world_of_parts p) parts vs) (numbers_of-And parts) (variables_of-And parts) in
    at_variant p (formula.And parts) (formula_text p (open_formula.And texts)) names (text_of_formula-And p parts)
    (record { plain = text; grouped = round_spaced (many_text symbol.And texts names) text; group_apart = refl })

spaced_or : (p : Parts) (xs : List (Part p)) → SpacedAt p (formula.Or (map (λ e. e.0) xs))
unfolding SpacedAt
spaced_or p xs vs names scope stands =
    let parts : List Formula = map (λ e. e.0) xs in
    let texts : List FormulaText = map (text_of_formula p) parts in
    let text = spaced_row p symbol.Or (formula.Or parts) xs vs names scope stands (uses-Or (world_of_parts p) parts vs) (numbers_of-Or parts) (variables_of-Or parts) in
    at_variant p (formula.Or parts) (formula_text p (open_formula.Or texts)) names (text_of_formula-Or p parts)
    (record { plain = text; grouped = round_spaced (many_text symbol.Or texts names) text; group_apart = refl })

-- two groups with an arrow between them
arrow_spaced : (p : Parts) (s : Symbol) (whole x y : Formula) → SpacedAt p x → SpacedAt p y → (vs : List ℕ) (names : List (List ℕ)) → Scope vs names → Stands p whole vs →
    uses (world_of_parts p) whole vs ≡ uses (world_of_parts p) x vs ++ uses (world_of_parts p) y vs → numbers_of whole ≡ numbers_of x ++ numbers_of y →
    variables_of whole ≡ variables_of x ++ variables_of y →
    are_spaced ((text_of_formula p x).grouped names ++ spaced s ++ (text_of_formula p y).grouped names) ≡ true
unfolding SpacedAt
arrow_spaced p s whole x y left right vs names scope stands u n v =
    let two = two_stand p whole x y vs stands u n v in
    blanks_between s ((text_of_formula p x).grouped names) ((text_of_formula p y).grouped names) (left vs names scope two.0).grouped (right vs names scope two.1).grouped

spaced_implication : (p : Parts) (x y : Formula) → SpacedAt p x → SpacedAt p y → SpacedAt p (formula.Implies x y)
unfolding SpacedAt
spaced_implication p x y left right vs names scope stands =
    let text = arrow_spaced p symbol.Arrow (formula.Implies x y) x y left right vs names scope stands (uses-Implies (world_of_parts p) x y vs) (numbers_of-Implies x y) (variables_of-Implies x y) in
    at_variant p (formula.Implies x y) (formula_text p (open_formula.Implies (text_of_formula p x) (text_of_formula p y))) names (text_of_formula-Implies p x y)
    (record { plain = text; grouped = round_spaced ((text_of_formula p x).grouped names ++ spaced symbol.Arrow ++ (text_of_formula p y).grouped names) text; group_apart = refl })

spaced_equivalence : (p : Parts) (x y : Formula) → SpacedAt p x → SpacedAt p y → SpacedAt p (formula.Iff x y)
unfolding SpacedAt
spaced_equivalence p x y left right vs names scope stands =
    let text = arrow_spaced p symbol.Both (formula.Iff x y) x y left right vs names scope stands (uses-Iff (world_of_parts p) x y vs) (numbers_of-Iff x y) (variables_of-Iff x y) in
    at_variant p (formula.Iff x y) (formula_text p (open_formula.Iff (text_of_formula p x) (text_of_formula p y))) names (text_of_formula-Iff p x y)
    (record { plain = text; grouped = round_spaced ((text_of_formula p x).grouped names ++ spaced symbol.Both ++ (text_of_formula p y).grouped names) text; group_apart = refl })

-- one variable more
more_names : (vs : List ℕ) (names : List (List ℕ)) (d : ℕ) (name : List ℕ) → Scope vs names → is_name name ≡ true → Scope (vs ++ d ∷ []) (names ++ name ∷ [])
more_names vs names d name scope named = record {
  as_many = length_push vs d ∙ ap (λ n. n + 1) scope.as_many ∙ sym (length_push names name);
  are_names = list_all-append is_name names (name ∷ []) ∙ and_from (list_all is_name names) (is_name name && true) scope.are_names (and_from (is_name name) true named refl);
}

-- a quantifier, by what its body is
quantified : (p : Parts) → Formed p → (q : Reserved) (whole : Formula) (name : List ℕ) (d : ℕ) (x : Formula) → SpacedAt p x → (vs : List ℕ) (names : List (List ℕ)) →
    Scope vs names → Stands p whole vs → uses (world_of_parts p) whole vs ≡ of_domain (kind_in (world_of_parts p) d) ∷ uses (world_of_parts p) x (vs ++ d ∷ []) →
    numbers_of whole ≡ numbers_of x → variables_of whole ≡ name ∷ variables_of x → are_spaced (quantified_text p q name d (text_of_formula p x) names) ≡ true
unfolding SpacedAt
quantified p f q whole name d x each vs names scope stands u n v =
    let w = world_of_parts p in
    let right = and_parts (is_right (of_domain (kind_in w d))) (list_all is_right (uses w x (vs ++ d ∷ []))) (sym (ap (list_all is_right) u) ∙ stands.right) in
    let named = and_parts (is_name name) (list_all is_name (variables_of x)) (sym (ap (list_all is_name) v) ∙ stands.named) in
    let domain = inside_from_kind w d right.0 in
    let one = ref_token p f d domain.0 domain.1 in
    let body = each (vs ++ d ∷ []) (names ++ name ∷ []) (more_names vs names d name scope named.0)
    (record { right = right.1; small = sym (ap (list_all is_small) n) ∙ stands.small; named = named.1 }) in
    let round : List Piece = in_round ((text_of_formula p x).plain (names ++ name ∷ [])) in
    let behind : are_spaced (ref_pieces p d ++ blank ∷ round) ≡ true =
    spaced_blank (ref_pieces p d) round (ap are_spaced one.1 ∙ one_token one.0 one.2) (round_spaced ((text_of_formula p x).plain (names ++ name ∷ [])) body.plain) in
    and_from (is_name name) (are_spaced (ref_pieces p d ++ blank ∷ round)) named.0 behind

spaced_all : (p : Parts) → Formed p → (name : List ℕ) (d : ℕ) (x : Formula) → SpacedAt p x → SpacedAt p (formula.All name d x)
unfolding SpacedAt
spaced_all p f name d x each vs names scope stands =
    let text = quantified p f word.All (formula.All name d x) name d x each vs names scope stands (uses-All (world_of_parts p) name d x vs) (numbers_of-All name d x) (variables_of-All name d x) in
    at_variant p (formula.All name d x) (formula_text p (open_formula.All name d (text_of_formula p x))) names (text_of_formula-All p name d x)
    (record { plain = text; grouped = text; group_apart = refl })

spaced_ex : (p : Parts) → Formed p → (name : List ℕ) (d : ℕ) (x : Formula) → SpacedAt p x → SpacedAt p (formula.Ex name d x)
unfolding SpacedAt
spaced_ex p f name d x each vs names scope stands =
    let text = quantified p f word.Ex (formula.Ex name d x) name d x each vs names scope stands (uses-Ex (world_of_parts p) name d x vs) (numbers_of-Ex name d x) (variables_of-Ex name d x) in
    at_variant p (formula.Ex name d x) (formula_text p (open_formula.Ex name d (text_of_formula p x))) names (text_of_formula-Ex p name d x)
    (record { plain = text; grouped = text; group_apart = refl })

spaced_one : (p : Parts) (o : OneOp) (x : Formula) → SpacedAt p x → SpacedAt p (formula.One o x)
unfolding SpacedAt
spaced_one p o x each vs names scope stands =
    let part = each vs names scope (same_stands p (formula.One o x) x vs stands (uses-One (world_of_parts p) o x vs) (numbers_of-One o x) (variables_of-One o x)) in
    let text = round_spaced ((text_of_formula p x).plain names) part.plain in
    at_variant p (formula.One o x) (formula_text p (open_formula.One o (text_of_formula p x))) names (text_of_formula-One p o x)
    (record { plain = text; grouped = text; group_apart = refl })

spaced_far : (p : Parts) → Formed p → (o : FarOp) (x : Formula) (t : Term) → SpacedAt p x → SpacedAt p (formula.Far o x t)
unfolding SpacedAt
spaced_far p f o x t each vs names scope stands =
    let w = world_of_parts p in
    let right = (and_parts (is_right (required distance (kind_of_term w vs t))) (list_all is_right (uses w x vs ++ term_uses w vs true t)) (sym (ap (list_all is_right) (uses-Far w o x t vs)) ∙ stands.right)).1 in
    let small = sym (ap (list_all is_small) (numbers_of-Far o x t)) ∙ stands.small in
    let part = each vs names scope (record {
      right = all_left is_right (uses w x vs) (term_uses w vs true t) right;
      small = all_left is_small (numbers_of x) (numbers_in t) small;
      named = sym (ap (list_all is_name) (variables_of-Far o x t)) ∙ stands.named;
    }) in
    let far = term_spaced p f t vs names true scope (all_right is_right (uses w x vs) (term_uses w vs true t) right) (all_right is_small (numbers_of x) (numbers_in t) small) in
    let inner : List Piece = (text_of_formula p x).plain names ++ comma ++ term_plain p t names in
    let text = round_spaced inner (comma_between ((text_of_formula p x).plain names) (term_plain p t names) part.plain far.plain) in
    at_variant p (formula.Far o x t) (formula_text p (open_formula.Far o (text_of_formula p x) t)) names (text_of_formula-Far p o x t)
    (record { plain = text; grouped = text; group_apart = refl })

spaced_pair : (p : Parts) (o : PairOp) (x y : Formula) → SpacedAt p x → SpacedAt p y → SpacedAt p (formula.Pair o x y)
unfolding SpacedAt
spaced_pair p o x y left right vs names scope stands =
    let two = two_stand p (formula.Pair o x y) x y vs stands (uses-Pair (world_of_parts p) o x y vs) (numbers_of-Pair o x y) (variables_of-Pair o x y) in
    let first : List Piece = (text_of_formula p x).plain names in
    let second : List Piece = (text_of_formula p y).plain names in
    let text = round_spaced (first ++ comma ++ second) (comma_between first second (left vs names scope two.0).plain (right vs names scope two.1).plain) in
    at_variant p (formula.Pair o x y) (formula_text p (open_formula.Pair o (text_of_formula p x) (text_of_formula p y))) names (text_of_formula-Pair p o x y)
    (record { plain = text; grouped = text; group_apart = refl })

-- ---- by induction over formulas

all_formulas : (p : Parts) → Formed p → (x : Formula) → SpacedAt p x
all_formulas p f = ind-Formula (SpacedAt p) (λ x y is. subst (λ z. SpacedAt p (roll-Formula z)) is (each y))
  where
    each : (y : Formula-F (Part p)) → SpacedAt p (roll-Formula (map-Formula (Part p) Formula (λ e. e.0) y))
    each (open_formula.Lone x) = subst (SpacedAt p) (sym (formula.rolls-Lone x)) (spaced_lone p f x)
    each (open_formula.Compare r x y) = subst (SpacedAt p) (sym (formula.rolls-Compare r x y)) (spaced_comparison p f r x y)
    each (open_formula.Not x) = subst (SpacedAt p) (sym (formula.rolls-Not x.0)) (spaced_negation p x.0 x.1)
    each (open_formula.And xs) = subst (SpacedAt p) (sym (formula.rolls-And (map (λ e. e.0) xs))) (spaced_and p xs)
    each (open_formula.Or xs) = subst (SpacedAt p) (sym (formula.rolls-Or (map (λ e. e.0) xs))) (spaced_or p xs)
    each (open_formula.Implies x y) = subst (SpacedAt p) (sym (formula.rolls-Implies x.0 y.0)) (spaced_implication p x.0 y.0 x.1 y.1)
    each (open_formula.Iff x y) = subst (SpacedAt p) (sym (formula.rolls-Iff x.0 y.0)) (spaced_equivalence p x.0 y.0 x.1 y.1)
    each (open_formula.All name d x) = subst (SpacedAt p) (sym (formula.rolls-All name d x.0)) (spaced_all p f name d x.0 x.1)
    each (open_formula.Ex name d x) = subst (SpacedAt p) (sym (formula.rolls-Ex name d x.0)) (spaced_ex p f name d x.0 x.1)
    each (open_formula.One o x) = subst (SpacedAt p) (sym (formula.rolls-One o x.0)) (spaced_one p o x.0 x.1)
    each (open_formula.Far o x t) = subst (SpacedAt p) (sym (formula.rolls-Far o x.0 t)) (spaced_far p f o x.0 t x.1)
    each (open_formula.Pair o x y) = subst (SpacedAt p) (sym (formula.rolls-Pair o x.0 y.0)) (spaced_pair p o x.0 y.0 x.1 y.1)

pub formula_spaced : (p : Parts) → Formed p → (x : Formula) → list_all is_right (uses (world_of_parts p) x []) ≡ true → list_all is_small (numbers_of x) ≡ true →
    list_all is_name (variables_of x) ≡ true → are_spaced ((text_of_formula p x).plain []) ≡ true
unfolding SpacedAt
formula_spaced p f x right small named =
    (all_formulas p f x [] [] (record { as_many = refl; are_names = refl }) (record { right = right; small = small; named = named })).plain
