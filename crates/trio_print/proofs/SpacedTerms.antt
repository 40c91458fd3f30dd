-- The texts of terms that use nothing wrong are spaced.
use Rattle.std.proofs.Common.{◌≡◌, ℕ, ◌<◌, Bool, true, not, nat_le, List, [], ◌∷◌, ◌++◌, map, length, get_or, Option, None, Some, slice_get, refl, sym, ap, subst, ◌∙◌, arith, flat_map}
use denote.Hole.Holds.{Such}
use Rattle.std.specs.List.{list_all}
use Rattle.std.specs.Option.{option_map}
use Rattle.std.proofs.lemmas.Bool.{false≢true, and_parts, and_from}
use Rattle.std.proofs.lemmas.Option.{slice_get_within, slice_get-get_or}
use Rattle.trio_base.specs.Names.{is_name}
use Rattle.trio_base.specs.declared.limits.TheConstants.{GREATEST_NUMBER}
use Rattle.trio_text.specs.declared.lexeme.Lexeme.{Lexeme}
use Rattle.trio_text.specs.declared.lexeme.Lexeme.TheVariants as lexeme
use Rattle.trio_text.specs.declared.token.Symbol.TheVariants as symbol
use Rattle.trio_types.specs.declared.spec.Item.{Item}
use Rattle.trio_types.specs.declared.formula.SignedTerm.{SignedTerm, SignedTerm-F, out-SignedTerm, roll-SignedTerm, out-roll-SignedTerm, map-SignedTerm}
use Rattle.trio_types.specs.declared.formula.Term.{Term}
use Rattle.trio_types.specs.declared.formula.Term.TheVariants as term
use Rattle.trio_types.specs.declared.formula.Term.TheOpen.{Term-F}
use Rattle.trio_types.specs.declared.formula.Term.TheOpen as open_term
use Rattle.trio_types.specs.declared.formula.Term.TheFolds.{claims, map-Term, ind-Term}
use Rattle.trio_types.specs.declared.formula.Term.TheViews.{roll-Term}
use Rattle.trio_types.specs.declared.formula.Term.TheBlock.{the_family, member-Term, member-SignedTerm}
use Rattle.trio_types.specs.World.{World}
use Rattle.trio_types.specs.Parts.{Parts, world_of_parts}
use Rattle.trio_types.specs.Kinds.{Kind, number, Gathered, gathered, gather_term, term_uses, kind_of_term, has_kind, kind_of_constant, required, of_item, alone, part, is_right, is_arity, args_of, argument_uses}
use Rattle.trio_types.specs.Shape.{numbers_in}
use Rattle.trio_types.proofs.Lists.{each_of, all_left, all_right}
use Rattle.trio_types.proofs.KindsAt.{gathered-Number, gathered-Value, gathered-Var, gathered-Read, gathered-Sum, gathered-Times}
use Rattle.trio_types.proofs.ShapeAt.{numbers_in-Number, numbers_in-Read, numbers_in-Sum, numbers_in-Times}
use Rattle.trio_types.proofs.Specs.{Formed}
use Rattle.trio_print.specs.Pieces.{Piece, token}
use Rattle.trio_print.specs.Canonical.{TermText, PartText, same_text, number_, item_name, term_text, text_of_term, sum_text, product_text}
use Rattle.trio_print.specs.Printing.{text_of_part}
use Rattle.trio_print.proofs.Spaced.{is_lexeme, are_spaced, first_of}
use Rattle.trio_print.proofs.SpacedTexts.{starts_apart, one_token, square_spaced, blanks_between, named_listed, part_stands, sum_spaced}
use Rattle.trio_print.proofs.PrintedNames.{item_is_named, constant_token}
use Rattle.trio_print.proofs.TextsAt.{text_of_term-Number, text_of_term-Value, text_of_term-Var, text_of_term-Read, text_of_term-Sum, text_of_term-Times}

-- a number that a text may hold
abbrev pub is_small : ℕ → Bool
is_small n = nat_le n GREATEST_NUMBER

-- each variable in scope has a name
pub record Scope (variables : List ℕ) (names : List (List ℕ)) : Type 0 where
  pub as_many : length variables ≡ length names
  pub are_names : list_all is_name names ≡ true

-- A term's texts under these names are spaced. What stands behind a sign is no sign by which it grows; so is a term that is a formula alone.
pub record SpacedTerm (t : TermText) (k : Kind) (names : List (List ℕ)) : Type 0 where
  pub plain : are_spaced (t.plain names) ≡ true
  pub as_part : are_spaced (t.as_part names) ≡ true
  pub as_factor : are_spaced (t.as_factor names) ≡ true
  pub part_apart : starts_apart (first_of (t.as_part names)) ≡ true
  pub alone_apart : is_right (required alone k) ≡ true → starts_apart (first_of (t.plain names)) ≡ true

-- a text of one token
leaf : (x : Lexeme) (k : Kind) (names : List (List ℕ)) → is_lexeme x ≡ true → starts_apart (Some (token x)) ≡ true →
    SpacedTerm (same_text (λ names. token x ∷ [])) k names
leaf x k names is apart =
    let one = one_token x is in
    record { plain = one; as_part = one; as_factor = one; part_apart = apart; alone_apart = λ fits. apart }

-- what is claimed of each term
SpacedAt : Parts → Term → Type 0
SpacedAt p x = (vs : List ℕ) (names : List (List ℕ)) (is_inside : Bool) → Scope vs names →
    list_all is_right (term_uses (world_of_parts p) vs is_inside x) ≡ true → list_all is_small (numbers_in x) ≡ true →
    SpacedTerm (text_of_term p x) (kind_of_term (world_of_parts p) vs x) names

PartSpacedAt : Parts → SignedTerm → Type 0
PartSpacedAt p s = SpacedAt p (out-SignedTerm s).term

-- by what a term's text and its uses are
at_variant : (p : Parts) (x : Term) (t : TermText) (vs : List ℕ) (names : List (List ℕ)) (g : Gathered) → text_of_term p x ≡ t → gathered (world_of_parts p) vs x ≡ g →
    SpacedTerm t g.kind names → SpacedTerm (text_of_term p x) (kind_of_term (world_of_parts p) vs x) names
at_variant p x t vs names g text uses is =
    subst (λ (h : Gathered). SpacedTerm (text_of_term p x) h.kind names) (sym uses) (subst (λ (u : TermText). SpacedTerm u g.kind names) (sym text) is)

abbrev SomeTerm : Parts → Type 0
SomeTerm p = Such the_family (claims (SpacedAt p) (PartSpacedAt p)) member-Term

abbrev SomePart : Parts → Type 0
SomePart p = Such the_family (claims (SpacedAt p) (PartSpacedAt p)) member-SignedTerm

-- ---- leaves

spaced_number : (p : Parts) (n : ℕ) → SpacedAt p (term.Number n)
unfolding SpacedAt
spaced_number p n vs names is_inside scope right small =
    let is : nat_le n GREATEST_NUMBER ≡ true = (and_parts (is_small n) true (sym (ap (list_all is_small) (numbers_in-Number n)) ∙ small)).0 in
    at_variant p (term.Number n) (term_text p (open_term.Number n)) vs names (gather_term (world_of_parts p) vs (open_term.Number n)) (text_of_term-Number p n) (gathered-Number (world_of_parts p) vs n)
    (leaf (lexeme.Number n) number names is refl)

spaced_value : (p : Parts) → Formed p → (d v : ℕ) → SpacedAt p (term.Value d v)
unfolding SpacedAt
spaced_value p f d v vs names is_inside scope right small =
    let w = world_of_parts p in
    let uses = ap (λ (g : Gathered). list_all is_right (g.uses is_inside)) (gathered-Value w vs d v) in
    let one = constant_token p f d v (and_parts (has_kind (kind_of_constant w d v)) true (sym uses ∙ right)).0 in
    at_variant p (term.Value d v) (term_text p (open_term.Value d v)) vs names (gather_term w vs (open_term.Value d v)) (text_of_term-Value p d v) (gathered-Value w vs d v)
    (subst (λ (x : List Piece). SpacedTerm (same_text (λ names. x)) (kind_of_constant w d v) names) (sym one.1) (leaf one.0 (kind_of_constant w d v) names one.2 one.3))

spaced_variable : (p : Parts) (level : ℕ) → SpacedAt p (term.Var level)
unfolding SpacedAt
spaced_variable p level vs names is_inside scope right small =
    at_variant p (term.Var level) (term_text p (open_term.Var level)) vs names (gather_term w vs (open_term.Var level)) (text_of_term-Var p level) (gathered-Var w vs level)
    (named (slice_get vs level) refl)
  where
    w : World
    w = world_of_parts p

    named : (o : Option ℕ) → slice_get vs level ≡ o → SpacedTerm (term_text p (open_term.Var level)) (gather_term (world_of_parts p) vs (open_term.Var level)).kind names
    named None is =
        let uses = ap (λ (g : Gathered). list_all is_right (g.uses is_inside)) (gathered-Var (world_of_parts p) vs level) in
        let wrong = sym uses ∙ right in
        absurd (false≢true (rw is at wrong))
    named (Some d) is =
        let inside : level < length names = omega (arith, scope.as_many, slice_get_within vs level d is) in
        let name = each_of is_name names scope.are_names level (get_or names level []) (slice_get-get_or names level [] inside) in
        let one = one_token (lexeme.Name (get_or names level [])) name in
        record { plain = one; as_part = one; as_factor = one; part_apart = refl; alone_apart = λ fits. refl }

-- ---- reads

arguments_spaced : (p : Parts) (vs : List ℕ) (names : List (List ℕ)) → Scope vs names → (xs : List (SomeTerm p)) →
    list_all is_right (flat_map (λ (g : Gathered). g.uses true) (map (gathered (world_of_parts p) vs) (map (λ x. x.0) xs))) ≡ true →
    list_all is_small (flat_map numbers_in (map (λ x. x.0) xs)) ≡ true →
    list_all are_spaced (map (λ (t : TermText). t.plain names) (map (text_of_term p) (map (λ x. x.0) xs))) ≡ true
unfolding SpacedAt
arguments_spaced p vs names scope [] right small = refl
arguments_spaced p vs names scope (x ∷ xs) right small =
    let w = world_of_parts p in
    let rest : List Gathered = map (gathered w vs) (map (λ x. x.0) xs) in
    let own = x.1 vs names true scope (all_left is_right (term_uses w vs true x.0) (flat_map (λ (g : Gathered). g.uses true) rest) right)
    (all_left is_small (numbers_in x.0) (flat_map numbers_in (map (λ x. x.0) xs)) small) in
    and_from (are_spaced ((text_of_term p x.0).plain names)) (list_all are_spaced (map (λ (t : TermText). t.plain names) (map (text_of_term p) (map (λ x. x.0) xs)))) own.plain
    (arguments_spaced p vs names scope xs (all_right is_right (term_uses w vs true x.0) (flat_map (λ (g : Gathered). g.uses true) rest) right)
    (all_right is_small (numbers_in x.0) (flat_map numbers_in (map (λ x. x.0) xs)) small))

-- a read that is right is of an item
item_read : (p : Parts) (n : ℕ) (is_inside : Bool) (given : ℕ) → is_right (of_item is_inside (option_map (λ (item : Item). length item.args) (slice_get p.items n)) given) ≡ true →
    (item : Item) × (slice_get p.items n ≡ Some item)
item_read p n is_inside given right = there (slice_get p.items n) refl
  where
    arity : is_arity (option_map (λ (item : Item). length item.args) (slice_get p.items n)) given ≡ true
    arity = (and_parts (not is_inside) (is_arity (option_map (λ (item : Item). length item.args) (slice_get p.items n)) given) right).1

    there : (o : Option Item) → slice_get p.items n ≡ o → (item : Item) × (slice_get p.items n ≡ Some item)
    there None is = absurd (false≢true (rw is at arity))
    there (Some item) is = (item, is)

spaced_read : (p : Parts) → Formed p → (n : ℕ) (xs : List (SomeTerm p)) → SpacedAt p (term.Read n (map (λ x. x.0) xs))
unfolding SpacedAt
spaced_read p f n xs vs names is_inside scope right small =
    let w = world_of_parts p in
    let args : List Term = map (λ x. x.0) xs in
    let gs : List Gathered = map (gathered w vs) args in
    let texts : List TermText = map (text_of_term p) args in
    let uses = ap (λ (g : Gathered). list_all is_right (g.uses is_inside)) (gathered-Read w vs n args) in
    let read = and_parts (is_right (of_item is_inside (option_map (λ (item : Item). length item.args) (slice_get p.items n)) (length gs)))
    (list_all is_right (argument_uses w (args_of (slice_get p.items n)) gs ++ flat_map (λ (g : Gathered). g.uses true) gs)) (sym uses ∙ right) in
    let item = item_read p n is_inside (length gs) read.0 in
    let named : is_name (item_name (slice_get p.items n)) ≡ true = rw item.1 (item_is_named p f n item.0 item.1) in
    let inner = all_right is_right (argument_uses w (args_of (slice_get p.items n)) gs) (flat_map (λ (g : Gathered). g.uses true) gs) read.1 in
    let all = arguments_spaced p vs names scope xs inner (sym (ap (list_all is_small) (numbers_in-Read n args)) ∙ small) in
    let text = named_listed (item_name (slice_get p.items n)) (map (λ (t : TermText). t.plain names) texts) named all in
    at_variant p (term.Read n args) (term_text p (open_term.Read n texts)) vs names (gather_term w vs (open_term.Read n gs)) (text_of_term-Read p n args) (gathered-Read w vs n args)
    (record { plain = text; as_part = text; as_factor = text; part_apart = refl; alone_apart = λ fits. refl })

-- ---- sums and products

parts_stand : (p : Parts) (vs : List ℕ) (names : List (List ℕ)) (is_inside : Bool) → Scope vs names → (xs : List (SomePart p)) →
    list_all is_right (flat_map (λ (g : Gathered). g.uses is_inside) (map (λ s. gathered (world_of_parts p) vs (out-SignedTerm s).term) (map (λ x. x.0) xs))) ≡ true →
    list_all is_small (flat_map (λ s. numbers_in (out-SignedTerm s).term) (map (λ x. x.0) xs)) ≡ true →
    list_all (part_stands names) (map (text_of_part p) (map (λ x. x.0) xs)) ≡ true
unfolding SpacedAt PartSpacedAt
parts_stand p vs names is_inside scope [] right small = refl
parts_stand p vs names is_inside scope (x ∷ xs) right small =
    let w = world_of_parts p in
    let own_term : Term = (out-SignedTerm x.0).term in
    let rest : List SignedTerm = map (λ x. x.0) xs in
    let gs : List Gathered = map (λ s. gathered w vs (out-SignedTerm s).term) rest in
    let own = x.1 vs names is_inside scope (all_left is_right (term_uses w vs is_inside own_term) (flat_map (λ (g : Gathered). g.uses is_inside) gs) right)
    (all_left is_small (numbers_in own_term) (flat_map (λ s. numbers_in (out-SignedTerm s).term) rest) small) in
    and_from (part_stands names (text_of_part p x.0)) (list_all (part_stands names) (map (text_of_part p) rest))
    (and_from (are_spaced ((text_of_term p own_term).as_part names)) (starts_apart (first_of ((text_of_term p own_term).as_part names))) own.as_part own.part_apart)
    (parts_stand p vs names is_inside scope xs (all_right is_right (term_uses w vs is_inside own_term) (flat_map (λ (g : Gathered). g.uses is_inside) gs) right)
    (all_right is_small (numbers_in own_term) (flat_map (λ s. numbers_in (out-SignedTerm s).term) rest) small))

spaced_sum : (p : Parts) (xs : List (SomePart p)) → SpacedAt p (term.Sum (map (λ x. x.0) xs))
unfolding SpacedAt
spaced_sum p xs vs names is_inside scope right small =
    let w = world_of_parts p in
    let parts : List SignedTerm = map (λ x. x.0) xs in
    let gs : List Gathered = map (λ s. gathered w vs (out-SignedTerm s).term) parts in
    let texts : List PartText = map (text_of_part p) parts in
    let uses = ap (λ (g : Gathered). list_all is_right (g.uses is_inside)) (gathered-Sum w vs parts) in
    let inner = all_right is_right (map (λ (g : Gathered). required part g.kind) gs) (flat_map (λ (g : Gathered). g.uses is_inside) gs) (sym uses ∙ right) in
    let all = parts_stand p vs names is_inside scope xs inner (sym (ap (list_all is_small) (numbers_in-Sum parts)) ∙ small) in
    let text = sum_spaced names texts all in
    let bracketed = square_spaced (sum_text texts names) text in
    at_variant p (term.Sum parts) (term_text p (open_term.Sum texts)) vs names (gather_term w vs (open_term.Sum gs)) (text_of_term-Sum p parts) (gathered-Sum w vs parts)
    (record { plain = text; as_part = bracketed; as_factor = bracketed; part_apart = refl; alone_apart = λ fits. absurd (false≢true fits) })

spaced_product : (p : Parts) (n : ℕ) (x : Term) → SpacedAt p x → SpacedAt p (term.Times n x)
unfolding SpacedAt
spaced_product p n x each vs names is_inside scope right small =
    let w = world_of_parts p in
    let uses = ap (λ (g : Gathered). list_all is_right (g.uses is_inside)) (gathered-Times w vs n x) in
    let inner = (and_parts (is_right (required part (kind_of_term w vs x))) (list_all is_right (term_uses w vs is_inside x)) (sym uses ∙ right)).1 in
    let numbers = and_parts (is_small n) (list_all is_small (numbers_in x)) (sym (ap (list_all is_small) (numbers_in-Times n x)) ∙ small) in
    let factor = each vs names is_inside scope inner numbers.1 in
    let text = blanks_between symbol.Times (number_ n) ((text_of_term p x).as_factor names) (one_token (lexeme.Number n) numbers.0) factor.as_factor in
    at_variant p (term.Times n x) (term_text p (open_term.Times n (text_of_term p x))) vs names (gather_term w vs (open_term.Times n (gathered w vs x)))
    (text_of_term-Times p n x) (gathered-Times w vs n x)
    (record { plain = text; as_part = text; as_factor = square_spaced (product_text n (text_of_term p x) names) text; part_apart = refl; alone_apart = λ fits. refl })

-- ---- by induction over terms and the parts of sums

all_terms : (p : Parts) → Formed p → (x : Term) → SpacedAt p x
unfolding PartSpacedAt
all_terms p f =
    ind-Term (SpacedAt p) (PartSpacedAt p) (λ x y is. subst (λ z. SpacedAt p (roll-Term z)) is (each y)) (λ x y is. subst (λ z. PartSpacedAt p (roll-SignedTerm z)) is (each_part y))
  where
    each : (y : Term-F (SomeTerm p) (SomePart p)) → SpacedAt p (roll-Term (map-Term (SomeTerm p) (SomePart p) Term SignedTerm (λ x. x.0) (λ x. x.0) y))
    each (open_term.Number n) = subst (SpacedAt p) (sym (term.rolls-Number n)) (spaced_number p n)
    each (open_term.Value d v) = subst (SpacedAt p) (sym (term.rolls-Value d v)) (spaced_value p f d v)
    each (open_term.Var level) = subst (SpacedAt p) (sym (term.rolls-Var level)) (spaced_variable p level)
    each (open_term.Read n xs) = subst (SpacedAt p) (sym (term.rolls-Read n (map (λ x. x.0) xs))) (spaced_read p f n xs)
    each (open_term.Sum xs) = subst (SpacedAt p) (sym (term.rolls-Sum (map (λ x. x.0) xs))) (spaced_sum p xs)
    each (open_term.Times n x) = subst (SpacedAt p) (sym (term.rolls-Times n x.0)) (spaced_product p n x.0 x.1)

    each_part : (y : SignedTerm-F (SomeTerm p) (SomePart p)) →
        PartSpacedAt p (roll-SignedTerm (map-SignedTerm (SomeTerm p) (SomePart p) Term SignedTerm (λ x. x.0) (λ x. x.0) y))
    each_part y = subst (SpacedAt p) (ap (λ s. s.term) (sym (out-roll-SignedTerm (record { minus = y.minus; term = y.term.0 })))) y.term.1

pub term_spaced : (p : Parts) → Formed p → (x : Term) (vs : List ℕ) (names : List (List ℕ)) (is_inside : Bool) → Scope vs names →
    list_all is_right (term_uses (world_of_parts p) vs is_inside x) ≡ true → list_all is_small (numbers_in x) ≡ true →
    SpacedTerm (text_of_term p x) (kind_of_term (world_of_parts p) vs x) names
unfolding SpacedAt
term_spaced p f x = all_terms p f x
