-- The canonical text of a well-formed specification is spaced.
use Rattle.std.proofs.Common.{◌≡◌, ℕ, ◌+◌, ◌<◌, ◌≤◌, ℤ, pos, negsuc, neg_ℤ, ◌≤ℤ◌, Bool, true, false, ◌&&◌, nat_lt, nat_le, int_le, List, [], ◌∷◌, ◌++◌, map, drop, length, Option, None, Some, slice_get, append_assoc, append-nil, refl, ap, ◌∙◌, arith, flat_map}
use Rattle.std.specs.List.{list_all}
use Rattle.std.proofs.lemmas.Bool.{and_parts, and_from, ltb-true, le-leb}
use Rattle.std.proofs.lemmas.Int.{ints}
use Rattle.std.proofs.lemmas.List.Folds.{list_all-map}
use Rattle.trio_base.specs.Names.{is_name}
use Rattle.trio_base.specs.declared.limits.TheConstants.{GREATEST_NUMBER, MOST_VALUES}
use Rattle.trio_text.specs.declared.lexeme.Lexeme.TheVariants as lexeme
use Rattle.trio_text.specs.declared.token.Reserved.TheVariants as word
use Rattle.trio_text.specs.declared.token.Symbol.TheVariants as symbol
use Rattle.trio_syntax.specs.Words.{item_word, claim_word}
use Rattle.trio_types.specs.declared.spec.DomainKind.{DomainKind}
use Rattle.trio_types.specs.declared.spec.DomainKind.TheVariants as kind
use Rattle.trio_types.specs.declared.spec.Domain.{Domain}
use Rattle.trio_types.specs.declared.spec.Item.{Item}
use Rattle.trio_types.specs.declared.spec.Axiom.{Axiom}
use Rattle.trio_types.specs.World.{values_of}
use Rattle.trio_types.specs.Parts.{Parts, world_of_parts, claims_of}
use Rattle.trio_types.specs.Names.{words_of}
use Rattle.trio_types.specs.Kinds.{is_right, item_uses, uses}
use Rattle.trio_types.specs.Shape.{numbers_of}
use Rattle.trio_types.specs.WellFormed.{is_written, values_fit, instant_fits, is_well_formed}
use Rattle.trio_types.proofs.Lists.{each_of, all_from_each, all_right, all_flat, all_drop, get_left, get_right}
use Rattle.trio_types.proofs.Integers.{Decides-int_le}
use Rattle.trio_types.proofs.Specs.{Formed, formed_of, few_instants, argument_domain, value_domain}
use Rattle.trio_print.specs.Pieces.{Piece, token, blank}
use Rattle.trio_print.specs.Canonical.{word_, name_, number_, spaced, comma, joined_pieces, listed_pieces, integer, ref_pieces, values_pieces, at_text, text_of_formula, domain_text, item_text, claim_text, ended, spec_pieces}
use Rattle.trio_print.proofs.Spaced.{are_spaced}
use Rattle.trio_print.proofs.SpacedTexts.{after_sign, one_token, brace_spaced, blanks_between, span_between, commas_spaced, named_listed, ended_spaced, statements_spaced}
use Rattle.trio_print.proofs.PrintedNames.{variables_are_named, claim_is_named, item_is_named, domain_is_named, ref_token}
use Rattle.trio_print.proofs.SpacedTerms.{is_small}
use Rattle.trio_print.proofs.SpacedFormulas.{formula_spaced}

-- ---- domains

integer_spaced : (z : ℤ) → is_written z ≡ true → are_spaced (integer z) ≡ true
integer_spaced (pos n) written =
    let ends = and_parts (int_le (neg_ℤ (pos GREATEST_NUMBER)) (pos n)) (int_le (pos n) (pos GREATEST_NUMBER)) written in
    let below : pos n ≤ℤ pos 1000000 = (Decides-int_le (pos n) (pos 1000000)).0 ends.1 in
    one_token (lexeme.Number n) (le-leb n GREATEST_NUMBER (omega (arith, ints, below)))
integer_spaced (negsuc n) written =
    let ends = and_parts (int_le (neg_ℤ (pos GREATEST_NUMBER)) (negsuc n)) (int_le (negsuc n) (pos GREATEST_NUMBER)) written in
    let above : negsuc 999999 ≤ℤ negsuc n = (Decides-int_le (negsuc 999999) (negsuc n)).0 ends.0 in
    after_sign symbol.Minus (number_ (n + 1)) (one_token (lexeme.Number (n + 1)) (le-leb (n + 1) GREATEST_NUMBER (omega (arith, ints, above)))) refl

words_spaced : (words : List (List ℕ)) → list_all is_name words ≡ true → list_all are_spaced (map name_ words) ≡ true
words_spaced [] named = refl
words_spaced (w ∷ ws) named =
    let both = and_parts (is_name w) (list_all is_name ws) named in
    and_from (are_spaced (name_ w)) (list_all are_spaced (map name_ ws)) (one_token (lexeme.Name w) both.0) (words_spaced ws both.1)

values_spaced : (k : DomainKind) → values_fit k ≡ true → list_all is_name (words_of k) ≡ true → are_spaced (values_pieces k) ≡ true
values_spaced kind.Bool fit named = refl
values_spaced (kind.Range low high) fit named =
    let count : ℕ = length (values_of (kind.Range low high)) in
    let ends = and_parts (is_written low) (is_written high) (and_parts (is_written low && is_written high) (nat_lt 0 count && nat_le count MOST_VALUES) fit).0 in
    span_between (integer low) (integer high) (integer_spaced low ends.0) (integer_spaced high ends.1)
values_spaced (kind.Words words) fit named = brace_spaced (joined_pieces comma (map name_ words)) (commas_spaced (map name_ words) (words_spaced words named))

abbrev domain_line : Domain → List Piece
domain_line domain = word_ word.Domain ++ blank ∷ name_ domain.name ++ spaced symbol.Eq ++ values_pieces domain.kind

domain_spaced : (p : Parts) → Formed p → (k : ℕ) (domain : Domain) → slice_get (drop 1 p.domains) k ≡ Some domain → are_spaced (domain_line domain) ≡ true
domain_spaced p f k domain at =
    let named = domain_is_named p f k domain at in
    let fit = each_of (λ (d : Domain). values_fit d.kind) (drop 1 p.domains) (all_drop (λ (d : Domain). values_fit d.kind) 1 p.domains f.domains) k domain at in
    and_from (is_name domain.name) (are_spaced (values_pieces domain.kind)) named.0 (values_spaced domain.kind fit named.1)

-- ---- items

ref_spaced : (p : Parts) → Formed p → (d : ℕ) → (domain : Domain) × (slice_get p.domains d ≡ Some domain) → are_spaced (ref_pieces p d) ≡ true
ref_spaced p f d domain =
    let one = ref_token p f d domain.0 domain.1 in
    ap are_spaced one.1 ∙ one_token one.0 one.2

abbrev item_line : Parts → Item → List Piece
item_line p item = word_ (item_word item.input) ++ blank ∷ name_ item.name ++ listed_pieces (map (ref_pieces p) item.args) ++ spaced symbol.Colon ++ ref_pieces p item.value

item_spaced : (p : Parts) → Formed p → (k : ℕ) (item : Item) → slice_get p.items k ≡ Some item → are_spaced (item_line p item) ≡ true
item_spaced p f k item at =
    let refs = list_all-map are_spaced (ref_pieces p) item.args
    ∙ all_from_each (λ d. are_spaced (ref_pieces p d)) item.args (λ j d is. ref_spaced p f d (argument_domain p f k item at j d is)) in
    blanks_between symbol.Colon (token (lexeme.Name item.name) ∷ listed_pieces (map (ref_pieces p) item.args)) (ref_pieces p item.value)
    (named_listed item.name (map (ref_pieces p) item.args) (item_is_named p f k item at) refs) (ref_spaced p f item.value (value_domain p f k item at))

-- ---- axioms and goals

named_at : (p : Parts) → Formed p → (name : List ℕ) (at : Option ℕ) → is_name name ≡ true → instant_fits p.instants at ≡ true →
    are_spaced (token (lexeme.Name name) ∷ at_text at) ≡ true
named_at p f name None named fits = one_token (lexeme.Name name) named
named_at p f name (Some k) named fits =
    let few : p.instants ≤ 256 = few_instants p f in
    let below : k < p.instants = ltb-true k p.instants fits in
    and_from (is_name name) (are_spaced (number_ k)) named (one_token (lexeme.Number k) (le-leb k GREATEST_NUMBER (omega (arith, few, below))))

abbrev claim_line : Parts → Bool → Axiom → List Piece
claim_line p is_goal claim =
    word_ (claim_word is_goal) ++ blank ∷ name_ claim.name ++ at_text claim.at ++ spaced symbol.Colon ++ (text_of_formula p claim.formula).plain []

claim_spaced : (p : Parts) → Formed p → (is_goal : Bool) (k : ℕ) (claim : Axiom) → slice_get (claims_of p) k ≡ Some claim → are_spaced (claim_line p is_goal claim) ≡ true
claim_spaced p f is_goal k claim at =
    let w = world_of_parts p in
    let right = all_flat is_right (λ (a : Axiom). uses w a.formula []) (claims_of p)
    (all_right is_right (flat_map (item_uses w) p.items) (flat_map (λ (a : Axiom). uses w a.formula []) (claims_of p)) f.kinds) k claim at in
    let small = all_flat is_small (λ (a : Axiom). numbers_of a.formula) (claims_of p) f.numbers k claim at in
    let fits = each_of (λ (a : Axiom). instant_fits p.instants a.at) (claims_of p) f.at k claim at in
    blanks_between symbol.Colon (token (lexeme.Name claim.name) ∷ at_text claim.at) ((text_of_formula p claim.formula).plain [])
    (named_at p f claim.name claim.at (claim_is_named p f k claim at) fits)
    (formula_spaced p f claim.formula right small (variables_are_named p f k claim at))

-- ---- the whole text

regroup : (t d i a g : List Piece) → t ++ d ++ i ++ a ++ g ≡ t ++ (d ++ (i ++ (a ++ (g ++ []))))
regroup t d i a g = simp (append_assoc, append-nil)

pub canonical_spaced : (p : Parts) → is_well_formed p ≡ true → are_spaced (spec_pieces p) ≡ true
unfolding spec_pieces
canonical_spaced p well =
    let f = formed_of p well in
    let few : p.instants ≤ 256 = few_instants p f in
    let time : List Piece = word_ word.Time ++ blank ∷ number_ p.instants in
    let domains : List Piece = flat_map domain_text (drop 1 p.domains) in
    let items : List Piece = flat_map (item_text p) p.items in
    let axioms : List Piece = flat_map (claim_text p false) p.axioms in
    let goals : List Piece = flat_map (claim_text p true) p.goals in
    let goals_are = statements_spaced (claim_line p true) p.goals []
    (all_from_each (λ (a : Axiom). are_spaced (claim_line p true a)) p.goals (λ k a at. claim_spaced p f true (length p.axioms + k) a (get_right p.axioms p.goals k ∙ at))) refl in
    let axioms_are = statements_spaced (claim_line p false) p.axioms (goals ++ [])
    (all_from_each (λ (a : Axiom). are_spaced (claim_line p false a)) p.axioms (λ k a at. claim_spaced p f false k a (get_left p.axioms p.goals k a at))) goals_are in
    let items_are = statements_spaced (item_line p) p.items (axioms ++ (goals ++ []))
    (all_from_each (λ (i : Item). are_spaced (item_line p i)) p.items (item_spaced p f)) axioms_are in
    let domains_are = statements_spaced domain_line (drop 1 p.domains) (items ++ (axioms ++ (goals ++ [])))
    (all_from_each (λ (d : Domain). are_spaced (domain_line d)) (drop 1 p.domains) (domain_spaced p f)) items_are in
    ap are_spaced (regroup (ended time) domains items axioms goals)
    ∙ ended_spaced time (domains ++ (items ++ (axioms ++ (goals ++ [])))) (one_token (lexeme.Number p.instants) (le-leb p.instants GREATEST_NUMBER (omega (arith, few)))) domains_are
