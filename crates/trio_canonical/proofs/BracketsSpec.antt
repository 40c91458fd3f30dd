-- The brackets that are open in a canonical text.
use Rattle.std.proofs.Common.{◌≡◌, ℕ, ◌+◌, max, ℤ, pos, negsuc, Bool, true, false, List, [], ◌∷◌, ◌++◌, map, drop, Option, None, Some, refl, sym, arith}
use Rattle.trio_text.specs.declared.token.Symbol.TheVariants as symbol
use Rattle.trio_text.specs.declared.token.Reserved.TheVariants as word
use Rattle.trio_types.specs.declared.spec.DomainKind.{DomainKind}
use Rattle.trio_types.specs.declared.spec.DomainKind.TheVariants as kind
use Rattle.trio_types.specs.declared.spec.Domain.{Domain}
use Rattle.trio_types.specs.declared.spec.Item.{Item}
use Rattle.trio_types.specs.declared.spec.Axiom.{Axiom}
use Rattle.trio_types.specs.declared.spec.Which.TheVariants as which
use Rattle.trio_types.specs.Bounds.{greatest}
use Rattle.trio_types.specs.Nest.{in_brackets, item_nest, nest_of}
use Rattle.trio_types.specs.Limits.{count_of}
use Rattle.trio_types.specs.Parts.{Parts, world_of_parts, claims_of}
use Rattle.trio_types.proofs.Specs.{Formed, within_limit}
use Rattle.trio_limits.proofs.ClaimCounts.{greatest-append, both_plains}
use Rattle.trio_syntax.specs.Depth.{first_deep}
use Rattle.trio_syntax.specs.Words.{item_word, claim_word}
use Rattle.trio_syntax.proofs.Depths.{deep_nowhere}
use Rattle.trio_print.specs.Pieces.{Piece, blank, line_end, lexemes_in}
use Rattle.trio_print.specs.Canonical.{sign, word_, name_, number_, spaced, joined_pieces, comma, listed_pieces, integer, ref_pieces, ended, values_pieces, domain_text, item_text, at_text, claim_text, spec_pieces}
use Rattle.trio_canonical.specs.Brackets.{NestIsMostOpen}
use Rattle.trio_canonical.proofs.BracketsOpen.{Nests, nest_is_most, none_above, as_many, empty, both, before, behind, flat, in_row, in_joined, in_listed, greatest-zero}
use Rattle.trio_canonical.proofs.BracketsTerms.{ref_nests}
use Rattle.trio_canonical.proofs.BracketsFormulas.{formula_nests}

ended_nests : {x : List Piece} {n : ℕ} → Nests x n → Nests (ended x) n
ended_nests nests = behind (behind nests (flat (sign symbol.Semi) refl)) (flat (line_end ∷ []) refl)

integer_nests : (z : ℤ) → Nests (integer z) 0
integer_nests (pos n) = flat (number_ n) refl
integer_nests (negsuc n) = flat (sign symbol.Minus ++ number_ (n + 1)) refl

values_nests : (values : DomainKind) → Nests (values_pieces values) 0
values_nests kind.Bool = flat (word_ word.Bool) refl
values_nests (kind.Range low high) = behind (behind (integer_nests low) (flat (sign symbol.Span) refl)) (integer_nests high)
values_nests (kind.Words words) =
    let names : Nests (joined_pieces comma (map name_ words)) 0 =
    as_many (greatest-zero words) (in_joined name_ (λ w. 0) (λ w. flat (name_ w) refl) comma (flat comma refl) words) in
    behind (before (flat (sign symbol.LeftBrace) refl) names) (flat (sign symbol.RightBrace) refl)

domain_nests : (domain : Domain) → Nests (domain_text domain) 0
domain_nests domain = ended_nests (before (flat (word_ word.Domain ++ blank ∷ name_ domain.name ++ spaced symbol.Eq) refl) (values_nests domain.kind))

brackets_of : (item : Item) (args : List ℕ) → item.args ≡ args → in_brackets (map (λ d. 0) args) ≡ item_nest item
brackets_of item [] is = rw is refl
brackets_of item (d ∷ ds) is = rw is (omega (arith, greatest-zero ds))

item_nests : (parts : Parts) (item : Item) → Nests (item_text parts item) (item_nest item)
item_nests parts item =
    let args : Nests (listed_pieces (map (ref_pieces parts) item.args)) (item_nest item) =
    as_many (brackets_of item item.args refl) (in_listed (ref_pieces parts) (λ d. 0) (ref_nests parts) item.args) in
    ended_nests (behind (behind (before (flat (word_ (item_word item.input) ++ blank ∷ name_ item.name) refl) args) (flat (spaced symbol.Colon) refl)) (ref_nests parts item.value))

at_nests : (at : Option ℕ) → Nests (at_text at) 0
at_nests None = empty
at_nests (Some k) = flat (blank ∷ word_ word.At ++ blank ∷ number_ k) refl

abbrev claim_nest : Axiom → ℕ
claim_nest claim = (nest_of claim.formula).plain

claim_nests : (parts : Parts) (is_goal : Bool) (claim : Axiom) → Nests (claim_text parts is_goal claim) (claim_nest claim)
claim_nests parts is_goal claim =
    ended_nests (before (behind (before (flat (word_ (claim_word is_goal) ++ blank ∷ name_ claim.name) refl) (at_nests claim.at)) (flat (spaced symbol.Colon) refl))
    ((formula_nests parts claim.formula).plain []))

count_is : (parts : Parts) → max (max (greatest (map item_nest parts.items)) (greatest (map claim_nest parts.axioms))) (greatest (map claim_nest parts.goals)) ≡ count_of which.Nest parts
count_is parts =
    let whole = greatest-append (map item_nest parts.items) (map claim_nest (claims_of parts)) in
    let claims = both_plains (world_of_parts parts) parts.axioms parts.goals in
    omega (arith, whole, claims)

pub spec_nests : (parts : Parts) → Nests (spec_pieces parts) (count_of which.Nest parts)
unfolding spec_pieces
spec_nests parts =
    let time = ended_nests (flat (word_ word.Time ++ blank ∷ number_ parts.instants) refl) in
    let domains = as_many (greatest-zero (drop 1 parts.domains)) (in_row domain_text (λ d. 0) domain_nests (drop 1 parts.domains)) in
    let items = in_row (item_text parts) item_nest (item_nests parts) parts.items in
    let axioms = in_row (claim_text parts false) claim_nest (claim_nests parts false) parts.axioms in
    let goals = in_row (claim_text parts true) claim_nest (claim_nests parts true) parts.goals in
    as_many (count_is parts) (both (both (before (before time domains) items) axioms) goals)

pub nest_is_most_open : NestIsMostOpen
nest_is_most_open parts = nest_is_most (spec_pieces parts) (count_of which.Nest parts) (spec_nests parts)

-- nowhere in the text of well-formed parts are more open than may be
pub not_deep : (parts : Parts) → Formed parts → first_deep (lexemes_in (spec_pieces parts)) ≡ None
not_deep parts formed =
    sym (deep_nowhere (lexemes_in (spec_pieces parts)) (λ j less. omega (arith, none_above (spec_pieces parts) (count_of which.Nest parts) (spec_nests parts) (j + 1), within_limit parts formed which.Nest)))
