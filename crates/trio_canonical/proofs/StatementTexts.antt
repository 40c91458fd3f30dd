-- The canonical text of a specification is a text of the grammar, and its statements stand for those of the specification.
use Rattle.std.proofs.Common.{◌≡◌, ℕ, suc, ℤ, pos, negsuc, neg_ℤ, ◌+◌, ◌<◌, Bool, true, false, nat_lt, nat_le, List, [], ◌∷◌, ◌++◌, map, drop, length, Option, None, Some, slice_get, refl, sym, ap, subst, ◌∙◌, add-one, arith}
use Rattle.std.specs.List.{list_all, flat_map}
use Rattle.std.specs.Option.{option_map}
use Rattle.std.proofs.lemmas.Bool.{and_parts, ltb-true}
use Rattle.std.proofs.lemmas.List.{append_assoc, map-append}
use Rattle.trio_text.specs.declared.lexeme.Lexeme.TheVariants as lexeme
use Rattle.trio_text.specs.declared.token.Reserved.TheVariants as word
use Rattle.trio_text.specs.declared.token.Symbol.TheVariants as signs
use Rattle.trio_types.specs.declared.spec.DomainKind.{DomainKind}
use Rattle.trio_types.specs.declared.spec.DomainKind.TheVariants as kind
use Rattle.trio_types.specs.declared.spec.Domain.{Domain}
use Rattle.trio_types.specs.declared.spec.Item.{Item}
use Rattle.trio_types.specs.declared.spec.Axiom.{Axiom}
use Rattle.trio_types.specs.Parts.{Parts, world_of_parts}
use Rattle.trio_types.specs.Kinds.{has_kind, kind_in, of_domain, is_right, item_uses}
use Rattle.trio_base.specs.declared.limits.TheConstants.{MOST_VALUES}
use Rattle.trio_types.specs.World.{values_of}
use Rattle.trio_types.specs.Shape.{is_shaped}
use Rattle.trio_types.specs.WellFormed.{values_fit}
use Rattle.trio_types.proofs.Lists.{each_of, all_left, all_right}
use Rattle.trio_types.proofs.Specs.{Formed}
use Rattle.trio_types.proofs.Domains.{length-integers}
use Rattle.trio_syntax.specs.declared.tree.Mention.{Mention}
use Rattle.trio_syntax.specs.declared.tree.Written.{Written}
use Rattle.trio_syntax.specs.declared.tree.RefTree.{RefTree}
use Rattle.trio_syntax.specs.declared.tree.ValuesTree.{ValuesTree}
use Rattle.trio_syntax.specs.declared.tree.DomainTree.{DomainTree}
use Rattle.trio_syntax.specs.declared.tree.ItemTree.{ItemTree}
use Rattle.trio_syntax.specs.declared.tree.DeclarationTree.{DeclarationTree}
use Rattle.trio_syntax.specs.declared.tree.DeclarationTree.TheVariants as statement
use Rattle.trio_syntax.specs.declared.tree.ClaimTree.{ClaimTree}
use Rattle.trio_syntax.specs.declared.tree.SpecTree.{SpecTree}
use Rattle.trio_syntax.specs.Words.{item_word, claim_word}
use Rattle.trio_syntax.specs.Grammar.{a_name, ref, refs, int, domain_values, domain, item, instant, claim, spec}
use Rattle.trio_syntax.specs.Forms.{either}
use Rattle.trio_reader.specs.Erasure.{integer_of, values_kind, domain_from, item_from, domain_of}
use Rattle.trio_types.proofs.Inductions.{Each}
use Rattle.trio_print.specs.Pieces.{Piece, line_end, lexemes_in}
use Rattle.trio_print.specs.Canonical.{sign, name_, spaced, joined_pieces, comma, listed_pieces, integer, ended, values_pieces, domain_text, item_text, at_text, claim_text, spec_pieces, text_of_formula}
use Rattle.trio_print.specs.Canonical.{ref_pieces}
use Rattle.trio_canonical.proofs.Told.{Told, told_text, told_empty, told_one, told_seq, told_left, told_right, told_both, told_behind, told_before, told_round, told_many, told_many_then, told_listed, Pairwise, Split}
use Rattle.trio_canonical.proofs.Texts.{lexemes-append, lexemes-round, lexemes-flat_map, lexemes-joined}
use Rattle.trio_canonical.proofs.Meant.{bool_first, Meant}
use Rattle.trio_canonical.proofs.FormulaStands.{StandsFor, RefStands}
use Rattle.trio_canonical.proofs.FormulaTexts.{ref_told, formula_told}

each_from : {X : Type 0} (P : X → Type 0) (xs : List X) → ((k : ℕ) (x : X) → slice_get xs k ≡ Some x → P x) → Each P xs
each_from P [] has = tt
each_from P (x ∷ xs) has = (has 0 x refl, each_from P xs (λ k y at. has (suc k) y at))

lexemes-ended : (x : List Piece) → lexemes_in (ended x) ≡ lexemes_in x ++ lexeme.Sign signs.Semi ∷ []
lexemes-ended x =
    ap lexemes_in (append_assoc x (sign signs.Semi) (line_end ∷ [])) ∙ lexemes-append x (sign signs.Semi ++ line_end ∷ [])

-- domains
opposite : (n : ℕ) → neg_ℤ (pos (n + 1)) ≡ negsuc n
opposite n = rw add-one refl

integer_told : (z : ℤ) → Told int (λ i. integer_of i ≡ z) (lexemes_in (integer z))
integer_told (pos n) =
    told_seq {P = λ b. b ≡ false} {Q = λ (w : Written). w.number ≡ n} (λ p b w sign number. rw (sign, number) refl) (told_right (told_empty refl)) (told_one n (λ p. refl))
integer_told (negsuc n) =
    told_seq {P = λ b. b ≡ true} {Q = λ (w : Written). w.number ≡ n + 1} (λ p b w sign number. rw (sign, number) (opposite n))
    (told_left (told_one tt (λ p. refl))) (told_one (n + 1) (λ p. refl))

abbrev IsNamed : List ℕ → Mention → Type 0
IsNamed name m = m.name ≡ name

names_are : (names : List (List ℕ)) (ms : List Mention) → Pairwise IsNamed names ms → map (λ (m : Mention). m.name) ms ≡ names
names_are [] [] pairs = refl
names_are [] (m ∷ ms) pairs = absurd pairs
names_are (n ∷ ns) [] pairs = absurd pairs
names_are (n ∷ ns) (m ∷ ms) pairs = let e = pairs.0 in let es = names_are ns ms pairs.1 in rw (e, es) refl

names_told : (names : List (List ℕ)) → Each (λ name. Told a_name (IsNamed name) (lexeme.Name name ∷ [])) names
names_told [] = tt
names_told (n ∷ ns) = (told_one n (λ p. refl), names_told ns)

values_told : (k : DomainKind) → (k ≡ kind.Bool → ⊥) → values_fit k ≡ true → Told domain_values (λ v. values_kind v ≡ k) (lexemes_in (values_pieces k))
values_told kind.Bool other fit = absurd (other refl)
values_told (kind.Range low high) other fit =
    told_text
    (sym (lexemes-append (integer low ++ sign signs.Span) (integer high)
    ∙ rw (lexemes-append (integer low) (sign signs.Span)) (append_assoc (lexemes_in (integer low)) (lexeme.Sign signs.Span ∷ []) (lexemes_in (integer high)))))
    (told_right
    (told_seq {P = λ i. integer_of i ≡ low} {Q = λ i. integer_of i ≡ high} (λ p i j first last. rw (first, last) refl)
    (integer_told low) (told_behind signs.Span (integer_told high))))
values_told (kind.Words []) other fit =
    let count = length (values_of (kind.Words [])) in
    let some : 0 < count = ltb-true 0 count (and_parts (nat_lt 0 count) (nat_le count MOST_VALUES) fit).0 in
    absurd (omega (arith, length-integers (pos 0) 0))
values_told (kind.Words (w ∷ ws)) other fit =
    told_text
    (sym (ap (λ z. lexeme.Sign signs.LeftBrace ∷ z)
    (lexemes-append (joined_pieces comma (map name_ (w ∷ ws))) (sign signs.RightBrace)
    ∙ ap (λ z. z ++ lexeme.Sign signs.RightBrace ∷ []) (lexemes-joined comma signs.Comma refl name_ w ws))))
    (told_left
    (told_seq {P = λ u. Unit {0}} {Q = Pairwise IsNamed (w ∷ ws)} (λ p u ms one pairs. ap kind.Words (names_are (w ∷ ws) ms pairs))
    (told_one tt (λ p. tt))
    (told_before signs.RightBrace (told_listed a_name IsNamed (λ name. lexeme.Name name ∷ []) signs.Comma w ws (names_told (w ∷ ws))))))

pub record DomainStands (d : Domain) (t : DeclarationTree) : Type 0 where
  pub tree : DomainTree
  pub is : t ≡ statement.Domain tree
  pub same : domain_from tree ≡ d

same_domain : (d : Domain) (m : Mention) (v : ValuesTree) → m.name ≡ d.name → values_kind v ≡ d.kind → domain_from (record { name = m; values = v }) ≡ d
same_domain d m v named is = λ i. record { name = named i; kind = is i }

domain_told : (d : Domain) → (d.kind ≡ kind.Bool → ⊥) → values_fit d.kind ≡ true → Told (either item domain) (DomainStands d) (lexemes_in (domain_text d))
domain_told d other fit =
    told_right (told_text
    (sym (ap (λ z. lexeme.Word word.Domain ∷ lexeme.Name d.name ∷ lexeme.Sign signs.Eq ∷ z) (lexemes-ended (values_pieces d.kind))))
    (told_seq {P = λ u. Unit {0}} {Q = λ r. (r.0.name ≡ d.name) × (values_kind r.1 ≡ d.kind)}
    (λ p u r one good. record { tree = record { name = r.0; values = r.1 }; is = refl; same = same_domain d r.0 r.1 good.0 good.1 })
    (told_one tt (λ p. tt))
    (told_both {P = λ (m : Mention). m.name ≡ d.name} (told_one d.name (λ p. refl)) (told_behind signs.Eq (told_before signs.Semi (values_told d.kind other fit))))))

-- items
pub record ItemStands (parts : Parts) (i : Item) (t : DeclarationTree) : Type 0 where
  pub tree : ItemTree
  pub is : t ≡ statement.Item tree
  pub named : tree.name.name ≡ i.name
  pub same : (whole : SpecTree) → Meant parts whole → list_all is_right (item_uses (world_of_parts parts) i) ≡ true → item_from whole tree ≡ i

refs_same : (parts : Parts) (ds : List ℕ) (rs : List RefTree) → Pairwise (RefStands parts) ds rs → (whole : SpecTree) → Meant parts whole →
    list_all is_right (map (λ d. of_domain (kind_in (world_of_parts parts) d)) ds) ≡ true → map (domain_of whole) rs ≡ ds
refs_same parts [] [] pairs whole meant right = refl
refs_same parts [] (r ∷ rs) pairs whole meant right = absurd pairs
refs_same parts (d ∷ ds) [] pairs whole meant right = absurd pairs
refs_same parts (d ∷ ds) (r ∷ rs) pairs whole meant right =
    let both = and_parts (has_kind (kind_in (world_of_parts parts) d)) (list_all is_right (map (λ d. of_domain (kind_in (world_of_parts parts) d)) ds)) right in
    let e = pairs.0.is whole meant both.0 in
    let es = refs_same parts ds rs pairs.1 whole meant both.1 in
    rw (e, es) refl

same_item : (parts : Parts) (i : Item) (t : ItemTree) → t.input ≡ i.input → t.name.name ≡ i.name → Pairwise (RefStands parts) i.args t.args → RefStands parts i.value t.value →
    (whole : SpecTree) → Meant parts whole → list_all is_right (item_uses (world_of_parts parts) i) ≡ true → item_from whole t ≡ i
same_item parts i t input named args value whole meant right =
    let each = λ (d : ℕ). of_domain (kind_in (world_of_parts parts) d) in
    let split = ap (list_all is_right) (sym (map-append each i.args (i.value ∷ []))) ∙ right in
    let first = refs_same parts i.args t.args args whole meant (all_left is_right (map each i.args) (each i.value ∷ []) split) in
    let last = value.is whole meant (and_parts (has_kind (kind_in (world_of_parts parts) i.value)) true (all_right is_right (map each i.args) (each i.value ∷ []) split)).0 in
    λ j. record { name = named j; input = input j; args = first j; value = last j }

each_ref : (parts : Parts) (ds : List ℕ) → Each (λ d. Told ref (RefStands parts d) (lexemes_in (ref_pieces parts d))) ds
each_ref parts [] = tt
each_ref parts (d ∷ ds) = (ref_told parts d, each_ref parts ds)

refs_told : (parts : Parts) (ds : List ℕ) → Told refs (Pairwise (RefStands parts) ds) (lexemes_in (listed_pieces (map (ref_pieces parts) ds)))
refs_told parts [] = told_right (told_empty tt)
refs_told parts (d ∷ ds) =
    told_text
    (sym (lexemes-round (joined_pieces comma (map (ref_pieces parts) (d ∷ ds)))
    ∙ ap (λ z. lexeme.Sign signs.LeftRound ∷ (z ++ lexeme.Sign signs.RightRound ∷ [])) (lexemes-joined comma signs.Comma refl (ref_pieces parts) d ds)))
    (told_left (told_round (told_listed ref (RefStands parts) (λ d. lexemes_in (ref_pieces parts d)) signs.Comma d ds (each_ref parts (d ∷ ds)))))

item_tokens : (parts : Parts) (i : Item) → lexemes_in (item_text parts i)
    ≡ lexeme.Word (item_word i.input) ∷ lexeme.Name i.name
    ∷ (lexemes_in (listed_pieces (map (ref_pieces parts) i.args)) ++ (lexeme.Sign signs.Colon ∷ (lexemes_in (ref_pieces parts i.value) ++ lexeme.Sign signs.Semi ∷ [])))
item_tokens parts i =
    let args : List Piece = listed_pieces (map (ref_pieces parts) i.args) in
    let value : List Piece = ref_pieces parts i.value in
    ap (λ z. lexeme.Word (item_word i.input) ∷ lexeme.Name i.name ∷ z)
    (lexemes-ended (args ++ spaced signs.Colon ++ value)
    ∙ rw (lexemes-append (args ++ spaced signs.Colon) value, lexemes-append args (spaced signs.Colon))
    (ap (λ z. z ++ lexeme.Sign signs.Semi ∷ []) (append_assoc (lexemes_in args) (lexeme.Sign signs.Colon ∷ []) (lexemes_in value))
    ∙ append_assoc (lexemes_in args) (lexeme.Sign signs.Colon ∷ lexemes_in value) (lexeme.Sign signs.Semi ∷ [])))

item_told : (parts : Parts) (i : Item) → Told (either item domain) (ItemStands parts i) (lexemes_in (item_text parts i))
item_told parts i =
    told_left (told_text (sym (item_tokens parts i))
    (told_seq {P = λ b. b ≡ i.input} {Q = λ r. (r.0.name ≡ i.name) × (Pairwise (RefStands parts) i.args r.1.0 × RefStands parts i.value r.1.1)}
    (λ p b r is good. record {
      tree = record { input = b; name = r.0; args = r.1.0; value = r.1.1 };
      is = refl;
      named = good.0;
      same = same_item parts i (record { input = b; name = r.0; args = r.1.0; value = r.1.1 }) is good.0 good.1.0 good.1.1;
    })
    (told_one i.input (λ p. refl))
    (told_both {P = λ (m : Mention). m.name ≡ i.name} (told_one i.name (λ p. refl))
    (told_both (refs_told parts i.args) (told_behind signs.Colon (told_before signs.Semi (ref_told parts i.value)))))))

-- axioms and goals
pub record ClaimStands (parts : Parts) (is_goal : Bool) (claim : Axiom) (t : ClaimTree) : Type 0 where
  pub goal : t.goal ≡ is_goal
  pub named : t.name.name ≡ claim.name
  pub at : option_map (λ (k : Written). k.number) t.at ≡ claim.at
  pub formula : StandsFor parts [] claim.formula t.formula

instant_told : (at : Option ℕ) → Told instant (λ o. option_map (λ (k : Written). k.number) o ≡ at) (lexemes_in (at_text at))
instant_told None = told_right (told_empty refl)
instant_told (Some k) =
    told_left
    (told_seq {P = λ u. Unit {0}} {Q = λ (w : Written). w.number ≡ k} (λ p u w one number. ap Some number) (told_one tt (λ p. tt)) (told_one k (λ p. refl)))

claim_tokens : (parts : Parts) (is_goal : Bool) (claim : Axiom) → lexemes_in (claim_text parts is_goal claim)
    ≡ lexeme.Word (claim_word is_goal) ∷ lexeme.Name claim.name
    ∷ (lexemes_in (at_text claim.at) ++ (lexeme.Sign signs.Colon ∷ (lexemes_in ((text_of_formula parts claim.formula).plain []) ++ lexeme.Sign signs.Semi ∷ [])))
claim_tokens parts is_goal claim =
    let at : List Piece = at_text claim.at in
    let text : List Piece = (text_of_formula parts claim.formula).plain [] in
    ap (λ z. lexeme.Word (claim_word is_goal) ∷ lexeme.Name claim.name ∷ z)
    (lexemes-ended (at ++ spaced signs.Colon ++ text)
    ∙ rw (lexemes-append (at ++ spaced signs.Colon) text, lexemes-append at (spaced signs.Colon))
    (ap (λ z. z ++ lexeme.Sign signs.Semi ∷ []) (append_assoc (lexemes_in at) (lexeme.Sign signs.Colon ∷ []) (lexemes_in text))
    ∙ append_assoc (lexemes_in at) (lexeme.Sign signs.Colon ∷ lexemes_in text) (lexeme.Sign signs.Semi ∷ [])))

claim_told : (parts : Parts) (is_goal : Bool) (c : Axiom) → is_shaped c.formula ≡ true → Told claim (ClaimStands parts is_goal c) (lexemes_in (claim_text parts is_goal c))
claim_told parts is_goal c shaped =
    told_text (sym (claim_tokens parts is_goal c))
    (told_seq {P = λ b. b ≡ is_goal} {Q = λ r. (r.0.name ≡ c.name) × ((option_map (λ (k : Written). k.number) r.1.0 ≡ c.at) × StandsFor parts [] c.formula r.1.1)}
    (λ p b r is good. record { goal = is; named = good.0; at = good.1.0; formula = good.1.1 })
    (told_one is_goal (λ p. refl))
    (told_both {P = λ (m : Mention). m.name ≡ c.name} (told_one c.name (λ p. refl))
    (told_both (instant_told c.at) (told_behind signs.Colon (told_before signs.Semi (formula_told parts c.formula shaped []).plain)))))

claims_told : (parts : Parts) (is_goal : Bool) (cs : List Axiom) → list_all (λ (c : Axiom). is_shaped c.formula) cs ≡ true →
    Each (λ c. Told claim (ClaimStands parts is_goal c) (lexemes_in (claim_text parts is_goal c))) cs
claims_told parts is_goal [] all = tt
claims_told parts is_goal (c ∷ cs) all =
    let both = and_parts (is_shaped c.formula) (list_all (λ (c : Axiom). is_shaped c.formula) cs) all in
    (claim_told parts is_goal c both.0, claims_told parts is_goal cs both.1)

-- the whole
pub record SpecStands (parts : Parts) (tree : SpecTree) : Type 0 where
  pub instants : tree.instants.number ≡ parts.instants
  pub declared : Split DomainStands (drop 1 parts.domains) (Pairwise (ItemStands parts) parts.items) tree.declarations
  pub claimed : Split (ClaimStands parts false) parts.axioms (Pairwise (ClaimStands parts true) parts.goals) tree.claims

domains_told : (parts : Parts) → Formed parts → Each (λ d. Told (either item domain) (DomainStands d) (lexemes_in (domain_text d))) (drop 1 parts.domains)
domains_told parts formed =
    let b = bool_first parts formed.bool_first in
    let fit : list_all (λ (d : Domain). values_fit d.kind) (b.first ∷ b.others) ≡ true = ap (list_all (λ (d : Domain). values_fit d.kind)) (sym b.whole) ∙ formed.domains in
    subst (Each (λ d. Told (either item domain) (DomainStands d) (lexemes_in (domain_text d)))) (ap (drop 1) (sym b.whole))
    (each_from (λ d. Told (either item domain) (DomainStands d) (lexemes_in (domain_text d))) b.others
    (λ k d at. domain_told d (b.no_other k d at) (each_of (λ (d : Domain). values_fit d.kind) (b.first ∷ b.others) fit (suc k) d at)))

spec_tokens : (parts : Parts) → lexemes_in (spec_pieces parts)
    ≡ lexeme.Word word.Time ∷ lexeme.Number parts.instants ∷ lexeme.Sign signs.Semi
    ∷ ((flat_map (λ d. lexemes_in (domain_text d)) (drop 1 parts.domains) ++ flat_map (λ i. lexemes_in (item_text parts i)) parts.items)
    ++ (flat_map (λ c. lexemes_in (claim_text parts false c)) parts.axioms ++ flat_map (λ c. lexemes_in (claim_text parts true c)) parts.goals))
unfolding spec_pieces
spec_tokens parts =
    let d = flat_map domain_text (drop 1 parts.domains) in
    let i = flat_map (item_text parts) parts.items in
    let a = flat_map (claim_text parts false) parts.axioms in
    let g = flat_map (claim_text parts true) parts.goals in
    ap (λ z. lexeme.Word word.Time ∷ lexeme.Number parts.instants ∷ lexeme.Sign signs.Semi ∷ z)
    (lexemes-append (d ++ i ++ a) g
    ∙ rw (
      lexemes-append (d ++ i) a,
      lexemes-append d i,
      lexemes-flat_map domain_text (drop 1 parts.domains),
      lexemes-flat_map (item_text parts) parts.items,
      lexemes-flat_map (claim_text parts false) parts.axioms,
      lexemes-flat_map (claim_text parts true) parts.goals,
    )
    (append_assoc (flat_map (λ d. lexemes_in (domain_text d)) (drop 1 parts.domains) ++ flat_map (λ i. lexemes_in (item_text parts i)) parts.items)
    (flat_map (λ c. lexemes_in (claim_text parts false c)) parts.axioms) (flat_map (λ c. lexemes_in (claim_text parts true c)) parts.goals)))

pub spec_told : (parts : Parts) → Formed parts → Told spec (SpecStands parts) (lexemes_in (spec_pieces parts))
spec_told parts formed =
    told_text (sym (spec_tokens parts))
    (told_seq {P = λ u. Unit {0}} {Q = λ r. (r.0.number ≡ parts.instants) × (Split DomainStands (drop 1 parts.domains) (Pairwise (ItemStands parts) parts.items) r.1.0
    × Split (ClaimStands parts false) parts.axioms (Pairwise (ClaimStands parts true) parts.goals) r.1.1)}
    (λ p u r one good. record { instants = good.0; declared = good.1.0; claimed = good.1.1 })
    (told_one tt (λ p. tt))
    (told_both {P = λ (w : Written). w.number ≡ parts.instants} (told_one parts.instants (λ p. refl))
    (told_behind signs.Semi
    (told_both
    (told_many_then (either item domain) DomainStands (λ d. lexemes_in (domain_text d)) (Pairwise (ItemStands parts) parts.items)
    (flat_map (λ i. lexemes_in (item_text parts i)) parts.items)
    (told_many (either item domain) (ItemStands parts) (λ i. lexemes_in (item_text parts i)) parts.items
    (each_from (λ i. Told (either item domain) (ItemStands parts i) (lexemes_in (item_text parts i))) parts.items (λ k i at. item_told parts i)))
    (drop 1 parts.domains) (domains_told parts formed))
    (told_many_then claim (ClaimStands parts false) (λ c. lexemes_in (claim_text parts false c)) (Pairwise (ClaimStands parts true) parts.goals)
    (flat_map (λ c. lexemes_in (claim_text parts true c)) parts.goals)
    (told_many claim (ClaimStands parts true) (λ c. lexemes_in (claim_text parts true c)) parts.goals
    (claims_told parts true parts.goals (all_right (λ (c : Axiom). is_shaped c.formula) parts.axioms parts.goals formed.many)))
    parts.axioms (claims_told parts false parts.axioms (all_left (λ (c : Axiom). is_shaped c.formula) parts.axioms parts.goals formed.many)))))))
