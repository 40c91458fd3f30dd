-- Reading goes on by a blank, a comment or a token: what each step says of the tokens of the whole text.
use Rattle.std.proofs.Common.{◌≡◌, ℕ, ◌+◌, ◌<◌, true, false, not, ◌==◌, List, [], ◌∷◌, ◌++◌, length, take, drop, refl, sym, ap, subst, ◌∙◌, arith, append_assoc, append-nil, length-append, inl, inr, ◌⊎◌, ne_eqb, length-drop, length-take-le, take-append-drop}
use Rattle.std.specs.Prelude.{if◌then◌else◌, nat_eq, take_while, Result, Ok, Err, IsErrAnd, OnOk, is_err}
use Rattle.std.specs.List.{list_all, starts_with}
use Rattle.std.proofs.lemmas.Bool.{false≢true}
use Rattle.std.proofs.lemmas.Bool.Decides.{Decides-eqb, nat_tests}
use Rattle.std.proofs.lemmas.List.{append_cancel_left}
use Rattle.std.proofs.lemmas.List.Sums.{take_while-cons}
use Rattle.std.proofs.lemmas.Slice.Eq.{starts_is}
use Rattle.trio_text.specs.declared.token.Token.{Token}
use Rattle.trio_text.specs.declared.token.TokenKind.{TokenKind}
use Rattle.trio_text.specs.declared.token.LexFault.{LexFault}
use Rattle.trio_text.specs.declared.token.LexFault.TheVariants.{Byte}
use Rattle.trio_text.specs.Spelling.{is_blank, Spells}
use Rattle.trio_text.specs.Tokens.{IsLongest, IsComment, EndsLine, line_after, Lexes, IsTokens, BeginsNothing, IsLexFault, AreTokens}
use Rattle.trio_text.specs.Tokens.Lexes.{nothing, blank, comment, token}
use Rattle.trio_text.specs.Reading.{IsFront, BeginsNoToken, BeginsNoBlank, ReadsTokens}
use Rattle.trio_text.proofs.Runs.{and_left, and_right, not_true, not_false, Ends, run, run_only, GoesOn, goes_on, none_longer}
use Rattle.trio_text.proofs.Longest.{drop_seam, begins_some}
use Rattle.trio_text.proofs.Spellings.{begins_with, begins_token, token_begins, one_kind}

-- ---- what stands in front

-- a token does not begin with a blank or a slash
no_token_at : (k : TokenKind) (word rest : List ℕ) (b : ℕ) (bs : List ℕ) → Spells k word → word ++ rest ≡ b ∷ bs → begins_token b ≡ true
no_token_at k [] rest b bs spells is = absurd (false≢true (token_begins k [] spells))
no_token_at k (w ∷ word) rest b bs spells is =
    let first : w ≡ b = cc in ap begins_token (sym first) ∙ token_begins k (w ∷ word) spells

token_no_blank : (k : TokenKind) (word rest : List ℕ) (b : ℕ) (bs : List ℕ) → Spells k word → word ++ rest ≡ b ∷ bs → is_blank b ≡ true → ⊥
token_no_blank k word rest b bs spells is blanks =
    false≢true (sym (not_true _ (and_left (not (is_blank b)) _ (no_token_at k word rest b bs spells is))) ∙ blanks)

token_no_slash : (k : TokenKind) (word rest : List ℕ) (b : ℕ) (bs : List ℕ) → Spells k word → word ++ rest ≡ b ∷ bs → b ≡ 47 → ⊥
token_no_slash k word rest b bs spells is slash =
    false≢true (sym (not_true _ (and_right (not (is_blank b)) _ (no_token_at k word rest b bs spells is))) ∙ ap (λ n. n == 47) slash)

comment_slash : (bytes rest : List ℕ) (b : ℕ) (bs : List ℕ) → IsComment bytes → bytes ++ rest ≡ b ∷ bs → b ≡ 47
comment_slash bytes rest b bs is same =
    let begins : 47 ∷ 47 ∷ is.line ++ rest ≡ b ∷ bs = ap (λ w. w ++ rest) (sym is.begins) ∙ same in cc

slash_no_blank : (b : ℕ) → b ≡ 47 → is_blank b ≡ true → ⊥
slash_no_blank b slash blanks = false≢true (sym (ap is_blank slash) ∙ blanks)

ends_run : (text : List ℕ) → EndsLine text → Ends (λ b. not (b == 10)) text
ends_run [] ends = tt
ends_run (b ∷ text) ends = ap (λ n. not (n == 10)) ends

comment_run : (bytes : List ℕ) → IsComment bytes → list_all (λ b. not (b == 10)) bytes ≡ true
comment_run bytes is = ap (list_all (λ b. not (b == 10))) is.begins ∙ is.one_line

begins_front : (word rest : List ℕ) → begins_with begins_token word ≡ true → begins_with begins_token (word ++ rest) ≡ true
begins_front [] rest begins = absurd (false≢true begins)
begins_front (b ∷ word) rest begins = begins

-- ---- a step is the only one

-- reading ends here: nothing is left, or nothing begins
abbrev pub Final : List ℕ → Type 0
Final end = (end ≡ []) ⊎ BeginsNothing end

final_blank : (text : List ℕ) → Final text → (b : ℕ) (rest : List ℕ) → text ≡ b ∷ rest → is_blank b ≡ true → ⊥
final_blank text (inl empty) b rest is blanks = let no : [] ≡ b ∷ rest = sym empty ∙ is in cc
final_blank text (inr stuck) b rest is blanks = stuck.blank b rest is blanks

final_comment : (text : List ℕ) → Final text → (bytes rest : List ℕ) → text ≡ bytes ++ rest → IsComment bytes → ⊥
final_comment text (inl empty) bytes rest is c = let no : [] ≡ 47 ∷ 47 ∷ c.line ++ rest = sym empty ∙ is ∙ ap (λ w. w ++ rest) c.begins in cc
final_comment text (inr stuck) bytes rest is c = stuck.comment (c.line ++ rest) (is ∙ ap (λ w. w ++ rest) c.begins)

final_token : (text : List ℕ) → Final text → (k : TokenKind) (word rest : List ℕ) → text ≡ word ++ rest → Spells k word → ⊥
final_token text (inl empty) k word rest is spells =
    false≢true (ap (begins_with begins_token) (sym empty ∙ is) ∙ begins_front word rest (token_begins k word spells))
final_token text (inr stuck) k word rest is spells = stuck.token k word rest is spells

-- behind a blank
after_blank : (place line : ℕ) (text : List ℕ) (others : List Token) (end : List ℕ) → Lexes place line text others end → Final end →
    (b : ℕ) (rest : List ℕ) → text ≡ b ∷ rest → is_blank b ≡ true → Lexes (place + 1) (line_after line b) rest others end
after_blank place line text others end nothing final b rest is blanks = absurd (final_blank text final b rest is blanks)
after_blank place line text others end (blank {b = c} {text = behind} also more) final b rest is blanks =
    let first : c ≡ b = cc in
    let tail : behind ≡ rest = cc in
    subst (λ (t : List ℕ). Lexes (place + 1) (line_after line b) t others end) tail
    (subst (λ (n : ℕ). Lexes (place + 1) (line_after line n) behind others end) first more)
after_blank place line text others end (comment {bytes = bytes} {text = behind} is_comment ends more) final b rest is blanks =
    absurd (slash_no_blank b (comment_slash bytes behind b rest is_comment is) blanks)
after_blank place line text others end (token {word = word} {text = behind} {kind = k} spells longest more) final b rest is blanks =
    absurd (token_no_blank k word behind b rest spells is blanks)

-- behind a comment
after_comment : (place line : ℕ) (text : List ℕ) (others : List Token) (end : List ℕ) → Lexes place line text others end → Final end →
    (bytes rest : List ℕ) → text ≡ bytes ++ rest → IsComment bytes → EndsLine rest → Lexes (place + length bytes) line rest others end
after_comment place line text others end nothing final bytes rest is c ends = absurd (final_comment text final bytes rest is c)
after_comment place line text others end (blank {b = b} {text = behind} blanks more) final bytes rest is c ends =
    absurd (slash_no_blank b (comment_slash bytes rest b behind c (sym is)) blanks)
after_comment place line text others end (comment {bytes = others_bytes} {text = behind} is_comment other_ends more) final bytes rest is c ends =
    let same = run_only (λ b. not (b == 10)) others_bytes behind bytes rest (comment_run others_bytes is_comment) (ends_run behind other_ends) (comment_run bytes c) (ends_run rest ends) is in
    subst (λ (t : List ℕ). Lexes (place + length bytes) line t others end) same.1
    (subst (λ (n : List ℕ). Lexes (place + length n) line behind others end) same.0 more)
after_comment place line text others end (token {word = word} {text = behind} {kind = k} spells longest more) final bytes rest is c ends =
    let slashes : word ++ behind ≡ 47 ∷ (47 ∷ c.line ++ rest) = is ∙ ap (λ w. w ++ rest) c.begins in
    absurd (token_no_slash k word behind 47 (47 ∷ c.line ++ rest) spells slashes refl)

-- two longest tokens in front of one text are one
one_word_by : (k l : TokenKind) (word rest other behind : List ℕ) → Spells k word → IsLongest word rest → Spells l other → IsLongest other behind →
    GoesOn word rest other behind ⊎ GoesOn other behind word rest → word ≡ other
one_word_by k l word rest other behind spells longest also longest_also (inl on) =
    let none : on.more ≡ [] = longest.longest l on.more behind on.back (subst (Spells l) on.front also) in
    sym (on.front ∙ ap (λ m. word ++ m) none ∙ append-nil word)
one_word_by k l word rest other behind spells longest also longest_also (inr on) =
    let none : on.more ≡ [] = longest_also.longest k on.more rest on.back (subst (Spells k) on.front spells) in
    on.front ∙ ap (λ m. other ++ m) none ∙ append-nil other

one_word : (k l : TokenKind) (word rest other behind : List ℕ) → Spells k word → IsLongest word rest → Spells l other → IsLongest other behind →
    word ++ rest ≡ other ++ behind → word ≡ other
one_word k l word rest other behind spells longest also longest_also same =
    one_word_by k l word rest other behind spells longest also longest_also (goes_on word rest other behind same)

-- behind a token, with it
abbrev token_at : TokenKind → ℕ → ℕ → ℕ → Token
token_at k place n line = record { kind = k; start = place; end = place + n; line = line }

pub record After (place line : ℕ) (k : TokenKind) (word rest : List ℕ) (others : List Token) (end : List ℕ) : Type 0 where
  pub more : List Token
  pub behind : Lexes (place + length word) line rest more end
  pub first : others ≡ token_at k place (length word) line ∷ more

after_token_same : (place line : ℕ) (k l : TokenKind) (word other rest behind : List ℕ) (more : List Token) (end : List ℕ) → other ≡ word → l ≡ k → behind ≡ rest →
    Lexes (place + length other) line behind more end → After place line k word rest (token_at l place (length other) line ∷ more) end
after_token_same place line k l word other rest behind more end words kinds tails lexes = record {
  more = more;
  behind =
      subst (λ (t : List ℕ). Lexes (place + length word) line t more end) tails
      (subst (λ (w : List ℕ). Lexes (place + length w) line behind more end) words lexes);
  first = λ i. token_at (kinds i) place (length (words i)) line ∷ more;
}

after_token : (place line : ℕ) (text : List ℕ) (others : List Token) (end : List ℕ) → Lexes place line text others end → Final end →
    (k : TokenKind) (word rest : List ℕ) → text ≡ word ++ rest → Spells k word → IsLongest word rest → After place line k word rest others end
after_token place line text others end nothing final k word rest is spells longest = absurd (final_token text final k word rest is spells)
after_token place line text others end (blank {b = b} {text = behind} blanks more) final k word rest is spells longest =
    absurd (token_no_blank k word rest b behind spells (sym is) blanks)
after_token place line text others end (comment {bytes = bytes} {text = behind} c ends more) final k word rest is spells longest =
    let slashes : word ++ rest ≡ 47 ∷ (47 ∷ c.line ++ behind) = sym is ∙ ap (λ w. w ++ behind) c.begins in
    absurd (token_no_slash k word rest 47 (47 ∷ c.line ++ behind) spells slashes refl)
after_token place line text others end (token {word = other} {text = behind} {tokens = tokens} {kind = l} also longest_also more) final k word rest is spells longest =
    let words : other ≡ word = one_word l k other behind word rest also longest_also spells longest is in
    let kinds : l ≡ k = one_kind l k word (subst (Spells l) words also) spells in
    let tails : behind ≡ rest = append_cancel_left word behind rest (ap (λ w. w ++ behind) (sym words) ∙ is) in
    after_token_same place line k l word other rest behind tokens end words kinds tails more

-- ---- a text is read in one way

-- where reading ends there are no tokens
ended : (place line : ℕ) (text : List ℕ) (others : List Token) (end : List ℕ) → Lexes place line text others end → Final text → (others ≡ []) × (end ≡ text)
ended place line text others end nothing final = (refl, refl)
ended place line text others end (blank {b = b} {text = behind} blanks more) final = absurd (final_blank text final b behind refl blanks)
ended place line text others end (comment {bytes = bytes} {text = behind} c ends more) final = absurd (final_comment text final bytes behind refl c)
ended place line text others end (token {word = word} {text = behind} {kind = k} spells longest more) final = absurd (final_token text final k word behind refl spells)

-- two readings that end are one
pub one_reading : (place line : ℕ) (text : List ℕ) (tokens : List Token) (end : List ℕ) → Lexes place line text tokens end → Final end →
    (others : List Token) (other_end : List ℕ) → Lexes place line text others other_end → Final other_end → (tokens ≡ others) × (end ≡ other_end)
one_reading place line text tokens end nothing final others other_end lexes other_final =
    let none = ended place line text others other_end lexes final in (sym none.0, sym none.1)
one_reading place line text tokens end (blank {b = b} {text = behind} blanks more) final others other_end lexes other_final =
    one_reading (place + 1) (line_after line b) behind tokens end more final others other_end (after_blank place line text others other_end lexes other_final b behind refl blanks) other_final
one_reading place line text tokens end (comment {bytes = bytes} {text = behind} c ends more) final others other_end lexes other_final =
    one_reading (place + length bytes) line behind tokens end more final others other_end (after_comment place line text others other_end lexes other_final bytes behind refl c ends) other_final
one_reading place line text tokens end (token {word = word} {text = behind} {tokens = rest_tokens} {kind = k} spells longest more) final others other_end lexes other_final =
    let after = after_token place line text others other_end lexes other_final k word behind refl spells longest in
    let same = one_reading (place + length word) line behind rest_tokens end more final after.more other_end after.behind other_final in
    (ap (λ ts. token_at k place (length word) line ∷ ts) same.0 ∙ sym after.first, same.1)

-- a text is one list of tokens
pub one_list : (text : List ℕ) (tokens others : List Token) → IsTokens text tokens → IsTokens text others → tokens ≡ others
one_list text tokens others lexes also = (one_reading 0 1 text tokens [] lexes (inl refl) others [] also (inl refl)).0

-- a text with a fault is no list of tokens
pub fault_or_tokens : (text : List ℕ) (place : ℕ) (tokens : List Token) → IsLexFault text place → IsTokens text tokens → ⊥
fault_or_tokens text place tokens fault lexes =
    let same = one_reading 0 1 text fault.tokens fault.rest fault.before (inr fault.stuck) tokens [] lexes (inl refl) in
    omega (arith, fault.stuck.some, ap length same.1)

-- a text has one fault
pub one_fault : (text : List ℕ) (place other : ℕ) → IsLexFault text place → IsLexFault text other → place ≡ other
one_fault text place other fault also =
    let same = one_reading 0 1 text fault.tokens fault.rest fault.before (inr fault.stuck) also.tokens also.rest also.before (inr also.stuck) in
    omega (arith, fault.here, also.here, ap length same.1)

-- ---- steps

pub reads_none : (place line : ℕ) (text : List ℕ) → ReadsTokens place line text [] place line text
reads_none place line text = record {
  into = λ more end lexes. lexes;
  only = λ others lexes. (others, lexes, refl);
  here = refl;
}

pub reads_blank : (place line b : ℕ) (text rest : List ℕ) → text ≡ b ∷ rest → is_blank b ≡ true → ReadsTokens place line text [] (place + 1) (line_after line b) rest
reads_blank place line b text rest is blanks = record {
  into = λ more end lexes. subst (λ (t : List ℕ). Lexes place line t more end) (sym is) (blank blanks lexes);
  only = λ others lexes. (others, after_blank place line text others [] lexes (inl refl) b rest is blanks, refl);
  here = omega (arith, ap length is);
}

pub reads_comment : (place line : ℕ) (text bytes rest : List ℕ) → text ≡ bytes ++ rest → IsComment bytes → EndsLine rest → ReadsTokens place line text [] (place + length bytes) line rest
reads_comment place line text bytes rest is c ends = record {
  into = λ more end lexes. subst (λ (t : List ℕ). Lexes place line t more end) (sym is) (comment c ends lexes);
  only = λ others lexes. (others, after_comment place line text others [] lexes (inl refl) bytes rest is c ends, refl);
  here = omega (arith, ap length is, length-append bytes rest);
}

pub reads_token : (place line : ℕ) (k : TokenKind) (text word rest : List ℕ) → text ≡ word ++ rest → Spells k word → IsLongest word rest →
    ReadsTokens place line text (token_at k place (length word) line ∷ []) (place + length word) line rest
reads_token place line k text word rest is spells longest = record {
  into = λ more end lexes. subst (λ (t : List ℕ). Lexes place line t (token_at k place (length word) line ∷ more) end) (sym is) (token spells longest lexes);
  only = λ others lexes. let after = after_token place line text others [] lexes (inl refl) k word rest is spells longest in (after.more, after.behind, after.first);
  here = omega (arith, ap length is, length-append word rest);
}

pub reads_on : (p l q m r n : ℕ) (text middle rest : List ℕ) (tokens more : List Token) → ReadsTokens p l text tokens q m middle → ReadsTokens q m middle more r n rest →
    ReadsTokens p l text (tokens ++ more) r n rest
reads_on p l q m r n text middle rest tokens more a b = record {
  into = λ others end lexes.
      subst (λ (ts : List Token). Lexes p l text ts end) (sym (append_assoc tokens more others)) (a.into (more ++ others) end (b.into others end lexes));
  only = λ others lexes.
      let first = a.only others lexes in
      let second = b.only first.0 first.1 in
      (second.0, second.1, first.2 ∙ ap (λ ts. tokens ++ ts) second.2 ∙ sym (append_assoc tokens more second.0));
  here = omega (arith, a.here, b.here);
}

-- ---- the end

-- the whole text was read
pub reads_all : (text rest : List ℕ) (tokens : List Token) (place line : ℕ) → ReadsTokens 0 1 text tokens place line rest → rest ≡ [] →
    IsTokens text tokens × ((others : List Token) → IsTokens text others → others ≡ tokens)
reads_all text rest tokens place line r empty = (
  subst (λ (ts : List Token). Lexes 0 1 text ts []) (append-nil tokens) (r.into [] [] (subst (λ (t : List ℕ). Lexes place line t [] []) (sym empty) nothing)),
  λ others lexes.
      let last = r.only others lexes in
      last.2 ∙ ap (λ ts. tokens ++ ts) (ended place line rest last.0 [] last.1 (inl empty)).0 ∙ append-nil tokens,
)

-- nothing begins behind what was read
pub reads_stuck : (text rest : List ℕ) (tokens : List Token) (place line : ℕ) → ReadsTokens 0 1 text tokens place line rest → BeginsNothing rest →
    IsLexFault text place × ((others : List Token) → IsTokens text others → ⊥)
reads_stuck text rest tokens place line r stuck =
    let fault : IsLexFault text place = record {
      tokens = tokens;
      rest = rest;
      before = subst (λ (ts : List Token). Lexes 0 1 text ts rest) (append-nil tokens) (r.into [] rest nothing);
      here = omega (arith, r.here);
      stuck = stuck;
    } in
    (fault, λ others lexes. fault_or_tokens text place others fault lexes)

pub begins_nothing : (text : List ℕ) → 0 < length text → BeginsNoBlank text → BeginsNoToken text → BeginsNothing text
begins_nothing text some blanks tokens = record { some = some; blank = blanks.blank; comment = blanks.comment; token = tokens.token }

-- ---- steps of the reader

reads_to : (place line : ℕ) (text : List ℕ) (tokens : List Token) (q m r n : ℕ) (rest behind : List ℕ) → ReadsTokens place line text tokens q m rest → r ≡ q → n ≡ m → behind ≡ rest →
    ReadsTokens place line text tokens r n behind
reads_to place line text tokens q m r n rest behind reads places lines rests =
    subst (λ (t : List ℕ). ReadsTokens place line text tokens r n t) (sym rests)
    (subst (λ (k : ℕ). ReadsTokens place line text tokens r k rest) (sym lines)
    (subst (λ (k : ℕ). ReadsTokens place line text tokens k m rest) (sym places) reads))

-- past a blank
pub skips_blank : (place line b : ℕ) (text tail : List ℕ) (at at_line : ℕ) (rest : List ℕ) → text ≡ b ∷ tail → true ≡ is_blank b → at ≡ place + 1 → at_line ≡ line_after line b →
    rest ≡ drop 1 text → ReadsTokens place line text [] at at_line rest
skips_blank place line b text tail at at_line rest is blanks places lines rests =
    reads_to place line text [] (place + 1) (line_after line b) at at_line tail rest (reads_blank place line b text tail is (sym blanks)) places lines (rests ∙ ap (drop 1) is)

pub line_at_newline : (line b : ℕ) → b ≡ 10 → line_after line b ≡ line + 1
line_at_newline line b is = ap (line_after line) is

pub line_elsewhere : (line b : ℕ) → (b ≡ 10 → ⊥) → line_after line b ≡ line
line_elsewhere line b other = ap (λ t. if t then line + 1 else line) (ne_eqb b 10 other)

ends_line : (text : List ℕ) → Ends (λ b. not (b == 10)) text → EndsLine text
ends_line [] ends = tt
ends_line (b ∷ text) ends = (Decides-eqb b 10).0 (not_false _ ends)

pub comment_front : (text behind : List ℕ) → text ≡ 47 ∷ 47 ∷ behind → IsComment (take_while (λ b. not (b == 10)) text)
comment_front text behind is = record {
  line = take_while (λ b. not (b == 10)) behind;
  begins =
      ap (take_while (λ b. not (b == 10))) is ∙ take_while-cons (λ b. not (b == 10)) 47 (47 ∷ behind)
      ∙ ap (λ w. 47 ∷ w) (take_while-cons (λ b. not (b == 10)) 47 behind);
  one_line = (run (λ b. not (b == 10)) behind).1.all;
}

-- past a comment
pub skips_comment : (place line : ℕ) (text : List ℕ) (n at at_line : ℕ) (rest : List ℕ) → true ≡ starts_with nat_eq text (47 ∷ 47 ∷ []) →
    n ≡ length (take_while (λ b. not (b == 10)) text) → at ≡ place + n → at_line ≡ line → rest ≡ drop n text → ReadsTokens place line text [] at at_line rest
skips_comment place line text n at at_line rest starts is places lines rests =
    let runs = run (λ b. not (b == 10)) text in
    let bytes : List ℕ = take_while (λ b. not (b == 10)) text in
    let begins : text ≡ (47 ∷ 47 ∷ []) ++ drop 2 text = (starts_is Decides-eqb text (47 ∷ 47 ∷ []) (starts_with nat_eq text (47 ∷ 47 ∷ [])) refl).0 (sym starts) in
    reads_to place line text [] (place + length bytes) line at at_line runs.0 rest
    (reads_comment place line text bytes runs.0 runs.1.whole (comment_front text (drop 2 text) begins) (ends_line runs.0 runs.1.ends))
    (places ∙ ap (λ k. place + k) is) lines (rests ∙ (λ i. drop (is i) (runs.1.whole i)) ∙ drop_seam bytes runs.0)

-- past a token
pub reads_front : (place newlines : ℕ) (k : TokenKind) (text : List ℕ) (n at after : ℕ) (rest : List ℕ) → IsFront text k n → at ≡ place + n → after ≡ newlines → rest ≡ drop n text →
    ReadsTokens place (newlines + 1) text (record { kind = k; start = place; end = at; line = after + 1 } ∷ []) at (after + 1) rest
reads_front place newlines k text n at after rest front places lines rests =
    let whole : text ≡ take n text ++ drop n text = sym (take-append-drop n text) in
    let long : length (take n text) ≡ n = length-take-le n text front.within in
    let ends : at ≡ place + length (take n text) = places ∙ ap (λ m. place + m) (sym long) in
    let ends_at : place + length (take n text) ≡ at = sym ends in
    subst (λ (t : Token). ReadsTokens place (newlines + 1) text (t ∷ []) at (after + 1) rest)
    (λ i. record { kind = k; start = place; end = ends_at i; line = sym lines i + 1 })
    (reads_to place (newlines + 1) text (token_at k place (length (take n text)) (newlines + 1) ∷ []) (place + length (take n text)) (newlines + 1) at (after + 1) (drop n text) rest
    (reads_token place (newlines + 1) k text (take n text) (drop n text) whole front.spells front.longest) ends (ap (λ m. m + 1) lines) rests)

pub front_shorter : (k : TokenKind) (text : List ℕ) (n : ℕ) (rest : List ℕ) → IsFront text k n → rest ≡ drop n text → length rest < length text
front_shorter k text n rest front rests =
    let long : length (take n text) ≡ n = length-take-le n text front.within in
    let some : 0 < length (take n text) = begins_some begins_token (take n text) (token_begins k (take n text) front.spells) in
    omega (arith, ap length rests, length-drop n text, long, some, front.within)

-- a token more
pub reads_next : (text : List ℕ) (found : List Token) (place newlines : ℕ) (rest : List ℕ) (q m : ℕ) (same : List ℕ) (t : Token) (r n : ℕ) (behind : List ℕ) →
    ReadsTokens 0 1 text found place (newlines + 1) rest → (same ≡ rest) × (q ≡ place) × (m ≡ newlines) → ReadsTokens q (m + 1) same (t ∷ []) r (n + 1) behind →
    ReadsTokens 0 1 text (found ++ t ∷ []) r (n + 1) behind
reads_next text found place newlines rest q m same t r n behind before stays read =
    reads_on 0 1 q (m + 1) r (n + 1) text same behind found (t ∷ [])
    (reads_to 0 1 text found place (newlines + 1) q (m + 1) rest same before stays.1 (ap (λ k. k + 1) stays.2) stays.0) read

-- the fault
pub reads_fault : (text : List ℕ) (found : List Token) (place line : ℕ) (rest : List ℕ) (q : ℕ) (same : List ℕ) (r : Result (List Token) LexFault) (e : LexFault) →
    ReadsTokens 0 1 text found place line rest → 0 < length rest → BeginsNoBlank rest → same ≡ rest → q ≡ place → (e ≡ Byte q) × BeginsNoToken same →
    IsErrAnd r (λ y. y ≡ e) → AreTokens text r
reads_fault text found place line rest q same (Ok x) e before some blanks rests places stuck err = absurd err
reads_fault text found place line rest q same (Err y) e before some blanks rests places stuck err =
    subst (λ (f : LexFault). AreTokens text (Err f)) (ap Byte (sym places) ∙ sym stuck.0 ∙ sym err)
    (reads_stuck text rest found place line before (begins_nothing rest some blanks (subst BeginsNoToken rests stuck.1)))

pub some_left : (rest : List ℕ) → (length rest == 0) ≡ false → 0 < length rest
some_left rest some = grind (arith, nat_tests)

pub reads_past : (text : List ℕ) (found : List Token) (p l q m r n : ℕ) (middle rest : List ℕ) → ReadsTokens p l text found q m middle → ReadsTokens q m middle [] r n rest → ReadsTokens p l text found r n rest
reads_past text found p l q m r n middle rest before past =
    subst (λ (ts : List Token). ReadsTokens p l text ts r n rest) (append-nil found) (reads_on p l q m r n text middle rest found [] before past)

pub all_read : (rest : List ℕ) → true ≡ (length rest == 0) → rest ≡ []
all_read rest none = none_longer rest ((Decides-eqb (length rest) 0).0 (sym none))

-- what holds of a success holds where there is no error
pub no_error : {A E P : Type 0} (r : Result A E) → false ≡ is_err r → OnOk r P → P
no_error (Ok x) ok holds = holds
no_error (Err e) ok holds = absurd (false≢true ok)
