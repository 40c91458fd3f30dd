-- The canonical text of a formula is a text of the rows of formulas, and its tree stands for the formula.
use Rattle.std.proofs.Common.{◌≡◌, ℕ, Bool, true, false, ◌==◌, if◌then◌else◌, List, [], ◌∷◌, ◌++◌, map, Option, None, Some, slice_get, refl, sym, ap, subst, ◌∙◌}
use Rattle.std.specs.List.{list_all, flat_map}
use Rattle.std.proofs.Math.Logic.{⊎_elim}
use Rattle.std.proofs.lemmas.Bool.{and_parts, cases_Bool, false≢true}
use Rattle.std.proofs.lemmas.List.{append-nil, append_assoc}
use Rattle.trio_base.specs.declared.operators.Rel.{Rel}
use Rattle.trio_base.specs.declared.operators.OneOp.{OneOp}
use Rattle.trio_base.specs.declared.operators.FarOp.{FarOp}
use Rattle.trio_base.specs.declared.operators.PairOp.{PairOp}
use Rattle.trio_text.specs.declared.lexeme.Lexeme.{Lexeme}
use Rattle.trio_text.specs.declared.lexeme.Lexeme.TheVariants as lexeme
use Rattle.trio_text.specs.declared.token.Reserved.TheVariants as word
use Rattle.trio_text.specs.declared.token.Symbol.{Symbol}
use Rattle.trio_text.specs.declared.token.Symbol.TheVariants as signs
use Rattle.trio_types.specs.declared.formula.Term.{Term}
use Rattle.trio_types.specs.declared.formula.Formula.{Formula}
use Rattle.trio_types.specs.declared.formula.Formula.TheVariants as formulas
use Rattle.trio_types.specs.declared.formula.Formula.TheOpen as open_formula
use Rattle.trio_types.specs.Parts.{Parts}
use Rattle.trio_types.specs.Shape.{term_is_shaped, two_or_more, is_shaped}
use Rattle.trio_types.proofs.ShapeAt.{is_shaped-Lone, is_shaped-Compare, is_shaped-Not, is_shaped-And, is_shaped-Or, is_shaped-Implies, is_shaped-Iff, is_shaped-All, is_shaped-Ex, is_shaped-One, is_shaped-Far, is_shaped-Pair}
use Rattle.trio_types.proofs.Lists.{map-map}
use Rattle.trio_syntax.specs.declared.tree.Quantifier.{Quantifier}
use Rattle.trio_syntax.specs.declared.tree.Quantifier.TheVariants as quantifiers
use Rattle.trio_syntax.specs.declared.tree.Mention.{Mention}
use Rattle.trio_syntax.specs.declared.tree.TermTree.{TermTree}
use Rattle.trio_syntax.specs.declared.tree.FormulaTree.{FormulaTree}
use Rattle.trio_syntax.specs.Words.{rel_sign, one_word, far_word, pair_word, arrow_sign, quantifier_word}
use Rattle.trio_syntax.specs.Forms.{seq, row, formula, disj, conj, unary, primary, term}
use Rattle.trio_syntax.specs.Grammar.{ref, atom, and_of, or_of, arrowed, a_sign}
use Rattle.trio_print.specs.Pieces.{Piece, blank, lexemes_in}
use Rattle.trio_print.specs.Canonical.{Printed, FormulaText, formula_text, text_of_formula, own_group, in_group, term_plain, many_text, quantified_text, joined_pieces, in_round, spaced, comma, sign, word_, name_, domain_name}
use Rattle.trio_print.specs.Canonical.{ref_pieces}
use Rattle.trio_types.proofs.Inductions.{Each, FormulaCases, every_formula}
use Rattle.trio_reader.specs.Erasure.{quantified as quantified_formula}
use Rattle.trio_canonical.proofs.Told.{Told, told_text, told_map, told_empty, told_one, told_row, told_seq, told_left, told_right, told_both, told_behind, told_before, told_round, told_none, told_many, told_listed, Pairwise, each_map}
use Rattle.trio_canonical.proofs.Texts.{lexemes-append, lexemes-round, lexemes-joined, text-Lone, text-Compare, text-Not, text-And, text-Or, text-Implies, text-Iff, text-All, text-Ex, text-One, text-Far, text-Pair}
use Rattle.trio_canonical.proofs.TermStands.{Stands}
use Rattle.trio_canonical.proofs.TermTexts.{term_told, each_passing}
use Rattle.trio_canonical.proofs.FormulaStands.{StandsFor, RefStands, stands_bool, stands_named, stands_lone, stands_compare, stands_not, stands_and, stands_or, stands_implies, stands_iff, stands_quantified, stands_one, stands_far, stands_pair}

-- a text of a lower row is one of a higher row
pub told_unary : {P : FormulaTree → Type 0} {x : List Lexeme} → Told (row primary) P x → Told (row unary) P x
told_unary t = told_row unary (told_right t)

told_conj : (P : FormulaTree → Type 0) {x : List Lexeme} → Told (row unary) P x → Told (row conj) (λ ts. P (and_of ts)) x
told_conj P {x} t =
    told_row conj (told_text (append-nil x) (told_seq {P = P} {Q = λ ts. ts ≡ []} (λ p v vs good none. rw (none) good) t (told_none refl)))

told_disj : (P : FormulaTree → Type 0) {x : List Lexeme} → Told (row conj) (λ ts. P (and_of ts)) x → Told (row disj) (λ ts. P (or_of ts)) x
told_disj P {x} t =
    told_row disj (told_text (append-nil x) (told_seq {P = λ ts. P (and_of ts)} {Q = λ ts. ts ≡ []} (λ p v vs good none. rw (none) good) t (told_none refl)))

told_formula : (P : FormulaTree → Type 0) {x : List Lexeme} → Told (row disj) (λ ts. P (or_of ts)) x → Told (row formula) P x
told_formula P {x} t =
    told_row formula (told_text (append-nil x)
    (told_seq {P = λ ts. P (or_of ts)} {Q = λ (o : Option (Bool × List FormulaTree)). o ≡ None} (λ p v o good none. rw (none) good) t (told_right (told_empty refl))))

told_up : (P : FormulaTree → Type 0) {x : List Lexeme} → Told (row primary) P x → Told (row formula) P x
told_up P t = told_formula P (told_disj P (told_conj P (told_unary t)))

-- the texts of a formula, each as a text of its row
pub record HasFormulaTexts (parts : Parts) (names : List (List ℕ)) (f : Formula) (t : FormulaText) : Type 0 where
  pub plain : Told (row formula) (StandsFor parts names f) (lexemes_in (t.plain names))
  pub grouped : Told (row primary) (StandsFor parts names f) (lexemes_in (t.grouped names))

pub ref_told : (parts : Parts) (d : ℕ) → Told ref (RefStands parts d) (lexemes_in (ref_pieces parts d))
ref_told parts d =
    ⊎_elim
    (λ first. told_text (sym (ap (λ b. lexemes_in (if b then word_ word.Bool else name_ (domain_name (slice_get parts.domains d)))) first))
    (told_left (told_one tt (λ p. stands_bool parts d first))))
    (λ other. told_text (sym (ap (λ b. lexemes_in (if b then word_ word.Bool else name_ (domain_name (slice_get parts.domains d)))) other))
    (told_right (told_one (domain_name (slice_get parts.domains d)) (λ p. stands_named parts d _ other refl))))
    (cases_Bool (d == 0))

module _ (parts : Parts) (names : List (List ℕ)) where
  own_group_texts : (f : Formula) (t : Printed) → Told (row primary) (StandsFor parts names f) (lexemes_in (t names)) → HasFormulaTexts parts names f (own_group t)
  own_group_texts f t told = record { plain = told_up (StandsFor parts names f) told; grouped = told }

  in_group_texts : (f : Formula) (t : Printed) → Told (row formula) (StandsFor parts names f) (lexemes_in (t names)) → HasFormulaTexts parts names f (in_group t)
  in_group_texts f t told = record {
    plain = told;
    grouped = told_row primary (told_left (told_text (sym (lexemes-round (t names))) (told_round told)));
  }

  -- atoms
  abbrev term_tokens : Term → List Lexeme
  term_tokens x = lexemes_in (term_plain parts x names)

  told_atom : {P : FormulaTree → Type 0} {x : List Lexeme} → Told atom P x → Told (row primary) P x
  told_atom t = told_row primary (told_right (told_right (told_right (told_right (told_right t)))))

  lone_told : (x : Term) → Told (row term) (Stands parts names x) (term_tokens x) → Told (row primary) (StandsFor parts names (formulas.Lone x)) (term_tokens x)
  lone_told x told =
      told_atom (told_text (append-nil (term_tokens x))
      (told_seq {P = Stands parts names x} {Q = λ (o : Option (Rel × ℕ × TermTree)). o ≡ None} (λ p t o good none. rw (none) (stands_lone parts names x t good))
      told (told_right (told_empty refl))))

  compare_told : (r : Rel) (x y : Term) → Told (row term) (Stands parts names x) (term_tokens x) → Told (row term) (Stands parts names y) (term_tokens y) →
      Told (row primary) (StandsFor parts names (formulas.Compare r x y)) (term_tokens x ++ lexeme.Sign (rel_sign r) ∷ term_tokens y)
  compare_told r x y one two =
      told_atom
      (told_seq {P = Stands parts names x} {Q = λ (o : Option (Rel × ℕ × TermTree)). (p : ℕ) × (u : TermTree) × (o ≡ Some (r, p, u)) × Stands parts names y u}
      (λ p t o good some. let there = some.2 in rw (there) (stands_compare parts names r x y some.0 t some.1 good some.3))
      one (told_left
      (told_seq {P = λ s. s ≡ r} (λ p s u is good. (p, u, ap (λ s. Some (s, p, u)) is, good)) (told_one r (λ p. refl)) two)))

  lexemes-between : (x y : List Piece) (s : Symbol) → lexemes_in (x ++ spaced s ++ y) ≡ lexemes_in x ++ lexeme.Sign s ∷ lexemes_in y
  lexemes-between x y s = lexemes-append (x ++ spaced s) y ∙ rw (lexemes-append x (spaced s)) (append_assoc (lexemes_in x) (lexeme.Sign s ∷ []) (lexemes_in y))

  lone_texts : (x : Term) → term_is_shaped x ≡ true → HasFormulaTexts parts names (formulas.Lone x) (formula_text parts (open_formula.Lone x))
  lone_texts x shaped = own_group_texts (formulas.Lone x) (term_plain parts x) (lone_told x (term_told parts x shaped names).plain)

  compare_texts : (r : Rel) (x y : Term) → term_is_shaped x ≡ true → term_is_shaped y ≡ true →
      HasFormulaTexts parts names (formulas.Compare r x y) (formula_text parts (open_formula.Compare r x y))
  compare_texts r x y one two =
      let told = told_up (StandsFor parts names (formulas.Compare r x y)) (compare_told r x y (term_told parts x one names).plain (term_told parts y two names).plain) in
      in_group_texts (formulas.Compare r x y) (λ names. term_plain parts x names ++ spaced (rel_sign r) ++ term_plain parts y names)
      (told_text (sym (lexemes-between (term_plain parts x names) (term_plain parts y names) (rel_sign r))) told)

  -- groups
  abbrev grouped_tokens : Formula → List Lexeme
  grouped_tokens f = lexemes_in ((text_of_formula parts f).grouped names)

  abbrev plain_tokens : Formula → List Lexeme
  plain_tokens f = lexemes_in ((text_of_formula parts f).plain names)

  abbrev GroupTold : Formula → Type 0
  GroupTold f = Told (row primary) (StandsFor parts names f) (grouped_tokens f)

  abbrev PlainTold : Formula → Type 0
  PlainTold f = Told (row formula) (StandsFor parts names f) (plain_tokens f)

  not_texts : (f : Formula) → GroupTold f → HasFormulaTexts parts names (formulas.Not f) (formula_text parts (open_formula.Not (text_of_formula parts f)))
  not_texts f told =
      in_group_texts (formulas.Not f) (λ names. sign signs.Not ++ (text_of_formula parts f).grouped names)
      (told_formula (StandsFor parts names (formulas.Not f)) (told_disj (StandsFor parts names (formulas.Not f)) (told_conj (StandsFor parts names (formulas.Not f)) (told_row unary (told_left
      (told_seq {P = λ u. Unit {0}} (λ p u t one good. stands_not parts names f t good) (told_one tt (λ p. tt)) told))))))

  many_tokens : (s : Symbol) (f : Formula) (fs : List Formula) →
      lexemes_in (many_text s (map (text_of_formula parts) (f ∷ fs)) names) ≡ grouped_tokens f ++ flat_map (λ g. lexeme.Sign s ∷ grouped_tokens g) fs
  many_tokens s f fs =
      ap (λ ts. lexemes_in (joined_pieces (spaced s) ts)) (map-map (λ (t : FormulaText). t.grouped names) (text_of_formula parts) (f ∷ fs))
      ∙ lexemes-joined (spaced s) s refl (λ g. (text_of_formula parts g).grouped names) f fs

  and_told : (fs : List Formula) → two_or_more (map is_shaped fs) ≡ true → Each GroupTold fs →
      Told (row formula) (StandsFor parts names (formulas.And fs)) (lexemes_in (many_text signs.And (map (text_of_formula parts) fs) names))
  and_told [] two each = absurd (false≢true two)
  and_told (f ∷ fs) two each =
      told_text (sym (many_tokens signs.And f fs)) (told_formula (StandsFor parts names (formulas.And (f ∷ fs))) (told_disj (StandsFor parts names (formulas.And (f ∷ fs))) (told_row conj
      (told_map (λ ts good. stands_and parts names (f ∷ fs) ts two good)
      (told_listed (row unary) (StandsFor parts names) grouped_tokens signs.And f fs
      (each_map GroupTold (λ f. Told (row unary) (StandsFor parts names f) (grouped_tokens f)) (λ f t. told_unary t) (f ∷ fs) each))))))

  or_told : (fs : List Formula) → two_or_more (map is_shaped fs) ≡ true → Each GroupTold fs →
      Told (row formula) (StandsFor parts names (formulas.Or fs)) (lexemes_in (many_text signs.Or (map (text_of_formula parts) fs) names))
  or_told [] two each = absurd (false≢true two)
  or_told (f ∷ fs) two each =
      told_text (sym (many_tokens signs.Or f fs)) (told_formula (StandsFor parts names (formulas.Or (f ∷ fs))) (told_row disj
      (told_seq {P = λ ts. StandsFor parts names f (and_of ts)} {Q = Pairwise (StandsFor parts names) fs}
      (λ p ts us good more. stands_or parts names (f ∷ fs) (and_of ts ∷ us) two (good, more))
      (told_conj (StandsFor parts names f) (told_unary each.0))
      (told_many (seq (a_sign signs.Or) (row conj) (λ p u fs. and_of fs)) (StandsFor parts names) (λ g. lexeme.Sign signs.Or ∷ grouped_tokens g) fs
      (each_map GroupTold (λ g. Told (seq (a_sign signs.Or) (row conj) (λ p u fs. and_of fs)) (StandsFor parts names g) (lexeme.Sign signs.Or ∷ grouped_tokens g))
      (λ g t. told_seq {P = λ u. Unit {0}} (λ p u ts one good. good) (told_one tt (λ p. tt)) (told_conj (StandsFor parts names g) (told_unary t))) fs each.1)))))

  -- two groups with an arrow
  arrow_told : (both : Bool) (f g h : Formula) → ((t u : FormulaTree) → StandsFor parts names f t → StandsFor parts names g u → StandsFor parts names h (arrowed both t u)) →
      GroupTold f → GroupTold g →
      Told (row formula) (StandsFor parts names h) (lexemes_in ((text_of_formula parts f).grouped names ++ spaced (arrow_sign both) ++ (text_of_formula parts g).grouped names))
  arrow_told both f g h stands one two =
      told_text (sym (lexemes-between ((text_of_formula parts f).grouped names) ((text_of_formula parts g).grouped names) (arrow_sign both)))
      (told_row formula
      (told_seq {P = λ ts. StandsFor parts names f (or_of ts)}
      {Q = λ (o : Option (Bool × List FormulaTree)). (us : List FormulaTree) × (o ≡ Some (both, us)) × StandsFor parts names g (or_of us)}
      (λ p ts o good some. let there = some.1 in rw (there) (stands (or_of ts) (or_of some.0) good some.2))
      (told_disj (StandsFor parts names f) (told_conj (StandsFor parts names f) (told_unary one)))
      (told_left
      (told_seq {P = λ b. b ≡ both} {Q = λ us. StandsFor parts names g (or_of us)} (λ p b us is good. (us, ap (λ b. Some (b, us)) is, good))
      (told_one both (λ p. refl)) (told_disj (StandsFor parts names g) (told_conj (StandsFor parts names g) (told_unary two)))))))

  -- operators
  one_told : (o : OneOp) (f : Formula) → PlainTold f →
      Told (row primary) (StandsFor parts names (formulas.One o f)) (lexemes_in (word_ (one_word o) ++ in_round ((text_of_formula parts f).plain names)))
  one_told o f told =
      told_row primary (told_right (told_right (told_left
      (told_text (sym (ap (λ z. lexeme.Word (one_word o) ∷ z) (lexemes-round ((text_of_formula parts f).plain names))))
      (told_seq {P = λ op. op ≡ o} {Q = StandsFor parts names f} (λ p op t is good. rw (is) (stands_one parts names o f t good))
      (told_one o (λ p. refl)) (told_round told))))))

  lexemes-two : (x y : List Piece) → lexemes_in (in_round (x ++ comma ++ y))
      ≡ lexeme.Sign signs.LeftRound ∷ ((lexemes_in x ++ lexeme.Sign signs.Comma ∷ []) ++ (lexemes_in y ++ lexeme.Sign signs.RightRound ∷ []))
  lexemes-two x y =
      lexemes-round (x ++ comma ++ y)
      ∙ ap (λ z. lexeme.Sign signs.LeftRound ∷ z)
      (rw (lexemes-append (x ++ comma) y, lexemes-append x comma)
      (append_assoc (lexemes_in x ++ lexeme.Sign signs.Comma ∷ []) (lexemes_in y) (lexeme.Sign signs.RightRound ∷ [])))

  far_told : (o : FarOp) (f : Formula) (x : Term) → PlainTold f → Told (row term) (Stands parts names x) (term_tokens x) →
      Told (row primary) (StandsFor parts names (formulas.Far o f x))
      (lexemes_in (word_ (far_word o) ++ in_round ((text_of_formula parts f).plain names ++ comma ++ term_plain parts x names)))
  far_told o f x one two =
      told_row primary (told_right (told_right (told_right (told_left
      (told_text (sym (ap (λ z. lexeme.Word (far_word o) ∷ z) (lexemes-two ((text_of_formula parts f).plain names) (term_plain parts x names))))
      (told_seq {P = λ op. op ≡ o} {Q = λ r. StandsFor parts names f r.0 × Stands parts names x r.1}
      (λ p op r is good. rw (is) (stands_far parts names o f x r.0 r.1 good.0 good.1))
      (told_one o (λ p. refl)) (told_behind signs.LeftRound (told_both (told_before signs.Comma one) (told_before signs.RightRound two)))))))))

  pair_told : (o : PairOp) (f g : Formula) → PlainTold f → PlainTold g →
      Told (row primary) (StandsFor parts names (formulas.Pair o f g))
      (lexemes_in (word_ (pair_word o) ++ in_round ((text_of_formula parts f).plain names ++ comma ++ (text_of_formula parts g).plain names)))
  pair_told o f g one two =
      told_row primary (told_right (told_right (told_right (told_right (told_left
      (told_text (sym (ap (λ z. lexeme.Word (pair_word o) ∷ z) (lexemes-two ((text_of_formula parts f).plain names) ((text_of_formula parts g).plain names))))
      (told_seq {P = λ op. op ≡ o} {Q = λ r. StandsFor parts names f r.0 × StandsFor parts names g r.1}
      (λ p op r is good. rw (is) (stands_pair parts names o f g r.0 r.1 good.0 good.1))
      (told_one o (λ p. refl)) (told_behind signs.LeftRound (told_both (told_before signs.Comma one) (told_before signs.RightRound two))))))))))

  -- quantifiers
  quantified_tokens : (q : Quantifier) (name : List ℕ) (d : ℕ) (f : FormulaText) →
      lexemes_in (quantified_text parts (quantifier_word q) name d f names)
      ≡ lexeme.Word (quantifier_word q) ∷ lexeme.Name name ∷ lexeme.Sign signs.Colon
      ∷ (lexemes_in (ref_pieces parts d) ++ (lexeme.Sign signs.LeftRound ∷ (lexemes_in (f.plain (names ++ name ∷ [])) ++ lexeme.Sign signs.RightRound ∷ [])))
  quantified_tokens q name d f =
      ap (λ z. lexeme.Word (quantifier_word q) ∷ lexeme.Name name ∷ lexeme.Sign signs.Colon ∷ z)
      (lexemes-append (ref_pieces parts d) (blank ∷ in_round (f.plain (names ++ name ∷ [])))
      ∙ ap (λ z. lexemes_in (ref_pieces parts d) ++ z) (lexemes-round (f.plain (names ++ name ∷ []))))

  quantified_told : (q : Quantifier) (name : List ℕ) (d : ℕ) (f : Formula) →
      Told (row formula) (StandsFor parts (names ++ name ∷ []) f) (lexemes_in ((text_of_formula parts f).plain (names ++ name ∷ []))) →
      Told (row primary) (StandsFor parts names (quantified_formula q name d f)) (lexemes_in (quantified_text parts (quantifier_word q) name d (text_of_formula parts f) names))
  quantified_told q name d f told =
      told_text (sym (quantified_tokens q name d (text_of_formula parts f)))
      (told_row primary (told_right (told_left
      (told_seq {P = λ b. b ≡ q} {Q = λ r. (r.0.name ≡ name) × (RefStands parts d r.1.0 × StandsFor parts (names ++ name ∷ []) f r.1.1)}
      (λ p b r is good. rw (is) (stands_quantified parts names q name d f r.0 r.1.0 r.1.1 good.0 good.1.0 good.1.1))
      (told_one q (λ p. refl))
      (told_both {P = λ (m : Mention). m.name ≡ name} (told_one name (λ p. refl)) (told_behind signs.Colon (told_both (ref_told parts d) (told_round told))))))))

-- every formula that is shaped as one has its texts
FormulaTold : Parts → Formula → Type 0
FormulaTold parts f = is_shaped f ≡ true → (names : List (List ℕ)) → HasFormulaTexts parts names f (text_of_formula parts f)

groups_told : (parts : Parts) (names : List (List ℕ)) (fs : List Formula) → Each (FormulaTold parts) fs → list_all is_shaped fs ≡ true → Each (GroupTold parts names) fs
unfolding FormulaTold
groups_told parts names fs each all =
    each_passing is_shaped (GroupTold parts names) fs
    (each_map (FormulaTold parts) (λ f. is_shaped f ≡ true → GroupTold parts names f) (λ f is yes. (is yes names).grouped) fs each) all

formula_cases : (parts : Parts) → FormulaCases (FormulaTold parts)
unfolding FormulaTold
formula_cases parts = record {
  at_lone = λ x shaped names.
      subst (HasFormulaTexts parts names (formulas.Lone x)) (sym (text-Lone parts x)) (lone_texts parts names x (sym (is_shaped-Lone x) ∙ shaped));
  at_compare = λ r x y shaped names.
      let both = and_parts (term_is_shaped x) (term_is_shaped y) (sym (is_shaped-Compare r x y) ∙ shaped) in
      subst (HasFormulaTexts parts names (formulas.Compare r x y)) (sym (text-Compare parts r x y)) (compare_texts parts names r x y both.0 both.1);
  at_not = λ f is shaped names.
      subst (HasFormulaTexts parts names (formulas.Not f)) (sym (text-Not parts f)) (not_texts parts names f (is (sym (is_shaped-Not f) ∙ shaped) names).grouped);
  at_and = λ fs each shaped names.
      let both = and_parts (two_or_more (map is_shaped fs)) (list_all is_shaped fs) (sym (is_shaped-And fs) ∙ shaped) in
      subst (HasFormulaTexts parts names (formulas.And fs)) (sym (text-And parts fs))
      (in_group_texts parts names (formulas.And fs) (many_text signs.And (map (text_of_formula parts) fs))
      (and_told parts names fs both.0 (groups_told parts names fs each both.1)));
  at_or = λ fs each shaped names.
      let both = and_parts (two_or_more (map is_shaped fs)) (list_all is_shaped fs) (sym (is_shaped-Or fs) ∙ shaped) in
      subst (HasFormulaTexts parts names (formulas.Or fs)) (sym (text-Or parts fs))
      (in_group_texts parts names (formulas.Or fs) (many_text signs.Or (map (text_of_formula parts) fs))
      (or_told parts names fs both.0 (groups_told parts names fs each both.1)));
  at_implies = λ f g one two shaped names.
      let both = and_parts (is_shaped f) (is_shaped g) (sym (is_shaped-Implies f g) ∙ shaped) in
      subst (HasFormulaTexts parts names (formulas.Implies f g)) (sym (text-Implies parts f g))
      (in_group_texts parts names (formulas.Implies f g)
      (λ names. (text_of_formula parts f).grouped names ++ spaced signs.Arrow ++ (text_of_formula parts g).grouped names)
      (arrow_told parts names false f g (formulas.Implies f g) (stands_implies parts names f g) (one both.0 names).grouped (two both.1 names).grouped));
  at_iff = λ f g one two shaped names.
      let both = and_parts (is_shaped f) (is_shaped g) (sym (is_shaped-Iff f g) ∙ shaped) in
      subst (HasFormulaTexts parts names (formulas.Iff f g)) (sym (text-Iff parts f g))
      (in_group_texts parts names (formulas.Iff f g)
      (λ names. (text_of_formula parts f).grouped names ++ spaced signs.Both ++ (text_of_formula parts g).grouped names)
      (arrow_told parts names true f g (formulas.Iff f g) (stands_iff parts names f g) (one both.0 names).grouped (two both.1 names).grouped));
  at_all = λ name d f is shaped names.
      subst (HasFormulaTexts parts names (formulas.All name d f)) (sym (text-All parts name d f))
      (own_group_texts parts names (formulas.All name d f) (quantified_text parts word.All name d (text_of_formula parts f))
      (quantified_told parts names quantifiers.All name d f (is (sym (is_shaped-All name d f) ∙ shaped) (names ++ name ∷ [])).plain));
  at_ex = λ name d f is shaped names.
      subst (HasFormulaTexts parts names (formulas.Ex name d f)) (sym (text-Ex parts name d f))
      (own_group_texts parts names (formulas.Ex name d f) (quantified_text parts word.Ex name d (text_of_formula parts f))
      (quantified_told parts names quantifiers.Ex name d f (is (sym (is_shaped-Ex name d f) ∙ shaped) (names ++ name ∷ [])).plain));
  at_one = λ o f is shaped names.
      subst (HasFormulaTexts parts names (formulas.One o f)) (sym (text-One parts o f))
      (own_group_texts parts names (formulas.One o f) (λ names. word_ (one_word o) ++ in_round ((text_of_formula parts f).plain names))
      (one_told parts names o f (is (sym (is_shaped-One o f) ∙ shaped) names).plain));
  at_far = λ o f x is shaped names.
      let both = and_parts (is_shaped f) (term_is_shaped x) (sym (is_shaped-Far o f x) ∙ shaped) in
      subst (HasFormulaTexts parts names (formulas.Far o f x)) (sym (text-Far parts o f x))
      (own_group_texts parts names (formulas.Far o f x)
      (λ names. word_ (far_word o) ++ in_round ((text_of_formula parts f).plain names ++ comma ++ term_plain parts x names))
      (far_told parts names o f x (is both.0 names).plain (term_told parts x both.1 names).plain));
  at_pair = λ o f g one two shaped names.
      let both = and_parts (is_shaped f) (is_shaped g) (sym (is_shaped-Pair o f g) ∙ shaped) in
      subst (HasFormulaTexts parts names (formulas.Pair o f g)) (sym (text-Pair parts o f g))
      (own_group_texts parts names (formulas.Pair o f g)
      (λ names. word_ (pair_word o) ++ in_round ((text_of_formula parts f).plain names ++ comma ++ (text_of_formula parts g).plain names))
      (pair_told parts names o f g (one both.0 names).plain (two both.1 names).plain));
}

pub formula_told : (parts : Parts) (f : Formula) → is_shaped f ≡ true → (names : List (List ℕ)) → HasFormulaTexts parts names f (text_of_formula parts f)
unfolding FormulaTold
formula_told parts f = every_formula (FormulaTold parts) (formula_cases parts) f
