-- The places of names in a tree that was read: those of a declaration or a claim stand among its own tokens.
use Rattle.std.proofs.Common.{◌≡◌, ℕ, zero, suc, ◌+◌, ◌<◌, ◌≤◌, ◌⊎◌, inl, inr, Bool, true, false, nat_lt, nat_le, List, [], ◌∷◌, ◌++◌, length, length-append, refl, sym, ap, subst, ◌∙◌, arith, Option, Some}
use Rattle.std.specs.List.{list_all, flat_map}
use Rattle.std.proofs.lemmas.Bool.{and_from, lt-ltb, le-leb}
use Rattle.std.proofs.lemmas.Grind.{flat_map-append}
use Rattle.trio_base.specs.declared.operators.Rel.{Rel}
use Rattle.trio_base.specs.declared.operators.FarOp.{FarOp}
use Rattle.trio_base.specs.declared.operators.PairOp.{PairOp}
use Rattle.trio_text.specs.declared.lexeme.Lexeme.{Lexeme}
use Rattle.trio_text.specs.declared.token.Symbol.TheVariants as signs
use Rattle.trio_syntax.specs.declared.tree.Quantifier.{Quantifier}
use Rattle.trio_syntax.specs.declared.tree.Mention.{Mention}
use Rattle.trio_syntax.specs.declared.tree.Written.{Written}
use Rattle.trio_syntax.specs.declared.tree.TermTree.{TermTree, TermTree-F, out-TermTree, out-roll-TermTree}
use Rattle.trio_syntax.specs.declared.tree.PartTree.{PartTree, PartTree-F, out-PartTree, out-roll-PartTree}
use Rattle.trio_syntax.specs.declared.tree.TermShape.{TermShape, out-TermShape}
use Rattle.trio_syntax.specs.declared.tree.TermShape.TheVariants as s
use Rattle.trio_syntax.specs.declared.tree.RefTree.{RefTree}
use Rattle.trio_syntax.specs.declared.tree.FormulaTree.{FormulaTree}
use Rattle.trio_syntax.specs.declared.tree.FormulaTree.TheVariants as v
use Rattle.trio_syntax.specs.declared.tree.ValuesTree.{ValuesTree}
use Rattle.trio_syntax.specs.declared.tree.ValuesTree.TheVariants as values
use Rattle.trio_syntax.specs.declared.tree.DeclarationTree.{DeclarationTree}
use Rattle.trio_syntax.specs.declared.tree.DeclarationTree.TheVariants as declared
use Rattle.trio_syntax.specs.declared.tree.ClaimTree.{ClaimTree}
use Rattle.trio_syntax.specs.Reading.{Language}
use Rattle.trio_syntax.specs.Forms.{SortValue, relation, adding, arrow, Nonterminal, formula, disj, conj, unary, primary, term, summand, factor, basic, Tree, Form, empty, one, row, seq, either, many, Many, none, more, Under}
use Rattle.trio_syntax.specs.Grammar.{a, a_sign, a_name, behind_sign, round, listed, optional, production, rows_within, sum, product, named, compared, and_of, or_of, arrowed, connected, arguments, ref, bound, distant, paired, domain_values, domain, refs, item, claim}
use Rattle.trio_scope.specs.declared.walk.Role.{Role}
use Rattle.trio_scope.specs.declared.walk.Role.TheVariants as role
use Rattle.trio_scope.specs.Places.{unless}
use Rattle.trio_scope.specs.Gather.{Variable, Finding, places_in, places_in_term, places_in_shape}
use Rattle.trio_scope.specs.Scope.{own_names, names_at, names_of_ref, refs_of}
use Rattle.trio_scope.proofs.Gathers.{in-term, in-Number, in-Truth, in-Named, in-Call, in-Sum, in-Times, in-Lone, in-Compare, in-Not, in-And, in-Or, in-Implies, in-Iff, in-Quantified, in-One, in-Far, in-Pair}
use Rattle.trio_reader.proofs.FormedPhases.{append_empty}
use Rattle.trio_types.proofs.Inductions.{Each}
use Rattle.trio_canonical.proofs.SoundPhases.{both_empty, passes}

-- the names that stand before a token
abbrev pub early : ℕ → List Mention → List ℕ
early low mentions = flat_map (λ (m : Mention). unless (nat_le low m.place) m.place) mentions

abbrev pub early_finding : ℕ → Finding
early_finding low = record {
  term = λ e r inside t. early low (names_at t);
  compared = λ e rel p t u. [];
  variable = λ e x domain. early low (names_of_ref domain);
}

-- what a statement declares
abbrev pub words_in : ValuesTree → List Mention
words_in (values.Range low high) = []
words_in (values.Words ws) = ws

abbrev pub names_declared : DeclarationTree → List Mention
names_declared (declared.Domain d) = d.name ∷ words_in d.values
names_declared (declared.Item i) = i.name ∷ []

abbrev pub all_before : ℕ → List Mention → Bool
all_before high mentions = list_all (λ (m : Mention). nat_lt m.place high) mentions

-- a statement declares names before a token, and uses none before another
pub record Stated (low high : ℕ) (w : DeclarationTree) : Type 0 where
  pub declares : all_before high (names_declared w) ≡ true
  pub uses : flat_map (λ r. early low (names_of_ref r)) (refs_of w) ≡ []

module _ (low high : ℕ) where
  abbrev rule : Finding
  rule = early_finding low

  -- what holds of the value of a form, by what holds of its parts, where its tokens stand between two places
  Within : {A : Type 0} → ((r : Nonterminal) → Tree r → Type 0) → Form A → A → Type 0
  Within rows (empty a) w = w ≡ a
  Within rows (one sort value) w = (p : ℕ) × (m : SortValue sort) × (low ≤ p) × (p < high) × (w ≡ value p m)
  Within rows (row r) w = rows r w
  Within {A} rows (seq {B = B} {C = C} g h value) w = (p : ℕ) × (b : B) × (c : C) × Within rows g b × Within rows h c × (w ≡ value p b c)
  Within rows (either g h) w = Within rows g w ⊎ Within rows h w
  Within rows (many g) w = Each (Within rows g) w

  many_within : {A : Type 0} (G : ℕ → Language A) (P : A → Type 0) →
      ((p : ℕ) (x : List Lexeme) (w : A) → low ≤ p → p + length x ≤ high → G p x w → P w) →
      (p : ℕ) (x : List Lexeme) (ws : List A) → low ≤ p → p + length x ≤ high → Many G p x ws → Each P ws
  many_within G P each p x ws from to none = tt
  many_within G P each p x ws from to (more {x = y} {y = z} {v = w} {vs = others} d ds) =
      let whole = length-append y z in
      (each p y w from (omega arith) d, many_within G P each (p + length y) z others (omega arith) (omega arith) ds)

  under_within : {A : Type 0} (R : (r : Nonterminal) → ℕ → Language (Tree r)) (rows : (r : Nonterminal) → Tree r → Type 0) →
      ((r : Nonterminal) (p : ℕ) (x : List Lexeme) (w : Tree r) → low ≤ p → p + length x ≤ high → R r p x w → rows r w) →
      (g : Form A) (p : ℕ) (x : List Lexeme) (w : A) → low ≤ p → p + length x ≤ high → Under R g p x w → Within rows g w
  unfolding Under Within
  under_within R rows over (empty a) p x w from to d = d.1
  under_within R rows over (one sort value) p x w from to d =
      let single : length x ≡ 1 = ap length d.1 in (p, d.0, from, omega arith, d.2)
  under_within R rows over (row r) p x w from to d = over r p x w from to d
  under_within R rows over (seq g h value) p x w from to d =
      let whole : length x ≡ length d.front + length d.rest = ap length d.whole ∙ length-append d.front d.rest in (
        p,
        d.first,
        d.second,
        under_within R rows over g p d.front d.first from (omega arith) d.one,
        under_within R rows over h (p + length d.front) d.rest d.second (omega arith) (omega arith) d.two,
        d.is,
      )
  under_within R rows over (either g h) p x w from to (inl d) = inl (under_within R rows over g p x w from to d)
  under_within R rows over (either g h) p x w from to (inr d) = inr (under_within R rows over h p x w from to d)
  under_within R rows over (many g) p x w from to d = many_within (Under R g) (Within rows g) (under_within R rows over g) p x w from to d

  -- nothing in a term or a formula stands before
  abbrev LateTerm : TermTree → Type 0
  LateTerm t = (e : List Variable) (r : Role) (inside : Bool) → places_in_term rule t e r inside ≡ []

  LateShape : TermShape → Type 0
  LateShape x = (e : List Variable) (inside : Bool) → (early low (own_names (out-TermShape x)) ≡ []) × (places_in_shape rule x e inside ≡ [])

  abbrev LateFormula : FormulaTree → Type 0
  LateFormula f = (e : List Variable) → places_in rule f e ≡ []

  abbrev LateFormulas : List FormulaTree → Type 0
  LateFormulas fs = (e : List Variable) → flat_map (λ f. places_in rule f e) fs ≡ []

  abbrev Late : (r : Nonterminal) → Tree r → Type 0
  Late formula f = LateFormula f
  Late disj fs = LateFormulas fs
  Late conj fs = LateFormulas fs
  Late unary f = LateFormula f
  Late primary f = LateFormula f
  Late term t = LateTerm t
  Late summand t = LateTerm t
  Late factor t = LateTerm t
  Late basic t = LateTerm t

  -- terms
  term_of_shape : (t : TermTree) → LateShape (out-TermTree t).shape → LateTerm t
  unfolding LateShape
  term_of_shape t is e r inside =
      in-term rule t e r inside ∙ both_empty (early low (names_at t)) (places_in_shape rule (out-TermTree t).shape e inside) (is e inside).0 (is e inside).1

  shape_of_term : (t : TermTree) → LateTerm t → LateShape (out-TermTree t).shape
  unfolding LateShape
  shape_of_term t is e inside =
      append_empty (early low (names_at t)) (places_in_shape rule (out-TermTree t).shape e inside) (sym (in-term rule t e role.Alone inside) ∙ is e role.Alone inside)

  term_late : (p : ℕ) (x : TermShape) → LateShape x → LateTerm (record { place = p; shape = x })
  term_late p x is =
      term_of_shape (record { place = p; shape = x })
      (subst LateShape (sym (ap (λ (q : TermTree-F TermShape PartTree TermTree). q.shape) (out-roll-TermTree (record { place = p; shape = x })))) is)

  number_late : (n : Written) → LateShape (s.Number n)
  unfolding LateShape
  number_late n e inside = (ap (λ x. early low (own_names x)) (s.outs-Number n), in-Number rule e inside n)

  truth_late : (b : Bool) → LateShape (s.Truth b)
  unfolding LateShape
  truth_late b e inside = (ap (λ x. early low (own_names x)) (s.outs-Truth b), in-Truth rule e inside b)

  mention_late : (m : Mention) → low ≤ m.place → early low (m ∷ []) ≡ []
  mention_late m from = both_empty (unless (nat_le low m.place) m.place) [] (passes (nat_le low m.place) m.place (le-leb low m.place from)) refl

  named_late : (m : Mention) → low ≤ m.place → LateShape (s.Named m)
  unfolding LateShape
  named_late m from e inside = (ap (λ x. early low (own_names x)) (s.outs-Named m) ∙ mention_late m from, in-Named rule e inside m)

  abbrev LateTerms : List TermTree → Type 0
  LateTerms ts = (e : List Variable) → flat_map (λ t. places_in_term rule t e role.Argument true) ts ≡ []

  call_late : (m : Mention) (args : List TermTree) → low ≤ m.place → LateTerms args → LateShape (s.Call m args)
  unfolding LateShape
  call_late m args from all e inside =
      (ap (λ x. early low (own_names x)) (s.outs-Call m args) ∙ mention_late m from, in-Call rule e inside m args ∙ all e)

  abbrev LateParts : List PartTree → Type 0
  LateParts ps = (e : List Variable) (inside : Bool) → flat_map (λ p. places_in_term rule (out-PartTree p).term e role.Part inside) ps ≡ []

  parts_late : (ps : List PartTree) → LateParts ps → LateShape (s.Sum ps)
  unfolding LateShape
  parts_late ps all e inside = (ap (λ x. early low (own_names x)) (s.outs-Sum ps), in-Sum rule e inside ps ∙ all e inside)

  times_late : (n : Written) (t : TermTree) → LateTerm t → LateShape (s.Times n t)
  unfolding LateShape
  times_late n t is e inside = (ap (λ x. early low (own_names x)) (s.outs-Times n t), in-Times rule e inside n t ∙ is e role.Factor inside)

  part_late : (minus : Bool) (t : TermTree) → LateTerm t → LateTerm (out-PartTree (record { minus = minus; term = t })).term
  part_late minus t is =
      subst (λ (q : PartTree-F TermShape PartTree TermTree). LateTerm q.term) (sym (out-roll-PartTree (record { minus = minus; term = t }))) is

  name_late : (m : Mention) → Within Late a_name m → (low ≤ m.place) × (m.place < high)
  unfolding Within
  name_late m d = let same : m.place ≡ d.0 = ap (λ (x : Mention). x.place) d.4 in let from = d.2 in let to = d.3 in (omega arith, omega arith)

  more_terms : (ts : List TermTree) → Within Late (many (behind_sign signs.Comma (row term))) ts → LateTerms ts
  unfolding Within
  more_terms [] each e = refl
  more_terms (t ∷ ts) each e =
      both_empty (places_in_term rule t e role.Argument true) (flat_map (λ t. places_in_term rule t e role.Argument true) ts)
      (subst LateTerm (sym each.0.5) each.0.4 e role.Argument true) (more_terms ts each.1 e)

  listed_terms : (ts : List TermTree) → Within Late (listed signs.Comma (row term)) ts → LateTerms ts
  unfolding Within
  listed_terms ts d =
      subst LateTerms (sym d.5) (λ e. both_empty (places_in_term rule d.1 e role.Argument true) (flat_map (λ t. places_in_term rule t e role.Argument true) d.2)
      (d.3 e role.Argument true) (more_terms d.2 d.4 e))

  call_or_name : (p : ℕ) (m : Mention) (args : Option (List TermTree)) → low ≤ m.place → Within Late arguments args → LateTerm (named p m args)
  unfolding Within
  call_or_name p m args from (inr lone) = subst (λ o. LateTerm (named p m o)) (sym lone) (term_late p (s.Named m) (named_late m from))
  call_or_name p m args from (inl d) =
      subst (λ o. LateTerm (named p m o)) (sym d.5)
      (term_late p (s.Call m d.2) (call_late m d.2 from (subst LateTerms (sym d.4.5) (listed_terms d.4.1 d.4.3))))

  basic_late : (t : TermTree) → Within Late (production basic) t → LateTerm t
  unfolding Within
  basic_late t (inl d) = subst LateTerm (sym d.4) (term_late d.0 (s.Truth d.1) (truth_late d.1))
  basic_late t (inr (inl d)) =
      subst LateTerm (sym d.5) (term_late d.0 d.2.shape (shape_of_term d.2 (subst LateTerm (sym d.4.5) d.4.3)))
  basic_late t (inr (inr d)) = subst LateTerm (sym d.5) (call_or_name d.0 d.1 d.2 (name_late d.1 d.3).0 d.4)

  factor_late : (t : TermTree) → Within Late (production factor) t → LateTerm t
  unfolding Within
  factor_late t (inl d) =
      subst LateTerm (sym d.4) (term_late d.0 (s.Number (record { number = d.1; place = d.0 })) (number_late (record { number = d.1; place = d.0 })))
  factor_late t (inr d) = d

  product_late : (p : ℕ) (n : Written) (f : Option TermTree) →
      Within Late (optional (seq (a_sign signs.Times) (row factor) (λ q u t. Some t))) f → LateTerm (product p n f)
  unfolding Within
  product_late p n f (inr lone) = subst (λ o. LateTerm (product p n o)) (sym lone) (term_late p (s.Number n) (number_late n))
  product_late p n f (inl d) = subst (λ o. LateTerm (product p n o)) (sym d.5) (term_late p (s.Times n d.2) (times_late n d.2 d.4))

  summand_late : (t : TermTree) → Within Late (production summand) t → LateTerm t
  unfolding Within
  summand_late t (inl d) = subst LateTerm (sym d.5) (product_late d.0 d.1 d.2 d.4)
  summand_late t (inr d) = d

  more_parts : (ps : List PartTree) →
      Within Late (many (seq (a adding) (row summand) (λ p minus t. record { minus = minus; term = t }))) ps → LateParts ps
  unfolding Within
  more_parts [] each e inside = refl
  more_parts (p ∷ ps) each e inside =
      both_empty (places_in_term rule (out-PartTree p).term e role.Part inside) (flat_map (λ p. places_in_term rule (out-PartTree p).term e role.Part inside) ps)
      (subst (λ q. LateTerm (out-PartTree q).term) (sym each.0.5) (part_late each.0.1 each.0.2 each.0.4) e role.Part inside) (more_parts ps each.1 e inside)

  all_parts : (p : ℕ) (minus : Bool) (t : TermTree) (ps : List PartTree) → LateTerm t → LateParts ps →
      LateTerm (record { place = p; shape = s.Sum (record { minus = minus; term = t } ∷ ps) })
  all_parts p minus t ps is all =
      term_late p (s.Sum (record { minus = minus; term = t } ∷ ps))
      (parts_late (record { minus = minus; term = t } ∷ ps)
      (λ e inside. both_empty (places_in_term rule (out-PartTree (record { minus = minus; term = t })).term e role.Part inside)
      (flat_map (λ p. places_in_term rule (out-PartTree p).term e role.Part inside) ps) (part_late minus t is e role.Part inside) (all e inside)))

  sum_late : (p : ℕ) (minus : Bool) (t : TermTree) (ps : List PartTree) → LateTerm t → LateParts ps → LateTerm (sum p minus t ps)
  sum_late p false t [] is all = is
  sum_late p true t [] is all = all_parts p true t [] is all
  sum_late p false t (q ∷ ps) is all = all_parts p false t (q ∷ ps) is all
  sum_late p true t (q ∷ ps) is all = all_parts p true t (q ∷ ps) is all

  whole_term : (t : TermTree) → Within Late (production term) t → LateTerm t
  unfolding Within
  whole_term t d =
      let r = d.4 in
      subst LateTerm (sym (d.5 ∙ ap (λ q. sum d.0 d.1 q.0 q.1) r.5)) (sum_late d.0 d.1 r.1 r.2 r.3 (more_parts r.2 r.4))

  -- formulas
  range_late : (d : RefTree) → Within Late ref d → early low (names_of_ref d) ≡ []
  unfolding Within
  range_late d (inl h) = ap (λ x. early low (names_of_ref x)) h.4
  range_late d (inr h) = ap (λ x. early low (names_of_ref x)) h.4 ∙ mention_late (record { name = h.1; place = h.0 }) h.2

  round_late : (f : FormulaTree) → Within Late (round (row formula)) f → LateFormula f
  unfolding Within
  round_late f d = subst LateFormula (sym (d.5 ∙ d.4.5)) d.4.3

  bound_late : (q : Quantifier) (r : Mention × (RefTree × FormulaTree)) → Within Late bound r → LateFormula (v.Quantified q r.0 r.1.0 r.1.1)
  unfolding Within
  bound_late q r d =
      let rest = d.4.4 in
      subst (λ x. LateFormula (v.Quantified q x.0 x.1.0 x.1.1)) (sym d.5)
      (subst (λ x. LateFormula (v.Quantified q d.1 x.0 x.1)) (sym (d.4.5 ∙ rest.5))
      (λ e. in-Quantified rule e q d.1 rest.1 rest.2
      ∙ both_empty (early low (names_of_ref rest.1)) (places_in rule rest.2 (e ++ record { name = d.1.name; domain = rest.1 } ∷ []))
      (range_late rest.1 rest.3) (round_late rest.2 rest.4 (e ++ record { name = d.1.name; domain = rest.1 } ∷ []))))

  distant_late : (op : FarOp) (r : FormulaTree × TermTree) → Within Late distant r → LateFormula (v.Far op r.0 r.1)
  unfolding Within
  distant_late op r d =
      let rest = d.4 in
      subst (λ x. LateFormula (v.Far op x.0 x.1)) (sym (d.5 ∙ rest.5))
      (λ e. in-Far rule e op rest.1 rest.2
      ∙ both_empty (places_in rule rest.1 e) (places_in_term rule rest.2 e role.Distance true)
      (subst LateFormula (sym rest.3.5) rest.3.3 e) (subst LateTerm (sym rest.4.5) rest.4.3 e role.Distance true))

  paired_late : (op : PairOp) (r : FormulaTree × FormulaTree) → Within Late paired r → LateFormula (v.Pair op r.0 r.1)
  unfolding Within
  paired_late op r d =
      let rest = d.4 in
      subst (λ x. LateFormula (v.Pair op x.0 x.1)) (sym (d.5 ∙ rest.5))
      (λ e. in-Pair rule e op rest.1 rest.2
      ∙ both_empty (places_in rule rest.1 e) (places_in rule rest.2 e)
      (subst LateFormula (sym rest.3.5) rest.3.3 e) (subst LateFormula (sym rest.4.5) rest.4.3 e))

  compared_late : (t : TermTree) (r : Option (Rel × ℕ × TermTree)) → LateTerm t →
      Within Late (optional (seq (a relation) (row term) (λ p rel u. Some (rel, p, u)))) r → LateFormula (compared t r)
  unfolding Within
  compared_late t r is (inr lone) = subst (λ o. LateFormula (compared t o)) (sym lone) (λ e. in-Lone rule e t ∙ is e role.Alone false)
  compared_late t r is (inl d) =
      subst (λ o. LateFormula (compared t o)) (sym d.5)
      (λ e. in-Compare rule e d.1 d.0 t d.2
      ∙ both_empty (places_in_term rule t e role.Compared false) (places_in_term rule d.2 e role.Compared false) (is e role.Compared false) (d.4 e role.Compared false))

  primary_late : (f : FormulaTree) → Within Late (production primary) f → LateFormula f
  unfolding Within
  primary_late f (inl d) = round_late f d
  primary_late f (inr (inl d)) = subst LateFormula (sym d.5) (bound_late d.1 d.2 d.4)
  primary_late f (inr (inr (inl d))) = subst LateFormula (sym d.5) (λ e. in-One rule e d.1 d.2 ∙ round_late d.2 d.4 e)
  primary_late f (inr (inr (inr (inl d)))) = subst LateFormula (sym d.5) (distant_late d.1 d.2 d.4)
  primary_late f (inr (inr (inr (inr (inl d))))) = subst LateFormula (sym d.5) (paired_late d.1 d.2 d.4)
  primary_late f (inr (inr (inr (inr (inr d))))) = subst LateFormula (sym d.5) (compared_late d.1 d.2 d.3 d.4)

  unary_late : (f : FormulaTree) → Within Late (production unary) f → LateFormula f
  unfolding Within
  unary_late f (inl d) = subst LateFormula (sym d.5) (λ e. in-Not rule e d.2 ∙ d.4 e)
  unary_late f (inr d) = d

  cons_late : (f : FormulaTree) (fs : List FormulaTree) → LateFormula f → LateFormulas fs → LateFormulas (f ∷ fs)
  cons_late f fs is all e = both_empty (places_in rule f e) (flat_map (λ f. places_in rule f e) fs) (is e) (all e)

  alone_late : (f : FormulaTree) → LateFormulas (f ∷ []) → LateFormula f
  alone_late f all e = (append_empty (places_in rule f e) [] (all e)).0

  and_late : (fs : List FormulaTree) → LateFormulas fs → LateFormula (and_of fs)
  and_late [] all e = in-And rule e [] ∙ all e
  and_late (f ∷ []) all e = alone_late f all e
  and_late (f ∷ g ∷ fs) all e = in-And rule e (f ∷ g ∷ fs) ∙ all e

  or_late : (fs : List FormulaTree) → LateFormulas fs → LateFormula (or_of fs)
  or_late [] all e = in-Or rule e [] ∙ all e
  or_late (f ∷ []) all e = alone_late f all e
  or_late (f ∷ g ∷ fs) all e = in-Or rule e (f ∷ g ∷ fs) ∙ all e

  more_units : (fs : List FormulaTree) → Within Late (many (behind_sign signs.And (row unary))) fs → LateFormulas fs
  unfolding Within
  more_units [] each e = refl
  more_units (f ∷ fs) each e = cons_late f fs (subst LateFormula (sym each.0.5) each.0.4) (more_units fs each.1) e

  conj_late : (fs : List FormulaTree) → Within Late (production conj) fs → LateFormulas fs
  unfolding Within
  conj_late fs d = subst LateFormulas (sym d.5) (cons_late d.1 d.2 d.3 (more_units d.2 d.4))

  more_conjs : (fs : List FormulaTree) → Within Late (many (seq (a_sign signs.Or) (row conj) (λ p u gs. and_of gs))) fs → LateFormulas fs
  unfolding Within
  more_conjs [] each e = refl
  more_conjs (f ∷ fs) each e = cons_late f fs (subst LateFormula (sym each.0.5) (and_late each.0.2 each.0.4)) (more_conjs fs each.1) e

  disj_late : (fs : List FormulaTree) → Within Late (production disj) fs → LateFormulas fs
  unfolding Within
  disj_late fs d = subst LateFormulas (sym d.5) (cons_late (and_of d.1) d.2 (and_late d.1 d.3) (more_conjs d.2 d.4))

  arrowed_late : (both : Bool) (f g : FormulaTree) → LateFormula f → LateFormula g → LateFormula (arrowed both f g)
  arrowed_late false f g p q e = in-Implies rule e f g ∙ both_empty (places_in rule f e) (places_in rule g e) (p e) (q e)
  arrowed_late true f g p q e = in-Iff rule e f g ∙ both_empty (places_in rule f e) (places_in rule g e) (p e) (q e)

  connected_late : (fs : List FormulaTree) (r : Option (Bool × List FormulaTree)) → LateFormulas fs →
      Within Late (optional (seq (a arrow) (row disj) (λ p both gs. Some (both, gs)))) r → LateFormula (connected fs r)
  unfolding Within
  connected_late fs r all (inr lone) = subst (λ o. LateFormula (connected fs o)) (sym lone) (or_late fs all)
  connected_late fs r all (inl d) =
      subst (λ o. LateFormula (connected fs o)) (sym d.5) (arrowed_late d.1 (or_of fs) (or_of d.2) (or_late fs all) (or_late d.2 d.4))

  whole_formula : (f : FormulaTree) → Within Late (production formula) f → LateFormula f
  unfolding Within
  whole_formula f d = subst LateFormula (sym d.5) (connected_late d.1 d.2 d.3 d.4)

  row_late : (r : Nonterminal) (w : Tree r) → Within Late (production r) w → Late r w
  row_late formula w d = whole_formula w d
  row_late disj w d = disj_late w d
  row_late conj w d = conj_late w d
  row_late unary w d = unary_late w d
  row_late primary w d = primary_late w d
  row_late term w d = whole_term w d
  row_late summand w d = summand_late w d
  row_late factor w d = factor_late w d
  row_late basic w d = basic_late w d

  rows_late : (n : ℕ) (r : Nonterminal) (p : ℕ) (x : List Lexeme) (w : Tree r) → low ≤ p → p + length x ≤ high → rows_within n r p x w → Late r w
  unfolding rows_within
  rows_late zero r p x w from to d = absurd d
  rows_late (suc n) r p x w from to d = row_late r w (under_within (rows_within n) Late (rows_late n) (production r) p x w from to d)

  -- statements
  more_words : (ws : List Mention) → Within Late (many (behind_sign signs.Comma a_name)) ws → all_before high ws ≡ true
  unfolding Within
  more_words [] each = refl
  more_words (w ∷ ws) each =
      and_from (nat_lt w.place high) (all_before high ws)
      (ap (λ (m : Mention). nat_lt m.place high) each.0.5 ∙ lt-ltb each.0.2.place high (name_late each.0.2 each.0.4).1) (more_words ws each.1)

  words_before : (w : ValuesTree) → Within Late domain_values w → all_before high (words_in w) ≡ true
  unfolding Within
  words_before w (inl d) =
      let l = d.4.3 in
      ap (λ x. all_before high (words_in x)) d.5 ∙ ap (all_before high) (d.4.5 ∙ l.5)
      ∙ and_from (nat_lt l.1.place high) (all_before high l.2) (lt-ltb l.1.place high (name_late l.1 l.3).1) (more_words l.2 l.4)
  words_before w (inr d) = ap (λ x. all_before high (words_in x)) d.5

  abbrev early_refs : List RefTree → List ℕ
  early_refs rs = flat_map (λ r. early low (names_of_ref r)) rs

  more_refs : (ds : List RefTree) → Within Late (many (behind_sign signs.Comma ref)) ds → early_refs ds ≡ []
  unfolding Within
  more_refs [] each = refl
  more_refs (d ∷ ds) each =
      both_empty (early low (names_of_ref d)) (early_refs ds) (ap (λ x. early low (names_of_ref x)) each.0.5 ∙ range_late each.0.2 each.0.4) (more_refs ds each.1)

  refs_late : (ds : List RefTree) → Within Late refs ds → early_refs ds ≡ []
  unfolding Within
  refs_late ds (inr lone) = ap early_refs lone
  refs_late ds (inl d) =
      let l = d.4.3 in
      ap early_refs (d.5 ∙ d.4.5 ∙ l.5) ∙ both_empty (early low (names_of_ref l.1)) (early_refs l.2) (range_late l.1 l.3) (more_refs l.2 l.4)

  declaration_stated : (w : DeclarationTree) → Within Late (either item domain) w → Stated low high w
  unfolding Within
  declaration_stated w (inl d) =
      let r = d.4 in
      let rest = r.4 in
      let value : RefTree = rest.4.4.1 in
      let form : w ≡ declared.Item (record { input = d.1; name = r.1; args = rest.1; value = value }) =
      d.5 ∙ ap (λ x. declared.Item (record { input = d.1; name = x.0; args = x.1.0; value = x.1.1 })) r.5
      ∙ ap (λ x. declared.Item (record { input = d.1; name = r.1; args = x.0; value = x.1 })) rest.5
      ∙ ap (λ x. declared.Item (record { input = d.1; name = r.1; args = rest.1; value = x })) (rest.4.5 ∙ rest.4.4.5) in
      subst (Stated low high) (sym form)
      (record {
        declares = and_from (nat_lt r.1.place high) true (lt-ltb r.1.place high (name_late r.1 r.3).1) refl;
        uses = flat_map-append (λ x. early low (names_of_ref x)) rest.1 (value ∷ [])
            ∙ both_empty (early_refs rest.1) (early_refs (value ∷ [])) (refs_late rest.1 rest.3)
            (both_empty (early low (names_of_ref value)) [] (range_late value rest.4.4.3) refl);
      })
  declaration_stated w (inr d) =
      let r = d.4 in
      let form : w ≡ declared.Domain (record { name = r.1; values = r.4.4.1 }) =
      d.5 ∙ ap (λ x. declared.Domain (record { name = x.0; values = x.1 })) r.5
      ∙ ap (λ x. declared.Domain (record { name = r.1; values = x })) (r.4.5 ∙ r.4.4.5) in
      subst (Stated low high) (sym form)
      (record {
        declares = and_from (nat_lt r.1.place high) (all_before high (words_in r.4.4.1)) (lt-ltb r.1.place high (name_late r.1 r.3).1)
            (words_before r.4.4.1 r.4.4.3);
        uses = refl;
      })

  claim_late : (w : ClaimTree) → Within Late claim w → LateFormula w.formula
  unfolding Within
  claim_late w d =
      let r = d.4 in
      let rest = r.4 in
      subst (λ (x : ClaimTree). LateFormula x.formula)
      (sym (d.5 ∙ ap (λ x. record { goal = d.1; name = x.0; at = x.1.0; formula = x.1.1 }) r.5
      ∙ ap (λ x. record { goal = d.1; name = r.1; at = x.0; formula = x.1 }) rest.5))
      (subst LateFormula (sym (rest.4.5 ∙ rest.4.4.5)) rest.4.4.3)

  -- the statements and the claims of some tokens
  each_fact : {X : Type 0} (P Q : X → Type 0) → ((x : X) → P x → Q x) → (xs : List X) → Each P xs → Each Q xs
  each_fact P Q give [] each = tt
  each_fact P Q give (x ∷ xs) each = (give x each.0, each_fact P Q give xs each.1)

  pub statements_stated : (n p : ℕ) (x : List Lexeme) (ws : List DeclarationTree) → low ≤ p → p + length x ≤ high →
      Many (Under (rows_within n) (either item domain)) p x ws → Each (Stated low high) ws
  statements_stated n p x ws from to d =
      each_fact (Within Late (either item domain)) (Stated low high) declaration_stated ws
      (many_within (Under (rows_within n) (either item domain)) (Within Late (either item domain))
      (under_within (rows_within n) Late (rows_late n) (either item domain)) p x ws from to d)

  pub claims_late : (n p : ℕ) (x : List Lexeme) (ws : List ClaimTree) → low ≤ p → p + length x ≤ high →
      Many (Under (rows_within n) claim) p x ws → flat_map (λ c. places_in (early_finding low) c.formula []) ws ≡ []
  claims_late n p x ws from to d =
      all ws (many_within (Under (rows_within n) claim) (Within Late claim) (under_within (rows_within n) Late (rows_late n) claim) p x ws from to d)
    where
      all : (ws : List ClaimTree) → Each (Within Late claim) ws → flat_map (λ c. places_in rule c.formula []) ws ≡ []
      all [] each = refl
      all (w ∷ ws) each = both_empty (places_in rule w.formula []) (flat_map (λ c. places_in rule c.formula []) ws) (claim_late w each.0 []) (all ws each.1)
