-- Every tree that is read is formed: its names are names, and what has parts has enough of them.
use Rattle.std.proofs.Common.{◌≡◌, ℕ, zero, suc, ◌+◌, ◌≤◌, ◌⊎◌, inl, inr, Bool, true, false, ◌&&◌, List, [], ◌∷◌, ◌++◌, length, map, refl, sym, ap, subst, ◌∙◌, arith, Option, Some}
use Rattle.std.specs.List.{list_all}
use Rattle.std.proofs.lemmas.List.Folds.{list_all-map, list_all-append}
use Rattle.std.proofs.lemmas.Bool.{and_parts, and_from, le-leb}
use Rattle.trio_base.specs.Names.{is_name}
use Rattle.trio_base.specs.declared.operators.Rel.{Rel}
use Rattle.trio_base.specs.declared.operators.OneOp.{OneOp}
use Rattle.trio_base.specs.declared.operators.FarOp.{FarOp}
use Rattle.trio_base.specs.declared.operators.PairOp.{PairOp}
use Rattle.trio_text.specs.declared.lexeme.Lexeme.{Lexeme}
use Rattle.trio_text.specs.Lexemes.{names_a_name}
use Rattle.trio_syntax.specs.declared.tree.Quantifier.{Quantifier}
use Rattle.trio_syntax.specs.declared.tree.Mention.{Mention}
use Rattle.trio_syntax.specs.declared.tree.Written.{Written}
use Rattle.trio_syntax.specs.declared.tree.TermTree.{TermTree, fold-roll-TermTree}
use Rattle.trio_syntax.specs.declared.tree.PartTree.{PartTree, fold-PartTree, fold-roll-PartTree}
use Rattle.trio_syntax.specs.declared.tree.TermShape.{TermShape}
use Rattle.trio_syntax.specs.declared.tree.TermShape.TheFolds.{fold-TermShape, fold-roll-TermShape}
use Rattle.trio_syntax.specs.declared.tree.TermShape.TheVariants as s
use Rattle.trio_syntax.specs.declared.tree.TermShape.TheOpen as shape
use Rattle.trio_syntax.specs.declared.tree.RefTree.{RefTree}
use Rattle.trio_syntax.specs.declared.tree.FormulaTree.{FormulaTree}
use Rattle.trio_syntax.specs.declared.tree.FormulaTree.TheVariants as v
use Rattle.trio_syntax.specs.declared.tree.FormulaTree.TheOpen as node
use Rattle.trio_syntax.specs.declared.tree.FormulaTree.TheFolds.{fold-roll-FormulaTree}
use Rattle.trio_text.specs.declared.token.Symbol.TheVariants as signs
use Rattle.trio_syntax.specs.Reading.{Language}
use Rattle.trio_syntax.specs.Forms.{Sort, name, relation, adding, arrow}
use Rattle.trio_syntax.specs.Forms.{SortValue, token_of, Nonterminal, formula, disj, conj, unary, primary, term, summand, factor, basic, Tree, Form, empty, one, row, seq, either, many, Many, none, more, Under}
use Rattle.trio_syntax.specs.declared.tree.ValuesTree.{ValuesTree}
use Rattle.trio_syntax.specs.declared.tree.ValuesTree.TheVariants as values
use Rattle.trio_syntax.specs.declared.tree.DeclarationTree.{DeclarationTree}
use Rattle.trio_syntax.specs.declared.tree.DeclarationTree.TheVariants as declared
use Rattle.trio_syntax.specs.declared.tree.ClaimTree.{ClaimTree}
use Rattle.trio_syntax.specs.declared.tree.SpecTree.{SpecTree}
use Rattle.trio_syntax.specs.Grammar.{a, a_sign, a_name, behind_sign, round, listed, optional, production, rows_within, sum, product, named, compared, and_of, or_of, arrowed, connected, arguments, ref, bound, distant, paired, domain_values, domain, refs, item, claim, declaring, claims, spec, IsSpec}
use Rattle.trio_syntax.specs.Shape.{mentions_a_name, some_all, two_all, Part, is_sum, shape_is_formed, part_formed, term_formed, term_is_formed, ref_is_formed, node_is_formed, formula_is_formed, values_are_formed, declaration_is_formed, claim_is_formed, is_formed}

-- what the folds are at each variant

shape_value : TermShape → Bool
shape_value = fold-TermShape Bool Part Bool shape_is_formed part_formed term_formed

part_value : PartTree → Part
part_value = fold-PartTree Bool Part Bool shape_is_formed part_formed term_formed

term_at : (p : ℕ) (form : TermShape) → term_is_formed (record { place = p; shape = form }) ≡ shape_value form
unfolding term_is_formed shape_value
term_at p form = fold-roll-TermTree Bool Part Bool shape_is_formed part_formed term_formed (record { place = p; shape = form })

part_at : (minus : Bool) (t : TermTree) → part_value (record { minus = minus; term = t }) ≡ record { minus = minus; formed = term_is_formed t }
unfolding term_is_formed part_value
part_at minus t = fold-roll-PartTree Bool Part Bool shape_is_formed part_formed term_formed (record { minus = minus; term = t })

number_at : (n : Written) → shape_value (s.Number n) ≡ true
unfolding shape_value
number_at n = ap shape_value (sym (s.rolls-Number n)) ∙ fold-roll-TermShape Bool Part Bool shape_is_formed part_formed term_formed (shape.Number n)

truth_at : (b : Bool) → shape_value (s.Truth b) ≡ true
unfolding shape_value
truth_at b = ap shape_value (sym (s.rolls-Truth b)) ∙ fold-roll-TermShape Bool Part Bool shape_is_formed part_formed term_formed (shape.Truth b)

named_at : (m : Mention) → shape_value (s.Named m) ≡ mentions_a_name m
unfolding shape_value
named_at m = ap shape_value (sym (s.rolls-Named m)) ∙ fold-roll-TermShape Bool Part Bool shape_is_formed part_formed term_formed (shape.Named m)

call_at : (m : Mention) (ts : List TermTree) → shape_value (s.Call m ts) ≡ (mentions_a_name m && some_all (map term_is_formed ts))
unfolding shape_value term_is_formed
call_at m ts = ap shape_value (sym (s.rolls-Call m ts)) ∙ fold-roll-TermShape Bool Part Bool shape_is_formed part_formed term_formed (shape.Call m ts)

sum_at : (ps : List PartTree) → shape_value (s.Sum ps) ≡ is_sum (map part_value ps)
unfolding shape_value part_value
sum_at ps = ap shape_value (sym (s.rolls-Sum ps)) ∙ fold-roll-TermShape Bool Part Bool shape_is_formed part_formed term_formed (shape.Sum ps)

times_at : (n : Written) (t : TermTree) → shape_value (s.Times n t) ≡ term_is_formed t
unfolding shape_value term_is_formed
times_at n t = ap shape_value (sym (s.rolls-Times n t)) ∙ fold-roll-TermShape Bool Part Bool shape_is_formed part_formed term_formed (shape.Times n t)

lone_at : (t : TermTree) → formula_is_formed (v.Lone t) ≡ term_is_formed t
unfolding formula_is_formed
lone_at t = ap formula_is_formed (sym (v.rolls-Lone t)) ∙ fold-roll-FormulaTree Bool node_is_formed (node.Lone t)

compare_at : (r : Rel) (p : ℕ) (t u : TermTree) → formula_is_formed (v.Compare r p t u) ≡ (term_is_formed t && term_is_formed u)
unfolding formula_is_formed
compare_at r p t u = ap formula_is_formed (sym (v.rolls-Compare r p t u)) ∙ fold-roll-FormulaTree Bool node_is_formed (node.Compare r p t u)

not_at : (f : FormulaTree) → formula_is_formed (v.Not f) ≡ formula_is_formed f
unfolding formula_is_formed
not_at f = ap formula_is_formed (sym (v.rolls-Not f)) ∙ fold-roll-FormulaTree Bool node_is_formed (node.Not f)

and_at : (fs : List FormulaTree) → formula_is_formed (v.And fs) ≡ two_all (map formula_is_formed fs)
unfolding formula_is_formed
and_at fs = ap formula_is_formed (sym (v.rolls-And fs)) ∙ fold-roll-FormulaTree Bool node_is_formed (node.And fs)

or_at : (fs : List FormulaTree) → formula_is_formed (v.Or fs) ≡ two_all (map formula_is_formed fs)
unfolding formula_is_formed
or_at fs = ap formula_is_formed (sym (v.rolls-Or fs)) ∙ fold-roll-FormulaTree Bool node_is_formed (node.Or fs)

implies_at : (f g : FormulaTree) → formula_is_formed (v.Implies f g) ≡ (formula_is_formed f && formula_is_formed g)
unfolding formula_is_formed
implies_at f g = ap formula_is_formed (sym (v.rolls-Implies f g)) ∙ fold-roll-FormulaTree Bool node_is_formed (node.Implies f g)

iff_at : (f g : FormulaTree) → formula_is_formed (v.Iff f g) ≡ (formula_is_formed f && formula_is_formed g)
unfolding formula_is_formed
iff_at f g = ap formula_is_formed (sym (v.rolls-Iff f g)) ∙ fold-roll-FormulaTree Bool node_is_formed (node.Iff f g)

quantified_at : (q : Quantifier) (m : Mention) (d : RefTree) (f : FormulaTree) → formula_is_formed (v.Quantified q m d f) ≡ (mentions_a_name m && ref_is_formed d && formula_is_formed f)
unfolding formula_is_formed
quantified_at q m d f = ap formula_is_formed (sym (v.rolls-Quantified q m d f)) ∙ fold-roll-FormulaTree Bool node_is_formed (node.Quantified q m d f)

one_at : (op : OneOp) (f : FormulaTree) → formula_is_formed (v.One op f) ≡ formula_is_formed f
unfolding formula_is_formed
one_at op f = ap formula_is_formed (sym (v.rolls-One op f)) ∙ fold-roll-FormulaTree Bool node_is_formed (node.One op f)

far_at : (op : FarOp) (f : FormulaTree) (t : TermTree) → formula_is_formed (v.Far op f t) ≡ (formula_is_formed f && term_is_formed t)
unfolding formula_is_formed
far_at op f t = ap formula_is_formed (sym (v.rolls-Far op f t)) ∙ fold-roll-FormulaTree Bool node_is_formed (node.Far op f t)

pair_at : (op : PairOp) (f g : FormulaTree) → formula_is_formed (v.Pair op f g) ≡ (formula_is_formed f && formula_is_formed g)
unfolding formula_is_formed
pair_at op f g = ap formula_is_formed (sym (v.rolls-Pair op f g)) ∙ fold-roll-FormulaTree Bool node_is_formed (node.Pair op f g)

-- what holds of the value of a form, by what holds of its parts

Meant : (sort : Sort) → SortValue sort → Type 0
Meant name n = is_name n ≡ true
Meant sort m = Unit {0}

Each : {A : Type 0} → (A → Type 0) → List A → Type 0
Each P [] = Unit {0}
Each P (w ∷ ws) = P w × Each P ws

Holds : {A : Type 0} → ((r : Nonterminal) → Tree r → Type 0) → Form A → A → Type 0
unfolding Meant Each
Holds rows (empty a) w = w ≡ a
Holds rows (one sort value) w = (p : ℕ) × (m : SortValue sort) × Meant sort m × (w ≡ value p m)
Holds rows (row r) w = rows r w
Holds {A} rows (seq {B = B} {C = C} g h value) w = (p : ℕ) × (b : B) × (c : C) × Holds rows g b × Holds rows h c × (w ≡ value p b c)
Holds rows (either g h) w = Holds rows g w ⊎ Holds rows h w
Holds rows (many g) w = Each (Holds rows g) w

both_named : (x y : List Lexeme) → list_all names_a_name (x ++ y) ≡ true → (list_all names_a_name x ≡ true) × (list_all names_a_name y ≡ true)
both_named x y named = and_parts (list_all names_a_name x) (list_all names_a_name y) (sym (list_all-append names_a_name x y) ∙ named)

meant : (sort : Sort) (m : SortValue sort) → list_all names_a_name (token_of sort m ∷ []) ≡ true → Meant sort m
unfolding Meant
meant name n named = (and_parts (is_name n) true named).0
meant sort m named = tt

many_holds : {A : Type 0} (G : ℕ → Language A) (P : A → Type 0) → ((p : ℕ) (x : List Lexeme) (w : A) → list_all names_a_name x ≡ true → G p x w → P w) →
    (p : ℕ) (x : List Lexeme) (ws : List A) → list_all names_a_name x ≡ true → Many G p x ws → Each P ws
unfolding Each
many_holds G P each p x ws named none = tt
many_holds G P each p x ws named (more {x = y} {y = z} {v = w} {vs = others} d ds) =
    let both = both_named y z named in
    (each p y w both.0 d, many_holds G P each (p + length y) z others both.1 ds)

under_holds : {A : Type 0} (R : (r : Nonterminal) → ℕ → Language (Tree r)) (rows : (r : Nonterminal) → Tree r → Type 0) →
    ((r : Nonterminal) (p : ℕ) (x : List Lexeme) (w : Tree r) → list_all names_a_name x ≡ true → R r p x w → rows r w) →
    (g : Form A) (p : ℕ) (x : List Lexeme) (w : A) → list_all names_a_name x ≡ true → Under R g p x w → Holds rows g w
unfolding Under Holds
under_holds R rows over (empty a) p x w named d = d.1
under_holds R rows over (one sort value) p x w named d = (p, d.0, meant sort d.0 (subst (λ (y : List Lexeme). list_all names_a_name y ≡ true) d.1 named), d.2)
under_holds R rows over (row r) p x w named d = over r p x w named d
under_holds R rows over (seq g h value) p x w named d =
    let both = both_named d.front d.rest (subst (λ (y : List Lexeme). list_all names_a_name y ≡ true) d.whole named) in
    (p, d.first, d.second, under_holds R rows over g p d.front d.first both.0 d.one, under_holds R rows over h (p + length d.front) d.rest d.second both.1 d.two, d.is)
under_holds R rows over (either g h) p x w named (inl d) = inl (under_holds R rows over g p x w named d)
under_holds R rows over (either g h) p x w named (inr d) = inr (under_holds R rows over h p x w named d)
under_holds R rows over (many g) p x w named d = many_holds (Under R g) (Holds rows g) (under_holds R rows over g) p x w named d

-- some formulas, each formed
record SomeFormed (fs : List FormulaTree) : Type 0 where
  some : 1 ≤ length fs
  all : list_all formula_is_formed fs ≡ true

abbrev Formed : (r : Nonterminal) → Tree r → Type 0
Formed formula f = formula_is_formed f ≡ true
Formed disj fs = SomeFormed fs
Formed conj fs = SomeFormed fs
Formed unary f = formula_is_formed f ≡ true
Formed primary f = formula_is_formed f ≡ true
Formed term t = term_is_formed t ≡ true
Formed summand t = term_is_formed t ≡ true
Formed factor t = term_is_formed t ≡ true
Formed basic t = term_is_formed t ≡ true

two_formed : (f g : FormulaTree) (fs : List FormulaTree) → list_all formula_is_formed (f ∷ g ∷ fs) ≡ true → two_all (map formula_is_formed (f ∷ g ∷ fs)) ≡ true
two_formed f g fs all =
    and_from _ _ (le-leb 2 (length (map formula_is_formed (f ∷ g ∷ fs))) (omega arith)) (list_all-map (λ (part : Bool). part) formula_is_formed (f ∷ g ∷ fs) ∙ all)

and_formed : (fs : List FormulaTree) → SomeFormed fs → formula_is_formed (and_of fs) ≡ true
and_formed [] have = absurd (omega (arith, have.some))
and_formed (f ∷ []) have = (and_parts (formula_is_formed f) true have.all).0
and_formed (f ∷ g ∷ fs) have = and_at (f ∷ g ∷ fs) ∙ two_formed f g fs have.all

or_formed : (fs : List FormulaTree) → SomeFormed fs → formula_is_formed (or_of fs) ≡ true
or_formed [] have = absurd (omega (arith, have.some))
or_formed (f ∷ []) have = (and_parts (formula_is_formed f) true have.all).0
or_formed (f ∷ g ∷ fs) have = or_at (f ∷ g ∷ fs) ∙ two_formed f g fs have.all

both_true : {x y : Bool} → x ≡ true → y ≡ true → (x && y) ≡ true
both_true {x} {y} p q = and_from x y p q

-- the terms of a list are formed
terms_formed : (ts : List TermTree) → Each (λ t. (p : ℕ) × (b : Unit {0}) × (c : TermTree) × Holds Formed (a_sign signs.Comma) b × (term_is_formed c ≡ true) × (t ≡ c)) ts → list_all term_is_formed ts ≡ true
unfolding Each
terms_formed [] each = refl
terms_formed (t ∷ ts) each = both_true (ap term_is_formed each.0.5 ∙ each.0.4) (terms_formed ts each.1)

parts_formed : (ps : List PartTree) → Each (λ part. (p : ℕ) × (b : Bool) × (c : TermTree) × Holds Formed (a adding) b × (term_is_formed c ≡ true) × (part ≡ record { minus = b; term = c })) ps →
    list_all (λ part. part.formed) (map part_value ps) ≡ true
unfolding Each
parts_formed [] each = refl
parts_formed (part ∷ ps) each = both_true (ap (λ q. (part_value q).formed) each.0.5 ∙ ap (λ q. q.formed) (part_at each.0.1 each.0.2) ∙ each.0.4) (parts_formed ps each.1)

more_formed : (p : ℕ) (minus : Bool) (t : TermTree) (part : PartTree) (ps : List PartTree) → term_is_formed t ≡ true → list_all (λ q. q.formed) (map part_value (part ∷ ps)) ≡ true →
    term_is_formed (record { place = p; shape = s.Sum (record { minus = minus; term = t } ∷ part ∷ ps) }) ≡ true
more_formed p minus t part ps is all =
    term_at p (s.Sum (record { minus = minus; term = t } ∷ part ∷ ps)) ∙ sum_at (record { minus = minus; term = t } ∷ part ∷ ps)
    ∙ both_true (ap (λ q. q.formed) (part_at minus t) ∙ is) all

sum_formed : (p : ℕ) (minus : Bool) (t : TermTree) (ps : List PartTree) → term_is_formed t ≡ true → list_all (λ part. part.formed) (map part_value ps) ≡ true → term_is_formed (sum p minus t ps) ≡ true
sum_formed p false t [] is all = is
sum_formed p true t [] is all =
    term_at p (s.Sum (record { minus = true; term = t } ∷ [])) ∙ sum_at (record { minus = true; term = t } ∷ []) ∙ ap (λ q. q.minus && q.formed) (part_at true t) ∙ is
sum_formed p false t (part ∷ ps) is all = more_formed p false t part ps is all
sum_formed p true t (part ∷ ps) is all = more_formed p true t part ps is all

name_formed : (m : Mention) → Holds Formed a_name m → mentions_a_name m ≡ true
unfolding Holds Meant
name_formed m d = ap mentions_a_name d.3 ∙ d.2

listed_formed : (ts : List TermTree) → Holds Formed (listed signs.Comma (row term)) ts → some_all (map term_is_formed ts) ≡ true
unfolding Holds
listed_formed ts d =
    let all : list_all term_is_formed (d.1 ∷ d.2) ≡ true = both_true d.3 (terms_formed d.2 d.4) in
    ap (λ l. some_all (map term_is_formed l)) d.5
    ∙ both_true (le-leb 1 (length (map term_is_formed (d.1 ∷ d.2))) (omega arith)) (list_all-map (λ (part : Bool). part) term_is_formed (d.1 ∷ d.2) ∙ all)

call_formed : (p : ℕ) (m : Mention) (args : Option (List TermTree)) → mentions_a_name m ≡ true → Holds Formed arguments args → term_is_formed (named p m args) ≡ true
unfolding Holds
call_formed p m args is (inr lone) = ap (λ o. term_is_formed (named p m o)) lone ∙ term_at p (s.Named m) ∙ named_at m ∙ is
call_formed p m args is (inl d) =
    ap (λ o. term_is_formed (named p m o)) d.5 ∙ term_at p (s.Call m d.2) ∙ call_at m d.2
    ∙ both_true is (ap (λ l. some_all (map term_is_formed l)) d.4.5 ∙ listed_formed d.4.1 d.4.3)

basic_formed : (t : TermTree) → Holds Formed (production basic) t → term_is_formed t ≡ true
unfolding Holds
basic_formed t (inl d) = ap term_is_formed d.3 ∙ term_at d.0 (s.Truth d.1) ∙ truth_at d.1
basic_formed t (inr (inl d)) = ap term_is_formed d.5 ∙ term_at d.0 d.2.shape ∙ sym (term_at d.2.place d.2.shape) ∙ ap term_is_formed d.4.5 ∙ d.4.3
basic_formed t (inr (inr d)) = ap term_is_formed d.5 ∙ call_formed d.0 d.1 d.2 (name_formed d.1 d.3) d.4

factor_formed : (t : TermTree) → Holds Formed (production factor) t → term_is_formed t ≡ true
unfolding Holds
factor_formed t (inl d) = ap term_is_formed d.3 ∙ term_at d.0 (s.Number (record { number = d.1; place = d.0 })) ∙ number_at (record { number = d.1; place = d.0 })
factor_formed t (inr d) = d

product_formed : (p : ℕ) (n : Written) (f : Option TermTree) → Holds Formed (optional (seq (a_sign signs.Times) (row factor) (λ q u t. Some t))) f → term_is_formed (product p n f) ≡ true
unfolding Holds
product_formed p n f (inr lone) = ap (λ o. term_is_formed (product p n o)) lone ∙ term_at p (s.Number n) ∙ number_at n
product_formed p n f (inl d) = ap (λ o. term_is_formed (product p n o)) d.5 ∙ term_at p (s.Times n d.2) ∙ times_at n d.2 ∙ d.4

summand_formed : (t : TermTree) → Holds Formed (production summand) t → term_is_formed t ≡ true
unfolding Holds
summand_formed t (inl d) = ap term_is_formed d.5 ∙ product_formed d.0 d.1 d.2 d.4
summand_formed t (inr d) = d

whole_term_formed : (t : TermTree) → Holds Formed (production term) t → term_is_formed t ≡ true
unfolding Holds
whole_term_formed t d =
    let r = d.4 in
    ap term_is_formed d.5 ∙ ap (λ q. term_is_formed (sum d.0 d.1 q.0 q.1)) r.5 ∙ sum_formed d.0 d.1 r.1 r.2 r.3 (parts_formed r.2 r.4)

range_formed : (d : RefTree) → Holds Formed ref d → ref_is_formed d ≡ true
unfolding Holds Meant
range_formed d (inl h) = ap ref_is_formed h.3
range_formed d (inr h) = ap ref_is_formed h.3 ∙ h.2

round_formed : (f : FormulaTree) → Holds Formed (round (row formula)) f → formula_is_formed f ≡ true
unfolding Holds
round_formed f d = ap formula_is_formed (d.5 ∙ d.4.5) ∙ d.4.3

bound_formed : (q : Quantifier) (r : Mention × (RefTree × FormulaTree)) → Holds Formed bound r → formula_is_formed (v.Quantified q r.0 r.1.0 r.1.1) ≡ true
unfolding Holds
bound_formed q r d =
    let rest = d.4.4 in
    ap (λ x. formula_is_formed (v.Quantified q x.0 x.1.0 x.1.1)) d.5
    ∙ ap (λ x. formula_is_formed (v.Quantified q d.1 x.0 x.1)) (d.4.5 ∙ rest.5)
    ∙ quantified_at q d.1 rest.1 rest.2 ∙ both_true (both_true (name_formed d.1 d.3) (range_formed rest.1 rest.3)) (round_formed rest.2 rest.4)

distant_formed : (op : FarOp) (r : FormulaTree × TermTree) → Holds Formed distant r → formula_is_formed (v.Far op r.0 r.1) ≡ true
unfolding Holds
distant_formed op r d =
    let rest = d.4 in
    ap (λ x. formula_is_formed (v.Far op x.0 x.1)) (d.5 ∙ rest.5) ∙ far_at op rest.1 rest.2
    ∙ both_true (ap formula_is_formed rest.3.5 ∙ rest.3.3) (ap term_is_formed rest.4.5 ∙ rest.4.3)

paired_formed : (op : PairOp) (r : FormulaTree × FormulaTree) → Holds Formed paired r → formula_is_formed (v.Pair op r.0 r.1) ≡ true
unfolding Holds
paired_formed op r d =
    let rest = d.4 in
    ap (λ x. formula_is_formed (v.Pair op x.0 x.1)) (d.5 ∙ rest.5) ∙ pair_at op rest.1 rest.2
    ∙ both_true (ap formula_is_formed rest.3.5 ∙ rest.3.3) (ap formula_is_formed rest.4.5 ∙ rest.4.3)

compared_formed : (t : TermTree) (r : Option (Rel × ℕ × TermTree)) → term_is_formed t ≡ true → Holds Formed (optional (seq (a relation) (row term) (λ p rel u. Some (rel, p, u)))) r → formula_is_formed (compared t r) ≡ true
unfolding Holds
compared_formed t r is (inr lone) = ap (λ o. formula_is_formed (compared t o)) lone ∙ lone_at t ∙ is
compared_formed t r is (inl d) = ap (λ o. formula_is_formed (compared t o)) d.5 ∙ compare_at d.1 d.0 t d.2 ∙ both_true is d.4

primary_formed : (f : FormulaTree) → Holds Formed (production primary) f → formula_is_formed f ≡ true
unfolding Holds
primary_formed f (inl d) = round_formed f d
primary_formed f (inr (inl d)) = ap formula_is_formed d.5 ∙ bound_formed d.1 d.2 d.4
primary_formed f (inr (inr (inl d))) = ap formula_is_formed d.5 ∙ one_at d.1 d.2 ∙ round_formed d.2 d.4
primary_formed f (inr (inr (inr (inl d)))) = ap formula_is_formed d.5 ∙ distant_formed d.1 d.2 d.4
primary_formed f (inr (inr (inr (inr (inl d))))) = ap formula_is_formed d.5 ∙ paired_formed d.1 d.2 d.4
primary_formed f (inr (inr (inr (inr (inr d))))) = ap formula_is_formed d.5 ∙ compared_formed d.1 d.2 d.3 d.4

unary_formed : (f : FormulaTree) → Holds Formed (production unary) f → formula_is_formed f ≡ true
unfolding Holds
unary_formed f (inl d) = ap formula_is_formed d.5 ∙ not_at d.2 ∙ d.4
unary_formed f (inr d) = d

units_formed : (fs : List FormulaTree) → Holds Formed (many (behind_sign signs.And (row unary))) fs → list_all formula_is_formed fs ≡ true
unfolding Holds Each
units_formed [] each = refl
units_formed (f ∷ fs) each = both_true (ap formula_is_formed each.0.5 ∙ each.0.4) (units_formed fs each.1)

conj_formed : (fs : List FormulaTree) → Holds Formed (production conj) fs → SomeFormed fs
unfolding Holds
conj_formed fs d = subst SomeFormed (sym d.5) (record { some = omega arith; all = both_true d.3 (units_formed d.2 d.4) })

conjs_formed : (fs : List FormulaTree) → Holds Formed (many (seq (a_sign signs.Or) (row conj) (λ p u gs. and_of gs))) fs → list_all formula_is_formed fs ≡ true
unfolding Holds Each
conjs_formed [] each = refl
conjs_formed (f ∷ fs) each = both_true (ap formula_is_formed each.0.5 ∙ and_formed each.0.2 each.0.4) (conjs_formed fs each.1)

disj_formed : (fs : List FormulaTree) → Holds Formed (production disj) fs → SomeFormed fs
unfolding Holds
disj_formed fs d = subst SomeFormed (sym d.5) (record { some = omega arith; all = both_true (and_formed d.1 d.3) (conjs_formed d.2 d.4) })

arrowed_formed : (both : Bool) (f g : FormulaTree) → formula_is_formed f ≡ true → formula_is_formed g ≡ true → formula_is_formed (arrowed both f g) ≡ true
arrowed_formed false f g p q = implies_at f g ∙ both_true p q
arrowed_formed true f g p q = iff_at f g ∙ both_true p q

connected_formed : (fs : List FormulaTree) (r : Option (Bool × List FormulaTree)) → SomeFormed fs → Holds Formed (optional (seq (a arrow) (row disj) (λ p both gs. Some (both, gs)))) r →
    formula_is_formed (connected fs r) ≡ true
unfolding Holds
connected_formed fs r have (inr lone) = ap (λ o. formula_is_formed (connected fs o)) lone ∙ or_formed fs have
connected_formed fs r have (inl d) = ap (λ o. formula_is_formed (connected fs o)) d.5 ∙ arrowed_formed d.1 (or_of fs) (or_of d.2) (or_formed fs have) (or_formed d.2 d.4)

whole_formula_formed : (f : FormulaTree) → Holds Formed (production formula) f → formula_is_formed f ≡ true
unfolding Holds
whole_formula_formed f d = ap formula_is_formed d.5 ∙ connected_formed d.1 d.2 d.3 d.4

row_formed : (r : Nonterminal) (w : Tree r) → Holds Formed (production r) w → Formed r w
row_formed formula w d = whole_formula_formed w d
row_formed disj w d = disj_formed w d
row_formed conj w d = conj_formed w d
row_formed unary w d = unary_formed w d
row_formed primary w d = primary_formed w d
row_formed term w d = whole_term_formed w d
row_formed summand w d = summand_formed w d
row_formed factor w d = factor_formed w d
row_formed basic w d = basic_formed w d

rows_formed : (n : ℕ) (r : Nonterminal) (p : ℕ) (x : List Lexeme) (w : Tree r) → list_all names_a_name x ≡ true → rows_within n r p x w → Formed r w
unfolding rows_within
rows_formed zero r p x w named d = absurd d
rows_formed (suc n) r p x w named d = row_formed r w (under_holds (rows_within n) Formed (rows_formed n) (production r) p x w named d)

-- statements

words_formed : (ws : List Mention) → Holds Formed (many (behind_sign signs.Comma a_name)) ws → list_all mentions_a_name ws ≡ true
unfolding Holds Each
words_formed [] each = refl
words_formed (w ∷ ws) each = both_true (ap mentions_a_name each.0.5 ∙ name_formed each.0.2 each.0.4) (words_formed ws each.1)

values_formed : (w : ValuesTree) → Holds Formed domain_values w → values_are_formed w ≡ true
unfolding Holds
values_formed w (inl d) =
    let l = d.4.3 in
    ap values_are_formed d.5 ∙ ap (λ ws. values_are_formed (values.Words ws)) (d.4.5 ∙ l.5) ∙ both_true (name_formed l.1 l.3) (words_formed l.2 l.4)
values_formed w (inr d) = ap values_are_formed d.5

ranges_formed : (ds : List RefTree) → Holds Formed (many (behind_sign signs.Comma ref)) ds → list_all ref_is_formed ds ≡ true
unfolding Holds Each
ranges_formed [] each = refl
ranges_formed (d ∷ ds) each = both_true (ap ref_is_formed each.0.5 ∙ range_formed each.0.2 each.0.4) (ranges_formed ds each.1)

refs_formed : (ds : List RefTree) → Holds Formed refs ds → list_all ref_is_formed ds ≡ true
unfolding Holds
refs_formed ds (inr lone) = ap (list_all ref_is_formed) lone
refs_formed ds (inl d) = let l = d.4.3 in ap (list_all ref_is_formed) (d.5 ∙ d.4.5 ∙ l.5) ∙ both_true (range_formed l.1 l.3) (ranges_formed l.2 l.4)

declaration_formed : (w : DeclarationTree) → Holds Formed (either item domain) w → declaration_is_formed w ≡ true
unfolding Holds
declaration_formed w (inl d) =
    let r = d.4 in
    let rest = r.4 in
    ap declaration_is_formed d.5
    ∙ ap (λ x. declaration_is_formed (declared.Item (record { input = d.1; name = x.0; args = x.1.0; value = x.1.1 }))) r.5
    ∙ ap (λ x. declaration_is_formed (declared.Item (record { input = d.1; name = r.1; args = x.0; value = x.1 }))) rest.5
    ∙ both_true (both_true (name_formed r.1 r.3) (refs_formed rest.1 rest.3)) (ap ref_is_formed (rest.4.5 ∙ rest.4.4.5) ∙ range_formed rest.4.4.1 rest.4.4.3)
declaration_formed w (inr d) =
    let r = d.4 in
    ap declaration_is_formed d.5
    ∙ ap (λ x. declaration_is_formed (declared.Domain (record { name = x.0; values = x.1 }))) r.5
    ∙ both_true (name_formed r.1 r.3) (ap values_are_formed (r.4.5 ∙ r.4.4.5) ∙ values_formed r.4.4.1 r.4.4.3)

claim_formed : (w : ClaimTree) → Holds Formed claim w → claim_is_formed w ≡ true
unfolding Holds
claim_formed w d =
    let r = d.4 in
    let rest = r.4 in
    ap claim_is_formed d.5
    ∙ ap (λ x. claim_is_formed (record { goal = d.1; name = x.0; at = x.1.0; formula = x.1.1 })) r.5
    ∙ ap (λ x. claim_is_formed (record { goal = d.1; name = r.1; at = x.0; formula = x.1 })) rest.5
    ∙ both_true (name_formed r.1 r.3) (ap formula_is_formed (rest.4.5 ∙ rest.4.4.5) ∙ rest.4.4.3)

each_true : {A : Type 0} (P : A → Type 0) (test : A → Bool) → ((w : A) → P w → test w ≡ true) → (ws : List A) → Each P ws → list_all test ws ≡ true
unfolding Each
each_true P test one_true [] each = refl
each_true P test one_true (w ∷ ws) each = both_true (one_true w each.0) (each_true P test one_true ws each.1)

declarations_formed : (ws : List DeclarationTree) → Holds Formed declaring ws → list_all declaration_is_formed ws ≡ true
unfolding Holds
declarations_formed ws d = each_true (Holds Formed (either item domain)) declaration_is_formed declaration_formed ws d

claims_formed : (ws : List ClaimTree) → Holds Formed claims ws → list_all claim_is_formed ws ≡ true
unfolding Holds
claims_formed ws d = each_true (Holds Formed claim) claim_is_formed claim_formed ws d

spec_formed : (w : SpecTree) → Holds Formed spec w → is_formed w ≡ true
unfolding Holds
spec_formed w d =
    let r = d.4 in
    let rest = r.4.4 in
    ap is_formed d.5
    ∙ ap (λ x. is_formed (record { instants = x.0; declarations = x.1.0; claims = x.1.1 })) r.5
    ∙ ap (λ x. is_formed (record { instants = r.1; declarations = x.0; claims = x.1 })) (r.4.5 ∙ rest.5)
    ∙ both_true (declarations_formed rest.1 rest.3) (claims_formed rest.2 rest.4)

pub tree_formed : (tokens : List Lexeme) (tree : SpecTree) → list_all names_a_name tokens ≡ true → IsSpec tokens tree → is_formed tree ≡ true
tree_formed tokens tree named d = spec_formed tree (under_holds (rows_within d.depth) Formed (rows_formed d.depth) spec 0 tokens tree named d.reading)
