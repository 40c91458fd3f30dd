-- For which formulas the trees of canonical texts stand.
use Rattle.std.proofs.Common.{◌≡◌, ℕ, Bool, true, false, ◌&&◌, ◌==◌, List, [], ◌∷◌, ◌++◌, map, slice_get, refl, sym, ap, subst, ◌∙◌}
use Rattle.std.specs.List.{list_all, flat_map}
use Rattle.std.proofs.lemmas.Bool.{false≢true, and_parts, eqb-true}
use Rattle.std.proofs.lemmas.List.{append_assoc}
use Rattle.trio_base.specs.declared.operators.Rel.{Rel}
use Rattle.trio_base.specs.declared.operators.OneOp.{OneOp}
use Rattle.trio_base.specs.declared.operators.FarOp.{FarOp}
use Rattle.trio_base.specs.declared.operators.PairOp.{PairOp}
use Rattle.trio_types.specs.declared.formula.Term.{Term}
use Rattle.trio_types.specs.declared.formula.Formula.{Formula}
use Rattle.trio_types.specs.declared.formula.Formula.TheVariants as formula
use Rattle.trio_types.specs.Parts.{Parts, world_of_parts}
use Rattle.trio_types.specs.Names.{declared_names, is_new, variables_are_new}
use Rattle.trio_types.specs.Kinds.{has_kind, kind_of_term, kind_in, required, of_domain, alone, compared, distance, uses, term_uses, is_right}
use Rattle.trio_types.specs.Shape.{two_or_more, is_shaped}
use Rattle.trio_types.proofs.Lists.{all_left, all_right}
use Rattle.trio_types.proofs.Specs.{inside_from_kind}
use Rattle.trio_types.proofs.KindsAt.{uses-Lone, uses-Compare, uses-Not, uses-And, uses-Or, uses-Implies, uses-Iff, uses-All, uses-Ex, uses-One, uses-Far, uses-Pair}
use Rattle.trio_types.proofs.NamesAt.{variables_are_new-Not, variables_are_new-And, variables_are_new-Or, variables_are_new-Implies, variables_are_new-Iff, variables_are_new-All, variables_are_new-Ex, variables_are_new-One, variables_are_new-Far, variables_are_new-Pair}
use Rattle.trio_syntax.specs.declared.tree.Quantifier.{Quantifier}
use Rattle.trio_syntax.specs.declared.tree.Quantifier.TheVariants as quantifier
use Rattle.trio_syntax.specs.declared.tree.Mention.{Mention}
use Rattle.trio_syntax.specs.declared.tree.RefTree.{RefTree}
use Rattle.trio_syntax.specs.declared.tree.RefTree.TheVariants as ref_to
use Rattle.trio_syntax.specs.declared.tree.TermTree.{TermTree}
use Rattle.trio_syntax.specs.declared.tree.FormulaTree.{FormulaTree}
use Rattle.trio_syntax.specs.declared.tree.FormulaTree.TheVariants as trees
use Rattle.trio_syntax.specs.declared.tree.SpecTree.{SpecTree}
use Rattle.trio_syntax.specs.Grammar.{and_of, or_of}
use Rattle.trio_scope.specs.Gather.{Variable}
use Rattle.trio_reader.specs.Erasure.{formula_of, domain_of, quantified}
use Rattle.trio_reader.proofs.Erased.{formula-Lone, formula-Compare, formula-Not, formula-And, formula-Or, formula-Implies, formula-Iff, formula-Quantified, formula-One, formula-Far, formula-Pair}
use Rattle.trio_print.specs.Canonical.{domain_name}
use Rattle.trio_canonical.proofs.Told.{Pairwise}
use Rattle.trio_canonical.proofs.Meant.{Meant, Fits, fits_more}
use Rattle.trio_canonical.proofs.TermStands.{term_is_right, Stands}

-- all that a formula uses is right
abbrev pub formula_is_right : Parts → List ℕ → Formula → Bool
formula_is_right parts vs f = list_all is_right (uses (world_of_parts parts) f vs)

-- no variable of it has the name of a declaration or of a variable in whose body it stands
abbrev pub has_new : Parts → List (List ℕ) → Formula → Bool
has_new parts names f = variables_are_new f (declared_names parts ++ names)

-- where names mean what they do in these parts and all that the formula uses is right, the tree stands for the formula
pub record StandsFor (parts : Parts) (names : List (List ℕ)) (f : Formula) (t : FormulaTree) : Type 0 where
  pub is : (tree : SpecTree) (around : List Variable) (vs : List ℕ) → Fits parts tree names around vs → formula_is_right parts vs f ≡ true → has_new parts names f ≡ true →
      formula_of tree t around ≡ f

-- and what names a domain stands for its number
pub record RefStands (parts : Parts) (d : ℕ) (r : RefTree) : Type 0 where
  pub is : (tree : SpecTree) → Meant parts tree → has_kind (kind_in (world_of_parts parts) d) ≡ true → domain_of tree r ≡ d

pub stands_bool : (parts : Parts) (d : ℕ) → (d == 0) ≡ true → RefStands parts d ref_to.Bool
stands_bool parts d first = record { is = λ tree meant has. sym (eqb-true d 0 first) }

pub stands_named : (parts : Parts) (d : ℕ) (m : Mention) → (d == 0) ≡ false → m.name ≡ domain_name (slice_get parts.domains d) → RefStands parts d (ref_to.Named m)
stands_named parts d m other is = record {
  is = λ tree meant has.
      let domain = inside_from_kind (world_of_parts parts) d has in
      let name : m.name ≡ domain.0.name = is ∙ ap domain_name domain.1 in
      let means = (meant.domains d domain.0 domain.1 other).means in
      rw (name, means) refl;
}

module _ (parts : Parts) (names : List (List ℕ)) where
  pub stands_lone : (x : Term) (t : TermTree) → Stands parts names x t → StandsFor parts names (formula.Lone x) (trees.Lone t)
  stands_lone x t s = record {
    is = λ tree around vs fits right new.
        let all = sym (ap (list_all is_right) (uses-Lone (world_of_parts parts) x vs)) ∙ right in
        formula-Lone tree around t
        ∙ ap formula.Lone (s.is tree around vs false fits (and_parts (is_right (required alone (kind_of_term (world_of_parts parts) vs x))) (term_is_right parts vs false x) all).1);
  }

  pub stands_compare : (r : Rel) (x y : Term) (p : ℕ) (t u : TermTree) → Stands parts names x t → Stands parts names y u →
      StandsFor parts names (formula.Compare r x y) (trees.Compare r p t u)
  stands_compare r x y p t u one two = record {
    is = λ tree around vs fits right new.
        let w = world_of_parts parts in
        let all = (and_parts (is_right (required (compared r (kind_of_term w vs x)) (kind_of_term w vs y))) (list_all is_right (term_uses w vs false x ++ term_uses w vs false y))
        (sym (ap (list_all is_right) (uses-Compare w r x y vs)) ∙ right)).1 in
        let first = one.is tree around vs false fits (all_left is_right (term_uses w vs false x) (term_uses w vs false y) all) in
        let second = two.is tree around vs false fits (all_right is_right (term_uses w vs false x) (term_uses w vs false y) all) in
        formula-Compare tree around r p t u ∙ rw (first, second) refl;
  }

  pub stands_not : (f : Formula) (t : FormulaTree) → StandsFor parts names f t → StandsFor parts names (formula.Not f) (trees.Not t)
  stands_not f t s = record {
    is = λ tree around vs fits right new.
        formula-Not tree around t
        ∙ ap formula.Not (s.is tree around vs fits
        (sym (ap (list_all is_right) (uses-Not (world_of_parts parts) f vs)) ∙ right)
        (sym (variables_are_new-Not f (declared_names parts ++ names)) ∙ new));
  }

  pub stands_one : (o : OneOp) (f : Formula) (t : FormulaTree) → StandsFor parts names f t → StandsFor parts names (formula.One o f) (trees.One o t)
  stands_one o f t s = record {
    is = λ tree around vs fits right new.
        formula-One tree around o t
        ∙ ap (formula.One o) (s.is tree around vs fits
        (sym (ap (list_all is_right) (uses-One (world_of_parts parts) o f vs)) ∙ right)
        (sym (variables_are_new-One o f (declared_names parts ++ names)) ∙ new));
  }

  pub stands_far : (o : FarOp) (f : Formula) (x : Term) (t : FormulaTree) (u : TermTree) → StandsFor parts names f t → Stands parts names x u →
      StandsFor parts names (formula.Far o f x) (trees.Far o t u)
  stands_far o f x t u one two = record {
    is = λ tree around vs fits right new.
        let w = world_of_parts parts in
        let all = (and_parts (is_right (required distance (kind_of_term w vs x))) (list_all is_right (uses w f vs ++ term_uses w vs true x))
        (sym (ap (list_all is_right) (uses-Far w o f x vs)) ∙ right)).1 in
        let first = one.is tree around vs fits (all_left is_right (uses w f vs) (term_uses w vs true x) all)
        (sym (variables_are_new-Far o f x (declared_names parts ++ names)) ∙ new) in
        let second = two.is tree around vs true fits (all_right is_right (uses w f vs) (term_uses w vs true x) all) in
        formula-Far tree around o t u ∙ rw (first, second) refl;
  }

  -- two formulas
  record BothAre (f g : Formula) (t u : FormulaTree) (tree : SpecTree) (around : List Variable) : Type 0 where
    first : formula_of tree t around ≡ f
    second : formula_of tree u around ≡ g

  both_are : (f g : Formula) (t u : FormulaTree) → StandsFor parts names f t → StandsFor parts names g u →
      (tree : SpecTree) (around : List Variable) (vs : List ℕ) → Fits parts tree names around vs →
      list_all is_right (uses (world_of_parts parts) f vs ++ uses (world_of_parts parts) g vs) ≡ true → (has_new parts names f && has_new parts names g) ≡ true →
      BothAre f g t u tree around
  both_are f g t u one two tree around vs fits right new =
      let fresh = and_parts (has_new parts names f) (has_new parts names g) new in
      record {
        first = one.is tree around vs fits (all_left is_right (uses (world_of_parts parts) f vs) (uses (world_of_parts parts) g vs) right) fresh.0;
        second = two.is tree around vs fits (all_right is_right (uses (world_of_parts parts) f vs) (uses (world_of_parts parts) g vs) right) fresh.1;
      }

  pub stands_implies : (f g : Formula) (t u : FormulaTree) → StandsFor parts names f t → StandsFor parts names g u → StandsFor parts names (formula.Implies f g) (trees.Implies t u)
  stands_implies f g t u one two = record {
    is = λ tree around vs fits right new.
        let both = both_are f g t u one two tree around vs fits
        (sym (ap (list_all is_right) (uses-Implies (world_of_parts parts) f g vs)) ∙ right) (sym (variables_are_new-Implies f g (declared_names parts ++ names)) ∙ new) in
        formula-Implies tree around t u ∙ rw (both.first, both.second) refl;
  }

  pub stands_iff : (f g : Formula) (t u : FormulaTree) → StandsFor parts names f t → StandsFor parts names g u → StandsFor parts names (formula.Iff f g) (trees.Iff t u)
  stands_iff f g t u one two = record {
    is = λ tree around vs fits right new.
        let both = both_are f g t u one two tree around vs fits
        (sym (ap (list_all is_right) (uses-Iff (world_of_parts parts) f g vs)) ∙ right) (sym (variables_are_new-Iff f g (declared_names parts ++ names)) ∙ new) in
        formula-Iff tree around t u ∙ rw (both.first, both.second) refl;
  }

  pub stands_pair : (o : PairOp) (f g : Formula) (t u : FormulaTree) → StandsFor parts names f t → StandsFor parts names g u →
      StandsFor parts names (formula.Pair o f g) (trees.Pair o t u)
  stands_pair o f g t u one two = record {
    is = λ tree around vs fits right new.
        let both = both_are f g t u one two tree around vs fits
        (sym (ap (list_all is_right) (uses-Pair (world_of_parts parts) o f g vs)) ∙ right) (sym (variables_are_new-Pair o f g (declared_names parts ++ names)) ∙ new) in
        formula-Pair tree around o t u ∙ rw (both.first, both.second) refl;
  }

  -- many formulas
  many_are : (fs : List Formula) (ts : List FormulaTree) → Pairwise (StandsFor parts names) fs ts →
      (tree : SpecTree) (around : List Variable) (vs : List ℕ) → Fits parts tree names around vs →
      list_all is_right (flat_map (λ f. uses (world_of_parts parts) f vs) fs) ≡ true → list_all (has_new parts names) fs ≡ true →
      map (λ t. formula_of tree t around) ts ≡ fs
  many_are [] [] pairs tree around vs fits right new = refl
  many_are [] (t ∷ ts) pairs tree around vs fits right new = absurd pairs
  many_are (f ∷ fs) [] pairs tree around vs fits right new = absurd pairs
  many_are (f ∷ fs) (t ∷ ts) pairs tree around vs fits right new =
      let others = flat_map (λ f. uses (world_of_parts parts) f vs) fs in
      let fresh = and_parts (has_new parts names f) (list_all (has_new parts names) fs) new in
      let e = pairs.0.is tree around vs fits (all_left is_right (uses (world_of_parts parts) f vs) others right) fresh.0 in
      let es = many_are fs ts pairs.1 tree around vs fits (all_right is_right (uses (world_of_parts parts) f vs) others right) fresh.1 in
      rw (e, es) refl

  pub stands_and : (fs : List Formula) (ts : List FormulaTree) → two_or_more (map is_shaped fs) ≡ true → Pairwise (StandsFor parts names) fs ts →
      StandsFor parts names (formula.And fs) (and_of ts)
  stands_and [] ts two pairs = absurd (false≢true two)
  stands_and (f ∷ []) ts two pairs = absurd (false≢true two)
  stands_and (f ∷ g ∷ fs) [] two pairs = absurd pairs
  stands_and (f ∷ g ∷ fs) (t ∷ []) two pairs = absurd pairs.1
  stands_and (f ∷ g ∷ fs) (t ∷ u ∷ ts) two pairs = record {
    is = λ tree around vs fits right new.
        formula-And tree around (t ∷ u ∷ ts)
        ∙ ap formula.And (many_are (f ∷ g ∷ fs) (t ∷ u ∷ ts) pairs tree around vs fits
        (sym (ap (list_all is_right) (uses-And (world_of_parts parts) (f ∷ g ∷ fs) vs)) ∙ right)
        (sym (variables_are_new-And (f ∷ g ∷ fs) (declared_names parts ++ names)) ∙ new));
  }

  pub stands_or : (fs : List Formula) (ts : List FormulaTree) → two_or_more (map is_shaped fs) ≡ true → Pairwise (StandsFor parts names) fs ts →
      StandsFor parts names (formula.Or fs) (or_of ts)
  stands_or [] ts two pairs = absurd (false≢true two)
  stands_or (f ∷ []) ts two pairs = absurd (false≢true two)
  stands_or (f ∷ g ∷ fs) [] two pairs = absurd pairs
  stands_or (f ∷ g ∷ fs) (t ∷ []) two pairs = absurd pairs.1
  stands_or (f ∷ g ∷ fs) (t ∷ u ∷ ts) two pairs = record {
    is = λ tree around vs fits right new.
        formula-Or tree around (t ∷ u ∷ ts)
        ∙ ap formula.Or (many_are (f ∷ g ∷ fs) (t ∷ u ∷ ts) pairs tree around vs fits
        (sym (ap (list_all is_right) (uses-Or (world_of_parts parts) (f ∷ g ∷ fs) vs)) ∙ right)
        (sym (variables_are_new-Or (f ∷ g ∷ fs) (declared_names parts ++ names)) ∙ new));
  }

  -- quantifiers
  uses-quantified : (q : Quantifier) (name : List ℕ) (d : ℕ) (f : Formula) (vs : List ℕ) →
      uses (world_of_parts parts) (quantified q name d f) vs ≡ of_domain (kind_in (world_of_parts parts) d) ∷ uses (world_of_parts parts) f (vs ++ d ∷ [])
  uses-quantified quantifier.All name d f vs = uses-All (world_of_parts parts) name d f vs
  uses-quantified quantifier.Ex name d f vs = uses-Ex (world_of_parts parts) name d f vs

  new-quantified : (q : Quantifier) (name : List ℕ) (d : ℕ) (f : Formula) (taken : List (List ℕ)) →
      variables_are_new (quantified q name d f) taken ≡ (is_new name taken && variables_are_new f (taken ++ name ∷ []))
  new-quantified quantifier.All name d f taken = variables_are_new-All name d f taken
  new-quantified quantifier.Ex name d f taken = variables_are_new-Ex name d f taken

  pub stands_quantified : (q : Quantifier) (name : List ℕ) (d : ℕ) (f : Formula) (m : Mention) (r : RefTree) (t : FormulaTree) → m.name ≡ name → RefStands parts d r →
      StandsFor parts (names ++ name ∷ []) f t → StandsFor parts names (quantified q name d f) (trees.Quantified q m r t)
  stands_quantified q name d f m r t is ref s = record {
    is = λ tree around vs fits right new.
        let taken = declared_names parts ++ names in
        let v : Variable = record { name = m.name; domain = r } in
        let all = and_parts (has_kind (kind_in (world_of_parts parts) d)) (formula_is_right parts (vs ++ d ∷ []) f)
        (sym (ap (list_all is_right) (uses-quantified q name d f vs)) ∙ right) in
        let fresh = and_parts (is_new name taken) (variables_are_new f (taken ++ name ∷ [])) (sym (new-quantified q name d f taken) ∙ new) in
        let more = subst (λ n. Fits parts tree (names ++ n ∷ []) (around ++ v ∷ []) (vs ++ d ∷ [])) is (fits_more fits v d (ap (λ n. is_new n taken) is ∙ fresh.0)) in
        let body = s.is tree (around ++ v ∷ []) (vs ++ d ∷ []) more all.1
        (ap (variables_are_new f) (sym (append_assoc (declared_names parts) names (name ∷ []))) ∙ fresh.1) in
        let domain = ref.is tree fits.meant all.0 in
        formula-Quantified tree around q m r t ∙ rw (body, domain, is) refl;
  }
