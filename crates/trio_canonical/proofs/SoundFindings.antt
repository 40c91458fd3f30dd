-- Where two rules find nothing, neither does a third that finds nothing wherever they do not.
use Rattle.std.proofs.Common.{◌≡◌, ℕ, Bool, true, false, List, [], ◌∷◌, ◌++◌, refl, sym, ◌∙◌}
use Rattle.std.specs.List.{flat_map}
use Rattle.trio_base.specs.declared.operators.Rel.{Rel}
use Rattle.trio_syntax.specs.declared.tree.Mention.{Mention}
use Rattle.trio_syntax.specs.declared.tree.RefTree.{RefTree}
use Rattle.trio_syntax.specs.declared.tree.TermTree.{TermTree, out-TermTree}
use Rattle.trio_syntax.specs.declared.tree.TermShape.{TermShape}
use Rattle.trio_syntax.specs.declared.tree.PartTree.{out-PartTree}
use Rattle.trio_syntax.specs.declared.tree.FormulaTree.{FormulaTree}
use Rattle.trio_scope.specs.declared.walk.Role.{Role}
use Rattle.trio_scope.specs.declared.walk.Role.TheVariants as role
use Rattle.trio_scope.specs.Gather.{Variable, Finding, places_in, places_in_term, places_in_shape}
use Rattle.trio_scope.proofs.Gathers.{in-term, in-Number, in-Truth, in-Named, in-Call, in-Sum, in-Times, in-Lone, in-Compare, in-Not, in-And, in-Or, in-Implies, in-Iff, in-Quantified, in-One, in-Far, in-Pair}
use Rattle.trio_reader.proofs.FormedPhases.{append_empty}
use Rattle.trio_types.proofs.Inductions.{Each}
use Rattle.trio_reader.proofs.FormedCases.{FormulaCases, every_formula, TermCases, every_shape, term_in}
use Rattle.trio_canonical.proofs.SoundPhases.{both_empty}

-- the third rule finds nothing where the first two do not
pub record Follows (a b c : Finding) : Type 0 where
  pub term : (e : List Variable) (r : Role) (inside : Bool) (t : TermTree) → a.term e r inside t ≡ [] → b.term e r inside t ≡ [] → c.term e r inside t ≡ []
  pub compared : (e : List Variable) (rel : Rel) (p : ℕ) (t u : TermTree) → a.compared e rel p t u ≡ [] → b.compared e rel p t u ≡ [] → c.compared e rel p t u ≡ []
  pub variable : (e : List Variable) (x : Mention) (ref : RefTree) → a.variable e x ref ≡ [] → b.variable e x ref ≡ [] → c.variable e x ref ≡ []

module _ (a b c : Finding) (follows : Follows a b c) where
  ShapeFollows : TermShape → Type 0
  ShapeFollows s = (e : List Variable) (inside : Bool) → places_in_shape a s e inside ≡ [] → places_in_shape b s e inside ≡ [] → places_in_shape c s e inside ≡ []

  of_term : (t : TermTree) → ShapeFollows (out-TermTree t).shape → (e : List Variable) (r : Role) (inside : Bool) →
      places_in_term a t e r inside ≡ [] → places_in_term b t e r inside ≡ [] → places_in_term c t e r inside ≡ []
  unfolding ShapeFollows
  of_term t is e r inside first second =
      let f = append_empty (a.term e r inside t) (places_in_shape a (out-TermTree t).shape e inside) (sym (in-term a t e r inside) ∙ first) in
      let s = append_empty (b.term e r inside t) (places_in_shape b (out-TermTree t).shape e inside) (sym (in-term b t e r inside) ∙ second) in
      in-term c t e r inside
      ∙ both_empty (c.term e r inside t) (places_in_shape c (out-TermTree t).shape e inside) (follows.term e r inside t f.0 s.0) (is e inside f.1 s.1)

  each_follows : {X : Type 0} (P : X → Type 0) (f g h : X → List ℕ) → ((x : X) → P x → f x ≡ [] → g x ≡ [] → h x ≡ []) → (xs : List X) → Each P xs →
      flat_map f xs ≡ [] → flat_map g xs ≡ [] → flat_map h xs ≡ []
  each_follows P f g h give [] each first second = refl
  each_follows P f g h give (x ∷ xs) each first second =
      let l = append_empty (f x) (flat_map f xs) first in
      let m = append_empty (g x) (flat_map g xs) second in
      both_empty (h x) (flat_map h xs) (give x each.0 l.0 m.0) (each_follows P f g h give xs each.1 l.1 m.1)

  shape_cases : TermCases ShapeFollows
  unfolding ShapeFollows
  shape_cases = record {
    at_number = λ n e inside first second. in-Number c e inside n;
    at_truth = λ v e inside first second. in-Truth c e inside v;
    at_named = λ m e inside first second. in-Named c e inside m;
    at_call = λ m args each e inside first second.
        in-Call c e inside m args
        ∙ each_follows (λ t. ShapeFollows (out-TermTree t).shape) (λ t. places_in_term a t e role.Argument true) (λ t. places_in_term b t e role.Argument true)
        (λ t. places_in_term c t e role.Argument true) (λ t is f s. of_term t is e role.Argument true f s) args each
        (sym (in-Call a e inside m args) ∙ first) (sym (in-Call b e inside m args) ∙ second);
    at_sum = λ ps each e inside first second.
        in-Sum c e inside ps
        ∙ each_follows (λ p. ShapeFollows (term_in p)) (λ p. places_in_term a (out-PartTree p).term e role.Part inside)
        (λ p. places_in_term b (out-PartTree p).term e role.Part inside) (λ p. places_in_term c (out-PartTree p).term e role.Part inside)
        (λ p is f s. of_term (out-PartTree p).term is e role.Part inside f s) ps each
        (sym (in-Sum a e inside ps) ∙ first) (sym (in-Sum b e inside ps) ∙ second);
    at_times = λ n t is e inside first second.
        in-Times c e inside n t
        ∙ of_term t is e role.Factor inside (sym (in-Times a e inside n t) ∙ first) (sym (in-Times b e inside n t) ∙ second);
  }

  term_follows : (t : TermTree) (e : List Variable) (r : Role) (inside : Bool) →
      places_in_term a t e r inside ≡ [] → places_in_term b t e r inside ≡ [] → places_in_term c t e r inside ≡ []
  term_follows t = of_term t (every_shape ShapeFollows shape_cases (out-TermTree t).shape)

  FormulaFollows : FormulaTree → Type 0
  FormulaFollows f = (e : List Variable) → places_in a f e ≡ [] → places_in b f e ≡ [] → places_in c f e ≡ []

  all_follow : (fs : List FormulaTree) → Each FormulaFollows fs → (e : List Variable) → flat_map (λ f. places_in a f e) fs ≡ [] →
      flat_map (λ f. places_in b f e) fs ≡ [] → flat_map (λ f. places_in c f e) fs ≡ []
  unfolding FormulaFollows
  all_follow fs each e = each_follows FormulaFollows (λ f. places_in a f e) (λ f. places_in b f e) (λ f. places_in c f e) (λ f is x y. is e x y) fs each

  both_follow : (f g : FormulaTree) → FormulaFollows f → FormulaFollows g → (e : List Variable) → places_in a f e ++ places_in a g e ≡ [] →
      places_in b f e ++ places_in b g e ≡ [] → places_in c f e ++ places_in c g e ≡ []
  unfolding FormulaFollows
  both_follow f g left right e first second =
      let l = append_empty (places_in a f e) (places_in a g e) first in
      let m = append_empty (places_in b f e) (places_in b g e) second in
      both_empty (places_in c f e) (places_in c g e) (left e l.0 m.0) (right e l.1 m.1)

  compare_follows : (e : List Variable) (rel : Rel) (p : ℕ) (t u : TermTree) →
      a.compared e rel p t u ++ (places_in_term a t e role.Compared false ++ places_in_term a u e role.Compared false) ≡ [] →
      b.compared e rel p t u ++ (places_in_term b t e role.Compared false ++ places_in_term b u e role.Compared false) ≡ [] →
      c.compared e rel p t u ++ (places_in_term c t e role.Compared false ++ places_in_term c u e role.Compared false) ≡ []
  compare_follows e rel p t u first second =
      let f = append_empty (a.compared e rel p t u) (places_in_term a t e role.Compared false ++ places_in_term a u e role.Compared false) first in
      let s = append_empty (b.compared e rel p t u) (places_in_term b t e role.Compared false ++ places_in_term b u e role.Compared false) second in
      let l = append_empty (places_in_term a t e role.Compared false) (places_in_term a u e role.Compared false) f.1 in
      let m = append_empty (places_in_term b t e role.Compared false) (places_in_term b u e role.Compared false) s.1 in
      both_empty (c.compared e rel p t u) (places_in_term c t e role.Compared false ++ places_in_term c u e role.Compared false)
      (follows.compared e rel p t u f.0 s.0)
      (both_empty (places_in_term c t e role.Compared false) (places_in_term c u e role.Compared false)
      (term_follows t e role.Compared false l.0 m.0) (term_follows u e role.Compared false l.1 m.1))

  far_follows : (f : FormulaTree) (t : TermTree) → FormulaFollows f → (e : List Variable) → places_in a f e ++ places_in_term a t e role.Distance true ≡ [] →
      places_in b f e ++ places_in_term b t e role.Distance true ≡ [] → places_in c f e ++ places_in_term c t e role.Distance true ≡ []
  unfolding FormulaFollows
  far_follows f t is e first second =
      let l = append_empty (places_in a f e) (places_in_term a t e role.Distance true) first in
      let m = append_empty (places_in b f e) (places_in_term b t e role.Distance true) second in
      both_empty (places_in c f e) (places_in_term c t e role.Distance true) (is e l.0 m.0) (term_follows t e role.Distance true l.1 m.1)

  under_follows : (x : Mention) (ref : RefTree) (f : FormulaTree) → FormulaFollows f → (e : List Variable) →
      a.variable e x ref ++ places_in a f (e ++ record { name = x.name; domain = ref } ∷ []) ≡ [] →
      b.variable e x ref ++ places_in b f (e ++ record { name = x.name; domain = ref } ∷ []) ≡ [] →
      c.variable e x ref ++ places_in c f (e ++ record { name = x.name; domain = ref } ∷ []) ≡ []
  unfolding FormulaFollows
  under_follows x ref f is e first second =
      let under : List Variable = e ++ record { name = x.name; domain = ref } ∷ [] in
      let l = append_empty (a.variable e x ref) (places_in a f under) first in
      let m = append_empty (b.variable e x ref) (places_in b f under) second in
      both_empty (c.variable e x ref) (places_in c f under) (follows.variable e x ref l.0 m.0) (is under l.1 m.1)

  formula_cases : FormulaCases FormulaFollows
  unfolding FormulaFollows
  formula_cases = record {
    at_lone = λ t e first second.
        in-Lone c e t ∙ term_follows t e role.Alone false (sym (in-Lone a e t) ∙ first) (sym (in-Lone b e t) ∙ second);
    at_compare = λ rel p t u e first second.
        in-Compare c e rel p t u ∙ compare_follows e rel p t u (sym (in-Compare a e rel p t u) ∙ first) (sym (in-Compare b e rel p t u) ∙ second);
    at_not = λ f is e first second. in-Not c e f ∙ is e (sym (in-Not a e f) ∙ first) (sym (in-Not b e f) ∙ second);
    at_and = λ fs each e first second. in-And c e fs ∙ all_follow fs each e (sym (in-And a e fs) ∙ first) (sym (in-And b e fs) ∙ second);
    at_or = λ fs each e first second. in-Or c e fs ∙ all_follow fs each e (sym (in-Or a e fs) ∙ first) (sym (in-Or b e fs) ∙ second);
    at_implies = λ f g l m e first second.
        in-Implies c e f g ∙ both_follow f g l m e (sym (in-Implies a e f g) ∙ first) (sym (in-Implies b e f g) ∙ second);
    at_iff = λ f g l m e first second. in-Iff c e f g ∙ both_follow f g l m e (sym (in-Iff a e f g) ∙ first) (sym (in-Iff b e f g) ∙ second);
    at_quantified = λ q x ref f is e first second.
        in-Quantified c e q x ref f
        ∙ under_follows x ref f is e (sym (in-Quantified a e q x ref f) ∙ first) (sym (in-Quantified b e q x ref f) ∙ second);
    at_one = λ op f is e first second. in-One c e op f ∙ is e (sym (in-One a e op f) ∙ first) (sym (in-One b e op f) ∙ second);
    at_far = λ op f t is e first second.
        in-Far c e op f t ∙ far_follows f t is e (sym (in-Far a e op f t) ∙ first) (sym (in-Far b e op f t) ∙ second);
    at_pair = λ op f g l m e first second.
        in-Pair c e op f g ∙ both_follow f g l m e (sym (in-Pair a e op f g) ∙ first) (sym (in-Pair b e op f g) ∙ second);
  }

  pub formula_follows : (f : FormulaTree) (e : List Variable) → places_in a f e ≡ [] → places_in b f e ≡ [] → places_in c f e ≡ []
  unfolding FormulaFollows
  formula_follows f = every_formula FormulaFollows formula_cases f
