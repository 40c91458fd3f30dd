-- A map of names as one more declaration is noted in it.
use Rattle.std.proofs.Common.{◌≡◌, ℕ, Bool, true, false, not, cond, ◌||◌, List, [], ◌∷◌, ◌++◌, Option, None, Some, find, is_some, refl, sym, ap, ◌∙◌, append_assoc}
use Rattle.std.specs.Option.{option_map}
use Rattle.std.specs.Str.{bytes_eq}
use Rattle.std.specs.Map.{update}
use Rattle.std.proofs.Math.Logic.{⊎_elim}
use Rattle.std.proofs.lemmas.Bool.{true≢false, cases_Bool, cond-true, cond-false}
use Rattle.std.proofs.lemmas.Slice.Eq.{bytes_eq-Decides}
use Rattle.std.proofs.lemmas.List.{append-nil}
use Rattle.trio_syntax.specs.declared.tree.Mention.{Mention}
use Rattle.trio_scope.specs.declared.meaning.Meaning.{Meaning}
use Rattle.trio_scope.specs.declared.meaning.Declared.{Declared}
use Rattle.trio_scope.specs.declared.names.Names.{Names}
use Rattle.trio_scope.specs.Places.{earlier, least, unless}
use Rattle.trio_scope.specs.Names.{Declaration, declaration, declared_of, is_declared, repeated_behind}
use Rattle.trio_scope.specs.Table.{declared_in, HasDeclarations}
use Rattle.trio_scope.proofs.Least.{earlier-none, least_both}

-- a name keeps its declaration, and has this one where it had none and is the name that is noted
noted : Option Declared → Bool → Declared → Option Declared
noted (Some d) same new = Some d
noted None true new = Some new
noted None false new = None

noted_false : (r : Option Declared) (new : Declared) → noted r false new ≡ r
unfolding noted
noted_false None new = refl
noted_false (Some d) new = refl

noted_here : (b same : Bool) (d : Declared) (r : Option Declared) (new : Declared) → noted (cond b (Some d) r) same new ≡ cond b (Some d) (noted r same new)
unfolding noted
noted_here true same d r new = refl
noted_here false same d r new = refl

mapped : {A B : Type 0} (f : A → B) (b : Bool) (x : A) (r : Option A) → option_map f (cond b (Some x) r) ≡ cond b (Some (f x)) (option_map f r)
mapped f true x r = refl
mapped f false x r = refl

noted_none : (b : Bool) (new : Declared) → cond b (Some new) None ≡ noted None b new
unfolding noted
noted_none true new = refl
noted_none false new = refl

declared-last : (ds : List Declaration) (d : Declaration) (name : List ℕ) →
    declared_of (ds ++ d ∷ []) name ≡ noted (declared_of ds name) (bytes_eq d.name name) d.declared
declared-last [] d name =
    mapped (λ (x : Declaration). x.declared) (bytes_eq d.name name) d None ∙ noted_none (bytes_eq d.name name) d.declared
declared-last (x ∷ xs) d name =
    mapped (λ (y : Declaration). y.declared) (bytes_eq x.name name) x (find (λ y. bytes_eq y.name name) (xs ++ d ∷ []))
    ∙ ap (λ r. cond (bytes_eq x.name name) (Some x.declared) r) (declared-last xs d name)
    ∙ sym (noted_here (bytes_eq x.name name) (bytes_eq d.name name) x.declared (declared_of xs name) d.declared)
    ∙ ap (λ r. noted r (bytes_eq d.name name) d.declared)
    (sym (mapped (λ (y : Declaration). y.declared) (bytes_eq x.name name) x (find (λ y. bytes_eq y.name name) xs)))

found_any : (b : Bool) (d : Declared) (r : Option Declared) (any : Bool) → any ≡ is_some r → (b || any) ≡ is_some (cond b (Some d) r)
found_any true d r any is = refl
found_any false d r any is = is

-- a name is declared where it has a declaration
pub declared-is : (ds : List Declaration) (name : List ℕ) → is_declared ds name ≡ is_some (declared_of ds name)
declared-is [] name = refl
declared-is (x ∷ xs) name =
    found_any (bytes_eq x.name name) x.declared (declared_of xs name) (is_declared xs name) (declared-is xs name)
    ∙ ap is_some (sym (mapped (λ (y : Declaration). y.declared) (bytes_eq x.name name) x (find (λ y. bytes_eq y.name name) xs)))

repeated-last : (before ds : List Declaration) (d : Declaration) →
    repeated_behind before (ds ++ d ∷ []) ≡ repeated_behind before ds ++ unless (not (is_declared (before ++ ds) d.name)) d.declared.place
repeated-last before [] d =
    append-nil (unless (not (is_declared before d.name)) d.declared.place)
    ∙ ap (λ ds. unless (not (is_declared ds d.name)) d.declared.place) (sym (append-nil before))
repeated-last before (x ∷ xs) d =
    ap (λ ps. unless (not (is_declared before x.name)) x.declared.place ++ ps) (repeated-last (before ++ x ∷ []) xs d)
    ∙ sym (append_assoc (unless (not (is_declared before x.name)) x.declared.place) (repeated_behind (before ++ x ∷ []) xs)
    (unless (not (is_declared ((before ++ x ∷ []) ++ xs) d.name)) d.declared.place))
    ∙ ap (λ ds. repeated_behind before (x ∷ xs) ++ unless (not (is_declared ds d.name)) d.declared.place) (append_assoc before (x ∷ []) xs)

none_of : (r : Option Declared) → false ≡ is_some r → r ≡ None
none_of None is = refl
none_of (Some d) is = absurd (true≢false (sym is))

noted_some : (r : Option Declared) (new : Declared) → true ≡ is_some r → r ≡ noted r true new
unfolding noted
noted_some None new is = absurd (true≢false is)
noted_some (Some d) new is = refl

-- the name was declared already
pub tells_again : (old : Names) (domains items : ℕ) (ds : List Declaration) → HasDeclarations old domains items ds → (m : Mention) (stands : Meaning) →
    true ≡ is_some (declared_in old.first m.name) → (repeated : Option ℕ) → repeated ≡ earlier old.repeated (Some m.place) →
    HasDeclarations (record old { repeated = repeated }) domains items (ds ++ declaration m stands ∷ [])
unfolding noted
tells_again old domains items ds tells m stands there repeated is = record {
  first = λ name. tells.first name ∙ ⊎_elim
      (λ same. noted_some (declared_of ds name) d.declared (there ∙ ap is_some (tells.first m.name ∙ ap (declared_of ds) ((bytes_eq-Decides m.name name).0 same)))
      ∙ ap (λ b. noted (declared_of ds name) b d.declared) (sym same))
      (λ other. sym (noted_false (declared_of ds name) d.declared) ∙ ap (λ b. noted (declared_of ds name) b d.declared) (sym other))
      (cases_Bool (bytes_eq m.name name)) ∙ sym (declared-last ds d name);
  repeated = least_both (repeated_behind [] ds) (unless (not (is_declared ds m.name)) m.place) tells.repeated
      (ap (λ b. least (unless (not b) m.place)) (there ∙ ap is_some (tells.first m.name) ∙ sym (declared-is ds m.name))) is
      ∙ ap least (sym (repeated-last [] ds d));
  domains_so_far = tells.domains_so_far;
  items_so_far = tells.items_so_far;
}
  where
    d : Declaration
    d = declaration m stands

-- the name is declared first here
pub tells_first : (old new : Names) (domains items : ℕ) (ds : List Declaration) → HasDeclarations old domains items ds → (m : Mention) (stands : Meaning) →
    false ≡ is_some (declared_in old.first m.name) →
    ((name : List ℕ) → declared_in new.first name ≡ update bytes_eq (declared_in old.first) m.name (Some (declaration m stands).declared) name) →
    new.repeated ≡ old.repeated → new.domains ≡ old.domains → new.items ≡ old.items → HasDeclarations new domains items (ds ++ declaration m stands ∷ [])
unfolding noted
tells_first old new domains items ds tells m stands absent updates repeated same_domains same_items = record {
  first = λ name. updates name ∙ ⊎_elim
      (λ same. cond-true (bytes_eq m.name name) (Some d.declared) (declared_in old.first name) same
      ∙ sym (ap (λ r. noted r true d.declared) (ap (declared_of ds) (sym ((bytes_eq-Decides m.name name).0 same)) ∙ none_of (declared_of ds m.name) none))
      ∙ ap (λ b. noted (declared_of ds name) b d.declared) (sym same))
      (λ other. cond-false (bytes_eq m.name name) (Some d.declared) (declared_in old.first name) other ∙ tells.first name
      ∙ sym (noted_false (declared_of ds name) d.declared) ∙ ap (λ b. noted (declared_of ds name) b d.declared) (sym other))
      (cases_Bool (bytes_eq m.name name)) ∙ sym (declared-last ds d name);
  repeated = repeated ∙ least_both (repeated_behind [] ds) (unless (not (is_declared ds m.name)) m.place) tells.repeated
      (ap (λ b. least (unless (not b) m.place)) (none ∙ sym (declared-is ds m.name))) (sym (earlier-none old.repeated))
      ∙ ap least (sym (repeated-last [] ds d));
  domains_so_far = same_domains ∙ tells.domains_so_far;
  items_so_far = same_items ∙ tells.items_so_far;
}
  where
    d : Declaration
    d = declaration m stands

    none : false ≡ is_some (declared_of ds m.name)
    none = absent ∙ ap is_some (tells.first m.name)
