-- Where the places of names stand in a tree that was read, in which the domains stand before the items.
use Rattle.std.proofs.Common.{◌≡◌, ℕ, ◌+◌, ◌≤◌, true, List, [], ◌∷◌, ◌++◌, length, length-append, map, refl, sym, ap, subst, ◌∙◌, append_assoc, arith}
use Rattle.std.specs.List.{list_all, flat_map}
use Rattle.std.proofs.lemmas.Bool.{and_from}
use Rattle.trio_text.specs.declared.lexeme.Lexeme.{Lexeme}
use Rattle.trio_syntax.specs.declared.tree.Written.{Written}
use Rattle.trio_syntax.specs.declared.tree.DomainTree.{DomainTree}
use Rattle.trio_syntax.specs.declared.tree.ItemTree.{ItemTree}
use Rattle.trio_syntax.specs.declared.tree.DeclarationTree.{DeclarationTree}
use Rattle.trio_syntax.specs.declared.tree.DeclarationTree.TheVariants as statement
use Rattle.trio_syntax.specs.declared.tree.ClaimTree.{ClaimTree}
use Rattle.trio_syntax.specs.declared.tree.SpecTree.{SpecTree}
use Rattle.trio_syntax.specs.Reading.{Language}
use Rattle.trio_syntax.specs.Forms.{either, Many, none, more, Under}
use Rattle.trio_syntax.specs.Grammar.{rows_within, domain, item, claim, IsSpec}
use Rattle.trio_scope.specs.Gather.{places_in_claims}
use Rattle.trio_scope.specs.Scope.{names_of_ref, refs_of}
use Rattle.trio_types.proofs.Inductions.{Each}
use Rattle.trio_canonical.proofs.SoundPhases.{both_empty}
use Rattle.trio_canonical.proofs.SoundNames.{in_order}
use Rattle.trio_canonical.proofs.SoundPlaces.{early, early_finding, names_declared, all_before, Stated, statements_stated, claims_late}

-- a text of some and others is one of the first and, behind it, one of the others
record Split {A : Type 0} (G : ℕ → Language A) (p : ℕ) (x : List Lexeme) (first second : List A) : Type 0 where
  front : List Lexeme
  rest : List Lexeme
  whole : x ≡ front ++ rest
  one : Many G p front first
  two : Many G (p + length front) rest second

one_behind : {A : Type 0} (G : ℕ → Language A) (p : ℕ) (y z : List Lexeme) {w : A} {ws others : List A} → G p y w →
    Split G (p + length y) z ws others → Split G p (y ++ z) (w ∷ ws) others
one_behind G p y z {others = others} d r =
    let at : (p + length y) + length r.front ≡ p + length (y ++ r.front) = omega (arith, length-append y r.front) in
    record {
      front = y ++ r.front;
      rest = r.rest;
      whole = ap (λ t. y ++ t) r.whole ∙ sym (append_assoc y r.front r.rest);
      one = more d r.one;
      two = subst (λ q. Many G q r.rest others) at r.two;
    }

split : {A : Type 0} (G : ℕ → Language A) (first second : List A) (p : ℕ) (x : List Lexeme) → Many G p x (first ++ second) → Split G p x first second
split G [] second p x d =
    let at : p ≡ p + 0 = omega arith in record { front = []; rest = x; whole = refl; one = none; two = subst (λ q. Many G q x second) at d }
split G (w ∷ first) second p x (more {x = y} {y = z} d ds) = one_behind G p y z d (split G first second (p + length y) z ds)

each_declares : (low high : ℕ) (ws : List DeclarationTree) → Each (Stated low high) ws → list_all (λ w. all_before high (names_declared w)) ws ≡ true
each_declares low high [] each = refl
each_declares low high (w ∷ ws) each =
    and_from (all_before high (names_declared w)) (list_all (λ w. all_before high (names_declared w)) ws) each.0.declares (each_declares low high ws each.1)

abbrev pub early_uses : ℕ → DeclarationTree → List ℕ
early_uses low w = flat_map (λ r. early low (names_of_ref r)) (refs_of w)

each_uses : (low high : ℕ) (ws : List DeclarationTree) → Each (Stated low high) ws → flat_map (early_uses low) ws ≡ []
each_uses low high [] each = refl
each_uses low high (w ∷ ws) each = both_empty (early_uses low w) (flat_map (early_uses low) ws) each.0.uses (each_uses low high ws each.1)

-- domains are declared before a token and items name theirs behind it; all is declared before another token, and formulas stand behind that
pub record Rises (tree : SpecTree) (ds : List DomainTree) (is : List ItemTree) : Type 0 where
  pub middle : ℕ
  pub last : ℕ
  pub domains : list_all (λ w. all_before middle (names_declared w)) (map statement.Domain ds) ≡ true
  pub refs : flat_map (early_uses middle) (map statement.Item is) ≡ []
  pub statements : list_all (λ w. all_before last (names_declared w)) (in_order ds is) ≡ true
  pub formulas : places_in_claims (early_finding last) tree ≡ []

-- statements and the claims behind them
rises_from : (tree : SpecTree) (ds : List DomainTree) (is : List ItemTree) (n p : ℕ) (x y : List Lexeme) →
    Many (Under (rows_within n) (either item domain)) p x (in_order ds is) → Many (Under (rows_within n) claim) (p + length x) y tree.claims → Rises tree ds is
rises_from tree ds is n p x y statements claims =
    let r = split (Under (rows_within n) (either item domain)) (map statement.Domain ds) (map statement.Item is) p x statements in
    let middle : ℕ = p + length r.front in
    let last : ℕ = p + length x in
    let whole : length x ≡ length r.front + length r.rest = ap length r.whole ∙ length-append r.front r.rest in
    let to : middle + length r.rest ≤ last = omega arith in
    record {
      middle = middle;
      last = last;
      domains = each_declares 0 middle (map statement.Domain ds)
          (statements_stated 0 middle n p r.front (map statement.Domain ds) (omega arith) (omega arith) r.one);
      refs = each_uses middle last (map statement.Item is)
          (statements_stated middle last n middle r.rest (map statement.Item is) (omega arith) to r.two);
      statements = each_declares 0 last (in_order ds is) (statements_stated 0 last n p x (in_order ds is) (omega arith) (omega arith) statements);
      formulas = claims_late last (last + length y) n last y tree.claims (omega arith) (omega arith) claims;
    }

pub rises : (tokens : List Lexeme) (tree : SpecTree) → IsSpec tokens tree → (ds : List DomainTree) (is : List ItemTree) → tree.declarations ≡ in_order ds is →
    Rises tree ds is
unfolding Under
rises tokens tree d ds is order =
    let j = d.reading in
    let k = j.two.two in
    let l = k.two in
    let p : ℕ = ((0 + length j.front) + length j.two.front) + length k.front in
    let same : j.second.1 ≡ (l.first, l.second) = ap (λ (x : Written × (List DeclarationTree × List ClaimTree)). x.1) j.two.is ∙ k.is ∙ l.is in
    let stated : l.first ≡ in_order ds is =
    sym (ap (λ (t : SpecTree). t.declarations) j.is ∙ ap (λ (x : List DeclarationTree × List ClaimTree). x.0) same) ∙ order in
    let claimed : l.second ≡ tree.claims = sym (ap (λ (t : SpecTree). t.claims) j.is ∙ ap (λ (x : List DeclarationTree × List ClaimTree). x.1) same) in
    rises_from tree ds is d.depth p l.front l.rest (subst (λ ws. Many (Under (rows_within d.depth) (either item domain)) p l.front ws) stated l.one)
    (subst (λ ws. Many (Under (rows_within d.depth) claim) (p + length l.front) l.rest ws) claimed l.two)
