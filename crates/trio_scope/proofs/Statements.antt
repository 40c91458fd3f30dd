-- What statements declare, one after another.
use Rattle.std.proofs.Common.{◌≡◌, ℕ, ◌+◌, List, [], ◌∷◌, ◌++◌, length, length-append, refl, sym, ap, subst, ◌∙◌, append_assoc, add_assoc, arith}
use Rattle.std.proofs.lemmas.List.{append-nil}
use Rattle.trio_syntax.specs.declared.tree.Mention.{Mention}
use Rattle.trio_syntax.specs.declared.tree.DomainTree.{DomainTree}
use Rattle.trio_syntax.specs.declared.tree.ItemTree.{ItemTree}
use Rattle.trio_syntax.specs.declared.tree.DeclarationTree.{DeclarationTree}
use Rattle.trio_syntax.specs.declared.tree.DeclarationTree.TheVariants as statement
use Rattle.trio_scope.specs.declared.meaning.Meaning.TheVariants as meaning
use Rattle.trio_scope.specs.declared.names.Names.{Names}
use Rattle.trio_scope.specs.Names.{Declaration, declaration, words_from, declared_words, declared_from, domains_in, items_in}
use Rattle.trio_scope.specs.Table.{declared_in, HasDeclarations, AddsDeclarations, AddsStatements}

add-zero : (n : ℕ) → n + 0 ≡ n
add-zero n = omega arith

pub words-last : (domain index : ℕ) (ws : List Mention) (w : Mention) →
    words_from domain index (ws ++ w ∷ []) ≡ words_from domain index ws ++ declaration w (meaning.Word domain (index + length ws)) ∷ []
words-last domain index [] w = ap (λ n. declaration w (meaning.Word domain n) ∷ []) (omega arith)
words-last domain index (v ∷ vs) w =
    ap (λ ds. declaration v (meaning.Word domain index) ∷ ds) (words-last domain (index + 1) vs w
    ∙ ap (λ n. words_from domain (index + 1) vs ++ declaration w (meaning.Word domain n) ∷ []) (omega arith))

-- domains and items among statements behind others
pub domains_in-append : (xs ys : List DeclarationTree) → domains_in (xs ++ ys) ≡ domains_in xs ++ domains_in ys
domains_in-append [] ys = refl
domains_in-append (statement.Domain d ∷ xs) ys = ap (λ ds. d ∷ ds) (domains_in-append xs ys)
domains_in-append (statement.Item i ∷ xs) ys = domains_in-append xs ys

pub items_in-append : (xs ys : List DeclarationTree) → items_in (xs ++ ys) ≡ items_in xs ++ items_in ys
items_in-append [] ys = refl
items_in-append (statement.Domain d ∷ xs) ys = items_in-append xs ys
items_in-append (statement.Item i ∷ xs) ys = ap (λ is. i ∷ is) (items_in-append xs ys)

domains-append : (xs ys : List DeclarationTree) → length (domains_in (xs ++ ys)) ≡ length (domains_in xs) + length (domains_in ys)
domains-append xs ys = ap length (domains_in-append xs ys) ∙ length-append (domains_in xs) (domains_in ys)

items-append : (xs ys : List DeclarationTree) → length (items_in (xs ++ ys)) ≡ length (items_in xs) + length (items_in ys)
items-append xs ys = ap length (items_in-append xs ys) ∙ length-append (items_in xs) (items_in ys)

declared-append : (domains items : ℕ) (xs ys : List DeclarationTree) → declared_from domains items (xs ++ ys)
    ≡ declared_from domains items xs ++ declared_from (domains + length (domains_in xs)) (items + length (items_in xs)) ys
declared-append domains items [] ys = rw (add-zero domains, add-zero items) refl
declared-append domains items (statement.Domain d ∷ xs) ys =
    ap (λ ds. declaration d.name (meaning.Domain domains) ∷ declared_words domains d.values ++ ds) (declared-append (domains + 1) items xs ys
    ∙ ap (λ n. declared_from (domains + 1) items xs ++ declared_from n (items + length (items_in xs)) ys) (omega arith))
    ∙ ap (λ ds. declaration d.name (meaning.Domain domains) ∷ ds) (sym (append_assoc (declared_words domains d.values) (declared_from (domains + 1) items xs)
    (declared_from (domains + length (domains_in (statement.Domain d ∷ xs))) (items + length (items_in xs)) ys)))
declared-append domains items (statement.Item i ∷ xs) ys =
    ap (λ ds. declaration i.name (meaning.Item items) ∷ ds) (declared-append domains (items + 1) xs ys
    ∙ ap (λ n. declared_from domains (items + 1) xs ++ declared_from (domains + length (domains_in xs)) n ys) (omega arith))

-- statements behind others
pub reads_then : (old middle new : Names) (xs ys : List DeclarationTree) → AddsStatements old middle xs → AddsStatements middle new ys → AddsStatements old new (xs ++ ys)
reads_then old middle new xs ys first second domains items ds tells =
    let d : ℕ = domains + length (domains_in xs) in
    let i : ℕ = items + length (items_in xs) in
    let both = second d i (ds ++ declared_from domains items xs) (first domains items ds tells) in
    rw (
      domains-append xs ys,
      items-append xs ys,
      declared-append domains items xs ys,
      ← append_assoc ds (declared_from domains items xs) (declared_from d i ys),
      ← add_assoc domains (length (domains_in xs)) (length (domains_in ys)),
      ← add_assoc items (length (items_in xs)) (length (items_in ys)),
    ) both

-- declarations behind others
pub adds_then : (old middle new : Names) (xs ys : List Declaration) → AddsDeclarations old middle xs → AddsDeclarations middle new ys → AddsDeclarations old new (xs ++ ys)
adds_then old middle new xs ys first second domains items ds tells =
    rw (← append_assoc ds xs ys) (second domains items (ds ++ xs) (first domains items ds tells))

-- the statement that declares an item
pub reads_item : (old middle new : Names) (i : ItemTree) → AddsDeclarations old middle (declaration i.name (meaning.Item old.items) ∷ []) → new.first ≡ middle.first →
    new.repeated ≡ middle.repeated → new.domains ≡ middle.domains → new.items ≡ middle.items + 1 →
    AddsStatements old new (statement.Item i ∷ [])
reads_item old middle new i adds first repeated domains_same items_next domains items ds tells =
    let after : HasDeclarations middle domains items (ds ++ declaration i.name (meaning.Item items) ∷ []) =
    subst (λ n. HasDeclarations middle domains items (ds ++ declaration i.name (meaning.Item n) ∷ [])) tells.items_so_far (adds domains items ds tells) in
    record {
      first = λ name. ap (λ m. declared_in m name) first ∙ after.first name;
      repeated = repeated ∙ after.repeated;
      domains_so_far = domains_same ∙ after.domains_so_far ∙ sym (add-zero domains);
      items_so_far = items_next ∙ ap (λ n. n + 1) after.items_so_far;
    }

-- the statement that declares a domain
pub reads_domain : (old middle later new : Names) (d : DomainTree) → AddsDeclarations old middle (declaration d.name (meaning.Domain old.domains) ∷ []) →
    AddsDeclarations middle later (declared_words middle.domains d.values) → new.first ≡ later.first → new.repeated ≡ later.repeated → new.domains ≡ later.domains + 1 →
    new.items ≡ later.items → AddsStatements old new (statement.Domain d ∷ [])
reads_domain old middle later new d adds words first repeated domains_next items_same domains items ds tells =
    let named : HasDeclarations middle domains items (ds ++ declaration d.name (meaning.Domain domains) ∷ []) =
    subst (λ n. HasDeclarations middle domains items (ds ++ declaration d.name (meaning.Domain n) ∷ [])) tells.domains_so_far (adds domains items ds tells) in
    let whole : HasDeclarations later domains items ((ds ++ declaration d.name (meaning.Domain domains) ∷ []) ++ declared_words domains d.values) =
    subst (λ n. HasDeclarations later domains items ((ds ++ declaration d.name (meaning.Domain domains) ∷ []) ++ declared_words n d.values)) named.domains_so_far
    (words domains items (ds ++ declaration d.name (meaning.Domain domains) ∷ []) named) in
    let after : HasDeclarations later domains items (ds ++ declared_from domains items (statement.Domain d ∷ [])) =
    rw (append-nil (declared_words domains d.values), ← append_assoc ds (declaration d.name (meaning.Domain domains) ∷ []) (declared_words domains d.values)) whole in
    record {
      first = λ name. ap (λ m. declared_in m name) first ∙ after.first name;
      repeated = repeated ∙ after.repeated;
      domains_so_far = domains_next ∙ ap (λ n. n + 1) after.domains_so_far;
      items_so_far = items_same ∙ after.items_so_far ∙ sym (add-zero items);
    }
