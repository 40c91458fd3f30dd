-- Where a list of tokens has a fault it is no text, and it has one first fault only.
use Rattle.std.proofs.Common.{◌≡◌, ℕ, ◌+◌, ◌<◌, ◌≤◌, ◌⊎◌, ⊎_elim, List, ◌++◌, length, take, drop, sym, ap, subst, ◌∙◌, append_assoc, arith}
use Rattle.std.proofs.lemmas.List.{take-append-drop, take-take}
use Rattle.std.proofs.lemmas.Bool.{cases_order}
use Rattle.trio_text.specs.declared.lexeme.Lexeme.{Lexeme}
use Rattle.trio_syntax.specs.Reading.{Language, Begins, IsSyntaxFault}

-- the front of a front
begins_less : {A : Type 0} (P : Language A) (tokens : List Lexeme) (j k : ℕ) → j ≤ k → Begins P (take k tokens) → Begins P (take j tokens)
begins_less P tokens j k less begins =
    let front = take k tokens in
    let same : take j tokens ++ (drop j front ++ begins.0) ≡ front ++ begins.0 =
    sym (append_assoc (take j tokens) (drop j front) begins.0)
    ∙ ap (λ (w : List Lexeme). (w ++ drop j front) ++ begins.0) (sym (take-take j k tokens less)) ∙ ap (λ (w : List Lexeme). w ++ begins.0) (take-append-drop j front) in
    (drop j front ++ begins.0, begins.1, subst (λ (w : List Lexeme). P w begins.1) (sym same) begins.2)

pub fault_no_tree : {A : Type 0} (P : Language A) (tokens : List Lexeme) (place : ℕ) (v : A) → IsSyntaxFault P tokens place → P tokens v → ⊥
fault_no_tree P tokens place v fault p =
    let inside : place < length tokens → ⊥ =
    λ less. fault.here less (drop (place + 1) tokens, v, subst (λ (w : List Lexeme). P w v) (sym (take-append-drop (place + 1) tokens)) p) in
    ⊎_elim
    (λ (h : place ≡ length tokens). fault.end h v p)
    (λ (h : (place < length tokens) ⊎ (length tokens < place)). ⊎_elim
    (λ (less : place < length tokens). inside less)
    (λ (above : length tokens < place). absurd (omega (arith, above, fault.within))) h)
    (cases_order place (length tokens))

fault_not_before : {A : Type 0} (P : Language A) (tokens : List Lexeme) (j k : ℕ) → j < k → IsSyntaxFault P tokens j → IsSyntaxFault P tokens k → ⊥
fault_not_before P tokens j k less first second =
    first.here (omega (arith, less, second.within)) (begins_less P tokens (j + 1) k (omega (arith, less)) second.before)

pub one_fault : {A : Type 0} (P : Language A) (tokens : List Lexeme) (j k : ℕ) → IsSyntaxFault P tokens j → IsSyntaxFault P tokens k → j ≡ k
one_fault P tokens j k first second =
    ⊎_elim
    (λ (h : j ≡ k). h)
    (λ (h : (j < k) ⊎ (k < j)). ⊎_elim
    (λ (less : j < k). absurd (fault_not_before P tokens j k less first second))
    (λ (more : k < j). absurd (fault_not_before P tokens k j more second first)) h)
    (cases_order j k)
