-- Lists in order that permute each other are equal.
use Rattle.std.proofs.Common.{◌≡◌, ℕ, zero, suc, ◌+◌, ◌<◌, Bool, true, false, cond, List, [], ◌∷◌, ◌++◌, length, get_or, filter, All, Contains, Ordering, Less, Equal, Greater, refl, subst, sym, ap, ◌∙◌, arith}
use Rattle.std.specs.Cmp.{IsTotalOrder}
use Rattle.std.specs.List.Sorted.{IsSorted, IsStrictlySortedBy}
use Rattle.std.specs.Ordering.{is_eq, is_lt, ordering_reverse, nat_cmp}
use Rattle.std.specs.Cmp.Lexicographic.{slice_cmp}
use Rattle.std.proofs.lemmas.Cmp.{nat_list_cmp_total}
use Rattle.std.proofs.lemmas.Map.Text.{is_eq-slice_cmp}
use Rattle.std.proofs.lemmas.Slice.Eq.{bytes_eq-Decides}
use native.Mathlib.Numerals.{unary_clauses}
use Rattle.std.proofs.Math.Seq.{get_or-append_seam}
use Rattle.std.proofs.lemmas.List.{length-append}
use Rattle.std.proofs.lemmas.List.Elements.{All-head, All-tail}
use Rattle.std.proofs.lemmas.List.Sorted.{ranks_by, sorted_far}
use Rattle.std.proofs.lemmas.Bool.{false≢true}
use Rattle.std.proofs.lemmas.Map.Keys.{sorted_tail}
use Rattle.std.proofs.lemmas.Map.Made.{Contains-tail}
use Rattle.std.proofs.lemmas.Map.Views.{All-after_first}
use Rattle.trio_lists.proofs.Filters.{filter_none}
use Rattle.trio_lists.specs.Multisets.{Permutes}
use Rattle.trio_lists.proofs.Permuted.{split_at, head_counts, permutes_length, permutes_without, permutes_back}

-- an order in which only equals tie
pub record Orders {A : Type 0} (cmp : A → A → Ordering) : Type 0 where
  pub total : IsTotalOrder cmp
  pub ties : (x y : A) → cmp x y ≡ Equal → x ≡ y

module _ {A : Type 0} (cmp : A → A → Ordering) (o : Orders cmp) where
  -- the first is not greater than any
  head_least : (x : A) (xs : List A) → IsSorted cmp (x ∷ xs) → (us : List A) (y : A) (vs : List A) → (x ∷ xs) ≡ us ++ y ∷ vs → is_lt (cmp y x) ≡ false
  head_least x xs up us y vs at =
      let inside : length us < length (x ∷ xs) = omega (arith, ap length at, length-append us (y ∷ vs)) in
      let is : get_or (x ∷ xs) (length us) x ≡ y = ap (λ zs. get_or zs (length us) x) at ∙ get_or-append_seam us y vs x in
      ap (λ z. is_lt (cmp z x)) (sym is)
      ∙ sorted_far (λ a b. is_lt (cmp a b)) (ranks_by o.total (λ z. z)) (x ∷ xs) up 0 (length us) x (omega arith) inside

  tail_sorted : (x : A) (xs : List A) → IsSorted cmp (x ∷ xs) → IsSorted cmp xs
  tail_sorted x xs up = λ k d from to. simp unary_clauses (simp unary_clauses at (up (k + 1) d (omega arith) (omega arith)))

  itself : (x : A) → cmp x x ≡ Equal
  itself x = equal (cmp x x) refl
    where
      equal : (r : Ordering) → cmp x x ≡ r → cmp x x ≡ Equal
      equal Less is = let e : Less ≡ ordering_reverse Less = sym is ∙ o.total.antisymm x x ∙ ap ordering_reverse is in cc
      equal Equal is = is
      equal Greater is = let e : Greater ≡ ordering_reverse Greater = sym is ∙ o.total.antisymm x x ∙ ap ordering_reverse is in cc

  neither : (x y : A) → is_lt (cmp x y) ≡ false → is_lt (cmp y x) ≡ false → x ≡ y
  neither x y not_less not_more = equal (cmp x y) refl
    where
      equal : (r : Ordering) → cmp x y ≡ r → x ≡ y
      equal Less is = let e : is_lt Less ≡ false = sym (ap is_lt is) ∙ not_less in cc
      equal Equal is = o.ties x y is
      equal Greater is =
          let turned : cmp y x ≡ Less = o.total.antisymm y x ∙ ap ordering_reverse is in
          let e : is_lt Less ≡ false = sym (ap is_lt turned) ∙ not_more in cc

  tied : (x y : A) → is_eq (cmp x y) ≡ true → x ≡ y
  tied x y is = equal (cmp x y) refl
    where
      equal : (r : Ordering) → cmp x y ≡ r → x ≡ y
      equal Less at = let e : is_eq Less ≡ true = sym (ap is_eq at) ∙ is in cc
      equal Equal at = o.ties x y at
      equal Greater at = let e : is_eq Greater ≡ true = sym (ap is_eq at) ∙ is in cc

  -- the head of one is not greater than that of the other
  not_greater : (x y : A) (xs ys : List A) → IsSorted cmp (y ∷ ys) → Permutes (x ∷ xs) (y ∷ ys) → is_lt (cmp x y) ≡ false
  not_greater x y xs ys up p =
      let found = split_at (λ z. is_eq (cmp x z)) (y ∷ ys)
      (omega (arith, head_counts (λ z. is_eq (cmp x z)) x xs (ap is_eq (itself x)), p.weights (λ z. cond (is_eq (cmp x z)) 1 0))) in
      ap (λ z. is_lt (cmp z y)) (tied x found.1 found.4) ∙ head_least y ys up found.0 found.1 found.2 found.3

  -- what a sort makes of a permutation of a sorted list is that list
  pub unique : (xs ys : List A) → IsSorted cmp xs → IsSorted cmp ys → Permutes xs ys → xs ≡ ys
  unique [] [] ux uy p = refl
  unique [] (y ∷ ys) ux uy p = absurd (omega (arith, permutes_length [] (y ∷ ys) p))
  unique (x ∷ xs) [] ux uy p = absurd (omega (arith, permutes_length (x ∷ xs) [] p))
  unique (x ∷ xs) (y ∷ ys) ux uy p =
      let same : x ≡ y = neither x y (not_greater x y xs ys uy p) (not_greater y x ys xs ux (permutes_back p)) in
      let rest : Permutes xs ys = permutes_without x xs [] ys (subst (λ z. Permutes (x ∷ xs) (z ∷ ys)) (sym same) p) in
      rw (same, unique xs ys (tail_sorted x xs ux) (tail_sorted y ys uy) rest) refl

  -- a list in which each stands before greater ones is sorted
  pub sorted_strictly : (xs : List A) → IsStrictlySortedBy cmp xs → IsSorted cmp xs
  unfolding IsStrictlySortedBy
  sorted_strictly [] up = λ k d from to. absurd (omega arith)
  sorted_strictly (x ∷ []) up = λ k d from to. absurd (omega arith)
  sorted_strictly (x ∷ y ∷ ys) up = λ k d from to. at_place k d (omega arith) (sorted_strictly (y ∷ ys) up.1)
    where
      at_place : (k : ℕ) (d : A) → k + 1 < length (x ∷ y ∷ ys) → IsSorted cmp (y ∷ ys) → is_lt (cmp (get_or (x ∷ y ∷ ys) (k + 1) d) (get_or (x ∷ y ∷ ys) k d)) ≡ false
      at_place zero d to rest = ap is_lt (o.total.antisymm y x ∙ ap ordering_reverse up.0.0)
      at_place (suc k) d to rest = simp unary_clauses (simp unary_clauses at (rest k d (omega arith) (omega arith)))

  -- in such a list, an element that alone passes a test is all that its filter keeps
  pub filter_one : (p : A → Bool) (xs : List A) (x : A) → IsStrictlySortedBy cmp xs → Contains xs x → p x ≡ true → All (λ y. p y ≡ true → y ≡ x) xs → filter p xs ≡ x ∷ []
  filter_one p [] x up has passes alone = absurd (omega (arith, has.1))
  filter_one p (y ∷ ys) x up has passes alone = at_head (p y) refl (λ more. filter_one p ys x (sorted_tail cmp y ys up) more passes (All-tail (λ z. p z ≡ true → z ≡ x) y ys alone))
    where
      fails : (z : A) → (b : Bool) → p z ≡ b → (p z ≡ true → z ≡ x) → y ≡ x → cmp y z ≡ Less → p z ≡ false
      fails z false is one same less = is
      fails z true is one same less = let e : Equal ≡ Less = sym (itself x) ∙ sym (ap (λ u. cmp u x) same) ∙ sym (ap (cmp y) (one is)) ∙ less in cc

      at_head : (b : Bool) → p y ≡ b → (Contains ys x → filter p ys ≡ x ∷ []) → cond (p y) (y ∷ filter p ys) (filter p ys) ≡ x ∷ []
      at_head true is rest =
          let same : y ≡ x = All-head (λ z. p z ≡ true → z ≡ x) y ys alone is in
          let others = All-tail (λ z. p z ≡ true → z ≡ x) y ys alone in
          let none = filter_none p ys (λ k d inside. fails (get_or ys k d) (p (get_or ys k d)) refl (others k d inside) same (All-after_first cmp y ys up k d inside)) in
          rw (is, none, same) refl
      at_head false is rest =
          let other : y ≡ x → ⊥ = λ same. false≢true (sym is ∙ ap p same ∙ passes) in
          rw is (rest (Contains-tail y ys x other has))

-- lists of numbers in lexical order
pub lexical : Orders (slice_cmp nat_cmp)
lexical = record {
  total = nat_list_cmp_total;
  ties = λ xs ys tied. (bytes_eq-Decides xs ys).0 (sym (is_eq-slice_cmp xs ys) ∙ ap is_eq tied);
}
