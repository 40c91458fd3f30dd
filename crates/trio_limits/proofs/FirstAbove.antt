-- Which count is the first above its limit.
use Rattle.std.proofs.Common.{◌≡◌, ℕ, ◌<◌, ◌≤◌, Bool, nat_lt, List, [], ◌∷◌, Option, None, Some, find, refl, sym, ap, ◌∙◌, arith}
use Rattle.std.specs.Option.{option_map}
use Rattle.std.proofs.Math.Logic.{⊎_elim}
use Rattle.std.proofs.lemmas.Bool.{cases_lt, lt-ltb, le-ltb}
use Rattle.trio_types.specs.declared.spec.Which.{Which}
use Rattle.trio_types.specs.declared.spec.Which.TheVariants as which
use Rattle.trio_types.specs.Parts.{Parts}
use Rattle.trio_types.specs.Limits.{count_of, limit_of, counted}
use Rattle.trio_limits.specs.declared.totals.Totals.{Totals}
use Rattle.trio_limits.specs.Given.{given_count}
use Rattle.trio_limits.specs.Totals.{total_of, first_above, totals_of}
use Rattle.trio_limits.specs.Limits.{count_fault}

module _ (t : Totals) where
  pub first-Items : 256 < t.items → Some (which.Items, t.items) ≡ first_above t
  unfolding first_above
  first-Items a = rw (lt-ltb 256 t.items a) refl

  pub first-Cells : t.items ≤ 256 → 1024 < t.cells → Some (which.Cells, t.cells) ≡ first_above t
  unfolding first_above
  first-Cells a b = rw (le-ltb 256 t.items a, lt-ltb 1024 t.cells b) refl

  pub first-Sizes : t.items ≤ 256 → t.cells ≤ 1024 → 4096 < t.sizes → Some (which.Sizes, t.sizes) ≡ first_above t
  unfolding first_above
  first-Sizes a b c = rw (le-ltb 256 t.items a, le-ltb 1024 t.cells b, lt-ltb 4096 t.sizes c) refl

  pub first-Bound : t.items ≤ 256 → t.cells ≤ 1024 → t.sizes ≤ 4096 → 1000000000000 < t.bound → Some (which.Bound, t.bound) ≡ first_above t
  unfolding first_above
  first-Bound a b c d = rw (le-ltb 256 t.items a, le-ltb 1024 t.cells b, le-ltb 4096 t.sizes c, lt-ltb 1000000000000 t.bound d) refl

  pub first-Instances : t.items ≤ 256 → t.cells ≤ 1024 → t.sizes ≤ 4096 → t.bound ≤ 1000000000000 → 1000000 < t.instances →
      Some (which.Instances, t.instances) ≡ first_above t
  unfolding first_above
  first-Instances a b c d e =
      rw (le-ltb 256 t.items a, le-ltb 1024 t.cells b, le-ltb 4096 t.sizes c, le-ltb 1000000000000 t.bound d, lt-ltb 1000000 t.instances e) refl

  pub first-Nest : t.items ≤ 256 → t.cells ≤ 1024 → t.sizes ≤ 4096 → t.bound ≤ 1000000000000 → t.instances ≤ 1000000 → 100 < t.nest →
      Some (which.Nest, t.nest) ≡ first_above t
  unfolding first_above
  first-Nest a b c d e f =
      rw (le-ltb 256 t.items a, le-ltb 1024 t.cells b, le-ltb 4096 t.sizes c, le-ltb 1000000000000 t.bound d, le-ltb 1000000 t.instances e, lt-ltb 100 t.nest f) refl

  pub first-none : t.items ≤ 256 → t.cells ≤ 1024 → t.sizes ≤ 4096 → t.bound ≤ 1000000000000 → t.instances ≤ 1000000 → t.nest ≤ 100 → None ≡ first_above t
  unfolding first_above
  first-none a b c d e f =
      rw (le-ltb 256 t.items a, le-ltb 1024 t.cells b, le-ltb 4096 t.sizes c, le-ltb 1000000000000 t.bound d, le-ltb 1000000 t.instances e, le-ltb 100 t.nest f) refl

-- a count as it is given is above a limit where the count is
above_given : (limit n : ℕ) → limit < 18446744073709551615 → nat_lt limit (given_count n) ≡ nat_lt limit n
above_given limit n small = ⊎_elim
    (λ lt. lt-ltb limit (given_count n) (omega arith) ∙ sym (lt-ltb limit n lt))
    (λ le. le-ltb limit (given_count n) (omega arith) ∙ sym (le-ltb limit n le))
    (cases_lt limit n)

find_same : {A : Type 0} (p q : A → Bool) → ((x : A) → p x ≡ q x) → (xs : List A) → find p xs ≡ find q xs
find_same p q same [] = refl
find_same p q same (x ∷ xs) = rw (same x, find_same p q same xs) refl

map_option_same : {A B : Type 0} (f g : A → B) → ((x : A) → f x ≡ g x) → (o : Option A) → option_map f o ≡ option_map g o
map_option_same f g same None = refl
map_option_same f g same (Some x) = ap Some (same x)

given_total : (parts : Parts) (w : Which) → total_of (totals_of parts) w ≡ given_count (count_of w parts)
given_total parts which.Items = refl
given_total parts which.Cells = refl
given_total parts which.Sizes = refl
given_total parts which.Bound = refl
given_total parts which.Instances = refl
given_total parts which.Nest = refl

small_limit : (w : Which) → limit_of w < 18446744073709551615
small_limit which.Items = omega arith
small_limit which.Cells = omega arith
small_limit which.Sizes = omega arith
small_limit which.Bound = omega arith
small_limit which.Instances = omega arith
small_limit which.Nest = omega arith

-- the first total above its limit is the count that is at fault
pub first_is_fault : (parts : Parts) → first_above (totals_of parts) ≡ count_fault parts
unfolding first_above count_fault
first_is_fault parts =
    ap (option_map (λ w. (w, total_of (totals_of parts) w)))
    (find_same (λ w. nat_lt (limit_of w) (total_of (totals_of parts) w)) (λ w. nat_lt (limit_of w) (count_of w parts))
    (λ w. ap (nat_lt (limit_of w)) (given_total parts w) ∙ above_given (limit_of w) (count_of w parts) (small_limit w)) counted)
    ∙ map_option_same (λ w. (w, total_of (totals_of parts) w)) (λ w. (w, given_count (count_of w parts))) (λ w. ap (λ n. (w, n)) (given_total parts w))
    (find (λ w. nat_lt (limit_of w) (count_of w parts)) counted)
