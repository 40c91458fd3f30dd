-- What the loop of `tuple_of_number` keeps.
use Rattle.std.proofs.Common.{◌≡◌, ℕ, ◌<◌, ◌≤◌, ◌++◌, length, get_or, take, drop, slice_get}
use Rattle.std.specs.Option.{option_map}
use Rattle.trio_types.specs.Cells.{tuples}
use Rattle.trio_types.proofs.spec.Declarations.tuple_of_number.Given as goal

-- what is left is the number of a tuple of the domains that are left, and that tuple stands behind the arguments so far
abbrev pub invariant-loop-place : goal.invariant-loop-place
invariant-loop-place l = record {
  count_is : l.count ≡ length (tuples l.self.domains.now (drop l.place l.domains));
  inside : l.left < l.count;
  told : slice_get (tuples l.self.domains.now l.domains) l.number ≡ option_map (λ vs. take l.place l.args ++ vs) (slice_get (tuples l.self.domains.now (drop l.place l.domains)) l.left);
  four : length l.args ≡ 4;
  rest : (k : ℕ) → l.place ≤ k → get_or l.args k 0 ≡ 0;
}
