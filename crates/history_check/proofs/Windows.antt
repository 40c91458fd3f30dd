-- The instants that windows select.
use Rattle.std.proofs.Common.{◌≡◌, ℕ, ◌<◌, ◌≤◌, ℤ, pos, negsuc, nat_abs, ◌+ℤ◌, ◌-ℤ◌, ◌<ℤ◌, ◌≤ℤ◌, Bool, true, false, ◌&&◌, nat_lt, nat_le, Some, refl, sym, ap, ◌∙◌, arith, Decides}
use Rattle.std.specs.Prelude.{int_lt, int_le}
use Rattle.std.specs.Ordering.{int_eq}
use Rattle.std.proofs.lemmas.Bool.{false≢true, and_parts, and_from, false_from_ne_true, leb-true, ltb-true, lt-ltb, le-leb}
use Rattle.std.proofs.lemmas.Bool.Decides.{Decides-int_eq}
use Rattle.std.specs.Int.{int_max, int_min}
use Rattle.std.proofs.lemmas.Int.{ints, clamps}
use Rattle.trio_base.specs.declared.operators.Ends.{Ends}
use Rattle.trio_base.specs.declared.operators.Ends.TheVariants as ends
use Rattle.trio_types.specs.Truth.{is_at_distance, is_ahead, is_behind}
use Rattle.trio_types.specs.Laws.{Ahead, Behind}
use Rattle.trio_types.proofs.Integers.{Decides-int_le, Decides-int_lt}
use Rattle.trio_types.proofs.Operators.{Tells, tells_ahead, tells_behind}
use Rattle.history_check.specs.Fits.{Selects}

pub same_bool : (a b : Bool) → (a ≡ true → b ≡ true) → (b ≡ true → a ≡ true) → a ≡ b
same_bool true b f g = sym (f refl)
same_bool false b f g = sym (false_from_ne_true b (λ e. false≢true (g e)))

pub same_by : {P Q : Type 0} (a b : Bool) → Decides a P → Decides b Q → (P → Q) → (Q → P) → a ≡ b
same_by a b p q to from = same_bool a b (λ h. q.1 (to (p.0 h))) (λ h. p.1 (from (q.0 h)))

-- from one number on and before another
abbrev pub is_between : ℤ → ℤ → ℕ → Bool
is_between low high j = int_le low (pos j) && int_lt (pos j) high

pub decides_between : (low high : ℤ) (j : ℕ) → Decides (is_between low high j) ((low ≤ℤ pos j) × (pos j <ℤ high))
decides_between low high j = (
  λ h. let r = and_parts (int_le low (pos j)) (int_lt (pos j) high) h in ((Decides-int_le low (pos j)).0 r.0, (Decides-int_lt (pos j) high).0 r.1),
  λ h. and_from (int_le low (pos j)) (int_lt (pos j) high) ((Decides-int_le low (pos j)).1 h.0) ((Decides-int_lt (pos j) high).1 h.1),
)

pub decides_window : (from to j : ℕ) → Decides (nat_le from j && nat_lt j to) ((from ≤ j) × (j < to))
decides_window from to j = (
  λ h. let r = and_parts (nat_le from j) (nat_lt j to) h in (leb-true from j r.0, ltb-true j to r.1),
  λ h. and_from (nat_le from j) (nat_lt j to) (le-leb from j h.0) (lt-ltb j to h.1),
)

-- a window between two numbers
pub selects_between : (n from to : ℕ) (low high : ℤ) → to ≤ n → ((j : ℕ) → j < n → (low ≤ℤ pos j) × (pos j <ℤ high) → (from ≤ j) × (j < to)) →
    ((j : ℕ) → j < n → (from ≤ j) × (j < to) → (low ≤ℤ pos j) × (pos j <ℤ high)) → Selects n from to (is_between low high)
selects_between n from to low high within there back = record {
  inside = within;
  same = λ j below. same_by (is_between low high j) (nat_le from j && nat_lt j to) (decides_between low high j) (decides_window from to j) (there j below) (back j below);
}

-- a test that passes where another does
pub selects_as : (n from to : ℕ) (p q : ℕ → Bool) → ((j : ℕ) → q j ≡ p j) → Selects n from to p → Selects n from to q
selects_as n from to p q same s = record { inside = s.inside; same = λ j below. same j ∙ s.same j below }

pub distance_between : (i : ℕ) (d : ℤ) (j : ℕ) → is_at_distance i (Some d) j ≡ is_between (pos i +ℤ d) ((pos i +ℤ d) +ℤ pos 1) j
distance_between i d j =
    same_by (int_eq (pos j) (pos i +ℤ d)) (is_between (pos i +ℤ d) ((pos i +ℤ d) +ℤ pos 1) j) (Decides-int_eq (pos j) (pos i +ℤ d)) (decides_between (pos i +ℤ d) ((pos i +ℤ d) +ℤ pos 1) j)
    (λ e. (omega (arith, ints), omega (arith, ints))) (λ h. omega (arith, ints, h.0, h.1))

-- the numbers that a range of each suffix goes from and to
abbrev pub ahead_from : Ends → ℕ → ℤ
ahead_from ends.Bare i = pos i +ℤ pos 1
ahead_from ends.Ii i = pos i
ahead_from ends.Ie i = pos i
ahead_from ends.Ei i = pos i +ℤ pos 1

abbrev pub ahead_to : Ends → ℕ → ℤ → ℤ
ahead_to ends.Bare i d = pos i +ℤ d
ahead_to ends.Ii i d = (pos i +ℤ d) +ℤ pos 1
ahead_to ends.Ie i d = pos i +ℤ d
ahead_to ends.Ei i d = (pos i +ℤ d) +ℤ pos 1

abbrev pub behind_from : Ends → ℕ → ℤ → ℤ
behind_from ends.Bare i d = (pos i -ℤ d) +ℤ pos 1
behind_from ends.Ii i d = pos i -ℤ d
behind_from ends.Ie i d = (pos i -ℤ d) +ℤ pos 1
behind_from ends.Ei i d = pos i -ℤ d

abbrev pub behind_to : Ends → ℕ → ℤ
behind_to ends.Bare i = pos i
behind_to ends.Ii i = pos i +ℤ pos 1
behind_to ends.Ie i = pos i +ℤ pos 1
behind_to ends.Ei i = pos i

ahead_there : (s : Ends) (i : ℕ) (d : ℤ) (j : ℕ) → Ahead s i d j → (ahead_from s i ≤ℤ pos j) × (pos j <ℤ ahead_to s i d)
ahead_there ends.Bare i d j h = (omega (arith, ints, h.0), omega (arith, ints, h.1))
ahead_there ends.Ii i d j h = (omega (arith, ints, h.0), omega (arith, ints, h.1))
ahead_there ends.Ie i d j h = (omega (arith, ints, h.0), omega (arith, ints, h.1))
ahead_there ends.Ei i d j h = (omega (arith, ints, h.0), omega (arith, ints, h.1))

ahead_back : (s : Ends) (i : ℕ) (d : ℤ) (j : ℕ) → (ahead_from s i ≤ℤ pos j) × (pos j <ℤ ahead_to s i d) → Ahead s i d j
ahead_back ends.Bare i d j h = (omega (arith, ints, h.0), omega (arith, ints, h.1))
ahead_back ends.Ii i d j h = (omega (arith, ints, h.0), omega (arith, ints, h.1))
ahead_back ends.Ie i d j h = (omega (arith, ints, h.0), omega (arith, ints, h.1))
ahead_back ends.Ei i d j h = (omega (arith, ints, h.0), omega (arith, ints, h.1))

behind_there : (s : Ends) (i : ℕ) (d : ℤ) (j : ℕ) → Behind s i d j → (behind_from s i d ≤ℤ pos j) × (pos j <ℤ behind_to s i)
behind_there ends.Bare i d j h = (omega (arith, ints, h.0), omega (arith, ints, h.1))
behind_there ends.Ii i d j h = (omega (arith, ints, h.0), omega (arith, ints, h.1))
behind_there ends.Ie i d j h = (omega (arith, ints, h.0), omega (arith, ints, h.1))
behind_there ends.Ei i d j h = (omega (arith, ints, h.0), omega (arith, ints, h.1))

behind_back : (s : Ends) (i : ℕ) (d : ℤ) (j : ℕ) → (behind_from s i d ≤ℤ pos j) × (pos j <ℤ behind_to s i) → Behind s i d j
behind_back ends.Bare i d j h = (omega (arith, ints, h.0), omega (arith, ints, h.1))
behind_back ends.Ii i d j h = (omega (arith, ints, h.0), omega (arith, ints, h.1))
behind_back ends.Ie i d j h = (omega (arith, ints, h.0), omega (arith, ints, h.1))
behind_back ends.Ei i d j h = (omega (arith, ints, h.0), omega (arith, ints, h.1))

pub ahead_between : (s : Ends) (i : ℕ) (d : ℤ) (j : ℕ) → is_ahead s i (Some d) j ≡ is_between (ahead_from s i) (ahead_to s i d) j
unfolding Tells
ahead_between s i d j =
    same_by (is_ahead s i (Some d) j) (is_between (ahead_from s i) (ahead_to s i d) j) ((tells_ahead s i).1 d j) (decides_between (ahead_from s i) (ahead_to s i d) j)
    (ahead_there s i d j) (ahead_back s i d j)

pub behind_between : (s : Ends) (i : ℕ) (d : ℤ) (j : ℕ) → is_behind s i (Some d) j ≡ is_between (behind_from s i d) (behind_to s i) j
unfolding Tells
behind_between s i d j =
    same_by (is_behind s i (Some d) j) (is_between (behind_from s i d) (behind_to s i) j) ((tells_behind s i).1 d j) (decides_between (behind_from s i d) (behind_to s i) j)
    (behind_there s i d j) (behind_back s i d j)

-- a number that is kept inside time
abbrev pub kept : ℤ → ℕ → ℤ
kept x n = int_max (pos 0) (int_min x (pos n))

pub kept_low : (x : ℤ) (n j : ℕ) → j < n → kept x n ≤ℤ pos j → x ≤ℤ pos j
kept_low x n j below h = omega (arith, ints, clamps)

pub low_kept : (x : ℤ) (n j : ℕ) → j < n → x ≤ℤ pos j → kept x n ≤ℤ pos j
low_kept x n j below h = omega (arith, ints, clamps)

pub kept_high : (x : ℤ) (n j : ℕ) → j < n → pos j <ℤ kept x n → pos j <ℤ x
kept_high x n j below h = omega (arith, ints, clamps)

pub high_kept : (x : ℤ) (n j : ℕ) → j < n → pos j <ℤ x → pos j <ℤ kept x n
high_kept x n j below h = omega (arith, ints, clamps)

pub kept_window : (n from to : ℕ) (low high : ℤ) → pos from ≡ kept low n → pos to ≡ kept high n → Selects n from to (is_between low high)
kept_window n from to low high f t =
    selects_between n from to low high (omega (arith, ints, clamps, t))
    (λ j below h. (omega (arith, ints, f, low_kept low n j below h.0), omega (arith, ints, t, high_kept high n j below h.1)))
    (λ j below h. (kept_low low n j below (omega (arith, ints, f, h.0)), kept_high high n j below (omega (arith, ints, t, h.1))))

pub absolute : (z : ℤ) → pos 0 ≤ℤ z → pos (nat_abs z) ≡ z
absolute (pos n) from = refl
absolute (negsuc n) from = absurd (omega (arith, ints, from))

pub selects_of : (n from to : ℕ) (q : ℕ → Bool) (low high x y : ℤ) → Selects n from to (is_between x y) → x ≡ low → y ≡ high → ((j : ℕ) → q j ≡ is_between low high j) → Selects n from to q
selects_of n from to q low high x y s l h same =
    selects_as n from to (is_between x y) q (λ j. same j ∙ sym (ap (λ z. is_between z y j) l ∙ ap (λ z. is_between low z j) h)) s
