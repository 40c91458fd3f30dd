-- What tests of whole numbers mean.
use Rattle.std.proofs.Common.{◌≡◌, Bool, true, false, T, ℤ, ◌≤ℤ◌, ◌<ℤ◌, Decides, refl}
use Rattle.std.specs.Prelude.{int_lt, int_le}
use Rattle.std.proofs.lemmas.Float.{T_from_true}

true_from_T : (b : Bool) → T b → b ≡ true
true_from_T true t = refl
true_from_T false t = absurd t

pub Decides-int_le : (x y : ℤ) → Decides (int_le x y) (x ≤ℤ y)
Decides-int_le x y = (λ h. record { le = T_from_true (int_le x y) h }, λ h. true_from_T (int_le x y) h.le)

pub Decides-int_lt : (x y : ℤ) → Decides (int_lt x y) (x <ℤ y)
Decides-int_lt x y = (λ h. record { lt = T_from_true (int_lt x y) h }, λ h. true_from_T (int_lt x y) h.lt)
