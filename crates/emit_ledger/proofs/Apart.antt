-- Values that have a code can be told apart.
use Rattle.std.proofs.Common.{◌≡◌, Bool, true, false, ◌&&◌, eqb, refl, ap}
use Rattle.std.specs.Bool.{Decides}
use Rattle.std.specs.Coded.{Coded}
use Rattle.std.proofs.lemmas.Bool.Decides.{Decides-eqb, Decides-and}
use base.Stored.{Gv, gnil, gnum, gcons}

abbrev alike : Gv → Gv → Bool
alike gnil gnil = true
alike (gnum m) (gnum n) = eqb m n
alike (gcons a b) (gcons c d) = alike a c && alike b d
alike a b = false

alike_Decides : (a b : Gv) → Decides (alike a b) (a ≡ b)
alike_Decides gnil gnil = (λ is. refl, λ is. refl)
alike_Decides (gnum m) (gnum n) = let d = Decides-eqb m n in (λ is. ap gnum (d.0 is), λ is. d.1 (cc))
alike_Decides (gcons a b) (gcons c d) =
    let both = Decides-and (alike a c) (alike b d) (alike_Decides a c) (alike_Decides b d) in
    (λ is. let parts = both.0 is in cc (parts.0, parts.1), λ is. both.1 ((cc), (cc)))
alike_Decides a b = (λ is. (cc), λ is. (cc))

-- whether two values have the same code
pub same_by : {A : Type 0} → Coded A → A → A → Bool
same_by c x y = alike (c.code x) (c.code y)

pub same_by-Decides : {A : Type 0} (c : Coded A) (x y : A) → Decides (same_by c x y) (x ≡ y)
unfolding same_by
same_by-Decides c x y = let d = alike_Decides (c.code x) (c.code y) in (λ is. c.inj x y (d.0 is), λ is. d.1 (ap c.code is))
