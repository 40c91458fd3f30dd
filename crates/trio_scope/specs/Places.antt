-- Places of faults.
use Rattle.std.specs.Prelude.{ℕ, min, Bool, true, false, List, [], ◌∷◌, Option, None, Some}

-- the smaller of two places that may be there
abbrev pub earlier : Option ℕ → Option ℕ → Option ℕ
earlier None q = q
earlier (Some p) None = Some p
earlier (Some p) (Some q) = Some (min p q)

-- the least place of a list
abbrev pub least : List ℕ → Option ℕ
least [] = None
least (p ∷ ps) = earlier (Some p) (least ps)

-- a fault at this place unless the test holds
abbrev pub unless : Bool → ℕ → List ℕ
unless true p = []
unless false p = p ∷ []
