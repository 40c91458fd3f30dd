-- Where the tokens of a text stand.
use Rattle.std.specs.Prelude.{ℕ, ◌<◌, ◌≤◌, List, [], ◌∷◌}
use Rattle.trio_text.specs.declared.token.Token.{Token}

-- behind this place and line the tokens stand one after another, each at its bytes, up to an end; their lines do not fall
abbrev pub StandInOrder : ℕ → ℕ → List Token → ℕ → Type 0
StandInOrder place line [] end = place ≤ end
StandInOrder place line (t ∷ tokens) end = (place ≤ t.start) × (t.start < t.end) × (line ≤ t.line) × StandInOrder t.end t.line tokens end
