-- The words of a command line.
use Rattle.std.specs.Prelude.{ℕ, Bool, true, false, not, ◌&&◌, ◌==◌, List, [], ◌∷◌, map, String, string_bytes}
use Rattle.std.specs.declared.alloc.Global.{Global}

-- the words' bytes
abbrev pub word_bytes : List (String Global) → List (List ℕ)
word_bytes words = map string_bytes words

-- a word that names a file: it is not empty and does not begin with `--`
abbrev pub names_a_file : List ℕ → Bool
names_a_file [] = false
names_a_file (a ∷ b ∷ word) = not (a == 45 && b == 45)
names_a_file word = true
