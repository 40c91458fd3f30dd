-- What a name is: a letter, then letters, digits and `_`, and no reserved word.
use Rattle.std.specs.Prelude.{ℕ, Bool, false, not, ◌&&◌, ◌||◌, ◌==◌, nat_le, List, [], ◌∷◌, codes}
use Rattle.std.specs.List.{list_all, list_any}
use Rattle.std.specs.Str.{bytes_eq}

-- an ASCII letter
abbrev pub is_letter : ℕ → Bool
is_letter b = nat_le 65 b && nat_le b 90 || nat_le 97 b && nat_le b 122

abbrev pub is_digit : ℕ → Bool
is_digit b = nat_le 48 b && nat_le b 57

-- a byte that may go on with a name
abbrev pub is_name_byte : ℕ → Bool
is_name_byte b = is_letter b || is_digit b || b == 95

-- the words that are no names
abbrev pub reserved_words : List (List ℕ)
reserved_words =
    codes "time" ∷ codes "domain" ∷ codes "item" ∷ codes "input" ∷ codes "fixed" ∷ codes "axiom" ∷
    codes "goal" ∷ codes "at" ∷ codes "all" ∷ codes "ex" ∷ codes "bool" ∷ codes "true" ∷ codes "false" ∷
    codes "Dist" ∷ codes "Futr" ∷ codes "Past" ∷ codes "Alw" ∷ codes "AlwF" ∷ codes "AlwP" ∷ codes "Som" ∷
    codes "SomF" ∷ codes "SomP" ∷ codes "Until" ∷ codes "Since" ∷ codes "NextTime" ∷ codes "LastTime" ∷
    codes "Lasts" ∷ codes "Lasts_ii" ∷ codes "Lasts_ie" ∷ codes "Lasts_ei" ∷ codes "Lasted" ∷
    codes "Lasted_ii" ∷ codes "Lasted_ie" ∷ codes "Lasted_ei" ∷ codes "WithinF" ∷ codes "WithinF_ii" ∷
    codes "WithinF_ie" ∷ codes "WithinF_ei" ∷ codes "WithinP" ∷ codes "WithinP_ii" ∷ codes "WithinP_ie" ∷
    codes "WithinP_ei" ∷ []

abbrev pub is_reserved : List ℕ → Bool
is_reserved word = list_any (bytes_eq word) reserved_words

abbrev pub is_name : List ℕ → Bool
is_name [] = false
is_name (b ∷ bs) = is_letter b && (list_all is_name_byte bs && not (is_reserved (b ∷ bs)))
