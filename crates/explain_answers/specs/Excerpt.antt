-- How a place in a text is written, and the line of the text with a mark under the place.
use Rattle.std.specs.Prelude.{ℕ, ◌-◌, min, not, ◌&&◌, ◌||◌, ◌==◌, nat_lt, if◌then◌else◌, List, ◌++◌, map, length, take, drop, take_while, codes, decimal}
use Rattle.explain_answers.specs.Place.{line_behind, column_behind}

-- `FILE:LINE:COLUMN: ` for the byte of this number
abbrev pub place_words : List ℕ → List ℕ → ℕ → List ℕ
place_words file text byte =
    file ++ codes ":" ++ decimal (line_behind (take byte text)) ++ codes ":" ++ decimal (column_behind (take byte text)) ++ codes ": "

-- a byte as it is shown: `?` for one that steers a terminal
abbrev pub shown : ℕ → ℕ
shown b = if (nat_lt b 32 && not (b == 9)) || b == 127 then 63 else b

-- what is as wide as a byte: a tab for a tab, else a blank; a byte outside ASCII stands in a comment, and no place behind that on its line
abbrev pub blank : ℕ → ℕ
blank b = if b == 9 then 9 else 32

-- the last bytes of a text that stand on one line, at most 60
abbrev pub line_so_far : List ℕ → List ℕ
line_so_far text = drop (length text - min 60 (column_behind text - 1)) text

-- the bytes from the front on that stand on one line, at most 40
abbrev pub rest_of_line : List ℕ → List ℕ
rest_of_line text = take 40 (take_while (λ b. not (b == 10 || b == 13)) text)

-- the line in which the byte of this number stands, and a line with a caret under it
abbrev pub excerpt : List ℕ → ℕ → List ℕ
excerpt text byte =
    map shown (line_so_far (take byte text)) ++ map shown (rest_of_line (drop byte text)) ++ codes "\n"
    ++ map blank (line_so_far (take byte text)) ++ codes "^\n"
