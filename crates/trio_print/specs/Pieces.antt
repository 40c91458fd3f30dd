-- Texts as they are printed: lexemes, with blanks and line ends between them.
use Rattle.std.specs.Prelude.{ℕ, List, [], ◌∷◌, decimal}
use Rattle.std.specs.List.{flat_map}
use Rattle.trio_text.specs.declared.lexeme.Lexeme.{Lexeme}
use Rattle.trio_text.specs.declared.lexeme.Lexeme.TheVariants as lexeme
use Rattle.trio_text.specs.Spelling.{word_text, symbol_text}

-- what is printed: a lexeme, one blank, or the end of a line
pub data Piece : Type 0 where
  token : Lexeme → Piece
  blank : Piece
  line_end : Piece

abbrev pub lexeme_text : Lexeme → List ℕ
lexeme_text (lexeme.Name name) = name
lexeme_text (lexeme.Number n) = decimal n
lexeme_text (lexeme.Word r) = word_text r
lexeme_text (lexeme.Sign s) = symbol_text s

abbrev pub piece_text : Piece → List ℕ
piece_text (token x) = lexeme_text x
piece_text blank = 32 ∷ []
piece_text line_end = 10 ∷ []

-- the text of these pieces
abbrev pub pieces_text : List Piece → List ℕ
pieces_text pieces = flat_map piece_text pieces

abbrev lexemes_of_piece : Piece → List Lexeme
lexemes_of_piece (token x) = x ∷ []
lexemes_of_piece blank = []
lexemes_of_piece line_end = []

-- the lexemes among these pieces
abbrev pub lexemes_in : List Piece → List Lexeme
lexemes_in pieces = flat_map lexemes_of_piece pieces
