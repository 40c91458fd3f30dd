-- What is said of the first fault of a specification's text.
use Rattle.std.specs.Prelude.{◌≡◌, ℕ, if◌then◌else◌, List, [], ◌∷◌, ◌++◌, Option, None, Some, slice_get, codes, decimal}
use Rattle.std.specs.Char.{is_ascii_graphic}
use Rattle.std.specs.Option.{unwrap_or}
use Rattle.trio_base.specs.declared.limits.TheConstants.{MOST_OPEN}
use Rattle.trio_text.specs.declared.token.Token.{Token}
use Rattle.trio_text.specs.declared.token.TokenKind.{TokenKind}
use Rattle.trio_text.specs.declared.token.TokenKind.TheVariants as kind
use Rattle.trio_text.specs.Lexemes.{spelling}
use Rattle.trio_reader.specs.declared.fault.SpecFault.{SpecFault}
use Rattle.trio_reader.specs.declared.fault.SpecFault.TheVariants as fault
use Rattle.explain_answers.specs.Sources.{start_of, word_of}
use Rattle.explain_answers.specs.Said.{SaysAt, BeginsWith}
use Rattle.explain_answers.specs.LimitWords.{limit_line}

abbrev pub found_byte : ℕ → List ℕ
found_byte b =
    if is_ascii_graphic b then codes "`" ++ (b ∷ []) ++ codes "` begins no token"
    else codes "the byte " ++ decimal b ++ codes " begins no token outside a comment"

-- the sentence on the byte of this number, which begins no token
abbrev pub byte_sentence : List ℕ → ℕ → List ℕ
byte_sentence text byte = found_byte (unwrap_or (slice_get text byte) 0)

-- what kind of token it is, up to its spelling
abbrev pub kind_words : TokenKind → List ℕ
kind_words kind.Name = codes "the name `"
kind_words kind.Number = codes "the number `"
kind_words (kind.Word word) = codes "the reserved word `"
kind_words (kind.Sign sign) = codes "`"

-- a token by its kind and spelling
abbrev pub found_words : List ℕ → Option Token → List ℕ
found_words text None = []
found_words text (Some token) = kind_words token.kind ++ spelling text token ++ codes "`"

-- the sentence on brackets too deep
abbrev pub deep_sentence : List ℕ
deep_sentence = codes "more than " ++ decimal MOST_OPEN ++ codes " brackets `(` and `[` are open here"

-- the sentence on a token that cannot stand where it does, or on a text that ends too early
abbrev pub syntax_sentence : List ℕ → Option Token → List ℕ
syntax_sentence text None = codes "the text ends here, and its last statement is not complete"
syntax_sentence text (Some token) = found_words text (Some token) ++ codes " cannot stand here"

-- the byte at which a fault stands; a count above its limit has none
abbrev pub byte_of : List Token → SpecFault → ℕ
byte_of tokens (fault.Lex byte) = byte
byte_of tokens (fault.Deep number) = start_of tokens number
byte_of tokens (fault.Syntax number) = start_of tokens number
byte_of tokens (fault.Unknown number) = start_of tokens number
byte_of tokens (fault.Twice number) = start_of tokens number
byte_of tokens (fault.Kind number) = start_of tokens number
byte_of tokens (fault.Range number) = start_of tokens number
byte_of tokens f = 0

-- the sentence on a fault, or how it begins
abbrev pub IsSentence : List ℕ → List Token → SpecFault → List ℕ → Type 0
IsSentence text tokens (fault.Lex byte) sentence = sentence ≡ byte_sentence text byte
IsSentence text tokens (fault.Deep number) sentence = sentence ≡ deep_sentence
IsSentence text tokens (fault.Syntax number) sentence = sentence ≡ syntax_sentence text (slice_get tokens number)
IsSentence text tokens (fault.Unknown number) sentence =
    BeginsWith (codes "`" ++ word_of text (slice_get tokens number) ++ codes "` is not declared before this place") sentence
IsSentence text tokens (fault.Twice number) sentence =
    BeginsWith (codes "`" ++ word_of text (slice_get tokens number) ++ codes "` is declared twice; ") sentence
IsSentence text tokens f sentence = Unit {0}

-- what is said of a fault of a text with these tokens; nothing is said of want of memory
abbrev pub SaysSpecFault : List ℕ → List ℕ → List Token → SpecFault → List ℕ → Type 0
SaysSpecFault file text tokens (fault.Limit which count) words = words ≡ limit_line file which count
SaysSpecFault file text tokens fault.Memory words = ⊥
SaysSpecFault file text tokens f words = SaysAt file text (byte_of tokens f) (IsSentence text tokens f) words
