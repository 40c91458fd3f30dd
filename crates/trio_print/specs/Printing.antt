-- What a printer promises: which pieces it appends, by the specification and the names of the variables in scope.
use Rattle.std.specs.Prelude.{◌≡◌, ℕ, Bool, true, false, ◌==◌, if◌then◌else◌, List, [], ◌++◌, map, string_bytes}
use Rattle.trio_text.specs.declared.token.Symbol.TheVariants as symbol
use Rattle.trio_types.specs.declared.formula.SignedTerm.{SignedTerm, out-SignedTerm}
use Rattle.trio_types.specs.Parts.{Parts}
use Rattle.trio_types.specs.Verdict.{parts_of}
use Rattle.trio_syntax.specs.Words.{adding_sign}
use Rattle.trio_print.specs.Pieces.{Piece, pieces_text}
use Rattle.trio_print.specs.Canonical.{Printed, PartText, sign, spaced, text_of_term}
use Rattle.trio_print.specs.declared.printer.Printer.{Printer}

-- the names of the variables in scope
abbrev pub names_in : Printer → List (List ℕ)
names_in printer = map (λ name. name.now) printer.names.items

-- these pieces, whatever the specification and the names are
abbrev pub always : List Piece → Parts → Printed
always pieces parts names = pieces

-- The text of these pieces stands behind what stood there; nothing else changed.
pub record Prints (printed : Parts → Printed) (old new : Printer) : Type 0 where
  pub text : string_bytes new.text ≡ string_bytes old.text ++ pieces_text (printed (parts_of old.spec.now) (names_in old))
  pub names : new.names.items ≡ old.names.items
  pub spec : new.spec.now ≡ old.spec.now

-- what stands before the element of this place: nothing before the first
abbrev pub between_pieces : ℕ → List Piece → List Piece
between_pieces place pieces = if place == 0 then [] else pieces

-- what stands before a part of a sum
abbrev pub part_sign : Bool → Bool → List Piece
part_sign true minus = if minus then sign symbol.Minus else []
part_sign false minus = spaced (adding_sign minus)

abbrev pub text_of_part : Parts → SignedTerm → PartText
text_of_part parts p = record { minus = (out-SignedTerm p).minus; text = (text_of_term parts (out-SignedTerm p).term).as_part }
