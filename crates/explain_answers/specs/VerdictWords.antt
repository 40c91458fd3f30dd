-- What is said of a verdict, of a value that is not known, and of a history that is to be completed.
use Rattle.std.specs.Prelude.{ℕ, zero, suc, ◌+◌, ◌-◌, ◌/◌, ◌%◌, ◌==◌, Bool, true, false, not, if◌then◌else◌, is_none, List, [], ◌++◌, length, Option, None, Some, slice_get, codes, decimal}
use Rattle.std.specs.List.{filter}
use Rattle.trio_text.specs.declared.token.Reserved.TheVariants as reserved
use Rattle.trio_text.specs.declared.token.TokenKind.{TokenKind}
use Rattle.trio_text.specs.declared.token.TokenKind.TheVariants as kind
use Rattle.trio_text.specs.declared.token.Token.{Token}
use Rattle.trio_types.specs.declared.spec.Axiom.{Axiom}
use Rattle.trio_types.specs.declared.spec.Spec.{Spec}
use Rattle.trio_types.specs.World.{World}
use Rattle.explain_answers.specs.Sources.{start_of, is_of}
use Rattle.explain_answers.specs.Said.{said_at}
use Rattle.history_table.specs.Printed.{name_of_row}

abbrev pub is_axiom : TokenKind → Bool
is_axiom (kind.Word reserved.Axiom) = true
is_axiom found = false

-- the token `axiom` of the axiom of this number, from 0, among so many tokens from this one on, or this end
abbrev pub axiom_from : List Token → ℕ → ℕ → ℕ → ℕ → ℕ
axiom_from tokens end number at zero = end
axiom_from tokens end number at (suc more) =
    if not (is_of is_axiom (slice_get tokens at)) then axiom_from tokens end number (at + 1) more
    else (if number == 0 then at else axiom_from tokens end (number - 1) (at + 1) more)

-- the token of the name of the axiom of this number: the one behind its `axiom`
abbrev pub axiom_name_token : List Token → ℕ → ℕ
axiom_name_token tokens number = axiom_from tokens (length tokens) number 0 (length tokens) + 1

-- the axiom's name; empty where there is no axiom
abbrev pub name_of : Option Axiom → List ℕ
name_of None = []
name_of (Some axiom_) = axiom_.name

-- what is said of the axiom of this number and an instant at which it is false, up to the picture of the history
abbrev pub false_words : List ℕ → List ℕ → List Token → Spec → ℕ → ℕ → List ℕ
false_words file text tokens spec number instant =
    said_at file text (start_of tokens (axiom_name_token tokens number))
    (codes "axiom `" ++ name_of (slice_get spec.axioms number) ++ codes "` is false at instant " ++ decimal instant)

-- the line that says that a specification is true in a history
abbrev pub true_line : List ℕ → List ℕ → List ℕ
true_line spec_file history_file = spec_file ++ codes " is true in " ++ history_file ++ codes "\n"

-- the line on a cell whose value is not known
abbrev pub unknown_line : World → List ℕ → ℕ → List ℕ
unknown_line world file cell =
    file ++ codes ": the value of `" ++ name_of_row world (cell / world.instants) ++ codes "` at instant "
    ++ decimal (cell % world.instants) ++ codes " is not known, and `check` needs every value\n"

-- how many of so many values are not known, and which histories `trio` lists
abbrev pub unknown_words : ℕ → ℕ → List ℕ
unknown_words unknown values =
    if unknown == 0 then codes "every value is known, and `trio complete` lists the history if it satisfies"
    else (if unknown == 1
    then codes "1 of " ++ decimal values ++ codes " values is not known, and `trio complete` lists the histories that fill it in and satisfy"
    else decimal unknown ++ codes " of " ++ decimal values
    ++ codes " values are not known, and `trio complete` lists the histories that fill them in and satisfy")

-- the line on a specification and a history that can be read
abbrev pub readable_line : List ℕ → List ℕ → List (Option ℕ) → List ℕ
readable_line spec_file history_file given =
    spec_file ++ codes " and " ++ history_file ++ codes " can be read; "
    ++ unknown_words (length (filter is_none given)) (length given) ++ codes " the specification\n"
