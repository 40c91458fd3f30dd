-- Given histories: their faults, the row that a fault names, and the first unknown cell.
use Rattle.std.proofs.Common.{◌≡◌, ◌≢◌, ℕ, ◌<◌, List, [], length, Option, None, Some, Err, refl, ◌∙◌, ap, subst, arith, not}
use Rattle.std.specs.Prelude.{is_none}
use Rattle.std.proofs.lemmas.List.Quantifiers.{position-Some}
use Rattle.trio_types.specs.World.{World}
use Rattle.trio_types.specs.Cells.{rows_of, cells_of}
use Rattle.history_table.specs.declared.fault.HistFault.{HistFault}
use Rattle.history_table.specs.declared.fault.HistFault.TheVariants as fault
use Rattle.history_table.specs.Lines.{NumberedLine}
use Rattle.history_table.specs.History.{lines_fault, have_row, missing_row, if_whole, if_sound, HasHistFault, IsHistoryAnswer}
use Rattle.history_table.specs.Fitting.{IsGiven, first_unknown}
use Rattle.history_table.proofs.Answered.{OfLine, of_lines}

whole_missing : (w : World) (lines : List NumberedLine) (o : Option ℕ) (row : ℕ) → missing_row w lines ≡ o → if_whole w lines o ≡ Err (fault.MissingRow row) →
    row < length (rows_of w)
whole_missing w lines None row is said = cc
whole_missing w lines (Some k) row is said =
    let same : k ≡ row = cc in
    let first : missing_row w lines ≡ Some row = is ∙ ap Some same in
    (position-Some (λ r. not (have_row w lines r)) (rows_of w) row (record { item = 0; args = [] }) first).0

sound_missing : (w : World) (lines : List NumberedLine) (o : Option HistFault) (row : ℕ) → lines_fault w [] lines ≡ o → if_sound w lines o ≡ Err (fault.MissingRow row) →
    row < length (rows_of w)
unfolding OfLine
sound_missing w lines None row is said = whole_missing w lines (missing_row w lines) row refl said
sound_missing w lines (Some f) row is said =
    let same : f ≡ fault.MissingRow row = cc in
    absurd (subst OfLine same (of_lines w [] lines f is))

-- the row that is missing is one of the specification's
pub missing_within : (w : World) (text : List ℕ) (row : ℕ) → IsHistoryAnswer w text (Err (fault.MissingRow row)) → row < length (rows_of w)
missing_within w text row x = sound_missing w x.lines (lines_fault w [] x.lines) row refl x.answered

-- the first unknown cell is one of the history's
pub unknown_within : (w : World) (given : List (Option ℕ)) (cell : ℕ) → IsGiven w given → first_unknown given ≡ Some cell → cell < length (cells_of w)
unknown_within w given cell fits first =
    let inside : cell < length given = (position-Some is_none given cell None first).0 in
    omega (arith, fits.whole)

-- want of memory is no fault of a text
pub no_want : (w : World) (text : List ℕ) (g : HistFault) → HasHistFault w text g → g ≢ fault.Memory
no_want w text g has = λ is. subst (HasHistFault w text) is has

-- a fault of a text is what the reader answers
pub fault_answers : (w : World) (text : List ℕ) (g : HistFault) → HasHistFault w text g → IsHistoryAnswer w text (Err g)
fault_answers w text fault.Memory has = tt
fault_answers w text g has = has
