-- What a later fetch finds, seen from before an earlier one.
use Rattle.std.proofs.Common.{ℕ, inl, inr, Bool, List, Option, sym, ◌∙◌, arith}
use Rattle.trio_io.specs.Outside.{ShelfView, OnlyReads}
use Rattle.trio_types.specs.World.{World}
use Rattle.explain_answers.specs.declared.status.Status.{Status}
use Rattle.explain_answers.specs.Explained.{IsFile, IsUnread, IsTooLong, FileEnds, IsHistoryRefused, HistoryEnds, IsHistoryFile}

file_earlier : (before middle : ShelfView) (is_spec : Bool) (name bytes : List ℕ) → OnlyReads 1 before middle →
    IsFile middle is_spec name bytes → IsFile before is_spec name bytes
file_earlier before middle is_spec name bytes reads file =
    record { there = λ told. sym (reads.files name) ∙ file.there (reads.tells ∙ told); within = file.within }

unread_earlier : (before middle now : ShelfView) (name : List ℕ) (s : Status) (text : List ℕ) → OnlyReads 1 before middle →
    IsUnread middle now name s text → IsUnread before now name s text
unread_earlier before middle now name s text reads unread = record {
  status_is = unread.status_is;
  text_is = unread.text_is;
  cause = elim unread.cause [
    | inl failed ↦ inl (omega (arith, reads.counts.failed_fetches, failed))
    | inr absent ↦ inr (omega (arith, reads.counts.absences, absent.0), λ told. sym (reads.files name) ∙ absent.1 (reads.tells ∙ told))
  ];
}

too_long_earlier : (before middle : ShelfView) (is_spec : Bool) (name : List ℕ) (s : Status) (text : List ℕ) → OnlyReads 1 before middle →
    IsTooLong middle is_spec name s text → IsTooLong before is_spec name s text
too_long_earlier before middle is_spec name s text reads long = record {
  status_is = long.status_is;
  text_is = long.text_is;
  longer = λ told. rw (reads.files name) at (long.longer (reads.tells ∙ told));
}

file_ends_earlier : (before middle now : ShelfView) (is_spec : Bool) (name : List ℕ) (s : Status) (text : List ℕ) → OnlyReads 1 before middle →
    FileEnds is_spec middle now name s text → FileEnds is_spec before now name s text
file_ends_earlier before middle now is_spec name s text reads (inl unread) = inl (unread_earlier before middle now name s text reads unread)
file_ends_earlier before middle now is_spec name s text reads (inr long) = inr (too_long_earlier before middle is_spec name s text reads long)

refused_earlier : (world : World) (before middle : ShelfView) (name : List ℕ) (s : Status) (text : List ℕ) → OnlyReads 1 before middle →
    IsHistoryRefused world middle name s text → IsHistoryRefused world before name s text
refused_earlier world before middle name s text reads refused =
    record {
      bytes = refused.bytes;
      file = file_earlier before middle _ name refused.bytes reads refused.file;
      fault_ = refused.fault_;
      has = refused.has;
      tokens = refused.tokens;
      lexed = refused.lexed;
      status_is = refused.status_is;
      says = refused.says;
    }

-- a history's file that goes no further after a fetch went no further before it
pub history_ends_earlier : (world : World) (before middle now : ShelfView) (name : List ℕ) (s : Status) (text : List ℕ) →
    OnlyReads 1 before middle → HistoryEnds world middle now name s text → HistoryEnds world before now name s text
history_ends_earlier world before middle now name s text reads (inl ends) = inl (file_ends_earlier before middle now _ name s text reads ends)
history_ends_earlier world before middle now name s text reads (inr refused) = inr (refused_earlier world before middle name s text reads refused)

-- a given history after a fetch is that from before it
pub history_earlier : (world : World) (before middle : ShelfView) (name : List ℕ) (given : List (Option ℕ)) → OnlyReads 1 before middle →
    IsHistoryFile world middle name given → IsHistoryFile world before name given
history_earlier world before middle name given reads history =
    record { bytes = history.bytes; file = file_earlier before middle _ name history.bytes reads history.file; reads = history.reads }
