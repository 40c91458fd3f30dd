-- For told files one answer of `complete` is due.
use Rattle.std.proofs.Common.{◌≡◌, ℕ, inl, inr, true, List, sym, ◌∙◌, ap}
use Rattle.trio_io.specs.Outside.{ShelfView}
use Rattle.trio_reader.specs.Laws.{OneSpecification, OneFault, FaultyIsNone}
use Rattle.history_table.specs.History.{OneHistory}
use Rattle.trio_jobs.specs.declared.status.Status.{Status}
use Rattle.trio_jobs.specs.Fault.{status_of}
use Rattle.trio_jobs.specs.Message.{message}
use Rattle.trio_main.specs.Complete.{IsCompletion, CompleteDue, complete_job}
use Rattle.trio_jobs.proofs.Facts.{IsJob}
use Rattle.trio_main.proofs.CompleteTold.{complete_status, complete_read_text}
use Rattle.trio_main.proofs.Completions.{same_text}
use Rattle.trio_jobs.proofs.Yielded.{load_fault_one, fault_or_loaded, loaded_one}

-- what is known of the readers
module _ (one_spec : OneSpecification) (one_fault : OneFault) (none : FaultyIsNone) (one_history : OneHistory) where
  completion_one : (shelf : ShelfView) (s h x y : List ℕ) → shelf.tells ≡ true → IsCompletion shelf s h x → IsCompletion shelf s h y → x ≡ y
  completion_one shelf s h x y told a b =
      let same = loaded_one one_spec one_fault none one_history shelf s h a.spec b.spec a.given b.given told a.loaded b.loaded in
      a.is ∙ same_text a.spec b.spec a.given b.given same.0 same.1 ∙ sym b.is

  complete_one : (shelf : ShelfView) (s h : List ℕ) (m n : ℕ) (st su : Status) (x y : List ℕ) → shelf.tells ≡ true →
      CompleteDue shelf s h m st x → CompleteDue shelf s h n su y → (st ≡ su) × (x ≡ y)
  complete_one shelf s h m n st su x y told (inl a) (inl b) =
      let same = load_fault_one one_spec one_fault none one_history shelf s h m n a.named b.named told a.has b.has in
      (a.status_is ∙ ap status_of same ∙ sym b.status_is, a.text_is ∙ ap message same ∙ sym b.text_is)
  complete_one shelf s h m n st su x y told (inl a) (inr b) =
      absurd (fault_or_loaded one_spec one_fault none one_history shelf s h m a.named b.lists.spec b.lists.given told a.has b.lists.loaded)
  complete_one shelf s h m n st su x y told (inr a) (inl b) =
      absurd (fault_or_loaded one_spec one_fault none one_history shelf s h n b.named a.lists.spec a.lists.given told b.has a.lists.loaded)
  complete_one shelf s h m n st su x y told (inr a) (inr b) =
      (a.status_is ∙ sym b.status_is, completion_one shelf s h x y told a.lists b.lists)

pub complete_is_job : (s h : List ℕ) → IsJob (complete_job s h)
complete_is_job s h = record {
  statuses = λ shelf n st text due. complete_status shelf s h n st text due;
  read_text = λ shelf n text due. complete_read_text shelf s h n text due;
  one = λ one_spec one_fault none one_history shelf m n st su x y told a b.
      complete_one one_spec one_fault none one_history shelf s h m n st su x y told a b;
}
