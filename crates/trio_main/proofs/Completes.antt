-- From what `complete` loads to what it ends with.
use Rattle.std.proofs.Common.{◌≡◌, ℕ, inl, inr, List, None, Result, refl, sym, ◌∙◌, ap, subst}
use Rattle.trio_io.specs.Outside.{ShelfView, BellView, SinkView, OnlyReads}
use Rattle.trio_types.specs.declared.spec.Spec.{Spec}
use Rattle.trio_types.specs.Verdict.{world_of}
use Rattle.history_table.specs.Texts.{list_text}
use Rattle.branch_state.specs.Posed.{Posed}
use Rattle.branch_state.specs.Models.{models}
use Rattle.trio_jobs.specs.declared.status.Status.{Status}
use Rattle.trio_jobs.specs.declared.status.Status.TheVariants as status
use Rattle.trio_jobs.specs.declared.fault.Fault.{Fault}
use Rattle.trio_jobs.specs.Call.{call_of}
use Rattle.trio_jobs.specs.Fault.{status_of}
use Rattle.trio_jobs.specs.Message.{message}
use Rattle.trio_jobs.specs.Load.{LoadFault, IsLoaded}
use Rattle.trio_jobs.specs.Loading.{IsLoadedProblem}
use Rattle.trio_main.specs.Complete.{CompleteDue, complete_job}
use Rattle.trio_jobs.specs.Answer.{GivesOrWants, Answers, Ends}
use Rattle.trio_jobs.proofs.Jobs.{given_ends}
use Rattle.trio_main.proofs.Completions.{completions_are}

-- a fault of the two files is one of `complete`
pub load_fault_due : (shelf : ShelfView) (s h : List ℕ) (reads : ℕ) (f : Fault) → LoadFault shelf s h reads f →
    CompleteDue shelf s h reads (status_of f) (message f)
load_fault_due shelf s h reads f first = inl (record { named = f; has = first; status_is = refl; text_is = refl })

-- the specification that is asked for is the one that was read
same_spec : (shelf : ShelfView) (s h : List ℕ) (p : Posed) → IsLoadedProblem shelf s h None p → IsLoaded shelf s h p.spec p.given
same_spec shelf s h p loaded = subst (λ spec. IsLoaded shelf s h spec p.given) (sym loaded.asked) loaded.loaded

-- the models are the list due
listed_answers : (before now : ShelfView) (bell : BellView) (s h : List ℕ) (p : Posed) (found : List (List ℕ)) → OnlyReads 2 before now →
    IsLoadedProblem before s h None p → found ≡ models p →
    Answers (complete_job s h) (call_of before now bell bell) status.Done (list_text (world_of p.spec) found)
listed_answers before now bell s h p found reads loaded is = inl (record {
  reads = 2;
  due = inr (record {
    lists = record {
      spec = p.spec;
      given = p.given;
      loaded = same_spec before s h p loaded;
      is = ap (list_text (world_of p.spec)) (is ∙ sym (completions_are p));
    };
    status_is = refl;
    reads_both = refl;
  });
  fetched = reads.counts.at_most;
  absent = λ is. cc;
  kept = reads.files;
})

-- that list was given, or memory was wanting
pub listed_ends : (before now : ShelfView) (bell : BellView) (s h : List ℕ) (p : Posed) (spec : Spec) (found : List (List ℕ)) (old new : SinkView)
    (r : Result Status Fault) → p.spec ≡ spec → OnlyReads 2 before now → IsLoadedProblem before s h None p → found ≡ models p →
    GivesOrWants status.Done (list_text (world_of spec) found) old new r → Ends (complete_job s h) old new r (call_of before now bell bell)
listed_ends before now bell s h p spec found old new r same reads loaded is (inl gives) =
    given_ends (complete_job s h) (call_of before now bell bell) old new status.Done (list_text (world_of spec) found) r
    (subst (λ t. Answers (complete_job s h) (call_of before now bell bell) status.Done (list_text (world_of t) found)) same
    (listed_answers before now bell s h p found reads loaded is)) gives
listed_ends before now bell s h p spec found old new r same reads loaded is (inr want) =
    subst (λ r. Ends (complete_job s h) old new r (call_of before now bell bell)) (sym want.0)
    (inr (inr (inr (record { status_is = refl; text_is = refl; kept = reads.files })), want.1))
