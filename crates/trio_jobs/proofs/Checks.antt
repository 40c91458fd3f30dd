-- From what `check` loads to its answer.
use Rattle.std.proofs.Common.{◌≡◌, ℕ, inl, inr, List, Option, Some, Result, Ok, Err, refl, sym, ◌∙◌, ap, arith}
use Rattle.trio_io.specs.Outside.{ShelfView, BellView, OnlyReads}
use Rattle.trio_types.specs.declared.spec.Spec.{Spec}
use Rattle.trio_types.specs.Verdict.{world_of, first_false}
use Rattle.history_check.specs.declared.checker.Verdict.{Verdict}
use Rattle.history_check.specs.declared.checker.Verdict.TheVariants as verdict
use Rattle.history_check.specs.Answers.{verdict_of}
use Rattle.trio_jobs.specs.declared.answer.Answer.{Answer}
use Rattle.trio_jobs.specs.declared.status.Status.TheVariants as status
use Rattle.trio_jobs.specs.declared.fault.Fault.{Fault}
use Rattle.trio_jobs.specs.Fault.{status_of}
use Rattle.trio_jobs.specs.Message.{message}
use Rattle.trio_jobs.specs.Load.{YieldsSpec, YieldsHistory, LoadFault}
use Rattle.trio_jobs.specs.Call.{call_of}
use Rattle.trio_jobs.specs.Check.{CheckFault, CheckDue, Judges, verdict_status, check_job}
use Rattle.trio_jobs.specs.Answer.{Computes}
use Rattle.trio_jobs.proofs.Loaded.{loaded_earlier}

fault_due : (shelf : ShelfView) (s h : List ℕ) (reads : ℕ) (f : Fault) → CheckFault shelf s h reads f →
    CheckDue shelf s h reads (status_of f) (message f)
fault_due shelf s h reads f first = inl (record { named = f; has = first; status_is = refl; text_is = refl })

-- a fault of the two files is one of `check`
pub load_fault_due : (shelf : ShelfView) (s h : List ℕ) (reads : ℕ) (f : Fault) → LoadFault shelf s h reads f →
    CheckDue shelf s h reads (status_of f) (message f)
load_fault_due shelf s h reads f first = fault_due shelf s h reads f (inl first)

pub verdict_read : (v : Verdict) → verdict_status v ≡ status.ReadFault → ⊥
verdict_read verdict.True is = cc
verdict_read (verdict.False number instant) is = cc

-- both files are read
pub judged_computes : (before middle now : ShelfView) (bell : BellView) (s h : List ℕ) (spec : Spec) (given : List (Option ℕ))
    (r : Result Answer Fault) → OnlyReads 1 before middle → OnlyReads 1 middle now → YieldsSpec before s (Ok spec) →
    YieldsHistory (world_of spec) middle h (Ok given) → Judges spec given r → Computes (check_job s h) r (call_of before now bell bell)
judged_computes before middle now bell s h spec given (Ok answer) reads later first second judges = inl (record {
  reads = 2;
  due = inr (record {
    spec = spec;
    v = verdict_of (first_false spec judges.table);
    verdict = record {
      table = judges.table;
      loaded = rw judges.known at (loaded_earlier before middle s h spec given reads first second);
      is = refl;
    };
    says = judges.says;
    reads_both = refl;
  });
  fetched = omega (arith, reads.counts.at_most, later.counts.at_most);
  absent = λ is. absurd (verdict_read (verdict_of (first_false spec judges.table)) (sym judges.says.status_is ∙ is));
  kept = λ name. later.files name ∙ reads.files name;
})
judged_computes before middle now bell s h spec given (Err f) reads later first second (inl want) =
    inr (inr (record { status_is = ap status_of want; text_is = ap message want; kept = λ name. later.files name ∙ reads.files name }))
judged_computes before middle now bell s h spec given (Err f) reads later first second (inr unknown) = inl (record {
  reads = 2;
  due = fault_due before s h 2 f (inr (
    refl,
    record {
      spec = spec;
      given = given;
      loaded = loaded_earlier before middle s h spec given reads first second;
      unknown = unknown;
    },
  ));
  fetched = omega (arith, reads.counts.at_most, later.counts.at_most);
  absent = λ is. let refused : status_of f ≡ status.Refused = ap status_of unknown.is in absurd (let wrong : status.Refused ≡ status.ReadFault = sym refused ∙ is in cc);
  kept = λ name. later.files name ∙ reads.files name;
})
