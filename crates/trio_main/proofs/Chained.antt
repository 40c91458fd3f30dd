-- One call of `check` behind another.
use Rattle.std.proofs.Common.{◌≡◌, ℕ, true, List, Option, None, Some, sym, ◌∙◌, subst}
use Rattle.trio_io.specs.Outside.{ShelfView, BellView, SinkView, StaysSink}
use Rattle.trio_types.specs.declared.spec.Spec.{Spec}
use Rattle.trio_jobs.specs.declared.status.Status.{Status}
use Rattle.trio_jobs.specs.declared.status.Status.TheVariants as status
use Rattle.trio_jobs.specs.declared.command.Command.{Command}
use Rattle.trio_jobs.specs.declared.command.Command.TheVariants as command
use Rattle.trio_jobs.specs.Call.{call_of}
use Rattle.trio_jobs.specs.Check.{TellsCheck}
use Rattle.trio_main.specs.Tell.{Leaves}
use Rattle.trio_main.specs.Told.{WroteTrue, IsSpecFile, IsHistoryFile, JudgesTwice}
use Rattle.trio_main.proofs.Told.{check_true}

-- what a status 0 of `check` tells, whichever words were read as it
wrote_true : (asked : Option Command) (before now : ShelfView) (bell rung : BellView) (s h : List ℕ) (old new : SinkView) (r : Status) →
    asked ≡ Some (command.Check s h) → r ≡ status.Done → before.tells ≡ true → old.tells ≡ true →
    TellsCheck asked (call_of before now bell rung) old new r → WroteTrue before s h old new
wrote_true asked before now bell rung s h old new r is done shelf sink tells =
    check_true (call_of before now bell rung) s h old new shelf sink
    (subst (TellsCheck (Some (command.Check s h)) (call_of before now bell rung) old new) done
    (subst (λ a. TellsCheck a (call_of before now bell rung) old new r) is tells))

-- `check` saves no file, so that it leaves every file
files_kept : (asked : Option Command) (before now : ShelfView) (bell rung : BellView) (s h name : List ℕ) → asked ≡ Some (command.Check s h) →
    Leaves asked (call_of before now bell rung) → now.file name ≡ before.file name
files_kept asked before now bell rung s h name is leaves =
    let left : Leaves (Some (command.Check s h)) (call_of before now bell rung) =
    subst (λ a. Leaves a (call_of before now bell rung)) is leaves in
    left.others name (λ saved. let wrong : None ≡ Some name = saved in cc)

-- the second of two calls judges the files of the first, and writes behind it
pub judges_twice : (asked : Option Command) (before middle now : ShelfView) (bell rung next after : BellView) (old between new : SinkView) (first second : Status) →
    TellsCheck asked (call_of before middle bell rung) old between first → Leaves asked (call_of before middle bell rung) → StaysSink old between →
    TellsCheck asked (call_of middle now next after) between new second → JudgesTwice asked before old new first second
judges_twice asked before middle now bell rung next after old between new first second tells leaves stays then = λ s h is shelf sink done also.
    let a = wrote_true asked before middle bell rung s h old between first is done shelf sink tells in
    let b = wrote_true asked middle now next after s h between new second is also (leaves.tells ∙ shelf) (stays.tells ∙ sink) then in
    let kept : (name : List ℕ) → before.file name ≡ middle.file name = λ name. sym (files_kept asked before middle bell rung s h name is leaves) in
    record {
      spec = b.spec;
      table = b.table;
      spec_file = record { bytes = b.spec_file.bytes; there = kept s ∙ b.spec_file.there; within = b.spec_file.within; reads = b.spec_file.reads };
      history_file = record {
        bytes = b.history_file.bytes;
        there = kept h ∙ b.history_file.there;
        within = b.history_file.within;
        reads = b.history_file.reads;
      };
      each_true = b.each_true;
      written = rw a.written at b.written;
    }
