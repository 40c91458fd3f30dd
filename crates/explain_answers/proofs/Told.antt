-- What a status tells of its own is read off the answer that was said.
use Rattle.std.proofs.Common.{◌≡◌, ℕ, ◌⊎◌, inl, inr, Bool, List, Option, None, Some, refl, sym, subst}
use Rattle.trio_io.specs.Outside.{ShelfView, SinkView, HasFetchCause, WritesAll}
use Rattle.trio_text.specs.declared.token.Token.{Token}
use Rattle.trio_types.specs.declared.spec.Spec.{Spec}
use Rattle.explain_answers.specs.declared.command.Task.{Task}
use Rattle.explain_answers.specs.declared.command.Task.TheVariants as task
use Rattle.explain_answers.specs.declared.status.Status.{Status}
use Rattle.explain_answers.specs.declared.status.Status.TheVariants as status
use Rattle.explain_answers.specs.Command.{Asked}
use Rattle.explain_answers.specs.Explained.{FileEnds, SaysVerdict, Tells, Serves, SaysOf, Answers, Finishes, CountsFetch, TellsStatus}

-- a verdict, a refusal, or that both files can be read
abbrev IsOfTexts : Status → Type 0
IsOfTexts status.Usage = ⊥
IsOfTexts status.ReadFault = ⊥
IsOfTexts status.WriteFault = ⊥
IsOfTexts status.Memory = ⊥
IsOfTexts s = Unit {0}

abbrev IsOfFiles : ShelfView → ShelfView → Status → Type 0
IsOfFiles before now s = IsOfTexts s ⊎ ((s ≡ status.ReadFault) × CountsFetch before now)

counted : (before now : ShelfView) (name : List ℕ) → HasFetchCause before now name → CountsFetch before now
counted before now name (inl failed) = inl failed
counted before now name (inr absent) = inr absent.0

file_status : (is_spec : Bool) (before now : ShelfView) (name : List ℕ) (s : Status) (text : List ℕ) → FileEnds is_spec before now name s text →
    IsOfFiles before now s
file_status is_spec before now name s text (inl unread) = inr (unread.status_is, counted before now name unread.cause)
file_status is_spec before now name s text (inr long) = inl (subst IsOfTexts (sym long.status_is) tt)

verdict_status : (file bytes : List ℕ) (tokens : List Token) (spec : Spec) (history : List ℕ) (o : Option (ℕ × ℕ)) (s : Status) (text : List ℕ) →
    SaysVerdict file bytes tokens spec history o s text → IsOfTexts s
verdict_status file bytes tokens spec history None s text says = subst IsOfTexts (sym says.0) tt
verdict_status file bytes tokens spec history (Some place) s text says = subst IsOfTexts (sym says.0) tt

told_status : (t : Task) (file bytes : List ℕ) (tokens : List Token) (spec : Spec) (history : List ℕ) (given : List (Option ℕ)) (s : Status)
    (text : List ℕ) → Tells t file bytes tokens spec history given s text → IsOfTexts s
told_status task.Check file bytes tokens spec history given s text (inl verdict) =
    verdict_status file bytes tokens spec history _ s text verdict.says
told_status task.Check file bytes tokens spec history given s text (inr unknown) = subst IsOfTexts (sym unknown.status_is) tt
told_status task.Complete file bytes tokens spec history given s text told = subst IsOfTexts (sym told.0) tt

serves_status : (asked : Asked) (before now : ShelfView) (s : Status) (text : List ℕ) → Serves asked before now s text → IsOfFiles before now s
serves_status asked before now s text (inl (inl ends)) = file_status _ before now asked.spec s text ends
serves_status asked before now s text (inl (inr refused)) = inl (subst IsOfTexts (sym refused.status_is) tt)
serves_status asked before now s text (inr served) = elim served.ends [
  | inl ends ↦ elim ends [
    | inl file ↦ file_status _ before now asked.history s text file
    | inr refused ↦ inl (subst IsOfTexts (sym refused.status_is) tt)
  ]
  | inr told ↦ inl (told_status asked.task_ asked.spec served.bytes served.tokens served.spec asked.history told.given s text told.tells)
]

texts_tell : (asked : Option Asked) (before now : ShelfView) (old new : SinkView) (s : Status) (text : List ℕ) → IsOfTexts s →
    SaysOf asked before now s text → WritesAll old new text → TellsStatus asked before now old new s
texts_tell asked before now old new status.Usage text never says wrote = absurd never
texts_tell asked before now old new status.ReadFault text never says wrote = absurd never
texts_tell asked before now old new status.WriteFault text never says wrote = absurd never
texts_tell asked before now old new status.Memory text never says wrote = absurd never
texts_tell asked before now old new s text is says wrote = (text, says, wrote)

answer_tells : (asked : Option Asked) (before now : ShelfView) (old new : SinkView) (s : Status) (text : List ℕ) → Answers asked before now s text →
    WritesAll old new text → TellsStatus asked before now old new s
answer_tells asked before now old new s text (inr want) wrote =
    subst (TellsStatus asked before now old new) (sym want.status_is) (subst (WritesAll old new) want.text_is wrote)
answer_tells None before now old new s text (inl usage) wrote =
    subst (TellsStatus None before now old new) (sym usage.status_is) (refl, usage.unfetched, subst (WritesAll old new) usage.text_is wrote)
answer_tells (Some a) before now old new s text (inl serves) wrote = elim (serves_status a before now s text serves) [
  | inl texts ↦ texts_tell (Some a) before now old new s text texts serves wrote
  | inr read ↦ subst (TellsStatus (Some a) before now old new) (sym read.0) read.1
]

pub tells : (asked : Option Asked) (before now : ShelfView) (old new : SinkView) (result : Status) → Finishes asked before now old new result →
    TellsStatus asked before now old new result
tells asked before now old new result x = elim x.said [
  | inl went ↦ subst (TellsStatus asked before now old new) (sym went.0) (answer_tells asked before now old new x.s x.text x.answers went.1)
  | inr failed ↦ subst (TellsStatus asked before now old new) (sym failed.0) failed.1.counted
]
