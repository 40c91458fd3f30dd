-- What is said once the specification is read.
use Rattle.std.proofs.Common.{ℕ, inl, inr, List, Option, Result}
use Rattle.std.specs.Result.{IfOk}
use Rattle.std.proofs.lemmas.Result.{IfOk-weaker}
use Rattle.std.specs.declared.alloc.AllocError.{AllocError}
use Rattle.trio_io.specs.Outside.{ShelfView, OnlyReads}
use Rattle.trio_text.specs.declared.token.Token.{Token}
use Rattle.trio_types.specs.declared.spec.Spec.{Spec}
use Rattle.trio_types.specs.Verdict.{world_of}
use Rattle.explain_answers.specs.declared.explain.Answer.{Answer}
use Rattle.explain_answers.specs.declared.status.Status.{Status}
use Rattle.explain_answers.specs.Command.{Asked}
use Rattle.explain_answers.specs.Explained.{IsSpecFile, HistoryEnds, IsHistoryFile, Tells, Serves}
use Rattle.explain_answers.proofs.Fetched.{history_ends_earlier, history_earlier}

-- the history's file goes no further
pub history_ends_serves : (asked : Asked) (before middle now : ShelfView) (spec : Spec) (bytes : List ℕ) (tokens : List Token) (s : Status)
    (text : List ℕ) → OnlyReads 1 before middle → IsSpecFile before asked.spec bytes tokens spec →
    HistoryEnds (world_of spec) middle now asked.history s text → Serves asked before now s text
history_ends_serves asked before middle now spec bytes tokens s text reads read ends = inr (record {
  spec = spec;
  bytes = bytes;
  tokens = tokens;
  read = read;
  ends = inl (history_ends_earlier (world_of spec) before middle now asked.history s text reads ends);
})

-- both are told
pub told_serves : (asked : Asked) (before middle now : ShelfView) (spec : Spec) (bytes : List ℕ) (tokens : List Token) (given : List (Option ℕ))
    (r : Result Answer AllocError) → OnlyReads 1 before middle → IsSpecFile before asked.spec bytes tokens spec →
    IsHistoryFile (world_of spec) middle asked.history given →
    IfOk r (λ a. Tells asked.task_ asked.spec bytes tokens spec asked.history given a.status a.text.items) →
    IfOk r (λ a. Serves asked before now a.status a.text.items)
told_serves asked before middle now spec bytes tokens given r reads read history tells =
    IfOk-weaker r (λ a. Tells asked.task_ asked.spec bytes tokens spec asked.history given a.status a.text.items)
    (λ a. Serves asked before now a.status a.text.items)
    (λ a told. inr (record {
      spec = spec;
      bytes = bytes;
      tokens = tokens;
      read = read;
      ends = inr (record {
        given = given;
        history = history_earlier (world_of spec) before middle asked.history given reads history;
        tells = told;
      });
    }))
    tells
