-- A specification's text that is refused has the fault of which something is said.
use Rattle.std.proofs.Common.{◌≡◌, ℕ, true, List, Err, subst}
use Rattle.trio_io.specs.Outside.{ShelfView}
use Rattle.trio_text.specs.declared.token.Token.{Token}
use Rattle.trio_reader.specs.declared.fault.SpecFault.{SpecFault}
use Rattle.trio_reader.specs.declared.fault.SpecFault.TheVariants as fault
use Rattle.trio_reader.specs.Reading.{IsAnswer, HasFault}
use Rattle.explain_answers.specs.declared.status.Status.{Status}
use Rattle.explain_answers.specs.declared.status.Status.TheVariants as status
use Rattle.explain_answers.specs.Sources.{AreTokensOf}
use Rattle.explain_answers.specs.SpecWords.{SaysSpecFault}
use Rattle.explain_answers.specs.Explained.{IsFile, IsSpecRefused}

said_has : (file text : List ℕ) (tokens : List Token) (f : SpecFault) (words : List ℕ) → IsAnswer text (Err f) →
    SaysSpecFault file text tokens f words → HasFault text f
said_has file text tokens fault.Memory words answer says = absurd says
said_has file text tokens f words answer says = answer

-- the text, as it was lexed, read and shown, is the file's
pub spec_refused : (before : ShelfView) (name bytes lexed_text read_text shown_text : List ℕ) (tokens shown_tokens : List Token) (f : SpecFault)
    (s : Status) (words : List ℕ) → lexed_text ≡ bytes → read_text ≡ bytes → shown_text ≡ bytes → shown_tokens ≡ tokens →
    IsFile before true name bytes → AreTokensOf lexed_text tokens → IsAnswer read_text (Err f) →
    (s ≡ status.Refused) × SaysSpecFault name shown_text shown_tokens f words → IsSpecRefused before name s words
spec_refused before name bytes lexed_text read_text shown_text tokens shown_tokens f s words lexed read shown same file are_tokens answer says =
    let answered : IsAnswer bytes (Err f) = subst (λ (t : List ℕ). IsAnswer t (Err f)) read answer in
    let placed : SaysSpecFault name bytes shown_tokens f words = subst (λ (t : List ℕ). SaysSpecFault name t shown_tokens f words) shown says.1 in
    let said : SaysSpecFault name bytes tokens f words = subst (λ (k : List Token). SaysSpecFault name bytes k f words) same placed in
    record {
      bytes = bytes;
      file = file;
      fault_ = f;
      has = said_has name bytes tokens f words answered said;
      tokens = tokens;
      lexed = subst (λ (t : List ℕ). AreTokensOf t tokens) lexed are_tokens;
      status_is = says.0;
      says = said;
    }
