-- For told files one answer of `check` is due.
use Rattle.std.proofs.Common.{◌≡◌, ℕ, zero, suc, inl, inr, true, false, List, [], ◌∷◌, get_or, Option, Some, refl, sym, ◌∙◌, ap}
use Rattle.std.proofs.Math.Path.{ap₂}
use Rattle.std.specs.Prelude.{map, is_none}
use Rattle.std.proofs.lemmas.List.Quantifiers.{position-Some}
use Rattle.trio_io.specs.Outside.{ShelfView}
use Rattle.trio_types.specs.declared.spec.Spec.{Spec}
use Rattle.trio_types.specs.Parts.{Parts}
use Rattle.trio_types.specs.Verdict.{parts_of, first_false}
use Rattle.trio_types.proofs.Verdicts.{first_false_is}
use Rattle.trio_reader.specs.Laws.{OneSpecification, OneFault, FaultyIsNone}
use Rattle.history_check.specs.declared.checker.Verdict.{Verdict}
use Rattle.history_check.specs.declared.checker.Verdict.TheVariants as verdict
use Rattle.history_check.specs.Answers.{verdict_of}
use Rattle.history_table.specs.History.{OneHistory}
use Rattle.history_table.specs.Fitting.{first_unknown}
use Rattle.trio_jobs.specs.declared.status.Status.{Status}
use Rattle.trio_jobs.specs.declared.fault.Fault.{Fault}
use Rattle.trio_jobs.specs.Fault.{status_of}
use Rattle.trio_jobs.specs.Message.{message}
use Rattle.trio_jobs.specs.Check.{UnknownFault, CheckFault, IsVerdict, CheckDue, unknown_fault, verdict_status, verdict_text}
use Rattle.trio_jobs.proofs.Yielded.{same_world, load_fault_one, fault_or_loaded, loaded_one}

same_axioms : (a b : Spec) → parts_of a ≡ parts_of b → a.axioms ≡ b.axioms
same_axioms a b same = ap (λ (parts : Parts). parts.axioms) same

first_false_same : (a b : Spec) (table : List ℕ) → parts_of a ≡ parts_of b → first_false a table ≡ first_false b table
first_false_same a b table same =
    first_false_is a table ∙ rw (same_world a b same, same_axioms a b same) (sym (first_false_is b table))

text_same : (a b : Spec) (v : Verdict) → parts_of a ≡ parts_of b → verdict_text a v ≡ verdict_text b v
text_same a b verdict.True same = refl
text_same a b (verdict.False number instant) same = rw (same_axioms a b same) refl

known_one : (xs ys : List ℕ) → map Some xs ≡ map Some ys → xs ≡ ys
known_one [] [] e = refl
known_one [] (y ∷ ys) e = cc
known_one (x ∷ xs) [] e = cc
known_one (x ∷ xs) (y ∷ ys) e =
    let here : x ≡ y = cc in
    let more : map Some xs ≡ map Some ys = cc in
    ap₂ ◌∷◌ here (known_one xs ys more)

known_at : (xs : List ℕ) (i : ℕ) → is_none (get_or (map Some xs) i (Some 0)) ≡ false
known_at [] i = refl
known_at (x ∷ xs) zero = refl
known_at (x ∷ xs) (suc i) = known_at xs i

none_unknown : (given : List (Option ℕ)) (xs : List ℕ) (cell : ℕ) → given ≡ map Some xs → first_unknown given ≡ Some cell → ⊥
none_unknown given xs cell known first =
    let at = position-Some is_none (map Some xs) cell (Some 0) (rw known at first) in
    let wrong : true ≡ false = sym at.1 ∙ known_at xs cell in cc

-- what is known of the readers
module _ (one_spec : OneSpecification) (one_fault : OneFault) (none : FaultyIsNone) (one_history : OneHistory) where
  unknown_one : (shelf : ShelfView) (s h : List ℕ) (f g : Fault) → shelf.tells ≡ true → UnknownFault shelf s h f → UnknownFault shelf s h g → f ≡ g
  unknown_one shelf s h f g told x y =
      let same = loaded_one one_spec one_fault none one_history shelf s h x.spec y.spec x.given y.given told x.loaded y.loaded in
      let cells : Some x.unknown.cell ≡ Some y.unknown.cell = sym x.unknown.first ∙ ap first_unknown same.1 ∙ y.unknown.first in
      let cell : x.unknown.cell ≡ y.unknown.cell = cc in
      x.unknown.is ∙ ap₂ unknown_fault (same_world x.spec y.spec same.0) cell ∙ sym y.unknown.is

  check_fault_one : (shelf : ShelfView) (s h : List ℕ) (m n : ℕ) (f g : Fault) → shelf.tells ≡ true → CheckFault shelf s h m f →
      CheckFault shelf s h n g → f ≡ g
  check_fault_one shelf s h m n f g told (inl x) (inl y) = load_fault_one one_spec one_fault none one_history shelf s h m n f g told x y
  check_fault_one shelf s h m n f g told (inl x) (inr y) =
      absurd (fault_or_loaded one_spec one_fault none one_history shelf s h m f y.1.spec y.1.given told x y.1.loaded)
  check_fault_one shelf s h m n f g told (inr x) (inl y) =
      absurd (fault_or_loaded one_spec one_fault none one_history shelf s h n g x.1.spec x.1.given told y x.1.loaded)
  check_fault_one shelf s h m n f g told (inr x) (inr y) = unknown_one shelf s h f g told x.1 y.1

  fault_or_verdict : (shelf : ShelfView) (s h : List ℕ) (n : ℕ) (f : Fault) (spec : Spec) (v : Verdict) → shelf.tells ≡ true →
      CheckFault shelf s h n f → IsVerdict shelf s h spec v → ⊥
  fault_or_verdict shelf s h n f spec v told (inl x) y = fault_or_loaded one_spec one_fault none one_history shelf s h n f spec (map Some y.table) told x y.loaded
  fault_or_verdict shelf s h n f spec v told (inr x) y =
      let same = loaded_one one_spec one_fault none one_history shelf s h x.1.spec spec x.1.given (map Some y.table) told x.1.loaded y.loaded in
      none_unknown x.1.given y.table x.1.unknown.cell same.1 x.1.unknown.first

  verdict_one : (shelf : ShelfView) (s h : List ℕ) (a b : Spec) (v u : Verdict) → shelf.tells ≡ true → IsVerdict shelf s h a v →
      IsVerdict shelf s h b u → (parts_of a ≡ parts_of b) × (v ≡ u)
  verdict_one shelf s h a b v u told x y =
      let same = loaded_one one_spec one_fault none one_history shelf s h a b (map Some x.table) (map Some y.table) told x.loaded y.loaded in
      let tables = known_one x.table y.table same.1 in
      (same.0, x.is ∙ ap verdict_of (first_false_same a b x.table same.0 ∙ ap (first_false b) tables) ∙ sym y.is)

  pub check_one : (shelf : ShelfView) (s h : List ℕ) (m n : ℕ) (st su : Status) (x y : List ℕ) → shelf.tells ≡ true →
      CheckDue shelf s h m st x → CheckDue shelf s h n su y → (st ≡ su) × (x ≡ y)
  check_one shelf s h m n st su x y told (inl a) (inl b) =
      let same = check_fault_one shelf s h m n a.named b.named told a.has b.has in
      (a.status_is ∙ ap status_of same ∙ sym b.status_is, a.text_is ∙ ap message same ∙ sym b.text_is)
  check_one shelf s h m n st su x y told (inl a) (inr b) = absurd (fault_or_verdict shelf s h m a.named b.spec b.v told a.has b.verdict)
  check_one shelf s h m n st su x y told (inr a) (inl b) = absurd (fault_or_verdict shelf s h n b.named a.spec a.v told b.has a.verdict)
  check_one shelf s h m n st su x y told (inr a) (inr b) =
      let same = verdict_one shelf s h a.spec b.spec a.v b.v told a.verdict b.verdict in (
        a.says.status_is ∙ ap verdict_status same.1 ∙ sym b.says.status_is,
        a.says.text_is ∙ text_same a.spec b.spec a.v same.0 ∙ ap (verdict_text b.spec) same.1 ∙ sym b.says.text_is,
      )
