-- For told files what two files yield is one thing.
use Rattle.std.proofs.Common.{◌≡◌, ◌≢◌, ℕ, ◌<◌, ◌≤◌, inl, inr, true, List, length, Option, None, Some, Result, Ok, Err, refl, sym, ◌∙◌, ap, subst, arith}
use Rattle.std.specs.Prelude.{IsSomeAnd}
use Rattle.trio_io.specs.Outside.{ShelfView}
use Rattle.trio_types.specs.declared.spec.Spec.{Spec}
use Rattle.trio_types.specs.World.{World}
use Rattle.trio_types.specs.Parts.{world_of_parts}
use Rattle.trio_types.specs.Verdict.{parts_of, world_of}
use Rattle.trio_reader.specs.Laws.{OneSpecification, OneFault, FaultyIsNone}
use Rattle.history_table.specs.declared.fault.HistFault.{HistFault}
use Rattle.history_table.specs.declared.fault.HistFault.TheVariants as history_fault
use Rattle.history_table.specs.History.{HasHistFault, OneHistory}
use Rattle.trio_jobs.specs.declared.fault.Text.{Text}
use Rattle.trio_jobs.specs.declared.fault.Text.TheVariants as text
use Rattle.trio_jobs.specs.declared.fault.Fault.{Fault}
use Rattle.trio_jobs.specs.Fault.{spec_refusal, history_refusal}
use Rattle.trio_jobs.specs.Load.{most_bytes, IsFile, FileFault, Yields, ReadsSpec, ReadsHistory, YieldsSpec, YieldsHistory, LoadFault, IsLoaded}
use Rattle.history_table.proofs.Faults.{no_want, fault_answers}

pub same_world : (a b : Spec) → parts_of a ≡ parts_of b → world_of a ≡ world_of b
same_world a b same = ap world_of_parts same

some_is : {A : Type 0} {x y : A} {o : Option A} → o ≡ Some x → o ≡ Some y → x ≡ y
some_is p q = cc

not_long : (most : ℕ) (file : Option (List ℕ)) (bytes : List ℕ) → file ≡ Some bytes → length bytes ≤ most →
    IsSomeAnd file (λ bytes. most < length bytes) → ⊥
not_long most file bytes there within above =
    let high : most < length bytes = rw there at above in omega arith

not_none : (most : ℕ) (file : Option (List ℕ)) → file ≡ None → IsSomeAnd file (λ bytes. most < length bytes) → ⊥
not_none most file none above = rw none at above

file_fault_one : (which : Text) (shelf : ShelfView) (name : List ℕ) (f g : Fault) → shelf.tells ≡ true → FileFault which shelf name f →
    FileFault which shelf name g → f ≡ g
file_fault_one which shelf name f g told (inl x) (inl y) = x.0 ∙ sym y.0
file_fault_one which shelf name f g told (inl x) (inr y) = absurd (not_none (most_bytes which) (shelf.file name) (x.1 told) (y.1 told))
file_fault_one which shelf name f g told (inr x) (inl y) = absurd (not_none (most_bytes which) (shelf.file name) (y.1 told) (x.1 told))
file_fault_one which shelf name f g told (inr x) (inr y) = x.0 ∙ sym y.0

fault_or_file : (which : Text) (shelf : ShelfView) (name : List ℕ) (f : Fault) (says : List ℕ → Type 0) → shelf.tells ≡ true →
    FileFault which shelf name f → IsFile which shelf name says → ⊥
fault_or_file which shelf name f says told (inl gone) file = cc (gone.1 told, file.there told)
fault_or_file which shelf name f says told (inr long) file =
    not_long (most_bytes which) (shelf.file name) file.bytes (file.there told) file.within (long.1 told)

-- of two things that a told file yields
yields_one : {X : Type 0} (parts : List ℕ → Result X Fault → Type 0) (same : Result X Fault → Result X Fault → Type 0) (which : Text)
    (shelf : ShelfView) (name : List ℕ) (a b : Result X Fault) → shelf.tells ≡ true → ((f : Fault) → same (Err f) (Err f)) →
    ((bytes : List ℕ) → parts bytes a → parts bytes b → same a b) → Yields parts which shelf name a → Yields parts which shelf name b → same a b
yields_one parts same which shelf name a b told faults one (inl x) (inl y) =
    rw (x.1, y.1, file_fault_one which shelf name x.0 y.0 told x.2 y.2) (faults y.0)
yields_one parts same which shelf name a b told faults one (inl x) (inr y) = absurd (fault_or_file which shelf name x.0 _ told x.2 y)
yields_one parts same which shelf name a b told faults one (inr x) (inl y) = absurd (fault_or_file which shelf name y.0 _ told y.2 x)
yields_one parts same which shelf name a b told faults one (inr x) (inr y) =
    one y.bytes (rw (some_is (x.there told) (y.there told)) at x.said) y.said

-- one specification, or one fault
SameReading : Result Spec Fault → Result Spec Fault → Type 0
SameReading (Ok a) (Ok b) = parts_of a ≡ parts_of b
SameReading (Err f) (Err g) = f ≡ g
SameReading a b = ⊥

-- a fault of a text is not want of memory
is_no_want : (world : World) (bytes : List ℕ) (g : HistFault) (r : Result (List (Option ℕ)) HistFault) → r ≡ Err g →
    HasHistFault world bytes g → r ≢ Err history_fault.Memory
is_no_want world bytes g r is has = λ e. no_want world bytes g has (let same : g ≡ history_fault.Memory = cc in same)

-- what is known of the readers
module _ (one_spec : OneSpecification) (one_fault : OneFault) (none : FaultyIsNone) (one_history : OneHistory) where
  reads_spec_one : (bytes : List ℕ) (a b : Result Spec Fault) → ReadsSpec bytes a → ReadsSpec bytes b → SameReading a b
  unfolding SameReading
  reads_spec_one bytes (Ok a) (Ok b) x y = one_spec bytes a b x y
  reads_spec_one bytes (Ok a) (Err g) x y = none bytes y.0 a y.1 x
  reads_spec_one bytes (Err f) (Ok b) x y = none bytes x.0 b x.1 y
  reads_spec_one bytes (Err f) (Err g) x y = x.2 ∙ ap spec_refusal (one_fault bytes x.0 y.0 x.1 y.1) ∙ sym y.2

  reads_history_one : (world : World) (bytes : List ℕ) (a b : Result (List (Option ℕ)) Fault) → ReadsHistory world bytes a →
      ReadsHistory world bytes b → a ≡ b
  reads_history_one world bytes (Ok a) (Ok b) x y =
      let one : Ok a ≡ Ok b = one_history world bytes (Ok a) (Ok b) (λ e. cc) (λ e. cc) x y in
      let same : a ≡ b = cc in ap Ok same
  reads_history_one world bytes (Ok a) (Err g) x y =
      let one : Ok a ≡ Err y.0 = one_history world bytes (Ok a) (Err y.0) (λ e. cc) (is_no_want world bytes y.0 (Err y.0) refl y.1) x (fault_answers world bytes y.0 y.1) in cc
  reads_history_one world bytes (Err f) (Ok b) x y =
      let one : Err x.0 ≡ Ok b = one_history world bytes (Err x.0) (Ok b) (is_no_want world bytes x.0 (Err x.0) refl x.1) (λ e. cc) (fault_answers world bytes x.0 x.1) y in cc
  reads_history_one world bytes (Err f) (Err g) x y =
      let one : Err x.0 ≡ Err y.0 = one_history world bytes (Err x.0) (Err y.0) (is_no_want world bytes x.0 (Err x.0) refl x.1) (is_no_want world bytes y.0 (Err y.0) refl y.1)
      (fault_answers world bytes x.0 x.1) (fault_answers world bytes y.0 y.1) in
      let same : x.0 ≡ y.0 = cc in ap Err (x.2 ∙ ap (history_refusal world) same ∙ sym y.2)

  spec_one : (shelf : ShelfView) (name : List ℕ) (a b : Result Spec Fault) → shelf.tells ≡ true → YieldsSpec shelf name a →
      YieldsSpec shelf name b → SameReading a b
  unfolding SameReading
  spec_one shelf name a b told x y =
      yields_one ReadsSpec SameReading text.Spec shelf name a b told (λ f. refl) (λ bytes. reads_spec_one bytes a b) x y

  history_one : (world : World) (shelf : ShelfView) (name : List ℕ) (a b : Result (List (Option ℕ)) Fault) → shelf.tells ≡ true →
      YieldsHistory world shelf name a → YieldsHistory world shelf name b → a ≡ b
  history_one world shelf name a b told x y =
      yields_one (ReadsHistory world) (λ r s. r ≡ s) text.History shelf name a b told (λ f. refl) (λ bytes. reads_history_one world bytes a b) x y

  -- a told specification and a told history have one first fault at most
  pub load_fault_one : (shelf : ShelfView) (s h : List ℕ) (m n : ℕ) (f g : Fault) → shelf.tells ≡ true → LoadFault shelf s h m f →
      LoadFault shelf s h n g → f ≡ g
  unfolding SameReading
  load_fault_one shelf s h m n f g told (inl x) (inl y) = spec_one shelf s (Err f) (Err g) told x.1 y.1
  load_fault_one shelf s h m n f g told (inl x) (inr y) = absurd (spec_one shelf s (Err f) (Ok y.value) told x.1 y.read)
  load_fault_one shelf s h m n f g told (inr x) (inl y) = absurd (spec_one shelf s (Ok x.value) (Err g) told x.read y.1)
  load_fault_one shelf s h m n f g told (inr x) (inr y) =
      let world = same_world x.value y.value (spec_one shelf s (Ok x.value) (Ok y.value) told x.read y.read) in
      let same : Err f ≡ Err g = history_one (world_of y.value) shelf h (Err f) (Err g) told (subst (λ w. YieldsHistory w shelf h (Err f)) world x.stops.1) y.stops.1 in cc

  -- and none where both are read
  pub fault_or_loaded : (shelf : ShelfView) (s h : List ℕ) (n : ℕ) (f : Fault) (spec : Spec) (given : List (Option ℕ)) → shelf.tells ≡ true →
      LoadFault shelf s h n f → IsLoaded shelf s h spec given → ⊥
  unfolding SameReading
  fault_or_loaded shelf s h n f spec given told (inl x) y = spec_one shelf s (Err f) (Ok spec) told x.1 y.first
  fault_or_loaded shelf s h n f spec given told (inr x) y =
      let world = same_world x.value spec (spec_one shelf s (Ok x.value) (Ok spec) told x.read y.first) in
      let same : Err f ≡ Ok given = history_one (world_of spec) shelf h (Err f) (Ok given) told (subst (λ w. YieldsHistory w shelf h (Err f)) world x.stops.1) y.second in cc

  -- they are one specification, and one given history
  pub loaded_one : (shelf : ShelfView) (s h : List ℕ) (a b : Spec) (given other : List (Option ℕ)) → shelf.tells ≡ true →
      IsLoaded shelf s h a given → IsLoaded shelf s h b other → (parts_of a ≡ parts_of b) × (given ≡ other)
  unfolding SameReading
  loaded_one shelf s h a b given other told x y =
      let specs : parts_of a ≡ parts_of b = spec_one shelf s (Ok a) (Ok b) told x.first y.first in
      let same : Ok given ≡ Ok other =
      history_one (world_of b) shelf h (Ok given) (Ok other) told (subst (λ w. YieldsHistory w shelf h (Ok given)) (same_world a b specs) x.second) y.second in
      (specs, let one : given ≡ other = cc in one)
