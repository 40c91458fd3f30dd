-- The rows of a specification, by the cells at instant 0, and the indexes of written values.
use Rattle.std.proofs.Common.{◌≡◌, ℕ, ◌+◌, ◌*◌, ◌<◌, ℤ, pos, neg_ℤ, true, false, List, [], length, Option, None, Some, slice_get, refl, sym, ap, ◌∙◌, arith}
use Rattle.std.specs.Str.{bytes_eq}
use Rattle.std.specs.Ordering.{int_eq}
use Rattle.std.proofs.Math.Logic.{⊎_elim}
use Rattle.std.proofs.Math.Path.{ap₂}
use Rattle.std.proofs.lemmas.List.Quantifiers.{position-Some}
use Rattle.std.proofs.lemmas.Option.{slice_get_cases, slice_get_within, same_Some}
use Rattle.trio_types.specs.declared.spec.DomainKind.{DomainKind}
use Rattle.trio_types.specs.declared.spec.DomainKind.TheVariants as kind
use Rattle.trio_types.specs.declared.spec.Domain.{Domain}
use Rattle.trio_types.specs.declared.spec.Spec.{Spec}
use Rattle.trio_types.specs.declared.spec.Which.TheVariants as which
use Rattle.trio_types.specs.World.{World, values_of, values_in}
use Rattle.trio_types.specs.Values.{index_of}
use Rattle.trio_types.specs.Cells.{Row, Cell, the_cell, rows_of, cells_of}
use Rattle.trio_types.specs.Verdict.{parts_of, world_of}
use Rattle.trio_types.proofs.Specs.{formed, some_instant, within_limit}
use Rattle.trio_types.proofs.CellNumbers.{cell_at, small_size}
use Rattle.trio_types.proofs.Domains.{length-integers}
use Rattle.history_table.specs.declared.line.Value.{Value}
use Rattle.history_table.specs.declared.line.Value.TheVariants as written
use Rattle.history_table.specs.Rows.{index_in, index_in_domain, value_index}

pub there : {A : Type 0} (xs : List A) (k : ℕ) → k < length xs → (x : A) × (slice_get xs k ≡ Some x)
there xs k inside = ⊎_elim (λ is. (is.0, is.2)) (λ past. absurd (omega (arith, inside, past.0))) (slice_get_cases xs k).1

-- the first cell of a row
pub record FirstCell (spec : Spec) (k : ℕ) : Type 0 where
  pub row : Row
  pub stands : slice_get (rows_of (world_of spec)) k ≡ Some row
  pub cell : slice_get (cells_of (world_of spec)) (k * spec.instants) ≡ Some (the_cell row.item row.args 0)
  pub within : k * spec.instants < length (cells_of (world_of spec))
  pub few : k * spec.instants < 1024

pub first_cell : (spec : Spec) (k : ℕ) → k < length (rows_of (world_of spec)) → FirstCell spec k
first_cell spec k inside =
    let r = there (rows_of (world_of spec)) k inside in
    let cells = cells_of (world_of spec) in
    let plain : k * spec.instants + 0 ≡ k * spec.instants = omega arith in
    let cell = sym (ap (slice_get cells) plain) ∙ cell_at (world_of spec) k r.0 0 r.1 (some_instant (parts_of spec) (formed spec)) in
    let within = slice_get_within cells (k * spec.instants) (the_cell r.0.item r.0.args 0) cell in
    let few = within_limit (parts_of spec) (formed spec) which.Cells in
    record { row = r.0; stands = r.1; cell = cell; within = within; few = omega (arith, within, few) }

pub row_is : (spec : Spec) (k item : ℕ) (args : List ℕ) (instant : ℕ) → FirstCell spec k →
    slice_get (cells_of (world_of spec)) (k * spec.instants) ≡ Some (the_cell item args instant) →
    slice_get (rows_of (world_of spec)) k ≡ Some (record { item = item; args = args })
row_is spec k item args instant f is =
    let same : the_cell f.row.item f.row.args 0 ≡ the_cell item args instant = same_Some _ _ (sym f.cell ∙ is) in
    f.stands ∙ ap₂ (λ i vs. Some (record { item = i; args = vs })) (ap (λ (c : Cell). c.item) same) (ap (λ (c : Cell). c.args) same)

-- an index is below the number of values
number_within : (values : List ℤ) (z : ℤ) (k : ℕ) → index_of values z ≡ Some k → k < length values
unfolding index_of
number_within values z k is = (position-Some (int_eq z) values k (pos 0) is).0

index_within : (values : DomainKind) (v : Value) (k : ℕ) → index_in values v ≡ Some k → k < length (values_of values)
index_within kind.Bool (written.Number n) k is = number_within (values_of kind.Bool) (pos n) k is
index_within kind.Bool (written.Opposite n) k is = number_within (values_of kind.Bool) (neg_ℤ (pos n)) k is
index_within kind.Bool (written.Truth true) k is = let e = same_Some 1 k is in omega (arith, e, length-integers (pos 0) 2)
index_within kind.Bool (written.Truth false) k is = let e = same_Some 0 k is in omega (arith, e, length-integers (pos 0) 2)
index_within kind.Bool (written.Word name) k is = cc
index_within (kind.Range low high) (written.Number n) k is = number_within (values_of (kind.Range low high)) (pos n) k is
index_within (kind.Range low high) (written.Opposite n) k is = number_within (values_of (kind.Range low high)) (neg_ℤ (pos n)) k is
index_within (kind.Range low high) (written.Truth b) k is = cc
index_within (kind.Range low high) (written.Word name) k is = cc
index_within (kind.Words words) (written.Word name) k is =
    let within = (position-Some (λ word. bytes_eq word name) words k [] is).0 in omega (arith, within, length-integers (pos 0) (length words))
index_within (kind.Words words) (written.Number n) k is = cc
index_within (kind.Words words) (written.Opposite n) k is = cc
index_within (kind.Words words) (written.Truth b) k is = cc

pub value_index_within : (w : World) (d : ℕ) (v : Value) (k : ℕ) → value_index w d v ≡ Some k → k < length (values_in w.domains d)
value_index_within w d v k is = go (slice_get w.domains d) refl
  where
    go : (o : Option Domain) → slice_get w.domains d ≡ o → k < length (values_in w.domains d)
    go None at = let no : ◌≡◌ {A = Option ℕ} None (Some k) = sym (ap (λ o. index_in_domain o v) at) ∙ is in cc
    go (Some domain) at = rw at (index_within domain.kind v k (sym (ap (λ o. index_in_domain o v) at) ∙ is))

pub value_index_small : (spec : Spec) (d : ℕ) (v : Value) (k : ℕ) → d < length spec.domains → value_index (world_of spec) d v ≡ Some k → k < 65536
value_index_small spec d v k inside is =
    let within = value_index_within (world_of spec) d v k is in
    let few = small_size (parts_of spec) (formed spec) d inside in
    omega (arith, within, few)
