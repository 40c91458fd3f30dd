-- The line that is printed of a row names that row, and gives its cells what is given of them.
use Rattle.std.proofs.Common.{◌≡◌, ℕ, suc, ◌+◌, ◌<◌, ℤ, pos, negsuc, ◌+ℤ◌, ◌-ℤ◌, ◌≤ℤ◌, neg_ℤ, true, nat_le, List, [], ◌∷◌, length, map, Option, None, Some, slice_get, option_map, option_and_then, refl, sym, ap, ap₂, ◌∙◌, arith, is_none}
use Rattle.std.specs.Option.{unwrap_or}
use Rattle.std.specs.List.{list_all, position, position_from}
use Rattle.std.proofs.lemmas.Bool.{and_parts, and_from, cond-false, ltb-true, le-leb}
use Rattle.std.proofs.lemmas.Int.{ints}
use Rattle.std.proofs.lemmas.Iterator.Adapters.{position_from-zero}
use Rattle.std.proofs.lemmas.List.{length-map}
use Rattle.trio_base.specs.Names.{is_name}
use Rattle.trio_base.specs.declared.limits.TheConstants.{GREATEST_NUMBER}
use Rattle.trio_types.specs.declared.spec.DomainKind.{DomainKind}
use Rattle.trio_types.specs.declared.spec.DomainKind.TheVariants as kind
use Rattle.trio_types.specs.declared.spec.Domain.{Domain}
use Rattle.trio_types.specs.declared.spec.Item.{Item}
use Rattle.trio_types.specs.World.{World, at_least_zero, size_of}
use Rattle.trio_types.specs.Cells.{Row, the_cell, rows_of, cell_size}
use Rattle.trio_types.specs.Parts.{Parts, world_of_parts}
use Rattle.trio_types.proofs.Lists.{each_of, get_within}
use Rattle.trio_types.proofs.Domains.{count_of_values, index_of_integer, size_at}
use Rattle.trio_types.proofs.Specs.{Formed, RangeFits, range_fits, some_instant}
use Rattle.trio_types.proofs.CellNumbers.{cell_at, size_from_item}
use Rattle.trio_types.proofs.CellOrder.{stands_law}
use Rattle.history_table.specs.declared.line.Value.{Value}
use Rattle.history_table.specs.declared.line.Value.TheVariants as written
use Rattle.history_table.specs.declared.line.Line.{Line}
use Rattle.history_table.specs.Printed.{name_of_item}
use Rattle.history_table.specs.Texts.{value_domain}
use Rattle.history_table.specs.Fitting.{is_below}
use Rattle.history_table.specs.Rows.{index_in, index_in_domain, value_index, arg_indexes, item_named, row_of_item, named_row, index_for, entry_cell, is_outside, known_index}
use Rattle.trio_types.specs.Kinds.{args_of}
use Rattle.history_table.specs.History.{known_cells}
use Rattle.trio_canonical.proofs.KnownNames.{place_of_name, item_found, item_is_named, KnownWords, words_known}
use Rattle.trio_canonical.proofs.LinePieces.{is_writable, is_entry, Writable}
use Rattle.trio_canonical.proofs.Written.{written_integer, written_in, written_in_domain, written_value, written_args, written_entries, written_line}

-- ---- values

-- the value of this index can be printed, and is read as this index
record Returns (k : DomainKind) (v : ℕ) : Type 0 where
  index : index_in k (written_in k v) ≡ Some v
  writable : is_writable (written_in k v) ≡ true

bool_returns : (v : ℕ) → v < 2 → Returns kind.Bool v
bool_returns v less =
    let same : pos v ≡ pos 0 +ℤ pos v = omega (arith, ints) in
    record {
      index = index_of_integer (pos 0) 2 v (pos v) less same;
      writable = and_from (nat_le v GREATEST_NUMBER) true (le-leb v GREATEST_NUMBER (omega (arith, less))) refl;
    }

integer_index : (low high : ℤ) (v : ℕ) (z : ℤ) → v < at_least_zero ((high +ℤ pos 1) -ℤ low) → z ≡ low +ℤ pos v →
    index_in (kind.Range low high) (written_integer z) ≡ Some v
integer_index low high v (pos n) less is = index_of_integer low (at_least_zero ((high +ℤ pos 1) -ℤ low)) v (pos n) less is
integer_index low high v (negsuc n) less is =
    let back : neg_ℤ (pos (suc n)) ≡ low +ℤ pos v = omega (arith, ints, is) in
    index_of_integer low (at_least_zero ((high +ℤ pos 1) -ℤ low)) v (neg_ℤ (pos (suc n))) less back

integer_writable : (z : ℤ) → negsuc 999999 ≤ℤ z → z ≤ℤ pos 1000000 → is_writable (written_integer z) ≡ true
integer_writable (pos n) back on = and_from (nat_le n GREATEST_NUMBER) true (le-leb n GREATEST_NUMBER (omega (arith, ints, on))) refl
integer_writable (negsuc n) back on = and_from (nat_le (suc n) GREATEST_NUMBER) true (le-leb (suc n) GREATEST_NUMBER (omega (arith, ints, back))) refl

range_returns : (low high : ℤ) (v : ℕ) → RangeFits low high → v < at_least_zero ((high +ℤ pos 1) -ℤ low) → Returns (kind.Range low high) v
range_returns low high v fits less = record {
  index = integer_index low high v (low +ℤ pos v) less refl;
  writable = integer_writable (low +ℤ pos v) (omega (arith, ints, fits.not_far_back)) (omega (arith, ints, fits.not_far_on, fits.number, less));
}

words_return : (words : List (List ℕ)) (v : ℕ) → KnownWords words → v < length words → Returns (kind.Words words) v
words_return words v known less =
    let word = get_within words v less in
    record {
      index = ap (λ o. index_in (kind.Words words) (written.Word (unwrap_or o []))) word.1 ∙ place_of_name words known.distinct v word.0 word.1;
      writable = ap (λ o. is_writable (written.Word (unwrap_or o []))) word.1 ∙ and_from (is_name word.0) true (each_of is_name words known.names v word.0 word.1) refl;
    }

domain_returns : (p : Parts) → Formed p → (d : ℕ) (domain : Domain) → slice_get p.domains d ≡ Some domain → (v : ℕ) → v < count_of_values domain.kind →
    Returns domain.kind v
domain_returns p f d domain at v less = go domain.kind refl less
  where
    go : (k : DomainKind) → domain.kind ≡ k → v < count_of_values k → Returns k v
    go kind.Bool is less = bool_returns v less
    go (kind.Range low high) is less = range_returns low high v (range_fits p f d domain at low high is) less
    go (kind.Words words) is less = words_return words v (words_known p f d domain at words is) less

record ValueReturns (w : World) (d v : ℕ) : Type 0 where
  index : value_index w d (written_value w d v) ≡ Some v
  writable : is_writable (written_value w d v) ≡ true

value_returns : (p : Parts) → Formed p → (d v : ℕ) → v < size_of p.domains d → ValueReturns (world_of_parts p) d v
value_returns p f d v less = go (slice_get p.domains d) refl
  where
    none : slice_get p.domains d ≡ None → size_of p.domains d ≡ 0
    none at = rw at refl

    go : (o : Option Domain) → slice_get p.domains d ≡ o → ValueReturns (world_of_parts p) d v
    go None at = absurd (omega (arith, none at, less))
    go (Some domain) at =
        let r = domain_returns p f d domain at v (omega (arith, size_at p.domains d domain at, less)) in
        record {
          index = ap (λ o. index_in_domain o (written_in_domain o v)) at ∙ r.index;
          writable = ap (λ o. is_writable (written_in_domain o v)) at ∙ r.writable;
        }

-- ---- arguments

record ArgsReturn (w : World) (ds vs : List ℕ) : Type 0 where
  indexes : arg_indexes w ds (written_args w ds vs) ≡ Some vs
  writable : list_all is_writable (written_args w ds vs) ≡ true

args_return : (p : Parts) → Formed p → (ds vs : List ℕ) → length vs ≡ length ds →
    ((k d v : ℕ) → slice_get ds k ≡ Some d → slice_get vs k ≡ Some v → v < size_of p.domains d) → ArgsReturn (world_of_parts p) ds vs
args_return p f [] [] same each = record { indexes = refl; writable = refl }
args_return p f [] (v ∷ vs) same each = absurd (omega (arith, same))
args_return p f (d ∷ ds) [] same each = absurd (omega (arith, same))
args_return p f (d ∷ ds) (v ∷ vs) same each =
    let here = value_returns p f d v (each 0 d v refl refl) in
    let more = args_return p f ds vs (omega (arith, same)) (λ k. each (suc k)) in
    record {
      indexes = ap₂ (λ o is. option_and_then (λ i. option_map (λ js. i ∷ js) is) o) here.index more.indexes;
      writable = and_from (is_writable (written_value (world_of_parts p) d v)) (list_all is_writable (written_args (world_of_parts p) ds vs)) here.writable more.writable;
    }

-- ---- entries

record EntryReturns (w : World) (i d : ℕ) (e : Option ℕ) : Type 0 where
  cell : entry_cell w i (option_map (written_value w d) e) ≡ Some e
  writable : is_entry (option_map (written_value w d) e) ≡ true

entry_returns : (p : Parts) → Formed p → (i : ℕ) (item : Item) → slice_get p.items i ≡ Some item → (e : Option ℕ) → is_below e (size_of p.domains item.value) ≡ true →
    EntryReturns (world_of_parts p) i item.value e
entry_returns p f i item at None below = record { cell = refl; writable = refl }
entry_returns p f i item at (Some v) below =
    let r = value_returns p f item.value v (ltb-true v (size_of p.domains item.value) below) in
    record {
      cell =
          ap (λ o. option_map Some (index_for (world_of_parts p) o (written_value (world_of_parts p) item.value v))) at ∙ ap (option_map Some) r.index;
      writable = r.writable;
    }

record EntriesReturn (w : World) (i d : ℕ) (es : List (Option ℕ)) : Type 0 where
  known : map (known_index w i) (written_entries w d es) ≡ es
  inside : (n : ℕ) → position_from (is_outside w i) n (written_entries w d es) ≡ None
  writable : list_all is_entry (written_entries w d es) ≡ true

entries_return : (p : Parts) → Formed p → (i : ℕ) (item : Item) → slice_get p.items i ≡ Some item → (es : List (Option ℕ)) →
    list_all (λ e. is_below e (size_of p.domains item.value)) es ≡ true → EntriesReturn (world_of_parts p) i item.value es
entries_return p f i item at [] below = record { known = refl; inside = λ n. refl; writable = refl }
entries_return p f i item at (e ∷ es) below =
    let w : World = world_of_parts p in
    let both = and_parts (is_below e (size_of p.domains item.value)) (list_all (λ e. is_below e (size_of p.domains item.value)) es) below in
    let here = entry_returns p f i item at e both.0 in
    let more = entries_return p f i item at es both.1 in
    let entry : Option Value = option_map (written_value w item.value) e in
    let entries : List (Option Value) = written_entries w item.value es in
    record {
      known = ap₂ (λ x xs. x ∷ xs) (ap (option_and_then (λ index. index)) here.cell) more.known;
      inside = λ n.
          cond-false (is_outside w i entry) (Some n) (position_from (is_outside w i) (n + 1) entries) (ap is_none here.cell) ∙ more.inside (n + 1);
      writable = and_from (is_entry entry) (list_all is_entry entries) here.writable more.writable;
    }

-- ---- rows

-- the line is one of this row, without fault, and gives its cells this
pub record RowLine (w : World) (row : Row) (es : List (Option ℕ)) (line : Line) : Type 0 where
  pub named : named_row w line ≡ Some row
  pub sized : length line.entries ≡ w.instants
  pub inside : position (is_outside w row.item) line.entries ≡ None
  pub cells : known_cells w row.item (Some line) ≡ es
  pub writable : Writable line

row_line_of : (p : Parts) → Formed p → (row : Row) (item : Item) → slice_get p.items row.item ≡ Some item → length row.args ≡ length item.args →
    ((k d v : ℕ) → slice_get item.args k ≡ Some d → slice_get row.args k ≡ Some v → v < size_of p.domains d) →
    (es : List (Option ℕ)) → length es ≡ p.instants → list_all (λ e. is_below e (size_of p.domains item.value)) es ≡ true →
    RowLine (world_of_parts p) row es (written_line (world_of_parts p) row es)
row_line_of p f row item at same each es sized below =
    let w : World = world_of_parts p in
    let args = args_return p f item.args row.args same each in
    let entries = entries_return p f row.item item at es below in
    let name : name_of_item (slice_get p.items row.item) ≡ item.name = ap name_of_item at in
    let line : Line = written_line w row es in
    record {
      named =
          ap (option_and_then (row_of_item w line)) (ap (item_named w) name ∙ item_found p f row.item item at)
          ∙ ap (option_map (λ vs. record { item = row.item; args = vs })) (ap (λ o. arg_indexes w (args_of o) (written_args w (args_of o) row.args)) at ∙ args.indexes);
      sized = length-map es (option_map (written_value w (value_domain (slice_get p.items row.item)))) ∙ sized;
      inside =
          position_from-zero (is_outside w row.item) line.entries
          ∙ ap (λ o. position_from (is_outside w row.item) 0 (written_entries w (value_domain o) es)) at ∙ entries.inside 0;
      cells = ap (λ o. map (known_index w row.item) (written_entries w (value_domain o) es)) at ∙ entries.known;
      writable = record {
        name = ap is_name name ∙ item_is_named p f row.item item at;
        args = ap (λ o. list_all is_writable (written_args w (args_of o) row.args)) at ∙ args.writable;
        entries = ap (λ o. list_all is_entry (written_entries w (value_domain o) es)) at ∙ entries.writable;
      };
    }

-- the line that is printed of a row
pub row_line : (p : Parts) → Formed p → (n : ℕ) (row : Row) → slice_get (rows_of (world_of_parts p)) n ≡ Some row → (es : List (Option ℕ)) → length es ≡ p.instants →
    list_all (λ e. is_below e (cell_size (world_of_parts p) (the_cell row.item row.args 0))) es ≡ true →
    RowLine (world_of_parts p) row es (written_line (world_of_parts p) row es)
row_line p f n row at es sized below =
    let w : World = world_of_parts p in
    let cell = the_cell row.item row.args 0 in
    let stands = (stands_law w cell).0 (_, cell_at w n row 0 at (some_instant p f)) in
    let size : cell_size w cell ≡ size_of p.domains stands.0.value = size_from_item w cell stands.0 stands.1 in
    row_line_of p f row stands.0 stands.1 stands.2.as_many stands.2.each es sized (ap (λ s. list_all (λ e. is_below e s) es) (sym size) ∙ below)
