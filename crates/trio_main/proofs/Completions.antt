-- The completions are the models of any problem of the specification and the given history, and so the tables that the law says.
use Rattle.std.proofs.Common.{◌≡◌, ◌↔◌, ℕ, true, ◌&&◌, [], List, Option, Some, length, slice_get, refl, ap, ◌∙◌, sym, subst, Contains}
use Rattle.std.specs.Cmp.Lexicographic.{slice_cmp}
use Rattle.std.specs.List.Sorted.{IsStrictlySortedBy}
use Rattle.std.specs.Ordering.{nat_cmp}
use Rattle.std.proofs.lemmas.Bool.{and_from}
use Rattle.std.specs.Prelude.{filter}
use Rattle.std.specs.List.{list_all, flat_map, enumerate_from}
use Rattle.std.proofs.lemmas.Option.{slice_get_within, get_or_from_slice_get}
use Rattle.trio_types.specs.declared.spec.Spec.{Spec}
use Rattle.trio_types.specs.Cells.{cells_of}
use Rattle.trio_types.specs.Parts.{Parts, world_of_parts}
use Rattle.trio_types.specs.Truth.{truth}
use Rattle.trio_types.specs.Verdict.{Demand, parts_of, world_of, demands_of, demands_of_axiom}
use Rattle.history_table.specs.Fitting.{extends}
use Rattle.history_table.specs.Texts.{list_text}
use Rattle.trio_types.specs.Parts.{declarations_of}
use Rattle.trio_types.specs.WellFormed.{is_well_formed}
use Rattle.trio_types.proofs.Declared.{declarations_formed}
use Rattle.trio_core.specs.declared.nodes.Core.{Core}
use Rattle.trio_core.specs.CoreShape.{is_core}
use Rattle.branch_state.specs.Posed.{Posed, posed}
use Rattle.branch_state.specs.Models.{models}
use Rattle.trio_types.specs.Tables.{all_tables}
use Rattle.branch_state.proofs.Modeled.{models_are, models_law, models_sorted}
use Rattle.trio_main.specs.Complete.{completions, completions_text}
use Rattle.trio_main.specs.Laws.{IsTrueExtension}

pub completions_are : (p : Posed) → completions p.spec p.given ≡ models p
unfolding completions models
completions_are p = refl

-- a core of the specification without nodes
bare_is : (spec : Spec) →
    is_core (record { instants = spec.instants; domains = spec.domains; items = spec.items; nodes = []; roots = [] }) ≡ true
unfolding is_core
bare_is spec = and_from (is_well_formed (declarations_of (world_of spec))) true (declarations_formed spec) refl

bare : Spec → Core
bare spec =
    record { instants = spec.instants; domains = spec.domains; items = spec.items; nodes = []; roots = []; shaped = bare_is spec }

-- the problem of that core has these completions as its models
alone : Spec → List (Option ℕ) → Posed
alone spec given = posed spec (bare spec) given

completions_alone : (spec : Spec) (given : List (Option ℕ)) → completions spec given ≡ models (alone spec given)
unfolding alone
completions_alone spec given = completions_are (posed spec (bare spec) given)

-- they are the tables that extend the given history and make the specification true
pub completions_law : (spec : Spec) (given : List (Option ℕ)) (table : List ℕ) →
    Contains (completions spec given) table ↔ IsTrueExtension spec given table
unfolding alone
completions_law spec given table = (
  λ has.
      let is = (models_law (alone spec given) table).0 (subst (λ ts. Contains ts table) (completions_alone spec given) has) in
      record { is_table = is.is_table; extends_given = is.extends_given; is_true = is.is_true },
  λ is.
      subst (λ ts. Contains ts table) (sym (completions_alone spec given))
      ((models_law (alone spec given) table).1 (record { is_table = is.is_table; extends_given = is.extends_given; is_true = is.is_true })),
)

-- in order
pub completions_sorted : (spec : Spec) (given : List (Option ℕ)) → IsStrictlySortedBy (slice_cmp nat_cmp) (completions spec given)
completions_sorted spec given =
    subst (IsStrictlySortedBy (slice_cmp nat_cmp)) (sym (completions_alone spec given)) (models_sorted (alone spec given))

-- each model has a value for each cell
pub models_fit : (p : Posed) (spec : Spec) (tables : List (List ℕ)) → p.spec ≡ spec → tables ≡ models p → (k : ℕ) (table : List ℕ) →
    slice_get tables k ≡ Some table → length table ≡ length (cells_of (world_of spec))
models_fit p spec tables same is k table at =
    let there : slice_get (models p) k ≡ Some table = ap (λ ts. slice_get ts k) (sym is) ∙ at in
    let fits = models_are p k table (slice_get_within (models p) k table there) in
    subst (λ s. length table ≡ length (cells_of (world_of s))) same
    (subst (λ t. length t ≡ length (cells_of (world_of p.spec))) (get_or_from_slice_get (models p) k table table there) fits.is_table.whole)

-- the list rests on the parts of the specification
text_by_parts : Parts → List (Option ℕ) → List ℕ
text_by_parts parts given =
    list_text (world_of_parts parts) (filter
    (λ table. extends given table && list_all (λ (demand : Demand). truth (world_of_parts parts) demand.axiom_.formula [] table demand.instant)
    (flat_map (λ p. demands_of_axiom (world_of_parts parts) p.0 p.1) (enumerate_from 0 parts.axioms))) (all_tables (world_of_parts parts)))

text_is_by_parts : (spec : Spec) (given : List (Option ℕ)) → completions_text spec given ≡ text_by_parts (parts_of spec) given
unfolding text_by_parts completions demands_of
text_is_by_parts spec given = refl

pub same_text : (a b : Spec) (given other : List (Option ℕ)) → parts_of a ≡ parts_of b → given ≡ other →
    completions_text a given ≡ completions_text b other
same_text a b given other parts same =
    text_is_by_parts a given ∙ ap (λ p. text_by_parts p given) parts ∙ ap (text_by_parts (parts_of b)) same ∙ sym (text_is_by_parts b other)
