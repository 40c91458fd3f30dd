-- What a branch represents, from what it keeps of each model.
use Rattle.std.proofs.Common.{◌≡◌, ℕ, ◌+◌, true, false, List, [], ◌∷◌, ◌++◌, sym, ◌∙◌}
use Rattle.std.specs.Cmp.Lexicographic.{slice_cmp}
use Rattle.std.specs.Ordering.{nat_cmp}
use Rattle.std.proofs.lemmas.List.Elements.{All-weaker}
use Rattle.trio_core.specs.Sets.{LiesIn}
use Rattle.trio_core.specs.Stands.{world_of_core}
use Rattle.trio_core.proofs.Standing.{same_world}
use Rattle.trio_lists.specs.Multisets.{Permutes}
use Rattle.trio_lists.proofs.Filters.{one_if, filter_split, filter_same, filter_none}
use Rattle.trio_lists.proofs.Unique.{filter_one, lexical}
use Rattle.branch_state.specs.declared.branch.Branch.{Branch}
use Rattle.branch_state.specs.Posed.{Posed, IsPosed, world_of_problem}
use Rattle.branch_state.specs.Models.{models, IsModel}
use Rattle.branch_state.specs.Branches.{lies_in, keeps, reps, Fits}
use Rattle.branch_state.proofs.Modeled.{models_law, models_are, models_sorted}

-- each model is kept by one of two branches where the first keeps it, and else by none
pub reps_split : (p : Posed) (b left right : Branch) → ((table : List ℕ) → IsModel p table → one_if (keeps p b table) ≡ one_if (keeps p left table) + one_if (keeps p right table)) →
    Permutes (reps p b) (reps p left ++ reps p right)
unfolding reps
reps_split p b left right adds =
    filter_split (keeps p b) (keeps p left) (keeps p right) (models p)
    (All-weaker (IsModel p) (λ table. one_if (keeps p b table) ≡ one_if (keeps p left table) + one_if (keeps p right table)) adds (models p) (models_are p))

-- two branches keep the same models
pub reps_same : (p : Posed) (b c : Branch) → ((table : List ℕ) → IsModel p table → keeps p b table ≡ keeps p c table) → reps p b ≡ reps p c
unfolding reps
reps_same p b c agree =
    filter_same (keeps p b) (keeps p c) (models p) (All-weaker (IsModel p) (λ table. keeps p b table ≡ keeps p c table) agree (models p) (models_are p))

-- a branch keeps no model
pub reps_none : (p : Posed) (b : Branch) → ((table : List ℕ) → IsModel p table → keeps p b table ≡ false) → reps p b ≡ []
unfolding reps
reps_none p b fail = filter_none (keeps p b) (models p) (All-weaker (IsModel p) (λ table. keeps p b table ≡ false) fail (models p) (models_are p))

-- a branch keeps one model alone
pub reps_one : (p : Posed) (b : Branch) (table : List ℕ) → IsModel p table → keeps p b table ≡ true →
    ((other : List ℕ) → IsModel p other → keeps p b other ≡ true → other ≡ table) → reps p b ≡ table ∷ []
unfolding reps
reps_one p b table is kept alone =
    filter_one (slice_cmp nat_cmp) lexical (keeps p b) (models p) table (models_sorted p) ((models_law p table).1 is) kept
    (All-weaker (IsModel p) (λ other. keeps p b other ≡ true → other ≡ table) alone (models p) (models_are p))

-- a model that lies in the sets of a branch that fits, as three-valued truth speaks of it
pub lies_in_core : (p : Posed) → IsPosed p → (b : Branch) → Fits p b → (table : List ℕ) → IsModel p table → lies_in b.doms table ≡ true → LiesIn (world_of_core p.core) b.doms table
lies_in_core p posed b fits table is lies =
    let in_spec : LiesIn (world_of_problem p) b.doms table =
    record { is_table = is.is_table; as_many = fits.sets.are_sets.whole ∙ sym is.is_table.whole; inside = lies } in
    rw (same_world p.core p.spec posed.stands) in_spec
