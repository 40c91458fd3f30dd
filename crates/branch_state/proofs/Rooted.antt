-- The root: it fits, and represents the models.
use Rattle.std.proofs.Common.{◌≡◌, ℕ, ◌<◌, true, ◌&&◌, List, [], ◌∷◌, get_or, All, Option, None, Some, refl, ◌∙◌}
use Rattle.std.proofs.Math.Path.{ap₂}
use Rattle.std.specs.List.{list_all, flat_map}
use Rattle.std.proofs.lemmas.Bool.{and_from}
use Rattle.std.proofs.lemmas.List.Elements.{All-nil, All-cons, All-weaker, All-map}
use Rattle.std.proofs.lemmas.List.Folds.{list_all-map, list_all-append}
use Rattle.trio_types.specs.World.{instants_of}
use Rattle.trio_types.specs.Verdict.{instants_asked}
use Rattle.trio_core.specs.declared.nodes.Root.{Root}
use Rattle.trio_core.specs.declared.nodes.Core.{Core}
use Rattle.trio_core.specs.CoreShape.{root_fits}
use Rattle.trio_core.specs.Stands.{world_of_core, root_truth, is_core_true_in, NodeAsked}
use Rattle.trio_core.proofs.NodesFit.{root_is_fit, root_asked, root_instant}
use Rattle.std.proofs.lemmas.Option.{slice_get-get_or}
use Rattle.trio_core.proofs.Standing.{stands_law}
use Rattle.trio_lists.proofs.Filters.{filter_every}
use Rattle.branch_state.specs.declared.branch.Want.{Want}
use Rattle.branch_state.specs.Posed.{Posed, IsPosed}
use Rattle.branch_state.specs.Models.{models, IsModel}
use Rattle.branch_state.specs.Branches.{lies_in, want_holds, keeps, reps, root_sets, root_want, wants_of_root, root_wants, root_branch, WantFits, Fits}
use Rattle.branch_state.proofs.Contained.{all_range, all_flat}
use Rattle.branch_state.proofs.Modeled.{models_are}
use Rattle.branch_state.proofs.SetsFit.{root_sets_fit, lies_in_root}

-- a root asks inside time
asked_inside : (core : Core) (root : Root) → root_fits (world_of_core core) core.nodes root ≡ true → All (λ i. i < core.instants) (instants_asked (world_of_core core) root.at)
unfolding instants_of
asked_inside core root fits = at_instants root.at refl
  where
    at_instants : (at : Option ℕ) → root.at ≡ at → All (λ i. i < core.instants) (instants_asked (world_of_core core) at)
    at_instants None is = all_range core.instants
    at_instants (Some k) is = All-cons (λ i. i < core.instants) k [] (root_instant core root k fits is) (All-nil (λ i. i < core.instants))

root_wants_fit : (core : Core) (root : Root) → root_fits (world_of_core core) core.nodes root ≡ true →
    All (λ (w : Want). NodeAsked core w.node w.from w.now w.env) (wants_of_root (world_of_core core) root)
root_wants_fit core root fits =
    All-map (λ (w : Want). NodeAsked core w.node w.from w.now w.env) (root_want root) (instants_asked (world_of_core core) root.at)
    (All-weaker (λ i. i < core.instants) (λ i. NodeAsked core root.node 0 i []) (λ i inside. root_asked core root i fits inside)
    (instants_asked (world_of_core core) root.at) (asked_inside core root fits))

all_wants_fit : (core : Core) → All (λ (root : Root). All (λ (w : Want). NodeAsked core w.node w.from w.now w.env) (wants_of_root (world_of_core core) root)) core.roots
all_wants_fit core = λ k d inside. root_wants_fit core (get_or core.roots k d) (root_is_fit core k (get_or core.roots k d) (slice_get-get_or core.roots k d inside))

pub root_fits_problem : (p : Posed) → IsPosed p → Fits p (root_branch p)
unfolding root_wants
root_fits_problem p posed = record {
  sets = root_sets_fit p posed;
  wants = all_flat (WantFits p) (wants_of_root (world_of_core p.core)) p.core.roots (all_wants_fit p.core);
}

-- the wants of the root hold exactly where the core is true
wants_of_roots : (p : Posed) (table : List ℕ) (roots : List Root) →
    list_all (want_holds p table) (flat_map (wants_of_root (world_of_core p.core)) roots) ≡ list_all (root_truth p.core table) roots
unfolding want_holds
wants_of_roots p table [] = refl
wants_of_roots p table (r ∷ rs) =
    let w = world_of_core p.core in
    list_all-append (want_holds p table) (wants_of_root w r) (flat_map (wants_of_root w) rs)
    ∙ ap₂ ◌&&◌ (list_all-map (want_holds p table) (root_want r) (instants_asked w r.at)) (wants_of_roots p table rs)

root_wants_hold : (p : Posed) (table : List ℕ) → list_all (want_holds p table) (root_wants p) ≡ is_core_true_in p.core table
unfolding root_wants
root_wants_hold p table = wants_of_roots p table p.core.roots

root_keeps : (p : Posed) → IsPosed p → (table : List ℕ) → IsModel p table → keeps p (root_branch p) table ≡ true
root_keeps p posed table is =
    and_from (lies_in (root_sets p) table) (list_all (want_holds p table) (root_wants p))
    (lies_in_root p table is.is_table.within is.extends_given)
    (root_wants_hold p table ∙ stands_law p.core p.spec posed.stands table ∙ is.is_true)

pub root_represents : (p : Posed) → IsPosed p → reps p (root_branch p) ≡ models p
unfolding reps
root_represents p posed =
    filter_every (keeps p (root_branch p)) (models p)
    (All-weaker (IsModel p) (λ table. keeps p (root_branch p) table ≡ true) (λ table is. root_keeps p posed table is) (models p) (models_are p))
