-- The truth of a node by that of its parts, in a table.
use Rattle.std.proofs.Common.{◌≡◌, ℕ, ◌+◌, ◌<◌, ℤ, Bool, not, ◌&&◌, ◌||◌, List, [], ◌∷◌, ◌++◌, drop, take, Some, slice_get, sym, ap, ◌∙◌}
use Rattle.std.specs.List.{list_any}
use Rattle.std.proofs.lemmas.List.{drop_more}
use Rattle.std.proofs.lemmas.Option.{slice_get_within, get_or_from_slice_get}
use Rattle.trio_types.specs.declared.formula.Term.{Term}
use Rattle.trio_types.specs.World.{World}
use Rattle.trio_types.specs.Values.{value}
use Rattle.trio_types.specs.Truth.{at_distance}
use Rattle.trio_core.specs.declared.nodes.Node.{Node}
use Rattle.trio_core.specs.declared.nodes.Node.TheVariants as node
use Rattle.trio_core.specs.Core.{numbers, part_truth, truths_from, core_truth_from}
use Rattle.trio_core.proofs.Flat.{core_truth_at, part_truth_at}

pub truth_not : (w : World) (nodes : List Node) (a from p : ℕ) (e : List ℤ) (t : List ℕ) (i : ℕ) → slice_get nodes a ≡ Some (node.Not p) → p < a →
    core_truth_from w nodes a from e t i ≡ not (core_truth_from w nodes p 0 e t i)
truth_not w nodes a from p e t i at before =
    ap (λ q. q e t i) (core_truth_at w nodes a from (node.Not p) at)
    ∙ ap (λ q. not (q e t i)) (part_truth_at w nodes p a before (slice_get_within nodes a (node.Not p) at))

pub truth_and : (w : World) (nodes : List Node) (a from p q : ℕ) (e : List ℤ) (t : List ℕ) (i : ℕ) → slice_get nodes a ≡ Some (node.And p q) → p < a → q < a →
    core_truth_from w nodes a from e t i ≡ (core_truth_from w nodes p 0 e t i && core_truth_from w nodes q 0 e t i)
truth_and w nodes a from p q e t i at first second =
    let inside = slice_get_within nodes a (node.And p q) at in
    ap (λ f. f e t i) (core_truth_at w nodes a from (node.And p q) at)
    ∙ ap (λ f. f e t i && part_truth (truths_from w [] (take a nodes)) q e t i) (part_truth_at w nodes p a first inside)
    ∙ ap (λ f. core_truth_from w nodes p 0 e t i && f e t i) (part_truth_at w nodes q a second inside)

pub truth_or : (w : World) (nodes : List Node) (a from p q : ℕ) (e : List ℤ) (t : List ℕ) (i : ℕ) → slice_get nodes a ≡ Some (node.Or p q) → p < a → q < a →
    core_truth_from w nodes a from e t i ≡ (core_truth_from w nodes p 0 e t i || core_truth_from w nodes q 0 e t i)
truth_or w nodes a from p q e t i at first second =
    let inside = slice_get_within nodes a (node.Or p q) at in
    ap (λ f. f e t i) (core_truth_at w nodes a from (node.Or p q) at)
    ∙ ap (λ f. f e t i || part_truth (truths_from w [] (take a nodes)) q e t i) (part_truth_at w nodes p a first inside)
    ∙ ap (λ f. core_truth_from w nodes p 0 e t i || f e t i) (part_truth_at w nodes q a second inside)

pub truth_exists : (w : World) (nodes : List Node) (a from : ℕ) (low high : ℤ) (p : ℕ) (e : List ℤ) (t : List ℕ) (i : ℕ) → slice_get nodes a ≡ Some (node.Exists low high p) → p < a →
    core_truth_from w nodes a from e t i ≡ list_any (λ z. core_truth_from w nodes p 0 (e ++ z ∷ []) t i) (drop from (numbers low high))
truth_exists w nodes a from low high p e t i at before =
    ap (λ f. f e t i) (core_truth_at w nodes a from (node.Exists low high p) at)
    ∙ ap (λ f. list_any (λ z. f (e ++ z ∷ []) t i) (drop from (numbers low high))) (part_truth_at w nodes p a before (slice_get_within nodes a (node.Exists low high p) at))

pub truth_dist : (w : World) (nodes : List Node) (a from p : ℕ) (x : Term) (e : List ℤ) (t : List ℕ) (i : ℕ) → slice_get nodes a ≡ Some (node.Dist p x) → p < a →
    core_truth_from w nodes a from e t i ≡ list_any (λ j. core_truth_from w nodes p 0 e t j) (at_distance w i (value w x e t i))
truth_dist w nodes a from p x e t i at before =
    ap (λ f. f e t i) (core_truth_at w nodes a from (node.Dist p x) at)
    ∙ ap (λ f. list_any (λ j. f e t j) (at_distance w i (value w x e t i))) (part_truth_at w nodes p a before (slice_get_within nodes a (node.Dist p x) at))

-- one value, and those behind it
pub any_next : {X : Type 0} (f : X → Bool) (xs : List X) (k : ℕ) (x : X) → slice_get xs k ≡ Some x → list_any f (drop k xs) ≡ (f x || list_any f (drop (k + 1) xs))
any_next f xs k x at =
    ap (list_any f) (drop_more xs k x (slice_get_within xs k x at)) ∙ ap (λ y. f y || list_any f (drop (k + 1) xs)) (get_or_from_slice_get xs k x x at)

-- an Exists from an index: its part for that value, or the Exists from the next index
pub truth_exists_next : (w : World) (nodes : List Node) (a from : ℕ) (low high : ℤ) (p : ℕ) (z : ℤ) (e : List ℤ) (t : List ℕ) (i : ℕ) → slice_get nodes a ≡ Some (node.Exists low high p) → p < a →
    slice_get (numbers low high) from ≡ Some z → core_truth_from w nodes a from e t i ≡ (core_truth_from w nodes p 0 (e ++ z ∷ []) t i || core_truth_from w nodes a (from + 1) e t i)
truth_exists_next w nodes a from low high p z e t i at before there =
    truth_exists w nodes a from low high p e t i at before
    ∙ any_next (λ z. core_truth_from w nodes p 0 (e ++ z ∷ []) t i) (numbers low high) from z there
    ∙ ap (λ b. core_truth_from w nodes p 0 (e ++ z ∷ []) t i || b) (sym (truth_exists w nodes a (from + 1) low high p e t i at before))
