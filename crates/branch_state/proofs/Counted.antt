-- The count of a node by those of its parts.
use Rattle.std.proofs.Common.{◌≡◌, ℕ, ◌+◌, ◌-◌, ◌*◌, ◌<◌, ◌≤◌, List, take, length, Option, None, Some, slice_get, sym, ap, ◌∙◌, arith}
use Rattle.std.proofs.Math.Path.{ap₂}
use Rattle.std.proofs.lemmas.Option.{slice_get_within}
use Rattle.trio_types.specs.declared.formula.Term.{Term}
use Rattle.trio_types.proofs.Lists.{get_within}
use Rattle.trio_core.specs.declared.nodes.Node.{Node}
use Rattle.trio_core.specs.declared.nodes.Node.TheVariants as node
use Rattle.trio_core.specs.Core.{numbers}
use Rattle.trio_core.proofs.Flat.{row_at, row_before}
use Rattle.branch_state.specs.Weight.{part_count, node_count, node_counts, count_of_option, core_count}

count_at : (nodes : List Node) (a from : ℕ) (n : Node) → slice_get nodes a ≡ Some n → core_count nodes a from ≡ node_count (node_counts (take a nodes)) from n
unfolding core_count
count_at nodes a from n at = ap (count_of_option (node_counts (take a nodes)) from) at

count_before : (nodes : List Node) (part a : ℕ) → part < a → a < length nodes → part_count (node_counts (take a nodes)) part ≡ core_count nodes part 0
count_before nodes part a less inside =
    let n = get_within nodes part (omega (arith, less, inside)) in
    row_before (λ counts m. node_count counts 0 m) 1 nodes part a less inside
    ∙ row_at (λ counts m. node_count counts 0 m) 1 nodes part n.0 n.1
    ∙ sym (count_at nodes part 0 n.0 n.1)

pub count-Not : (nodes : List Node) (a from b : ℕ) → slice_get nodes a ≡ Some (node.Not b) → b < a → core_count nodes a from ≡ core_count nodes b 0 + 1
count-Not nodes a from b at less =
    count_at nodes a from (node.Not b) at ∙ ap (λ n. n + 1) (count_before nodes b a less (slice_get_within nodes a (node.Not b) at))

pub count-And : (nodes : List Node) (a from b c : ℕ) → slice_get nodes a ≡ Some (node.And b c) → b < a → c < a →
    core_count nodes a from ≡ core_count nodes b 0 + core_count nodes c 0 + 1
count-And nodes a from b c at first second =
    let inside = slice_get_within nodes a (node.And b c) at in
    count_at nodes a from (node.And b c) at ∙ ap₂ (λ n m. n + m + 1) (count_before nodes b a first inside) (count_before nodes c a second inside)

pub count-Or : (nodes : List Node) (a from b c : ℕ) → slice_get nodes a ≡ Some (node.Or b c) → b < a → c < a →
    core_count nodes a from ≡ core_count nodes b 0 + core_count nodes c 0 + 1
count-Or nodes a from b c at first second =
    let inside = slice_get_within nodes a (node.Or b c) at in
    count_at nodes a from (node.Or b c) at ∙ ap₂ (λ n m. n + m + 1) (count_before nodes b a first inside) (count_before nodes c a second inside)

pub count-Exists : (nodes : List Node) (a from b : ℕ) (low high : _) → slice_get nodes a ≡ Some (node.Exists low high b) → b < a →
    core_count nodes a from ≡ (length (numbers low high) - from) * (core_count nodes b 0 + 1) + 1
count-Exists nodes a from b low high at less =
    count_at nodes a from (node.Exists low high b) at
    ∙ ap (λ n. (length (numbers low high) - from) * (n + 1) + 1) (count_before nodes b a less (slice_get_within nodes a (node.Exists low high b) at))

pub count-Dist : (nodes : List Node) (a from b : ℕ) (x : Term) → slice_get nodes a ≡ Some (node.Dist b x) → b < a → core_count nodes a from ≡ core_count nodes b 0 + 1
count-Dist nodes a from b x at less =
    count_at nodes a from (node.Dist b x) at ∙ ap (λ n. n + 1) (count_before nodes b a less (slice_get_within nodes a (node.Dist b x) at))

-- every node counts
pub count_some : (nodes : List Node) (a from : ℕ) → 1 ≤ core_count nodes a from
unfolding core_count
count_some nodes a from = of_option (slice_get nodes a)
  where
    of_option : (o : Option Node) → 1 ≤ count_of_option (node_counts (take a nodes)) from o
    of_option None = omega arith
    of_option (Some (node.Atom r x y)) = omega arith
    of_option (Some (node.Not b)) = omega arith
    of_option (Some (node.And b c)) = omega arith
    of_option (Some (node.Or b c)) = omega arith
    of_option (Some (node.Exists low high b)) = omega arith
    of_option (Some (node.Dist b x)) = omega arith
