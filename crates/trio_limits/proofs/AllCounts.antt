-- The six counts of a specification's parts, from those of its items, axioms and goals.
use Rattle.std.proofs.Common.{◌≡◌, ℕ, ◌+◌, ◌≤◌, max, List, ◌++◌, map, length, sum_by, refl, sym, ap, ◌∙◌, arith}
use Rattle.trio_types.specs.declared.spec.Domain.{Domain}
use Rattle.trio_types.specs.declared.spec.Item.{Item}
use Rattle.trio_types.specs.declared.spec.Axiom.{Axiom}
use Rattle.trio_types.specs.World.{World}
use Rattle.trio_types.specs.Cells.{cells_of, cell_size}
use Rattle.trio_types.specs.Bounds.{greatest}
use Rattle.trio_types.specs.Nest.{nest_of, item_nest}
use Rattle.trio_types.specs.Parts.{Parts, world_of_parts, claims_of}
use Rattle.trio_limits.specs.declared.counts.ClaimCounts.{ClaimCounts}
use Rattle.trio_limits.specs.declared.totals.Totals.{Totals}
use Rattle.trio_limits.specs.Given.{given_count}
use Rattle.trio_limits.specs.Claims.{claims_counts}
use Rattle.trio_limits.specs.Totals.{totals_of}
use Rattle.trio_limits.proofs.Saturating.{given_small}
use Rattle.trio_limits.proofs.ClaimCounts.{both_bounds, both_plains, both_instances, greatest-append}

abbrev pub the_totals : ℕ → ℕ → ℕ → ℕ → ℕ → ℕ → Totals
the_totals i c s b j n = record { items = i; cells = c; sizes = s; bound = b; instances = j; nest = n }

same_totals : (i c s b j n i' c' s' b' j' n' : ℕ) → i ≡ i' → c ≡ c' → s ≡ s' → b ≡ b' → j ≡ j' → n ≡ n' →
    the_totals i c s b j n ≡ the_totals i' c' s' b' j' n'
same_totals i c s b j n i' c' s' b' j' n' e1 e2 e3 e4 e5 e6 = rw (e1, e2, e3, e4, e5, e6) refl

abbrev pub the_world : ℕ → List Domain → List Item → World
the_world n ds is = record { instants = n; domains = ds; items = is }

pub world_same : (n : ℕ) (ds ds' : List Domain) (is is' : List Item) → ds ≡ ds' → is ≡ is' →
    the_world n ds is ≡ the_world n ds' is'
world_same n ds ds' is is' first second = rw (first, second) refl

pub totals_are : (parts : Parts) (w : World) → w ≡ world_of_parts parts → (a g : ClaimCounts) → a ≡ claims_counts w parts.axioms → g ≡ claims_counts w parts.goals →
    (i c s b j m n k : ℕ) → i ≡ length parts.items → i ≤ 18446744073709551615 → c ≡ given_count (length (cells_of w)) →
    s ≡ given_count (sum_by (cell_size w) (cells_of w)) → b ≡ max a.bound g.bound → j ≡ given_count (a.instances + g.instances) →
    m ≡ max a.plain g.plain → n ≡ greatest (map item_nest parts.items) → n ≤ 18446744073709551615 → k ≡ max n m →
    the_totals i c s b j k ≡ totals_of parts
totals_are parts w world a g axioms goals i c s b j m n k items few cells sizes bound instances plain nest small most =
    let w' : World = world_of_parts parts in
    let first : a ≡ claims_counts w' parts.axioms = axioms ∙ ap (λ v. claims_counts v parts.axioms) world in
    let second : g ≡ claims_counts w' parts.goals = goals ∙ ap (λ v. claims_counts v parts.goals) world in
    let nests : greatest (map item_nest parts.items ++ map (λ (x : Axiom). (nest_of x.formula).plain) (claims_of parts))
    ≡ max (greatest (map item_nest parts.items)) (greatest (map (λ (x : Axiom). (nest_of x.formula).plain) (claims_of parts))) =
    greatest-append (map item_nest parts.items) (map (λ (x : Axiom). (nest_of x.formula).plain) (claims_of parts)) in
    same_totals i c s b j k _ _ _ _ _ _
    (sym (given_small i few) ∙ ap given_count items)
    (cells ∙ ap (λ v. given_count (length (cells_of v))) world)
    (sizes ∙ ap (λ v. given_count (sum_by (cell_size v) (cells_of v))) world)
    (omega (arith, bound, both_bounds w' parts.axioms parts.goals, ap (λ (x : ClaimCounts). x.bound) first, ap (λ (x : ClaimCounts). x.bound) second))
    (omega (arith, instances, both_instances w' parts.axioms parts.goals, ap (λ (x : ClaimCounts). x.instances) first, ap (λ (x : ClaimCounts). x.instances) second))
    (omega (arith, most, plain, nest, small, nests, both_plains w' parts.axioms parts.goals, ap (λ (x : ClaimCounts). x.plain) first, ap (λ (x : ClaimCounts). x.plain) second))
