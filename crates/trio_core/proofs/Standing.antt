-- A core that stands for a specification has its truth.
use Rattle.std.proofs.Common.{◌≡◌, ℕ, zero, suc, ◌+◌, ◌<◌, Bool, true, ◌&&◌, List, [], ◌∷◌, Option, None, Some, length, slice_get, refl, sym, ap, ◌∙◌, arith}
use Rattle.std.specs.List.{list_all, flat_map, enumerate_from}
use Rattle.std.proofs.lemmas.Bool.{ltb-true}
use Rattle.std.proofs.lemmas.List.Folds.{list_all-map, list_all-append}
use Rattle.std.proofs.lemmas.Option.{none-some, same_Some}
use Rattle.trio_types.specs.declared.spec.Axiom.{Axiom}
use Rattle.trio_types.specs.declared.spec.Spec.{Spec}
use Rattle.trio_types.specs.World.{World, instants_of}
use Rattle.trio_types.specs.Truth.{truth}
use Rattle.trio_types.specs.Verdict.{Demand, world_of, instants_asked, demands_of_axiom, demands_of}
use Rattle.trio_types.specs.WellFormed.{instant_fits}
use Rattle.trio_types.proofs.CellOrder.{at_range}
use Rattle.trio_types.proofs.Lists.{each_of, all_left}
use Rattle.trio_types.proofs.Specs.{formed}
use Rattle.trio_core.specs.declared.nodes.Node.{Node}
use Rattle.trio_core.specs.declared.nodes.Root.{Root}
use Rattle.trio_core.specs.declared.nodes.Core.{Core}
use Rattle.trio_core.specs.Core.{core_truth}
use Rattle.trio_core.specs.Stands.{world_of_core, RootStandsFor, StandsFor}
use Rattle.trio_core.specs.Laws.{CoreStandsLaw}

-- roots and axioms side by side
record StandInRow (w : World) (nodes : List Node) (roots : List Root) (claims : List Axiom) : Type 0 where
  as_many : length roots ≡ length claims
  each : (k : ℕ) (root : Root) (claim : Axiom) → slice_get roots k ≡ Some root → slice_get claims k ≡ Some claim → RootStandsFor w nodes root claim
  inside : (k : ℕ) (claim : Axiom) → slice_get claims k ≡ Some claim → instant_fits w.instants claim.at ≡ true

all_agree : (p q : ℕ → Bool) (xs : List ℕ) → ((k x : ℕ) → slice_get xs k ≡ Some x → p x ≡ q x) → list_all p xs ≡ list_all q xs
all_agree p q [] each = refl
all_agree p q (x ∷ xs) each = rw (each 0 x refl, all_agree p q xs (λ k y at. each (suc k) y at)) refl

asked_inside : (w : World) (at : Option ℕ) → instant_fits w.instants at ≡ true → (k i : ℕ) → slice_get (instants_asked w at) k ≡ Some i → i < w.instants
unfolding instants_of
asked_inside w None fits k i there = let r = at_range 0 w.instants k i there in omega (arith, r.0, r.1)
asked_inside w (Some m) fits zero i there = omega (arith, same_Some m i there, ltb-true m w.instants fits)
asked_inside w (Some m) fits (suc k) i there = absurd (none-some i there)

abbrev root_holds : World → List Node → List ℕ → Root → Bool
root_holds w nodes table root = list_all (λ i. core_truth w nodes root.node [] table i) (instants_asked w root.at)

abbrev axiom_holds : World → List ℕ → Demand → Bool
axiom_holds w table d = truth w d.axiom_.formula [] table d.instant

one_root : (w : World) (nodes : List Node) (table : List ℕ) (root : Root) (number : ℕ) (claim : Axiom) → RootStandsFor w nodes root claim → instant_fits w.instants claim.at ≡ true →
    root_holds w nodes table root ≡ list_all (axiom_holds w table) (demands_of_axiom w number claim)
one_root w nodes table root number claim stands fits =
    ap (λ at. list_all (λ i. core_truth w nodes root.node [] table i) (instants_asked w at)) stands.at
    ∙ all_agree (λ i. core_truth w nodes root.node [] table i) (λ i. truth w claim.formula [] table i) (instants_asked w claim.at)
    (λ k i there. stands.same table i (asked_inside w claim.at fits k i there))
    ∙ sym (list_all-map (axiom_holds w table) (λ i. record { number = number; axiom_ = claim; instant = i }) (instants_asked w claim.at))

in_row : (w : World) (nodes : List Node) (table : List ℕ) (number : ℕ) (roots : List Root) (claims : List Axiom) → StandInRow w nodes roots claims →
    list_all (root_holds w nodes table) roots ≡ list_all (axiom_holds w table) (flat_map (λ p. demands_of_axiom w p.0 p.1) (enumerate_from number claims))
in_row w nodes table number [] [] row = refl
in_row w nodes table number [] (c ∷ cs) row = absurd (omega (arith, row.as_many))
in_row w nodes table number (r ∷ rs) [] row = absurd (omega (arith, row.as_many))
in_row w nodes table number (r ∷ rs) (c ∷ cs) row =
    let rest : StandInRow w nodes rs cs = record {
      as_many = omega (arith, row.as_many);
      each = λ k root claim rt ct. row.each (suc k) root claim rt ct;
      inside = λ k claim ct. row.inside (suc k) claim ct;
    } in
    ap (λ b. b && list_all (root_holds w nodes table) rs) (one_root w nodes table r number c (row.each 0 r c refl refl) (row.inside 0 c refl))
    ∙ ap (λ b. list_all (axiom_holds w table) (demands_of_axiom w number c) && b) (in_row w nodes table (number + 1) rs cs rest)
    ∙ sym (list_all-append (axiom_holds w table) (demands_of_axiom w number c) (flat_map (λ p. demands_of_axiom w p.0 p.1) (enumerate_from (number + 1) cs)))

-- the same world
pub same_world : (core : Core) (spec : Spec) → StandsFor core spec → world_of_core core ≡ world_of spec
same_world core spec stands = made core.instants spec.instants core.domains spec.domains core.items spec.items stands.instants stands.domains stands.items
  where
    made : (n m : ℕ) (ds es : _) (is js : _) → n ≡ m → ds ≡ es → is ≡ js →
        ◌≡◌ {A = World} (record { instants = n; domains = ds; items = is }) (record { instants = m; domains = es; items = js })
    made n m ds es is js a b c = rw (a, b, c) refl

pub stands_law : CoreStandsLaw
unfolding demands_of
stands_law core spec stands table =
    let w = world_of_core core in
    let same = same_world core spec stands in
    let fits = all_left (λ (a : Axiom). instant_fits spec.instants a.at) spec.axioms spec.goals (formed spec).at in
    in_row w core.nodes table 0 core.roots spec.axioms (record {
      as_many = stands.as_many;
      each = stands.each;
      inside = λ k claim at. rw stands.instants (each_of (λ (a : Axiom). instant_fits spec.instants a.at) spec.axioms fits k claim at);
    })
    ∙ ap (λ (w : World). list_all (axiom_holds w table) (flat_map (λ p. demands_of_axiom w p.0 p.1) (enumerate_from 0 spec.axioms))) same
