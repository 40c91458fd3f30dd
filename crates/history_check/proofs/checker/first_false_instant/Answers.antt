-- The answers to the goals of `first_false_instant`.
use Rattle.std.proofs.Common.{◌≡◌, ℕ, ◌-◌, not, [], find, Option, None, Some, refl, sym, ap, ◌∙◌, arith, rules, tests}
use Rattle.std.specs.Option.{option_map}
use Rattle.std.proofs.lemmas.Iterator.{YieldsList-from_range}
use Rattle.std.proofs.lemmas.Iterator.Search.{find_from_yields_List}
use Rattle.trio_types.specs.World.{instants_of}
use Rattle.trio_types.specs.Truth.{truth}
use Rattle.trio_types.specs.Verdict.{world_of, instants_asked}
use Rattle.history_check.proofs.checker.first_false_instant.Goals as goal

map-id : (o : Option ℕ) → option_map (λ x. x) o ≡ o
map-id None = refl
map-id (Some x) = refl

pub returns-in-None : goal.returns-in-None
unfolding instants_of
returns-in-None c =
    let w = world_of c.args.spec.now in
    let n = c.args.spec.now.instants in
    let p = λ (i : ℕ). not (truth w c.args.axiom.now.formula [] c.args.table.now i) in
    let whole : n - 0 ≡ n = omega arith in
    sym (map-id c.find.result)
    ∙ find_from_yields_List p _ _ c.find.result c.find.ensures.ran (YieldsList-from_range 0 n n refl whole) (λ x b q k. search (rules, tests))
    ∙ ap (λ at. find p (instants_asked w at)) (sym c.in-None.is)
