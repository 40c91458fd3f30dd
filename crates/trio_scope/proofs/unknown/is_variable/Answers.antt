-- The answer to the goal of `is_variable`.
use Rattle.std.proofs.Common.{Bool, List, rules, sym, ◌∙◌}
use Rattle.std.specs.Str.{bytes_eq}
use Rattle.std.proofs.lemmas.Iterator.{YieldsList-from_slice}
use Rattle.std.proofs.lemmas.Iterator.Search.{any_from_yields_List}
use Rattle.trio_scope.specs.declared.walk.Binder.{Binder}
use Rattle.trio_scope.specs.Gather.{Variable}
use Rattle.trio_scope.proofs.Lists.{list_any-map}
use Rattle.trio_scope.proofs.unknown.is_variable.Goals as goal

pub returns : goal.returns
returns c =
    let xs : List Binder = c.args.around.now in
    let test : Binder → Bool = λ b. bytes_eq b.variable.now.name c.args.name.now in
    any_from_yields_List test _ _ c.any.result c.any.ensures.ran (YieldsList-from_slice xs cc) (λ x b q called. search rules)
    ∙ sym (list_any-map (λ (v : Variable). bytes_eq v.name c.args.name.now) (λ (b : Binder). record { name = b.variable.now.name; domain = b.domain.now }) xs)
