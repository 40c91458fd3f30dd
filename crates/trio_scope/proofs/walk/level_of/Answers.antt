-- The answer to the goal of `level_of`.
use Rattle.std.proofs.Common.{Bool, List, rules, sym, ◌∙◌}
use Rattle.std.specs.Str.{bytes_eq}
use Rattle.std.proofs.lemmas.Iterator.{YieldsList-from_slice}
use Rattle.std.proofs.lemmas.Iterator.Search.{position_from_yields_List}
use Rattle.trio_scope.specs.declared.walk.Binder.{Binder}
use Rattle.trio_scope.specs.Gather.{Variable}
use Rattle.trio_scope.proofs.Lists.{position-map}
use Rattle.trio_scope.proofs.walk.level_of.Goals as goal

pub returns : goal.returns
returns c =
    let xs : List Binder = c.args.around.now in
    let test : Binder → Bool = λ b. bytes_eq b.variable.now.name c.args.name.now in
    position_from_yields_List test _ _ c.position.result c.position.ensures.ran (YieldsList-from_slice xs cc) (λ x b q called. search rules)
    ∙ sym (position-map (λ (v : Variable). bytes_eq v.name c.args.name.now) (λ (b : Binder). record { name = b.variable.now.name; domain = b.domain.now }) xs)
