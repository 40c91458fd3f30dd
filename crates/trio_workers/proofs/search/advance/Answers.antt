-- The answers to the goals of `advance`.
use Rattle.std.proofs.Common.{◌≡◌, ◌∙◌, ◌∷◌, ◌++◌, [], refl, sym, ap, subst}
use Rattle.std.proofs.lemmas.List.{append-nil}
use Rattle.std.proofs.lemmas.Result.{on_ok_weaker}
use Rattle.branch_state.specs.Branches.{reps}
use Rattle.decompose.specs.Law.{KeepsLaw, AreHalves}
use Rattle.decompose.specs.Rule.{Closed, Whole, Two, ruled}
use Rattle.decompose.specs.Stepped.{answer}
use Rattle.trio_workers.proofs.Advanced.{advanced_alone, advanced_parted}
use Rattle.trio_workers.proofs.search.advance.Goals as goal

pub returns-in-Ok-Closed-clause-advanced : goal.returns-in-Ok-Closed-clause-advanced
returns-in-Ok-Closed-clause-advanced g c =
    let p = c.args.problem.now in
    let b = c.args.branch in
    let rule : Closed c.in-Ok-Closed.field-0-0.why ≡ ruled p b = subst (λ s. answer s ≡ ruled p b) c.in-Ok-Closed.field-0-is c.in-Ok-Closed.ensures.rule in
    let none : reps p b ≡ [] = subst (KeepsLaw p b) (sym rule) (c.rule_keeps_the_law.ensures.keeps p c.core-posed.ensures.posed b c.requires) in
    advanced_alone p b c.args.found.now [] c.args.found.now c.args.given.now none (sym (append-nil c.args.found.now))

pub returns-in-Ok-Whole-clause-advanced : goal.returns-in-Ok-Whole-clause-advanced
returns-in-Ok-Whole-clause-advanced g c =
    let p = c.args.problem.now in
    let b = c.args.branch in
    let leaf = c.in-Ok-Whole.leaf in
    let table = c.into_parts.result.table in
    let rule : Whole leaf.table ≡ ruled p b = subst (λ s. answer s ≡ ruled p b) c.in-Ok-Whole.field-0-is c.in-Ok-Whole.ensures.rule in
    let alone : reps p b ≡ leaf.table ∷ [] = subst (KeepsLaw p b) (sym rule) (c.rule_keeps_the_law.ensures.keeps p c.core-posed.ensures.posed b c.requires) in
    let same : leaf.table ≡ table = ap (λ v. v.table) (sym c.into_parts.ensures.is) in
    on_ok_weaker c.add.result
    (λ made. advanced_alone p b c.args.found.now (table ∷ []) c.add.new.self c.args.given.now (alone ∙ ap (λ t. t ∷ []) same) made) c.add.ensures.ok

pub returns-in-Ok-Two-clause-advanced : goal.returns-in-Ok-Two-clause-advanced
returns-in-Ok-Two-clause-advanced g c =
    let p = c.args.problem.now in
    let b = c.args.branch in
    let left = c.in-Ok-Two.left in
    let right = c.in-Ok-Two.right in
    let rule : Two left right ≡ ruled p b = subst (λ s. answer s ≡ ruled p b) c.in-Ok-Two.field-0-is c.in-Ok-Two.ensures.rule in
    let halves : AreHalves p b left right = subst (KeepsLaw p b) (sym rule) (c.rule_keeps_the_law.ensures.keeps p c.core-posed.ensures.posed b c.requires) in
    on_ok_weaker c.add_both.result
    (λ made. advanced_parted p b left right c.args.found.now c.args.given.now (c.args.given.now ++ right ∷ []) c.add_both.new.list halves refl made)
    c.add_both.ensures
