-- The answers to the goals of `first_in_statements`.
use Rattle.std.proofs.Common.{[]}
use Rattle.std.specs.List.{flat_map}
use Rattle.trio_syntax.specs.declared.tree.DeclarationTree.{DeclarationTree}
use Rattle.trio_scope.specs.Names.{declarations}
use Rattle.trio_scope.specs.Scope.{unknown_among, names_of_ref, refs_of}
use Rattle.trio_scope.proofs.Least.{least_next, least_end}
use Rattle.trio_scope.proofs.unknown.first_in_statements.Goals as goal

pub loop-statement-preserved : goal.loop-statement-preserved
loop-statement-preserved c =
    least_next (λ (s : DeclarationTree). flat_map (λ r. unknown_among (declarations c.args.scope.now.tree.now) [] (names_of_ref r)) (refs_of s)) []
    c.as_slice-statement-items.ensures c.loop-statement.statement-index c.statement-item.result c.loop-statement-test.true c.statement-item.is
    c.loop-statement.invariant c.first_in_statement.ensures c.earlier-first.ensures

pub returns : goal.returns
returns c =
    least_end (λ (s : DeclarationTree). flat_map (λ r. unknown_among (declarations c.args.scope.now.tree.now) [] (names_of_ref r)) (refs_of s)) []
    c.as_slice-statement-items.ensures c.loop-statement-test.false c.loop-statement.invariant
