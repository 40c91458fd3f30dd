-- The answers to the goals of `statements`.
use Rattle.std.proofs.Common.{◌≡◌, ◌+◌, [], ◌∷◌, ◌++◌, take, sym, ap, ◌∙◌}
use Rattle.std.proofs.lemmas.List.{take_more}
use Rattle.trio_scope.proofs.Statements.{reads_then}
use Rattle.trio_scope.proofs.names.Names.statements.Goals as goal

pub loop-statement-preserved : goal.loop-statement-preserved
loop-statement-preserved c =
    let i = c.loop-statement.statement-index in
    let ss = c.args.statements.now in
    let grown : take (i + 1) ss ≡ take i ss ++ c.statement-item.result ∷ [] =
    take_more ss i c.statement-item.result c.loop-statement-test.true ∙ ap (λ s. take i ss ++ s ∷ []) (sym c.statement-item.is) in
    rw grown (reads_then c.args.self.now c.loop-statement.self c.statement.new.self (take i ss) (c.statement-item.result ∷ []) c.loop-statement.invariant c.in_ok-statement.ensures)
