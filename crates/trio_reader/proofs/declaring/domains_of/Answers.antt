-- The answer to the goal of `domains_of`.
use Rattle.std.proofs.Common.{[], ◌∷◌, ◌++◌, map, ap, ◌∙◌}
use Rattle.trio_scope.specs.Names.{domains_in}
use Rattle.trio_scope.proofs.Statements.{domains_in-append}
use Rattle.trio_reader.specs.Erasure.{bool_domain, domain_from}
use Rattle.trio_reader.proofs.Erased.{mapped_next}
use Rattle.trio_reader.proofs.declaring.domains_of.Goals as goal

pub loop-statement-preserved : goal.loop-statement-preserved
loop-statement-preserved c =
    c.in_ok-add_domain.ensures ∙ ap (λ ds. ds ++ map domain_from (domains_in (c.statement-item.result ∷ []))) c.loop-statement.invariant
    ∙ ap (λ ds. bool_domain ∷ ds) (mapped_next domain_from domains_in domains_in-append c.args.statements.now c.loop-statement.statement-index
    c.statement-item.result c.loop-statement-test.true c.statement-item.is)
