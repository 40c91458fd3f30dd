-- The answer to the goal of `domain`.
use Rattle.std.proofs.Common.{refl}
use Rattle.trio_scope.proofs.Statements.{reads_domain}
use Rattle.trio_scope.proofs.names.Names.domain.Goals as goal

pub returns : goal.returns
returns c =
    reads_domain c.args.self.now c.note.new.self c.values.new.self (record c.values.new.self { domains = c.in_ok-self.field-0 }) c.args.domain.now
    c.in_ok-note.ensures c.in_ok-values.ensures refl refl c.in_ok-self.ensures refl
