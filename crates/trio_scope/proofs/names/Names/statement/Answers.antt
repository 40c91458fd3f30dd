-- The answers to the goals of `statement`.
use Rattle.std.proofs.Common.{refl}
use Rattle.trio_scope.proofs.Statements.{reads_item}
use Rattle.trio_scope.proofs.names.Names.statement.Goals as goal

pub returns-in-Domain : goal.returns-in-Domain
returns-in-Domain c = rw c.in-Domain.is c.domain.ensures

pub returns-in_ok-self-in-Item : goal.returns-in_ok-self-in-Item
returns-in_ok-self-in-Item c =
    rw c.in-Item.is (reads_item c.args.self.now c.note.new.self (record c.note.new.self { items = c.in_ok-self-in-Item.field-0 }) c.in-Item.item
    c.in_ok-note-in-Item.ensures refl refl refl c.in_ok-self-in-Item.ensures)
