-- The answer for the whole list, from where the parser stands.
use Rattle.std.proofs.Common.{◌≡◌, length, [], refl, sym, ap, subst, Err}
use Rattle.std.proofs.lemmas.List.{nil_from_length}
use Rattle.std.proofs.lemmas.Bool.{eqb-true, eqb-false}
use Rattle.trio_syntax.specs.Grammar.{spec}
use Rattle.trio_syntax.specs.Exact.{spot, ExactAt}
use Rattle.trio_syntax.proofs.Places.{whole_read, stuck_ends, unread_ends, fault_here}
use Rattle.trio_syntax.proofs.reader.read_tree.Goals as goal

pub returns-then-is_empty : goal.returns-then-is_empty
returns-then-is_empty c =
    let none = nil_from_length c.spec.new.self.rest.now (eqb-true (length c.spec.new.self.rest.now) 0 (sym c.if-is_empty.ensures)) in
    (sym c.in_default.ensures, whole_read none c.in-Ok.ensures)

pub returns-else-is_empty : goal.returns-else-is_empty
returns-else-is_empty c =
    let some = λ (none : c.spec.new.self.rest.now ≡ []). eqb-false (length c.spec.new.self.rest.now) 0 (sym c.if-is_empty.ensures) (ap length none) in
    (sym c.in_default.ensures, fault_here refl (unread_ends some c.in-Ok.ensures))

pub returns-in-Err-Syntax : goal.returns-in-Err-Syntax
returns-in-Err-Syntax c = (
  sym c.in_default.ensures,
  fault_here refl (stuck_ends (subst (λ e. ExactAt spec (record { at = 0; rest = c.args.lexemes.now }) (spot c.spec.new.self) (Err e)) c.in-Err-Syntax.field-0-is c.in-Err-Syntax.ensures)),
)
