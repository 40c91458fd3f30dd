-- At each exit: the only list, or where it does not go on.
use Rattle.std.proofs.Common.{refl}
use Rattle.trio_syntax.specs.Forms.{either}
use Rattle.trio_syntax.specs.Grammar.{domain, item, declaring}
use Rattle.trio_syntax.specs.Exact.{spot}
use Rattle.trio_syntax.proofs.Exits.{passed_loop, next_some, next_none}
use Rattle.trio_syntax.proofs.Loops.{loop_end, loop_more, loop_stuck, loop_as, some_less}
use Rattle.trio_syntax.proofs.parser.Parser.declarations.Goals as goal

pub returns-in_err-declaration : goal.returns-in_err-declaration
returns-in_err-declaration c =
    passed_loop declaring (either item domain) _ _ _ _ _ c.from_residual.ensures.1 c.in_err-declaration.ensures (λ front stuck. loop_stuck refl c.loop-declarations.invariant front stuck)

pub loop-declarations-smaller : goal.loop-declarations-smaller
loop-declarations-smaller c = let next = next_some (either item domain) (spot c.loop-declarations.self) (spot c.next_declaration.new.self) c.in_ok-declaration.field-0 c.in-Some.declaration c.in-Some.is c.in_ok-declaration.ensures in some_less refl next.1

pub loop-declarations-preserved : goal.loop-declarations-preserved
loop-declarations-preserved c =
    let next = next_some (either item domain) (spot c.loop-declarations.self) (spot c.next_declaration.new.self) c.in_ok-declaration.field-0 c.in-Some.declaration c.in-Some.is c.in_ok-declaration.ensures in
    loop_as (λ vs. vs) c.append.new.list c.in_ok-append.ensures
    (loop_more (λ vs. vs) c.loop-declarations.declarations refl c.loop-declarations.invariant next.0 next.1)

pub returns : goal.returns
returns c = loop_end (λ vs. vs) c.loop-declarations.declarations refl c.loop-declarations.invariant (next_none (either item domain) (spot c.loop-declarations.self) (spot c.next_declaration.new.self) c.in_ok-declaration.field-0 c.in_default.is c.in_ok-declaration.ensures)
