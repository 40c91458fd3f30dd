-- At each exit: the only list, or where it does not go on.
use Rattle.std.proofs.Common.{refl}
use Rattle.trio_syntax.specs.Grammar.{claim, claims}
use Rattle.trio_syntax.specs.Exact.{spot}
use Rattle.trio_syntax.proofs.Exits.{passed_loop, next_some, next_none}
use Rattle.trio_syntax.proofs.Loops.{loop_end, loop_more, loop_stuck, loop_as, some_less}
use Rattle.trio_syntax.proofs.parser.Parser.claims.Goals as goal

pub returns-in_err-claim : goal.returns-in_err-claim
returns-in_err-claim c =
    passed_loop claims claim _ _ _ _ _ c.from_residual.ensures.1 c.in_err-claim.ensures (λ front stuck. loop_stuck refl c.loop-claims.invariant front stuck)

pub loop-claims-smaller : goal.loop-claims-smaller
loop-claims-smaller c = let next = next_some claim (spot c.loop-claims.self) (spot c.next_claim.new.self) c.in_ok-claim.field-0 c.in-Some.claim c.in-Some.is c.in_ok-claim.ensures in some_less refl next.1

pub loop-claims-preserved : goal.loop-claims-preserved
loop-claims-preserved c =
    let next = next_some claim (spot c.loop-claims.self) (spot c.next_claim.new.self) c.in_ok-claim.field-0 c.in-Some.claim c.in-Some.is c.in_ok-claim.ensures in
    loop_as (λ vs. vs) c.append.new.list c.in_ok-append.ensures
    (loop_more (λ vs. vs) c.loop-claims.claims refl c.loop-claims.invariant next.0 next.1)

pub returns : goal.returns
returns c = loop_end (λ vs. vs) c.loop-claims.claims refl c.loop-claims.invariant (next_none claim (spot c.loop-claims.self) (spot c.next_claim.new.self) c.in_ok-claim.field-0 c.in_default.is c.in_ok-claim.ensures)
