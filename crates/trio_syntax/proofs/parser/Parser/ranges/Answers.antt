-- At each exit: the only list of references, or where none goes on.
use Rattle.std.proofs.Common.{rules, refl}
use Rattle.trio_text.specs.declared.token.Symbol.TheVariants as signs
use Rattle.trio_syntax.specs.Forms.{many}
use Rattle.trio_syntax.specs.Grammar.{behind_sign, listed, ref}
use Rattle.trio_syntax.proofs.Left.{left_read, left_stuck, left_seq, seq_stuck, reads_one, fronts_taken}
use Rattle.trio_syntax.proofs.Filled.{fill}
use Rattle.trio_syntax.proofs.Exits.{passed_on}
use Rattle.trio_syntax.proofs.Loops.{loop_end, loop_more, loop_stuck, loop_as, first_part, reads_less, takes_less}
use Rattle.trio_syntax.proofs.parser.Parser.ranges.Goals as goal

pub returns-in_err-first : goal.returns-in_err-first
returns-in_err-first c =
    passed_on (listed signs.Comma ref) ref _ _ _ _ _ c.from_residual.ensures.1 c.in_err-first.ensures
    (λ stuck. seq_stuck (fill (many (behind_sign signs.Comma ref))) refl stuck)

pub loop-self-init : goal.loop-self-init
loop-self-init c =
    loop_as (λ vs. vs) c.append.new.list (first_part c.in_ok-first.first c.in_ok-append.ensures c.new-ranges.ensures) (left_seq refl c.in_ok-first.ensures)

pub returns-in_err-next : goal.returns-in_err-next
returns-in_err-next c =
    passed_on (listed signs.Comma ref) ref _ _ _ _ _ c.from_residual-in_err-next.ensures.1 c.in_err-next.ensures
    (λ stuck. loop_stuck refl c.loop-self.invariant (fronts_taken c.loop-self-test.ensures.taken) (left_stuck (left_seq refl (reads_one c.loop-self-test.ensures.taken)) stuck))

pub loop-self-smaller : goal.loop-self-smaller
loop-self-smaller c =
    search (rules, takes_less c.loop-self-test.ensures.taken, reads_less c.in_ok-next.ensures)

pub loop-self-preserved : goal.loop-self-preserved
loop-self-preserved c =
    loop_as (λ vs. vs) c.append-in-loop-self.new.list c.in_ok-append-2.ensures
    (loop_more (λ vs. vs) c.loop-self.ranges refl c.loop-self.invariant (fronts_taken c.loop-self-test.ensures.taken)
    (left_read (left_seq refl (reads_one c.loop-self-test.ensures.taken)) c.in_ok-next.ensures))

pub returns : goal.returns
returns c =
    loop_end (λ vs. vs) c.loop-self.ranges refl c.loop-self.invariant c.loop-self-test.ensures.left
