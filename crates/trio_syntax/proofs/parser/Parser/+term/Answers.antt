-- At each exit: the only term, or where no term goes on.
use Rattle.std.proofs.Common.{rules, [], ◌∷◌, ◌++◌, refl, sym, ap, ◌∙◌, Some}
use Rattle.trio_text.specs.declared.token.Symbol.TheVariants as signs
use Rattle.trio_syntax.specs.declared.tree.PartTree.{PartTree}
use Rattle.trio_syntax.specs.Forms.{row, term, summand, factor, basic, many}
use Rattle.trio_syntax.specs.Grammar.{a_sign, a_name, behind_sign, before_sign, listed, arguments, more_summands, sum, product, named}
use Rattle.trio_syntax.proofs.Left.{left_left, left_read, left_stuck, left_row, left_right, left_first, left_seq, seq_stuck, reads_one, reads_empty, fronts_taken}
use Rattle.trio_syntax.proofs.Filled.{fill}
use Rattle.trio_syntax.proofs.Exits.{passed_on, handed_on, handed_as, reads_as, reads_signed}
use Rattle.trio_syntax.proofs.Loops.{loop_end, loop_more, loop_stuck, reads_less, some_less, takes_less, stays_same, stays_at_place, left_less, loop_as, first_part}
use Rattle.trio_syntax.proofs.parser.Parser.+term.Goals as goal

-- arguments

pub arguments-returns-then-not-takes_sign : goal.arguments-returns-then-not-takes_sign
arguments-returns-then-not-takes_sign t c = left_read (left_right refl c.if-not-takes_sign.ensures.left) reads_empty

pub arguments-terms-requires : goal.arguments-terms-requires
arguments-terms-requires t c = search (rules, takes_less c.if-not-takes_sign.ensures.taken)

pub arguments-returns-in_err-terms : goal.arguments-returns-in_err-terms
arguments-returns-in_err-terms t c =
    let open_ = reads_one c.if-not-takes_sign.ensures.taken in
    passed_on arguments (listed signs.Comma (row term)) _ _ _ _ _ c.from_residual.ensures.1 c.in_err-terms.ensures
    (λ stuck. left_stuck (left_first refl (fronts_taken c.if-not-takes_sign.ensures.taken)) (left_stuck (left_seq refl open_) (seq_stuck (fill (a_sign signs.RightRound)) refl stuck)))

pub arguments-returns-in_err-sign : goal.arguments-returns-in_err-sign
arguments-returns-in_err-sign t c =
    let open_ = reads_one c.if-not-takes_sign.ensures.taken in
    passed_on arguments (a_sign signs.RightRound) _ _ _ _ _ c.from_residual-in_err-sign.ensures.1 c.in_err-sign.ensures
    (λ stuck. left_stuck (left_first refl (fronts_taken c.if-not-takes_sign.ensures.taken)) (left_stuck (left_seq refl open_) (left_stuck (left_seq refl c.in_ok-terms.ensures) stuck)))

pub arguments-returns : goal.arguments-returns
arguments-returns t c =
    let open_ = reads_one c.if-not-takes_sign.ensures.taken in
    left_read (left_first refl (fronts_taken c.if-not-takes_sign.ensures.taken)) (left_read (left_seq refl open_) (left_read (left_seq refl c.in_ok-terms.ensures) c.in_ok-sign.ensures))

-- basic

pub basic-returns-in-Some : goal.basic-returns-in-Some
basic-returns-in-Some t c = left_read (left_row basic) (left_read (left_first refl (fronts_taken c.in-Some.ensures)) (reads_one c.in-Some.ensures))

pub basic-term_until-requires : goal.basic-term_until-requires
basic-term_until-requires t c = search (rules, takes_less c.if-takes_sign.ensures.taken, stays_same c.in_default.ensures)

pub basic-returns-in_err-inner : goal.basic-returns-in_err-inner
basic-returns-in_err-inner t c =
    passed_on (row basic) (before_sign (row term) signs.RightSquare) _ _ _ _ _ c.from_residual.ensures.1 c.in_err-inner.ensures
    (λ stuck. left_stuck (left_row basic) (left_stuck (left_right refl c.in_default.ensures) (left_stuck (left_first refl (fronts_taken c.if-takes_sign.ensures.taken))
    (left_stuck (left_seq refl (reads_one c.if-takes_sign.ensures.taken)) stuck))))

pub basic-returns-then-takes_sign : goal.basic-returns-then-takes_sign
basic-returns-then-takes_sign t c =
    reads_as (ap (λ p. record { place = p; shape = c.in_ok-inner.inner.shape }) (sym (stays_at_place c.in_default.ensures)))
    (left_read (left_row basic) (left_read (left_right refl c.in_default.ensures) (left_read (left_first refl (fronts_taken c.if-takes_sign.ensures.taken))
    (left_read (left_seq refl (reads_one c.if-takes_sign.ensures.taken)) c.in_ok-inner.ensures))))

pub basic-returns-in_err-name : goal.basic-returns-in_err-name
basic-returns-in_err-name t c =
    passed_on (row basic) a_name _ _ _ _ _ c.from_residual-in_err-name.ensures.1 c.in_err-name.ensures
    (λ stuck. left_stuck (left_row basic) (left_stuck (left_right refl c.in_default.ensures) (left_stuck (left_right refl c.if-takes_sign.ensures.left) (seq_stuck (fill arguments) refl stuck))))

pub basic-arguments-requires : goal.basic-arguments-requires
basic-arguments-requires t c = search (rules, stays_same c.in_default.ensures, stays_same c.if-takes_sign.ensures.left, some_less refl c.in_ok-name.ensures)

pub basic-returns-in_err-arguments : goal.basic-returns-in_err-arguments
basic-returns-in_err-arguments t c =
    passed_on (row basic) arguments _ _ _ _ _ c.from_residual-in_err-arguments.ensures.1 c.in_err-arguments.ensures
    (λ stuck. left_stuck (left_row basic) (left_stuck (left_right refl c.in_default.ensures) (left_stuck (left_right refl c.if-takes_sign.ensures.left) (left_stuck (left_seq refl c.in_ok-name.ensures) stuck))))

pub basic-returns : goal.basic-returns
basic-returns t c =
    reads_as (c.named.ensures ∙ ap (λ p. named p c.in_ok-name.name c.in_ok-arguments.arguments) (sym (stays_at_place c.if-takes_sign.ensures.left ∙ stays_at_place c.in_default.ensures)))
    (left_read (left_row basic) (left_read (left_right refl c.in_default.ensures) (left_read (left_right refl c.if-takes_sign.ensures.left) (left_read (left_seq refl c.in_ok-name.ensures) c.in_ok-arguments.ensures))))

-- term_until

pub term_until-term-requires : goal.term_until-term-requires
term_until-term-requires t c = search rules

pub term_until-returns-in_err-inner : goal.term_until-returns-in_err-inner
term_until-returns-in_err-inner t c =
    passed_on (before_sign (row term) c.args.close) (row term) _ _ _ _ _ c.from_residual.ensures.1 c.in_err-inner.ensures
    (λ stuck. seq_stuck (fill (a_sign c.args.close)) c.requires stuck)

pub term_until-returns : goal.term_until-returns
term_until-returns t c = handed_as _ c.sign.result (left_seq c.requires c.in_ok-inner.ensures) c.sign.ensures c.followed.ensures

-- factor

pub factor-basic-requires : goal.factor-basic-requires
factor-basic-requires t c = search (rules, stays_same c.in-None.ensures)

pub factor-returns-in-Some : goal.factor-returns-in-Some
factor-returns-in-Some t c = reads_as c.number.ensures (left_read (left_row factor) (left_read (left_first refl (fronts_taken c.in-Some.ensures)) (reads_one c.in-Some.ensures)))

pub factor-returns-in-None : goal.factor-returns-in-None
factor-returns-in-None t c = handed_on (row factor) (row basic) _ _ _ _ (left_left (left_row factor) (left_right refl c.in-None.ensures)) c.basic.ensures

-- summand

pub summand-basic-requires : goal.summand-basic-requires
summand-basic-requires t c = search (rules, stays_same c.in_default.ensures)

pub summand-returns-in_default : goal.summand-returns-in_default
summand-returns-in_default t c = handed_on (row summand) (row basic) _ _ _ _ (left_left (left_row summand) (left_right refl c.in_default.ensures)) c.basic.ensures

pub summand-returns-then-not-takes_sign : goal.summand-returns-then-not-takes_sign
summand-returns-then-not-takes_sign t c =
    reads_as c.number.ensures
    (left_read (left_row summand) (left_read (left_first refl (fronts_taken c.in-Some.ensures)) (left_read (left_seq refl (reads_one c.in-Some.ensures))
    (left_read (left_right refl c.if-not-takes_sign.ensures.left) reads_empty))))

pub summand-factor-requires : goal.summand-factor-requires
summand-factor-requires t c = search (rules, takes_less c.in-Some.ensures, takes_less c.if-not-takes_sign.ensures.taken)

pub summand-returns-in_err-factor : goal.summand-returns-in_err-factor
summand-returns-in_err-factor t c =
    passed_on (row summand) (row factor) _ _ _ _ _ c.from_residual.ensures.1 c.in_err-factor.ensures
    (λ stuck. left_stuck (left_row summand) (left_stuck (left_first refl (fronts_taken c.in-Some.ensures)) (left_stuck (left_seq refl (reads_one c.in-Some.ensures))
    (left_stuck (left_first refl (fronts_taken c.if-not-takes_sign.ensures.taken)) (left_stuck (left_seq refl (reads_one c.if-not-takes_sign.ensures.taken)) stuck)))))

pub summand-returns : goal.summand-returns
summand-returns t c =
    reads_as (ap (λ f. product c.args.self.now.at (record { number = c.in-Some.found; place = c.args.self.now.at }) (Some f)) c.in_ok-factor-2.ensures)
    (left_read (left_row summand) (left_read (left_first refl (fronts_taken c.in-Some.ensures)) (left_read (left_seq refl (reads_one c.in-Some.ensures))
    (left_read (left_first refl (fronts_taken c.if-not-takes_sign.ensures.taken)) (left_read (left_seq refl (reads_one c.if-not-takes_sign.ensures.taken)) c.in_ok-factor.ensures)))))

-- term

pub term-summand-requires : goal.term-summand-requires
term-summand-requires t c = search (rules, reads_less (reads_signed c.takes_sign-minus.result c.takes_sign-minus.ensures.taken c.takes_sign-minus.ensures.left))

pub term-returns-in_err-first : goal.term-returns-in_err-first
term-returns-in_err-first t c =
    let minus = reads_signed c.takes_sign-minus.result c.takes_sign-minus.ensures.taken c.takes_sign-minus.ensures.left in
    passed_on (row term) (row summand) _ _ _ _ _ c.from_residual.ensures.1 c.in_err-first.ensures
    (λ stuck. left_stuck (left_row term) (left_stuck (left_seq refl minus) (seq_stuck (fill more_summands) refl stuck)))

pub term-loop-minus-init : goal.term-loop-minus-init
term-loop-minus-init t c =
    let minus = reads_signed c.takes_sign-minus.result c.takes_sign-minus.ensures.taken c.takes_sign-minus.ensures.left in
    (c.in_ok-first.first, [], first_part (record { minus = c.takes_sign-minus.result; term = c.in_ok-first.first }) c.in_ok-append.ensures c.new-parts.ensures, left_left (left_row term) (left_left (left_seq refl minus) (left_seq refl c.in_ok-first.ensures)))

pub term-summand-requires-in-Some : goal.term-summand-requires-in-Some
term-summand-requires-in-Some t c = search (rules, takes_less c.in-Some.ensures, left_less c.loop-minus.invariant.3)

pub term-returns-in_err-next : goal.term-returns-in_err-next
term-returns-in_err-next t c =
    passed_on (row term) (row summand) _ _ _ _ _ c.from_residual-in_err-next.ensures.1 c.in_err-next.ensures
    (λ stuck. loop_stuck refl c.loop-minus.invariant.3 (fronts_taken c.in-Some.ensures) (left_stuck (left_seq refl (reads_one c.in-Some.ensures)) stuck))

pub term-loop-minus-smaller : goal.term-loop-minus-smaller
term-loop-minus-smaller t c = search (rules, takes_less c.in-Some.ensures, reads_less c.in_ok-next.ensures)

pub term-loop-minus-preserved : goal.term-loop-minus-preserved
term-loop-minus-preserved t c =
    let next : PartTree = record { minus = c.in-Some.minus; term = c.in_ok-next.next } in (
      c.loop-minus.invariant.0,
      c.loop-minus.invariant.1 ++ next ∷ [],
      c.in_ok-append-2.ensures ∙ ap (λ l. l ++ next ∷ []) c.loop-minus.invariant.2,
      loop_more (λ parts. sum c.args.self.now.at c.takes_sign-minus.result c.loop-minus.invariant.0 parts) c.loop-minus.invariant.1 refl c.loop-minus.invariant.3 (fronts_taken c.in-Some.ensures)
          (left_read (left_seq refl (reads_one c.in-Some.ensures)) c.in_ok-next.ensures),
    )

pub term-returns : goal.term-returns
term-returns t c =
    reads_as (c.sum.ensures c.loop-minus.invariant.0 c.loop-minus.invariant.1 c.loop-minus.invariant.2)
    (loop_end (λ parts. sum c.args.self.now.at c.takes_sign-minus.result c.loop-minus.invariant.0 parts) c.loop-minus.invariant.1 refl c.loop-minus.invariant.3 c.in_default.ensures)

-- terms

pub terms-term-requires : goal.terms-term-requires
terms-term-requires t c = search rules

pub terms-returns-in_err-first : goal.terms-returns-in_err-first
terms-returns-in_err-first t c =
    passed_on (listed signs.Comma (row term)) (row term) _ _ _ _ _ c.from_residual.ensures.1 c.in_err-first.ensures (λ stuck. seq_stuck (fill (many (behind_sign signs.Comma (row term)))) refl stuck)

pub terms-loop-self-init : goal.terms-loop-self-init
terms-loop-self-init t c = loop_as (λ vs. vs) c.append.new.list (first_part c.in_ok-first.first c.in_ok-append.ensures c.new-terms.ensures) (left_seq refl c.in_ok-first.ensures)

pub terms-term-requires-in-loop-self : goal.terms-term-requires-in-loop-self
terms-term-requires-in-loop-self t c = search (rules, takes_less c.loop-self-test.ensures.taken, left_less c.loop-self.invariant)

pub terms-returns-in_err-next : goal.terms-returns-in_err-next
terms-returns-in_err-next t c =
    passed_on (listed signs.Comma (row term)) (row term) _ _ _ _ _ c.from_residual-in_err-next.ensures.1 c.in_err-next.ensures
    (λ stuck. loop_stuck refl c.loop-self.invariant (fronts_taken c.loop-self-test.ensures.taken) (left_stuck (left_seq refl (reads_one c.loop-self-test.ensures.taken)) stuck))

pub terms-loop-self-smaller : goal.terms-loop-self-smaller
terms-loop-self-smaller t c = search (rules, takes_less c.loop-self-test.ensures.taken, reads_less c.in_ok-next.ensures)

pub terms-loop-self-preserved : goal.terms-loop-self-preserved
terms-loop-self-preserved t c =
    loop_as (λ vs. vs) c.append-in-loop-self.new.list c.in_ok-append-2.ensures
    (loop_more (λ vs. vs) c.loop-self.terms refl c.loop-self.invariant (fronts_taken c.loop-self-test.ensures.taken)
    (left_read (left_seq refl (reads_one c.loop-self-test.ensures.taken)) c.in_ok-next.ensures))

pub terms-returns : goal.terms-returns
terms-returns t c = loop_end (λ vs. vs) c.loop-self.terms refl c.loop-self.invariant c.loop-self-test.ensures.left
