-- At each exit: the only formula, or where no formula goes on.
use Rattle.std.proofs.Common.{rules, ◌∷◌, ◌++◌, [], refl, sym, ap, ◌∙◌, Some}
use Rattle.std.proofs.Math.Path.{ap₂}
use Rattle.trio_text.specs.declared.token.Symbol.TheVariants as signs
use Rattle.trio_syntax.specs.declared.tree.FormulaTree.TheVariants as formulas
use Rattle.trio_syntax.specs.Forms.{row, formula, disj, conj, unary, primary, term, many, seq}
use Rattle.trio_syntax.specs.Grammar.{a, a_sign, a_name, behind_sign, before_sign, both, optional, round, ref, bound, distant, paired, one_operation, far_operation, pair_operation, atom, and_of, or_of, arrowed}
use Rattle.trio_syntax.specs.Forms.{arrow, either}
use Rattle.trio_syntax.proofs.Left.{left_left, left_read, left_stuck, left_row, left_right, left_first, left_seq, seq_stuck, reads_one, reads_empty, fronts_taken}
use Rattle.trio_syntax.proofs.Filled.{fill}
use Rattle.trio_syntax.proofs.Exits.{passed_on, handed_on, handed_as, made_beside, reads_as}
use Rattle.trio_syntax.proofs.Loops.{loop_end, loop_more, loop_stuck, loop_as, first_part, reads_less, some_less, takes_less, stays_same, left_less}
use Rattle.trio_syntax.proofs.parser.Parser.+formula.Goals as goal

-- round

pub round-returns-in_err-sign : goal.round-returns-in_err-sign
round-returns-in_err-sign t c =
    passed_on (round (row formula)) (a_sign signs.LeftRound) _ _ _ _ _ c.from_residual.ensures.1 c.in_err-sign.ensures
    (λ stuck. seq_stuck (fill (before_sign (row formula) signs.RightRound)) refl stuck)

pub round-formula_until-requires : goal.round-formula_until-requires
round-formula_until-requires t c =
    search (rules, some_less refl c.in_ok-sign.ensures)

pub round-returns : goal.round-returns
round-returns t c =
    handed_on (round (row formula)) (before_sign (row formula) signs.RightRound) _ _ _ _ (left_seq refl c.in_ok-sign.ensures) c.formula_until.ensures

-- formula_until

pub formula_until-formula-requires : goal.formula_until-formula-requires
formula_until-formula-requires t c =
    search rules

pub formula_until-returns-in_err-inner : goal.formula_until-returns-in_err-inner
formula_until-returns-in_err-inner t c =
    passed_on (before_sign (row formula) c.args.close) (row formula) _ _ _ _ _ c.from_residual.ensures.1 c.in_err-inner.ensures
    (λ stuck. seq_stuck (fill (a_sign c.args.close)) c.requires stuck)

pub formula_until-returns : goal.formula_until-returns
formula_until-returns t c =
    handed_as _ c.sign.result (left_seq c.requires c.in_ok-inner.ensures) c.sign.ensures c.followed.ensures

-- bound

pub bound-returns-in_err-name : goal.bound-returns-in_err-name
bound-returns-in_err-name t c =
    passed_on bound a_name _ _ _ _ _ c.from_residual.ensures.1 c.in_err-name.ensures
    (λ stuck. seq_stuck (fill (behind_sign signs.Colon (both ref (round (row formula))))) refl stuck)

pub bound-returns-in_err-sign : goal.bound-returns-in_err-sign
bound-returns-in_err-sign t c =
    passed_on bound (a_sign signs.Colon) _ _ _ _ _ c.from_residual-in_err-sign.ensures.1 c.in_err-sign.ensures
    (λ stuck. left_stuck (left_seq refl c.in_ok-name.ensures) (seq_stuck (fill (both ref (round (row formula)))) refl stuck))

pub bound-returns-in_err-range : goal.bound-returns-in_err-range
bound-returns-in_err-range t c =
    passed_on bound ref _ _ _ _ _ c.from_residual-in_err-range.ensures.1 c.in_err-range.ensures
    (λ stuck. left_stuck (left_seq refl c.in_ok-name.ensures) (left_stuck (left_seq refl c.in_ok-sign.ensures) (seq_stuck (fill (round (row formula))) refl stuck)))

pub bound-round-requires : goal.bound-round-requires
bound-round-requires t c =
    search (rules, some_less refl c.in_ok-name.ensures, reads_less c.in_ok-sign.ensures, reads_less c.in_ok-range.ensures)

pub bound-returns-in_err-part : goal.bound-returns-in_err-part
bound-returns-in_err-part t c =
    passed_on bound (round (row formula)) _ _ _ _ _ c.from_residual-in_err-part.ensures.1 c.in_err-part.ensures
    (λ stuck. left_stuck (left_seq refl c.in_ok-name.ensures) (left_stuck (left_seq refl c.in_ok-sign.ensures) (left_stuck (left_seq refl c.in_ok-range.ensures) (stuck))))

pub bound-returns : goal.bound-returns
bound-returns t c =
    left_read (left_seq refl c.in_ok-name.ensures) (left_read (left_seq refl c.in_ok-sign.ensures) (left_read (left_seq refl c.in_ok-range.ensures) (c.in_ok-part.ensures)))

-- distant

pub distant-returns-in_err-sign : goal.distant-returns-in_err-sign
distant-returns-in_err-sign t c =
    passed_on distant (a_sign signs.LeftRound) _ _ _ _ _ c.from_residual.ensures.1 c.in_err-sign.ensures
    (λ stuck. seq_stuck (fill (both (before_sign (row formula) signs.Comma) (before_sign (row term) signs.RightRound))) refl stuck)

pub distant-formula_until-requires : goal.distant-formula_until-requires
distant-formula_until-requires t c =
    search (rules, some_less refl c.in_ok-sign.ensures)

pub distant-returns-in_err-part : goal.distant-returns-in_err-part
distant-returns-in_err-part t c =
    passed_on distant (before_sign (row formula) signs.Comma) _ _ _ _ _ c.from_residual-in_err-part.ensures.1 c.in_err-part.ensures
    (λ stuck. left_stuck (left_seq refl c.in_ok-sign.ensures) (seq_stuck (fill (before_sign (row term) signs.RightRound)) refl stuck))

pub distant-returns : goal.distant-returns
distant-returns t c =
    handed_as _ c.term_until.result (left_left (left_seq refl c.in_ok-sign.ensures) (left_seq refl c.in_ok-part.ensures)) c.term_until.ensures c.beside.ensures

-- paired

pub paired-returns-in_err-sign : goal.paired-returns-in_err-sign
paired-returns-in_err-sign t c =
    passed_on paired (a_sign signs.LeftRound) _ _ _ _ _ c.from_residual.ensures.1 c.in_err-sign.ensures
    (λ stuck. seq_stuck (fill (both (before_sign (row formula) signs.Comma) (before_sign (row formula) signs.RightRound))) refl stuck)

pub paired-formula_until-requires : goal.paired-formula_until-requires
paired-formula_until-requires t c =
    search (rules, some_less refl c.in_ok-sign.ensures)

pub paired-returns-in_err-left : goal.paired-returns-in_err-left
paired-returns-in_err-left t c =
    passed_on paired (before_sign (row formula) signs.Comma) _ _ _ _ _ c.from_residual-in_err-left.ensures.1 c.in_err-left.ensures
    (λ stuck. left_stuck (left_seq refl c.in_ok-sign.ensures) (seq_stuck (fill (before_sign (row formula) signs.RightRound)) refl stuck))

pub paired-formula_until-requires-2 : goal.paired-formula_until-requires-2
paired-formula_until-requires-2 t c =
    search (rules, some_less refl c.in_ok-sign.ensures, reads_less c.in_ok-left.ensures)

pub paired-returns : goal.paired-returns
paired-returns t c =
    handed_as _ c.formula_until-2.result (left_left (left_seq refl c.in_ok-sign.ensures) (left_seq refl c.in_ok-left.ensures)) c.formula_until-2.ensures c.beside.ensures

-- conj

pub conj-unary-requires : goal.conj-unary-requires
conj-unary-requires t c =
    search rules

pub conj-returns-in_err-first : goal.conj-returns-in_err-first
conj-returns-in_err-first t c =
    passed_on (row conj) (row unary) _ _ _ _ _ c.from_residual.ensures.1 c.in_err-first.ensures
    (λ stuck. left_stuck (left_row conj) (seq_stuck (fill (many (behind_sign signs.And (row unary)))) refl stuck))

pub conj-loop-self-init : goal.conj-loop-self-init
conj-loop-self-init t c =
    loop_as (λ vs. vs) c.append.new.list (first_part c.in_ok-first.first c.in_ok-append.ensures c.new-parts.ensures) (left_left (left_row conj) (left_seq refl c.in_ok-first.ensures))

pub conj-unary-requires-in-loop-self : goal.conj-unary-requires-in-loop-self
conj-unary-requires-in-loop-self t c =
    search (rules, takes_less c.loop-self-test.ensures.taken, left_less c.loop-self.invariant)

pub conj-returns-in_err-next : goal.conj-returns-in_err-next
conj-returns-in_err-next t c =
    passed_on (row conj) (row unary) _ _ _ _ _ c.from_residual-in_err-next.ensures.1 c.in_err-next.ensures
    (λ stuck. loop_stuck refl c.loop-self.invariant (fronts_taken c.loop-self-test.ensures.taken) (left_stuck (left_seq refl (reads_one c.loop-self-test.ensures.taken)) stuck))

pub conj-loop-self-smaller : goal.conj-loop-self-smaller
conj-loop-self-smaller t c =
    search (rules, takes_less c.loop-self-test.ensures.taken, reads_less c.in_ok-next.ensures)

pub conj-loop-self-preserved : goal.conj-loop-self-preserved
conj-loop-self-preserved t c =
    loop_as (λ vs. vs) c.append-in-loop-self.new.list c.in_ok-append-2.ensures
    (loop_more (λ vs. vs) c.loop-self.parts refl c.loop-self.invariant (fronts_taken c.loop-self-test.ensures.taken)
    (left_read (left_seq refl (reads_one c.loop-self-test.ensures.taken)) c.in_ok-next.ensures))

pub conj-returns : goal.conj-returns
conj-returns t c =
    loop_end (λ vs. vs) c.loop-self.parts refl c.loop-self.invariant c.loop-self-test.ensures.left

-- disj

pub disj-conj-requires : goal.disj-conj-requires
disj-conj-requires t c =
    search rules

pub disj-returns-in_err-first : goal.disj-returns-in_err-first
disj-returns-in_err-first t c =
    passed_on (row disj) (row conj) _ _ _ _ _ c.from_residual.ensures.1 c.in_err-first.ensures
    (λ stuck. left_stuck (left_row disj) (seq_stuck (fill (many (seq (a_sign signs.Or) (row conj) (λ p u fs. and_of fs)))) refl stuck))

pub disj-loop-self-init : goal.disj-loop-self-init
disj-loop-self-init t c =
    loop_as (λ vs. vs) c.append.new.list (first_part (and_of c.in_ok-first.first) (c.in_ok-append.ensures ∙ ap (λ f. c.new-parts.result ++ f ∷ []) c.and_of.ensures) c.new-parts.ensures)
    (left_left (left_row disj) (left_seq refl c.in_ok-first.ensures))

pub disj-conj-requires-in-loop-self : goal.disj-conj-requires-in-loop-self
disj-conj-requires-in-loop-self t c =
    search (rules, takes_less c.loop-self-test.ensures.taken, left_less c.loop-self.invariant)

pub disj-returns-in_err-next : goal.disj-returns-in_err-next
disj-returns-in_err-next t c =
    passed_on (row disj) (row conj) _ _ _ _ _ c.from_residual-in_err-next.ensures.1 c.in_err-next.ensures
    (λ stuck. loop_stuck refl c.loop-self.invariant (fronts_taken c.loop-self-test.ensures.taken) (left_stuck (left_seq refl (reads_one c.loop-self-test.ensures.taken)) stuck))

pub disj-loop-self-smaller : goal.disj-loop-self-smaller
disj-loop-self-smaller t c =
    search (rules, takes_less c.loop-self-test.ensures.taken, reads_less c.in_ok-next.ensures)

pub disj-loop-self-preserved : goal.disj-loop-self-preserved
disj-loop-self-preserved t c =
    loop_as (λ vs. vs) c.append-in-loop-self.new.list (c.in_ok-append-2.ensures ∙ ap (λ f. c.loop-self.parts ++ f ∷ []) c.and_of-in-loop-self.ensures)
    (loop_more (λ vs. vs) c.loop-self.parts refl c.loop-self.invariant (fronts_taken c.loop-self-test.ensures.taken)
    (left_read (left_seq refl (reads_one c.loop-self-test.ensures.taken)) c.in_ok-next.ensures))

pub disj-returns : goal.disj-returns
disj-returns t c =
    loop_end (λ vs. vs) c.loop-self.parts refl c.loop-self.invariant c.loop-self-test.ensures.left

-- unary

pub unary-primary-requires : goal.unary-primary-requires
unary-primary-requires t c =
    search (rules, stays_same c.if-not-takes_sign.ensures.left)

pub unary-returns-then-not-takes_sign : goal.unary-returns-then-not-takes_sign
unary-returns-then-not-takes_sign t c =
    handed_on (row unary) (row primary) _ _ _ _ (left_left (left_row unary) (left_right refl c.if-not-takes_sign.ensures.left)) c.primary.ensures

pub unary-primary-requires-2 : goal.unary-primary-requires-2
unary-primary-requires-2 t c =
    search (rules, takes_less c.if-not-takes_sign.ensures.taken)

pub unary-returns-in_err-part : goal.unary-returns-in_err-part
unary-returns-in_err-part t c =
    passed_on (row unary) (row primary) _ _ _ _ _ c.from_residual.ensures.1 c.in_err-part.ensures
    (λ stuck. left_stuck (left_row unary) (left_stuck (left_first {g = seq (a_sign signs.Not) (row primary) (λ p u f. formulas.Not f)} {h = row primary} refl (fronts_taken c.if-not-takes_sign.ensures.taken)) (left_stuck (left_seq refl (reads_one c.if-not-takes_sign.ensures.taken)) (stuck))))

pub unary-returns : goal.unary-returns
unary-returns t c =
    reads_as (ap formulas.Not c.in_ok-part-2.ensures)
    (left_read (left_row unary) (left_read (left_first {g = seq (a_sign signs.Not) (row primary) (λ p u f. formulas.Not f)} {h = row primary} refl (fronts_taken c.if-not-takes_sign.ensures.taken)) (left_read (left_seq refl (reads_one c.if-not-takes_sign.ensures.taken)) (c.in_ok-part.ensures))))

-- formula

pub formula-disj-requires : goal.formula-disj-requires
formula-disj-requires t c =
    search rules

pub formula-returns-in_err-left : goal.formula-returns-in_err-left
formula-returns-in_err-left t c =
    passed_on (row formula) (row disj) _ _ _ _ _ c.from_residual.ensures.1 c.in_err-left.ensures
    (λ stuck. left_stuck (left_row formula) (seq_stuck (fill (optional (seq (a arrow) (row disj) (λ p both gs. Some (both, gs))))) refl stuck))

pub formula-returns-in_default : goal.formula-returns-in_default
formula-returns-in_default t c =
    reads_as c.or_of.ensures (left_read (left_row formula) (left_read (left_seq refl c.in_ok-left.ensures) (left_read (left_right refl c.in_default.ensures) reads_empty)))

pub formula-disj-requires-2 : goal.formula-disj-requires-2
formula-disj-requires-2 t c =
    search (rules, reads_less c.in_ok-left.ensures, takes_less c.in-Some.ensures)

pub formula-returns-in_err-right : goal.formula-returns-in_err-right
formula-returns-in_err-right t c =
    passed_on (row formula) (row disj) _ _ _ _ _ c.from_residual-in_err-right.ensures.1 c.in_err-right.ensures
    (λ stuck. left_stuck (left_row formula) (left_stuck (left_seq refl c.in_ok-left.ensures) (left_stuck (left_first refl (fronts_taken c.in-Some.ensures)) (left_stuck (left_seq refl (reads_one c.in-Some.ensures)) (stuck)))))

pub formula-returns-then-both : goal.formula-returns-then-both
formula-returns-then-both t c =
    reads_as (ap (λ f. formulas.Iff f c.in_ok-right-2.right) (c.in_ok-left-2.ensures ∙ c.or_of-2.ensures) ∙ ap (formulas.Iff (or_of c.in_ok-left.left)) (c.in_ok-right-2.ensures ∙ c.or_of-3.ensures) ∙ ap (λ b. arrowed b (or_of c.in_ok-left.left) (or_of c.in_ok-right.right)) (sym c.if-both.true)) (left_read (left_row formula) (left_read (left_seq refl c.in_ok-left.ensures) (left_read (left_first refl (fronts_taken c.in-Some.ensures)) (left_read (left_seq refl (reads_one c.in-Some.ensures)) (c.in_ok-right.ensures)))))

pub formula-returns-else-both : goal.formula-returns-else-both
formula-returns-else-both t c =
    reads_as (ap (λ f. formulas.Implies f c.in_ok-right-2.right) (c.in_ok-left-2.ensures ∙ c.or_of-2.ensures) ∙ ap (formulas.Implies (or_of c.in_ok-left.left)) (c.in_ok-right-2.ensures ∙ c.or_of-3.ensures) ∙ ap (λ b. arrowed b (or_of c.in_ok-left.left) (or_of c.in_ok-right.right)) (sym c.if-both.false)) (left_read (left_row formula) (left_read (left_seq refl c.in_ok-left.ensures) (left_read (left_first refl (fronts_taken c.in-Some.ensures)) (left_read (left_seq refl (reads_one c.in-Some.ensures)) (c.in_ok-right.ensures)))))

-- primary

pub primary-formula_until-requires : goal.primary-formula_until-requires
primary-formula_until-requires t c =
    search (rules, takes_less c.if-takes_sign.ensures.taken)

pub primary-returns-then-takes_sign : goal.primary-returns-then-takes_sign
primary-returns-then-takes_sign t c =
    handed_on (row primary) (before_sign (row formula) signs.RightRound) _ _ _ _ (left_left (left_row primary) (left_left (left_first refl (fronts_taken c.if-takes_sign.ensures.taken)) (left_seq refl (reads_one c.if-takes_sign.ensures.taken)))) c.formula_until.ensures

pub primary-bound-requires : goal.primary-bound-requires
primary-bound-requires t c =
    search (rules, stays_same c.if-takes_sign.ensures.left, takes_less c.in-Some.ensures)

pub primary-returns-in_err-name : goal.primary-returns-in_err-name
primary-returns-in_err-name t c =
    passed_on (row primary) bound _ _ _ _ _ c.from_residual.ensures.1 c.in_err-name.ensures
    (λ stuck. left_stuck (left_row primary) (left_stuck (left_right refl c.if-takes_sign.ensures.left) (left_stuck (left_first refl (fronts_taken c.in-Some.ensures)) (left_stuck (left_seq refl (reads_one c.in-Some.ensures)) (stuck)))))

pub primary-returns-in-Some : goal.primary-returns-in-Some
primary-returns-in-Some t c =
    reads_as (ap (formulas.Quantified c.in-Some.quantifier c.in_ok-name.name c.in_ok-name.range) c.in_ok-part.ensures) (left_read (left_row primary) (left_read (left_right refl c.if-takes_sign.ensures.left) (left_read (left_first refl (fronts_taken c.in-Some.ensures)) (left_read (left_seq refl (reads_one c.in-Some.ensures)) (c.in_ok-name.ensures)))))

pub primary-operation-requires : goal.primary-operation-requires
primary-operation-requires t c =
    search (rules, stays_same c.if-takes_sign.ensures.left, stays_same c.in_default.ensures)

pub primary-returns : goal.primary-returns
primary-returns t c =
    handed_on (row primary) (either one_operation (either far_operation (either pair_operation atom))) _ _ _ _ (left_left (left_row primary) (left_left (left_right refl c.if-takes_sign.ensures.left) (left_right refl c.in_default.ensures))) c.operation.ensures

-- operation

pub operation-round-requires : goal.operation-round-requires
operation-round-requires t c =
    search (rules, takes_less c.in-Some.ensures)

pub operation-returns-in_err-part : goal.operation-returns-in_err-part
operation-returns-in_err-part t c =
    passed_on (either one_operation (either far_operation (either pair_operation atom))) (round (row formula)) _ _ _ _ _ c.from_residual.ensures.1 c.in_err-part.ensures
    (λ stuck. left_stuck (left_first refl (fronts_taken c.in-Some.ensures)) (left_stuck (left_seq refl (reads_one c.in-Some.ensures)) (stuck)))

pub operation-returns-in-Some : goal.operation-returns-in-Some
operation-returns-in-Some t c =
    reads_as (ap (formulas.One c.in-Some.op) c.in_ok-part-2.ensures) (left_read (left_first refl (fronts_taken c.in-Some.ensures)) (left_read (left_seq refl (reads_one c.in-Some.ensures)) (c.in_ok-part.ensures)))

pub operation-distant-requires : goal.operation-distant-requires
operation-distant-requires t c =
    search (rules, stays_same c.in_default.ensures, takes_less c.in-Some-takes_far_operator.ensures)

pub operation-returns-in_err-part-3 : goal.operation-returns-in_err-part-3
operation-returns-in_err-part-3 t c =
    passed_on (either one_operation (either far_operation (either pair_operation atom))) distant _ _ _ _ _ c.from_residual-in_err-part-3.ensures.1 c.in_err-part-3.ensures
    (λ stuck. left_stuck (left_right refl c.in_default.ensures) (left_stuck (left_first refl (fronts_taken c.in-Some-takes_far_operator.ensures)) (left_stuck (left_seq refl (reads_one c.in-Some-takes_far_operator.ensures)) (stuck))))

pub operation-returns-in-Some-takes_far_operator : goal.operation-returns-in-Some-takes_far_operator
operation-returns-in-Some-takes_far_operator t c =
    let far = made_beside c.new-in-Some-takes_far_operator.result c.new-in-Some-takes_far_operator.ensures (sym c.beside.ensures ∙ c.in_ok-distance.was) in
    reads_as (ap₂ (λ distance part. formulas.Far c.in-Some-takes_far_operator.op part distance) far.0 far.1) (left_read (left_right refl c.in_default.ensures) (left_read (left_first refl (fronts_taken c.in-Some-takes_far_operator.ensures)) (left_read (left_seq refl (reads_one c.in-Some-takes_far_operator.ensures)) (c.in_ok-part-3.ensures))))

pub operation-pair_or_atom-requires : goal.operation-pair_or_atom-requires
operation-pair_or_atom-requires t c =
    search (rules, stays_same c.in_default.ensures, stays_same c.in_default-takes_far_operator.ensures)

pub operation-returns : goal.operation-returns
operation-returns t c =
    handed_on (either one_operation (either far_operation (either pair_operation atom))) (either pair_operation atom) _ _ _ _ (left_left (left_right refl c.in_default.ensures) (left_right refl c.in_default-takes_far_operator.ensures)) c.pair_or_atom.ensures

-- pair_or_atom

pub pair_or_atom-returns-in_default : goal.pair_or_atom-returns-in_default
pair_or_atom-returns-in_default t c =
    handed_on (either pair_operation atom) atom _ _ _ _ (left_right refl c.in_default.ensures) c.atom.ensures

pub pair_or_atom-paired-requires : goal.pair_or_atom-paired-requires
pair_or_atom-paired-requires t c =
    search (rules, takes_less c.in-Some.ensures)

pub pair_or_atom-returns-in_err-left : goal.pair_or_atom-returns-in_err-left
pair_or_atom-returns-in_err-left t c =
    passed_on (either pair_operation atom) paired _ _ _ _ _ c.from_residual.ensures.1 c.in_err-left.ensures
    (λ stuck. left_stuck (left_first refl (fronts_taken c.in-Some.ensures)) (left_stuck (left_seq refl (reads_one c.in-Some.ensures)) (stuck)))

pub pair_or_atom-returns : goal.pair_or_atom-returns
pair_or_atom-returns t c =
    let first = made_beside c.new.result c.new.ensures (sym c.beside.ensures ∙ c.in_ok-right.was) in
    let second = made_beside c.new-2.result c.new-2.ensures (sym c.beside-2.ensures ∙ c.in_ok-left-2.was) in
    reads_as (ap₂ (λ left right. formulas.Pair c.in-Some.op left right) (second.0 ∙ first.1) (second.1 ∙ first.0)) (left_read (left_first refl (fronts_taken c.in-Some.ensures)) (left_read (left_seq refl (reads_one c.in-Some.ensures)) (c.in_ok-left.ensures)))
