use Rattle.std.proofs.Common.{[], sym, subst, arith}
use Rattle.trio_types.specs.Verdict.{world_of}
use Rattle.history_table.specs.History.{lines_fault}
use Rattle.history_table.specs.Decoding.{lines_by, placed_of, IsFault}
use Rattle.history_table.proofs.LineRuns.{is_run}
use Rattle.history_table.proofs.LineSteps.{Behind, found_line, faulty_line, last_line, passed_on}
use Rattle.history_table.proofs.lines.read_lines.Goals as goal

pub returns-in_err-line-clause-fault : goal.returns-in_err-line-clause-fault
returns-in_err-line-clause-fault c =
    let world = world_of c.args.spec.now in
    let all = lines_by c.args.tokens.now c.args.lexemes.now in
    let first = c.in-Some.first.now in
    let here = c.split_at.result.0.now in
    let f = c.in_err-line.field-0.0 in
    let run = is_run c.loop-first.tokens_left.now c.loop-first.lexemes_left.now first c.run_length-count.result c.loop-first.invariant.as_many c.in-Some.ensures.value c.run_length-count.ensures.count in
    passed_on (IsFault (lines_fault world [] (placed_of all))) c.from_residual-in_err-line.result f c.from_residual-in_err-line.ensures.1
    (faulty_line world all c.loop-first.tokens_left.now c.loop-first.lexemes_left.now here first c.run_length-count.result c.loop-first.found.lines f
    c.loop-first.invariant.lines run c.split_at.ensures.front
    c.in_err-line.ensures.fault)

pub loop-first-preserved : goal.loop-first-preserved
loop-first-preserved c =
    let world = world_of c.args.spec.now in
    let all = lines_by c.args.tokens.now c.args.lexemes.now in
    let first = c.in-Some.first.now in
    let here = c.split_at.result.0.now in
    let found = c.loop-first.found.lines in
    let after = c.split_at-in-Some.result.1.now in
    let behind = c.split_at.result.1.now in
    let run = is_run c.loop-first.tokens_left.now c.loop-first.lexemes_left.now first c.run_length-count.result c.loop-first.invariant.as_many c.in-Some.ensures.value c.run_length-count.ensures.count in
    record {
      lines = subst (Behind world all (lines_by after behind)) (sym c.in_ok-push.ensures.lines)
          (found_line world all c.loop-first.tokens_left.now after c.loop-first.lexemes_left.now here behind first c.run_length-count.result c.in_ok-line.line found
          c.loop-first.invariant.lines run c.split_at.ensures.front c.split_at-in-Some.ensures.back c.split_at.ensures.back c.in_ok-line.ensures.found c.in_ok-line.ensures.sound);
      as_many = omega (arith, c.split_at.ensures.back_len, c.split_at-in-Some.ensures.back_len, c.loop-first.invariant.as_many);
      placed = c.in_ok-push.ensures.placed;
    }

pub returns-clause-sound : goal.returns-clause-sound
returns-clause-sound c =
    (last_line (world_of c.args.spec.now) (lines_by c.args.tokens.now c.args.lexemes.now) c.loop-first.tokens_left.now c.loop-first.lexemes_left.now c.loop-first.found.lines
    c.loop-first.invariant.lines c.in_default.ensures.value).1
