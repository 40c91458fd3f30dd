use Rattle.std.proofs.Common.{◌∙◌, ◌++◌, ap, arith, None, Some}
use Rattle.trio_types.specs.Cells.{rows_of}
use Rattle.trio_types.specs.Verdict.{world_of}
use Rattle.history_table.proofs.RowPlaces.{at_row, place_within, had_more, gather_more, joined_missing, joined_whole}
use Rattle.history_table.proofs.reader.joined.Goals as goal

pub returns-in_default : goal.returns-in_default
returns-in_default c =
    let w = world_of c.args.spec.now in
    let lines = c.args.found.now.lines in
    joined_missing w lines c.loop-row.row
    (at_row (rows_of w) lines c.args.found.now.places c.loop-row.row None c.requires
    (omega (arith, c.loop-row-test.true, c.row_count-row-end.ensures)) (c.get.ensures ∙ ap Some c.in_default.is)) c.loop-row.invariant.before

pub get-requires-in-loop-row : goal.get-requires-in-loop-row
get-requires-in-loop-row c =
    let lines = c.args.found.now.lines in
    let here =
    at_row (rows_of (world_of c.args.spec.now)) lines c.args.found.now.places c.loop-row.row (Some c.in-Some.place) c.requires
    (omega (arith, c.loop-row-test.true, c.row_count-row-end.ensures)) (c.get.ensures ∙ ap Some c.in-Some.is) in
    place_within lines here.row c.in-Some.place here.is

pub loop-row-preserved : goal.loop-row-preserved
loop-row-preserved c =
    let rows = rows_of (world_of c.args.spec.now) in
    let lines = c.args.found.now.lines in
    let here =
    at_row rows lines c.args.found.now.places c.loop-row.row (Some c.in-Some.place) c.requires
    (omega (arith, c.loop-row-test.true, c.row_count-row-end.ensures)) (c.get.ensures ∙ ap Some c.in-Some.is) in
    record {
      before = had_more rows lines c.loop-row.row c.in-Some.place here c.loop-row.invariant.before;
      gathered = gather_more rows lines c.loop-row.row c.in-Some.place c.get-in-loop-row.result.now c.loop-row.given.items c.append.new.given.items here
          c.get-in-loop-row.ensures c.loop-row.invariant.gathered (c.in_ok-append.ensures ∙ ap (λ cells. c.loop-row.given.items ++ cells) c.as_slice.ensures);
    }

pub returns : goal.returns
returns c =
    joined_whole (world_of c.args.spec.now) c.args.found.now.lines c.loop-row.row c.from_vec.result
    (omega (arith, c.loop-row-test.false, c.row_count-row-end.ensures)) c.loop-row.invariant.before (c.from_vec.ensures ∙ c.loop-row.invariant.gathered)
