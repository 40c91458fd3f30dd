-- Piece by piece the list is made.
use Rattle.std.proofs.Common.{◌++◌, length, ap, ◌∙◌, decimal, codes}
use Rattle.trio_types.specs.Verdict.{world_of}
use Rattle.trio_jobs.proofs.ListPieces.{none_listed, one_listed, last_fits, all_listed}
use Rattle.trio_jobs.proofs.listing.list_answer.Goals as goal

pub numbered-requires : goal.numbered-requires
numbered-requires c =
    c.requires (length c.pop.new.self) c.in-Some.table
    (last_fits (world_of c.args.spec.now) (λ piece. piece.items) c.args.tables c.loop-table.tables c.pop.new.self c.in-Some.table
    c.loop-table.pieces.items c.in-Some.ensures c.loop-table.invariant)

pub loop-table-init : goal.loop-table-init
loop-table-init c =
    none_listed (world_of c.args.spec.now) (λ piece. piece.items) c.args.tables c.new-pieces.result.items c.new-pieces.ensures.items

pub loop-table-preserved : goal.loop-table-preserved
loop-table-preserved c =
    one_listed (world_of c.args.spec.now) (λ piece. piece.items) c.args.tables c.loop-table.tables c.pop.new.self c.in-Some.table
    c.loop-table.pieces.items c.push.new.self.items c.in_ok-numbered.field-0 c.in-Some.ensures c.loop-table.invariant
    c.in_ok-push.ensures.items (rw c.len.ensures at c.in_ok-numbered.ensures)

pub returns-clause-text : goal.returns-clause-text
returns-clause-text c =
    all_listed (world_of c.args.spec.now) (λ piece. piece.items) c.args.tables c.loop-table.tables c.loop-table.pieces.items
    c.push-2.new.self.items c.reverse.new.self.items c.in_ok-counted.field-0 (codes "histories ") (decimal (length c.args.tables))
    c.in_default.ensures.0 c.loop-table.invariant c.in_ok-push-2.ensures.items c.reverse.ensures.items
    (c.in_ok-counted.ensures ∙ ap (λ n. codes "histories " ++ (decimal n ++ codes "\n")) c.len-count.ensures)
