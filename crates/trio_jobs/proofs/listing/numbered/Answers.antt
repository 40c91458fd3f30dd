-- The number's line, and the table.
use Rattle.std.proofs.Common.{◌++◌, ap₂, ◌∙◌, codes, decimal}
use Rattle.trio_types.specs.Verdict.{world_of}
use Rattle.history_table.specs.Texts.{table_text}
use Rattle.trio_jobs.proofs.ListPieces.{behind_line}
use Rattle.trio_jobs.proofs.listing.numbered.Goals as goal

pub returns : goal.returns
returns c =
    c.in_ok-extend_from_slice.ensures.items
    ∙ ap₂ (λ x y. x ++ y) c.in_ok-piece.ensures (c.as_slice.ensures ∙ c.in_ok-text.ensures)
    ∙ behind_line (codes "history ") (decimal c.args.number) (table_text (world_of c.args.spec.now) c.args.table.now)
