-- At each exit: the only reference, or where none goes on.
use Rattle.std.proofs.Common.{refl}
use Rattle.trio_syntax.specs.declared.tree.RefTree.TheVariants as ref_to
use Rattle.trio_syntax.specs.Grammar.{a_name, ref}
use Rattle.trio_syntax.proofs.Left.{left_read, left_stuck, left_right, left_first, reads_one, fronts_taken}
use Rattle.trio_syntax.proofs.Exits.{passed_on, one_reads, one_stuck}
use Rattle.trio_syntax.proofs.parser.Parser.reference.Goals as goal

pub returns-then-takes_word : goal.returns-then-takes_word
returns-then-takes_word c =
    left_read (left_first refl (fronts_taken c.if-takes_word.ensures.taken)) (reads_one c.if-takes_word.ensures.taken)

pub returns-in_err-name : goal.returns-in_err-name
returns-in_err-name c =
    passed_on ref a_name _ _ _ _ _ c.from_residual.ensures.1 c.in_err-name.ensures (λ stuck. left_stuck (left_right refl c.if-takes_word.ensures.left) (one_stuck stuck))

pub returns : goal.returns
returns c =
    left_read (left_right refl c.if-takes_word.ensures.left) (one_reads ref_to.Named (λ p m. refl) c.in_ok-name.ensures)
