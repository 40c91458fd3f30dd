-- The five nodes that make two parts equal.
use Rattle.derived_ops.proofs.Writing.{add_equal}
use Rattle.derived_ops.proofs.writer.Writer.equal.Goals as goal

pub returns : goal.returns
returns c = λ s u first middle left right.
    add_equal s u first middle c.args.self.now c.write.new.self c.write-2.new.self c.write-3.new.self c.write-4.new.self c.write-5.new.self
    c.args.left c.args.right c.in_ok-both.both c.in_ok-no_left.no_left c.in_ok-no_right.no_right c.in_ok-neither.neither c.in_ok-at.at
    left right c.in_ok-both.ensures c.in_ok-no_left.ensures c.in_ok-no_right.ensures c.in_ok-neither.ensures c.in_ok-at.ensures
