-- Each fault has its line.
use Rattle.trio_jobs.proofs.message.write_spec_fault.Goals as goal

pub returns-in-Lex : goal.returns-in-Lex
returns-in-Lex g c = rw c.in-Lex.is c.write_numbered.ensures

pub returns-in-Deep : goal.returns-in-Deep
returns-in-Deep g c = rw c.in-Deep.is c.write_numbered-in-Deep.ensures

pub returns-in-Syntax : goal.returns-in-Syntax
returns-in-Syntax g c = rw c.in-Syntax.is c.write_numbered-in-Syntax.ensures

pub returns-in-Unknown : goal.returns-in-Unknown
returns-in-Unknown g c = rw c.in-Unknown.is c.write_numbered-in-Unknown.ensures

pub returns-in-Twice : goal.returns-in-Twice
returns-in-Twice g c = rw c.in-Twice.is c.write_numbered-in-Twice.ensures

pub returns-in-Kind : goal.returns-in-Kind
returns-in-Kind g c = rw c.in-Kind.is c.write_numbered-in-Kind.ensures

pub returns-in-Range : goal.returns-in-Range
returns-in-Range g c = rw c.in-Range.is c.write_numbered-in-Range.ensures

pub returns-in-Memory : goal.returns-in-Memory
returns-in-Memory g c = rw c.in-Memory.is c.write_whole.ensures
