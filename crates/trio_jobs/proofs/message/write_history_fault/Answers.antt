-- Each fault has its line.
use Rattle.trio_jobs.proofs.message.write_history_fault.Goals as goal

pub returns-in-Lex : goal.returns-in-Lex
returns-in-Lex g c = rw c.in-Lex.is c.write_numbered.ensures

pub returns-in-Syntax : goal.returns-in-Syntax
returns-in-Syntax g c = rw c.in-Syntax.is c.write_numbered-in-Syntax.ensures

pub returns-in-UnknownRow : goal.returns-in-UnknownRow
returns-in-UnknownRow g c = rw c.in-UnknownRow.is c.write_numbered-in-UnknownRow.ensures

pub returns-in-TwiceRow : goal.returns-in-TwiceRow
returns-in-TwiceRow g c = rw c.in-TwiceRow.is c.write_numbered-in-TwiceRow.ensures

pub returns-in-Length : goal.returns-in-Length
returns-in-Length g c = rw c.in-Length.is c.write_numbered-in-Length.ensures

pub returns-in-Value : goal.returns-in-Value
returns-in-Value g c = rw c.in-Value.is c.write_value.ensures

pub returns-in-MissingRow : goal.returns-in-MissingRow
returns-in-MissingRow g c = rw c.in-MissingRow.is c.write_numbered-in-MissingRow.ensures

pub returns-in-Memory : goal.returns-in-Memory
returns-in-Memory g c = rw c.in-Memory.is c.write_whole.ensures
