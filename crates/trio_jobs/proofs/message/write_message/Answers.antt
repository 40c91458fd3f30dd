-- Each fault has its message.
use Rattle.trio_jobs.proofs.message.write_message.Goals as goal

pub returns-in-Read : goal.returns-in-Read
returns-in-Read g c = rw c.in-Read.is c.write_whole.ensures

pub returns-in-TooLong : goal.returns-in-TooLong
returns-in-TooLong g c = rw (c.in-TooLong.is, ← c.long_line.ensures, ← c.as_bytes.ensures.value) c.write_whole-in-TooLong.ensures

pub returns-in-Missing : goal.returns-in-Missing
returns-in-Missing g c = rw (c.in-Missing.is, ← c.as_str.ensures) c.write_missing.ensures

pub returns-in-Memory : goal.returns-in-Memory
returns-in-Memory g c = rw c.in-Memory.is c.write_whole-in-Memory.ensures

pub returns-in-Goal : goal.returns-in-Goal
returns-in-Goal g c = rw c.in-Goal.is c.write_whole-in-Goal.ensures
