-- The answers to the goals of `statuses_tell_their_causes`.
use Rattle.trio_main.proofs.Told.{usage, unread, unwritten, memory, never}
use Rattle.trio_main.proofs.laws.statuses_tell_their_causes.Goals as goal

pub returns-clause-usage : goal.returns-clause-usage
returns-clause-usage c = usage

pub returns-clause-unread : goal.returns-clause-unread
returns-clause-unread c = unread

pub returns-clause-unwritten : goal.returns-clause-unwritten
returns-clause-unwritten c = unwritten

pub returns-clause-memory : goal.returns-clause-memory
returns-clause-memory c = memory

pub returns-clause-never : goal.returns-clause-never
returns-clause-never c = never
