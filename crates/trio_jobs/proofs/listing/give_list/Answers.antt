-- The answer was given.
use Rattle.std.proofs.Common.{inl}
use Rattle.trio_jobs.proofs.listing.give_list.Goals as goal

pub returns-in-Ok : goal.returns-in-Ok
returns-in-Ok g c = inl (rw (c.in-Ok.ensures.status, c.in-Ok.ensures.text) at c.give.ensures)
