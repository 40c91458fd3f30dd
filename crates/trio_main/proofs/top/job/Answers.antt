-- The job is that of the command.
use Rattle.trio_main.proofs.top.job.Goals as goal

pub returns-in-Complete-clause-leaves : goal.returns-in-Complete-clause-leaves
returns-in-Complete-clause-leaves g c = rw c.in-Complete.is c.job_complete.ensures.leaves
