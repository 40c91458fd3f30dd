-- What each command is to do.
use Rattle.std.specs.Prelude.{◌≡◌, ℕ, List, Option, None, Some}
use Rattle.trio_jobs.specs.declared.status.Status.{Status}
use Rattle.trio_jobs.specs.declared.status.Status.TheVariants as status
use Rattle.trio_jobs.specs.declared.command.Command.{Command}
use Rattle.trio_jobs.specs.declared.command.Command.TheVariants as command
use Rattle.trio_jobs.specs.Job.{Job}
use Rattle.trio_jobs.specs.Message.{usage_line}
use Rattle.trio_jobs.specs.Check.{check_job}
use Rattle.trio_main.specs.Complete.{complete_job}

-- the usage line, for which no file is read
pub record UsageDue (reads : ℕ) (s : Status) (text : List ℕ) : Type 0 where
  pub reads_none : reads ≡ 0
  pub status_is : s ≡ status.Usage
  pub text_is : text ≡ usage_line

-- what is to be done with words that are no command
abbrev pub usage_job : Job
usage_job = record { due = λ shelf. UsageDue; reaches = λ shelf place. ⊥ }

-- what is to be done with a command, or with words that are none
abbrev pub job_of : Option Command → Job
job_of None = usage_job
job_of (Some (command.Check spec_name history_name)) = check_job spec_name history_name
job_of (Some (command.Complete spec_name history_name)) = complete_job spec_name history_name
