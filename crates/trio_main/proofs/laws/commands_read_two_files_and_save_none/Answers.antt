-- The answers to the goals of `commands_read_two_files_and_save_none`.
use Rattle.trio_main.proofs.Told.{two_files, saves_none}
use Rattle.trio_main.proofs.laws.commands_read_two_files_and_save_none.Goals as goal

pub returns-clause-reads : goal.returns-clause-reads
returns-clause-reads c = two_files

pub returns-clause-saves : goal.returns-clause-saves
returns-clause-saves c = saves_none
