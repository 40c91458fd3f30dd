-- The ledger is that of the new count.
use Rattle.trio_tests.proofs.tests.regions.run.Given as goal

abbrev pub ghosts-counted : goal.ghosts-counted
ghosts-counted g a = record { name = a.blank.name; parts = a.blank.parts }
