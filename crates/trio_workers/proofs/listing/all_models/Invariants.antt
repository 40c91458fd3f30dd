-- The ledger that `counted_models` counts in.
use Rattle.trio_workers.proofs.listing.all_models.Given as goal

abbrev pub ghosts-counted_models : goal.ghosts-counted_models
ghosts-counted_models a = record { name = a.blank.name; parts = a.blank.parts }
