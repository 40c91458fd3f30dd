use Rattle.trio_tests.proofs.tests.spec_maker.SpecMaker.+factor.Given as goal

abbrev pub decreases-factor : goal.decreases-factor
decreases-factor l = l.depth
