use Rattle.trio_tests.proofs.tests.spec_maker.SpecMaker.+formula.Given as goal

abbrev pub decreases-formula : goal.decreases-formula
decreases-formula l = l.depth
