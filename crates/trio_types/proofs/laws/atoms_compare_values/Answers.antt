-- The answers to the goals of `atoms_compare_values`.
use Rattle.trio_types.proofs.Atoms.{compare_law, lone_law, no_value_law, constant_law}
use Rattle.trio_types.proofs.laws.atoms_compare_values.Goals as goal

pub returns-clause-compare : goal.returns-clause-compare
returns-clause-compare c = compare_law

pub returns-clause-lone : goal.returns-clause-lone
returns-clause-lone c = lone_law

pub returns-clause-none : goal.returns-clause-none
returns-clause-none c = no_value_law

pub returns-clause-constant : goal.returns-clause-constant
returns-clause-constant c = constant_law
