-- The parts of renamed terms.
use Rattle.trio_types.specs.declared.formula.SignedTerm.{SignedTerm, out-SignedTerm, roll-SignedTerm}
use Rattle.derived_ops.specs.Rewriting.{Levels, renamed}

-- a part of a sum with its variables at their levels in the core
abbrev pub part_of : Levels → SignedTerm → SignedTerm
part_of levels p = roll-SignedTerm (record { minus = (out-SignedTerm p).minus; term = renamed levels (out-SignedTerm p).term })
