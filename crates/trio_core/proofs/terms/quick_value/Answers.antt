-- The answers to the goals of `quick_value`.
use Rattle.std.proofs.Common.{to_z, of_z, w64, arith}
use Rattle.std.proofs.lemmas.Int.{ints}
use Rattle.trio_core.proofs.TermValues.{number_told, value_told, var_told, var_inside}
use Rattle.trio_core.proofs.terms.quick_value.Goals as goal

pub bounds-under-level : goal.bounds-under-level
bounds-under-level c = var_inside c.in-Var.level c.requires.term_fits c.in-Var.is

pub returns-in-Number : goal.returns-in-Number
returns-in-Number c = number_told c.args.under.now c.args.instant c.in-Number.number c.args.term.now (to_z w64 (of_z w64 c.from.result)) c.in-Number.is (omega (arith, ints, c.from.ensures))

pub returns-in-Value : goal.returns-in-Value
returns-in-Value c =
    value_told c.args.under.now c.args.instant c.in-Value.field-0 c.in-Value.index c.args.term.now (to_z w64 (of_z w64 c.from-in-Value.result)) c.in-Value.is (omega (arith, ints, c.from-in-Value.ensures))

pub returns-in-Var : goal.returns-in-Var
returns-in-Var c = var_told c.args.under.now c.args.instant c.in-Var.level c.args.term.now c.requires.term_fits c.in-Var.is
