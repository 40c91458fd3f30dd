-- The answers to the goals of the renaming of terms.
use Rattle.std.proofs.Common.{refl}
use Rattle.derived_ops.proofs.Renaming.{renamed-Number, renamed-Value, renamed-Var, renamed-Read, renamed-Sum, renamed-Times}
use Rattle.derived_ops.proofs.terms.+terms.Goals as goal

pub renamed-returns-in-Number : goal.renamed-returns-in-Number
renamed-returns-in-Number t c = rw (c.in-Number.is, renamed-Number) refl

pub renamed-returns-in-Value : goal.renamed-returns-in-Value
renamed-returns-in-Value t c = rw (c.in-Value.is, renamed-Value) refl

pub renamed-returns-in-Var : goal.renamed-returns-in-Var
renamed-returns-in-Var t c = rw (c.in-Var.is, renamed-Var) c.variable.ensures

pub renamed-returns-in_ok-arguments-in-Read : goal.renamed-returns-in_ok-arguments-in-Read
renamed-returns-in_ok-arguments-in-Read t c = rw (c.in-Read.is, renamed-Read, c.in_ok-arguments-in-Read.ensures, c.as_slice.ensures) refl

pub renamed-returns-in_ok-parts-in-Sum : goal.renamed-returns-in_ok-parts-in-Sum
renamed-returns-in_ok-parts-in-Sum t c = rw (c.in-Sum.is, renamed-Sum, c.in_ok-parts-in-Sum.ensures, c.as_slice-in-Sum.ensures) refl

pub renamed-returns-in_ok-factor-in-Times-2 : goal.renamed-returns-in_ok-factor-in-Times-2
renamed-returns-in_ok-factor-in-Times-2 t c =
    rw (c.in-Times.is, renamed-Times, c.in_ok-factor-in-Times-2.ensures, c.in_ok-factor-in-Times.ensures, c.get.ensures) refl
