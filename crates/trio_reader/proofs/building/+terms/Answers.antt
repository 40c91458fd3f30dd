-- The answers to the goals of the erasure of terms.
use mir.Val.{bool_byte}
use Rattle.std.proofs.Common.{◌≡◌, Bool, true, false, if◌then◌else◌, refl, ap, ◌∙◌}
use Rattle.trio_types.specs.declared.formula.Term.TheVariants as term
use Rattle.trio_reader.proofs.Erased.{term-shape, shape-Number, shape-Truth, shape-Named, shape-Call, shape-Sum, shape-Times}
use Rattle.trio_reader.proofs.building.+terms.Goals as goal

pub term_of-returns : goal.term_of-returns
term_of-returns t c = rw term-shape c.shape_of.ensures

pub shape_of-returns-in-Number : goal.shape_of-returns-in-Number
shape_of-returns-in-Number t c = rw (c.in-Number.is, shape-Number) refl

byte_of : (b : Bool) → bool_byte b ≡ (if b then 1 else 0)
byte_of true = refl
byte_of false = refl

pub shape_of-returns-in-Truth : goal.shape_of-returns-in-Truth
shape_of-returns-in-Truth t c = rw (c.in-Truth.is, shape-Truth) (ap (term.Value 0) (c.from.ensures ∙ byte_of c.in-Truth.value))

pub shape_of-returns-in-Named : goal.shape_of-returns-in-Named
shape_of-returns-in-Named t c = rw (c.in-Named.is, shape-Named, ← c.sense_of.ensures) c.named_of.ensures

pub shape_of-returns-in_ok-arguments-in-Call : goal.shape_of-returns-in_ok-arguments-in-Call
shape_of-returns-in_ok-arguments-in-Call t c =
    rw (c.in-Call.is, shape-Call, c.item-item.ensures, c.in_ok-arguments-in-Call.ensures, c.as_slice.ensures, c.sense_of-in-Call.ensures, c.items.ensures) refl

pub shape_of-returns-in_ok-parts_of-in-Sum : goal.shape_of-returns-in_ok-parts_of-in-Sum
shape_of-returns-in_ok-parts_of-in-Sum t c = rw (c.in-Sum.is, shape-Sum, c.in_ok-parts_of-in-Sum.ensures, c.as_slice-in-Sum.ensures) refl

pub shape_of-returns-in_ok-new-in-Times : goal.shape_of-returns-in_ok-new-in-Times
shape_of-returns-in_ok-new-in-Times t c =
    rw (c.in-Times.is, shape-Times, c.in_ok-new-in-Times.ensures, c.in_ok-factor-in-Times.ensures, c.get.ensures) refl
