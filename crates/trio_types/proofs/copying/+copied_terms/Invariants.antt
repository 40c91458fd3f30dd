-- What the loops over arguments and over parts of sums keep.
use Rattle.std.proofs.Common.{◌≡◌, take}
use Rattle.trio_types.proofs.copying.+copied_terms.Given as goal

abbrev pub invariant-copied_terms-loop-term : goal.invariant-copied_terms-loop-term
invariant-copied_terms-loop-term l = l.made.items ≡ take l.term-index l.terms

abbrev pub invariant-copied_parts-loop-part : goal.invariant-copied_parts-loop-part
invariant-copied_parts-loop-part l = l.made.items ≡ take l.part-index l.parts
