-- What the loops over arguments and over parts of sums keep.
use Rattle.std.proofs.Common.{◌≡◌, map, take}
use Rattle.derived_ops.specs.Rewriting.{renamed}
use Rattle.derived_ops.specs.Terms.{part_of}
use Rattle.derived_ops.proofs.terms.+terms.Given as goal

abbrev pub invariant-renamed_terms-loop-term : goal.invariant-renamed_terms-loop-term
invariant-renamed_terms-loop-term l = l.made.items ≡ map (renamed l.levels) (take l.term-index l.terms)

abbrev pub invariant-renamed_parts-loop-part : goal.invariant-renamed_parts-loop-part
invariant-renamed_parts-loop-part l = l.made.items ≡ map (part_of l.levels) (take l.part-index l.parts)
