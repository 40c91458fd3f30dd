-- The counts of terms and formulas as code keeps them, each as it is given.
use Rattle.std.specs.Prelude.{ℕ, ◌+◌, ◌-◌, ◌*◌, List, [], ◌∷◌, ◌++◌, length, map, sum}
use Rattle.trio_types.specs.declared.formula.Term.{Term}
use Rattle.trio_types.specs.declared.formula.Formula.{Formula}
use Rattle.trio_types.specs.World.{World, size_of}
use Rattle.trio_types.specs.declared.formula.SignedTerm.{SignedTerm, out-SignedTerm}
use Rattle.trio_types.specs.Bounds.{greatest, bound_of, greatest_bound}
use Rattle.trio_types.specs.Instances.{instances}
use Rattle.trio_types.specs.Nest.{in_brackets, nest_of_term, nest_of}
use Rattle.trio_limits.specs.declared.counts.TermCounts.{TermCounts}
use Rattle.trio_limits.specs.declared.counts.Counts.{Counts}
use Rattle.trio_limits.specs.declared.counts.ArgumentCounts.{ArgumentCounts}
use Rattle.trio_limits.specs.declared.counts.PartCounts.{PartCounts}
use Rattle.trio_limits.specs.declared.counts.ListCounts.{ListCounts}
use Rattle.trio_limits.specs.Given.{given_count}

-- a term's own bound and the greatest in it, and the brackets of its text by itself, as a part and as a factor
abbrev pub term_counts_of : World → List ℕ → Term → TermCounts
term_counts_of world variables x = record {
  own = given_count (bound_of world variables x).own;
  most = given_count (bound_of world variables x).most;
  plain = given_count (nest_of_term x).plain;
  as_part = given_count (nest_of_term x).as_part;
  as_factor = given_count (nest_of_term x).as_factor;
}

-- a formula's greatest bound, its instances, and the brackets of its text by itself and as a group
abbrev pub counts_of : World → List ℕ → Formula → Counts
counts_of world variables f = record {
  bound = given_count (greatest_bound world f variables);
  instances = given_count (instances world f);
  plain = given_count (nest_of f).plain;
  grouped = given_count (nest_of f).grouped;
}

-- a term that has no parts and this bound
abbrev pub leaf : ℕ → TermCounts
leaf bound = record { own = bound; most = bound; plain = 0; as_part = 0; as_factor = 0 }

-- a formula that stands in brackets where it is a group, and one that is its own group
abbrev pub bracketed : ℕ → ℕ → ℕ → Counts
bracketed bound n plain = record { bound = bound; instances = n; plain = plain; grouped = given_count (plain + 1) }

abbrev pub unbracketed : ℕ → ℕ → ℕ → Counts
unbracketed bound n plain = record { bound = bound; instances = n; plain = plain; grouped = plain }

-- the greatest bound of arguments, and the most brackets of their texts
abbrev pub arguments_of : World → List ℕ → List Term → ArgumentCounts
arguments_of world variables args = record {
  most = given_count (greatest (map (λ a. (bound_of world variables a).most) args));
  plain = given_count (in_brackets (map (λ a. (nest_of_term a).plain) args));
}

-- the sum of the bounds of parts, the greatest of them, and the most brackets of their texts
abbrev pub part_counts : World → List ℕ → List SignedTerm → PartCounts
part_counts world variables parts = record {
  own = given_count (sum (map (λ p. (bound_of world variables (out-SignedTerm p).term).own) parts));
  most = given_count (greatest (map (λ p. (bound_of world variables (out-SignedTerm p).term).most) parts));
  as_part = given_count (greatest (map (λ p. (nest_of_term (out-SignedTerm p).term).as_part) parts));
}

-- the greatest bound of formulas, the sum of their instances, and the most brackets of their groups
abbrev pub formulas_of : World → List ℕ → List Formula → ListCounts
formulas_of world variables fs = record {
  bound = given_count (greatest (map (λ f. greatest_bound world f variables) fs));
  instances = given_count (sum (map (instances world) fs));
  grouped = given_count (greatest (map (λ f. (nest_of f).grouped) fs));
}

-- a conjunction or disjunction of these
abbrev pub connected_counts : World → List ℕ → List Formula → Counts
connected_counts world variables fs = bracketed
    (given_count (greatest (map (λ f. greatest_bound world f variables) fs)))
    (given_count (sum (map (instances world) fs) + (length fs - 1)))
    (given_count (greatest (map (λ f. (nest_of f).grouped) fs)))

-- a quantifier over the domain of this number
abbrev pub quantified_of : World → List ℕ → ℕ → Formula → Counts
quantified_of world variables d f = unbracketed
    (given_count (greatest_bound world f (variables ++ d ∷ [])))
    (given_count (size_of world.domains d * instances world f + 1))
    (given_count (1 + (nest_of f).plain))
