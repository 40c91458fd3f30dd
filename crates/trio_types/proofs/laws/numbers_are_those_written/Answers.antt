-- The answers to the goals of `numbers_are_those_written`.
use Rattle.std.proofs.Common.{◌≡◌, ◌↔◌, ℕ, [], ◌∷◌, List, Contains, inl, subst}
use Rattle.std.proofs.Math.Logic.{⊎_elim}
use Rattle.trio_types.specs.declared.formula.SignedTerm.{out-SignedTerm}
use Rattle.trio_types.specs.Shape.{numbers_in, numbers_of}
use Rattle.trio_types.proofs.Contained.{cons_law, append_law, flat_law, none_contained, along_list}
use Rattle.trio_types.proofs.ShapeAt.{numbers_in-Number, numbers_in-Value, numbers_in-Var, numbers_in-Read, numbers_in-Sum, numbers_in-Times}
use Rattle.trio_types.proofs.ShapeAt.{numbers_of-Lone, numbers_of-Compare, numbers_of-Not, numbers_of-And, numbers_of-Or, numbers_of-Implies, numbers_of-Iff, numbers_of-All, numbers_of-Ex, numbers_of-One, numbers_of-Far, numbers_of-Pair}
use Rattle.trio_types.proofs.laws.numbers_are_those_written.Goals as goal

alone : (n m : ℕ) → Contains (n ∷ []) m ↔ (m ≡ n)
alone n m = (λ has. ⊎_elim (λ same. same) (λ none. absurd (none_contained m none)) ((cons_law n [] m).0 has), λ same. (cons_law n [] m).1 (inl same))

none : (ns : List ℕ) (m : ℕ) → ns ≡ [] → Contains ns m → ⊥
none ns m is has = none_contained m (subst (λ ks. Contains ks m) is has)

itself : (ns : List ℕ) (m : ℕ) → Contains ns m ↔ Contains ns m
itself ns m = (λ has. has, λ has. has)

pub returns-clause-terms : goal.returns-clause-terms
returns-clause-terms c = record {
  number = λ n m. along_list _ _ m _ (numbers_in-Number n) (alone n m);
  constant = λ d v m. none _ m (numbers_in-Value d v);
  variable = λ level m. none _ m (numbers_in-Var level);
  read = λ item xs m. along_list _ _ m _ (numbers_in-Read item xs) (flat_law numbers_in xs m);
  sum = λ ps m. along_list _ _ m _ (numbers_in-Sum ps) (flat_law (λ p. numbers_in (out-SignedTerm p).term) ps m);
  times = λ n x m. along_list _ _ m _ (numbers_in-Times n x) (cons_law n (numbers_in x) m);
}

pub returns-clause-formulas : goal.returns-clause-formulas
returns-clause-formulas c = record {
  lone = λ x m. along_list _ _ m _ (numbers_of-Lone x) (itself _ m);
  compare = λ r x y m. along_list _ _ m _ (numbers_of-Compare r x y) (append_law _ _ m);
  no = λ f m. along_list _ _ m _ (numbers_of-Not f) (itself _ m);
  both = λ fs m. along_list _ _ m _ (numbers_of-And fs) (flat_law numbers_of fs m);
  either = λ fs m. along_list _ _ m _ (numbers_of-Or fs) (flat_law numbers_of fs m);
  implies = λ f g m. along_list _ _ m _ (numbers_of-Implies f g) (append_law _ _ m);
  iff = λ f g m. along_list _ _ m _ (numbers_of-Iff f g) (append_law _ _ m);
  every = λ name d f m. along_list _ _ m _ (numbers_of-All name d f) (itself _ m);
  some = λ name d f m. along_list _ _ m _ (numbers_of-Ex name d f) (itself _ m);
  one = λ o f m. along_list _ _ m _ (numbers_of-One o f) (itself _ m);
  far = λ o f x m. along_list _ _ m _ (numbers_of-Far o f x) (append_law _ _ m);
  pair = λ o f g m. along_list _ _ m _ (numbers_of-Pair o f g) (append_law _ _ m);
}
