-- The truth of many parts joined by halves.
use Rattle.std.proofs.Common.{◌≡◌, ℕ, zero, suc, ◌+◌, ◌/◌, ℤ, Bool, true, false, ◌&&◌, ◌||◌, List, [], ◌∷◌, ◌++◌, length, take, drop, refl, sym, ap, ◌∙◌}
use Rattle.std.specs.List.{list_all, list_any}
use Rattle.std.proofs.lemmas.List.{take-append-drop}
use Rattle.std.proofs.lemmas.List.Folds.{list_all-append}
use Rattle.trio_types.specs.World.{World}
use Rattle.trio_types.proofs.ValueAt.{value-Number}
use Rattle.derived_ops.specs.Shape.{Shape, both, either}
use Rattle.derived_ops.specs.declared.joint.Joint.TheVariants as joint
use Rattle.derived_ops.specs.Rewriting.{joined, of_none, all_joined}
use Rattle.derived_ops.proofs.Told.{shape_truth}

list_any-append : {X : Type 0} (p : X → Bool) (xs ys : List X) → list_any p (xs ++ ys) ≡ (list_any p xs || list_any p ys)
list_any-append p [] ys = refl
list_any-append p (x ∷ xs) ys = ap (λ b. p x || b) (list_any-append p xs ys) ∙ regroup (p x) (list_any p xs) (list_any p ys)
  where
    regroup : (a b c : Bool) → (a || (b || c)) ≡ ((a || b) || c)
    regroup true b c = refl
    regroup false b c = refl

and_true : (b : Bool) → b ≡ (b && true)
and_true true = refl
and_true false = refl

or_false : (b : Bool) → b ≡ (b || false)
or_false true = refl
or_false false = refl

module _ (w : World) (e : List ℤ) (t : List ℕ) (i : ℕ) where
  abbrev holds : Shape → Bool
  holds s = shape_truth w s e t i

  nothing_holds : holds (of_none joint.And) ≡ true
  nothing_holds = rw (value-Number w 0 e t i) refl

  nothing_fails : holds (of_none joint.Or) ≡ false
  nothing_fails = rw (value-Number w 0 e t i) refl

  joined_and : (depth : ℕ) (ss : List Shape) → holds (joined both (of_none joint.And) depth ss) ≡ list_all holds ss
  joined_and zero [] = nothing_holds
  joined_and (suc depth) [] = nothing_holds
  joined_and zero (s ∷ []) = and_true (holds s)
  joined_and (suc depth) (s ∷ []) = and_true (holds s)
  joined_and zero (s ∷ u ∷ ss) = ap (λ b. holds s && b) (joined_and zero (u ∷ ss))
  joined_and (suc depth) (s ∷ u ∷ ss) =
      let half = (length (s ∷ u ∷ ss) + 1) / 2 in
      let first = take half (s ∷ u ∷ ss) in
      let rest = drop half (s ∷ u ∷ ss) in
      ap (λ b. b && holds (joined both (of_none joint.And) depth rest)) (joined_and depth first)
      ∙ ap (λ b. list_all holds first && b) (joined_and depth rest)
      ∙ sym (list_all-append holds first rest)
      ∙ ap (list_all holds) (take-append-drop half (s ∷ u ∷ ss))

  joined_or : (depth : ℕ) (ss : List Shape) → holds (joined either (of_none joint.Or) depth ss) ≡ list_any holds ss
  joined_or zero [] = nothing_fails
  joined_or (suc depth) [] = nothing_fails
  joined_or zero (s ∷ []) = or_false (holds s)
  joined_or (suc depth) (s ∷ []) = or_false (holds s)
  joined_or zero (s ∷ u ∷ ss) = ap (λ b. holds s || b) (joined_or zero (u ∷ ss))
  joined_or (suc depth) (s ∷ u ∷ ss) =
      let half = (length (s ∷ u ∷ ss) + 1) / 2 in
      let first = take half (s ∷ u ∷ ss) in
      let rest = drop half (s ∷ u ∷ ss) in
      ap (λ b. b || holds (joined either (of_none joint.Or) depth rest)) (joined_or depth first)
      ∙ ap (λ b. list_any holds first || b) (joined_or depth rest)
      ∙ sym (list_any-append holds first rest)
      ∙ ap (list_any holds) (take-append-drop half (s ∷ u ∷ ss))

  pub all_hold : (ss : List Shape) → holds (all_joined joint.And ss) ≡ list_all holds ss
  all_hold ss = joined_and (length ss) ss

  pub some_holds : (ss : List Shape) → holds (all_joined joint.Or ss) ≡ list_any holds ss
  some_holds ss = joined_or (length ss) ss
