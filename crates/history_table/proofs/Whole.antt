-- A given history in which every value is known, value by value.
use Rattle.std.proofs.Common.{◌≡◌, ℕ, ◌+◌, ◌<◌, nat_lt, List, [], ◌∷◌, ◌++◌, length, take, map, get_or, set, Option, None, Some, sym, ap, ◌∙◌, arith, is_none}
use Rattle.std.specs.List.{position_or_len}
use Rattle.std.proofs.Math.Path.{ap₂}
use Rattle.std.proofs.Math.Logic.{⊎_elim}
use Rattle.std.proofs.lemmas.Bool.{cases_lt, cond-true, lt-ltb, true≢false}
use Rattle.std.proofs.lemmas.Option.{none-some}
use Rattle.std.proofs.lemmas.List.{take_more, take_more_set, map-append}
use Rattle.std.proofs.lemmas.List.Sums.{fails_before_first}
use Rattle.history_table.specs.Fitting.{first_unknown}

-- where no cell is unknown, this one is known
pub is_known : (given : List (Option ℕ)) (k : ℕ) → first_unknown given ≡ None → k < length given → get_or given k None ≡ None → ⊥
is_known given k none inside is =
    ⊎_elim
    (λ lt. none-some (position_or_len is_none given) (sym none ∙ cond-true (nat_lt (position_or_len is_none given) (length given)) (Some (position_or_len is_none given)) None (lt-ltb (position_or_len is_none given) (length given) lt)))
    (λ le. true≢false (ap is_none (sym is) ∙ fails_before_first is_none given k None (omega (arith, inside, le))))
    (cases_lt (position_or_len is_none given) (length given))

pub known_more : (given : List (Option ℕ)) (table : List ℕ) (k index : ℕ) → k < length given → length table ≡ length given → Some index ≡ get_or given k None →
    take k given ≡ map Some (take k table) → take (k + 1) given ≡ map Some (take (k + 1) (set table k index))
known_more given table k index inside same is so_far =
    take_more given k None inside ∙ ap₂ (λ xs x. xs ++ x ∷ []) so_far (sym is)
    ∙ sym (map-append Some (take k table) (index ∷ [])) ∙ ap (map Some) (sym (take_more_set table k index (omega (arith, inside, same))))
