-- Values that are printed one after another.
use Rattle.std.proofs.Common.{◌≡◌, ℕ, zero, suc, ◌+◌, ◌≤◌, List, [], ◌∷◌, ◌++◌, length, drop, min, refl, sym, ap, ◌∙◌, append_assoc, append-nil, arith, Some, slice_get}
use Rattle.std.proofs.lemmas.Option.{none-some, same_Some}
use Rattle.trio_types.specs.World.{World}
use Rattle.history_table.specs.Printed.{value_text, values_text}

values_at : (w : World) (first : List ℕ) (ds vs : List ℕ) (k d v : ℕ) → slice_get ds k ≡ Some d → slice_get vs k ≡ Some v →
    values_text w first (drop k ds) (drop k vs) ≡ first ++ value_text w d v ++ values_text w (44 ∷ []) (drop (k + 1) ds) (drop (k + 1) vs)
values_at w first [] vs k d v at at_value = absurd (none-some d at)
values_at w first (e ∷ ds) [] k d v at at_value = absurd (none-some v at_value)
values_at w first (e ∷ ds) (u ∷ vs) zero d v at at_value =
    ap (λ x. first ++ value_text w x u ++ values_text w (44 ∷ []) ds vs) (same_Some e d at)
    ∙ ap (λ y. first ++ value_text w d y ++ values_text w (44 ∷ []) ds vs) (same_Some u v at_value)
values_at w first (e ∷ ds) (u ∷ vs) (suc k) d v at at_value =
    let next : suc k + 1 ≡ suc (k + 1) = omega arith in rw next (values_at w first ds vs k d v at at_value)

values_end : (w : World) (first : List ℕ) (ds vs : List ℕ) (k : ℕ) → min (length ds) (length vs) ≤ k → values_text w first (drop k ds) (drop k vs) ≡ []
values_end w first [] vs zero past = refl
values_end w first [] vs (suc k) past = refl
values_end w first (d ∷ ds) [] zero past = refl
values_end w first (d ∷ ds) [] (suc k) past = none (drop k ds)
  where
    none : (es : List ℕ) → values_text w first es [] ≡ []
    none [] = refl
    none (e ∷ es) = refl
values_end w first (d ∷ ds) (v ∷ vs) zero past = absurd (omega (arith, past))
values_end w first (d ∷ ds) (v ∷ vs) (suc k) past = values_end w first ds vs k (omega (arith, past))

-- one value more is printed
pub value_more : (w : World) (text signed more whole first : List ℕ) (ds vs : List ℕ) (k d v : ℕ) → slice_get ds k ≡ Some d → slice_get vs k ≡ Some v →
    text ++ values_text w first (drop k ds) (drop k vs) ≡ whole → signed ≡ text ++ first → more ≡ signed ++ value_text w d v →
    more ++ values_text w (44 ∷ []) (drop (k + 1) ds) (drop (k + 1) vs) ≡ whole
value_more w text signed more whole first ds vs k d v at at_value so_far sign value =
    let rest = values_text w (44 ∷ []) (drop (k + 1) ds) (drop (k + 1) vs) in
    ap (λ t. t ++ rest) (value ∙ ap (λ t. t ++ value_text w d v) sign ∙ append_assoc text first (value_text w d v))
    ∙ append_assoc text (first ++ value_text w d v) rest ∙ ap (λ t. text ++ t) (sym (values_at w first ds vs k d v at at_value)) ∙ so_far

pub values_whole : (w : World) (text whole first : List ℕ) (ds vs : List ℕ) (k : ℕ) → min (length ds) (length vs) ≤ k →
    text ++ values_text w first (drop k ds) (drop k vs) ≡ whole → text ≡ whole
values_whole w text whole first ds vs k past so_far =
    sym (append-nil text) ∙ ap (λ t. text ++ t) (sym (values_end w first ds vs k past)) ∙ so_far
