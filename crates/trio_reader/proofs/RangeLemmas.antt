-- The first word behind others.
use Rattle.std.proofs.Common.{◌≡◌, ℕ, zero, suc, List, [], ◌∷◌, map, take, drop, slice_get, refl}
use Rattle.std.specs.Option.{option_map}
use Rattle.trio_syntax.specs.declared.tree.Mention.{Mention}
use Rattle.trio_scope.specs.Places.{least}
use Rattle.trio_reader.specs.Ranges.{words_places}

least_at : (n : ℕ) (words : List Mention) → least (map (λ (w : Mention). w.place) (take 1 (drop n words))) ≡ option_map (λ (w : Mention). w.place) (slice_get words n)
least_at zero [] = refl
least_at zero (w ∷ ws) = refl
least_at (suc n) [] = refl
least_at (suc n) (w ∷ ws) = least_at n ws

pub least_word : (words : List Mention) → least (words_places words) ≡ option_map (λ (w : Mention). w.place) (slice_get words 64)
least_word words = least_at 64 words
