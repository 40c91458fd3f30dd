-- The answers to the goals of `failed_write_is_not_whole`.
use Rattle.std.proofs.Common.{◌≡◌, ◌≢◌, ℕ, ◌<◌, List, length, ◌++◌, ap, sym, ◌∙◌, arith, length-append}
use Rattle.trio_io.proofs.laws.failed_write_is_not_whole.Goals as goal

-- a front is not the whole where a rest is left
shorter : (before front rest : List ℕ) → 0 < length rest → before ++ front ≢ before ++ (front ++ rest)
shorter before front rest left = λ same.
    let lengths : length (before ++ front) ≡ length (before ++ (front ++ rest)) = ap length same in
    omega (arith, simp length-append at lengths)

pub returns-clause-unfinished : goal.returns-clause-unfinished
returns-clause-unfinished c = λ before now bytes told part same.
    shorter before.written part.front.front part.front.rest part.unfinished
    (sym (part.front.written told) ∙ same ∙ ap (λ (x : List ℕ). before.written ++ x) part.front.parts)
