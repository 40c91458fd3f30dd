-- The answer to the goal of `same` for values of variables.
use Rattle.std.proofs.Common.{sym, ◌∙◌}
use Rattle.std.proofs.lemmas.Bool.Decides.{Decides-int_eq}
use Rattle.std.proofs.lemmas.Slice.Eq.{slice_eq-Decides}
use Rattle.branch_state.proofs.equal.EnvSame.same.Goals as goal

pub returns : goal.returns
returns c =
    let test = slice_eq-Decides Decides-int_eq c.as_slice.result.now c.as_slice-2.result.now c.eq.result c.eq.ensures in (
      λ is. sym c.as_slice.ensures ∙ test.0 is ∙ c.as_slice-2.ensures,
      λ same. test.1 (c.as_slice.ensures ∙ same ∙ sym c.as_slice-2.ensures),
    )
