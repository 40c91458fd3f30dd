-- The answers to the goals of `spec_truth3`.
use Rattle.std.proofs.Common.{None, get_or, slice_get, sym, ap, ◌∙◌}
use Rattle.std.proofs.lemmas.Option.{slice_get-get_or}
use Rattle.trio_core.proofs.NodesFit.{root_is_fit}
use Rattle.trio_core.proofs.truth.spec_truth3.Goals as goal

pub root_truth-requires-clause-root_fits : goal.root_truth-requires-clause-root_fits
root_truth-requires-clause-root_fits c =
    let roots = c.as_slice-root-items.result.now in
    let k = c.loop-root.root-index in
    let root = get_or roots k (record { node = 0; at = None }) in
    root_is_fit c.args.core.now k root (ap (λ l. slice_get l k) (sym c.as_slice-root-items.ensures) ∙ slice_get-get_or roots k (record { node = 0; at = None }) c.loop-root-test.true)
