use Rattle.std.proofs.Common.{ap, sym, ◌∙◌, slice_get, length, refl}
use Rattle.std.proofs.lemmas.Option.{slice_get_within, slice_get_read}
use Rattle.trio_types.specs.Verdict.{parts_of}
use Rattle.trio_types.proofs.Specs.{formed, argument_domain}
use Rattle.history_table.proofs.printing.add_name.Goals as goal

pub add_values-requires : goal.add_values-requires
add_values-requires c = λ k d at.
    let t = argument_domain (parts_of c.args.spec.now) (formed c.args.spec.now) c.args.row.now.item c.in-Some.item.now (ap (λ is. slice_get is c.args.row.now.item) (sym c.as_slice.ensures) ∙ slice_get_read c.as_slice.result.now (length c.as_slice.result.now) c.args.row.now.item c.in-Some.item.now refl c.in-Some.ensures.lookup.3.0 c.in-Some.ensures.lookup.1) k d (ap (λ ds. slice_get ds k) (sym c.as_slice-domains.ensures) ∙ at) in
    slice_get_within c.args.spec.now.domains d t.0 t.1
