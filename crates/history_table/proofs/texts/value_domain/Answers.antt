use Rattle.std.proofs.Common.{◌≡◌, ◌≤◌, false, nat_lt, sym, ap, ◌∙◌, refl, length, slice_get}
use Rattle.std.proofs.lemmas.Option.{slice_get_within, slice_get_read, slice_get_past}
use Rattle.std.proofs.lemmas.Bool.{ltb-false}
use Rattle.trio_types.specs.Verdict.{parts_of}
use Rattle.trio_types.proofs.Specs.{formed, value_domain}
use Rattle.history_table.specs.Texts.{value_domain as domain_of}
use Rattle.history_table.proofs.PrintedLines.{some_domain}
use Rattle.history_table.proofs.texts.value_domain.Goals as goal

pub returns-in-Some-clause-there : goal.returns-in-Some-clause-there
returns-in-Some-clause-there c =
    let items = c.as_slice.result.now in
    let t = value_domain (parts_of c.args.spec.now) (formed c.args.spec.now) c.args.item c.in-Some.item.now
    (ap (λ is. slice_get is c.args.item) (sym c.as_slice.ensures) ∙ slice_get_read items (length items) c.args.item c.in-Some.item.now refl c.in-Some.ensures.lookup.3.0 c.in-Some.ensures.lookup.1) in
    slice_get_within c.args.spec.now.domains c.in-Some.item.now.value t.0 t.1

pub returns-in-None-clause-is : goal.returns-in-None-clause-is
returns-in-None-clause-is c =
    let items = c.as_slice.result.now in
    let none : false ≡ nat_lt c.args.item (length items) = c.in-None.ensures.lookup.0 in
    let past : length items ≤ c.args.item = ltb-false c.args.item (length items) (sym none) in
    sym (ap domain_of (ap (λ is. slice_get is c.args.item) (sym c.as_slice.ensures) ∙ slice_get_past items c.args.item past))

pub returns-in-None-clause-there : goal.returns-in-None-clause-there
returns-in-None-clause-there c = some_domain (parts_of c.args.spec.now) (formed c.args.spec.now)
