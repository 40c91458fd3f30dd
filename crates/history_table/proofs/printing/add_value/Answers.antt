use Rattle.std.proofs.Common.{◌≡◌, ◌++◌, pos, ◌+ℤ◌, sym, ap, ◌∙◌, subst, arith, w64, to_z, of_z, string_bytes, OnOk}
use Rattle.std.specs.Fmt.{signed_decimal}
use Rattle.std.proofs.lemmas.Int.{ints}
use Rattle.trio_types.specs.Verdict.{parts_of, world_of}
use Rattle.trio_types.proofs.Specs.{formed, range_fits}
use Rattle.history_table.specs.Printed.{text_in, text_in_domain, value_text}
use Rattle.history_table.proofs.printing.add_value.Goals as goal

pub overflow_add-low : goal.overflow_add-low
overflow_add-low c =
    let r = range_fits (parts_of c.args.spec.now) (formed c.args.spec.now) c.args.domain c.get.result.now c.get.ensures c.in-Range.low c.in-Range.field-1 c.in-Range.is in
    omega (arith, ints, r.not_far_back, r.not_far_on, r.number, r.some, c.from-in-Range.ensures, c.ranges.index)

pub returns-in-Range : goal.returns-in-Range
returns-in-Range c =
    let low = c.in-Range.low in
    let r = range_fits (parts_of c.args.spec.now) (formed c.args.spec.now) c.args.domain c.get.result.now c.get.ensures low c.in-Range.field-1 c.in-Range.is in
    let same : to_z w64 (of_z w64 (to_z w64 (of_z w64 low) +ℤ to_z w64 (of_z w64 c.from-in-Range.result))) ≡ low +ℤ pos c.args.index =
    omega (arith, ints, r.not_far_back, r.not_far_on, r.number, r.some, c.from-in-Range.ensures, c.ranges.index) in
    let text : signed_decimal (low +ℤ pos c.args.index) ≡ value_text (world_of c.args.spec.now) c.args.domain c.args.index =
    sym (ap (λ o. text_in_domain o c.args.index) c.get.ensures ∙ ap (λ k. text_in k c.args.index) c.in-Range.is) in
    subst (λ ds. OnOk c.add_number-in-Range.result (string_bytes c.add_number-in-Range.new.text ≡ string_bytes c.args.text.now ++ ds)) (ap signed_decimal same ∙ text) c.add_number-in-Range.ensures
