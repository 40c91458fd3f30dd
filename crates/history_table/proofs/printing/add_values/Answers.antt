use Rattle.std.proofs.Common.{◌++◌, ◌∷◌, [], get_or, string_bytes, arith, refl}
use lib.Utf8.{encode}
use Rattle.std.proofs.lemmas.Option.{slice_get-get_or}
use Rattle.trio_types.specs.Verdict.{world_of}
use Rattle.history_table.specs.Printed.{values_text}
use Rattle.history_table.proofs.PrintedValues.{value_more, values_whole}
use Rattle.history_table.proofs.printing.add_values.Goals as goal

pub loop-place-preserved : goal.loop-place-preserved
unfolding encode
loop-place-preserved c =
    let w = world_of c.args.spec.now in
    let ds = c.args.domains.now in
    let vs = c.args.values.now in
    let k = c.loop-place.place in
    let at = slice_get-get_or ds k 0 (omega (arith, c.loop-place-test.true, c.min-place-end.ensures)) in
    let at_value = slice_get-get_or vs k 0 (omega (arith, c.loop-place-test.true, c.min-place-end.ensures)) in (
      (44 ∷ [], (refl, refl)),
      value_more w (string_bytes c.loop-place.text) (string_bytes c.push_str.new.self) (string_bytes c.add_value.new.text)
          (string_bytes c.args.text.now ++ values_text w c.args.first.now ds vs) c.loop-place.sign.now ds vs k (get_or ds k 0) (get_or vs k 0) at at_value
          c.loop-place.invariant.1 c.in_ok-push_str.ensures.bytes c.in_ok-add_value.ensures,
    )

pub returns : goal.returns
returns c =
    let w = world_of c.args.spec.now in
    values_whole w (string_bytes c.loop-place.text) (string_bytes c.args.text.now ++ values_text w c.args.first.now c.args.domains.now c.args.values.now) c.loop-place.sign.now
    c.args.domains.now c.args.values.now c.loop-place.place (omega (arith, c.loop-place-test.false, c.min-place-end.ensures)) c.loop-place.invariant.1
