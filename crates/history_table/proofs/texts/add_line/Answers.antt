use Rattle.std.proofs.Common.{◌++◌, ◌∷◌, [], string_bytes, ap, ◌∙◌, refl, None, get_or, flat_map}
use Rattle.std.proofs.lemmas.Option.{slice_get-get_or}
use Rattle.trio_types.specs.Verdict.{world_of}
use Rattle.history_table.specs.Printed.{row_name}
use Rattle.history_table.specs.Texts.{entry_behind_blank}
use Rattle.history_table.specs.Decoding.{row_from}
use Rattle.history_table.proofs.PrintedLines.{flat_more, flat_whole, line_is}
use Rattle.history_table.proofs.texts.add_line.Goals as goal

pub loop-entry-init : goal.loop-entry-init
loop-entry-init c = refl

pub loop-entry-preserved : goal.loop-entry-preserved
loop-entry-preserved c =
    let w = world_of c.args.spec.now in
    let f = entry_behind_blank w c.value_domain-domain.result in
    let all = c.args.entries.now in
    let k = c.loop-entry.entry-index in
    flat_more f all k (get_or all k None) (string_bytes c.loop-entry.text) (string_bytes c.add_entry.new.text) (string_bytes c.push_str.new.self ++ flat_map f all)
    (slice_get-get_or all k None c.loop-entry-test.true) c.loop-entry.invariant c.in_ok-add_entry.ensures

pub returns : goal.returns
returns c =
    let w = world_of c.args.spec.now in
    let f = entry_behind_blank w c.value_domain-domain.result in
    let all = c.args.entries.now in
    let listed = flat_whole f all c.loop-entry.entry-index (string_bytes c.loop-entry.text) (string_bytes c.push_str.new.self ++ flat_map f all) c.loop-entry-test.false c.loop-entry.invariant in
    line_is (string_bytes c.args.text.now) (row_name w (row_from c.args.row.now)) (flat_map f all) (string_bytes c.add_name.new.text) (string_bytes c.push_str.new.self) (string_bytes c.loop-entry.text)
    (string_bytes c.push_str-2.new.self) c.in_ok-add_name.ensures c.in_ok-push_str.ensures.bytes listed c.in_ok-push_str-2.ensures.bytes
    ∙ ap (λ d. string_bytes c.args.text.now ++ (row_name w (row_from c.args.row.now) ++ (58 ∷ (flat_map (entry_behind_blank w d) all ++ 10 ∷ [])))) c.value_domain-domain.ensures.is
