use Rattle.std.proofs.Common.{◌≡◌, ◌+◌, ◌≤◌, ◌++◌, ◌∷◌, [], length, string_bytes, sym, ap, ◌∙◌, arith, slice_get, Some, flat_map, decimal, codes}
use Rattle.std.specs.List.{enumerate_from}
use Rattle.std.proofs.lemmas.Option.{slice_get-get_or}
use Rattle.trio_types.specs.Verdict.{world_of}
use Rattle.history_table.specs.Texts.{numbered_text, table_text, list_text}
use Rattle.history_table.proofs.PrintedLines.{flat_more, flat_whole, enumerate_at, length-enumerate, number_is, headed}
use Rattle.history_table.proofs.texts.list_text.Goals as goal

pub loop-place-init : goal.loop-place-init
loop-place-init c =
    headed (codes "histories ") (decimal (length c.args.tables.now)) (flat_map (numbered_text (world_of c.args.spec.now)) (enumerate_from 1 c.args.tables.now)) (string_bytes c.in_ok-text.text)
    (c.in_ok-text.ensures.ok ∙ ap (λ n. codes "histories " ++ (decimal n ++ 10 ∷ [])) c.len-count.ensures)

pub loop-place-preserved : goal.loop-place-preserved
loop-place-preserved c =
    let w = world_of c.args.spec.now in
    let all = c.args.tables.now in
    let k = c.loop-place.place in
    let table = c.table-item.result in
    let at : slice_get all k ≡ Some table =
    ap (λ xs. slice_get xs k) (sym c.as_slice-table-items.ensures) ∙ slice_get-get_or c.as_slice-table-items.result.now k table c.loop-place-test.true ∙ ap Some (sym c.table-item.is) in
    let text = string_bytes c.loop-place.text in
    let head = string_bytes c.in_ok-head.head in
    let on : k + 1 ≡ 1 + k = omega arith in
    let pushed = c.in_ok-push_str.ensures.bytes ∙ ap (λ t. text ++ t) c.as_str.ensures.value in
    flat_more (numbered_text w) (enumerate_from 1 all) k (1 + k, table) text (string_bytes c.add_table.new.text) (list_text w all) (enumerate_at all 1 k table at) c.loop-place.invariant
    (number_is text head (table_text w table) (string_bytes c.push_str.new.self) (string_bytes c.add_table.new.text) pushed c.in_ok-add_table.ensures
    ∙ ap (λ t. text ++ t) (headed (codes "history ") (decimal (1 + k)) (table_text w table) head (c.in_ok-head.ensures.ok ∙ ap (λ n. codes "history " ++ (decimal n ++ 10 ∷ [])) on)))

pub returns : goal.returns
returns c =
    let w = world_of c.args.spec.now in
    let past : length (enumerate_from 1 c.args.tables.now) ≤ c.loop-place.place = omega (arith, length-enumerate c.args.tables.now 1, c.loop-place-test.false, ap length c.as_slice-table-items.ensures) in
    c.from_vec.ensures ∙ ap (λ v. v.items) c.into_bytes.ensures.value
    ∙ flat_whole (numbered_text w) (enumerate_from 1 c.args.tables.now) c.loop-place.place (string_bytes c.loop-place.text) (list_text w c.args.tables.now) past c.loop-place.invariant
