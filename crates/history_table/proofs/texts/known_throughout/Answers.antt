use Rattle.std.proofs.Common.{◌∷◌, [], ◌++◌, map, Some, take, sym, ap, ◌∙◌, get_or}
use Rattle.std.proofs.lemmas.List.{map-append, take_more, take_all}
use Rattle.history_table.proofs.texts.known_throughout.Goals as goal

pub loop-index-init : goal.loop-index-init
loop-index-init c = c.in_ok-reserve.ensures.items ∙ c.new-known.ensures.items

pub loop-index-preserved : goal.loop-index-preserved
loop-index-preserved c =
    let all = c.args.indexes.now in
    let k = c.loop-index.index-index in
    c.in_ok-push.ensures.items
    ∙ ap (λ xs. xs ++ Some (get_or all k 0) ∷ []) c.loop-index.invariant
    ∙ sym (map-append Some (take k all) (get_or all k 0 ∷ []))
    ∙ ap (map Some) (sym (take_more all k 0 c.loop-index-test.true))

pub returns : goal.returns
returns c = c.from_vec.ensures ∙ c.loop-index.invariant ∙ ap (map Some) (take_all c.loop-index.index-index c.args.indexes.now c.loop-index-test.false)
