-- The answers to the goals of `words`.
use Rattle.std.proofs.Common.{◌≡◌, ◌+◌, [], ◌∷◌, ◌++◌, take, length, sym, ap, ◌∙◌, zero-add, arith}
use Rattle.std.proofs.lemmas.List.{take_more, take_all, length-take-le}
use Rattle.trio_scope.specs.declared.meaning.Meaning.TheVariants.{Word}
use Rattle.trio_scope.specs.Names.{declaration, words_from}
use Rattle.trio_scope.proofs.Statements.{adds_then, words-last}
use Rattle.trio_scope.proofs.names.Names.words.Goals as goal

pub loop-word-preserved : goal.loop-word-preserved
loop-word-preserved c =
    let i = c.loop-word.word-index in
    let ws = c.args.words.now in
    let grown : words_from c.args.domain 0 (take (i + 1) ws) ≡ words_from c.args.domain 0 (take i ws) ++ declaration c.word-item.result (Word c.args.domain c.loop-word.index) ∷ [] =
    ap (words_from c.args.domain 0) (take_more ws i c.word-item.result c.loop-word-test.true ∙ ap (λ w. take i ws ++ w ∷ []) (sym c.word-item.is))
    ∙ words-last c.args.domain 0 (take i ws) c.word-item.result
    ∙ ap (λ n. words_from c.args.domain 0 (take i ws) ++ declaration c.word-item.result (Word c.args.domain n) ∷ [])
    (zero-add (length (take i ws)) ∙ length-take-le i ws (omega arith) ∙ sym c.loop-word.invariant.0) in (
      c.in_ok-index.ensures ∙ ap (λ n. n + 1) c.loop-word.invariant.0,
      rw grown (adds_then c.args.self.now c.loop-word.self c.note.new.self (words_from c.args.domain 0 (take i ws))
          (declaration c.word-item.result (Word c.args.domain c.loop-word.index) ∷ []) c.loop-word.invariant.1 c.in_ok-note.ensures),
    )

pub returns : goal.returns
returns c = rw (take_all c.loop-word.word-index c.args.words.now c.loop-word-test.false) at c.loop-word.invariant.1
