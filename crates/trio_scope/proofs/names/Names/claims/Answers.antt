-- The answers to the goals of `claims`.
use Rattle.std.proofs.Common.{◌≡◌, ◌+◌, [], ◌∷◌, ◌++◌, map, take, sym, ap, ◌∙◌}
use Rattle.std.proofs.lemmas.List.{take_more, take_all, map-append}
use Rattle.trio_syntax.specs.declared.tree.ClaimTree.{ClaimTree}
use Rattle.trio_scope.specs.declared.meaning.Meaning.TheVariants.{Claim}
use Rattle.trio_scope.specs.Names.{Declaration, declaration}
use Rattle.trio_scope.proofs.Statements.{adds_then}
use Rattle.trio_scope.proofs.names.Names.claims.Goals as goal

pub loop-claim-preserved : goal.loop-claim-preserved
loop-claim-preserved c =
    let own : ClaimTree → Declaration = λ a. declaration a.name Claim in
    let grown : map own (take (c.loop-claim.claim-index + 1) c.args.claims.now) ≡ map own (take c.loop-claim.claim-index c.args.claims.now) ++ own c.claim-item.result ∷ [] =
    ap (map own) (take_more c.args.claims.now c.loop-claim.claim-index c.claim-item.result c.loop-claim-test.true
    ∙ ap (λ a. take c.loop-claim.claim-index c.args.claims.now ++ a ∷ []) (sym c.claim-item.is))
    ∙ map-append own (take c.loop-claim.claim-index c.args.claims.now) (c.claim-item.result ∷ []) in
    rw grown (adds_then c.args.self.now c.loop-claim.self c.note.new.self (map own (take c.loop-claim.claim-index c.args.claims.now)) (own c.claim-item.result ∷ [])
    c.loop-claim.invariant c.in_ok-note.ensures)

pub returns : goal.returns
returns c = rw (take_all c.loop-claim.claim-index c.args.claims.now c.loop-claim-test.false) at c.loop-claim.invariant
