-- The answers to the goals of `settle`.
use Rattle.std.proofs.Common.{List, [], ◌∷◌, All, reverse, subst, sym, ap, ◌∙◌}
use Rattle.std.proofs.lemmas.List.Elements.{All-head}
use Rattle.trio_core.specs.Stands.{world_of_core}
use Rattle.branch_state.specs.declared.branch.Want.{Want}
use Rattle.branch_state.specs.Branches.{WantFits}
use Rattle.decompose.specs.Rule.{cut_for_atom, settled}
use Rattle.decompose.specs.Told.{fate_told}
use Rattle.decompose.proofs.Wanted.{Goes, turned_push, stack_goes, cuts_inside, settled_refuted, settled_parts, settled_cuts}
use Rattle.decompose.proofs.Enough.{settled_end}
use Rattle.decompose.proofs.settlement.settle.Goals.{in-Dropped, in-One+in_ok-add-in-One, in-Both+in_ok-add-in-Both+in_ok-add-in-Both-2}
use Rattle.decompose.proofs.settlement.settle.Goals as goal

pub fate_of-requires-clause-want_fits : goal.fate_of-requires-clause-want_fits
fate_of-requires-clause-want_fits c =
    let p = c.args.problem.now in
    let sets = c.args.sets.now in
    let want = c.in-Some.want in
    let rest = c.pop.new.self in
    let old = turned_push rest c.loop-want.stack want c.in-Some.ensures in
    All-head (WantFits p) want (reverse rest) (subst (All (WantFits p)) old c.loop-want.invariant.fits)

pub returns-in-Refuted-clause-rule : goal.returns-in-Refuted-clause-rule
returns-in-Refuted-clause-rule c =
    let p = c.args.problem.now in
    let sets = c.args.sets.now in
    let want = c.in-Some.want in
    let rest = c.pop.new.self in
    let old = turned_push rest c.loop-want.stack want c.in-Some.ensures in
    settled_refuted p sets want (reverse rest) (subst (All (WantFits p)) old c.loop-want.invariant.fits) (sym (ap fate_told c.in-Refuted.is) ∙ c.in_ok-fate_of.ensures)
    ∙ ap (λ (l : List Want). settled p sets l) (sym old) ∙ c.loop-want.invariant.same

pub returns-in-Parts-clause-rule : goal.returns-in-Parts-clause-rule
returns-in-Parts-clause-rule c =
    let p = c.args.problem.now in
    let sets = c.args.sets.now in
    let want = c.in-Some.want in
    let rest = c.pop.new.self in
    let old = turned_push rest c.loop-want.stack want c.in-Some.ensures in
    settled_parts p sets want (reverse rest) (c.in-Parts.left ∷ []) (c.in-Parts.first ∷ c.in-Parts.second ∷ []) (subst (All (WantFits p)) old c.loop-want.invariant.fits) (sym (ap fate_told c.in-Parts.is) ∙ c.in_ok-fate_of.ensures)
    ∙ ap (λ (l : List Want). settled p sets l) (sym old) ∙ c.loop-want.invariant.same

pub returns-in-Cuts-clause-rule : goal.returns-in-Cuts-clause-rule
returns-in-Cuts-clause-rule c =
    let p = c.args.problem.now in
    let sets = c.args.sets.now in
    let want = c.in-Some.want in
    let rest = c.pop.new.self in
    let old = turned_push rest c.loop-want.stack want c.in-Some.ensures in
    ap (λ (l : List Want). cut_for_atom (world_of_core p.core) sets l c.in-Cuts.cell) (turned_push rest c.add-in-Cuts.new.self want c.in_ok-add-in-Cuts.ensures.ok)
    ∙ settled_cuts p sets want (reverse rest) c.in-Cuts.cell (subst (All (WantFits p)) old c.loop-want.invariant.fits) (sym (ap fate_told c.in-Cuts.is) ∙ c.in_ok-fate_of.ensures)
    ∙ ap (λ (l : List Want). settled p sets l) (sym old) ∙ c.loop-want.invariant.same

pub returns-in-Cuts-clause-inside : goal.returns-in-Cuts-clause-inside
returns-in-Cuts-clause-inside c =
    let p = c.args.problem.now in
    let sets = c.args.sets.now in
    let want = c.in-Some.want in
    let rest = c.pop.new.self in
    let old = turned_push rest c.loop-want.stack want c.in-Some.ensures in
    cuts_inside p sets want (All-head (WantFits p) want (reverse rest) (subst (All (WantFits p)) old c.loop-want.invariant.fits)) c.in-Cuts.cell
    (sym (ap fate_told c.in-Cuts.is) ∙ c.in_ok-fate_of.ensures)

pub loop-want-smaller-after-branch-2 : goal.loop-want-smaller-after-branch-2
loop-want-smaller-after-branch-2 c =
    let p = c.args.problem.now in
    let sets = c.args.sets.now in
    let want = c.in-Some.want in
    let rest = c.pop.new.self in
    let before = c.loop-want.stack in
    let after = c.match-branch-2.stack in
    let goes : Goes p sets (reverse before) (reverse after) = elim c.match-branch-2.branch [
      | in-Dropped b ↦ stack_goes p sets before rest want after [] c.loop-want.invariant.fits c.in-Some.ensures (ap reverse b.stack-is) (sym (ap fate_told b.in-Dropped.is) ∙ c.in_ok-fate_of.ensures)
      | in-One+in_ok-add-in-One b ↦ stack_goes p sets before rest want after (b.in-One.first ∷ []) c.loop-want.invariant.fits c.in-Some.ensures
          (ap reverse b.stack-is ∙ turned_push rest b.add.new.self b.in-One.first b.in_ok-add-in-One.ensures.ok) (sym (ap fate_told b.in-One.is) ∙ c.in_ok-fate_of.ensures)
      | in-Both+in_ok-add-in-Both+in_ok-add-in-Both-2 b ↦ stack_goes p sets before rest want after (b.in-Both.first ∷ b.in-Both.second ∷ []) c.loop-want.invariant.fits c.in-Some.ensures
          (ap reverse b.stack-is ∙ turned_push b.add-in-Both.new.self b.add-in-Both-2.new.self b.in-Both.first b.in_ok-add-in-Both-2.ensures.ok
          ∙ ap (λ l. b.in-Both.first ∷ l) (turned_push rest b.add-in-Both.new.self b.in-Both.second b.in_ok-add-in-Both.ensures.ok)) (sym (ap fate_told b.in-Both.is) ∙ c.in_ok-fate_of.ensures)
    ] in
    goes.lighter

pub loop-want-preserved-after-branch-2 : goal.loop-want-preserved-after-branch-2
loop-want-preserved-after-branch-2 c =
    let p = c.args.problem.now in
    let sets = c.args.sets.now in
    let want = c.in-Some.want in
    let rest = c.pop.new.self in
    let before = c.loop-want.stack in
    let after = c.match-branch-2.stack in
    let goes : Goes p sets (reverse before) (reverse after) = elim c.match-branch-2.branch [
      | in-Dropped b ↦ stack_goes p sets before rest want after [] c.loop-want.invariant.fits c.in-Some.ensures (ap reverse b.stack-is) (sym (ap fate_told b.in-Dropped.is) ∙ c.in_ok-fate_of.ensures)
      | in-One+in_ok-add-in-One b ↦ stack_goes p sets before rest want after (b.in-One.first ∷ []) c.loop-want.invariant.fits c.in-Some.ensures
          (ap reverse b.stack-is ∙ turned_push rest b.add.new.self b.in-One.first b.in_ok-add-in-One.ensures.ok) (sym (ap fate_told b.in-One.is) ∙ c.in_ok-fate_of.ensures)
      | in-Both+in_ok-add-in-Both+in_ok-add-in-Both-2 b ↦ stack_goes p sets before rest want after (b.in-Both.first ∷ b.in-Both.second ∷ []) c.loop-want.invariant.fits c.in-Some.ensures
          (ap reverse b.stack-is ∙ turned_push b.add-in-Both.new.self b.add-in-Both-2.new.self b.in-Both.first b.in_ok-add-in-Both-2.ensures.ok
          ∙ ap (λ l. b.in-Both.first ∷ l) (turned_push rest b.add-in-Both.new.self b.in-Both.second b.in_ok-add-in-Both.ensures.ok)) (sym (ap fate_told b.in-Both.is) ∙ c.in_ok-fate_of.ensures)
    ] in
    record { fits = goes.fits; same = sym goes.same ∙ c.loop-want.invariant.same }

pub loop-want-smaller : goal.loop-want-smaller
loop-want-smaller c =
    let p = c.args.problem.now in
    let sets = c.args.sets.now in
    let want = c.in-Some.want in
    let rest = c.pop.new.self in
    let before = c.loop-want.stack in
    let after = c.match-branch-2.stack in
    let goes : Goes p sets (reverse before) (reverse after) = elim c.match-branch-2.branch [
      | in-Dropped b ↦ stack_goes p sets before rest want after [] c.loop-want.invariant.fits c.in-Some.ensures (ap reverse b.stack-is) (sym (ap fate_told b.in-Dropped.is) ∙ c.in_ok-fate_of.ensures)
      | in-One+in_ok-add-in-One b ↦ stack_goes p sets before rest want after (b.in-One.first ∷ []) c.loop-want.invariant.fits c.in-Some.ensures
          (ap reverse b.stack-is ∙ turned_push rest b.add.new.self b.in-One.first b.in_ok-add-in-One.ensures.ok) (sym (ap fate_told b.in-One.is) ∙ c.in_ok-fate_of.ensures)
      | in-Both+in_ok-add-in-Both+in_ok-add-in-Both-2 b ↦ stack_goes p sets before rest want after (b.in-Both.first ∷ b.in-Both.second ∷ []) c.loop-want.invariant.fits c.in-Some.ensures
          (ap reverse b.stack-is ∙ turned_push b.add-in-Both.new.self b.add-in-Both-2.new.self b.in-Both.first b.in_ok-add-in-Both-2.ensures.ok
          ∙ ap (λ l. b.in-Both.first ∷ l) (turned_push rest b.add-in-Both.new.self b.in-Both.second b.in_ok-add-in-Both.ensures.ok)) (sym (ap fate_told b.in-Both.is) ∙ c.in_ok-fate_of.ensures)
    ] in
    goes.lighter

pub loop-want-preserved : goal.loop-want-preserved
loop-want-preserved c =
    let p = c.args.problem.now in
    let sets = c.args.sets.now in
    let want = c.in-Some.want in
    let rest = c.pop.new.self in
    let before = c.loop-want.stack in
    let after = c.match-branch-2.stack in
    let goes : Goes p sets (reverse before) (reverse after) = elim c.match-branch-2.branch [
      | in-Dropped b ↦ stack_goes p sets before rest want after [] c.loop-want.invariant.fits c.in-Some.ensures (ap reverse b.stack-is) (sym (ap fate_told b.in-Dropped.is) ∙ c.in_ok-fate_of.ensures)
      | in-One+in_ok-add-in-One b ↦ stack_goes p sets before rest want after (b.in-One.first ∷ []) c.loop-want.invariant.fits c.in-Some.ensures
          (ap reverse b.stack-is ∙ turned_push rest b.add.new.self b.in-One.first b.in_ok-add-in-One.ensures.ok) (sym (ap fate_told b.in-One.is) ∙ c.in_ok-fate_of.ensures)
      | in-Both+in_ok-add-in-Both+in_ok-add-in-Both-2 b ↦ stack_goes p sets before rest want after (b.in-Both.first ∷ b.in-Both.second ∷ []) c.loop-want.invariant.fits c.in-Some.ensures
          (ap reverse b.stack-is ∙ turned_push b.add-in-Both.new.self b.add-in-Both-2.new.self b.in-Both.first b.in_ok-add-in-Both-2.ensures.ok
          ∙ ap (λ l. b.in-Both.first ∷ l) (turned_push rest b.add-in-Both.new.self b.in-Both.second b.in_ok-add-in-Both.ensures.ok)) (sym (ap fate_told b.in-Both.is) ∙ c.in_ok-fate_of.ensures)
    ] in
    record { fits = goes.fits; same = sym goes.same ∙ c.loop-want.invariant.same }

pub returns-clause-rule : goal.returns-clause-rule
returns-clause-rule c =
    let p = c.args.problem.now in
    let sets = c.args.sets.now in
    sym (settled_end p sets) ∙ ap (λ (l : List Want). settled p sets (reverse l)) (sym c.in_default.ensures.0) ∙ c.loop-want.invariant.same
