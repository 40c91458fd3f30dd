-- The answers to the goals of `cell_value`.
use Rattle.std.proofs.Common.{length, slice_get, subst, sym, ap, ◌∙◌, arith}
use Rattle.std.proofs.lemmas.Bool.{and_parts, ltb-true}
use Rattle.std.proofs.lemmas.Option.{same_Some, slice_get_within}
use Rattle.trio_types.specs.World.{values_in, size_of}
use Rattle.trio_types.specs.Cells.{cells_of, cell_size}
use Rattle.trio_types.specs.Parts.{declarations_of}
use Rattle.trio_types.proofs.Specs.{value_domain}
use Rattle.trio_types.proofs.CellNumbers.{size_from_item, values_from_item}
use Rattle.trio_types.proofs.Bounded.{passed}
use Rattle.trio_core.specs.declared.nodes.Known.TheVariants.{One}
use Rattle.trio_core.specs.Sets.{members}
use Rattle.trio_core.specs.Three.{known_at}
use Rattle.trio_core.specs.Stands.{world_of_core}
use Rattle.trio_core.specs.Fits.{IsSole}
use Rattle.trio_core.proofs.Sole.{member_in, set_of_cell, known_single, known_several}
use Rattle.trio_core.proofs.NodesFit.{core_formed}
use Rattle.trio_core.proofs.terms.cell_value.Goals as goal

pub get-requires : goal.get-requires
get-requires c = c.requires.cell_is.declared

pub set_of-requires : goal.set_of-requires
set_of-requires c =
    let core = c.args.core.now in
    let w = world_of_core core in
    let of = c.requires.cell_is in
    omega (arith, c.requires.sets_fit.whole, slice_get_within (cells_of w) c.args.cell of.cell of.place)

pub sole_member-requires : goal.sole_member-requires
sole_member-requires c =
    let core = c.args.core.now in
    let w = world_of_core core in
    let of = c.requires.cell_is in
    let set = c.set_of.result in
    let is = set_of_cell w c.args.doms.now c.args.cell set of.cell c.requires.sets_fit of.place c.set_of.ensures in
    ltb-true 0 set (and_parts _ _ is).0

pub value_at-requires-clause-domain_in : goal.value_at-requires-clause-domain_in
value_at-requires-clause-domain_in c =
    let core = c.args.core.now in
    let w = world_of_core core in
    let asked = c.get.result.now in
    let domain = value_domain (declarations_of w) (core_formed core) c.args.item asked c.get.ensures in
    omega (arith, slice_get_within core.domains asked.value domain.0 domain.1, ap length c.declarations.ensures.domains)

pub value_at-requires-clause-index_in : goal.value_at-requires-clause-index_in
value_at-requires-clause-index_in c =
    let core = c.args.core.now in
    let w = world_of_core core in
    let of = c.requires.cell_is in
    let set = c.set_of.result in
    let is = set_of_cell w c.args.doms.now c.args.cell set of.cell c.requires.sets_fit of.place c.set_of.ensures in
    let asked = c.get.result.now in
    let v = c.in-Some.index in
    let alone = subst (IsSole (members (cell_size w of.cell) set)) c.in-Some.is (c.sole_member.ensures (cell_size w of.cell) is) in
    let below = (member_in (cell_size w of.cell) set 0 v (ap (λ ms. slice_get ms 0) alone)).1 in
    omega (arith, below, size_from_item w of.cell asked (ap (slice_get core.items) of.of_item ∙ c.get.ensures), ap (λ ds. size_of ds asked.value) c.declarations.ensures.domains)

pub returns-in-Some : goal.returns-in-Some
returns-in-Some c =
    let core = c.args.core.now in
    let w = world_of_core core in
    let sets = c.args.doms.now in
    let m = c.args.cell in
    let of = c.requires.cell_is in
    let set = c.set_of.result in
    let is = set_of_cell w sets m set of.cell c.requires.sets_fit of.place c.set_of.ensures in
    let asked = c.get.result.now in
    let v = c.in-Some.index in
    let alone = subst (IsSole (members (cell_size w of.cell) set)) c.in-Some.is (c.sole_member.ensures (cell_size w of.cell) is) in
    let z = c.value_at.result in
    let value = ap (λ zs. slice_get zs v) (values_from_item w of.cell asked (ap (slice_get core.items) of.of_item ∙ c.get.ensures)) ∙ ap (λ ds. slice_get (values_in ds asked.value) v) (sym c.declarations.ensures.domains) ∙ c.value_at.ensures in
    let known = known_single w sets m set v of.cell z c.requires.sets_fit of.place c.set_of.ensures alone value in
    λ cell place.
    sym (ap (known_at w sets) (same_Some cell of.cell (sym place ∙ of.place)) ∙ known ∙ ap One (passed z (of.near z known)))

pub returns-in-None : goal.returns-in-None
returns-in-None c =
    let core = c.args.core.now in
    let w = world_of_core core in
    let sets = c.args.doms.now in
    let m = c.args.cell in
    let of = c.requires.cell_is in
    let set = c.set_of.result in
    let is = set_of_cell w sets m set of.cell c.requires.sets_fit of.place c.set_of.ensures in
    let two = subst (IsSole (members (cell_size w of.cell) set)) c.in-None.is (c.sole_member.ensures (cell_size w of.cell) is) in
    λ cell place.
    sym (ap (known_at w sets) (same_Some cell of.cell (sym place ∙ of.place)) ∙ known_several w sets m set of.cell c.requires.sets_fit of.place c.set_of.ensures two)
