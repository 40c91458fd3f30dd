-- What the code finds of a want, and how settling goes on from there.
use Rattle.std.proofs.Common.{◌≡◌, ℕ, ◌<◌, ◌≤◌, ℤ, pos, negsuc, ◌+ℤ◌, ◌-ℤ◌, ◌≤ℤ◌, Bool, true, false, not, List, [], ◌∷◌, ◌++◌, All, Option, None, Some, length, reverse, slice_get, refl, sym, ap, ◌∙◌, subst, arith}
use Rattle.std.proofs.lemmas.Int.{ints}
use Rattle.std.proofs.lemmas.List.{reverse-append}
use Rattle.std.proofs.lemmas.List.Elements.{All-head, All-tail, All-append}
use Rattle.std.proofs.lemmas.List.Sums.{sum_by-cons, sum_by-append}
use Rattle.std.proofs.lemmas.Option.{slice_get_within}
use Rattle.trio_types.specs.World.{at_least_zero}
use Rattle.trio_types.specs.WellFormed.{is_written}
use Rattle.trio_types.proofs.Domains.{length-integers}
use Rattle.trio_core.specs.declared.nodes.Core.{Core}
use Rattle.trio_core.specs.declared.nodes.Three.{Three}
use Rattle.trio_core.specs.declared.nodes.Three.TheVariants as three
use Rattle.trio_core.specs.Core.{numbers}
use Rattle.trio_core.specs.Three.{core_truth3}
use Rattle.trio_core.specs.Stands.{world_of_core}
use Rattle.trio_core.proofs.Evaluating.{written}
use Rattle.branch_state.specs.declared.branch.Want.{Want}
use Rattle.branch_state.specs.Posed.{Posed}
use Rattle.branch_state.specs.Branches.{branch, WantFits}
use Rattle.branch_state.specs.Weight.{want_weight}
use Rattle.decompose.specs.declared.why.Why.TheVariants as why
use Rattle.decompose.specs.Rule.{Fate, Refuted, Becomes, Parts, Cuts, Closed, Two, fate, fate_by, want_truth3, row, cut_for_atom, settle_by, wants_weight, settled}
use Rattle.decompose.specs.declared.settlement.Settled.TheVariants as settled_code
use Rattle.decompose.specs.Told.{CutsInside}
use Rattle.decompose.proofs.Atoms.{fate_law}
use Rattle.decompose.proofs.Cutting.{several_of}
use Rattle.decompose.proofs.Enough.{settled_next}
use Rattle.decompose.proofs.Rows.{FateLaw}

-- where settling ends at a first want
pub settled_refuted : (p : Posed) (sets : List ℕ) (want : Want) (wants : List Want) → All (WantFits p) (want ∷ wants) → Refuted ≡ fate p sets want → Closed why.Want ≡ settled p sets (want ∷ wants)
settled_refuted p sets want wants fits is =
    sym (settled_next p sets want wants fits ∙ ap (settle_by (settled p sets) (world_of_core p.core) sets want wants) (sym is))

pub settled_parts : (p : Posed) (sets : List ℕ) (want : Want) (wants left right : List Want) → All (WantFits p) (want ∷ wants) → Parts left right ≡ fate p sets want →
    Two (branch sets (left ++ wants)) (branch sets (right ++ wants)) ≡ settled p sets (want ∷ wants)
settled_parts p sets want wants left right fits is =
    sym (settled_next p sets want wants fits ∙ ap (settle_by (settled p sets) (world_of_core p.core) sets want wants) (sym is))

pub settled_cuts : (p : Posed) (sets : List ℕ) (want : Want) (wants : List Want) (cell : Option ℕ) → All (WantFits p) (want ∷ wants) → Cuts cell ≡ fate p sets want →
    cut_for_atom (world_of_core p.core) sets (want ∷ wants) cell ≡ settled p sets (want ∷ wants)
settled_cuts p sets want wants cell fits is =
    sym (settled_next p sets want wants fits ∙ ap (settle_by (settled p sets) (world_of_core p.core) sets want wants) (sym is))

-- where others take its place
pub record Goes (p : Posed) (sets : List ℕ) (old new : List Want) : Type 0 where
  pub same : settled p sets old ≡ settled p sets new
  pub lighter : wants_weight p new < wants_weight p old
  pub fits : All (WantFits p) new

pub goes_on : (p : Posed) (sets : List ℕ) (want : Want) (wants new : List Want) → All (WantFits p) (want ∷ wants) → Becomes new ≡ fate p sets want → Goes p sets (want ∷ wants) (new ++ wants)
goes_on p sets want wants new fits is =
    let law = subst (FateLaw p sets want) (sym is) (fate_law p sets want (All-head (WantFits p) want wants fits)) in
    let fit = All-append (WantFits p) new wants law.fit (All-tail (WantFits p) want wants fits) in
    let light : wants_weight p (new ++ wants) < wants_weight p (want ∷ wants) =
    omega (arith, law.lighter, sum_by-append (want_weight p) new wants, sum_by-cons (want_weight p) want wants) in
    record {
      same = settled_next p sets want wants fits ∙ ap (settle_by (settled p sets) (world_of_core p.core) sets want wants) (sym is);
      lighter = light;
      fits = fit;
    }

-- a want behind the others of a stack comes first
pub turned_push : (stack new : List Want) (want : Want) → new ≡ stack ++ want ∷ [] → reverse new ≡ want ∷ reverse stack
turned_push stack new want is = ap reverse is ∙ reverse-append stack (want ∷ [])

-- The fate of a want by its truth.

pub truth_asked : (p : Posed) (sets : List ℕ) (want : Want) (core : Core) (e : List ℤ) (v : Three) → core ≡ p.core → e ≡ want.env →
    v ≡ core_truth3 (world_of_core core) core.nodes want.node want.from e sets want.now → v ≡ want_truth3 p sets want
truth_asked p sets want core e v same env is =
    is ∙ ap (λ (core : Core). core_truth3 (world_of_core core) core.nodes want.node want.from e sets want.now) same
    ∙ ap (λ e. core_truth3 (world_of_core p.core) p.core.nodes want.node want.from e sets want.now) env

true_fate : (s : Bool) (rest : Fate) → fate_by three.True s Refuted ≡ fate_by three.True s rest
true_fate true rest = refl
true_fate false rest = refl

false_fate : (s : Bool) (rest : Fate) → fate_by three.True (not s) Refuted ≡ fate_by three.False s rest
false_fate true rest = refl
false_fate false rest = refl

row_of : Posed → List ℕ → Want → Fate
row_of p sets want = row (world_of_core p.core) sets want (slice_get p.core.nodes want.node)

pub fate_true : (p : Posed) (sets : List ℕ) (want : Want) → want_truth3 p sets want ≡ three.True → fate_by three.True want.sign Refuted ≡ fate p sets want
unfolding fate row_of
fate_true p sets want is = true_fate want.sign (row_of p sets want) ∙ sym (ap (λ v. fate_by v want.sign (row_of p sets want)) is)

pub fate_false : (p : Posed) (sets : List ℕ) (want : Want) → want_truth3 p sets want ≡ three.False → fate_by three.True (not want.sign) Refuted ≡ fate p sets want
unfolding fate row_of
fate_false p sets want is = false_fate want.sign (row_of p sets want) ∙ sym (ap (λ v. fate_by v want.sign (row_of p sets want)) is)

pub fate_unknown : (p : Posed) (sets : List ℕ) (want : Want) → want_truth3 p sets want ≡ three.Unknown → row (world_of_core p.core) sets want (slice_get p.core.nodes want.node) ≡ fate p sets want
unfolding fate row_of
fate_unknown p sets want is = sym (ap (λ v. fate_by v want.sign (row_of p sets want)) is)

-- an Exists has few values
few_at_most : (y : ℤ) → y ≤ℤ pos 2000001 → at_least_zero y ≤ 2000001
few_at_most (pos n) most = omega (arith, ints, most)
few_at_most (negsuc n) most = omega arith

pub few_numbers : (low high : ℤ) → is_written low ≡ true → is_written high ≡ true → length (numbers low high) ≤ 2000001
few_numbers low high l h =
    let lb = written low l in
    let hb = written high h in
    omega (arith, length-integers low (at_least_zero ((high +ℤ pos 1) -ℤ low)), few_at_most ((high +ℤ pos 1) -ℤ low) (omega (arith, ints, lb.back, lb.on, hb.back, hb.on)))

-- the wants of a stack, where others take the place of the first
pub stack_goes : (p : Posed) (sets : List ℕ) (before rest : List Want) (want : Want) (after new : List Want) → All (WantFits p) (reverse before) → before ≡ rest ++ want ∷ [] →
    reverse after ≡ new ++ reverse rest → Becomes new ≡ fate p sets want → Goes p sets (reverse before) (reverse after)
stack_goes p sets before rest want after new fits pop put is =
    let turned = turned_push rest before want pop in
    subst (λ l. Goes p sets l (reverse after)) (sym turned)
    (subst (λ l. Goes p sets (want ∷ reverse rest) l) (sym put) (goes_on p sets want (reverse rest) new (subst (All (WantFits p)) turned fits) is))

-- a cell that parts has a set
pub cuts_inside : (p : Posed) (sets : List ℕ) (want : Want) → WantFits p want → (cell : Option ℕ) → Cuts cell ≡ fate p sets want → CutsInside sets (settled_code.Cuts cell)
cuts_inside p sets want fits None is = tt
cuts_inside p sets want fits (Some cell) is =
    let several = several_of (world_of_core p.core) sets cell (subst (FateLaw p sets want) (sym is) (fate_law p sets want fits)) in
    slice_get_within sets cell several.set several.set_at
