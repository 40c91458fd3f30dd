-- Wants whose truth is known, of atoms and at a distance; and with them the fate of every want.
use Rattle.std.proofs.Common.{◌≡◌, ◌⊎◌, inl, inr, ℕ, zero, suc, ◌+◌, ◌<◌, ℤ, pos, ◌+ℤ◌, Bool, true, false, ◌&&◌, ◌||◌, List, [], ◌∷◌, ◌++◌, map, length, filter, Some, slice_get, refl, sym, ap, ◌∙◌, subst, arith}
use Rattle.std.specs.List.{list_any, range_with_len}
use Rattle.std.proofs.Math.Logic.{⊎_elim}
use Rattle.std.proofs.lemmas.Bool.{cond-true, cond-false, cases_Bool, cases_lt, false_from_ne_true}
use Rattle.std.proofs.lemmas.Bool.Decides.{Decides-int_eq}
use Rattle.std.proofs.lemmas.Int.{ints}
use Rattle.std.proofs.lemmas.List.{drop_all}
use Rattle.std.proofs.lemmas.List.Elements.{All-cons, All-nil}
use Rattle.trio_base.specs.declared.operators.Rel.{Rel}
use Rattle.trio_types.specs.declared.formula.Term.{Term}
use Rattle.trio_types.specs.World.{World, instants_of}
use Rattle.trio_types.specs.Cells.{Cell, number_at}
use Rattle.trio_types.specs.Values.{value}
use Rattle.trio_types.specs.Truth.{compares, at_distance, is_at_distance}
use Rattle.trio_core.specs.declared.nodes.Node.{Node}
use Rattle.trio_core.specs.declared.nodes.Node.TheVariants as node
use Rattle.trio_core.specs.declared.nodes.Three.{Three}
use Rattle.trio_core.specs.declared.nodes.Three.TheVariants as three
use Rattle.trio_core.specs.declared.nodes.Known.{Known}
use Rattle.trio_core.specs.declared.nodes.Known.TheVariants.{Nothing, Several, One}
use Rattle.trio_core.specs.Core.{numbers, core_truth_from}
use Rattle.trio_core.specs.Sets.{LiesIn}
use Rattle.trio_core.specs.Three.{known_of_option, known_at, value3, sure, three_of_known, any3, core_truth3}
use Rattle.trio_core.specs.Stands.{world_of_core}
use Rattle.trio_core.proofs.Decided.{truth_law}
use Rattle.trio_core.proofs.Evaluating.{eval_atom, eval_exists, eval_dist}
use Rattle.trio_core.proofs.KnownAt.{option_one}
use Rattle.trio_core.proofs.Looks.{lies_known}
use Rattle.trio_core.proofs.NodesFit.{part_asked, atom_terms, dist_known, exists_before, asked_node}
use Rattle.trio_core.proofs.Sole.{filter_none}
use Rattle.trio_core.proofs.Stays.{value3_stays}
use Rattle.trio_core.proofs.Sure.{value3_sure}
use Rattle.trio_core.proofs.TermsFit.{term_reaches}
use Rattle.branch_state.specs.declared.branch.Want.{Want}
use Rattle.branch_state.specs.Posed.{Posed}
use Rattle.branch_state.specs.Branches.{has_sign, want_holds, WantFits}
use Rattle.branch_state.proofs.Counted.{count_some, count-Dist}
use Rattle.decompose.specs.Reads.{is_undecided, first_undecided, atom_cells, reading}
use Rattle.decompose.specs.Rule.{Cuts, part_at, dist_row, row, fate_by, want_truth3, fate}
use Rattle.decompose.proofs.ReadOrder.{several_of_both, any_of_either, reads_open}
use Rattle.decompose.proofs.Rows.{Replaces, FateLaw, weight_one, truth_of, holds_by, not_law, and_law, or_law, exists_law}
use Rattle.decompose.proofs.Truths.{truth_dist}
use Rattle.decompose.proofs.Undecided.{undecided_of, found}

-- a truth is not known where it is Unknown
not_known : (b : Bool) → three.Unknown ≡ sure b → ⊥
not_known true e = cc
not_known false e = cc

unknown_several : (k : Known Bool) → three_of_known k ≡ three.Unknown → k ≡ Several
unknown_several Nothing e = absurd (not_known false (sym e))
unknown_several Several e = refl
unknown_several (One b) e = absurd (not_known b (sym e))

-- an atom that is not known is cut by an undecided cell
atom_law : (p : Posed) (sets : List ℕ) (w : Want) (r : Rel) (x y : Term) → WantFits p w → slice_get p.core.nodes w.node ≡ Some (node.Atom r x y) → want_truth3 p sets w ≡ three.Unknown →
    FateLaw p sets w (Cuts (first_undecided (world_of_core p.core) sets (atom_cells (world_of_core p.core) x y w.env sets w.now)))
atom_law p sets w r x y fits at unknown =
    let world = world_of_core p.core in
    let look = known_at world sets in
    let terms = atom_terms p.core w.node r x y w.env at fits.values_in in
    let several = unknown_several _ (sym (eval_atom world p.core.nodes w.node w.from r x y w.env sets w.now at) ∙ unknown) in
    let seen = undecided_of world sets in
    let some = found (is_undecided world sets) (atom_cells world x y w.env sets w.now)
    (any_of_either world w.env look w.now (is_undecided world sets) seen (reading world x w.env look w.now).cells (reading world y w.env look w.now).cells
    (⊎_elim
    (λ first. inl (reads_open world w.env look w.now (is_undecided world sets) seen x terms.0.reads (term_reaches world x w.env terms.0) first))
    (λ second. inr (reads_open world w.env look w.now (is_undecided world sets) seen y terms.1.reads (term_reaches world y w.env terms.1) second))
    (several_of_both (compares r) (value3 world x w.env look w.now) (value3 world y w.env look w.now) several))) in
    subst (λ o. FateLaw p sets w (Cuts o)) (sym some.1) some.2

-- numbers in a row of which at most one passes
at_most_one : (q : ℕ → Bool) → ((u v : ℕ) → q u ≡ true → q v ≡ true → u ≡ v) → (a n : ℕ) → (filter q (range_with_len a n) ≡ []) ⊎ ((j : ℕ) × (filter q (range_with_len a n) ≡ j ∷ []) × (j < a + n))
at_most_one q same a zero = inl refl
at_most_one q same a (suc n) =
    let more = filter q (range_with_len (a + 1) n) in
    ⊎_elim
    (λ yes. inr (a, cond-true (q a) (a ∷ more) more yes ∙ ap (λ us. a ∷ us) (filter_none q (a + 1) n (λ u from to. false_from_ne_true (q u) (λ h. omega (arith, same u a h yes, from)))), omega arith))
    (λ fails.
    ⊎_elim
    (λ none. inl (cond-false (q a) (a ∷ more) more fails ∙ none))
    (λ one. inr (one.0, cond-false (q a) (a ∷ more) more fails ∙ one.1, omega (arith, one.2)))
    (at_most_one q same (a + 1) n))
    (cases_Bool (q a))

one_instant : (w : World) (i : ℕ) (d : ℤ) → (at_distance w i (Some d) ≡ []) ⊎ ((j : ℕ) × (at_distance w i (Some d) ≡ j ∷ []) × (j < 0 + w.instants))
unfolding instants_of
one_instant w i d =
    at_most_one (is_at_distance i (Some d))
    (λ u v hu hv. let eu = (Decides-int_eq (pos u) (pos i +ℤ d)).0 hu in let ev = (Decides-int_eq (pos v) (pos i +ℤ d)).0 hv in omega (arith, ints, eu, ev))
    0 w.instants

-- a value that is known under sets is the value in each table that lies in them
known_value : (w : World) (sets table : List ℕ) (x : Term) (e : List ℤ) (i : ℕ) (z : ℤ) → LiesIn w sets table → value3 w x e (known_at w sets) i ≡ One z → value w x e table i ≡ Some z
known_value w sets table x e i z lies is =
    let look : Cell → Known ℤ = λ c. known_of_option (number_at w table c) in
    option_one (value w x e table i) z
    (sym (value3_sure w look table e i (record { each = λ c. refl }) x) ∙ (value3_stays w (known_at w sets) look e i (lies_known w sets table lies) x).same z is)

dist_law : (p : Posed) (sets : List ℕ) (w : Want) (a : ℕ) (x : Term) → WantFits p w → slice_get p.core.nodes w.node ≡ Some (node.Dist a x) → want_truth3 p sets w ≡ three.Unknown →
    FateLaw p sets w (dist_row (world_of_core p.core) w a (value3 (world_of_core p.core) x w.env (known_at (world_of_core p.core) sets) w.now))
dist_law p sets w a x fits at unknown =
    let world = world_of_core p.core in
    let d = dist_known p.core w.node a x w.env sets w.now at fits.values_in in
    subst (λ k. FateLaw p sets w (dist_row world w a k)) (sym d.1) (⊎_elim (λ none. outside d.0 d.1 none) (λ one. inside d.0 d.1 one.0 one.1 (omega (arith, one.2))) (one_instant world w.now d.0))
  where
    before : a < w.node
    before = (part_asked p.core w.node (node.Dist a x) at 0 a refl w.now w.env fits.inside fits.values_in).before

    outside : (d : ℤ) → value3 (world_of_core p.core) x w.env (known_at (world_of_core p.core) sets) w.now ≡ One d → at_distance (world_of_core p.core) w.now (Some d) ≡ [] →
        Replaces p sets w (map (part_at w a) (at_distance (world_of_core p.core) w.now (Some d)))
    outside d is none =
        absurd (not_known false (sym unknown ∙ eval_dist (world_of_core p.core) p.core.nodes w.node w.from a x d w.env sets w.now at before is
        ∙ ap (any3 (λ j. core_truth3 (world_of_core p.core) p.core.nodes a 0 w.env sets j)) none))

    inside : (d : ℤ) → value3 (world_of_core p.core) x w.env (known_at (world_of_core p.core) sets) w.now ≡ One d → (j : ℕ) → at_distance (world_of_core p.core) w.now (Some d) ≡ j ∷ [] → j < p.core.instants →
        Replaces p sets w (map (part_at w a) (at_distance (world_of_core p.core) w.now (Some d)))
    inside d is j one in_time =
        let world = world_of_core p.core in
        let asked = part_asked p.core w.node (node.Dist a x) at 0 a refl j w.env in_time fits.values_in in
        subst (Replaces p sets w) (sym (ap (map (part_at w a)) one))
        (record {
          same = λ table lies.
              holds_by p table w w.sign _ refl
              (truth_dist world p.core.nodes w.node w.from a x w.env table w.now at before
              ∙ ap (λ o. list_any (λ k. core_truth_from world p.core.nodes a 0 w.env table k) (at_distance world w.now o)) (known_value world sets table x w.env w.now d lies is)
              ∙ ap (list_any (λ k. core_truth_from world p.core.nodes a 0 w.env table k)) one)
              ∙ alone w.sign (core_truth_from world p.core.nodes a 0 w.env table j)
              ∙ ap (λ b. b && true) (sym (holds_by p table (part_at w a j) w.sign _ refl refl));
          lighter = omega (arith, weight_one p (part_at w a j), count-Dist p.core.nodes w.node w.from a x at before);
          fit = All-cons (WantFits p) (part_at w a j) [] asked.asked (All-nil (WantFits p));
        })
      where
        alone : (s b : Bool) → has_sign s (b || false) ≡ (has_sign s b && true)
        alone true true = refl
        alone true false = refl
        alone false true = refl
        alone false false = refl

-- an Exists that is not known has values left
pub exists_left : (p : Posed) (sets : List ℕ) (w : Want) (low high : ℤ) (a : ℕ) → want_truth3 p sets w ≡ three.Unknown → slice_get p.core.nodes w.node ≡ Some (node.Exists low high a) →
    w.from < length (numbers low high)
exists_left p sets w low high a unknown at =
    ⊎_elim (λ inside. inside)
    (λ past. absurd (not_known false (sym unknown
    ∙ eval_exists (world_of_core p.core) p.core.nodes w.node w.from low high a w.env sets w.now at (exists_before p.core w.node low high a at)
    ∙ ap (any3 (λ z. core_truth3 (world_of_core p.core) p.core.nodes a 0 (w.env ++ z ∷ []) sets w.now)) (drop_all w.from (numbers low high) past))))
    (cases_lt w.from (length (numbers low high)))

-- a want whose truth is not known
row_law : (p : Posed) (sets : List ℕ) (w : Want) → WantFits p w → want_truth3 p sets w ≡ three.Unknown → (n : Node) → slice_get p.core.nodes w.node ≡ Some n →
    FateLaw p sets w (row (world_of_core p.core) sets w (Some n))
row_law p sets w fits unknown (node.Atom r x y) at = atom_law p sets w r x y fits at unknown
row_law p sets w fits unknown (node.Not a) at = not_law p sets w a fits at
row_law p sets w fits unknown (node.And a b) at = and_law p sets w a b fits at w.sign refl
row_law p sets w fits unknown (node.Or a b) at = or_law p sets w a b fits at w.sign refl
row_law p sets w fits unknown (node.Dist a x) at = dist_law p sets w a x fits at unknown
row_law p sets w fits unknown (node.Exists low high a) at =
    exists_law p sets w low high a fits at (exists_left p sets w low high a unknown at) w.sign refl

-- one whose truth is known holds in every table that lies in the sets, or in none
known_law : (p : Posed) (sets : List ℕ) (w : Want) (b : Bool) → want_truth3 p sets w ≡ sure b → (table : List ℕ) → LiesIn (world_of_core p.core) sets table → truth_of p table w ≡ b
known_law p sets w b is table lies = truth_law (world_of_core p.core) p.core.nodes sets table lies w.node w.from w.env w.now b is

dropped : (p : Posed) (sets : List ℕ) (w : Want) → ((table : List ℕ) → LiesIn (world_of_core p.core) sets table → want_holds p table w ≡ true) → Replaces p sets w []
dropped p sets w holds = record { same = holds; lighter = omega (arith, count_some p.core.nodes w.node w.from); fit = All-nil (WantFits p) }

pub fate_law : (p : Posed) (sets : List ℕ) (w : Want) → WantFits p w → FateLaw p sets w (fate p sets w)
unfolding fate
fate_law p sets w fits = at (want_truth3 p sets w) refl w.sign refl
  where
    unknown_law : want_truth3 p sets w ≡ three.Unknown → FateLaw p sets w (row (world_of_core p.core) sets w (slice_get p.core.nodes w.node))
    unknown_law is =
        let n = asked_node p.core w.node w.from w.now w.env fits in
        subst (λ o. FateLaw p sets w (row (world_of_core p.core) sets w o)) (sym n.1) (row_law p sets w fits is n.0 n.1)

    at : (v : Three) → want_truth3 p sets w ≡ v → (s : Bool) → w.sign ≡ s → FateLaw p sets w (fate_by v s (row (world_of_core p.core) sets w (slice_get p.core.nodes w.node)))
    at three.True is true sign = dropped p sets w (λ table lies. holds_by p table w true true sign (known_law p sets w true is table lies))
    at three.True is false sign = λ table lies. holds_by p table w false true sign (known_law p sets w true is table lies)
    at three.False is true sign = λ table lies. holds_by p table w true false sign (known_law p sets w false is table lies)
    at three.False is false sign = dropped p sets w (λ table lies. holds_by p table w false false sign (known_law p sets w false is table lies))
    at three.Unknown is s sign = unknown_law is
