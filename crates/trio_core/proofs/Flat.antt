-- The truths of nodes in a row, node by node.
use Rattle.std.proofs.Common.{◌≡◌, ℕ, zero, suc, ◌+◌, ◌<◌, List, [], ◌∷◌, ◌++◌, None, Some, take, drop, length, slice_get, slice_index_or, refl, sym, ap, ◌∙◌, arith}
use Rattle.std.proofs.Math.Logic.{⊎_elim}
use Rattle.std.proofs.lemmas.Bool.{cases_lt}
use Rattle.std.proofs.lemmas.List.{length_push, get_or_append_left, get_or_push, get_or_past, length-take-le, take-append-drop}
use Rattle.std.proofs.lemmas.Option.{slice_get_past, slice_get_within}
use Rattle.trio_types.specs.World.{World}
use Rattle.trio_types.specs.Truth.{Truth}
use Rattle.trio_types.proofs.Lists.{get_within}
use Rattle.trio_core.specs.declared.nodes.Node.{Node}
use Rattle.trio_core.specs.Core.{never, part_truth, node_truth, in_row, truths_from, truth_of_option, core_truth_from, core_truth}
use Rattle.trio_core.specs.Three.{Truth3, part_truth3, never3, node_truth3, truths3_from, truth3_of_option, core_truth3_by}

-- rows of anything
pub length-in_row : {T : Type 0} (step : List T → Node → T) (ps : List T) (ns : List Node) → length (in_row step ps ns) ≡ length ps + length ns
length-in_row step ps [] = omega arith
length-in_row step ps (n ∷ ns) = omega (arith, length-in_row step (ps ++ step ps n ∷ []) ns, length_push ps (step ps n))

pub in_row-append : {T : Type 0} (step : List T → Node → T) (ps : List T) (ns ms : List Node) → in_row step ps (ns ++ ms) ≡ in_row step (in_row step ps ns) ms
in_row-append step ps [] ms = refl
in_row-append step ps (n ∷ ns) ms = in_row-append step (ps ++ step ps n ∷ []) ns ms

-- what was made earlier is kept
pub row_kept : {T : Type 0} (step : List T → Node → T) (none : T) (ps : List T) (ns : List Node) (a : ℕ) → a < length ps →
    slice_index_or (in_row step ps ns) a none ≡ slice_index_or ps a none
row_kept step none ps [] a inside = refl
row_kept step none ps (n ∷ ns) a inside =
    row_kept step none (ps ++ step ps n ∷ []) ns a (omega (arith, inside, length_push ps (step ps n)))
    ∙ get_or_append_left ps (step ps n ∷ []) none a inside

-- and what the next node makes stands behind it
pub row_next : {T : Type 0} (step : List T → Node → T) (none : T) (ps : List T) (n : Node) (ns : List Node) →
    slice_index_or (in_row step ps (n ∷ ns)) (length ps) none ≡ step ps n
row_next step none ps n ns =
    row_kept step none (ps ++ step ps n ∷ []) ns (length ps) (omega (arith, length_push ps (step ps n)))
    ∙ get_or_push ps (step ps n) none (length ps) refl

-- nodes up to one
cut_at : (nodes : List Node) (a : ℕ) (n : Node) → slice_get nodes a ≡ Some n → nodes ≡ take a nodes ++ n ∷ drop (suc a) nodes
cut_at [] a n at = absurd (none_some at)
  where
    none_some : {n : Node} → None ≡ Some n → ⊥
    none_some e = cc
cut_at (m ∷ nodes) zero n at = rw (same at) refl
  where
    same : {n m : Node} → Some m ≡ Some n → m ≡ n
    same e = cc
cut_at (m ∷ nodes) (suc a) n at = ap (λ ns. m ∷ ns) (cut_at nodes a n at)

-- what a node makes of those before it stands at its place in the row of all
pub row_at : {T : Type 0} (step : List T → Node → T) (none : T) (nodes : List Node) (a : ℕ) (n : Node) → slice_get nodes a ≡ Some n →
    slice_index_or (in_row step [] nodes) a none ≡ step (in_row step [] (take a nodes)) n
row_at step none nodes a n at =
    let before = in_row step [] (take a nodes) in
    let inside = slice_get_within nodes a n at in
    let whole : length before ≡ a = omega (arith, length-in_row step [] (take a nodes), length-take-le a nodes (omega (arith, inside))) in
    ap (λ ns. slice_index_or (in_row step [] ns) a none) (cut_at nodes a n at)
    ∙ ap (λ ps. slice_index_or ps a none) (in_row-append step [] (take a nodes) (n ∷ drop (suc a) nodes))
    ∙ ap (λ k. slice_index_or (in_row step before (n ∷ drop (suc a) nodes)) k none) (sym whole)
    ∙ row_next step none before n (drop (suc a) nodes)

-- and so does what any node before another made
pub row_before : {T : Type 0} (step : List T → Node → T) (none : T) (nodes : List Node) (a b : ℕ) → a < b → b < length nodes →
    slice_index_or (in_row step [] (take b nodes)) a none ≡ slice_index_or (in_row step [] nodes) a none
row_before step none nodes a b less inside =
    let whole : length (in_row step [] (take b nodes)) ≡ b = omega (arith, length-in_row step [] (take b nodes), length-take-le b nodes (omega (arith, inside))) in
    sym (ap (λ ns. slice_index_or (in_row step [] ns) a none) (sym (take-append-drop b nodes))
    ∙ ap (λ ps. slice_index_or ps a none) (in_row-append step [] (take b nodes) (drop b nodes))
    ∙ row_kept step none (in_row step [] (take b nodes)) (drop b nodes) a (omega (arith, whole, less)))

-- truths
abbrev truth_step : World → List Truth → Node → Truth
truth_step w ps n = node_truth w ps 0 n

pub length-truths_from : (w : World) (ps : List Truth) (ns : List Node) → length (truths_from w ps ns) ≡ length ps + length ns
length-truths_from w ps ns = length-in_row (truth_step w) ps ns

pub truths_from-append : (w : World) (ps : List Truth) (ns ms : List Node) → truths_from w ps (ns ++ ms) ≡ truths_from w (truths_from w ps ns) ms
truths_from-append w ps ns ms = in_row-append (truth_step w) ps ns ms

-- earlier truths are kept
pub truths_kept : (w : World) (ps : List Truth) (ns : List Node) (a : ℕ) → a < length ps → part_truth (truths_from w ps ns) a ≡ part_truth ps a
truths_kept w ps ns a inside = row_kept (truth_step w) never ps ns a inside

-- and the next node's stands behind them
pub truth_next : (w : World) (ps : List Truth) (n : Node) (ns : List Node) → part_truth (truths_from w ps (n ∷ ns)) (length ps) ≡ node_truth w ps 0 n
truth_next w ps n ns = row_next (truth_step w) never ps n ns

-- the truth of a node is the one at its place in the row of all
pub core_truth_is : (w : World) (nodes : List Node) (a : ℕ) → core_truth w nodes a ≡ part_truth (truths_from w [] nodes) a
unfolding core_truth_from
core_truth_is w nodes a =
    ⊎_elim
    (λ inside.
    let n = get_within nodes a inside in
    ap (truth_of_option w (truths_from w [] (take a nodes)) 0) n.1 ∙ sym (row_at (truth_step w) never nodes a n.0 n.1))
    (λ outside.
    ap (truth_of_option w (truths_from w [] (take a nodes)) 0) (slice_get_past nodes a outside)
    ∙ sym (get_or_past (truths_from w [] nodes) a never (omega (arith, length-truths_from w [] nodes, outside))))
    (cases_lt a (length nodes))

-- what stands behind a node does not change its truth
pub core_truth_kept : (w : World) (nodes more : List Node) (a : ℕ) → a < length nodes → core_truth w (nodes ++ more) a ≡ core_truth w nodes a
core_truth_kept w nodes more a inside =
    core_truth_is w (nodes ++ more) a
    ∙ ap (λ ps. part_truth ps a) (truths_from-append w [] nodes more)
    ∙ truths_kept w (truths_from w [] nodes) more a (omega (arith, length-truths_from w [] nodes, inside))
    ∙ sym (core_truth_is w nodes a)

-- the truth of a node from an index is made of the truths of its parts
pub core_truth_at : (w : World) (nodes : List Node) (a from : ℕ) (n : Node) → slice_get nodes a ≡ Some n →
    core_truth_from w nodes a from ≡ node_truth w (truths_from w [] (take a nodes)) from n
unfolding core_truth_from
core_truth_at w nodes a from n at = ap (truth_of_option w (truths_from w [] (take a nodes)) from) at

pub part_truth_at : (w : World) (nodes : List Node) (p a : ℕ) → p < a → a < length nodes → part_truth (truths_from w [] (take a nodes)) p ≡ core_truth w nodes p
part_truth_at w nodes p a less inside = row_before (truth_step w) never nodes p a less inside ∙ sym (core_truth_is w nodes p)

-- the same of three-valued truth
abbrev truth3_step : World → List Truth3 → Node → Truth3
truth3_step w ps n = node_truth3 w ps 0 n

core_truth3_is : (w : World) (nodes : List Node) (a : ℕ) → a < length nodes → core_truth3_by w nodes a 0 ≡ part_truth3 (truths3_from w [] nodes) a
unfolding core_truth3_by
core_truth3_is w nodes a inside =
    let n = get_within nodes a inside in
    ap (truth3_of_option w (truths3_from w [] (take a nodes)) 0) n.1 ∙ sym (row_at (truth3_step w) never3 nodes a n.0 n.1)

pub core_truth3_at : (w : World) (nodes : List Node) (a from : ℕ) (n : Node) → slice_get nodes a ≡ Some n →
    core_truth3_by w nodes a from ≡ node_truth3 w (truths3_from w [] (take a nodes)) from n
unfolding core_truth3_by
core_truth3_at w nodes a from n at = ap (truth3_of_option w (truths3_from w [] (take a nodes)) from) at

pub part_truth3_at : (w : World) (nodes : List Node) (p a : ℕ) → p < a → a < length nodes →
    part_truth3 (truths3_from w [] (take a nodes)) p ≡ core_truth3_by w nodes p 0
part_truth3_at w nodes p a less inside = row_before (truth3_step w) never3 nodes p a less inside ∙ sym (core_truth3_is w nodes p (omega (arith, less, inside)))
