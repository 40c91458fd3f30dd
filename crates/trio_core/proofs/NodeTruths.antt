-- What `node_truth` and `for_some` answer, by the forms of nodes.
use Rattle.std.proofs.Common.{◌≡◌, ℕ, ◌+◌, ◌<◌, ◌≤◌, nat_abs, Fits, w32, T, ℤ, pos, ◌+ℤ◌, ◌≤ℤ◌, ◌<ℤ◌, to_z, of_z, w64, List, [], ◌∷◌, ◌++◌, Some, length, take, drop, set, slice_get, subst, refl, sym, ap, ◌∙◌, arith}
use lib.Signed.{non_neg}
use mir.Val.{SFits}
use Rattle.std.proofs.lemmas.Int.{ints}
use Rattle.std.proofs.lemmas.List.{take_more_set, take-set-le, length-set}
use Rattle.trio_base.specs.declared.operators.Rel.{Rel}
use Rattle.trio_types.specs.declared.formula.Term.{Term}
use Rattle.trio_types.specs.Parts.{declarations_of}
use Rattle.trio_types.proofs.Bounded.{near_of}
use Rattle.trio_types.proofs.Specs.{few_instants}
use Rattle.trio_core.specs.declared.interpretation.Interpretation.{Interpretation}
use Rattle.trio_core.specs.declared.nodes.Known.{Known}
use Rattle.trio_core.specs.declared.nodes.Known.TheVariants.{One}
use Rattle.trio_core.specs.declared.nodes.Node.{Node}
use Rattle.trio_core.specs.declared.nodes.Node.TheVariants as node
use Rattle.trio_core.specs.declared.nodes.Three.{Three}
use Rattle.trio_core.specs.declared.nodes.Three.TheVariants as three
use Rattle.trio_core.specs.Core.{numbers}
use Rattle.trio_core.specs.Three.{not3, and3, or3, any3, relates3, core_truth3}
use Rattle.trio_core.specs.Stands.{world_of_core, NodeAsked}
use Rattle.trio_core.specs.Fits.{BodyFits}
use Rattle.trio_core.proofs.Evaluating.{any_more, any_end, any_found, eval_atom, eval_not, eval_and, eval_or, eval_exists, eval_dist, any_at, none_at, absolute, castable, written, passed_on, numbers_passed, one_of_numbers}
use Rattle.trio_core.proofs.NodesFit.{core_formed, PartAsked, part_asked, atom_terms, dist_term, exists_body, exists_before, dist_known}
use Rattle.trio_core.proofs.TermValues.{FitsUnder, known_value, known_near}

-- the truth of a node, and that it may be asked for
abbrev pub truth_under : Interpretation → ℕ → ℕ → ℕ → Three
truth_under under a from i = core_truth3 (world_of_core under.core.now) under.core.now.nodes a from under.values.now under.doms.now i

abbrev pub AskedUnder : Interpretation → ℕ → ℕ → ℕ → Type 0
AskedUnder under a from i = NodeAsked under.core.now a from i under.values.now

abbrev pub PartUnder : Interpretation → ℕ → ℕ → ℕ → Type 0
PartUnder under a p i = PartAsked under.core.now a p i under.values.now

-- terms compared
pub record AtomNode (under : Interpretation) (a from i : ℕ) (r : Rel) (x y : Term) : Type 0 where
  pub left : FitsUnder under x
  pub right : FitsUnder under y
  pub answer : (k l : Known ℤ) → k ≡ known_value under i x → l ≡ known_value under i y → relates3 r k l ≡ truth_under under a from i

pub atom_node : (under : Interpretation) (a from i : ℕ) (n : Node) (r : Rel) (x y : Term) → AskedUnder under a from i → slice_get under.core.now.nodes a ≡ Some n → n ≡ node.Atom r x y → AtomNode under a from i r x y
atom_node under a from i n r x y asked at is =
    let here = at ∙ ap Some is in
    let terms = atom_terms under.core.now a r x y under.values.now here asked.values_in in
    record {
      left = terms.0;
      right = terms.1;
      answer = λ k l left right. ap (λ v. relates3 r v l) left ∙ ap (relates3 r (known_value under i x)) right
          ∙ sym (eval_atom (world_of_core under.core.now) under.core.now.nodes a from r x y under.values.now under.doms.now i here);
    }

-- one part, or two
pub record NotNode (under : Interpretation) (a from i p : ℕ) : Type 0 where
  pub part : PartUnder under a p i
  pub answer : not3 (truth_under under p 0 i) ≡ truth_under under a from i

pub not_node : (under : Interpretation) (a from i : ℕ) (n : Node) (p : ℕ) → AskedUnder under a from i → slice_get under.core.now.nodes a ≡ Some n → n ≡ node.Not p → NotNode under a from i p
not_node under a from i n p asked at is =
    let here = at ∙ ap Some is in
    let part = part_asked under.core.now a (node.Not p) here 0 p refl i under.values.now asked.inside asked.values_in in
    record { part = part; answer = sym (eval_not (world_of_core under.core.now) under.core.now.nodes a from p under.values.now under.doms.now i here part.before) }

pub record PairNode (table : Three → Three → Three) (under : Interpretation) (a from i l r : ℕ) : Type 0 where
  pub left : PartUnder under a l i
  pub right : PartUnder under a r i
  pub answer : (first second : Three) → truth_under under l 0 i ≡ first → truth_under under r 0 i ≡ second → table first second ≡ truth_under under a from i

pair_node : (table : Three → Three → Three) (under : Interpretation) (a from i : ℕ) (n : Node) (l r : ℕ) → AskedUnder under a from i → slice_get under.core.now.nodes a ≡ Some n →
    PartUnder under a l i → PartUnder under a r i → truth_under under a from i ≡ table (truth_under under l 0 i) (truth_under under r 0 i) → PairNode table under a from i l r
pair_node table under a from i n l r asked at left right whole = record {
  left = left;
  right = right;
  answer = λ first second first_is second_is. sym (whole ∙ ap (λ f. table f (truth_under under r 0 i)) first_is ∙ ap (table first) second_is);
}

pub and_node : (under : Interpretation) (a from i : ℕ) (n : Node) (l r : ℕ) → AskedUnder under a from i → slice_get under.core.now.nodes a ≡ Some n → n ≡ node.And l r → PairNode and3 under a from i l r
and_node under a from i n l r asked at is =
    let here = at ∙ ap Some is in
    let part = part_asked under.core.now a (node.And l r) here in
    let left = part 0 l refl i under.values.now asked.inside asked.values_in in
    let right = part 1 r refl i under.values.now asked.inside asked.values_in in
    pair_node and3 under a from i n l r asked at left right (eval_and (world_of_core under.core.now) under.core.now.nodes a from l r under.values.now under.doms.now i here left.before right.before)

pub or_node : (under : Interpretation) (a from i : ℕ) (n : Node) (l r : ℕ) → AskedUnder under a from i → slice_get under.core.now.nodes a ≡ Some n → n ≡ node.Or l r → PairNode or3 under a from i l r
or_node under a from i n l r asked at is =
    let here = at ∙ ap Some is in
    let part = part_asked under.core.now a (node.Or l r) here in
    let left = part 0 l refl i under.values.now asked.inside asked.values_in in
    let right = part 1 r refl i under.values.now asked.inside asked.values_in in
    pair_node or3 under a from i n l r asked at left right (eval_or (world_of_core under.core.now) under.core.now.nodes a from l r under.values.now under.doms.now i here left.before right.before)

-- a part at a distance
abbrev pub target_of : ℤ → ℤ → ℤ
target_of now d = to_z w64 (of_z w64 (to_z w64 (of_z w64 now) +ℤ to_z w64 (of_z w64 d)))

pub record AtTarget (under : Interpretation) (a from i p : ℕ) (target : ℤ) : Type 0 where
  pub cast : T (non_neg target) × Fits w32 (nat_abs target)
  pub part : PartUnder under a p (nat_abs target)
  pub answer : truth_under under p 0 (nat_abs target) ≡ truth_under under a from i

pub record DistNode (under : Interpretation) (a from i p : ℕ) (d now : ℤ) : Type 0 where
  pub few : under.core.now.instants ≤ 256
  pub fits : SFits w64 (to_z w64 (of_z w64 now) +ℤ to_z w64 (of_z w64 d))
  pub inside : pos 0 ≤ℤ target_of now d → target_of now d <ℤ pos under.core.now.instants → AtTarget under a from i p (target_of now d)
  pub outside : ((j : ℕ) → j < under.core.now.instants → pos j ≡ target_of now d → ⊥) → three.False ≡ truth_under under a from i

pub record Distance (under : Interpretation) (i : ℕ) (x : Term) : Type 0 where
  pub fits : FitsUnder under x
  pub value : ℤ
  pub known : known_value under i x ≡ One value

pub distance : (under : Interpretation) (a from i : ℕ) (n : Node) (p : ℕ) (x : Term) → AskedUnder under a from i → slice_get under.core.now.nodes a ≡ Some n → n ≡ node.Dist p x → Distance under i x
distance under a from i n p x asked at is =
    let here = at ∙ ap Some is in
    let known = dist_known under.core.now a p x under.values.now under.doms.now i here asked.values_in in
    record { fits = dist_term under.core.now a p x under.values.now here asked.values_in; value = known.0; known = known.1 }

pub dist_node : (under : Interpretation) (a from i : ℕ) (n : Node) (p : ℕ) (x : Term) (k : Known ℤ) (d now : ℤ) → AskedUnder under a from i → slice_get under.core.now.nodes a ≡ Some n → n ≡ node.Dist p x →
    k ≡ known_value under i x → k ≡ One d → now ≡ pos i → DistNode under a from i p d now
dist_node under a from i n p x k d now asked at is told one now_is =
    let w = world_of_core under.core.now in
    let e = under.values.now in
    let here = at ∙ ap Some is in
    let near = near_of d (known_near under i x k (dist_term under.core.now a p x e here asked.values_in) told d one) in
    let few = few_instants (declarations_of w) (core_formed under.core.now) in
    let part = part_asked under.core.now a (node.Dist p x) here 0 p refl in
    let target_is : target_of now d ≡ pos i +ℤ d = omega (arith, ints, near.not_far_back, near.not_far_on, few, asked.inside, now_is) in
    let whole = eval_dist w under.core.now.nodes a from p x d e under.doms.now i here (part i e asked.inside asked.values_in).before (sym told ∙ one) in
    record {
      few = few;
      fits = omega (arith, ints, near.not_far_back, near.not_far_on, few, asked.inside, now_is);
      inside = λ from_zero before.
          let j = nat_abs (target_of now d) in
          let same = absolute (target_of now d) from_zero in
          let there : j < under.core.now.instants = omega (arith, ints, same, before) in
          record {
            cast = castable (target_of now d) j same (omega (arith, there, few));
            part = part j e there asked.values_in;
            answer = sym (whole ∙ any_at w i d j (λ j. truth_under under p 0 j) (sym same ∙ target_is) there);
          };
      outside = λ none. sym (whole ∙ none_at w i d (λ j. truth_under under p 0 j) (λ j below is. none j below (is ∙ sym target_is)));
    }

-- one of the values of a variable
abbrev pub truth_with : Interpretation → ℕ → ℕ → ℤ → Three
truth_with under p i z = core_truth3 (world_of_core under.core.now) under.core.now.nodes p 0 (under.values.now ++ z ∷ []) under.doms.now i

pub record ExistsNode (under : Interpretation) (a from i : ℕ) (low high : ℤ) (p : ℕ) : Type 0 where
  pub before : p < a
  pub body : BodyFits under.core.now (to_z w64 (of_z w64 low)) (to_z w64 (of_z w64 high)) p from i under.values.now
  pub answer : any3 (truth_with under p i) (drop from (numbers (to_z w64 (of_z w64 low)) (to_z w64 (of_z w64 high)))) ≡ truth_under under a from i

pub exists_node : (under : Interpretation) (a from i : ℕ) (n : Node) (low high : ℤ) (p : ℕ) → AskedUnder under a from i → slice_get under.core.now.nodes a ≡ Some n → n ≡ node.Exists low high p → ExistsNode under a from i low high p
exists_node under a from i n low high p asked at is =
    let e = under.values.now in
    let here = at ∙ ap Some is in
    let body = exists_body under.core.now a from i e low high p asked here in
    let before = exists_before under.core.now a low high p here in
    let high_passed = subst (λ h. BodyFits under.core.now low h p from i e) (passed_on high body.high_near) body in
    record {
      before = before;
      body = subst (λ l. BodyFits under.core.now l (to_z w64 (of_z w64 high)) p from i e) (passed_on low body.low_near) high_passed;
      answer = ap (λ zs. any3 (truth_with under p i) (drop from zs)) (numbers_passed low high body.low_near body.high_near)
          ∙ sym (eval_exists (world_of_core under.core.now) under.core.now.nodes a from low high p e under.doms.now i here before);
    }

-- the variables' values stand in front, and what was found so far with what the values left over give is the answer
pub record SoFar (under : Interpretation) (p from i : ℕ) (zs : List ℤ) (k : ℕ) (inner : List ℤ) (found : Three) : Type 0 where
  pub enough : length inner ≡ 200
  pub front : take (length under.values.now) inner ≡ under.values.now
  pub so_far : or3 found (any3 (truth_with under p i) (drop k zs)) ≡ any3 (truth_with under p i) (drop from zs)

-- the values are passed on
abbrev pub passed_numbers : ℤ → ℤ → List ℤ
passed_numbers low high = numbers (to_z w64 (of_z w64 low)) (to_z w64 (of_z w64 high))

pub record Step (under : Interpretation) (p from i : ℕ) (low high : ℤ) (k : ℕ) (inner : List ℤ) (found : Three) (z : ℤ) : Type 0 where
  pub asked : NodeAsked under.core.now p 0 i (take (length under.values.now + 1) (set inner (length under.values.now) z))
  pub more : (t new : Three) → t ≡ core_truth3 (world_of_core under.core.now) under.core.now.nodes p 0 (take (length under.values.now + 1) (set inner (length under.values.now) z)) under.doms.now i →
      new ≡ or3 found t → SoFar under p from i (passed_numbers low high) (k + 1) (set inner (length under.values.now) z) new

pub step : (under : Interpretation) (p from i : ℕ) (low high : ℤ) (k : ℕ) (inner : List ℤ) (found : Three) (many : ℕ) (index : ℤ) → BodyFits under.core.now low high p from i under.values.now →
    SoFar under p from i (passed_numbers low high) k inner found → many ≡ length (passed_numbers low high) → k < many → index ≡ pos k →
    Step under p from i low high k inner found (to_z w64 (of_z w64 (to_z w64 (of_z w64 low) +ℤ to_z w64 (of_z w64 index))))
step under p from i low high k inner found many index body before many_is below index_is =
    let e = under.values.now in
    let q = truth_with under p i in
    let passed = numbers_passed low high body.low_near body.high_near in
    let lb = written low body.low_near in
    let hb = written high body.high_near in
    let one = one_of_numbers low high k (omega (arith, below, many_is, ap length passed)) in
    let z = to_z w64 (of_z w64 (to_z w64 (of_z w64 low) +ℤ to_z w64 (of_z w64 index))) in
    let z_is : z ≡ low +ℤ pos k = omega (arith, ints, lb.back, lb.on, hb.back, hb.on, one.from, one.to, index_is) in
    let environment = take_more_set inner (length e) z (omega (arith, before.enough, body.room)) ∙ ap (λ l. l ++ z ∷ []) before.front ∙ ap (λ z. e ++ z ∷ []) z_is in
    record {
      asked = subst (NodeAsked under.core.now p 0 i) (sym environment) (body.body (low +ℤ pos k) one.from one.to);
      more = λ t new told is. record {
        enough = length-set inner (length e) z ∙ before.enough;
        front = take-set-le (length e) inner (length e) z (omega arith) ∙ before.front;
        so_far = any_more q (passed_numbers low high) k (low +ℤ pos k) found new (any3 q (drop from (passed_numbers low high))) (ap (λ zs. slice_get zs k) passed ∙ one.at)
            (is ∙ ap (or3 found) (told ∙ ap (λ v. core_truth3 (world_of_core under.core.now) under.core.now.nodes p 0 v under.doms.now i) environment)) before.so_far;
      };
    }

-- a value that serves, and all values
pub found_one : {under : Interpretation} {p from i : ℕ} {zs : List ℤ} {k : ℕ} {inner : List ℤ} {found : Three} → SoFar under p from i zs k inner found → found ≡ three.True → found ≡ any3 (truth_with under p i) (drop from zs)
found_one {under = under} {p = p} {from = from} {i = i} {zs = zs} {k = k} {found = found} so_far is =
    any_found found (any3 (truth_with under p i) (drop k zs)) (any3 (truth_with under p i) (drop from zs)) is so_far.so_far

pub all_seen : {under : Interpretation} {p from i : ℕ} {zs : List ℤ} {k : ℕ} {inner : List ℤ} {found : Three} → SoFar under p from i zs k inner found → length zs ≤ k → found ≡ any3 (truth_with under p i) (drop from zs)
all_seen {under = under} {p = p} {from = from} {i = i} {zs = zs} {k = k} {found = found} so_far past = any_end (truth_with under p i) zs k found (any3 (truth_with under p i) (drop from zs)) past so_far.so_far

-- as the values were before they were passed on
pub passed_back : (under : Interpretation) (p from i : ℕ) (low high : ℤ) (t : Three) → BodyFits under.core.now low high p from i under.values.now → t ≡ any3 (truth_with under p i) (drop from (passed_numbers low high)) →
    t ≡ any3 (truth_with under p i) (drop from (numbers low high))
passed_back under p from i low high t body is = is ∙ ap (λ zs. any3 (truth_with under p i) (drop from zs)) (numbers_passed low high body.low_near body.high_near)
