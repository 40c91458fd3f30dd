-- Kinds of terms, and places of wrong uses, form by form.
use Rattle.std.proofs.Common.{◌≡◌, ◌⊎◌, ℕ, ℤ, pos, ◌+ℤ◌, Bool, true, false, nat_lt, if◌then◌else◌, List, [], ◌∷◌, ◌++◌, Option, None, Some, length, map, slice_get, refl, ap, sym, ◌∙◌, arith}
use Rattle.std.proofs.lemmas.List.FromFn.{length-map-range_with_len}
use Rattle.std.proofs.lemmas.List.{append-nil}
use Rattle.std.proofs.lemmas.Option.{slice_get-map}
use Rattle.trio_types.specs.declared.spec.DomainKind.TheVariants as domain_kind
use Rattle.trio_types.specs.declared.spec.Domain.{Domain}
use Rattle.trio_types.specs.declared.spec.Item.{Item}
use Rattle.trio_types.specs.declared.formula.Term.{Term}
use Rattle.trio_types.specs.declared.formula.Term.TheVariants as term
use Rattle.trio_types.specs.World.{World, integers}
use Rattle.trio_types.specs.Kinds.{Kind, Use, Gathered, no_kind, number, truth_value, word, kind_of_term, kind_in, kind_of_constant, is_right, term_uses, required, named, argument, of_item, gather_term}
use Rattle.trio_types.proofs.KindsAt.{gathered-Number, gathered-Value, gathered-Var, gathered-Read, gathered-Sum, gathered-Times}
use Rattle.trio_reader.specs.declared.kind.TermKind.TheVariants as code
use Rattle.trio_reader.specs.TermKinds.{seen}
use Rattle.trio_syntax.specs.declared.tree.Mention.{Mention}
use Rattle.trio_syntax.specs.declared.tree.Written.{Written}
use Rattle.trio_syntax.specs.declared.tree.TermTree.{TermTree, out-TermTree}
use Rattle.trio_syntax.specs.declared.tree.TermShape.{TermShape}
use Rattle.trio_syntax.specs.declared.tree.TermShape.TheVariants as shape
use Rattle.trio_syntax.specs.declared.tree.PartTree.{PartTree}
use Rattle.trio_syntax.specs.declared.tree.SpecTree.{SpecTree}
use Rattle.trio_scope.specs.declared.walk.Binder.{Binder}
use Rattle.trio_scope.specs.Gather.{Variable, variables_from}
use Rattle.trio_scope.specs.Places.{earlier, least, unless}
use Rattle.trio_scope.proofs.Least.{earlier-none, earlier-assoc, least_both}
use Rattle.std.proofs.Math.Logic.{⊎_elim}
use Rattle.trio_reader.specs.Erasure.{domain_of, domains_of, world_of_tree, parts_of_tree, shape_of, term_of, part_from, sense_of, sense_term, sense_item, item_count}
use Rattle.trio_reader.proofs.Erased.{map-map, term-shape, shape-Number, shape-Truth, shape-Named, shape-Call, shape-Sum, shape-Times}
use Rattle.std.specs.List.{flat_map, zip}
use Rattle.trio_types.specs.declared.formula.Term.TheOpen as open_term
use Rattle.std.specs.Option.{option_map}
use Rattle.trio_reader.specs.declared.sense.Sense.{Sense}
use Rattle.trio_reader.specs.Kinds.{placed, wrong_places, kind_of, item_use, name_uses, argument_use}

module _ (w : World) (vs : List ℕ) where
  pub kind-no_item : (n : ℕ) (args : List Term) → slice_get w.items n ≡ None → kind_of_term w vs (term.Read n args) ≡ no_kind
  kind-no_item n args is = ap (λ (g : Gathered). g.kind) (gathered-Read w vs n args) ∙ rw is refl

  pub kind-item : (n : ℕ) (args : List Term) (item : Item) → slice_get w.items n ≡ Some item → kind_of_term w vs (term.Read n args) ≡ kind_in w item.value
  kind-item n args item is = ap (λ (g : Gathered). g.kind) (gathered-Read w vs n args) ∙ rw is refl

  pub kind-no_variable : (level : ℕ) → slice_get vs level ≡ None → kind_of_term w vs (term.Var level) ≡ no_kind
  kind-no_variable level is = ap (λ (g : Gathered). g.kind) (gathered-Var w vs level) ∙ rw is refl

  pub kind-variable : (level d : ℕ) → slice_get vs level ≡ Some d → kind_of_term w vs (term.Var level) ≡ kind_in w d
  kind-variable level d is = ap (λ (g : Gathered). g.kind) (gathered-Var w vs level) ∙ rw is refl

  pub kind-word : (d v : ℕ) → kind_of_term w vs (term.Value d v) ≡ kind_of_constant w d v
  kind-word d v = ap (λ (g : Gathered). g.kind) (gathered-Value w vs d v)

-- the kind of a read does not depend on what stands round it
pub kind-read : (w : World) (vs us : List ℕ) (n : ℕ) (args more : List Term) → kind_of_term w vs (term.Read n args) ≡ kind_of_term w us (term.Read n more)
kind-read w vs us n args more = by (slice_get w.items n) refl
  where
    by : (o : Option Item) → slice_get w.items n ≡ o → kind_of_term w vs (term.Read n args) ≡ kind_of_term w us (term.Read n more)
    by None is = kind-no_item w vs n args is ∙ sym (kind-no_item w us n more is)
    by (Some item) is = kind-item w vs n args item is ∙ sym (kind-item w us n more item is)

length-integers : (low : ℤ) (count : ℕ) → length (integers low count) ≡ count
unfolding integers
length-integers low count = length-map-range_with_len (λ k. low +ℤ pos k) 0 count

bool_if : (b : Bool) → seen (if b then code.Truth else code.Unkinded) ≡ elim b as (λ x. Kind) [ true ↦ truth_value | false ↦ no_kind ]
bool_if true = refl
bool_if false = refl

word_if : (d : ℕ) (b : Bool) → seen (if b then code.Word d else code.Unkinded) ≡ (elim b as (λ x. ℕ → Kind) [ true ↦ λ x. word x | false ↦ λ x. no_kind ]) d
word_if d true = refl
word_if d false = refl

pub constant-bool : (w : World) (d v : ℕ) (domain : Domain) → Some domain ≡ slice_get w.domains d → domain.kind ≡ domain_kind.Bool →
    seen (if nat_lt v 2 then code.Truth else code.Unkinded) ≡ kind_of_constant w d v
constant-bool w d v domain is bool = rw (← is, bool, length-integers) (bool_if (nat_lt v 2))

pub constant-words : (w : World) (d v : ℕ) (domain : Domain) (words : List (List ℕ)) → Some domain ≡ slice_get w.domains d → domain.kind ≡ domain_kind.Words words →
    seen (if nat_lt v (length words) then code.Word d else code.Unkinded) ≡ kind_of_constant w d v
constant-words w d v domain words is kinds = rw (← is, kinds, length-integers) (word_if d (nat_lt v (length words)))

-- the domain of the variable at a level
pub domain-at : (tree : SpecTree) (around : List Binder) (level : ℕ) →
    slice_get (domains_of tree (variables_from around)) level ≡ option_map (λ (b : Binder). domain_of tree b.domain.now) (slice_get around level)
domain-at tree around level =
    ap (λ ds. slice_get ds level) (map-map (λ (v : Variable). domain_of tree v.domain) (λ (b : Binder). record { name = b.variable.now.name; domain = b.domain.now }) around)
    ∙ slice_get-map (λ (b : Binder). domain_of tree b.domain.now) around level

-- `false` and `true`
pub truth-constant : (tree : SpecTree) (b : Bool) → kind_of_constant (world_of_tree tree) 0 (if b then 1 else 0) ≡ truth_value
unfolding parts_of_tree
truth-constant tree true = rw length-integers refl
truth-constant tree false = rw length-integers refl

-- places of wrong uses
pub wrong-one : (p : ℕ) (u : Use) → wrong_places (placed p u ∷ []) ≡ unless (is_right u) p
wrong-one p u = append-nil (unless (is_right u) p)

-- the kind of a term, by its shape
module _ (tree : SpecTree) (e : List Variable) (t : TermTree) where
  pub kind-shape : {s : TermShape} → (out-TermTree t).shape ≡ s → kind_of tree e t ≡ kind_of_term (world_of_tree tree) (domains_of tree e) (shape_of tree s e)
  kind-shape is = ap (kind_of_term (world_of_tree tree) (domains_of tree e)) (term-shape tree t e ∙ ap (λ s. shape_of tree s e) is)

  pub kind-Number : (n : Written) → (out-TermTree t).shape ≡ shape.Number n → number ≡ kind_of tree e t
  kind-Number n is = sym (kind-shape is ∙ ap (kind_of_term (world_of_tree tree) (domains_of tree e)) (shape-Number tree e n)
      ∙ ap (λ (g : Gathered). g.kind) (gathered-Number (world_of_tree tree) (domains_of tree e) n.number))

  pub kind-Truth : (b : Bool) → (out-TermTree t).shape ≡ shape.Truth b → truth_value ≡ kind_of tree e t
  kind-Truth b is = sym (kind-shape is ∙ ap (kind_of_term (world_of_tree tree) (domains_of tree e)) (shape-Truth tree e b)
      ∙ kind-word (world_of_tree tree) (domains_of tree e) 0 (if b then 1 else 0) ∙ truth-constant tree b)

  pub kind-Named : (m : Mention) → (out-TermTree t).shape ≡ shape.Named m →
      kind_of tree e t ≡ kind_of_term (world_of_tree tree) (domains_of tree e) (sense_term (sense_of tree e m.name))
  kind-Named m is = kind-shape is ∙ ap (kind_of_term (world_of_tree tree) (domains_of tree e)) (shape-Named tree e m)

  pub kind-Call : (m : Mention) (args : List TermTree) → (out-TermTree t).shape ≡ shape.Call m args →
      kind_of tree e t ≡ kind_of_term (world_of_tree tree) [] (term.Read (sense_item (item_count tree) (sense_of tree e m.name)) [])
  kind-Call m args is = kind-shape is ∙ ap (kind_of_term (world_of_tree tree) (domains_of tree e)) (shape-Call tree e m args)
      ∙ kind-read (world_of_tree tree) (domains_of tree e) [] (sense_item (item_count tree) (sense_of tree e m.name)) (map (λ a. term_of tree a e) args) []

  pub kind-Sum : (parts : List PartTree) → (out-TermTree t).shape ≡ shape.Sum parts → number ≡ kind_of tree e t
  kind-Sum parts is = sym (kind-shape is ∙ ap (kind_of_term (world_of_tree tree) (domains_of tree e)) (shape-Sum tree e parts)
      ∙ ap (λ (g : Gathered). g.kind) (gathered-Sum (world_of_tree tree) (domains_of tree e) (map (λ p. part_from tree p e) parts)))

  pub kind-Times : (n : Written) (factor : TermTree) → (out-TermTree t).shape ≡ shape.Times n factor → number ≡ kind_of tree e t
  kind-Times n factor is = sym (kind-shape is ∙ ap (kind_of_term (world_of_tree tree) (domains_of tree e)) (shape-Times tree e n factor)
      ∙ ap (λ (g : Gathered). g.kind) (gathered-Times (world_of_tree tree) (domains_of tree e) n.number (term_of tree factor e)))

-- what names alone use
module _ (w : World) (vs : List ℕ) (inside : Bool) where
  pub uses-Var : (level : ℕ) → term_uses w vs inside (term.Var level) ≡ required named (kind_of_term w vs (term.Var level)) ∷ []
  uses-Var level =
      ap (λ (g : Gathered). g.uses inside) (gathered-Var w vs level)
      ∙ sym (ap (λ (g : Gathered). required named g.kind ∷ []) (gathered-Var w vs level))

  pub uses-Value : (d v : ℕ) → term_uses w vs inside (term.Value d v) ≡ required named (kind_of_constant w d v) ∷ []
  uses-Value d v = ap (λ (g : Gathered). g.uses inside) (gathered-Value w vs d v)

no_arguments : (w : World) (ds : List ℕ) →
    map (λ (p : ℕ × Gathered). required (argument (kind_in w p.0)) p.1.kind) (zip ds []) ++ flat_map (λ (g : Gathered). g.uses true) [] ≡ []
no_arguments w [] = refl
no_arguments w (d ∷ ds) = refl

pub uses-Read : (tree : SpecTree) (vs : List ℕ) (inside : Bool) (n : ℕ) → term_uses (world_of_tree tree) vs inside (term.Read n []) ≡ item_use tree inside n 0 ∷ []
uses-Read tree vs inside n = ap (λ (g : Gathered). g.uses inside) (gathered-Read (world_of_tree tree) vs n []) ∙ by (slice_get (world_of_tree tree).items n) refl
  where
    by : (o : Option Item) → slice_get (world_of_tree tree).items n ≡ o →
        (gather_term (world_of_tree tree) vs (open_term.Read n [])).uses inside ≡ item_use tree inside n 0 ∷ []
    by None is = rw is refl
    by (Some item) is = rw is (ap (λ us. of_item inside (Some (length item.args)) 0 ∷ us) (no_arguments (world_of_tree tree) item.args))

pub wrong_name : (tree : SpecTree) (e : List Variable) (inside : Bool) (m : Mention) (s : Sense) → s ≡ sense_of tree e m.name → (u : Use) →
    term_uses (world_of_tree tree) (domains_of tree e) inside (sense_term s) ≡ u ∷ [] → {b : Bool} → b ≡ is_right u → {r : Option ℕ} →
    r ≡ least (unless b m.place) → r ≡ least (wrong_places (name_uses tree e inside m))
wrong_name tree e inside m s is u uses right found =
    found ∙ ap least (ap (λ b. unless b m.place) right ∙ sym (wrong-one m.place u)
    ∙ ap (λ us. wrong_places (map (placed m.place) us)) (sym (ap (λ t. term_uses (world_of_tree tree) (domains_of tree e) inside (sense_term t)) (sym is) ∙ uses)))

-- one more argument, in a loop
pub arguments_next : (tree : SpecTree) (e : List Variable) {d : ℕ} {a : TermTree} {domains ds : List ℕ} {args as_ : List TermTree} →
    domains ≡ d ∷ ds → args ≡ a ∷ as_ → (first : Option ℕ) → {whole here next : Option ℕ} →
    whole ≡ earlier first (least (wrong_places (map (argument_use tree e) (zip domains args)))) → {b : Bool} →
    b ≡ is_right (argument_use tree e (d, a)).use_ → here ≡ least (unless b (out-TermTree a).place) → next ≡ earlier first here →
    whole ≡ earlier next (least (wrong_places (map (argument_use tree e) (zip ds as_))))
arguments_next tree e {d = d} {a = a} {ds = ds} {as_ = as_} first_is second_is first {here = here} before right found joined =
    let rest : List ℕ = wrong_places (map (argument_use tree e) (zip ds as_)) in
    let own : List ℕ = unless (is_right (argument_use tree e (d, a)).use_) (out-TermTree a).place in
    before ∙ ap (earlier first) (rw (first_is, second_is)
    (sym (least_both own rest (found ∙ ap (λ b. least (unless b (out-TermTree a).place)) right) refl refl)))
    ∙ earlier-assoc first here (least rest) ∙ ap (λ n. earlier n (least rest)) (sym joined)

pub arguments_end : (tree : SpecTree) (e : List Variable) (domains : List ℕ) (args : List TermTree) → (length domains ≡ 0) ⊎ (length args ≡ 0) → (first : Option ℕ) → {whole : Option ℕ} →
    whole ≡ earlier first (least (wrong_places (map (argument_use tree e) (zip domains args)))) → first ≡ whole
arguments_end tree e domains args done first is =
    sym (is ∙ ap (λ ps. earlier first (least (wrong_places (map (argument_use tree e) ps)))) (none domains args done) ∙ earlier-none first)
  where
    none : (ds : List ℕ) (ts : List TermTree) → (length ds ≡ 0) ⊎ (length ts ≡ 0) → zip ds ts ≡ []
    none [] ts done = refl
    none (d ∷ ds) [] done = refl
    none (d ∷ ds) (t ∷ ts) done = ⊎_elim (λ no. absurd (omega arith)) (λ no. absurd (omega arith)) done
