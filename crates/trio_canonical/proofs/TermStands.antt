-- For which terms the trees of canonical texts stand.
use Rattle.std.proofs.Common.{◌≡◌, ℕ, zero, suc, ◌<◌, ◌⊎◌, inl, inr, Bool, true, false, not, ◌&&◌, ◌==◌, nat_lt, if◌then◌else◌, List, [], ◌∷◌, ◌++◌, length, map, Option, None, Some, slice_get, slice_index_or, refl, sym, ap, ◌∙◌, arith}
use Rattle.std.specs.List.{list_all, flat_map}
use Rattle.std.specs.Option.{option_map}
use Rattle.std.proofs.Math.Logic.{⊎_elim}
use Rattle.std.proofs.lemmas.Bool.{false≢true, and_parts, ltb-true, eqb-true}
use Rattle.std.proofs.lemmas.Option.{same_Some, slice_get_within, slice_get-get_or}
use Rattle.std.proofs.lemmas.List.Folds.{flat_map-map}
use Rattle.trio_types.specs.declared.spec.DomainKind.{DomainKind}
use Rattle.trio_types.specs.declared.spec.DomainKind.TheVariants as kind
use Rattle.trio_types.specs.declared.spec.Domain.{Domain}
use Rattle.trio_types.specs.declared.spec.Item.{Item}
use Rattle.trio_types.specs.declared.formula.Term.{Term}
use Rattle.trio_types.specs.declared.formula.Term.TheVariants as term
use Rattle.trio_types.specs.declared.formula.SignedTerm.{SignedTerm, out-SignedTerm}
use Rattle.trio_types.specs.World.{World}
use Rattle.trio_types.specs.Parts.{Parts, world_of_parts}
use Rattle.trio_types.specs.Kinds.{Kind, no_kind, number, truth_value, word, has_kind, kind_of_constant, kind_if_constant, Gathered, gathered, term_uses, is_right, is_arity, required, part, Use, argument_uses, args_of}
use Rattle.trio_types.specs.Shape.{makes_sum}
use Rattle.trio_types.proofs.ShapeAt.{shape_of_part}
use Rattle.trio_types.proofs.Lists.{all_left, all_right}
use Rattle.trio_types.proofs.Domains.{length-integers}
use Rattle.trio_types.proofs.KindsAt.{gathered-Value, gathered-Var, gathered-Read, gathered-Sum, gathered-Times}
use Rattle.trio_syntax.specs.declared.tree.Mention.{Mention}
use Rattle.trio_syntax.specs.declared.tree.Written.{Written}
use Rattle.trio_syntax.specs.declared.tree.TermTree.{TermTree}
use Rattle.trio_syntax.specs.declared.tree.TermShape.TheVariants as shape
use Rattle.trio_syntax.specs.declared.tree.PartTree.{PartTree}
use Rattle.trio_syntax.specs.declared.tree.SpecTree.{SpecTree}
use Rattle.trio_syntax.specs.Grammar.{named, sum}
use Rattle.trio_scope.specs.Gather.{Variable}
use Rattle.trio_reader.specs.declared.sense.Sense.TheVariants as sense
use Rattle.trio_reader.specs.Erasure.{term_of, part_from, sense_of, sense_in, sense_term, item_count, meaning_of}
use Rattle.trio_reader.proofs.Erased.{term-shape, shape-Number, shape-Truth, shape-Named, shape-Call, shape-Sum, shape-Times}
use Rattle.trio_print.specs.Canonical.{item_name, word_name}
use Rattle.trio_canonical.proofs.Told.{Pairwise}
use Rattle.trio_canonical.proofs.Meant.{BoolFirst, bool_first, Fits, level_is, sense_is}

-- all that a term uses is right
abbrev pub term_is_right : Parts → List ℕ → Bool → Term → Bool
term_is_right parts vs inside x = list_all is_right (term_uses (world_of_parts parts) vs inside x)

-- where names mean what they do in these parts and all that the term uses is right, the tree stands for the term
pub record Stands (parts : Parts) (names : List (List ℕ)) (x : Term) (t : TermTree) : Type 0 where
  pub is : (tree : SpecTree) (around : List Variable) (vs : List ℕ) (inside : Bool) → Fits parts tree names around vs → term_is_right parts vs inside x ≡ true →
      term_of tree t around ≡ x

-- a tree stands for what its shape does
pub stands_shape : {parts : Parts} {names : List (List ℕ)} {x : Term} {t : TermTree} (p : ℕ) → Stands parts names x t → Stands parts names x (record { place = p; shape = t.shape })
stands_shape {t = t} p s = record {
  is = λ tree around vs inside fits right.
      term-shape tree (record { place = p; shape = t.shape }) around ∙ sym (term-shape tree t around) ∙ s.is tree around vs inside fits right;
}

module _ {parts : Parts} {names : List (List ℕ)} where
  pub stands_number : (n p : ℕ) (w : Written) → w.number ≡ n → Stands parts names (term.Number n) (record { place = p; shape = shape.Number w })
  stands_number n p w is = record {
    is = λ tree around vs inside fits right.
        term-shape tree (record { place = p; shape = shape.Number w }) around ∙ shape-Number tree around w ∙ ap term.Number is;
  }

  pub stands_times : (n : ℕ) (x : Term) (p : ℕ) (w : Written) (t : TermTree) → w.number ≡ n → Stands parts names x t →
      Stands parts names (term.Times n x) (record { place = p; shape = shape.Times w t })
  stands_times n x p w t is s = record {
    is = λ tree around vs inside fits right.
        let uses = sym (ap (λ (g : Gathered). list_all is_right (g.uses inside)) (gathered-Times (world_of_parts parts) vs n x)) ∙ right in
        term-shape tree (record { place = p; shape = shape.Times w t }) around ∙ shape-Times tree around w t
        ∙ (let e = s.is tree around vs inside fits (and_parts _ (term_is_right parts vs inside x) uses).1 in rw (is, e) refl);
  }

-- constants
record IsConstant (w : World) (d v : ℕ) : Type 0 where
  domain : Domain
  at : slice_get w.domains d ≡ Some domain
  fits : ((domain.kind ≡ kind.Bool) × (v < 2)) ⊎ ((words : List (List ℕ)) × (domain.kind ≡ kind.Words words) × (v < length words))

passes : (b : Bool) (k : Kind) → has_kind (kind_if_constant b k) ≡ true → b ≡ true
passes true k has = refl
passes false no_kind has = absurd (false≢true has)
passes false number has = absurd (false≢true has)
passes false truth_value has = absurd (false≢true has)
passes false (word d) has = absurd (false≢true has)

is_constant : (w : World) (d v : ℕ) → has_kind (kind_of_constant w d v) ≡ true → IsConstant w d v
is_constant w d v has = by (slice_get w.domains d) refl
  where
    of_kind : (domain : Domain) (k : DomainKind) → slice_get w.domains d ≡ Some domain → domain.kind ≡ k → IsConstant w d v
    of_kind domain kind.Bool at is =
        let e : kind_of_constant w d v ≡ kind_if_constant (nat_lt v 2) truth_value = rw (at, is, length-integers) refl in
        record { domain = domain; at = at; fits = inl (is, ltb-true v 2 (passes (nat_lt v 2) truth_value (sym (ap has_kind e) ∙ has))) }
    of_kind domain (kind.Range low high) at is =
        let e : kind_of_constant w d v ≡ no_kind = rw (at, is) refl in
        absurd (false≢true (sym (ap has_kind e) ∙ has))
    of_kind domain (kind.Words words) at is =
        let e : kind_of_constant w d v ≡ kind_if_constant (nat_lt v (length words)) (word d) = rw (at, is, length-integers) refl in
        record { domain = domain; at = at; fits = inr (words, is, ltb-true v (length words) (passes (nat_lt v (length words)) (word d) (sym (ap has_kind e) ∙ has))) }

    by : (o : Option Domain) → slice_get w.domains d ≡ o → IsConstant w d v
    by None is = let e : kind_of_constant w d v ≡ no_kind = rw (is) refl in absurd (false≢true (sym (ap has_kind e) ∙ has))
    by (Some domain) is = of_kind domain domain.kind is refl

-- domain 0 is `bool`, and no other
first_domain : (parts : Parts) → BoolFirst parts.domains → (d : ℕ) (domain : Domain) → slice_get parts.domains d ≡ Some domain → (d == 0) ≡ true → domain.kind ≡ kind.Bool
first_domain parts b d domain at first =
    let zero_is : d ≡ 0 = eqb-true d 0 first in
    let e : Some b.first ≡ Some domain = sym (ap (λ ds. slice_get ds 0) b.whole) ∙ ap (slice_get parts.domains) (sym zero_is) ∙ at in
    ap (λ (d : Domain). d.kind) (sym (same_Some b.first domain e)) ∙ b.bool

other_domain : (parts : Parts) → BoolFirst parts.domains → (d : ℕ) (domain : Domain) → slice_get parts.domains d ≡ Some domain → (d == 0) ≡ false → domain.kind ≡ kind.Bool → ⊥
other_domain parts b zero domain at other is = false≢true (sym other)
other_domain parts b (suc d) domain at other is = b.no_other d domain (sym (ap (λ ds. slice_get ds (suc d)) b.whole) ∙ at) is

one_or_none : (v : ℕ) → v < 2 → (if v == 1 then 1 else 0) ≡ v
one_or_none zero less = refl
one_or_none (suc zero) less = refl
one_or_none (suc (suc v)) less = absurd (omega arith)

module _ (parts : Parts) where
  constant_right : (vs : List ℕ) (inside : Bool) (d v : ℕ) → term_is_right parts vs inside (term.Value d v) ≡ true → IsConstant (world_of_parts parts) d v
  constant_right vs inside d v right =
      is_constant (world_of_parts parts) d v
      (and_parts (has_kind (kind_of_constant (world_of_parts parts) d v)) true
      (sym (ap (λ (g : Gathered). list_all is_right (g.uses inside)) (gathered-Value (world_of_parts parts) vs d v)) ∙ right)).0

  truth_bound : (d v : ℕ) → BoolFirst parts.domains → (d == 0) ≡ true → IsConstant (world_of_parts parts) d v → v < 2
  truth_bound d v b first c =
      ⊎_elim (λ l. l.1)
      (λ r. absurd (let e : kind.Bool ≡ kind.Words r.0 = sym (first_domain parts b d c.domain c.at first) ∙ r.1 in cc))
      c.fits

  pub stands_truth : (names : List (List ℕ)) (d v p : ℕ) → (d == 0) ≡ true → Stands parts names (term.Value d v) (record { place = p; shape = shape.Truth (v == 1) })
  stands_truth names d v p first = record {
    is = λ tree around vs inside fits right.
        let zero_is : d ≡ 0 = eqb-true d 0 first in
        let bit = one_or_none v (truth_bound d v (bool_first parts fits.has_bool) first (constant_right vs inside d v right)) in
        term-shape tree (record { place = p; shape = shape.Truth (v == 1) }) around ∙ shape-Truth tree around (v == 1)
        ∙ rw (bit, zero_is) refl;
  }

  pub stands_word : (names : List (List ℕ)) (d v p : ℕ) (m : Mention) → (d == 0) ≡ false → m.name ≡ word_name (slice_get parts.domains d) v →
      Stands parts names (term.Value d v) (record { place = p; shape = shape.Named m })
  stands_word names d v p m other is = record {
    is = λ tree around vs inside fits right.
        let c = constant_right vs inside d v right in
        let none = other_domain parts (bool_first parts fits.has_bool) d c.domain c.at other in
        ⊎_elim (λ l. absurd (none l.0))
        (λ r.
        let meant = fits.meant.words d c.domain r.0 v c.at other r.1 r.2 in
        let name : m.name ≡ slice_index_or r.0 v [] = is ∙ (let at = c.at in let words = r.1 in rw (at, words) refl) in
        term-shape tree (record { place = p; shape = shape.Named m }) around ∙ shape-Named tree around m
        ∙ ap (λ n. sense_term (sense_of tree around n)) name ∙ ap sense_term (sense_is fits meant))
        c.fits;
  }

  -- variables
  variable_level : (vs : List ℕ) (inside : Bool) (level : ℕ) → term_is_right parts vs inside (term.Var level) ≡ true → level < length vs
  variable_level vs inside level right = by (slice_get vs level) refl
    where
      by : (o : Option ℕ) → slice_get vs level ≡ o → level < length vs
      by None is =
          absurd (false≢true (rw (is) at (sym (ap (λ (g : Gathered). list_all is_right (g.uses inside)) (gathered-Var (world_of_parts parts) vs level)) ∙ right)))
      by (Some d) is = slice_get_within vs level d is

  pub stands_variable : (names : List (List ℕ)) (level p : ℕ) (m : Mention) → m.name ≡ slice_index_or names level [] → Stands parts names (term.Var level) (record { place = p; shape = shape.Named m })
  stands_variable names level p m is = record {
    is = λ tree around vs inside fits right.
        let below : level < length vs = variable_level vs inside level right in
        let same : length vs ≡ length names = fits.as_many in
        let at = level_is fits (slice_index_or names level []) level (slice_get-get_or names level [] (omega arith)) in
        term-shape tree (record { place = p; shape = shape.Named m }) around ∙ shape-Named tree around m
        ∙ ap (λ n. sense_term (sense_of tree around n)) is ∙ ap (λ o. sense_term (sense_in (item_count tree) o (meaning_of tree (slice_index_or names level [])))) at;
  }

  -- reads
  record ReadRight (vs : List ℕ) (number_of : ℕ) (args : List Term) : Type 0 where
    item : Item
    at : slice_get parts.items number_of ≡ Some item
    arguments : list_all is_right (flat_map (λ x. term_uses (world_of_parts parts) vs true x) args) ≡ true

  read_right : (vs : List ℕ) (inside : Bool) (number_of : ℕ) (args : List Term) → term_is_right parts vs inside (term.Read number_of args) ≡ true → ReadRight vs number_of args
  read_right vs inside number_of args right =
      let gs : List Gathered = map (gathered (world_of_parts parts) vs) args in
      let o : Option Item = slice_get parts.items number_of in
      let arity : Bool = is_arity (option_map (λ (item : Item). length item.args) o) (length gs) in
      let asked : List Use = argument_uses (world_of_parts parts) (args_of o) gs in
      let inner : List Use = flat_map (λ (g : Gathered). g.uses true) gs in
      let uses = and_parts (not inside && arity) (list_all is_right (asked ++ inner))
      (sym (ap (λ (g : Gathered). list_all is_right (g.uses inside)) (gathered-Read (world_of_parts parts) vs number_of args)) ∙ right) in
      let there = some_item o (length gs) (and_parts (not inside) arity uses.0).1 in
      record {
        item = there.0;
        at = there.1;
        arguments = ap (list_all is_right) (sym (flat_map-map (λ (g : Gathered). g.uses true) (gathered (world_of_parts parts) vs) args))
            ∙ all_right is_right asked inner uses.1;
      }
    where
      some_item : (o : Option Item) (given : ℕ) → is_arity (option_map (λ (item : Item). length item.args) o) given ≡ true → (item : Item) × (o ≡ Some item)
      some_item None given is = absurd (false≢true is)
      some_item (Some item) given is = (item, refl)

  -- a list of trees stands for a list of terms
  pub pairs_stand : (names : List (List ℕ)) (xs : List Term) (ts : List TermTree) → Pairwise (Stands parts names) xs ts →
      (tree : SpecTree) (around : List Variable) (vs : List ℕ) (inside : Bool) → Fits parts tree names around vs →
      list_all is_right (flat_map (λ x. term_uses (world_of_parts parts) vs inside x) xs) ≡ true → map (λ t. term_of tree t around) ts ≡ xs
  pairs_stand names [] [] pairs tree around vs inside fits right = refl
  pairs_stand names [] (t ∷ ts) pairs tree around vs inside fits right = absurd pairs
  pairs_stand names (x ∷ xs) [] pairs tree around vs inside fits right = absurd pairs
  pairs_stand names (x ∷ xs) (t ∷ ts) pairs tree around vs inside fits right =
      let own = all_left is_right (term_uses (world_of_parts parts) vs inside x) (flat_map (λ x. term_uses (world_of_parts parts) vs inside x) xs) right in
      let others = all_right is_right (term_uses (world_of_parts parts) vs inside x) (flat_map (λ x. term_uses (world_of_parts parts) vs inside x) xs) right in
      let e = pairs.0.is tree around vs inside fits own in
      let es = pairs_stand names xs ts pairs.1 tree around vs inside fits others in
      rw (e, es) refl

  -- the arguments of a read: none, or those in brackets
  abbrev pub ArgumentsStand : List (List ℕ) → List Term → Option (List TermTree) → Type 0
  ArgumentsStand names [] None = Unit {0}
  ArgumentsStand names [] (Some ts) = ⊥
  ArgumentsStand names (x ∷ xs) None = ⊥
  ArgumentsStand names (x ∷ xs) (Some ts) = Pairwise (Stands parts names) (x ∷ xs) ts

  read_name : (names : List (List ℕ)) (number_of : ℕ) (args : List Term) (m : Mention) → m.name ≡ item_name (slice_get parts.items number_of) →
      (tree : SpecTree) (around : List Variable) (vs : List ℕ) → Fits parts tree names around vs → ReadRight vs number_of args → sense_of tree around m.name ≡ sense.Item number_of
  read_name names number_of args m is tree around vs fits r =
      let name : m.name ≡ r.item.name = is ∙ ap item_name r.at in
      ap (sense_of tree around) name ∙ sense_is fits (fits.meant.items number_of r.item r.at)

  pub stands_read : (names : List (List ℕ)) (number_of : ℕ) (args : List Term) (p : ℕ) (m : Mention) (o : Option (List TermTree)) →
      m.name ≡ item_name (slice_get parts.items number_of) → ArgumentsStand names args o → Stands parts names (term.Read number_of args) (named p m o)
  stands_read names number_of [] p m None is good = record {
    is = λ tree around vs inside fits right.
        let sense = read_name names number_of [] m is tree around vs fits (read_right vs inside number_of [] right) in
        term-shape tree (record { place = p; shape = shape.Named m }) around ∙ shape-Named tree around m ∙ ap sense_term sense;
  }
  stands_read names number_of [] p m (Some ts) is good = absurd good
  stands_read names number_of (x ∷ xs) p m None is good = absurd good
  stands_read names number_of (x ∷ xs) p m (Some ts) is good = record {
    is = λ tree around vs inside fits right.
        let r = read_right vs inside number_of (x ∷ xs) right in
        let sense = read_name names number_of (x ∷ xs) m is tree around vs fits r in
        let same = pairs_stand names (x ∷ xs) ts good tree around vs true fits r.arguments in
        term-shape tree (record { place = p; shape = shape.Call m ts }) around ∙ shape-Call tree around m ts
        ∙ rw (sense, same) refl;
  }

  -- the parts of a sum
  abbrev pub PartStands : List (List ℕ) → SignedTerm → PartTree → Type 0
  PartStands names p t = (t.minus ≡ (out-SignedTerm p).minus) × Stands parts names (out-SignedTerm p).term t.term

  parts_stand : (names : List (List ℕ)) (ps : List SignedTerm) (ts : List PartTree) → Pairwise (PartStands names) ps ts →
      (tree : SpecTree) (around : List Variable) (vs : List ℕ) (inside : Bool) → Fits parts tree names around vs →
      list_all is_right (flat_map (λ (p : SignedTerm). term_uses (world_of_parts parts) vs inside (out-SignedTerm p).term) ps) ≡ true →
      map (λ t. part_from tree t around) ts ≡ ps
  parts_stand names [] [] pairs tree around vs inside fits right = refl
  parts_stand names [] (t ∷ ts) pairs tree around vs inside fits right = absurd pairs
  parts_stand names (p ∷ ps) [] pairs tree around vs inside fits right = absurd pairs
  parts_stand names (p ∷ ps) (t ∷ ts) pairs tree around vs inside fits right =
      let others = flat_map (λ (p : SignedTerm). term_uses (world_of_parts parts) vs inside (out-SignedTerm p).term) ps in
      let own = all_left is_right (term_uses (world_of_parts parts) vs inside (out-SignedTerm p).term) others right in
      let e = pairs.0.1.is tree around vs inside fits own in
      let sign = pairs.0.0 in
      let es = parts_stand names ps ts pairs.1 tree around vs inside fits (all_right is_right (term_uses (world_of_parts parts) vs inside (out-SignedTerm p).term) others right) in
      rw (sign, e, es) refl

  stands_parts : (names : List (List ℕ)) (ps : List SignedTerm) (p : ℕ) (ts : List PartTree) → Pairwise (PartStands names) ps ts →
      Stands parts names (term.Sum ps) (record { place = p; shape = shape.Sum ts })
  stands_parts names ps p ts pairs = record {
    is = λ tree around vs inside fits right.
        let gs : List Gathered = map (λ (p : SignedTerm). gathered (world_of_parts parts) vs (out-SignedTerm p).term) ps in
        let uses = all_right is_right (map (λ (g : Gathered). required part g.kind) gs) (flat_map (λ (g : Gathered). g.uses inside) gs)
        (sym (ap (λ (g : Gathered). list_all is_right (g.uses inside)) (gathered-Sum (world_of_parts parts) vs ps)) ∙ right) in
        term-shape tree (record { place = p; shape = shape.Sum ts }) around ∙ shape-Sum tree around ts
        ∙ ap term.Sum (parts_stand names ps ts pairs tree around vs inside fits
        (ap (list_all is_right) (sym (flat_map-map (λ (g : Gathered). g.uses inside) (λ (p : SignedTerm). gathered (world_of_parts parts) vs (out-SignedTerm p).term) ps)) ∙ uses));
  }

  pub stands_sum : (names : List (List ℕ)) (p : SignedTerm) (ps : List SignedTerm) (place : ℕ) (minus : Bool) (t : TermTree) (ts : List PartTree) →
      makes_sum (map shape_of_part (p ∷ ps)) ≡ true → minus ≡ (out-SignedTerm p).minus → Stands parts names (out-SignedTerm p).term t →
      Pairwise (PartStands names) ps ts → Stands parts names (term.Sum (p ∷ ps)) (sum place minus t ts)
  stands_sum names p ps place true t ts makes sign first others =
      stands_parts names (p ∷ ps) place (record { minus = true; term = t } ∷ ts) ((sign, first), others)
  stands_sum names p ps place false t (u ∷ us) makes sign first others =
      stands_parts names (p ∷ ps) place (record { minus = false; term = t } ∷ u ∷ us) ((sign, first), others)
  stands_sum names p [] place false t [] makes sign first others = absurd (false≢true (sign ∙ makes))
  stands_sum names p (q ∷ qs) place false t [] makes sign first others = absurd others
