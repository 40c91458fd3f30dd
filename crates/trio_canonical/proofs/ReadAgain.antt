-- The canonical text of a specification is that specification.
use Rattle.std.proofs.Common.{◌≡◌, true, List, None, subst, sym}
use Rattle.trio_types.specs.declared.spec.Spec.{Spec}
use Rattle.trio_types.specs.Verdict.{parts_of}
use Rattle.trio_types.specs.WellFormed.{is_well_formed}
use Rattle.trio_types.proofs.Specs.{formed_of}
use Rattle.trio_text.specs.Lexemes.{lexemes_of}
use Rattle.trio_syntax.specs.Grammar.{IsSpec}
use Rattle.trio_syntax.specs.Depth.{first_deep}
use Rattle.trio_reader.specs.Reading.{IsSpecText}
use Rattle.trio_print.specs.Pieces.{Piece, pieces_text, lexemes_in}
use Rattle.trio_print.specs.Canonical.{spec_pieces}
use Rattle.trio_print.proofs.Spaced.{are_spaced}
use Rattle.trio_print.proofs.Printed.{tokens_of, spaced_tokens, spaced_lexemes}
use Rattle.trio_canonical.proofs.BracketsSpec.{not_deep}
use Rattle.trio_canonical.proofs.CanonicalTree.{CanonicalTree, canonical_tree}
use Rattle.trio_canonical.proofs.SoundTree.{tree_is_sound}

canonical_read : (spec : Spec) → is_well_formed (parts_of spec) ≡ true → are_spaced (spec_pieces (parts_of spec)) ≡ true → CanonicalTree (parts_of spec) →
    IsSpecText (pieces_text (spec_pieces (parts_of spec))) spec
canonical_read spec well spaced told =
    let pieces : List Piece = spec_pieces (parts_of spec) in
    let same : lexemes_in pieces ≡ lexemes_of (pieces_text pieces) (tokens_of 0 1 pieces) = sym (spaced_lexemes pieces spaced) in
    record {
      tree = told.tree;
      read = record {
        tokens = tokens_of 0 1 pieces;
        shallow = record {
          lexed = spaced_tokens pieces spaced;
          shallow = subst (λ xs. first_deep xs ≡ None) same (not_deep (parts_of spec) (formed_of (parts_of spec) well));
        };
        tree_read = subst (λ xs. IsSpec xs told.tree) same told.reads;
      };
      answer = record {
        sound = tree_is_sound (parts_of spec) (lexemes_in pieces) told.tree told.reads told.stands well told.in_order.domains told.in_order.items told.in_order.declarations;
        stands = sym told.stands;
      };
    }

-- the canonical text of a specification, which is well formed, is that specification
pub canonical_reading : (spec : Spec) → is_well_formed (parts_of spec) ≡ true → are_spaced (spec_pieces (parts_of spec)) ≡ true →
    IsSpecText (pieces_text (spec_pieces (parts_of spec))) spec
canonical_reading spec well spaced = canonical_read spec well spaced (canonical_tree (parts_of spec) well)
