-- At each exit: the name, or that none stands in front.
use Rattle.std.proofs.Common.{[], ◌∷◌, sym, ap, ◌∙◌, refl}
use Rattle.std.proofs.lemmas.List.{nil_from_length}
use Rattle.trio_text.specs.declared.lexeme.Lexeme.TheVariants as lexeme
use Rattle.trio_syntax.proofs.Left.{reads_one, stuck_one}
use Rattle.trio_syntax.proofs.Tokens.{no_name, stays_at, stays_end}
use Rattle.trio_syntax.proofs.parser.Parser.name.Goals as goal

pub returns-in_default : goal.returns-in_default
returns-in_default c = stuck_one [] (stays_end (nil_from_length c.args.self.now.rest.now c.in_default.ensures.cases))

pub returns-in_default-first : goal.returns-in_default-first
returns-in_default-first c = stuck_one [] (stays_at c.in-Some.first.now c.in-Some.rest.now c.in-Some.ensures.cases.0 (no_name c.in-Some.first.now c.in_default-first.not-Name))

pub returns : goal.returns
returns c =
    reads_one (record { whole = c.in-Some.ensures.cases.0 ∙ ap (λ t. t ∷ c.in-Some.rest.now) (c.in-Name.is ∙ ap lexeme.Name (sym c.in_ok-name.ensures)); place = refl })
