-- The answers to the goals of `note`.
use Rattle.std.proofs.Common.{Some, sym, refl, ◌∙◌}
use Rattle.std.proofs.lemmas.Map.Text.{hash_map_updates_str}
use Rattle.trio_scope.specs.Names.{declaration}
use Rattle.trio_scope.proofs.Noted.{tells_again, tells_first}
use Rattle.trio_scope.proofs.names.Names.note.Goals as goal

pub returns-then-contains_key : goal.returns-then-contains_key
returns-then-contains_key c domains items ds tells =
    tells_again c.args.self.now domains items ds tells c.args.mention.now c.args.meaning
    (rw (← c.as_str-name.ensures) (sym c.if-contains_key.true ∙ c.contains_key.ensures)) c.earlier-self.result c.earlier-self.ensures

pub returns-in-Ok : goal.returns-in-Ok
returns-in-Ok c domains items ds tells =
    tells_first c.args.self.now (record { first = c.insert.new.self; repeated = c.args.self.now.repeated; domains = c.args.self.now.domains; items = c.args.self.now.items })
    domains items ds tells c.args.mention.now c.args.meaning
    (rw (← c.as_str-name.ensures) (sym c.if-contains_key.false ∙ c.contains_key.ensures))
    (rw (← c.as_str-name.ensures) (hash_map_updates_str c.as_str-name.result.now c.args.self.now.first c.insert.new.self
    (Some (declaration c.args.mention.now c.args.meaning).declared) c.in-Ok.ensures.updates)) refl refl refl
