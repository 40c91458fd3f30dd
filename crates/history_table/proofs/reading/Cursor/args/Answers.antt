use Rattle.std.proofs.Common.{sym, ◌∙◌, ap, true, false, [], ◌∷◌, ◌++◌, subst, Some}
use Rattle.trio_text.specs.declared.lexeme.Lexeme.TheVariants as lexeme
use Rattle.trio_text.specs.declared.token.Symbol.TheVariants as symbol
use Rattle.history_table.specs.Decoding.{args_from, TookValue, Lacks}
use Rattle.history_table.proofs.Decodes.{behind_args, behind_none, behind_one, behind_end, behind_nothing, takes_value, no_args, no_more}
use Rattle.history_table.proofs.reading.Cursor.args.Goals as goal

pub loop-found-init : goal.loop-found-init
loop-found-init c = rw (c.if-not-takes.ensures.taken, c.new-found.ensures.items) (sym (behind_none (args_from true c.takes.new.self.rest.now)))

pub returns-in_default : goal.returns-in_default
returns-in_default c =
    let t = subst (TookValue c.loop-found.self.rest.now c.value.new.self.rest.now) c.in_default.is c.in_ok-value.ensures in
    c.loop-found.invariant ∙ ap (behind_args c.loop-found.found.items) (no_args c.loop-found.self.rest.now t.0) ∙ behind_nothing c.loop-found.found.items

pub returns-then-takes : goal.returns-then-takes
returns-then-takes c =
    let found = c.loop-found.found.items in
    let v = c.in-Some.value in
    let behind = c.value.new.self.rest.now in
    let after = c.takes-in-loop-found.new.self.rest.now in
    let t = takes_value c.loop-found.self.rest.now v behind (subst (TookValue c.loop-found.self.rest.now behind) c.in-Some.is c.in_ok-value.ensures) in
    c.loop-found.invariant ∙ ap (behind_args found) t.args ∙ behind_one found v (args_from false behind)
    ∙ ap (λ x. behind_args (found ++ v ∷ []) (args_from false x)) c.if-takes.ensures.taken ∙ behind_end (found ++ v ∷ []) after
    ∙ ap (λ vs. Some (vs, after)) (sym (c.from_vec.ensures ∙ c.in_ok-push.ensures.items))

pub returns-then-not-takes-2 : goal.returns-then-not-takes-2
returns-then-not-takes-2 c =
    let found = c.loop-found.found.items in
    let v = c.in-Some.value in
    let behind = c.value.new.self.rest.now in
    let t = takes_value c.loop-found.self.rest.now v behind (subst (TookValue c.loop-found.self.rest.now behind) c.in-Some.is c.in_ok-value.ensures) in
    let no = c.if-takes.ensures.left in
    let neither = subst (Lacks (lexeme.Sign symbol.Comma)) no.0 c.if-not-takes-2.ensures.left.1 in
    c.loop-found.invariant ∙ ap (behind_args found) t.args ∙ behind_one found v (args_from false behind)
    ∙ ap (behind_args (found ++ v ∷ [])) (no_more behind no.1 neither) ∙ behind_nothing (found ++ v ∷ [])

pub loop-found-preserved : goal.loop-found-preserved
loop-found-preserved c =
    let found = c.loop-found.found.items in
    let v = c.in-Some.value in
    let behind = c.value.new.self.rest.now in
    let after = c.takes-in-loop-found-2.new.self.rest.now in
    let t = takes_value c.loop-found.self.rest.now v behind (subst (TookValue c.loop-found.self.rest.now behind) c.in-Some.is c.in_ok-value.ensures) in
    let comma = sym c.if-takes.ensures.left.0 ∙ c.if-not-takes-2.ensures.taken in
    c.loop-found.invariant ∙ ap (behind_args found) t.args ∙ behind_one found v (args_from false behind)
    ∙ ap (λ x. behind_args (found ++ v ∷ []) (args_from false x)) comma
    ∙ ap (λ vs. behind_args vs (args_from true after)) (sym c.in_ok-push.ensures.items)
