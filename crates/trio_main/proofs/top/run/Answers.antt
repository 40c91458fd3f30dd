-- The usage line was said where the words are no command, and what was served is what the words ask for.
use Rattle.std.proofs.Common.{ap, ◌∙◌, Err, inl}
use Rattle.trio_jobs.specs.declared.status.Status.TheVariants as status
use Rattle.trio_jobs.specs.Message.{usage_line}
use Rattle.trio_main.proofs.Jobs.{usage_due}
use Rattle.trio_main.proofs.top.run.Goals as goal

pub returns-in-Ok-clause-leaves : goal.returns-in-Ok-clause-leaves
returns-in-Ok-clause-leaves g c = rw c.in-Ok.ensures.ok c.serve.ensures.leaves

pub returns-in-Ok-clause-answer : goal.returns-in-Ok-clause-answer
returns-in-Ok-clause-answer g c = rw c.in-Ok.ensures.ok c.serve.ensures.answer

pub returns-in-Err-Usage-clause-answer : goal.returns-in-Err-Usage-clause-answer
returns-in-Err-Usage-clause-answer g c =
    let none = c.read_words.ensures.usage (c.in-Err-Usage.is ∙ ap Err c.in-Err-Usage.field-0-is) in
    rw none
    (λ bell. (status.Usage, usage_line, inl (usage_due (g.F.Shelf.seen c.args.shelf.now) bell), c.say_usage.ensures))
