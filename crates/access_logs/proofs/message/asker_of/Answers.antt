use Rattle.std.proofs.Common.{◌∙◌, ap, inl}
use Rattle.std.specs.Prelude.{codes}
use Rattle.access_logs.specs.Entries.{value_named}
use Rattle.access_logs.proofs.message.asker_of.Goals as goal

pub returns-in-Ok-Complete : goal.returns-in-Ok-Complete
returns-in-Ok-Complete c =
    let (head, holds) = rw c.in-Ok-Complete.field-0-is at c.in-Ok-Complete.ensures.complete in
    inl (
      head,
      _,
      holds.reads,
      c.value_of.ensures ∙ ap (value_named (codes "referer")) holds.fields,
      c.value_of-in-Ok-Complete.ensures ∙ ap (value_named (codes "user-agent")) holds.fields,
    )
