use Rattle.std.proofs.Common.{rules}
use Rattle.http_wire.specs.Replies.{last_lines}
use Rattle.http_wire.proofs.heads.reply.last_field.Goals as goal

pub returns-then-closes : goal.returns-then-closes
unfolding last_lines
returns-then-closes c = search rules
