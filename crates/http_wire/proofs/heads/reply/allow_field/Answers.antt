use Rattle.std.proofs.Common.{rules}
use Rattle.http_wire.specs.Replies.{allow_line}
use Rattle.http_wire.proofs.heads.reply.allow_field.Goals as goal

pub returns-in-Some-Get : goal.returns-in-Some-Get
unfolding allow_line
returns-in-Some-Get c = search rules
