use Rattle.std.proofs.Common.{rules}
use Rattle.http_wire.specs.Replies.{status_line}
use Rattle.http_wire.proofs.heads.status.Status.line.Goals as goal

pub returns-in-NotImplemented : goal.returns-in-NotImplemented
unfolding status_line
returns-in-NotImplemented c = search rules

pub returns-in-ServiceUnavailable : goal.returns-in-ServiceUnavailable
unfolding status_line
returns-in-ServiceUnavailable c = search rules
