use Rattle.std.proofs.Common.{rules}
use Rattle.http_sessions.proofs.session.Session.reject.Goals as goal

pub returns-in-Ok-clause-rejects : goal.returns-in-Ok-clause-rejects
returns-in-Ok-clause-rejects g c = search rules
