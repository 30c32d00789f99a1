use Rattle.std.proofs.Common.{rules}
use Rattle.replies.proofs.client.assign.Goals as goal

pub returns-clause-assigned : goal.returns-clause-assigned
returns-clause-assigned c = search rules
