use Rattle.std.proofs.Common.{rules}
use Rattle.replies.proofs.planning.find_table.Goals as goal

pub returns-else-is_any : goal.returns-else-is_any
returns-else-is_any c = search rules
