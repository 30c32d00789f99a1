use Rattle.std.proofs.Common.{rules}
use Rattle.http_wire.proofs.heads.field.is_same_word.Goals as goal

pub returns : goal.returns
returns c = search rules
