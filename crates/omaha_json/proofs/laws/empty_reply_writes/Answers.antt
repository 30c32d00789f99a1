use Rattle.std.proofs.Common.{refl}
use Rattle.std.specs.Fmt.{digits}
use Rattle.serde_json.proofs.OnLiterals.{serde_json_on_literals}
use Rattle.omaha_json.specs.ReplyWriting.{reply_data}
use Rattle.omaha_json.proofs.laws.empty_reply_writes.Goals as goal

pub returns-clause-text : goal.returns-clause-text
unfolding serde_json_on_literals digits reply_data
returns-clause-text c = refl

pub returns-clause-length : goal.returns-clause-length
unfolding serde_json_on_literals digits reply_data
returns-clause-length c = refl
