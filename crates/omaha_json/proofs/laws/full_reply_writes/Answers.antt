use Rattle.std.proofs.Common.{refl}
use Rattle.std.specs.Fmt.{digits}
use Rattle.hex.proofs.OnLiterals.{hex_on_literals}
use Rattle.serde_json.proofs.OnLiterals.{serde_json_on_literals}
use Rattle.omaha_json.specs.ReplyWriting.{reply_data}
use Rattle.omaha_json.proofs.laws.full_reply_writes.Goals as goal

pub returns : goal.returns
unfolding serde_json_on_literals hex_on_literals digits reply_data
returns c = refl
