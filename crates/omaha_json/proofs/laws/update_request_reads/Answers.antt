use Rattle.std.proofs.Common.{refl}
use Rattle.std.specs.Str.{is_utf8, chars}
use Rattle.serde_json.proofs.OnLiterals.{serde_json_on_literals}
use Rattle.omaha_json.specs.RequestReading.{ask_of, asks_from, asks_of, request_of, request_of_bytes}
use Rattle.omaha_json.proofs.laws.update_request_reads.Goals as goal

pub returns : goal.returns
unfolding serde_json_on_literals is_utf8 chars ask_of asks_from asks_of request_of request_of_bytes
returns c = refl
