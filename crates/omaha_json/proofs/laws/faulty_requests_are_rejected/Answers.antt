use Rattle.std.proofs.Common.{refl}
use Rattle.std.specs.Str.{is_utf8, chars}
use Rattle.serde_json.proofs.OnLiterals.{serde_json_on_literals}
use Rattle.omaha_json.specs.RequestReading.{ask_of, asks_from, asks_of, request_of, request_of_bytes}
use Rattle.omaha_json.proofs.laws.faulty_requests_are_rejected.Goals as goal

pub returns-clause-not_json : goal.returns-clause-not_json
unfolding serde_json_on_literals is_utf8 chars ask_of asks_from asks_of request_of request_of_bytes
returns-clause-not_json c = refl

pub returns-clause-no_request : goal.returns-clause-no_request
unfolding serde_json_on_literals is_utf8 chars ask_of asks_from asks_of request_of request_of_bytes
returns-clause-no_request c = refl

pub returns-clause-bad_protocol : goal.returns-clause-bad_protocol
unfolding serde_json_on_literals is_utf8 chars ask_of asks_from asks_of request_of request_of_bytes
returns-clause-bad_protocol c = refl

pub returns-clause-bad_app : goal.returns-clause-bad_app
unfolding serde_json_on_literals is_utf8 chars ask_of asks_from asks_of request_of request_of_bytes
returns-clause-bad_app c = refl
