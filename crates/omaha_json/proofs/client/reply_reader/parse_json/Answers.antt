use Rattle.std.proofs.Common.{ap}
use Rattle.std.specs.Option.{ok_or}
use Rattle.omaha_json.specs.declared.client.fault.ReplyFault.TheVariants.{NotJson}
use Rattle.omaha_json.proofs.ClientReplyLemmas.{json_of-read, json_of-refused}
use Rattle.omaha_json.proofs.client.reply_reader.parse_json.Goals as goal

pub returns-in-Ok : goal.returns-in-Ok
returns-in-Ok c =
    ap (λ json. ok_or json NotJson) (json_of-read _ _ c.in-Ok.ensures.ok.0 c.in-Ok.ensures.ok.1)

pub returns-in_default : goal.returns-in_default
returns-in_default c =
    let refused = c.in-Err.ensures.err (λ memory.
    c.in_default.not-Memory (c.classify.ensures.memory.1 memory)) in
    ap (λ json. ok_or json NotJson) (json_of-refused _ refused)
