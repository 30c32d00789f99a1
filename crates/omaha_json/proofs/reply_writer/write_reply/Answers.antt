use Rattle.std.proofs.Common.{◌≡◌, arith}
use Rattle.std.proofs.lemmas.Grind.{common_steps}
use Rattle.serde_json.specs.Written.{compact_text}
use Rattle.serde_json.proofs.FreeTexts.{text_of_value}
use Rattle.omaha_json.specs.ReplyWriting.{reply_data}
use Rattle.omaha_json.proofs.ReplyLemmas.{has_float-reply_data}
use Rattle.omaha_json.proofs.reply_writer.write_reply.Goals as goal

pub returns : goal.returns
returns c =
    let reply = c.args.reply.now in
    let sent = c.in-Ok.ensures.events in
    let json : c.in-Ok.json.items ≡ compact_text (reply_data reply) =
    text_of_value (reply_data reply) sent.0 c.in-Ok.json.items sent.1 sent.2 (has_float-reply_data reply) in
    grind (arith, common_steps, json)
