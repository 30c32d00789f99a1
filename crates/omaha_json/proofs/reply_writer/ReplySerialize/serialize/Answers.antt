use Rattle.std.proofs.lemmas.Result.{on_ok_weaker}
use Rattle.omaha_json.specs.ReplyWriting.{reply_data}
use Rattle.omaha_json.proofs.reply_writer.ReplySerialize.serialize.Goals as goal

pub returns : goal.returns
unfolding reply_data
returns t c =
    let written = t.S.Serializer.written in
    on_ok_weaker c.end_map.result (λ ended. (
      written c.begin_map.new.self,
      c.in_ok-begin_map.ensures,
      (written c.key.new.self, written c.send_response.new.out, c.in_ok-key.ensures, c.in_ok-send_response.ensures, ended),
    )) c.end_map.ensures
