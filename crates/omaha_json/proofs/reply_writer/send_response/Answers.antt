use Rattle.std.proofs.lemmas.Result.{on_ok_weaker}
use Rattle.omaha_json.proofs.reply_writer.send_response.Goals as goal

pub returns : goal.returns
returns g c =
    let written = g.S.Serializer.written in
    let protocol = c.in_ok-send_str.ensures in
    on_ok_weaker c.end_map.result (λ ended. (
      written c.begin_map.new.self,
      c.in_ok-begin_map.ensures,
      (
        written c.key.new.self,
        written c.send_apps.new.out,
        c.in_ok-key.ensures,
        c.in_ok-send_apps.ensures,
        (
          written c.key-2.new.self,
          written c.send_daystart.new.out,
          c.in_ok-key-2.ensures,
          c.in_ok-send_daystart.ensures,
          (
            protocol.0,
            written c.send_str.new.out,
            protocol.1,
            protocol.2,
            ended,
          ),
        ),
      ),
    )) c.end_map.ensures
