use Rattle.std.proofs.lemmas.Result.{on_ok_weaker}
use Rattle.omaha_json.proofs.offer_writer.send_offer.Goals as goal

pub returns : goal.returns
returns g c =
    let written = g.S.Serializer.written in
    let status = c.in_ok-send_str.ensures in
    on_ok_weaker c.end_map.result (λ ended. (
      written c.begin_map.new.self,
      c.in_ok-begin_map.ensures,
      (
        written c.key.new.self,
        written c.send_manifest.new.out,
        c.in_ok-key.ensures,
        c.in_ok-send_manifest.ensures,
        (
          status.0,
          written c.send_str.new.out,
          status.1,
          status.2,
          (
            written c.key-2.new.self,
            written c.send_urls.new.out,
            c.in_ok-key-2.ensures,
            c.in_ok-send_urls.ensures,
            ended,
          ),
        ),
      ),
    )) c.end_map.ensures
