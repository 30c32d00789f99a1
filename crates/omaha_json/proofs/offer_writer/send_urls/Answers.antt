use Rattle.std.proofs.lemmas.Result.{on_ok_weaker}
use Rattle.omaha_json.proofs.offer_writer.send_urls.Goals as goal

pub returns : goal.returns
returns g c =
    let written = g.S.Serializer.written in
    let addresses = rw c.as_ref.ensures.value at c.in_ok-send_addresses.ensures in
    on_ok_weaker c.end_map.result (λ ended. (
      written c.begin_map.new.self,
      c.in_ok-begin_map.ensures,
      (written c.key.new.self, written c.send_addresses.new.out, c.in_ok-key.ensures, addresses, ended),
    )) c.end_map.ensures
