use Rattle.std.proofs.lemmas.Result.{on_ok_weaker}
use Rattle.omaha_json.proofs.offer_writer.send_full_package.Goals as goal

pub returns : goal.returns
returns g c =
    let written = g.S.Serializer.written in
    let fp = c.in_ok-send_string.ensures in
    let hash = c.in_ok-send_hash.ensures in
    let name = c.in_ok-send_string-2.ensures in
    let size = c.in_ok-send_number.ensures in
    on_ok_weaker c.end_map.result (λ ended. (
      written c.begin_map.new.self,
      c.in_ok-begin_map.ensures,
      (
        fp.0,
        written c.send_string.new.out,
        fp.1,
        fp.2,
        (
          hash.0,
          written c.send_hash.new.out,
          hash.1,
          hash.2,
          (
            name.0,
            written c.send_string-2.new.out,
            name.1,
            name.2,
            (
              size.0,
              written c.send_number.new.out,
              size.1,
              size.2,
              ended,
            ),
          ),
        ),
      ),
    )) c.end_map.ensures
