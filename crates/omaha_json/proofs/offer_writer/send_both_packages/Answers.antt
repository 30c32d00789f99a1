use Rattle.std.proofs.lemmas.Result.{on_ok_weaker}
use Rattle.omaha_json.proofs.offer_writer.send_both_packages.Goals as goal

pub returns : goal.returns
returns g c =
    let written = g.S.Serializer.written in
    let fp = c.in_ok-send_string.ensures in
    let hash = c.in_ok-send_hash.ensures in
    let hashdiff = c.in_ok-send_hash-2.ensures in
    let name = c.in_ok-send_string-2.ensures in
    let namediff = c.in_ok-send_string-3.ensures in
    let size = c.in_ok-send_number.ensures in
    let sizediff = c.in_ok-send_number-2.ensures in
    on_ok_weaker c.end_map.result (λ ended. (
      written c.begin_map.new.self,
      c.in_ok-begin_map.ensures,
      (
        fp.0,
        written c.send_string.new.out,
        fp.1,
        fp.2,
        (
          hash.0,
          written c.send_hash.new.out,
          hash.1,
          hash.2,
          (
            hashdiff.0,
            written c.send_hash-2.new.out,
            hashdiff.1,
            hashdiff.2,
            (
              name.0,
              written c.send_string-2.new.out,
              name.1,
              name.2,
              (
                namediff.0,
                written c.send_string-3.new.out,
                namediff.1,
                namediff.2,
                (
                  size.0,
                  written c.send_number.new.out,
                  size.1,
                  size.2,
                  (
                    sizediff.0,
                    written c.send_number-2.new.out,
                    sizediff.1,
                    sizediff.2,
                    ended,
                  ),
                ),
              ),
            ),
          ),
        ),
      ),
    )) c.end_map.ensures
