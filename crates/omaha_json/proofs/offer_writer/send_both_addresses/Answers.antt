use Rattle.std.proofs.lemmas.Result.{on_ok_weaker}
use Rattle.omaha_json.proofs.offer_writer.send_both_addresses.Goals as goal

pub returns : goal.returns
returns g c =
    let written = g.S.Serializer.written in
    on_ok_weaker c.end_seq.result (λ ended. (
      written c.begin_seq.new.self,
      c.in_ok-begin_seq.ensures,
      (
        written c.send_address.new.out,
        c.in_ok-send_address.ensures,
        (written c.send_address-2.new.out, c.in_ok-send_address-2.ensures, ended),
      ),
    )) c.end_seq.ensures
