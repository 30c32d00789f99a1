use Rattle.std.proofs.Common.{Some, codes, subst}
use Rattle.std.proofs.lemmas.Result.{on_ok_weaker}
use Rattle.serde.specs.Event.{Logs, map_begins}
use Rattle.serde_json.specs.Data.{no_members, member, string}
use Rattle.omaha_json.specs.ReplyWriting.{events_data, optional_member, ping_data, update_data}
use Rattle.omaha_json.proofs.SendingLemmas.{sends_optional}
use Rattle.omaha_json.proofs.reply_writer.send_known.Goals as goal

pub returns : goal.returns
returns g c =
    let written = g.S.Serializer.written in
    let app = c.args.app.now in
    let appid = c.in_ok-send_string.ensures in
    let cohort = c.in_ok-send_string-2.ensures in
    let name = c.in_ok-send_string-3.ensures in
    let status = c.in_ok-send_str.ensures in
    let update = optional_member (codes "updatecheck") (update_data app.check) no_members in
    let after_ping = member (codes "status") (string (codes "ok")) update in
    let after_event = optional_member (codes "ping") (ping_data app.ping) after_ping in
    let checked = rw c.as_ref.ensures.value at c.in_ok-send_update.ensures in
    on_ok_weaker c.end_map.result (λ ended. (
      written c.begin_map.new.self,
      subst (λ count. Logs (written c.args.out.now) (written c.begin_map.new.self) (map_begins (Some count))) (c.count_members.ensures c.args.appid.now) c.in_ok-begin_map.ensures,
      (
        appid.0,
        written c.send_string.new.out,
        appid.1,
        appid.2,
        (
          cohort.0,
          written c.send_string-2.new.out,
          cohort.1,
          cohort.2,
          (
            name.0,
            written c.send_string-3.new.out,
            name.1,
            name.2,
            sends_optional (codes "event") (events_data app.events) after_event _ _ _ c.in_ok-send_events.ensures
                (sends_optional (codes "ping") (ping_data app.ping) after_ping _ _ _ c.in_ok-send_ping.ensures (
                  status.0,
                  written c.send_str.new.out,
                  status.1,
                  status.2,
                  sends_optional (codes "updatecheck") (update_data app.check) no_members _ _ _ checked ended,
                )),
          ),
        ),
      ),
    )) c.end_map.ensures
