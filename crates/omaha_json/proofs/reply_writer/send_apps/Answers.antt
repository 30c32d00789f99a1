use Rattle.std.proofs.lemmas.Result.{on_ok_weaker}
use Rattle.omaha_json.proofs.SendingLemmas.{sends_apps}
use Rattle.omaha_json.proofs.reply_writer.send_apps.Goals as goal

pub returns : goal.returns
returns g c =
    on_ok_weaker c.serialize.result (sends_apps c.args.apps.now _ _) (rw (← c.as_slice.ensures) c.serialize.ensures)
