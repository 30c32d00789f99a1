use Rattle.std.proofs.Common.{◌≡◌, drop}
use Rattle.serde_json.specs.View.{items_view}
use Rattle.omaha_json.specs.ReplyReading.{apps_from}
use Rattle.omaha_json.proofs.ClientReplyLemmas.{with_front}
use Rattle.omaha_json.proofs.client.reply_reader.read_listed.Given as goal

abbrev pub invariant-loop-index : goal.invariant-loop-index
invariant-loop-index l =
    with_front l.replies.items (apps_from l.index (items_view (drop l.index l.apps)))
    ≡ apps_from 0 (items_view l.apps)
