use Rattle.std.proofs.Common.{◌≡◌, drop}
use Rattle.serde_json.specs.View.{items_view}
use Rattle.omaha_json.specs.ReplyReading.{first_string}
use Rattle.omaha_json.proofs.client.reply_reader.find_string.Given as goal

abbrev pub invariant-loop-item : goal.invariant-loop-item
invariant-loop-item l =
    first_string l.name (items_view (drop l.item-index l.items))
    ≡ first_string l.name (items_view l.items)
