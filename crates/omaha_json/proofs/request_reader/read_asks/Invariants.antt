use Rattle.std.proofs.Common.{◌≡◌, drop}
use Rattle.serde_json.specs.View.{items_view}
use Rattle.omaha_json.specs.RequestReading.{asks_from}
use Rattle.omaha_json.proofs.RequestLemmas.{with_front}
use Rattle.omaha_json.proofs.request_reader.read_asks.Given as goal

abbrev pub invariant-loop-index : goal.invariant-loop-index
invariant-loop-index l =
    with_front l.asks.items (asks_from l.index (items_view (drop l.index l.apps)))
    ≡ asks_from 0 (items_view l.apps)
