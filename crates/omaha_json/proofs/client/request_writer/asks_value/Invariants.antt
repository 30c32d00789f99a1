use Rattle.std.proofs.Common.{◌≡◌, map, take}
use Rattle.serde_json.specs.View.{view}
use Rattle.omaha_json.specs.RequestWriting.{ask_data}
use Rattle.omaha_json.proofs.client.request_writer.asks_value.Given as goal

abbrev pub invariant-loop-ask : goal.invariant-loop-ask
invariant-loop-ask l = map view l.apps.items ≡ map ask_data (take l.ask-index l.asks)
