use Rattle.std.proofs.Common.{◌<◌, ◌≤◌, ◌∙◌, length, sym, arith, rules}
use Rattle.omaha_json.proofs.RequestLemmas.{asks_from-next, asks_from-refused, asks_from-end}
use Rattle.omaha_json.proofs.request_reader.read_asks.Goals as goal

pub returns-in_err-ask : goal.returns-in_err-ask
returns-in_err-ask c =
    let within : c.loop-index.index < length c.args.apps.now = omega arith in
    let here = c.index-apps-index.is in
    let why = asks_from-refused _ _ _ _ _ within here c.in_err-ask.ensures c.loop-index.invariant in
    search rules

pub loop-index-preserved : goal.loop-index-preserved
loop-index-preserved c =
    let within : c.loop-index.index < length c.args.apps.now = omega arith in
    let here = c.index-apps-index.is in
    let pushed = asks_from-next c.loop-index.asks.items _ _ _ _ within here c.in_ok-ask.ensures in
    rw c.in_ok-push.ensures.items (pushed ∙ c.loop-index.invariant)

pub returns : goal.returns
returns c =
    let past : length c.args.apps.now ≤ c.loop-index.index = omega arith in
    sym c.loop-index.invariant ∙ asks_from-end _ _ _ past
