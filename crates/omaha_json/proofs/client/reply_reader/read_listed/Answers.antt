use Rattle.std.proofs.Common.{◌<◌, ◌≤◌, ◌∙◌, length, sym, arith, rules}
use Rattle.omaha_json.proofs.ClientReplyLemmas.{apps_from-next, apps_from-refused, apps_from-end}
use Rattle.omaha_json.proofs.client.reply_reader.read_listed.Goals as goal

pub returns-in_err-reply : goal.returns-in_err-reply
returns-in_err-reply c =
    let within : c.loop-index.index < length c.args.apps.now = omega arith in
    let here = c.index-apps-index.is in
    let why = apps_from-refused _ _ _ _ _ within here c.in_err-reply.ensures c.loop-index.invariant in
    search rules

pub loop-index-preserved : goal.loop-index-preserved
loop-index-preserved c =
    let within : c.loop-index.index < length c.args.apps.now = omega arith in
    let here = c.index-apps-index.is in
    let pushed = apps_from-next c.loop-index.replies.items _ _ _ _ within here c.in_ok-reply.ensures in
    rw c.in_ok-push.ensures.items (pushed ∙ c.loop-index.invariant)

pub returns : goal.returns
returns c =
    let past : length c.args.apps.now ≤ c.loop-index.index = omega arith in
    sym c.loop-index.invariant ∙ apps_from-end _ _ _ past
