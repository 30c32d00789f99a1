use Rattle.std.proofs.Common.{length, arith, Option, sym, ap, subst}
use Rattle.std.specs.Option.{IfSome}
use Rattle.std.proofs.lemmas.Slice.Zip.{AllZip-long}
use Rattle.editions.specs.Editions.{content_of}
use Rattle.omaha_json.specs.declared.request.AppAsk.{AppAsk}
use Rattle.payload_graph.specs.declared.payload.TrackKey.{TrackKey}
use Rattle.replies.specs.Clients.{IsAssigned}
use Rattle.replies.specs.Plans.{pinned_key, HasTable, IsChosen}
use Rattle.replies.proofs.KeyLemmas.{pinned_key-assigned}
use Rattle.replies.proofs.PlanLemmas.{IsAssigned-at, IsChosen-assigned}
use Rattle.replies.proofs.ZipLemmas.{AllZip-more}
use Rattle.replies.proofs.planning.choose_each.Goals as goal

pub bounds-clients-index : goal.bounds-clients-index
bounds-clients-index c =
    let each = AllZip-long (IsAssigned (content_of c.args.edition.now) c.args.request.now.session) c.args.request.now.apps c.args.clients.now c.requires.assigned in
    omega (arith, each, ap length c.as_slice-asks.ensures)

pub choose_app-choice-requires-clause-assigned : goal.choose_app-choice-requires-clause-assigned
choose_app-choice-requires-clause-assigned c =
    let request = c.args.request.now in
    let within = rw c.as_slice-asks.ensures at c.loop-index-test.true in
    let item = rw c.as_slice-asks.ensures at c.index-asks-index.is in (
      request.session,
      IsAssigned-at (content_of c.args.edition.now) request.session request.apps c.args.clients.now c.loop-index.index c.index-asks-index.result
          c.index-clients-index.result c.requires.assigned within item c.index-clients-index.is,
    )

pub choose_app-choice-requires-clause-table : goal.choose_app-choice-requires-clause-table
choose_app-choice-requires-clause-table c =
    let apps = content_of c.args.edition.now in
    let request = c.args.request.now in
    let ask = c.index-asks-index.result in
    let client = c.index-clients-index.result in
    let within = rw c.as_slice-asks.ensures at c.loop-index-test.true in
    let item = rw c.as_slice-asks.ensures at c.index-asks-index.is in
    let is =
    IsAssigned-at apps request.session request.apps c.args.clients.now c.loop-index.index ask client c.requires.assigned within item
    c.index-clients-index.is in
    let each =
    subst (λ (a : AppAsk). IfSome (pinned_key apps request.session a) (HasTable apps c.args.tables.now)) (sym item)
    (c.requires.tables.each c.loop-index.index ask within) in
    subst (λ (key : Option TrackKey). IfSome key (HasTable apps c.args.tables.now)) (pinned_key-assigned apps request.session ask client is) each

pub loop-index-preserved : goal.loop-index-preserved
loop-index-preserved c =
    let apps = content_of c.args.edition.now in
    let request = c.args.request.now in
    let ask = c.index-asks-index.result in
    let client = c.index-clients-index.result in
    let within = rw c.as_slice-asks.ensures at c.loop-index-test.true in
    let item = rw c.as_slice-asks.ensures at c.index-asks-index.is in
    let is =
    IsAssigned-at apps request.session request.apps c.args.clients.now c.loop-index.index ask client c.requires.assigned within item
    c.index-clients-index.is in
    rw c.in_ok-push.ensures.items
    (AllZip-more (IsChosen apps request.session) request.apps c.loop-index.choices.items c.loop-index.index ask c.choose_app-choice.result
    within item c.loop-index.invariant
    (IsChosen-assigned apps request.session ask client c.choose_app-choice.result is c.choose_app-choice.ensures))
