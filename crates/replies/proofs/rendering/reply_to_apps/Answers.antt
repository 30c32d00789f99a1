use Rattle.std.proofs.Common.{◌<◌, length, get_or, arith, Option, None, sym, ◌∙◌, ap, map, subst}
use Rattle.std.specs.Option.{option_and_then}
use Rattle.std.proofs.lemmas.List.{get_or_default}
use Rattle.std.proofs.lemmas.Slice.Zip.{AllZip-long}
use Rattle.replies.specs.Clients.{Client, IsAssigned, IsInCohort, client_in}
use Rattle.replies.specs.declared.client.Assignment.{Assignment}
use Rattle.replies.specs.Plans.{IsChosen, payload_in}
use Rattle.replies.specs.Replies.{Decision, IsOutcome, app_reply, client_reply}
use Rattle.replies.proofs.ZipLemmas.{AllZip-at, map-side_by_side, take-side_by_side}
use Rattle.replies.proofs.rendering.reply_to_apps.Goals as goal

pub bounds-clients-index : goal.bounds-clients-index
bounds-clients-index c =
    let each = AllZip-long (IsAssigned c.args.catalogue.now c.args.request.now.session) c.args.request.now.apps c.args.plan.now.clients c.requires.planned.assigned in
    omega (arith, each, ap length c.as_slice-asks.ensures, ap length c.as_slice-clients.ensures)

pub bounds-choices-index : goal.bounds-choices-index
bounds-choices-index c =
    let each = AllZip-long (IsChosen c.args.catalogue.now c.args.request.now.session) c.args.request.now.apps c.args.plan.now.choices c.requires.planned.chosen in
    omega (arith, each, ap length c.as_slice-asks.ensures, ap length c.as_slice-choices.ensures)

pub bounds-outcomes-index : goal.bounds-outcomes-index
bounds-outcomes-index c =
    let each = AllZip-long (IsChosen c.args.catalogue.now c.args.request.now.session) c.args.request.now.apps c.args.plan.now.choices c.requires.planned.chosen in
    let all = AllZip-long (IsOutcome c.args.mirrors.now) c.args.plan.now.choices c.args.outcomes.now c.requires.decided in
    omega (arith, each, all, ap length c.as_slice-asks.ensures)

pub reply_to_app-requires-clause-assigned : goal.reply_to_app-requires-clause-assigned
reply_to_app-requires-clause-assigned c =
    let within : c.loop-index.index < length c.args.request.now.apps = omega (arith, ap length c.as_slice-asks.ensures) in
    let assigned = AllZip-at (IsAssigned c.args.catalogue.now c.args.request.now.session) c.args.request.now.apps c.args.plan.now.clients c.loop-index.index c.index-asks-index.result None c.requires.planned.assigned within in
    let each = AllZip-long (IsAssigned c.args.catalogue.now c.args.request.now.session) c.args.request.now.apps c.args.plan.now.clients c.requires.planned.assigned in
    let there : c.loop-index.index < length c.args.plan.now.clients = omega (arith, each, within) in
    let own = rw c.as_slice-clients.ensures at c.index-clients-index.is in
    let client_is = own ∙ get_or_default c.args.plan.now.clients c.loop-index.index c.index-clients-index.result None there in
    subst (λ (assigned : Option Assignment). IsInCohort c.args.catalogue.now assigned) (sym client_is) assigned.cohort

pub reply_to_app-requires-clause-decided : goal.reply_to_app-requires-clause-decided
reply_to_app-requires-clause-decided c =
    let each = AllZip-long (IsChosen c.args.catalogue.now c.args.request.now.session) c.args.request.now.apps c.args.plan.now.choices c.requires.planned.chosen in
    let within : c.loop-index.index < length c.args.plan.now.choices = omega (arith, each, ap length c.as_slice-asks.ensures) in
    rw c.as_slice-choices.ensures
    (AllZip-at (IsOutcome c.args.mirrors.now) c.args.plan.now.choices c.args.outcomes.now c.loop-index.index None None c.requires.decided within)

pub loop-index-preserved : goal.loop-index-preserved
loop-index-preserved c =
    let apps = c.args.catalogue.now in
    let request = c.args.request.now in
    let plan = c.args.plan.now in
    let index = c.loop-index.index in
    let ask = c.index-asks-index.result in
    let one_each = AllZip-long (IsChosen apps request.session) request.apps plan.choices c.requires.planned.chosen in
    let all_each = AllZip-long (IsOutcome c.args.mirrors.now) plan.choices c.args.outcomes.now c.requires.decided in
    let within = rw c.as_slice-asks.ensures at c.loop-index-test.true in
    let item = rw c.as_slice-asks.ensures at c.index-asks-index.is in
    let assigned = AllZip-at (IsAssigned apps request.session) request.apps plan.clients index ask None c.requires.planned.assigned within in
    let client = rw (← item) at assigned.client in
    let reply = rw c.as_slice-choices.ensures at c.in_ok-reply.ensures in
    let decided : Decision = (payload_in (get_or plan.choices index None), get_or c.args.outcomes.now index None) in
    let clients_each = AllZip-long (IsAssigned apps request.session) request.apps plan.clients c.requires.planned.assigned in
    let there : index < length plan.clients = omega (arith, clients_each, within) in
    let own = rw c.as_slice-clients.ensures at c.index-clients-index.is in
    let client_is = own ∙ get_or_default plan.clients index c.index-clients-index.result None there in
    let named =
    reply
    ∙ ap (λ (a : Option Assignment). client_reply c.args.mirrors.now (option_and_then (client_in apps) a) (ask, decided)) client_is
    ∙ ap (λ (o : Option Client). client_reply c.args.mirrors.now o (ask, decided)) client in
    let more = map-side_by_side payload_in request.apps plan.choices c.args.outcomes.now one_each all_each (app_reply apps request.session c.args.mirrors.now) index ask None None within item in
    rw (c.in_ok-push.ensures.items, c.loop-index.invariant, named) (sym more)

pub returns : goal.returns
returns c =
    let request = c.args.request.now in
    let plan = c.args.plan.now in
    let one_each = AllZip-long (IsChosen c.args.catalogue.now request.session) request.apps plan.choices c.requires.planned.chosen in
    let all_each = AllZip-long (IsOutcome c.args.mirrors.now) plan.choices c.args.outcomes.now c.requires.decided in
    let past = rw c.as_slice-asks.ensures at c.loop-index-test.false in
    let whole = take-side_by_side payload_in request.apps plan.choices c.args.outcomes.now one_each all_each c.loop-index.index past in
    c.loop-index.invariant ∙ ap (map (app_reply c.args.catalogue.now request.session c.args.mirrors.now)) whole
