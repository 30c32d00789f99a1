use Rattle.std.proofs.Common.{◌≡◌, ◌<◌, length, get_or, arith, Option, sym, ap, ◌∙◌, subst}
use Rattle.std.proofs.lemmas.Slice.Zip.{AllZip-long}
use Rattle.replies.specs.Clients.{IsAssigned}
use Rattle.replies.specs.Pinned.{key_in, key_pinned}
use Rattle.replies.specs.Plans.{pinned_key}
use Rattle.replies.specs.declared.client.Assignment.{Assignment}
use Rattle.replies.proofs.KeyLemmas.{ArePinnedKeys-app, ArePinnedKeys-more, pinned_key-assigned}
use Rattle.replies.proofs.ZipLemmas.{AllZip-at}
use Rattle.replies.proofs.pinned.push_app.Goals as goal

pub bounds-clients-index : goal.bounds-clients-index
bounds-clients-index c =
    let each = AllZip-long (IsAssigned c.args.catalogue.now c.args.request.now.session) c.args.request.now.apps c.args.clients.now c.requires.assigned in
    omega (arith, each, ap length c.as_slice-asks.ensures)

pub loop-index-preserved : goal.loop-index-preserved
loop-index-preserved c =
    let apps = c.args.catalogue.now in
    let request = c.args.request.now in
    let clients = c.args.clients.now in
    let index = c.loop-index.index in
    let ask = c.index-asks-index.result in
    let within = rw c.as_slice-asks.ensures at c.loop-index-test.true in
    let item = rw c.as_slice-asks.ensures at c.index-asks-index.is in
    let each = AllZip-long (IsAssigned apps request.session) request.apps clients c.requires.assigned in
    let there : index < length clients = omega (arith, each, within) in
    let at = AllZip-at (IsAssigned apps request.session) request.apps clients index ask c.index-clients-index.result c.requires.assigned within in
    let assigned = subst (λ a. IsAssigned apps request.session a (get_or clients index c.index-clients-index.result)) (sym item) at in
    let own : key_in c.args.app (pinned_key apps request.session ask) ≡ c.key_in_app-key.result =
    ap (key_in c.args.app) (pinned_key-assigned apps request.session ask (get_or clients index c.index-clients-index.result) assigned)
    ∙ ap (λ (a : Option Assignment). key_in c.args.app (key_pinned ask a)) (sym c.index-clients-index.is)
    ∙ sym c.key_in_app-key.ensures in
    ArePinnedKeys-more apps request.session request.apps c.args.app index ask c.key_in_app-key.result c.loop-index.keys.items c.push_key.new.keys.items
    within item own c.loop-index.invariant c.in_ok-push_key.ensures

pub returns : goal.returns
returns c =
    let request = c.args.request.now in
    let past = rw c.as_slice-asks.ensures at c.loop-index-test.false in
    ArePinnedKeys-app c.args.catalogue.now request.session request.apps c.args.app c.loop-index.index c.loop-index.keys.items past c.loop-index.invariant
