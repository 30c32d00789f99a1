use Rattle.std.proofs.Common.{◌∙◌}
use Rattle.replies.specs.Clients.{IsAssigned}
use Rattle.replies.proofs.ZipLemmas.{AllZip-more}
use Rattle.replies.proofs.client.assign_each.Goals as goal

pub loop-ask-preserved : goal.loop-ask-preserved
loop-ask-preserved c =
    let within = rw c.as_slice-asks.ensures at c.loop-ask-test.true in
    let item = rw c.as_slice-asks.ensures at c.ask-item.is in
    let assigned = rw c.loop-ask.invariant.same at c.assign-client.ensures.assigned in
    record {
      same = c.assign-client.ensures.same ∙ c.loop-ask.invariant.same;
      assigned =
          rw c.in_ok-extend_from_slice.ensures.items
          (AllZip-more (IsAssigned c.args.catalogue.now c.new-session.result) c.args.request.now.apps c.loop-ask.clients.items c.loop-ask.ask-index c.ask-item.result c.assign-client.result within item c.loop-ask.invariant.assigned assigned);
    }
