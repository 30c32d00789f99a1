use Rattle.update_client.proofs.HandingLemmas.{handed_from}
use Rattle.update_client.proofs.body.Body.take_waiting.Goals as goal

pub returns-clause-bytes : goal.returns-clause-bytes
returns-clause-bytes c =
    handed_from c.args.self.now.held.items c.deref.result.now c.copy_from_slice.new.self _ c.args.self.now.at c.min-count.result _
    c.deref.ensures.value c.copy_from_slice.ensures.after c.min-count.ensures
