use Rattle.http_memory.specs.Peers.{after_write}
use Rattle.http_memory.specs.Seats.{slots_of}
use Rattle.http_memory.proofs.SlotLemmas.{changes_at, within_slots, writes_at}
use Rattle.http_memory.proofs.scripts.script.ScriptPort.write.Goals as goal

pub returns-clause-writes : goal.returns-clause-writes
returns-clause-writes c =
    let seats = c.args.self.now.seats.items in
    writes_at c.write.result c.args.bytes.now (slots_of seats) _ c.args.slot c.write.ensures.fits
    (changes_at seats c.args.slot c.index_mut.result.now c.write.new.self (after_write c.write.result c.args.bytes.now)
    (within_slots seats c.args.slot c.requires.live) c.index_mut.ensures.value c.write.ensures.changes)
