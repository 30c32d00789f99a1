use Rattle.http_memory.specs.Peers.{after_read}
use Rattle.http_memory.specs.Seats.{slots_of}
use Rattle.http_memory.proofs.SlotLemmas.{changes_at, reads_at, within_slots}
use Rattle.http_memory.proofs.scripts.script.ScriptPort.read.Goals as goal

pub returns-clause-reads : goal.returns-clause-reads
returns-clause-reads c =
    let seats = c.args.self.now.seats.items in
    reads_at c.read.result c.read.new.into (slots_of seats) _ c.args.slot c.read.ensures.fits
    (changes_at seats c.args.slot c.index_mut.result.now c.read.new.self (after_read c.read.result c.read.new.into)
    (within_slots seats c.args.slot c.requires.live) c.index_mut.ensures.value c.read.ensures.changes)
