use Rattle.http_ports.specs.Traffic.{timing}
use Rattle.http_memory.proofs.SlotLemmas.{changes_at, within_slots}
use Rattle.http_memory.proofs.scripts.script.ScriptPort.timestamp.Goals as goal

pub returns-clause-noted : goal.returns-clause-noted
returns-clause-noted c =
    let seats = c.args.self.now.seats.items in
    changes_at seats c.args.slot c.index_mut.result.now c.note_time.new.self (timing _ _)
    (within_slots seats c.args.slot c.requires.live) c.index_mut.ensures.value c.note_time.ensures.changes
