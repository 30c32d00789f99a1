use Rattle.std.proofs.Common.{Bool, List, ap₂, cond, subst, ℕ}
use Rattle.sqlite_disk.specs.Events.{Event, replay}
use Rattle.sqlite.specs.Files.{file_state}
use Rattle.sqlite.specs.Recovery.{Image}
use Rattle.sqlite.specs.Start.{FindsIn}
use Rattle.history.proofs.stores.open_files.Goals as goal

abbrev image : List ℕ → List ℕ → Image
image log db = record { log = log; db = db }

abbrev seen : List ℕ → List ℕ → Bool → List Event → List ℕ
seen log db is_log history = (replay (cond is_log log db) history).seen

pub returns-in-Ok-open_files-clause-found : goal.returns-in-Ok-open_files-clause-found
returns-in-Ok-open_files-clause-found g c clean =
    let fresh = c.in-Ok.ensures.fresh in
    let found = c.in-Ok-open_files.ensures.found clean in
    let same = ap₂ image (ap₂ (seen g.S.Start.log g.S.Start.db) fresh.0.0 fresh.0.1) (ap₂ (seen g.S.Start.log g.S.Start.db) fresh.1.0 fresh.1.1) in
    subst (λ held. FindsIn held (file_state c.in-Ok-open_files.conn)) same (record { holds = found.holds; reads = found.reads })
