use Rattle.sqlite.specs.Held.{state}
use Rattle.history.proofs.HistoryLemmas.{CrashLeaves-after, CrashLeaves-weaker, history_of}
use Rattle.history.proofs.PutLemmas.{Holds-checksum}
use Rattle.history.proofs.sealing.seal.Goals as goal

pub returns-in-Ok-clause-keeps : goal.returns-in-Ok-clause-keeps
returns-in-Ok-clause-keeps g c clean first kept has is =
    let old = state g.S.Store c.args.conn.now in
    let new = state g.S.Store c.insert_checksum.new.conn in
    history_of old new first kept is.autocommit (c.in-Ok.ensures.made clean)
    (Holds-checksum old.now.trees new.now.trees first c.args.number kept c.args.sum.now c.requires.fits.0 has is.holds (c.in-Ok.ensures.put clean))

pub returns-in-Ok-clause-leaves : goal.returns-in-Ok-clause-leaves
returns-in-Ok-clause-leaves g c =
    let old = state g.S.Store c.args.conn.now in
    CrashLeaves-weaker old (state g.S.Store c.insert_checksum.new.conn) _ _
    (λ early db made first kept has holds.
    Holds-checksum old.now.trees db first c.args.number kept c.args.sum.now c.requires.fits.0 has holds made.1)
    c.in-Ok.ensures.leaves

pub returns-else-probe-clause-leaves : goal.returns-else-probe-clause-leaves
returns-else-probe-clause-leaves g c =
    let old = state g.S.Store c.args.conn.now in
    let mid = state g.S.Store c.insert_checksum.new.conn in
    let new = state g.S.Store c.probe.new.conn in
    CrashLeaves-weaker old new _ _
    (λ early db made first kept has holds.
    Holds-checksum old.now.trees db first c.args.number kept c.args.sum.now c.requires.fits.0 has holds made.1)
    (CrashLeaves-after old mid new _ c.in-Err.ensures.leaves c.probe.ensures.leaves)
