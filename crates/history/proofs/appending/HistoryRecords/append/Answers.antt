use Rattle.std.proofs.Common.{◌+◌, ◌++◌, ◌∙◌, [], ◌∷◌, ap, arith, length, length-append, subst, sym}
use Rattle.std.specs.Prelude.{IsTrue}
use Rattle.kept_records.specs.Checksums.{no_checksum}
use Rattle.kept_records.specs.Keeping.{HasRoom, record_of}
use Rattle.sqlite.specs.Held.{state}
use Rattle.history.proofs.ChecksumLemmas.{HasChecksum-last, checksum_from-append, next_checksum}
use Rattle.history.proofs.HistoryLemmas.{CrashLeaves-after, append_leaves, bytes_in-append, history_appended, history_keeps, sealed_leaves}
use Rattle.history.specs.Holdings.{LeavesEither}
use Rattle.history.specs.Logs.{IsLog, Log}
use Rattle.history.specs.Tables.{stored_row}
use Rattle.history.proofs.appending.HistoryRecords.append.Goals as goal

pub invariant_of-self : goal.invariant_of-self
invariant_of-self g c =
    let old = state g.S.Store c.self.inside.conn in
    let mid = state g.S.Store c.insert.new.conn in
    let was = c.self.inside in
    let last = record_of c.args.kind c.args.bytes.now in
    let room = subst (λ (log : Log _). HasRoom log.limit log.kept (length c.args.bytes.now)) (sym c.self.view_is) (c.has_room.ensures.0 c.if-not-has_room.false) in
    let sum = next_checksum was.first was.len was.marks last was.sum c.checksum_of-sum.result c.self.invariant.counted c.self.invariant.summed c.checksum_of-sum.ensures in
    subst (λ marks. IsLog g.S.Store c.seal.new.conn was.first (was.len + 1) (was.size + length c.args.bytes.now) c.checksum_of-sum.result marks was.is_live) (sym c.note.ensures)
    (record {
      numbered = c.self.invariant.numbered;
      summed = sum ∙ sym (checksum_from-append was.first no_checksum was.marks last);
      counted = omega (arith, c.self.invariant.counted, length-append was.marks (last ∷ []));
      bounded = omega (arith, c.self.invariant.counted, room.0);
      sized = omega (arith, c.self.invariant.sized, bytes_in-append was.marks last);
      holds = λ live clean.
          let early = c.in-Ok-seal.ensures.leaves.clean clean in
          c.in-Ok-seal.ensures.keeps clean was.first (was.marks ++ last ∷ [])
          (HasChecksum-last was.first was.len was.marks last c.checksum_of-sum.result c.self.invariant.counted sum)
          (history_appended old mid was.first was.marks last (c.self.invariant.holds live (c.in-Ok.ensures.leaves.clean early)) (c.in-Ok.ensures.made early)
          (c.in-Ok.ensures.added early ∙ ap (λ n. old.now.trees 0 ++ stored_row (was.first + n) last ∷ []) c.self.invariant.counted));
    })

pub returns-in-Ok-seal-clause-keeps : goal.returns-in-Ok-seal-clause-keeps
returns-in-Ok-seal-clause-keeps g c clean live =
    let is = (invariant_of-self g c).holds live clean in
    history_keeps (state g.S.Store c.seal.new.conn) c.self.inside.first c.note.new.marks is
    (λ db may. g.met.S.Store.settled c.seal.new.conn.store db is.is_open may)

pub returns-in-Ok-seal-clause-crash : goal.returns-in-Ok-seal-clause-crash
returns-in-Ok-seal-clause-crash g c clean =
    let old = state g.S.Store c.self.inside.conn in
    let mid = state g.S.Store c.insert.new.conn in
    let new = state g.S.Store c.seal.new.conn in
    let was = c.self.inside in
    let last = record_of c.args.kind c.args.bytes.now in
    let sum = next_checksum was.first was.len was.marks last was.sum c.checksum_of-sum.result c.self.invariant.counted c.self.invariant.summed c.checksum_of-sum.ensures in
    subst (λ (log : Log _). IsTrue log.is_live → LeavesEither new log.first log.kept log.first (log.kept ++ last ∷ [])) c.self.view_is
    (λ live.
    let early = c.in-Ok-seal.ensures.leaves.clean clean in
    let is = c.self.invariant.holds live (c.in-Ok.ensures.leaves.clean early) in
    let appended = history_appended old mid was.first was.marks last is (c.in-Ok.ensures.made early)
    (c.in-Ok.ensures.added early ∙ ap (λ n. old.now.trees 0 ++ stored_row (was.first + n) last ∷ []) c.self.invariant.counted) in
    sealed_leaves old mid new was.first was.len was.marks last _ clean c.self.invariant.counted is (λ db may. g.met.S.Store.settled was.conn.store db is.is_open may)
    c.in-Ok.ensures.leaves c.in-Ok-seal.ensures.leaves
    (λ db made. made was.first (was.marks ++ last ∷ [])
    (HasChecksum-last was.first was.len was.marks last c.checksum_of-sum.result c.self.invariant.counted sum) appended.holds))

pub returns-in-Err-seal-clause-crash : goal.returns-in-Err-seal-clause-crash
returns-in-Err-seal-clause-crash g c clean =
    let old = state g.S.Store c.self.inside.conn in
    let mid = state g.S.Store c.insert.new.conn in
    let new = state g.S.Store c.seal.new.conn in
    let was = c.self.inside in
    let last = record_of c.args.kind c.args.bytes.now in
    let sum = next_checksum was.first was.len was.marks last was.sum c.checksum_of-sum.result c.self.invariant.counted c.self.invariant.summed c.checksum_of-sum.ensures in
    subst (λ (log : Log _). IsTrue log.is_live → LeavesEither new log.first log.kept log.first (log.kept ++ last ∷ [])) c.self.view_is
    (λ live.
    let early = c.in-Err-seal.ensures.leaves.clean clean in
    let is = c.self.invariant.holds live (c.in-Ok.ensures.leaves.clean early) in
    let appended = history_appended old mid was.first was.marks last is (c.in-Ok.ensures.made early)
    (c.in-Ok.ensures.added early ∙ ap (λ n. old.now.trees 0 ++ stored_row (was.first + n) last ∷ []) c.self.invariant.counted) in
    sealed_leaves old mid new was.first was.len was.marks last _ clean c.self.invariant.counted is (λ db may. g.met.S.Store.settled was.conn.store db is.is_open may)
    c.in-Ok.ensures.leaves c.in-Err-seal.ensures.leaves
    (λ db made. made was.first (was.marks ++ last ∷ [])
    (HasChecksum-last was.first was.len was.marks last c.checksum_of-sum.result c.self.invariant.counted sum) appended.holds))

pub returns-after-self-clause-crash : goal.returns-after-self-clause-crash
returns-after-self-clause-crash g c clean =
    let old = state g.S.Store c.self.inside.conn in
    let mid = state g.S.Store c.insert.new.conn in
    let new = state g.S.Store c.probe-self-inside.new.conn in
    let last = record_of c.args.kind c.args.bytes.now in
    let leaves = CrashLeaves-after old mid new _ c.in-Err.ensures.leaves c.probe-self-inside.ensures.leaves in
    subst (λ (log : Log _). IsTrue log.is_live → LeavesEither new log.first log.kept log.first (log.kept ++ last ∷ [])) c.self.view_is
    (λ live.
    let is = c.self.invariant.holds live (leaves.clean clean) in
    append_leaves old new c.self.inside.first c.self.inside.len c.self.inside.marks last clean c.self.invariant.counted is
    (λ db may. g.met.S.Store.settled c.self.inside.conn.store db is.is_open may) leaves)
