use Rattle.std.proofs.Common.{◌∙◌, All, arith, subst, sym}
use Rattle.std.proofs.lemmas.List.{take_all}
use Rattle.history.specs.Holdings.{HasChecksum}
use Rattle.history.proofs.ChecksumLemmas.{All-take_next, IfNone-of}
use Rattle.history.proofs.checksums.wrong_checksum.Goals.{then-not-has_checksum, else-not-has_checksum}
use Rattle.history.proofs.checksums.wrong_checksum.Goals as goal

pub loop-row-preserved : goal.loop-row-preserved
loop-row-preserved c = elim c.if-not-has_checksum.branch [
  | then-not-has_checksum w ↦ λ none. absurd (let is = sym w.wrong-is ∙ none in cc)
  | else-not-has_checksum w ↦ λ none. All-take_next (HasChecksum c.args.first c.args.sums.now) c.args.rows.now c.loop-row.row-index c.row-item.result
      c.loop-row-test.true c.row-item.is (c.loop-row.invariant (sym w.wrong-is ∙ none)) (c.has_checksum.ensures w.if-not-has_checksum.false)
]

pub returns : goal.returns
returns c =
    IfNone-of c.loop-row.wrong (All (HasChecksum c.args.first c.args.sums.now) c.args.rows.now)
    (λ none. subst (All (HasChecksum c.args.first c.args.sums.now)) (take_all c.loop-row.row-index c.args.rows.now (omega (arith, c.loop-row-test.false)))
    (c.loop-row.invariant none))
