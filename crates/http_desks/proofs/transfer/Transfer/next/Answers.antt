use Rattle.std.proofs.Common.{◌++◌, ◌∙◌, Some, refl, sym, arith}
use Rattle.std.proofs.lemmas.List.{length-take-le}
use Rattle.http_desks.specs.Downloads.{joined_blocks}
use Rattle.http_desks.proofs.TransferLemmas.{at_last, one_more}
use Rattle.http_desks.proofs.transfer.Transfer.next.Goals as goal

pub returns-in-Ok-clause-makes : goal.returns-in-Ok-clause-makes
returns-in-Ok-clause-makes g c = λ blocks at read.
    one_more (g.P.Packages.reads c.args.packages.now c.args.name.now) c.args.self blocks at read _ c.read_at.new.into _ refl
    (omega (arith, c.if-index-saturating_sub.true, c.saturating_sub.ensures)) c.requires c.in-Ok.ensures c.update.ensures

pub returns-else-agrees-clause-makes : goal.returns-else-agrees-clause-makes
returns-else-agrees-clause-makes g c = λ blocks at read.
    let last = c.read_at-2.new.into in
    let digest = c.agrees.ensures (joined_blocks blocks ++ last) (c.update-2.ensures (joined_blocks blocks) at.hashed) in (
      Some last,
      at_last (g.P.Packages.reads c.args.packages.now c.args.name.now) c.args.self blocks at read _ (Some last)
          (omega (arith, c.if-index-saturating_sub.false, c.saturating_sub.ensures))
          (length-take-le _ c.args.block.now (omega (arith, c.requires, c.if-index-saturating_sub.false, c.saturating_sub.ensures)))
          c.in-Ok-read_at.ensures,
      sym digest ∙ c.if-agrees.false,
    )
