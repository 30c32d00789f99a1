use Rattle.std.proofs.Common.{◌++◌, ◌≤◌, ℕ, [], ◌∷◌, length, take, Some, inl, inr, sym, subst, ◌∙◌, arith}
use Rattle.std.proofs.lemmas.Grind.{common_steps}
use Rattle.std.specs.Io.KnownBytes.{Appends}
use Rattle.http_wire.proofs.KnownLemmas.{Appends-then}
use Rattle.http_desks.specs.Downloads.{IsRead, full_blocks, joined_blocks}
use Rattle.http_desks.proofs.DownloadLemmas.{joined_blocks-more, AppendsPart-more, AppendsPart-last}
use Rattle.http_desks.proofs.download.send_package.Goals as goal

pub turns-preserved : goal.turns-preserved
turns-preserved g c =
    let (blocks, at, size, read, sent, same) = c.turns.invariant in
    let (more, few, reads) = c.in-Full.ensures.makes blocks at read in (
      blocks ++ c.next.new.block ∷ [],
      more,
      c.in-Full.ensures.follows.0 ∙ size,
      reads,
      subst (Appends _ _) (sym (joined_blocks-more blocks c.next.new.block))
          (Appends-then _ _ _ (joined_blocks blocks) c.next.new.block sent c.in-Ok.ensures.sends),
      omega (arith, same, c.in-Ok.ensures.failed),
    )

pub returns-in-Err-clause-downloads : goal.returns-in-Err-clause-downloads
returns-in-Err-clause-downloads g c =
    let (blocks, at, size, read, sent, same) = c.turns.invariant in
    let block = c.next.new.block in
    let (more, few, reads) = c.in-Full.ensures.makes blocks at read in
    inl (
      blocks ++ block ∷ [],
      subst (λ (n : ℕ). length (blocks ++ block ∷ []) ≤ full_blocks n) size few,
      reads,
      AppendsPart-more _ _ _ blocks block sent c.in-Err.ensures.sends,
    )

pub returns-in-Err-send-clause-downloads : goal.returns-in-Err-send-clause-downloads
returns-in-Err-send-clause-downloads g c =
    let (blocks, at, size, read, sent, same) = c.turns.invariant in
    let end = take c.in-Last.count c.next.new.block in
    let (last, digest) = c.in-Last.ensures.makes blocks at read in
    inr (
      blocks,
      end,
      subst (λ (n : ℕ). IsRead (g.P.Packages.reads c.args.packages.now c.args.name.now) n blocks (Some end)) size last,
      digest,
      AppendsPart-last _ _ _ (joined_blocks blocks) end sent c.in-Err-send.ensures.sends,
    )

pub returns-in-Ok-send-clause-downloads : goal.returns-in-Ok-send-clause-downloads
returns-in-Ok-send-clause-downloads g c = grind (arith, common_steps)
