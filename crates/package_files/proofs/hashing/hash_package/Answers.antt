use Rattle.std.proofs.Common.{◌≡◌, ◌+◌, ◌*◌, ◌++◌, [], ◌∷◌, ℕ, length, Some, sym, subst, ap, ◌∙◌, arith, length-append}
use Rattle.sha2.specs.Hashers.{Holds256}
use Rattle.http_desks.specs.Downloads.{joined_blocks}
use Rattle.package_files.proofs.HashLemmas.{ReadsFrom-push, joined_blocks-push, reads-as}
use Rattle.package_files.proofs.hashing.hash_package.Goals as goal

pub loop-index-preserved : goal.loop-index-preserved
loop-index-preserved g c =
    let (blocks, count, read, holds) = c.loop-index.invariant in
    let block = c.read_at.new.into in
    let long : length c.loop-index.block ≡ 65536 = c.loop-index.auto.block ∙ c.requires in
    let at : c.loop-index.index ≡ 0 + length blocks = omega (arith, count) in (
      blocks ++ block ∷ [],
      omega (arith, count, length-append blocks (block ∷ [])),
      ReadsFrom-push (g.P.Packages.reads c.args.packages.now c.args.name.now) 0 blocks block read
          (reads-as (g.P.Packages.reads c.args.packages.now c.args.name.now) _ _ _ _ (Some block)
          (ap (λ (n : ℕ). n * 65536) at) long c.in-Ok.ensures),
      subst (Holds256 c.update.new.self) (sym (joined_blocks-push blocks block)) (c.update.ensures (joined_blocks blocks) holds),
    )
