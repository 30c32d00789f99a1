use Rattle.std.proofs.Common.{rules, refl, ap, subst₂, ◌∙◌}
use Rattle.std.proofs.lemmas.Result.{err_from_is_err_and}
use Rattle.streams.specs.Streams.{Known}
use Rattle.update_client.specs.Keeping.{commits_of}
use Rattle.update_client.specs.Walking.{IsWalk}
use Rattle.update_client.proofs.KeepingLemmas.{HasPrinted-none, walk_is}
use Rattle.update_client.proofs.PrintedWalkLemmas.{walk_fails}
use Rattle.update_client.proofs.printed_walk.walk_app.Goals as goal

pub returns-in_err-block : goal.returns-in_err-block
returns-in_err-block g c =
    let p = err_from_is_err_and c.from_residual.result c.from_residual.ensures.1 in
    rw (p.1, p.2)
    (walk_fails c.args.client.now _ _ (g.L.Link.received c.args.link.now) (g.L.Link.ended c.args.link.now) _)

pub returns : goal.returns
returns g c =
    let keeper = c.new-keeper.result in
    let after = c.walk-walked.new.installer in
    let begun = HasPrinted-none keeper.printed (commits_of keeper.commits) keeper.rejected (g.W.WriteWhole.output keeper.out.now)
    c.new-keeper.ensures.printed (ap commits_of c.new-keeper.ensures.commits) c.new-keeper.ensures.rejected in
    let (same, has) = c.walk-walked.ensures.kept keeper (refl, begun) in
    let walk = walk_is c.args.client.now c.walk-walked.new.self _ _ _ _ (g.L.Link.received c.walk-walked.new.link) (g.L.Link.ended c.walk-walked.new.link)
    (commits_of keeper.commits) (commits_of after.commits) after.printed keeper.rejected after.rejected
    (g.W.WriteWhole.output keeper.out.now) (g.W.WriteWhole.output after.out.now) c.walk-walked.result
    (ap commits_of c.new-keeper.ensures.commits) c.new-keeper.ensures.rejected c.walk-walked.ensures.walks
    c.walk-walked.ensures.installer_failed c.walk-walked.ensures.rejected has in
    let name = same ∙ c.new-keeper.ensures.same in
    let P : Known → Known → Type 0 = λ known printed. IsWalk c.args.client.now c.walk-walked.new.self
    (g.L.Link.posts c.args.link.now) (g.L.Link.posts c.walk-walked.new.link)
    (g.L.Link.opened c.args.link.now) (g.L.Link.opened c.walk-walked.new.link)
    (g.L.Link.received c.walk-walked.new.link) (g.L.Link.ended c.walk-walked.new.link) known printed c.walk-walked.result in
    subst₂ P (ap g.W.WriteWhole.output c.new-keeper.ensures.out) (search rules) walk
