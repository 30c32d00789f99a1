use Rattle.std.proofs.Common.{◌≡◌, true, false, is_none, List, [], ◌∷◌, ◌++◌, sym, subst, arith, rules}
use Rattle.std.proofs.lemmas.Grind.{common_steps}
use Rattle.update_client.specs.Walks.{Commit}
use Rattle.update_client.specs.declared.installer.Step.{Step}
use Rattle.update_client.specs.Keeping.{HasPrinted, commits_of}
use Rattle.update_client.proofs.KeepingLemmas.{HasPrinted-cut, HasPrinted-more}
use Rattle.update_client.proofs.keeper.KeeperInstaller.commit.Goals as goal

pub returns-then-is_none-clause-kept : goal.returns-then-is_none-clause-kept
returns-then-is_none-clause-kept g c =
    let keeper = c.args.self.now in
    let cut : is_none c.print_next-self.result ≡ true = search rules in
    λ first (same, has).
    let before = g.W.WriteWhole.output first.out.now in
    let out = g.W.WriteWhole.output c.print_next-self.new.out in
    let P : List Step → Type 0 = λ steps. HasPrinted c.print_next-self.result (commits_of keeper.commits) steps before out in (
      same,
      subst P (sym c.push.ensures)
          (HasPrinted-cut keeper.printed c.print_next-self.result c.args.step.now (commits_of keeper.commits) keeper.rejected before
          (g.W.WriteWhole.output keeper.out.now) out cut has c.print_next-self.ensures),
    )

pub returns-clause-kept : goal.returns-clause-kept
returns-clause-kept g c =
    let keeper = c.args.self.now in
    let commit : Commit = (c.args.step.now, c.replace-staged.result) in
    let committed : commits_of c.push-2.new.self ≡ commits_of keeper.commits ++ commit ∷ [] =
    grind (arith, common_steps) in
    let whole : is_none c.print_next-self.result ≡ false = search rules in
    λ first (same, has).
    let before = g.W.WriteWhole.output first.out.now in
    let out = g.W.WriteWhole.output c.print_next-self.new.out in
    let P : List Commit → Type 0 = λ commits. HasPrinted c.print_next-self.result commits keeper.rejected before out in (
      same,
      subst P (sym committed)
          (HasPrinted-more keeper.printed c.print_next-self.result (commits_of keeper.commits) commit keeper.rejected before
          (g.W.WriteWhole.output keeper.out.now) out whole has c.print_next-self.ensures),
    )
