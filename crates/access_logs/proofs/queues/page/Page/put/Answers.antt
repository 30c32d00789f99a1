use Rattle.std.proofs.Common.{◌≡◌, true, rules}
use Rattle.access_logs.proofs.PageLemmas.{OnErr-after}
use Rattle.access_logs.proofs.queues.page.Page.put.Goals as goal

pub returns-clause-err : goal.returns-clause-err
returns-clause-err g c =
    let is : c.args.self.now.is_cut ≡ true = search rules in
    OnErr-after c.write_whole-3.result c.args.self.now.is_cut (g.W.WriteWhole.output c.args.self.now.out.now)
    (g.W.WriteWhole.output c.write_whole-2.new.self) _ c.args.lines.now is c.in_ok-write_whole.ensures.ok c.write_whole-3.ensures.err
