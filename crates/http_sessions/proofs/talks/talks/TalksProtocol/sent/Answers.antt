use Rattle.std.proofs.Common.{refl, take}
use Rattle.http_desks.specs.Uses.{IsUse}
use Rattle.http_ports.specs.Traffic.{IsTime}
use Rattle.http_sessions.specs.Talks.{pending}
use Rattle.http_sessions.proofs.TalkLemmas.{Said-sent, drop-cut}
use Rattle.http_sessions.proofs.talks.talks.TalksProtocol.sent.Goals as goal

pub returns : goal.returns
returns g c = record {
  so_far = λ path kind received sent timestamps calls said.
      Said-sent (IsUse path IsTime (g.Z.Packages.sizes c.args.self.now.site.now)
      (g.Z.Packages.reads c.args.self.now.site.now)) kind timestamps c.args.talk.now _ received sent
      (take c.args.count (pending c.args.talk.now)) calls refl refl refl refl
      (drop-cut c.args.talk.now.made.items c.args.talk.now.sent c.args.count) said;
}
