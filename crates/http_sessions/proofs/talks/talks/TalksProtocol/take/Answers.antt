use Rattle.std.proofs.Common.{List, ℕ, refl, ap, drop, arith}
use Rattle.http_desks.specs.Uses.{IsUse}
use Rattle.http_ports.specs.Traffic.{IsTime}
use Rattle.http_sessions.proofs.TalkLemmas.{Said-came, Said-came_lost, Said-came_part, part_of}
use Rattle.http_sessions.proofs.talks.talks.TalksProtocol.take.Goals as goal

pub returns-then-len-talk : goal.returns-then-len-talk
returns-then-len-talk g c = record {
  so_far = λ path kind received sent timestamps calls said.
      Said-came (IsUse path IsTime (g.Z.Packages.sizes c.args.self.now.site.now)
      (g.Z.Packages.reads c.args.self.now.site.now)) kind timestamps c.args.talk.now _ received sent
      c.args.bytes.now calls (part_of c.args.talk.now.stage c.requires) refl refl c.in-Ok.ensures.items refl said;
}

pub returns-else-len-talk : goal.returns-else-len-talk
returns-else-len-talk g c = record {
  so_far = λ path kind received sent timestamps calls said.
      let part = part_of c.args.talk.now.stage c.requires in
      Said-came_part (IsUse path IsTime (g.Z.Packages.sizes c.args.self.now.site.now)
      (g.Z.Packages.reads c.args.self.now.site.now)) kind timestamps c.args.talk.now _ received sent
      c.args.bytes.now calls part part refl c.in-Ok.ensures.items refl refl
      (grind (arith, c.if-len-talk.false, c.len.ensures, c.in-Ok.ensures.items, c.in-Ok.ensures.len)) said;
}

pub returns-in-Err : goal.returns-in-Err
returns-in-Err g c = record {
  so_far = λ path kind received sent timestamps calls said.
      Said-came_lost (IsUse path IsTime (g.Z.Packages.sizes c.args.self.now.site.now)
      (g.Z.Packages.reads c.args.self.now.site.now)) kind timestamps c.args.talk.now _ received sent
      c.args.bytes.now calls (part_of c.args.talk.now.stage c.requires) refl
      (ap (λ (bytes : List ℕ). drop 0 bytes) c.clear.ensures.items) said;
}
