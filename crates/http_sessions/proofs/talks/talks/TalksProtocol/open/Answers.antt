use Rattle.std.proofs.Common.{List, ℕ, refl, ap, drop}
use Rattle.http_desks.specs.Uses.{IsUse}
use Rattle.http_ports.specs.Traffic.{IsTime}
use Rattle.http_sessions.proofs.TalkLemmas.{Said-nothing}
use Rattle.http_sessions.proofs.talks.talks.TalksProtocol.open.Goals as goal

pub returns-clause-so_far : goal.returns-clause-so_far
returns-clause-so_far g c = λ path kind.
    Said-nothing (IsUse path IsTime (g.Z.Packages.sizes c.args.self.now.site.now)
    (g.Z.Packages.reads c.args.self.now.site.now)) kind _ refl refl c.new.ensures.items
    (ap (λ (bytes : List ℕ). drop 0 bytes) c.new-2.ensures.items)
