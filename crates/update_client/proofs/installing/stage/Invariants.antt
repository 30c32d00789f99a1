use Rattle.std.proofs.Common.{◌≡◌, ◌≤◌, ◌-◌, length}
use Rattle.sha2.specs.Hashers.{Holds256}
use Rattle.update_client.proofs.installing.stage.Given as goal

abbrev pub invariant-reads : goal.invariant-reads
invariant-reads g l =
    (length (g.L.Link.received l.link) ≡ l.done) × (l.done ≤ l.size)
    × Holds256 l.hasher (g.L.Link.received l.link)
    × (g.I.Installer.staged l.installer ≡ g.L.Link.received l.link)
    × (g.I.Installer.commits l.installer ≡ g.I.Installer.commits l.fn.installer)
    × (g.L.Link.posts l.link ≡ g.L.Link.posts l.fn.link)
    × (g.L.Link.opened l.link ≡ g.L.Link.opened l.fn.link)
    × (g.L.Link.failures l.link ≡ g.L.Link.failures l.fn.link)
    × (g.I.Installer.failures l.installer ≡ g.I.Installer.failures l.fn.installer)
    × (g.I.Installer.rejected l.installer ≡ g.I.Installer.rejected l.fn.installer)
    × ((first : _) → g.I.Installer.holds_since first l.fn.installer
    → g.I.Installer.holds_since first l.installer)

abbrev pub decreases-reads : goal.decreases-reads
decreases-reads g l = l.size - l.done
