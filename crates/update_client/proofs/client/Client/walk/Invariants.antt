use Rattle.std.proofs.Common.{◌≡◌, ◌-◌, ◌*◌, ◌^◌, ◌≤◌, []}
use Rattle.update_client.proofs.WalkLemmas.{SoFar}
use Rattle.update_client.proofs.client.Client.walk.Given as goal

abbrev pub invariant-steps : goal.invariant-steps
invariant-steps g l =
    SoFar l.fn.self l.self (g.L.Link.posts l.fn.link) (g.L.Link.posts l.link)
    (g.L.Link.opened l.fn.link) (g.L.Link.opened l.link)
    (g.I.Installer.commits l.fn.installer) (g.I.Installer.commits l.installer) l.steps l.bytes
    × (l.steps ≤ 1024) × (l.bytes ≤ l.steps * 2 ^ 64)
    × (g.I.Installer.staged l.installer ≡ [])
    × (g.L.Link.failures l.link ≡ g.L.Link.failures l.fn.link)
    × (g.I.Installer.failures l.installer ≡ g.I.Installer.failures l.fn.installer)
    × (g.I.Installer.rejected l.installer ≡ g.I.Installer.rejected l.fn.installer)
    × ((first : _) → g.I.Installer.holds_since first l.fn.installer
    → g.I.Installer.holds_since first l.installer)

abbrev pub decreases-steps : goal.decreases-steps
decreases-steps g l = 1024 - l.steps
