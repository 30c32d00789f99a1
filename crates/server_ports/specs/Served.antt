-- A port of a server, once it was served; this project's profile.
use Rattle.std.specs.Prelude.{◌≡◌, ◌≤◌, ℕ, List}
use Rattle.http_desks.specs.Calls.{Call}
use Rattle.http_desks.specs.Uses.{IsUse}
use Rattle.http_ports.specs.Traffic.{IsTime}
use Rattle.http_ports.specs.declared.terms.Terms.{Terms}
use Rattle.http_sessions.specs.Ports.{HasTalked, Passage}
use Rattle.systems.specs.Edges.{Edges}
use Rattle.server_ports.specs.declared.place.Place.{Place}

-- a port of these terms was served to its end by a desk of this path and type, with the packages of the place's folder:
-- each connection that it accepted has ended
pub record IsServedPort {D : Type 0} (edges : Edges) (place : Place) (path kind : List ℕ) (steps : D → Call → D → Type 0)
    (before behind : D) (terms : Terms) (passage : Passage) : Type 0 where
  pub by : passage.terms ≡ terms
  pub few : passage.accepted ≤ terms.limit
  pub talked : HasTalked (IsUse path IsTime (edges.sizes place.packages) (edges.reads place.packages)) kind steps before behind passage
