-- What a server has opened and printed when it listens, or if it ends before its totals; this project's profile.
use Rattle.std.specs.Prelude.{◌≡◌, ◌⊎◌, ⊤, ℕ, List, Option, None, Some}
use Rattle.std.specs.Io.KnownBytes.{Appends}
use Rattle.streams.specs.Streams.{Known}
use Rattle.streams.specs.Writing.{Breaks}
use Rattle.systems.specs.Edges.{Edges}
use Rattle.server_ports.specs.Opening.{clients_listener, operator_listener, ready_line}
use Rattle.server_ports.specs.declared.error.ServerError.{ServerError}
use Rattle.server_ports.specs.declared.error.ServerError.TheVariants as server
use Rattle.server_ports.specs.declared.place.Place.{Place}

-- the line that says that the server listens was printed
abbrev pub IsReady : Known → Known → Type 0
IsReady old new = Appends old.bytes new.bytes ready_line

-- a listener is bound to the operator's address, if there is one
abbrev pub IsListening : Edges → Option (List ℕ) → Type 0
IsListening edges None = ⊤
IsListening edges (Some address) = edges.listens address operator_listener

-- there is the folder of the place, and listeners are bound to its addresses
pub record IsOpen (edges : Edges) (place : Place) : Type 0 where
  pub folder : edges.folders place.packages
  pub bound : edges.listens place.address clients_listener
  pub operated : IsListening edges place.operator

-- what was printed of a server that ended before its totals: `ready` only if it has its folder and listens
abbrev pub Stops : Edges → Place → Known → Known → ServerError → Type 0
Stops edges place old new server.Net = new ≡ old
Stops edges place old new server.OperatorNet = new ≡ old
Stops edges place old new server.Log = new ≡ old
Stops edges place old new server.Folder = new ≡ old
Stops edges place old new (server.Package name what) = new ≡ old
Stops edges place old new server.NoPlace = new ≡ old
Stops edges place old new server.Thread = IsOpen edges place × IsReady old new
Stops edges place old new server.RoomLeft = IsOpen edges place × IsReady old new
Stops edges place old new server.Unpublished = IsOpen edges place × IsReady old new
Stops edges place old new server.EndedEarly = IsOpen edges place × IsReady old new
Stops edges place old new server.Write = IsOpen edges place × Breaks old new ready_line
Stops edges place old new server.Memory = (new ≡ old) ⊎ (IsOpen edges place × IsReady old new)
