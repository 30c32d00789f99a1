-- What a server's workers came to, up to its totals.
use Rattle.std.specs.Prelude.{◌≡◌, ◌⊎◌, ◌++◌, ℕ, true, All, List, Some, Result, Ok, Err, map, option_map, option_to_list}
use Rattle.mirror_ledger.specs.declared.run_error.RunError.{RunError}
use Rattle.mirror_ledger.specs.declared.run_error.RunError.TheVariants as run
use Rattle.mirror_ledger.specs.declared.running.Ran.{Ran}
use Rattle.std.specs.Io.KnownBytes.{Appends}
use Rattle.catalogue.specs.Histories.{History}
use Rattle.http_ports.specs.Traffic.{Slot}
use Rattle.http_ports.specs.declared.terms.Terms.{Terms}
use Rattle.publisher.specs.Sights.{Allows}
use Rattle.service_desks.specs.States.{Store}
use Rattle.streams.specs.Streams.{Known}
use Rattle.streams.specs.Writing.{Breaks}
use Rattle.systems.specs.Edges.{Edges}
use Rattle.server_ports.specs.Logging.{log_at, those_of}
use Rattle.server_ports.specs.Passages.{HaveAcceptedAll, Passages, passages_of}
use Rattle.server_ports.specs.Starts.{IsOpen, IsReady}
use Rattle.omaha_server.specs.Serving.{AreTotals}
use Rattle.service_desks.specs.Totals.{totals_string}
use Rattle.server_ports.specs.declared.error.ServerError.{ServerError}
use Rattle.server_ports.specs.declared.error.ServerError.TheVariants as server
use Rattle.server_ports.specs.declared.place.Place.{Place}
use Rattle.omaha_server.specs.declared.clients.Visited.{Visited}
use Rattle.omaha_server.specs.declared.operating.Operated.{Operated}
use Rattle.omaha_server.specs.declared.running.Ended.{Ended}
use Rattle.omaha_server.specs.declared.running.Run.{Run}
use Rattle.server_ports.specs.declared.setup.Served.{Served}
use Rattle.service_desks.specs.declared.services.service.Service.{Service}

-- how a server ends whose jobs came to nothing
abbrev pub run_failure : RunError → ServerError
run_failure run.RoomLeft = server.RoomLeft
run_failure run.Memory = server.Memory

-- all jobs began and came to these ends, and these are the totals
abbrev pub HaveRun : {J O E F X : Type 0} → Result (Ran J O E F) X → Ended E F → Type 0
HaveRun (Ok ran) ended =
    (ran.ends.items ≡ map Ok ended.clients.items) × (ran.own ≡ Some ended.own) × (ran.totals.items ≡ ended.totals.items)
HaveRun (Err error) ended = ⊥

-- the ports and the totals of jobs that came to these ends, of which each worker's view may enter what the operator left,
-- and each port accepted all its connections, unless the operator asked the server to end, and what was sent
-- to the log
pub record IsPublished {P : Type 0} (terms_of : P → Terms) (slots_of : P → ℕ → Slot) (accepted_of : P → ℕ)
    (ended : Ended (Visited P) (Operated P)) (run : Run P) : Type 0 where
  pub left : History
  pub is : ended.own.left ≡ Ok left
  pub allowed : All (λ (visited : Visited P). Allows visited.view left) ended.clients.items
  pub clients : run.ports.clients.items ≡ map (λ (visited : Visited P). visited.served.port) ended.clients.items
  pub operator : run.ports.operator ≡ option_map (λ (served : Served P). served.port) ended.own.served
  pub log : run.ports.log
      ≡ those_of (map (λ (visited : Visited P). visited.served.log) ended.clients.items) ++ option_to_list (log_at ended.own.served)
  pub totals : run.totals.items ≡ ended.totals.items
  pub whole : (ended.own.ending ≡ true) ⊎ HaveAcceptedAll (passages_of terms_of slots_of accepted_of run.ports)

-- listeners were bound, `ready` was printed and nothing else, and the service was served with these totals
pub record HasServed (edges : Edges) (place : Place) (service : Service) (kept : Store) (old new : Known) (passages : Passages) (totals : List ℕ) : Type 0 where
  pub opened : IsOpen edges place
  pub served : AreTotals edges place service kept passages totals
  pub ready : IsReady old new

-- the lines of the totals were printed, whole or in part; or nothing, as memory ran out
abbrev pub PrintsLines : List (List ℕ) → List ℕ → Known → Known → Result (Unit {0}) ServerError → Type 0
PrintsLines names totals old new (Ok done) = Appends old.bytes new.bytes (totals_string names totals)
PrintsLines names totals old new (Err server.Write) = Breaks old new (totals_string names totals)
PrintsLines names totals old new (Err server.Memory) = new ≡ old
PrintsLines names totals old new (Err other) = ⊥
