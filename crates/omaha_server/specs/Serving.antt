-- What a server does from its start to its end; this project's profile.
use Rattle.std.specs.Prelude.{◌≡◌, ◌⊎◌, ◌&&◌, ◌<◌, ℕ, Bool, true, false, nat_eq, not, List, [], codes, length, slice_index_or, Option, Some, None, Result, Ok, Err, IfErr, ⊤}
use Rattle.std.specs.Io.KnownBytes.{Appends}
use Rattle.std.specs.Option.{is_some}
use Rattle.catalogue.specs.Histories.{History}
use Rattle.http_desks.specs.Calls.{Call, Asks, Looks, Shows}
use Rattle.http_ports.specs.Rounds.{all_calls}
use Rattle.http_ports.specs.declared.terms.Terms.{Terms}
use Rattle.http_sessions.specs.Ports.{Passage}
use Rattle.kept_records.specs.declared.record.Record.{Record}
use Rattle.mirror_ledger.specs.Asks.{Ask}
use Rattle.publisher.specs.Sights.{Sight, fresh}
use Rattle.catalogue.specs.declared.mirror.Mirror.{Mirror}
use Rattle.service_desks.specs.Operators.{IsCall as IsOperatorCall}
use Rattle.service_desks.specs.Served.{IsServed}
use Rattle.service_desks.specs.States.{Publication, State, Store, publication}
use Rattle.service_desks.specs.Workers.{IsCall, Progress}
use Rattle.streams.specs.Streams.{Known}
use Rattle.streams.specs.Writing.{Breaks}
use Rattle.replies.specs.Asking.{GrantsFirst}
use Rattle.systems.specs.Capacities.{IsCapacity}
use Rattle.systems.specs.Edges.{Edges}
use Rattle.omaha_server.specs.Checks.{ChecksCall, IsStopped, LeadsPast, sizes_at}
use Rattle.server_ports.specs.Logging.{is_dash}
use Rattle.server_ports.specs.Errors.{IsUnlogged}
use Rattle.server_ports.specs.Opening.{IsOperatorsPort, client_terms}
use Rattle.omaha_server.specs.Outcomes.{status_word, stop_word}
use Rattle.server_ports.specs.Passages.{HaveAcceptedAll, Passages}
use Rattle.server_ports.specs.Served.{IsServedPort}
use Rattle.server_ports.specs.Starts.{IsOpen, IsReady, Stops}
use Rattle.omaha_server.specs.Showing.{ShowsPage, ShowsStatus}
use Rattle.omaha_server.specs.Overviews.{IsUnmoved, Overview, counts_after, has_published, overview_at, publishes_after}
use Rattle.omaha_server.specs.Stopping.{IsEnding}
use Rattle.service_desks.specs.Totals.{names_of, totals_string}
use Rattle.server_ports.specs.declared.error.ServerError.{ServerError}
use Rattle.server_ports.specs.declared.error.ServerError.TheVariants as server
use Rattle.server_ports.specs.declared.place.Place.{Place}
use Rattle.service_desks.specs.declared.services.service.Service.{Service}

-- the path of update checks, and the type of a reply
abbrev pub desk_path : List ℕ
desk_path = codes "/service/update2/json"

abbrev pub desk_type : List ℕ
desk_type = codes "application/json"

-- a worker is single: the only one, without an operator who may raise budgets
abbrev pub is_single : Bool → ℕ → Bool
is_single operated workers = not operated && nat_eq workers 1

-- a call of a worker's desk; if the worker is single, each new ask is granted by the first mirror with room
abbrev pub DeskSteps : Bool → List Mirror → Progress → Call → Progress → Type 0
DeskSteps single mirrors before call after =
    IsCall mirrors before call after × (single ≡ true → GrantsFirst mirrors before.asks after.asks)

-- a worker served a port of these terms to its end: what was sent on each connection is the replies to the messages that
-- were received on it. The worker's view begins as it was, and has asked for nothing before. Each reply is that of the
-- one history that the view then holds, by what the mirrors granted.
abbrev pub IsWorkersPort : Edges → Place → Terms → Bool → List Mirror → Sight → Progress → Passage → Type 0
IsWorkersPort edges place terms single mirrors sight after passage =
    IsServedPort edges place desk_path desk_type (DeskSteps single mirrors) (record { sight = sight; asks = [] }) after terms
    passage

-- rule: Sessions of a server
-- a worker served its port so, by these calls of its desk, and asked for this
pub record AreServed (edges : Edges) (place : Place) (terms : Terms) (single : Bool) (mirrors : List Mirror) (sight : Sight)
    (calls : List Call) (asks : List Ask) (passage : Passage) : Type 0 where
  pub left : Sight
  pub served : IsWorkersPort edges place terms single mirrors sight (record { sight = left; asks = asks }) passage
  pub called : all_calls served.talked.2.rounds ≡ calls

-- the path of the operator's desk, and the type of its replies
abbrev pub operator_path : List ℕ
operator_path = codes "/operate"

abbrev pub operator_type : List ℕ
operator_type = codes "text/plain"

-- a call at the operator's port for which the operator's desk isn't asked: it asks for the status or for a page, asks the
-- server to end, or its packages aren't there and must exist
abbrev pub IsPassed : Edges → Place → Overview → Call → Overview → Type 0
IsPassed edges place before (Asks body moment answer) after =
    ((body ≡ status_word) × ShowsStatus place.version before answer × IsUnmoved before after)
    ⊎ ((body ≡ stop_word) × IsEnding before answer after)
    ⊎ ((place.packages_must_exist ≡ true) × IsStopped (sizes_at edges place) (Asks body moment answer) × IsUnmoved before after)
IsPassed edges place before (Looks name found) after = ⊥
IsPassed edges place before (Shows at page) after = ShowsPage place.version before at page × IsUnmoved before after

-- a call for which it is asked
abbrev pub IsAsked : Overview → Call → Overview → Type 0
IsAsked before call after = IsOperatorCall before.state call after.state × (after.ending ≡ before.ending)

-- a call at the operator's port, whose desk is asked for what doesn't pass it; each is counted, and a publish noted
abbrev pub OperatorSteps : Edges → Place → Overview → Call → Overview → Type 0
OperatorSteps edges place before call after =
    ChecksCall (IsPassed edges place) place.packages_must_exist (sizes_at edges place) IsAsked before call after
    × (after.counts ≡ counts_after call (has_published before.state after.state) before.counts)
    × (after.publishes ≡ publishes_after call (has_published before.state after.state) after.state before.publishes)

-- rule: Sessions of an operator
-- a port of these terms was served to its end by the operator's desk, from a published history and the mirrors with
-- their budgets to those that its calls lead to
abbrev pub AreOperated : Edges → Place → Terms → Overview → Overview → Passage → Type 0
AreOperated edges place terms before after passage =
    IsServedPort edges place operator_path operator_type (OperatorSteps edges place) before after terms passage

-- the same, and these are the calls for which the desk was asked, if there is a port for the operator; without one there is
-- no call, nothing is published, no budget raised, and the server is not asked to end
abbrev pub IsOperated : Edges → Place → Option Terms → Overview → List Call → Overview → Option Passage → Type 0
IsOperated edges place None before calls after None = (calls ≡ []) × (after ≡ before)
IsOperated edges place None before calls after (Some passage) = ⊥
IsOperated edges place (Some terms) before calls after None = ⊥
IsOperated edges place (Some terms) before calls after (Some passage) =
    (served : AreOperated edges place terms before after passage)
    × LeadsPast (IsPassed edges place) place.packages_must_exist (sizes_at edges place) IsAsked before (all_calls served.talked.2.rounds)
    calls after

-- a press and records as they are when the operator begins: nothing is due
abbrev pub begun : History → ℕ → List Record → Publication
begun history first records = publication history first records None

-- the state of mirrors and a publication
abbrev pub with_mirrors : List Mirror → Publication → State
with_mirrors mirrors published = record { mirrors = mirrors; history = published.history; store = published.store }

-- what the operator of a service begins with: its edition, its mirrors, and what is kept
abbrev pub state_of : Service → Store → State
state_of service kept = record { mirrors = service.mirrors; history = service.edition; store = kept }

-- rule: Totals of a server
-- what was done at the ports is a run of the service, from its edition and from what was kept: each worker served a port
-- with its portion of the sessions, that held as many connections of the place's as the system allows, with a view that had
-- seen that edition; the operator's port was served, if there is an operator; each worker's view may enter what is left;
-- the totals are the sums of what the workers asked for, each within the budget that its mirror has after the operator's
-- last connection; what was rejected had no room; and each port accepted all its connections, unless the operator asked the
-- server to end
pub record AreTotals (edges : Edges) (place : Place) (service : Service) (kept : Store) (passages : Passages) (totals : List ℕ) : Type 0 where
  pub calls : List (List Call)
  pub operator_calls : List Call
  pub left : Overview
  pub run : IsServed service.mirrors service.edition kept
      (record { workers = calls; operator = operator_calls; totals = totals }) left.state
  pub many : length calls ≡ place.workers
  pub ports : length passages.clients ≡ place.workers
  pub capacity : ℕ
  pub held : IsCapacity edges place.connections place.workers capacity
  pub served : (worker : ℕ) (c : List Call) (a : List Ask) (p : Passage) → worker < place.workers →
      AreServed edges place (client_terms place capacity worker) (is_single (is_some place.operator) place.workers)
      service.mirrors (fresh service.edition) (slice_index_or calls worker c) (slice_index_or run.asks worker a)
      (slice_index_or passages.clients worker p)
  pub operator : Option Terms
  pub port : IsOperatorsPort place operator
  pub started : ℕ
  pub operated : IsOperated edges place operator (overview_at started (state_of service kept)) operator_calls left passages.operator
  pub whole : (left.ending ≡ true) ⊎ HaveAcceptedAll passages

-- the log of that path was opened, or the server ended before
abbrev pub IsOpened : {A : Type 0} → Edges → List ℕ → Result A ServerError → Type 0
IsOpened edges path (Err server.Log) = ⊤
IsOpened edges path other = edges.logs path

-- the log that was asked for was opened first; what could not be opened is one that was asked for, and a file
abbrev pub IsLogged : {A : Type 0} → Edges → Option (List ℕ) → Result A ServerError → Type 0
IsLogged edges (Some path) result =
    (is_dash path ≡ true → IfErr result IsUnlogged) × (is_dash path ≡ false → IsOpened edges path result)
IsLogged edges None result = IfErr result IsUnlogged

-- the ports were given back, and the lines of the totals were written; or a first part of them
abbrev pub PrintsTotals : List Mirror → List ℕ → Passages → Known → Known → Result Passages ServerError → Type 0
PrintsTotals mirrors totals passages old new (Ok given) =
    (given ≡ passages) × Appends old.bytes new.bytes (totals_string (names_of mirrors) totals)
PrintsTotals mirrors totals passages old new (Err error) =
    (error ≡ server.Write) × Breaks old new (totals_string (names_of mirrors) totals)

-- there was the folder of the place, listeners were bound to its addresses, their sessions were served after `ready`,
-- and the totals printed after them, whole or not
pub record ServesToEnd (edges : Edges) (place : Place) (service : Service) (kept : Store) (old new : Known) (result : Result Passages ServerError) : Type 0 where
  pub opened : IsOpen edges place
  pub passages : Passages
  pub totals : List ℕ
  pub served : AreTotals edges place service kept passages totals
  pub between : Known
  pub ready : IsReady old between
  pub printed : PrintsTotals service.mirrors totals passages between new result

-- rule: Run of a server
-- a server served to its end, and gave its ports back; or it ended before
abbrev pub Serves : Edges → Place → Service → Store → Known → Known → Result Passages ServerError → Type 0
Serves edges place service kept old new result =
    ServesToEnd edges place service kept old new result
    ⊎ ((error : ServerError) × (result ≡ Err error) × Stops edges place old new error)
