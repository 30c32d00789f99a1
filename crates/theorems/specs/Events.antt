-- What can happen in a service, one event after the other. Each event is a step of one publisher, worker or operator
-- that nothing comes between; one whose condition fails changes nothing.
use Rattle.std.specs.Prelude.{ℕ, Bool, false, if◌then◌else◌, List, [], ◌∷◌, length, slice_get}
use Rattle.catalogue.specs.Histories.{History}
use Rattle.std.specs.Option.{option_map_or}
use Rattle.catalogue.specs.declared.edit.Edit.{Edit}
use Rattle.omaha_json.specs.declared.request.Request.{Request}
use Rattle.catalogue.specs.declared.mirror.Mirror.{Mirror}
use Rattle.theorems.specs.Choices.{Tables}
use Rattle.theorems.specs.Jobs.{Worker}
use Rattle.theorems.specs.Moves.{after_drop, after_entry, after_grant, after_news, after_plan, after_rejection, after_rendering, is_asking, with_pending}
use Rattle.theorems.specs.Services.{Service, changed_at, has_room, opened, published, with_budget, with_grant}

-- rule: Event
pub data Event : Type 0 where
  -- somebody who knows of so many batches publishes another one
  Publish : (known : ℕ) (batch : List Edit) → Event
  -- a worker begins a job by what is published
  Enter : (worker : ℕ) → Event
  -- a worker hears that so many batches are published
  Learn : (worker number : ℕ) → Event
  -- a worker plans the reply to a request, by rows for each of its apps
  Plan : (worker : ℕ) (request : Request) (tables : Tables) → Event
  -- a worker asks a mirror to grant bytes
  Grant : (worker mirror bytes : ℕ) → Event
  -- a worker asks a mirror, which rejects the bytes, with room for them or without
  Reject : (worker mirror bytes : ℕ) → Event
  -- a worker renders its reply
  Render : (worker moment : ℕ) → Event
  -- a worker ends its job without a reply
  Drop : (worker : ℕ) → Event
  -- a mirror's budget is raised
  Raise : (mirror bytes : ℕ) → Event

-- one worker moves
abbrev pub moved : ℕ → (Worker → Worker) → Service → Service
moved worker move service = record service { workers = changed_at worker move service.workers }

-- the worker asks the mirror for these bytes next
abbrev pub asks : List Mirror → Service → ℕ → ℕ → ℕ → Bool
asks mirrors service worker mirror bytes =
    option_map_or (is_asking mirrors mirror bytes) (slice_get service.workers worker) false

-- the mirror grants the bytes to the worker
abbrev pub granted : ℕ → ℕ → ℕ → Service → Service
granted worker mirror bytes service =
    record (moved worker (after_grant mirror bytes) service) { books = with_grant service.books mirror bytes }

-- the mirror rejects the worker's bytes
abbrev pub rejected : List Mirror → ℕ → ℕ → Service → Service
rejected mirrors worker mirror service = moved worker (with_pending (after_rejection mirrors mirror)) service

-- the mirror grants the bytes if it has room, else it rejects them
abbrev pub decided : List Mirror → ℕ → ℕ → ℕ → Service → Service
decided mirrors worker mirror bytes service =
    if has_room (service.books mirror) bytes
    then granted worker mirror bytes service
    else rejected mirrors worker mirror service

-- a machine: what becomes of a service over its mirrors by an event
abbrev pub Machine : Type 0
Machine = List Mirror → Service → Event → Service

-- the machine of the update service
abbrev pub happens : Machine
happens mirrors service (Publish known batch) = record service { history = published service.history known batch }
happens mirrors service (Enter worker) = moved worker (after_entry (length service.history)) service
happens mirrors service (Learn worker number) = moved worker (after_news (length service.history) number) service
happens mirrors service (Plan worker request tables) = moved worker (after_plan service.history request tables) service
happens mirrors service (Grant worker mirror bytes) =
    if asks mirrors service worker mirror bytes then decided mirrors worker mirror bytes service else service
happens mirrors service (Reject worker mirror bytes) =
    if asks mirrors service worker mirror bytes then rejected mirrors worker mirror service else service
happens mirrors service (Render worker moment) = moved worker (after_rendering mirrors service.history moment) service
happens mirrors service (Drop worker) = moved worker after_drop service
happens mirrors service (Raise mirror bytes) = record service { books = with_budget service.books mirror bytes }

-- the service after a list of events
abbrev pub run : Machine → List Mirror → Service → List Event → Service
run machine mirrors service [] = service
run machine mirrors service (event ∷ events) = run machine mirrors (machine mirrors service event) events

-- rule: Interleaving
-- the service after a list of events since it opened
abbrev pub service_after : Machine → List Mirror → History → ℕ → List Event → Service
service_after machine mirrors start workers events = run machine mirrors (opened mirrors start workers) events
