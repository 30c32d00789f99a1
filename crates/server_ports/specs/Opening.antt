-- The ports of a server, as they are opened; this project's profile.
use Rattle.std.specs.Prelude.{◌≡◌, ◌<◌, ◌-◌, ◌^◌, ℕ, true, false, List, codes, slice_index_or, Option, None, Some}
use Rattle.std.specs.Option.{is_some}
use Rattle.http_ports.specs.declared.terms.Terms.{Terms}
use Rattle.worker_threads.specs.Portions.{portion}
use Rattle.server_ports.specs.declared.place.Place.{Place}

-- rule: Start of a server
-- the line that says that it listens
abbrev pub ready_line : List ℕ
ready_line = codes "ready\n"

-- how many connections there are; without an end 2^64 - 1
abbrev pub limit_of : Option ℕ → ℕ
limit_of None = 2 ^ 64 - 1
limit_of (Some limit) = limit

-- the sessions that a worker serves, of all sessions of clients; without an end there is none for any worker
abbrev pub portion_at : Option ℕ → ℕ → ℕ → Option ℕ
portion_at None workers worker = None
portion_at (Some sessions) workers worker = Some (portion sessions workers worker)

-- the numbers of the clients' listener and of the operator's
abbrev pub clients_listener : ℕ
clients_listener = 0

abbrev pub operator_listener : ℕ
operator_listener = 1

-- rule: Ports of a server
-- what a worker's port serves by: its portion of the sessions, and the place's limits of time; it may hold so many
-- connections
abbrev pub client_terms : Place → ℕ → ℕ → Terms
client_terms place capacity worker = record {
  listener = clients_listener;
  capacity = capacity;
  limit = limit_of (portion_at place.sessions place.workers worker);
  message = place.seconds;
  idle = place.idle;
}

-- terms of ports, of which each worker's is of its portion
abbrev pub AreClientTerms : Place → ℕ → List Terms → Type 0
AreClientTerms place capacity terms =
    (worker : ℕ) (d : Terms) → worker < place.workers → slice_index_or terms worker d ≡ client_terms place capacity worker

-- what the operator's port serves by
abbrev pub operator_terms : Place → Terms
operator_terms place = record {
  listener = operator_listener;
  capacity = 32;
  limit = limit_of place.edits;
  message = place.seconds;
  idle = place.idle;
}

-- the operator's port, if there is to be one
abbrev pub IsOperatorsPort : Place → Option Terms → Type 0
IsOperatorsPort place None = is_some place.operator ≡ false
IsOperatorsPort place (Some terms) = (is_some place.operator ≡ true) × (terms ≡ operator_terms place)
