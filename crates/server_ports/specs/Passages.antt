-- What passed at the ports of a server; this project's profile.
use Rattle.std.specs.Prelude.{◌≡◌, ℕ, All, IfSome, List, map, Option, option_map, Result, Ok, Err}
use Rattle.http_ports.specs.Traffic.{Slot}
use Rattle.http_ports.specs.declared.terms.Terms.{Terms}
use Rattle.http_sessions.specs.Ports.{Passage}
use Rattle.server_ports.specs.declared.ports.ServedPort.{ServedPort}
use Rattle.server_ports.specs.declared.ports.ServedPorts.{ServedPorts}

-- at each worker's port, in order; and at the operator's, if there is one
pub record Passages : Type 0 where
  pub clients : List Passage
  pub operator : Option Passage

-- a port accepted all its connections
abbrev pub HasAcceptedAll : Passage → Type 0
HasAcceptedAll passage = passage.accepted ≡ passage.terms.limit

-- each port did
pub record HaveAcceptedAll (passages : Passages) : Type 0 where
  pub clients : All HasAcceptedAll passages.clients
  pub operator : IfSome passages.operator HasAcceptedAll

-- what passed at a port, as the port knows it
abbrev pub passage_of : {P : Type 0} → (P → Terms) → (P → ℕ → Slot) → (P → ℕ) → ServedPort P → Passage
passage_of terms_of slots_of accepted_of served = record {
  terms = terms_of served.port;
  slots = slots_of served.port;
  accepted = accepted_of served.port;
  lost = served.lost;
}

-- what passed at all ports
abbrev pub passages_of : {P : Type 0} → (P → Terms) → (P → ℕ → Slot) → (P → ℕ) → ServedPorts P → Passages
passages_of {P} terms_of slots_of accepted_of served = record {
  clients = map (passage_of terms_of slots_of accepted_of) served.clients.items;
  operator = option_map (passage_of terms_of slots_of accepted_of) served.operator;
}

-- the same, of a server that gave its ports back
abbrev pub passages_in :
    {P E : Type 0} → (P → Terms) → (P → ℕ → Slot) → (P → ℕ) → Result (ServedPorts P) E → Result Passages E
passages_in terms_of slots_of accepted_of (Ok served) = Ok (passages_of terms_of slots_of accepted_of served)
passages_in terms_of slots_of accepted_of (Err error) = Err error
