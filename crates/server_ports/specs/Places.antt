-- The ports of a server's place; this project's profile.
use Rattle.std.specs.Prelude.{◌≡◌, ℕ, All, IfSome, length, map, option_map}
use Rattle.http_ports.specs.Traffic.{Slot}
use Rattle.http_ports.specs.declared.terms.Terms.{Terms}
use Rattle.server_ports.specs.Opening.{AreClientTerms, IsOperatorsPort}
use Rattle.systems.specs.Capacities.{IsCapacity}
use Rattle.systems.specs.Edges.{Edges}
use Rattle.systems.specs.NewPorts.{IsNew}
use Rattle.server_ports.specs.declared.opening.Ports.{Ports}
use Rattle.server_ports.specs.declared.place.Place.{Place}

-- the ports are new, one for each worker, with its portion, and one for the operator if there is one
pub record ArePorts {P : Type 0} (edges : Edges) (terms_of : P → Terms) (slots_of : P → ℕ → Slot) (accepted_of : P → ℕ)
    (IsOver : P → Type 0) (place : Place) (ports : Ports P) : Type 0 where
  pub many : length ports.clients.items ≡ place.workers
  pub capacity : ℕ
  pub held : IsCapacity edges place.connections place.workers capacity
  pub terms : AreClientTerms place capacity (map terms_of ports.clients.items)
  pub new : All (IsNew terms_of slots_of accepted_of IsOver) ports.clients.items
  pub port : IsOperatorsPort place (option_map terms_of ports.operator)
  pub operator : IfSome ports.operator (IsNew terms_of slots_of accepted_of IsOver)
