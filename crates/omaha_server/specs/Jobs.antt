-- The jobs of a server's threads.
use Rattle.std.specs.Prelude.{◌≡◌, ◌&&◌, ℕ, All, List, Option, length, map}
use Rattle.std.specs.Option.{is_some}
use Rattle.http_ports.specs.declared.terms.Terms.{Terms}
use Rattle.access_logs.specs.Queues.{Sending}
use Rattle.publisher.specs.Sights.{Sight, fresh}
use Rattle.systems.specs.Capacities.{IsCapacity}
use Rattle.systems.specs.Edges.{Edges}
use Rattle.server_ports.specs.Opening.{AreClientTerms, IsOperatorsPort}
use Rattle.omaha_server.specs.OperatorPorts.{has_operator, terms_left}
use Rattle.omaha_server.specs.declared.clients.Clients.{Clients}
use Rattle.omaha_server.specs.declared.operating.Operating.{Operating}
use Rattle.server_ports.specs.declared.setup.Setup.{Setup}

-- a worker's job, with a view
pub record IsClients {S R P O : Type 0} (setup : Setup S R) (sight : Sight) (clients : Clients S R P O) : Type 0 where
  pub with : clients.setup.now ≡ setup
  pub by : clients.view ≡ sight

-- the jobs are those of all workers of a setup, each with its port, and that of its operator, with a press whose history
-- each worker's view has seen
pub record IsManned {S R P K O : Type 0} (edges : Edges) (terms_of : P → Terms) (setup : Setup S R)
    (jobs : List (Clients S R P O)) (own : Operating S R P K O) : Type 0 where
  pub many : length jobs ≡ setup.place.now.workers
  pub capacity : ℕ
  pub held : IsCapacity edges setup.place.now.connections setup.place.now.workers capacity
  pub ports : AreClientTerms setup.place.now capacity (map terms_of (map (λ (job : Clients S R P O). job.port) jobs))
  pub each : All (IsClients setup (fresh own.press)) jobs
  pub with : own.setup.now ≡ setup
  pub operates : has_operator own.port ≡ is_some setup.place.now.operator
  pub port : IsOperatorsPort setup.place.now (terms_left terms_of own.port)
  pub lined : All (λ (line : Option Sending). is_some line ≡ is_some setup.place.now.log)
      (map (λ (job : Clients S R P O). job.lines) jobs)
  pub own_lined : is_some own.lines ≡ (is_some setup.place.now.log && is_some setup.place.now.operator)
