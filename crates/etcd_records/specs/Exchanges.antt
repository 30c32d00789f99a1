-- What was posted to etcd's servers, and what came of it; this project's profile.
use Rattle.std.specs.Prelude.{ℕ, List, Result, Ok, Err}
use Rattle.etcd_records.specs.declared.exchange.Exchange.{Exchange}
use Rattle.etcd_records.specs.declared.exchange.Outcome.{Outcome}
use Rattle.etcd_records.specs.declared.exchange.Outcome.TheVariants.{Responded, Missed}
use Rattle.etcd_records.specs.declared.gateway.Response.{Response}
use Rattle.etcd_records.specs.declared.gateway.GatewayFault.{GatewayFault}

-- what came of a request
abbrev pub outcome_of : Result Response GatewayFault → Outcome
outcome_of (Ok response) = Responded response.status response.body
outcome_of (Err fault) = Missed fault

-- a request and what came of it
abbrev pub exchange_of : List ℕ → List ℕ → Result Response GatewayFault → Exchange
exchange_of path body came = record { path = path; body = body; outcome = outcome_of came }
