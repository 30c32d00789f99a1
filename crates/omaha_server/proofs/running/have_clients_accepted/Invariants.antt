-- The ports so far accepted all their connections.
use Rattle.std.proofs.Common.{◌<◌, ℕ, get_or, map}
use Rattle.http_sessions.specs.Ports.{Passage}
use Rattle.server_ports.specs.Passages.{HasAcceptedAll, passage_of}
use Rattle.omaha_server.proofs.running.have_clients_accepted.Given as goal

abbrev pub invariant-loop-index : goal.invariant-loop-index
invariant-loop-index g l = (k : ℕ) (d : Passage) → k < l.index →
    HasAcceptedAll (get_or (map (passage_of g.P.Port.terms g.P.Port.slots g.P.Port.accepted) l.ports) k d)
