-- The terms of the workers so far.
use Rattle.std.proofs.Common.{◌≡◌, ◌<◌, ℕ, All, get_or, length}
use Rattle.http_ports.specs.declared.terms.Terms.{Terms}
use Rattle.server_ports.specs.Opening.{client_terms, clients_listener}
use Rattle.server_ports.proofs.terms.all_terms.Given as goal

abbrev pub invariant-loop-worker : goal.invariant-loop-worker
invariant-loop-worker l =
    (length l.terms.items ≡ l.worker)
    × ((worker : ℕ) (d : Terms) → worker < l.worker → get_or l.terms.items worker d ≡ client_terms l.place l.capacity worker)
    × All (λ t. t.listener ≡ clients_listener) l.terms.items
