use Rattle.std.proofs.Common.{◌<◌, arith, length, subst}
use Rattle.server_ports.specs.Opening.{client_terms}
use Rattle.server_ports.proofs.opening.open_clients.Goals as goal

pub returns-in-Ok-clause-bound : goal.returns-in-Ok-clause-bound
returns-in-Ok-clause-bound g c =
    let first = client_terms c.args.place.now 0 0 in
    let below : 0 < length c.in_ok-terms.terms.items = omega (arith, c.in_ok-terms.ensures.many, c.args.place.now.manned.0) in
    let bound = rw c.deref.ensures.value at rw c.as_str.ensures at c.in-Ok.ensures.bound in
    subst (λ listener. (g.S.System.edges c.args.system.now).listens c.args.place.now.address listener)
    (c.in_ok-terms.ensures.listener 0 first below) (bound 0 first below)
