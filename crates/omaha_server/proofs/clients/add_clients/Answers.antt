use Rattle.std.proofs.Common.{◌∙◌, [], ◌∷◌, ◌++◌, ap, map}
use Rattle.std.proofs.lemmas.List.{map-append}
use Rattle.std.proofs.lemmas.List.Elements.{All-push}
use Rattle.omaha_server.specs.Jobs.{IsClients}
use Rattle.omaha_server.proofs.clients.add_clients.Goals as goal

pub returns-clause-ports : goal.returns-clause-ports
returns-clause-ports g c =
    let jobs = c.args.jobs.now.items in
    let made = c.in_ok-clients.clients in
    rw c.in_ok-push.ensures.items
    (map-append (λ job. job.port) jobs (made ∷ []) ∙ ap (λ port. map (λ job. job.port) jobs ++ port ∷ []) c.in_ok-clients.ensures.port)

pub returns-clause-lines : goal.returns-clause-lines
returns-clause-lines g c =
    let jobs = c.args.jobs.now.items in
    let made = c.in_ok-clients.clients in
    rw c.in_ok-push.ensures.items
    (map-append (λ job. job.lines) jobs (made ∷ []) ∙ ap (λ lines. map (λ job. job.lines) jobs ++ lines ∷ []) c.in_ok-clients.ensures.lines)

pub returns-clause-clients : goal.returns-clause-clients
returns-clause-clients g c = λ all.
    rw c.in_ok-push.ensures.items
    (All-push (IsClients c.args.setup.now c.args.view) c.args.jobs.now.items c.in_ok-clients.clients all c.in_ok-clients.ensures.clients)
