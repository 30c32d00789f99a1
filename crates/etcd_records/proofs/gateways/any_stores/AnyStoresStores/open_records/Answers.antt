use Rattle.std.proofs.Common.{◌≡◌, MatchOption, MatchResult, None, Err, Ok, Some, refl, subst}
use Rattle.etcd_records.specs.Paths.{etcd_path_in, parts_of}
use Rattle.etcd_records.proofs.gateways.any_stores.AnyStoresStores.open_records.Goals as goal

pub returns-in-Ok-clause-found : goal.returns-in-Ok-clause-found
returns-in-Ok-clause-found g c =
    let path = c.args.path.now in
    let opened = c.in-Ok.ensures.opened in
    let known = c.in-Ok.ensures.known in
    let came : c.parse_etcd_path.result ≡ Some (Ok c.in-Some-Ok.parts) = search in
    let there : etcd_path_in path ≡ Some (Ok (parts_of c.in-Some-Ok.parts)) =
    subst (λ read. MatchOption read (etcd_path_in path ≡ None)
    (λ parsed. MatchResult parsed (λ parts. etcd_path_in path ≡ Some (Ok (parts_of parts))) (λ why. etcd_path_in path ≡ Some (Err why))))
    came c.parse_etcd_path.ensures in
    rw there (refl, (c.in-Ok.records.gateway.exchanges, rw (← known) opened.shown, rw (← known) opened.all))
