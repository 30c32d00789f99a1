use Rattle.std.proofs.Common.{◌≡◌, length, Some, refl, rules}
use Rattle.std.specs.List.{slice_get}
use Rattle.std.proofs.lemmas.Option.{slice_get_read}
use Rattle.catalogue.specs.Lookups.{releases_at}
use Rattle.payload_graph.proofs.FingerprintLemmas.{position-fingerprint}
use Rattle.payload_graph.proofs.fingerprint.find_installed.Goals as goal

pub returns-then-is_of : goal.returns-then-is_of
returns-then-is_of c =
    let content = c.args.catalogue.now in
    let index = c.in_ok-index.index in
    let release = c.in_ok-release.release.now in
    let releases = releases_at content c.args.app in
    let there : slice_get releases index ≡ Some release =
    slice_get_read releases (length releases) index release refl (search rules) (search rules) in
    position-fingerprint content c.args.app index release c.args.fp.now c.validity.ensures there (search rules)
