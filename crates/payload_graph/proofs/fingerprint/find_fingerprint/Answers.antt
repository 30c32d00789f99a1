use Rattle.std.proofs.Common.{sym, ◌∙◌}
use Rattle.catalogue.specs.Lookups.{releases_at}
use Rattle.payload_graph.proofs.FingerprintLemmas.{position-has_hash, position-no_fingerprint}
use Rattle.payload_graph.proofs.fingerprint.find_fingerprint.Goals as goal

pub returns-in_err-hash : goal.returns-in_err-hash
returns-in_err-hash c =
    rw c.from_residual.ensures
    (sym (position-no_fingerprint c.args.catalogue.now c.args.app c.args.fp.now c.validity.ensures c.in_err-hash.ensures))

pub returns : goal.returns
returns c =
    c.find_hash.ensures
    ∙ position-has_hash c.args.fp.now c.in_ok-hash.hash (releases_at c.args.catalogue.now c.args.app) c.in_ok-hash.ensures
