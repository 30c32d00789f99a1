use Rattle.std.proofs.Common.{◌%◌, take, ap, ◌∙◌}
use Rattle.std.specs.Int.{w32, from_be_bytes}
use Rattle.cohorts.specs.Tracks.{session_bucket}
use Rattle.cohorts.proofs.BucketLemmas.{from_be_bytes-take}
use Rattle.cohorts.proofs.session.hash_session.Goals as goal

pub returns : goal.returns
unfolding session_bucket
returns c =
    let digest = rw c.as_bytes.ensures.value at c.digest-digest.ensures in
    ap (λ number. number % 1000)
    (c.from_be_bytes-number.ensures
    ∙ from_be_bytes-take c.digest-digest.result
    ∙ ap (λ bytes. from_be_bytes w32 (take 4 bytes)) digest)
