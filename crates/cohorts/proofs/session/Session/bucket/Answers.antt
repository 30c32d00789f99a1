use Rattle.cohorts.proofs.BucketLemmas.{known_bucket-small, session_bucket-small}
use Rattle.cohorts.proofs.session.Session.bucket.Goals as goal

pub returns-in-Some-clause-small : goal.returns-in-Some-clause-small
returns-in-Some-clause-small c =
    known_bucket-small c.self.inside.text.now c.self.inside.bucket c.in-Some.bucket c.self.invariant c.in-Some.is

pub returns-clause-small : goal.returns-clause-small
returns-clause-small c =
    rw c.hash_session-bucket.ensures (session_bucket-small c.self.inside.text.now)
