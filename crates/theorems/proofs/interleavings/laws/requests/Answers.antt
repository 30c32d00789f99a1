use Rattle.theorems.proofs.EventRequestLemmas.{jobs_go_by_what_is_published, replies_are_to_given_requests}
use Rattle.theorems.proofs.interleavings.laws.requests.Goals as goal

pub returns : goal.returns
returns c = record { given = replies_are_to_given_requests; entries = jobs_go_by_what_is_published }
