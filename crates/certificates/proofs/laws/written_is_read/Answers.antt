use Rattle.certificates.proofs.WrittenTrackLemmas.{written_is_read}
use Rattle.certificates.proofs.laws.written_is_read.Goals as goal

pub returns : goal.returns
returns c = written_is_read c.order.ensures.irreflexive
