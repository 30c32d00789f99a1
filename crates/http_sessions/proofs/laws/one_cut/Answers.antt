use Rattle.http_sessions.proofs.CutLemmas.{one_cut}
use Rattle.http_sessions.proofs.laws.one_cut.Goals as goal

pub returns : goal.returns
returns c = one_cut
