use Rattle.certificates.proofs.BackLemmas.{read_body-back}
use Rattle.certificates.proofs.laws.read_is_written.Goals as goal

pub returns : goal.returns
returns c = read_body-back
