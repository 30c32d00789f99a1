use Rattle.catalogue.proofs.SpellingLemmas.{lenient_version_of-plain}
use Rattle.catalogue.proofs.version_laws.spellings.Goals as goal

pub returns : goal.returns
returns c = lenient_version_of-plain
