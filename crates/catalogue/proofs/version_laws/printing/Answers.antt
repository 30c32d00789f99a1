use Rattle.catalogue.proofs.ReadingBackLemmas.{lenient_version_of-printed, version_of-printed}
use Rattle.catalogue.proofs.version_laws.printing.Goals as goal

pub returns : goal.returns
returns c = record { lenient = lenient_version_of-printed; plain = version_of-printed }
