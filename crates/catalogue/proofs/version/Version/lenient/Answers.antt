use Rattle.catalogue.proofs.SpellingLemmas.{lenient_version_of-unwrap_or}
use Rattle.catalogue.proofs.version.Version.lenient.Goals as goal

pub returns : goal.returns
returns c =
    let whole = lenient_version_of-unwrap_or c.args.text.now 1 in
    cc
