use Rattle.std.proofs.Common.{refl}
use Rattle.hex.proofs.OnLiterals.{hex_on_literals}
use Rattle.cohorts.specs.CohortTexts.{parsed}
use Rattle.catalogue.specs.Forms.{hash_of}
use Rattle.catalogue.specs.Versions as version
use Rattle.theorems.proofs.interleavings.laws.larger_runs.Goals as goal

pub returns : goal.returns
unfolding hex_on_literals version.version_of version.components_of version.lenient_version_of hash_of parsed version.client_version_of
returns c =
    record {
      second = record { offers = refl; first = refl; second = refl };
      apps = record { outcomes = refl; offers = refl; total = refl };
      differential = record { outcomes = refl; offers = refl };
      pin = record { offers = refl };
      heard = record { seen = refl; outcomes = refl };
    }
