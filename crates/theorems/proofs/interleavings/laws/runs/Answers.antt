use Rattle.std.proofs.Common.{refl}
use Rattle.hex.proofs.OnLiterals.{hex_on_literals}
use Rattle.cohorts.specs.CohortTexts.{parsed}
use Rattle.catalogue.specs.Forms.{hash_of}
use Rattle.catalogue.specs.Versions as version
use Rattle.theorems.proofs.interleavings.laws.runs.Goals as goal

pub returns : goal.returns
unfolding hex_on_literals version.version_of version.components_of version.lenient_version_of hash_of parsed
returns c =
    record {
      publish = record { history = refl; outcomes = refl };
      drop = record { outcomes = refl; share = refl; total = refl };
      stale = record { history = refl };
      ends = record { outcomes = refl; shares = refl; total = refl };
      raised = record { outcomes = refl; total = refl; budget = refl };
      rejected = record { outcomes = refl; shares = refl; total = refl };
      failed = record { history = refl; workers = refl; total = refl; outcomes = refl };
    }
