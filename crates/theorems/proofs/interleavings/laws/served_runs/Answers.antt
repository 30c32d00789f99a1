use Rattle.std.proofs.Common.{refl}
use Rattle.hex.proofs.OnLiterals.{hex_on_literals}
use Rattle.cohorts.specs.CohortTexts.{parsed}
use Rattle.catalogue.specs.Forms.{hash_of}
use Rattle.catalogue.specs.Versions as version
use Rattle.theorems.proofs.ProceedingsLemmas.{looked_up, made_up_totals, unpublished}
use Rattle.theorems.proofs.interleavings.laws.served_runs.Goals as goal

pub returns : goal.returns
unfolding hex_on_literals version.version_of version.components_of version.lenient_version_of hash_of parsed
returns c =
    record {
      calls = record {
        nothing = refl;
        look = refl;
        asked = refl;
        replied = refl;
        outcomes = refl;
        offers = refl;
        first = refl;
        second = refl;
      };
      run = record {
        history = refl;
        outcomes = refl;
        times = refl;
        shares = refl;
        total = refl;
        budget = refl;
      };
      held = looked_up;
      rejected = record { made_up_totals = made_up_totals; unpublished = unpublished };
    }
