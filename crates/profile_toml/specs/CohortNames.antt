-- The set of names beside the cohorts that were read; private to this crate.
use Rattle.std.specs.Prelude.{◌≡◌, ℕ, List, String}
use Rattle.std.specs.BTreeSet.{BTreeSet, contains_text}
use Rattle.std.specs.List.{list_any}
use Rattle.std.specs.declared.alloc.Global.{Global}
use Rattle.profile_toml.specs.Cohorts.{is_named}
use Rattle.profile_toml.specs.declared.cohort.CohortEntry.{CohortEntry}

-- the set has the names of the cohorts, and no other
abbrev pub AreNames : BTreeSet (String Global) → List CohortEntry → Type 0
AreNames names cohorts =
    (name : List ℕ) → contains_text names name ≡ list_any (is_named name) cohorts
