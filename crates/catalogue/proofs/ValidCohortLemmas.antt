-- The test of a cohort, taken apart and put together; and what no setting changes.
use Rattle.std.proofs.Common.{◌≡◌, ◌&&◌, true, nat_le, List, refl}
use Rattle.std.proofs.lemmas.Bool.{and_from, and_parts}
use Rattle.catalogue.specs.Changes.{with_setting}
use Rattle.catalogue.specs.Forms.{is_cohort_name}
use Rattle.catalogue.specs.Limits.{max_share}
use Rattle.catalogue.specs.Validity.{is_valid_cohort, is_released}
use Rattle.catalogue.specs.declared.content.Cohort.{Cohort}
use Rattle.catalogue.specs.declared.content.Release.{Release}
use Rattle.catalogue.specs.declared.edits.cohort_settings.CohortSetting.{CohortSetting}
use Rattle.catalogue.specs.declared.edits.cohort_settings.CohortSetting.TheVariants as setting

-- what is known of a valid cohort
pub record ValidCohort (releases : List Release) (cohort : Cohort) : Type 0 where
  pub named : is_cohort_name cohort.name ≡ true
  pub shared : nat_le cohort.share max_share ≡ true
  pub target : is_released releases cohort.target ≡ true
  pub held : is_released releases cohort.held ≡ true

pub ValidCohort-from_test :
    (releases : List Release) (cohort : Cohort) →
    is_valid_cohort releases cohort ≡ true →
    ValidCohort releases cohort
ValidCohort-from_test releases cohort good =
    let rest = and_parts (is_cohort_name cohort.name && nat_le cohort.share max_share && is_released releases cohort.target) (is_released releases cohort.held) good in
    let front = and_parts (is_cohort_name cohort.name && nat_le cohort.share max_share) (is_released releases cohort.target) rest.0 in
    let named = and_parts (is_cohort_name cohort.name) (nat_le cohort.share max_share) front.0 in
    record { named = named.0; shared = named.1; target = front.1; held = rest.1 }

pub is_valid_cohort-from_parts :
    (releases : List Release) (cohort : Cohort) →
    ValidCohort releases cohort →
    is_valid_cohort releases cohort ≡ true
is_valid_cohort-from_parts releases cohort good = and_from _ _ (and_from _ _ (and_from _ _ good.named good.shared) good.target) good.held

-- a setting leaves a cohort's name
pub name-with_setting :
    (new : CohortSetting) (cohort : Cohort) → (with_setting new cohort).name ≡ cohort.name
name-with_setting (setting.Targets target held) cohort = refl
name-with_setting (setting.Share share) cohort = refl
name-with_setting (setting.Rollback on) cohort = refl
name-with_setting (setting.Open on) cohort = refl
