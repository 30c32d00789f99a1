-- The test of a release, taken apart and put together; and what no setting changes.
use Rattle.std.proofs.Common.{◌≡◌, ◌&&◌, ℕ, true, List, Option, refl}
use Rattle.std.proofs.lemmas.Bool.{and_from, and_parts}
use Rattle.catalogue.specs.Changes.{with_release_setting}
use Rattle.catalogue.specs.Forms.{is_hash, is_package_name, is_size}
use Rattle.catalogue.specs.Lookups.{full_package}
use Rattle.catalogue.specs.Validity.{is_valid_audience, is_valid_release, spells}
use Rattle.catalogue.specs.declared.content.Cohort.{Cohort}
use Rattle.catalogue.specs.declared.content.Release.{Release}
use Rattle.catalogue.specs.declared.edits.release_settings.ReleaseSetting.{ReleaseSetting}
use Rattle.catalogue.specs.declared.edits.release_settings.ReleaseSetting.TheVariants as setting

-- what is known of a valid release
pub record ValidRelease (cohorts : List Cohort) (release : Release) : Type 0 where
  pub spelled : spells release.spelled release.version ≡ true
  pub named : is_package_name release.name ≡ true
  pub sized : is_size release.size ≡ true
  pub hashed : is_hash release.hash ≡ true
  pub heard : is_valid_audience cohorts release.audience ≡ true

pub ValidRelease-from_test :
    (cohorts : List Cohort) (release : Release) → is_valid_release cohorts release ≡ true →
    ValidRelease cohorts release
ValidRelease-from_test cohorts release good =
    let rest = and_parts (spells release.spelled release.version && is_package_name release.name && is_size release.size && is_hash release.hash) (is_valid_audience cohorts release.audience) good in
    let hashed = and_parts (spells release.spelled release.version && is_package_name release.name && is_size release.size) (is_hash release.hash) rest.0 in
    let sized = and_parts (spells release.spelled release.version && is_package_name release.name) (is_size release.size) hashed.0 in
    let named = and_parts (spells release.spelled release.version) (is_package_name release.name) sized.0 in
    record { spelled = named.0; named = named.1; sized = sized.1; hashed = hashed.1; heard = rest.1 }

-- a release with a valid audience in the place of its own
pub is_valid_release-audience :
    (cohorts : List Cohort) (names : Option (List (List ℕ))) → is_valid_audience cohorts names ≡ true →
    (release : Release) → is_valid_release cohorts release ≡ true →
    is_valid_release cohorts (record release { audience = names }) ≡ true
is_valid_release-audience cohorts names known release good =
    let rest = and_parts (spells release.spelled release.version && is_package_name release.name && is_size release.size && is_hash release.hash) (is_valid_audience cohorts release.audience) good in
    and_from _ _ rest.0 known

-- a setting leaves a release's version, hash and package
pub version-with_release_setting :
    (new : ReleaseSetting) (release : Release) → (with_release_setting new release).version ≡ release.version
version-with_release_setting (setting.Stone on) release = refl
version-with_release_setting (setting.Withdrawn on) release = refl
version-with_release_setting (setting.Audience names) release = refl
version-with_release_setting (setting.Floor floor) release = refl

pub hash-with_release_setting :
    (new : ReleaseSetting) (release : Release) → (with_release_setting new release).hash ≡ release.hash
hash-with_release_setting (setting.Stone on) release = refl
hash-with_release_setting (setting.Withdrawn on) release = refl
hash-with_release_setting (setting.Audience names) release = refl
hash-with_release_setting (setting.Floor floor) release = refl

pub full_package-with_release_setting :
    (new : ReleaseSetting) (release : Release) →
    full_package (with_release_setting new release) ≡ full_package release
full_package-with_release_setting (setting.Stone on) release = refl
full_package-with_release_setting (setting.Withdrawn on) release = refl
full_package-with_release_setting (setting.Audience names) release = refl
full_package-with_release_setting (setting.Floor floor) release = refl
