-- What is known of a setting that a release may be given.
use Rattle.std.proofs.Common.{◌≡◌, ℕ, true, false, not, List, Some, None, refl}
use Rattle.std.specs.Option.{is_none}
use Rattle.catalogue.specs.Versions.{lenient_version_of, version_of}
use Rattle.catalogue.proofs.AcceptedLemmas.{NoneHold-first_fault, Some-from_not_none, true-from_not}
use Rattle.catalogue.proofs.ValidReleaseLemmas.{is_valid_release-audience}
use Rattle.catalogue.specs.Changes.{with_release_setting}
use Rattle.catalogue.specs.Edits.ReleaseSettings.{tests_of_set_audience, tests_of_set_floor, tests_of_set_stone, tests_of_set_withdrawn}
use Rattle.catalogue.specs.Faults.{first_fault}
use Rattle.catalogue.specs.Lookups.{app_of, has_release, releases_of}
use Rattle.catalogue.specs.Validity.{is_valid_release}
use Rattle.catalogue.specs.declared.content.App.{App}
use Rattle.catalogue.specs.declared.content.Release.{Release}
use Rattle.catalogue.specs.declared.edits.release_settings.ReleaseSetting.{ReleaseSetting}
use Rattle.catalogue.specs.declared.edits.release_settings.ReleaseSetting.TheVariants as setting
use Rattle.catalogue.specs.declared.edits.release_settings.SetAudience.{SetAudience}
use Rattle.catalogue.specs.declared.edits.release_settings.SetFloor.{SetFloor}
use Rattle.catalogue.specs.declared.edits.release_settings.SetStone.{SetStone}
use Rattle.catalogue.specs.declared.edits.release_settings.SetWithdrawn.{SetWithdrawn}

-- the release that an edit names is there, in its app
pub record NamesRelease (apps : List App) (id version : List ℕ) : Type 0 where
  pub app : App
  pub found : app_of apps id ≡ Some app
  pub there : has_release app.releases version ≡ true

NamesRelease-from_tests :
    (apps : List App) (id version : List ℕ) → is_none (app_of apps id) ≡ false →
    not (has_release (releases_of apps id) version) ≡ false → NamesRelease apps id version
NamesRelease-from_tests apps id version known there =
    let some = Some-from_not_none (app_of apps id) known in
    let found = some.1 in
    record { app = some.0; found = found; there = true-from_not _ (rw found at there) }

-- a floor that is set is a version that some string of a publisher spells
abbrev pub IsSpelledFloor : ReleaseSetting → Type 0
IsSpelledFloor (setting.Floor floor) =
    (text : List ℕ) × (is_none (version_of text) ≡ false) × (floor ≡ lenient_version_of text)
IsSpelledFloor new = Unit {0}

-- an accepted setting: the release is there, and stays valid with it
pub record TakesReleaseSetting (apps : List App) (id version : List ℕ) (new : ReleaseSetting) : Type 0 where
  pub names : NamesRelease apps id version
  pub keeps :
      (release : Release) → is_valid_release names.app.cohorts release ≡ true →
      is_valid_release names.app.cohorts (with_release_setting new release) ≡ true
  pub spelled : IsSpelledFloor new

pub TakesReleaseSetting-set_stone :
    (apps : List App) (e : SetStone) → first_fault (tests_of_set_stone apps e) ≡ None →
    TakesReleaseSetting apps e.app (lenient_version_of e.version) (setting.Stone e.on)
TakesReleaseSetting-set_stone apps e h =
    let tests = NoneHold-first_fault (tests_of_set_stone apps e) h in
    record {
      names = NamesRelease-from_tests apps e.app (lenient_version_of e.version) tests.0 tests.1.1.0;
      keeps = λ release good. good;
      spelled = tt;
    }

pub TakesReleaseSetting-set_withdrawn :
    (apps : List App) (e : SetWithdrawn) → first_fault (tests_of_set_withdrawn apps e) ≡ None →
    TakesReleaseSetting apps e.app (lenient_version_of e.version) (setting.Withdrawn e.on)
TakesReleaseSetting-set_withdrawn apps e h =
    let tests = NoneHold-first_fault (tests_of_set_withdrawn apps e) h in
    record {
      names = NamesRelease-from_tests apps e.app (lenient_version_of e.version) tests.0 tests.1.1.0;
      keeps = λ release good. good;
      spelled = tt;
    }

pub TakesReleaseSetting-set_audience :
    (apps : List App) (e : SetAudience) → first_fault (tests_of_set_audience apps e) ≡ None →
    TakesReleaseSetting apps e.app (lenient_version_of e.version) (setting.Audience e.cohorts)
TakesReleaseSetting-set_audience apps e h =
    let tests = NoneHold-first_fault (tests_of_set_audience apps e) h in
    let names = NamesRelease-from_tests apps e.app (lenient_version_of e.version) tests.0 tests.1.1.0 in
    let found = names.found in
    record {
      names = names;
      keeps = is_valid_release-audience names.app.cohorts e.cohorts (true-from_not _ (rw found at tests.1.1.1.0));
      spelled = tt;
    }

pub TakesReleaseSetting-set_floor :
    (apps : List App) (e : SetFloor) → first_fault (tests_of_set_floor apps e) ≡ None →
    TakesReleaseSetting apps e.app (lenient_version_of e.version) (setting.Floor (lenient_version_of e.floor))
TakesReleaseSetting-set_floor apps e h =
    let tests = NoneHold-first_fault (tests_of_set_floor apps e) h in
    record {
      names = NamesRelease-from_tests apps e.app (lenient_version_of e.version) tests.0 tests.1.1.1.0;
      keeps = λ release good. good;
      spelled = (e.floor, tests.1.1.0, refl);
    }
