-- The kinds of change that an edit may make of a content, an equation each; this project's profile.
use Rattle.std.specs.Prelude.{ℕ, false, List, [], ◌∷◌, ◌++◌, None}
use Rattle.catalogue.specs.Versions.{is_below, lenient_version_of, zero_version}
use Rattle.catalogue.specs.Forms.{hash_named}
use Rattle.catalogue.specs.Lookups.{is_app, is_cohort, is_pair_below, is_release, pair_of}
use Rattle.values.specs.Lists.{change}
use Rattle.values.specs.Ordered.{put_in}
use Rattle.catalogue.specs.declared.content.App.{App}
use Rattle.catalogue.specs.declared.content.Cohort.{Cohort}
use Rattle.catalogue.specs.declared.content.Diff.{Diff}
use Rattle.catalogue.specs.declared.content.Release.{Release}
use Rattle.catalogue.specs.declared.edits.apps.AddApp.{AddApp}
use Rattle.catalogue.specs.declared.edits.cohort_settings.CohortSetting.{CohortSetting}
use Rattle.catalogue.specs.declared.edits.cohort_settings.CohortSetting.TheVariants as setting
use Rattle.catalogue.specs.declared.edits.cohorts.AddCohort.{AddCohort}
use Rattle.catalogue.specs.declared.edits.diffs.AddDiff.{AddDiff}
use Rattle.catalogue.specs.declared.edits.release_settings.ReleaseSetting.{ReleaseSetting}
use Rattle.catalogue.specs.declared.edits.release_settings.ReleaseSetting.TheVariants as release_setting
use Rattle.catalogue.specs.declared.edits.releases.AddRelease.{AddRelease}

-- a cohort at its first values: no targets, all clients at the target, no flags
abbrev pub new_cohort : List ℕ → Cohort
new_cohort name =
    record { name = name; target = None; held = None; share = 1000; rollback = false; hintable = false }

-- an app at its first values: the default cohort, no releases, no differentials
abbrev pub new_app : AddApp → App
new_app e =
    record { id = e.app; cohorts = new_cohort e.default ∷ []; releases = []; diffs = [] }

-- a release at its first values: no flags, open to all cohorts, no floor
abbrev pub new_release : AddRelease → Release
new_release e =
    record {
      version = lenient_version_of e.version;
      spelled = e.version;
      name = e.name;
      size = e.size;
      hash = hash_named e.sha256;
      stone = false;
      withdrawn = false;
      audience = None;
      floor = zero_version;
    }

-- a differential
abbrev pub new_diff : AddDiff → Diff
new_diff e =
    record {
      from = lenient_version_of e.from;
      to = lenient_version_of e.to;
      name = e.name;
      size = e.size;
      hash = hash_named e.sha256;
    }

-- releases by ascending version with one more in its place
abbrev pub placed : Release → List Release → List Release
placed release releases = put_in is_below (λ r. r.version) release releases

-- differentials by ascending pair with one more in its place
abbrev pub placed_diff : Diff → List Diff → List Diff
placed_diff diff diffs = put_in is_pair_below pair_of diff diffs

-- an app with one more release
abbrev pub with_release : Release → App → App
with_release release app = record app { releases = placed release app.releases }

-- an app with one more differential
abbrev pub with_diff : Diff → App → App
with_diff diff app = record app { diffs = placed_diff diff app.diffs }

-- an app with one more cohort, after its others
abbrev pub with_cohort : Cohort → App → App
with_cohort cohort app = record app { cohorts = app.cohorts ++ cohort ∷ [] }

-- a cohort with one of its settings replaced; both targets are one setting
abbrev pub with_setting : CohortSetting → Cohort → Cohort
with_setting (setting.Targets target held) cohort = record cohort { target = target; held = held }
with_setting (setting.Share share) cohort = record cohort { share = share }
with_setting (setting.Rollback on) cohort = record cohort { rollback = on }
with_setting (setting.Open on) cohort = record cohort { hintable = on }

-- an app with its cohort of a name changed
abbrev pub in_cohort : List ℕ → (Cohort → Cohort) → App → App
in_cohort name changed app = record app { cohorts = change (is_cohort name) changed app.cohorts }

-- a release with one of its settings replaced
abbrev pub with_release_setting : ReleaseSetting → Release → Release
with_release_setting (release_setting.Stone on) release = record release { stone = on }
with_release_setting (release_setting.Withdrawn on) release = record release { withdrawn = on }
with_release_setting (release_setting.Audience names) release = record release { audience = names }
with_release_setting (release_setting.Floor floor) release = record release { floor = floor }

-- an app with its release of a version changed
abbrev pub in_release : List ℕ → (Release → Release) → App → App
in_release version changed app = record app { releases = change (is_release version) changed app.releases }

-- the kinds of change: an app, a release, a differential or a cohort is added; or something is set of
-- the release of a version or of the cohort of a name, in the app of an identifier
pub data Change : Type 0 where
  NewApp : AddApp → Change
  NewRelease : AddRelease → Change
  NewDiff : AddDiff → Change
  NewCohort : AddCohort → Change
  SetsRelease : (id version : List ℕ) → ReleaseSetting → Change
  SetsCohort : (id name : List ℕ) → CohortSetting → Change

-- the content after a change
abbrev pub changed : Change → List App → List App
changed (NewApp e) apps = apps ++ new_app e ∷ []
changed (NewRelease e) apps = change (is_app e.app) (with_release (new_release e)) apps
changed (NewCohort e) apps = change (is_app e.app) (with_cohort (new_cohort e.cohort)) apps
changed (NewDiff e) apps = change (is_app e.app) (with_diff (new_diff e)) apps
changed (SetsRelease id version new) apps =
    change (is_app id) (in_release version (with_release_setting new)) apps
changed (SetsCohort id name new) apps = change (is_app id) (in_cohort name (with_setting new)) apps
