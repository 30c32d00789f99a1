-- The edits that make a content anew, in the order of a profile; this project's profile.
use Rattle.std.specs.Prelude.{◌≡◌, ℕ, ◌==◌, ◌||◌, true, List, [], ◌∷◌, ◌++◌, drop, find, map, if◌then◌else◌, is_some, option_map, Ok}
use Rattle.std.specs.List.{flat_map}
use Rattle.std.specs.Option.{option_map_or}
use Rattle.std.specs.Str.{bytes_eq}
use Rattle.hex.specs.Hex.{encode_lower}
use Rattle.catalogue.specs.Versions.{printed, zero_version}
use Rattle.catalogue.specs.Batches.{outcome}
use Rattle.catalogue.specs.Limits.{max_share}
use Rattle.catalogue.specs.Lookups.{is_release}
use Rattle.catalogue.specs.Validity.{IsValid}
use Rattle.catalogue.specs.declared.content.App.{App}
use Rattle.catalogue.specs.declared.content.Cohort.{Cohort}
use Rattle.catalogue.specs.declared.content.Diff.{Diff}
use Rattle.catalogue.specs.declared.content.Release.{Release}
use Rattle.catalogue.specs.declared.edit.Edit.{Edit}
use Rattle.catalogue.specs.declared.edit.Edit.TheVariants as edit

-- the name of the default cohort, the first
abbrev pub default_name : List Cohort → List ℕ
default_name [] = []
default_name (default ∷ others) = default.name

-- how the release of a version is spelled
abbrev pub spelling_of : List Release → List ℕ → List ℕ
spelling_of releases version = option_map_or (λ release. release.spelled) (find (is_release version) releases) []

-- a cohort is added
abbrev pub edit_of_cohort : App → Cohort → Edit
edit_of_cohort app cohort = edit.AddCohort (record { app = app.id; cohort = cohort.name })

-- a release is added
abbrev pub edit_of_release : App → Release → Edit
edit_of_release app release =
    edit.AddRelease
    (record {
      app = app.id;
      version = release.spelled;
      name = release.name;
      size = release.size;
      sha256 = encode_lower release.hash;
    })

-- a release's stone flag is set, if it is on
abbrev pub edits_of_stone : App → Release → List Edit
edits_of_stone app release =
    if release.stone then edit.SetStone (record { app = app.id; version = release.spelled; on = true }) ∷ [] else []

-- a release's withdrawn flag is set, if it is on
abbrev pub edits_of_withdrawn : App → Release → List Edit
edits_of_withdrawn app release =
    if release.withdrawn
    then edit.SetWithdrawn (record { app = app.id; version = release.spelled; on = true }) ∷ []
    else []

-- a release's audience is set, if it has one
abbrev pub edits_of_audience : App → Release → List Edit
edits_of_audience app release =
    if is_some release.audience
    then edit.SetAudience
    (record { app = app.id; version = release.spelled; cohorts = release.audience })
    ∷ []
    else []

-- a release's floor is set, as it is printed
abbrev pub edit_of_floor : App → Release → Edit
edit_of_floor app release =
    edit.SetFloor (record { app = app.id; version = release.spelled; floor = printed release.floor })

-- and only if it is not 0, which a new release has
abbrev pub edits_of_floor : App → Release → List Edit
edits_of_floor app release =
    if bytes_eq release.floor zero_version then [] else edit_of_floor app release ∷ []

-- a release is added, and then its settings are set
abbrev pub edits_of_release : App → Release → List Edit
edits_of_release app release =
    edit_of_release app release
    ∷ edits_of_stone app release
    ++ edits_of_withdrawn app release
    ++ edits_of_audience app release
    ++ edits_of_floor app release

-- a differential is added; its versions are spelled as their releases are
abbrev pub edit_of_diff : App → Diff → Edit
edit_of_diff app diff =
    edit.AddDiff
    (record {
      app = app.id;
      from = spelling_of app.releases diff.from;
      to = spelling_of app.releases diff.to;
      name = diff.name;
      size = diff.size;
      sha256 = encode_lower diff.hash;
    })

-- a cohort's targets are set, if it has one
abbrev pub edits_of_targets : App → Cohort → List Edit
edits_of_targets app cohort =
    if is_some cohort.target || is_some cohort.held
    then edit.SetTarget
    (record {
      app = app.id;
      cohort = cohort.name;
      target = option_map (spelling_of app.releases) cohort.target;
      held = option_map (spelling_of app.releases) cohort.held;
    })
    ∷ []
    else []

-- a cohort's share is set
abbrev pub edit_of_share : App → Cohort → Edit
edit_of_share app cohort = edit.SetShare (record { app = app.id; cohort = cohort.name; share = cohort.share })

-- and only if it is not that of all clients, which a new cohort has
abbrev pub edits_of_share : App → Cohort → List Edit
edits_of_share app cohort = if cohort.share == max_share then [] else edit_of_share app cohort ∷ []

-- a cohort's rollback flag is set
abbrev pub edit_of_rollback : App → Cohort → Edit
edit_of_rollback app cohort = edit.SetRollback (record { app = app.id; cohort = cohort.name; on = true })

-- and only if it is on
abbrev pub edits_of_rollback : App → Cohort → List Edit
edits_of_rollback app cohort = if cohort.rollback then edit_of_rollback app cohort ∷ [] else []

-- a cohort's open flag is set
abbrev pub edit_of_open : App → Cohort → Edit
edit_of_open app cohort = edit.SetOpen (record { app = app.id; cohort = cohort.name; on = true })

-- and only if it is on
abbrev pub edits_of_open : App → Cohort → List Edit
edits_of_open app cohort = if cohort.hintable then edit_of_open app cohort ∷ [] else []

-- all settings of a cohort
abbrev pub edits_of_settings : App → Cohort → List Edit
edits_of_settings app cohort =
    edits_of_targets app cohort ++ edits_of_share app cohort ++ edits_of_rollback app cohort ++ edits_of_open app cohort

-- an app: with its default cohort, then its other cohorts, its releases, each with its settings, its
-- differentials, the settings of its cohorts
abbrev pub edits_of_app : App → List Edit
edits_of_app app =
    edit.AddApp (record { app = app.id; default = default_name app.cohorts })
    ∷ map (edit_of_cohort app) (drop 1 app.cohorts)
    ++ flat_map (edits_of_release app) app.releases
    ++ map (edit_of_diff app) app.diffs
    ++ flat_map (edits_of_settings app) app.cohorts

-- a content: its apps in order
abbrev pub edits_of_content : List App → List Edit
edits_of_content apps = flat_map edits_of_app apps

-- the edits of a valid content are accepted from the empty one on, and make that content
abbrev pub ContentsAreMade : Type 0
ContentsAreMade = (apps : List App) → IsValid apps → outcome (edits_of_content apps) [] ≡ Ok apps
