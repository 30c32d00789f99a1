-- An app of a profile: its keys, and its edits: the app, its cohorts but for the default one, its
-- releases, then what is set of its cohorts; this project's profile.
use Rattle.std.specs.Prelude.{ℕ, List, [], ◌∷◌, ◌++◌, codes, Result, Ok}
use Rattle.std.specs.List.{flat_map}
use Rattle.toml.specs.Data.{as_str}
use Rattle.catalogue.specs.declared.edit.Edit.{Edit}
use Rattle.catalogue.specs.declared.edit.Edit.TheVariants as edit
use Rattle.profile_toml.specs.Fields.{◌>>=◌, known, required}
use Rattle.profile_toml.specs.Lists.{each, optional_tables}
use Rattle.profile_toml.specs.Tables.{PlacedTable}
use Rattle.profile_toml.specs.declared.tables.path.BadEntry.{BadEntry}
use Rattle.profile_toml.specs.Cohorts.{cohort_edits, cohorts_of, setting_edits}
use Rattle.profile_toml.specs.Diffs.{diff_edits, diff_of}
use Rattle.profile_toml.specs.Releases.{release_edits, release_of}
use Rattle.profile_toml.specs.declared.app.AppEntry.{AppEntry}
use Rattle.profile_toml.specs.declared.document.Schema.{Schema}

-- the keys of an app, in the order in which they are read
abbrev pub app_keys : List (List ℕ)
app_keys = codes "id" ∷ codes "default" ∷ codes "cohort" ∷ codes "release" ∷ codes "diff" ∷ []

-- rule: App of a profile
-- an app: its own keys, then its cohorts, its releases and its differentials
unfoldable pub app_of : Schema → PlacedTable → Result AppEntry BadEntry
app_of schema table = do
  all_known ← known app_keys table
  id ← required as_str (codes "id") table
  default ← required as_str (codes "default") table
  cohort_list ← optional_tables (codes "cohort") table
  release_list ← optional_tables (codes "release") table
  diff_list ← optional_tables (codes "diff") table
  cohorts ← cohorts_of cohort_list
  releases ← each (release_of schema) release_list
  diffs ← each diff_of diff_list
  Ok (record { id = id; default = default; cohorts = cohorts; releases = releases; diffs = diffs })

-- the app is added, and its cohorts
abbrev pub added_edits : AppEntry → List Edit
added_edits app =
    (edit.AddApp (record { app = app.id; default = app.default }) ∷ [])
    ++ flat_map (cohort_edits app.id app.default) app.cohorts

-- rule: Edits of a profile
-- the edits of an app
abbrev pub app_edits : AppEntry → List Edit
app_edits app =
    added_edits app
    ++ flat_map (release_edits app.id) app.releases
    ++ flat_map (diff_edits app.id) app.diffs
    ++ flat_map (setting_edits app.id) app.cohorts

-- the edits of all apps
abbrev pub edits_of : List AppEntry → List Edit
edits_of apps = flat_map app_edits apps
