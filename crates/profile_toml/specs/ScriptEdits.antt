-- The edits of a script: what each kind of table says, or its first invalid entry; this project's profile,
-- schemas 1 and 2. Which keys an edit has depends on its `do`, so that is read first; unknown keys follow, and
-- then the known ones in the order of the edit's keys.
use Rattle.std.specs.Prelude.{ℕ, List, [], ◌∷◌, codes, Option, Result, Ok}
use Rattle.std.specs.Map.{lookup}
use Rattle.std.specs.Option.{ok_or}
use Rattle.std.specs.Str.{bytes_eq}
use Rattle.toml.specs.Data.{as_str, as_bool}
use Rattle.catalogue.specs.declared.edits.apps.AddApp.{AddApp}
use Rattle.catalogue.specs.declared.edits.cohorts.AddCohort.{AddCohort}
use Rattle.catalogue.specs.declared.edits.cohort_settings.SetOpen.{SetOpen}
use Rattle.catalogue.specs.declared.edits.cohort_settings.SetRollback.{SetRollback}
use Rattle.catalogue.specs.declared.edits.cohort_settings.SetShare.{SetShare}
use Rattle.catalogue.specs.declared.edits.cohort_settings.SetTarget.{SetTarget}
use Rattle.catalogue.specs.declared.edits.diffs.AddDiff.{AddDiff}
use Rattle.catalogue.specs.declared.edits.release_settings.SetAudience.{SetAudience}
use Rattle.catalogue.specs.declared.edits.release_settings.SetFloor.{SetFloor}
use Rattle.catalogue.specs.declared.edits.release_settings.SetStone.{SetStone}
use Rattle.catalogue.specs.declared.edits.release_settings.SetWithdrawn.{SetWithdrawn}
use Rattle.catalogue.specs.declared.edits.releases.AddRelease.{AddRelease}
use Rattle.catalogue.specs.declared.edit.Edit.{Edit}
use Rattle.catalogue.specs.declared.edit.Edit.TheVariants as edit
use Rattle.profile_toml.specs.Fields.{◌>>=◌, as_natural, known, optional, required}
use Rattle.profile_toml.specs.Paths.{invalid_key}
use Rattle.profile_toml.specs.Tables.{PlacedTable}
use Rattle.profile_toml.specs.Strings.{optional_strings}
use Rattle.profile_toml.specs.declared.tables.path.BadEntry.{BadEntry}
use Rattle.profile_toml.specs.Diffs.{diff_added_to, diff_in}
use Rattle.profile_toml.specs.Releases.{added_to, package_in}
use Rattle.profile_toml.specs.declared.document.Schema.{Schema}
use Rattle.profile_toml.specs.declared.document.Schema.TheVariants.{One, Two}
use Rattle.profile_toml.specs.declared.script_edit.Verb.{Verb}
use Rattle.profile_toml.specs.declared.script_edit.Verb.TheVariants as verb

-- the kinds of edit of schema 1, by what `do` says
abbrev pub verbs_of_schema_1 : List (List ℕ × Verb)
verbs_of_schema_1 =
    (codes "add_app", verb.AddApp)
    ∷ (codes "add_release", verb.AddRelease)
    ∷ (codes "add_cohort", verb.AddCohort)
    ∷ (codes "set_target", verb.SetTarget)
    ∷ (codes "set_share", verb.SetShare)
    ∷ (codes "set_open", verb.SetOpen)
    ∷ (codes "add_diff", verb.AddDiff)
    ∷ (codes "set_stone", verb.SetStone)
    ∷ (codes "set_withdrawn", verb.SetWithdrawn)
    ∷ (codes "set_audience", verb.SetAudience)
    ∷ (codes "set_rollback", verb.SetRollback)
    ∷ []

-- those of a schema: the second has one more
abbrev pub verbs : Schema → List (List ℕ × Verb)
verbs One = verbs_of_schema_1
verbs Two = (codes "set_floor", verb.SetFloor) ∷ verbs_of_schema_1

abbrev pub verb_named : Schema → List ℕ → Option Verb
verb_named schema name = lookup (bytes_eq name) (verbs schema)

-- the kind of an edit
unfoldable pub verb_of : Schema → PlacedTable → Result Verb BadEntry
verb_of schema table = do
  name ← required as_str (codes "do") table
  ok_or (verb_named schema name) (invalid_key table.place (codes "do"))

-- the keys of an edit, in the order in which they are read
abbrev pub keys_of_edit : Verb → List (List ℕ)
keys_of_edit verb.AddApp = codes "do" ∷ codes "app" ∷ codes "default" ∷ []
keys_of_edit verb.AddRelease =
    codes "do" ∷ codes "app" ∷ codes "version" ∷ codes "name" ∷ codes "size" ∷ codes "sha256" ∷ []
keys_of_edit verb.AddCohort = codes "do" ∷ codes "app" ∷ codes "cohort" ∷ []
keys_of_edit verb.SetTarget =
    codes "do" ∷ codes "app" ∷ codes "cohort" ∷ codes "target" ∷ codes "held" ∷ []
keys_of_edit verb.SetShare = codes "do" ∷ codes "app" ∷ codes "cohort" ∷ codes "share" ∷ []
keys_of_edit verb.SetOpen = codes "do" ∷ codes "app" ∷ codes "cohort" ∷ codes "on" ∷ []
keys_of_edit verb.AddDiff =
    codes "do" ∷ codes "app" ∷ codes "from" ∷ codes "to" ∷ codes "name" ∷ codes "size" ∷ codes "sha256" ∷ []
keys_of_edit verb.SetStone = codes "do" ∷ codes "app" ∷ codes "version" ∷ codes "on" ∷ []
keys_of_edit verb.SetWithdrawn = codes "do" ∷ codes "app" ∷ codes "version" ∷ codes "on" ∷ []
keys_of_edit verb.SetAudience = codes "do" ∷ codes "app" ∷ codes "version" ∷ codes "cohorts" ∷ []
keys_of_edit verb.SetFloor = codes "do" ∷ codes "app" ∷ codes "version" ∷ codes "floor" ∷ []
keys_of_edit verb.SetRollback = codes "do" ∷ codes "app" ∷ codes "cohort" ∷ codes "on" ∷ []

-- what the keys of each kind say
unfoldable pub app_added : PlacedTable → Result AddApp BadEntry
app_added table = do
  all_known ← known (keys_of_edit verb.AddApp) table
  app ← required as_str (codes "app") table
  default ← required as_str (codes "default") table
  Ok (record { app = app; default = default })

unfoldable pub release_added : PlacedTable → Result AddRelease BadEntry
release_added table = do
  all_known ← known (keys_of_edit verb.AddRelease) table
  app ← required as_str (codes "app") table
  full ← package_in table
  Ok (added_to app full)

unfoldable pub cohort_added : PlacedTable → Result AddCohort BadEntry
cohort_added table = do
  all_known ← known (keys_of_edit verb.AddCohort) table
  app ← required as_str (codes "app") table
  cohort ← required as_str (codes "cohort") table
  Ok (record { app = app; cohort = cohort })

unfoldable pub target_set : PlacedTable → Result SetTarget BadEntry
target_set table = do
  all_known ← known (keys_of_edit verb.SetTarget) table
  app ← required as_str (codes "app") table
  cohort ← required as_str (codes "cohort") table
  target ← optional as_str (codes "target") table
  held ← optional as_str (codes "held") table
  Ok (record { app = app; cohort = cohort; target = target; held = held })

unfoldable pub share_set : PlacedTable → Result SetShare BadEntry
share_set table = do
  all_known ← known (keys_of_edit verb.SetShare) table
  app ← required as_str (codes "app") table
  cohort ← required as_str (codes "cohort") table
  share ← required as_natural (codes "share") table
  Ok (record { app = app; cohort = cohort; share = share })

unfoldable pub open_set : PlacedTable → Result SetOpen BadEntry
open_set table = do
  all_known ← known (keys_of_edit verb.SetOpen) table
  app ← required as_str (codes "app") table
  cohort ← required as_str (codes "cohort") table
  on ← required as_bool (codes "on") table
  Ok (record { app = app; cohort = cohort; on = on })

unfoldable pub diff_added : PlacedTable → Result AddDiff BadEntry
diff_added table = do
  all_known ← known (keys_of_edit verb.AddDiff) table
  app ← required as_str (codes "app") table
  diff ← diff_in table
  Ok (diff_added_to app diff)

unfoldable pub stone_set : PlacedTable → Result SetStone BadEntry
stone_set table = do
  all_known ← known (keys_of_edit verb.SetStone) table
  app ← required as_str (codes "app") table
  version ← required as_str (codes "version") table
  on ← required as_bool (codes "on") table
  Ok (record { app = app; version = version; on = on })

unfoldable pub withdrawn_set : PlacedTable → Result SetWithdrawn BadEntry
withdrawn_set table = do
  all_known ← known (keys_of_edit verb.SetWithdrawn) table
  app ← required as_str (codes "app") table
  version ← required as_str (codes "version") table
  on ← required as_bool (codes "on") table
  Ok (record { app = app; version = version; on = on })

unfoldable pub audience_set : PlacedTable → Result SetAudience BadEntry
audience_set table = do
  all_known ← known (keys_of_edit verb.SetAudience) table
  app ← required as_str (codes "app") table
  version ← required as_str (codes "version") table
  cohorts ← optional_strings (codes "cohorts") table
  Ok (record { app = app; version = version; cohorts = cohorts })

unfoldable pub floor_set : PlacedTable → Result SetFloor BadEntry
floor_set table = do
  all_known ← known (keys_of_edit verb.SetFloor) table
  app ← required as_str (codes "app") table
  version ← required as_str (codes "version") table
  floor ← required as_str (codes "floor") table
  Ok (record { app = app; version = version; floor = floor })

unfoldable pub rollback_set : PlacedTable → Result SetRollback BadEntry
rollback_set table = do
  all_known ← known (keys_of_edit verb.SetRollback) table
  app ← required as_str (codes "app") table
  cohort ← required as_str (codes "cohort") table
  on ← required as_bool (codes "on") table
  Ok (record { app = app; cohort = cohort; on = on })

-- the edit of a kind
unfoldable pub edit_in : Verb → PlacedTable → Result Edit BadEntry
edit_in verb.AddApp table = app_added table >>= λ e. Ok (edit.AddApp e)
edit_in verb.AddRelease table = release_added table >>= λ e. Ok (edit.AddRelease e)
edit_in verb.AddCohort table = cohort_added table >>= λ e. Ok (edit.AddCohort e)
edit_in verb.SetTarget table = target_set table >>= λ e. Ok (edit.SetTarget e)
edit_in verb.SetShare table = share_set table >>= λ e. Ok (edit.SetShare e)
edit_in verb.SetOpen table = open_set table >>= λ e. Ok (edit.SetOpen e)
edit_in verb.AddDiff table = diff_added table >>= λ e. Ok (edit.AddDiff e)
edit_in verb.SetStone table = stone_set table >>= λ e. Ok (edit.SetStone e)
edit_in verb.SetWithdrawn table = withdrawn_set table >>= λ e. Ok (edit.SetWithdrawn e)
edit_in verb.SetAudience table = audience_set table >>= λ e. Ok (edit.SetAudience e)
edit_in verb.SetFloor table = floor_set table >>= λ e. Ok (edit.SetFloor e)
edit_in verb.SetRollback table = rollback_set table >>= λ e. Ok (edit.SetRollback e)

-- rule: Edit of a script
-- an edit of a script of a schema
unfoldable pub edit_of : Schema → PlacedTable → Result Edit BadEntry
edit_of schema table = do
  kind ← verb_of schema table
  edit_in kind table
