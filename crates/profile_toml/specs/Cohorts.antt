-- The cohorts of an app of a profile: their keys, their names and their edits; this project's
-- profile.
use Rattle.std.specs.Prelude.{◌≡◌, ℕ, ◌+◌, ◌||◌, Bool, true, false, List, [], ◌∷◌, ◌++◌, codes, if◌then◌else◌, Option, Some, None, is_some, unwrap_or, Result, Ok, Err}
use Rattle.std.specs.List.{list_any}
use Rattle.std.specs.Str.{bytes_eq}
use Rattle.toml.specs.Data.{Items, no_items, item, as_bool, as_str}
use Rattle.catalogue.specs.declared.edit.Edit.{Edit}
use Rattle.catalogue.specs.declared.edit.Edit.TheVariants as edit
use Rattle.catalogue.specs.declared.edits.cohort_settings.SetTarget.{SetTarget}
use Rattle.profile_toml.specs.Fields.{◌>>=◌, as_natural, known, optional, required}
use Rattle.profile_toml.specs.Lists.{element}
use Rattle.profile_toml.specs.Paths.{invalid_key}
use Rattle.profile_toml.specs.Tables.{PlacedList, PlacedTable}
use Rattle.profile_toml.specs.declared.tables.path.BadEntry.{BadEntry}
use Rattle.profile_toml.specs.declared.cohort.CohortEntry.{CohortEntry}

-- the cohort has the name
abbrev pub is_named : List ℕ → CohortEntry → Bool
is_named name cohort = bytes_eq name cohort.name

-- rule: Name of a cohort in a profile
-- the name of a cohort, which no cohort before it has
unfoldable pub new_name : List CohortEntry → PlacedTable → Result (List ℕ) BadEntry
new_name before table = do
  name ← required as_str (codes "name") table
  if list_any (is_named name) before then Err (invalid_key table.place (codes "name")) else Ok name

-- the keys of a cohort, in the order in which they are read
abbrev pub cohort_keys : List (List ℕ)
cohort_keys =
    codes "name" ∷ codes "target" ∷ codes "held" ∷ codes "share" ∷ codes "rollback" ∷ codes "open"
    ∷ []

-- rule: Cohort of a profile
-- a cohort of an app, after those before it
unfoldable pub cohort_of : List CohortEntry → PlacedTable → Result CohortEntry BadEntry
cohort_of before table = do
  all_known ← known cohort_keys table
  name ← new_name before table
  target ← optional as_str (codes "target") table
  held ← optional as_str (codes "held") table
  share ← optional as_natural (codes "share") table
  rolled ← optional as_bool (codes "rollback") table
  opened ← optional as_bool (codes "open") table
  let rollback = unwrap_or rolled false
  let hintable = unwrap_or opened false
  Ok (record { name = name; target = target; held = held; share = share; rollback = rollback; hintable = hintable })

-- the cohorts of the list at a path, if those before that index are read already
abbrev pub cohorts_after : List CohortEntry → List ℕ → ℕ → Items
    → Result (List CohortEntry) BadEntry
cohorts_after before list index no_items = Ok before
cohorts_after before list index (item value values) = do
  table ← element list index value
  cohort ← cohort_of before table
  cohorts_after (before ++ cohort ∷ []) list (index + 1) values

-- the cohorts of an app
abbrev pub cohorts_of : PlacedList → Result (List CohortEntry) BadEntry
cohorts_of list = cohorts_after [] list.path 0 list.items

-- a cohort is added, unless the app came with it
abbrev pub cohort_edits : List ℕ → List ℕ → CohortEntry → List Edit
cohort_edits app default cohort =
    if bytes_eq cohort.name default then []
    else edit.AddCohort (record { app = app; cohort = cohort.name }) ∷ []

-- both targets as an edit sets them
abbrev pub targets_of : List ℕ → CohortEntry → SetTarget
targets_of app cohort =
    record { app = app; cohort = cohort.name; target = cohort.target; held = cohort.held }

-- the targets are set, if one is given
abbrev pub target_edits : List ℕ → CohortEntry → List Edit
target_edits app cohort =
    if is_some cohort.target || is_some cohort.held then edit.SetTarget (targets_of app cohort) ∷ []
    else []

-- the share is set, if it is given
abbrev pub share_edits : List ℕ → List ℕ → Option ℕ → List Edit
share_edits app cohort None = []
share_edits app cohort (Some share) =
    edit.SetShare (record { app = app; cohort = cohort; share = share }) ∷ []

-- the cohort's clients may be downgraded, if the profile says so
abbrev pub rollback_edits : List ℕ → CohortEntry → List Edit
rollback_edits app cohort =
    if cohort.rollback
    then edit.SetRollback (record { app = app; cohort = cohort.name; on = true }) ∷ []
    else []

-- hints may name the cohort, if it is open
abbrev pub open_edits : List ℕ → CohortEntry → List Edit
open_edits app cohort =
    if cohort.hintable
    then edit.SetOpen (record { app = app; cohort = cohort.name; on = true }) ∷ []
    else []

-- what is set of a cohort
abbrev pub setting_edits : List ℕ → CohortEntry → List Edit
setting_edits app cohort =
    target_edits app cohort
    ++ share_edits app cohort.name cohort.share
    ++ rollback_edits app cohort
    ++ open_edits app cohort
