-- What the graph of a track is read of; this project's profile.
use Rattle.std.specs.Prelude.{◌≡◌, ℕ, false, List, slice_get, Option, option_and_then, option_map}
use Rattle.catalogue.specs.declared.content.App.{App}
use Rattle.catalogue.specs.declared.content.Cohort.{Cohort}
use Rattle.catalogue.specs.declared.content.Diff.{Diff}
use Rattle.catalogue.specs.declared.content.Release.{Release}
use Rattle.payload_graph.specs.declared.payload.TrackKey.{TrackKey}
use Rattle.payload_graph.specs.Net.{net_among}

-- the releases and the differentials of an app, and one of its cohorts as graphs read it
pub record Source : Type 0 where
  pub releases : List Release
  pub diffs : List Diff
  pub cohort : Cohort

-- a cohort as graphs read it: by its name, its targets and its rollback flag, whatever its share and its open flag
abbrev pub cohort_read : Cohort → Cohort
cohort_read cohort = record cohort { share = 0; hintable = false }

-- the source of the graphs of a cohort of an app
abbrev pub source_of : App → Cohort → Source
source_of app cohort =
    record { releases = app.releases; diffs = app.diffs; cohort = cohort_read cohort }

abbrev pub source_in : App → ℕ → Option Source
source_in app cohort = option_map (source_of app) (slice_get app.cohorts cohort)

-- rule: Source of a graph
-- what the graphs of a cohort's tracks are read of, by the indexes of the app and of the cohort; none if there is no
-- such cohort
abbrev pub source_at : List App → ℕ → ℕ → Option Source
source_at apps app cohort = option_and_then (λ there. source_in there cohort) (slice_get apps app)

-- the graphs of a track in two contents are the same if their sources are
abbrev pub GraphsAreOfSources : Type 0
GraphsAreOfSources =
    (apps made : List App) (key : TrackKey) →
    source_at made key.app key.cohort ≡ source_at apps key.app key.cohort → net_among made key ≡ net_among apps key
