-- How many payloads lead from a release to the target, if clients follow their offers; this project's profile.
use Rattle.std.specs.Prelude.{ℕ, zero, suc, List, length, map, position, slice_get, Option, None, Some, option_and_then, option_map}
use Rattle.std.specs.List.{range_with_len}
use Rattle.std.specs.Option.{option_map_or}
use Rattle.catalogue.specs.Lookups.{is_release}
use Rattle.catalogue.specs.declared.content.App.{App}
use Rattle.catalogue.specs.declared.content.Diff.{Diff}
use Rattle.payload_graph.specs.declared.payload.Payload.{Payload}
use Rattle.payload_graph.specs.declared.payload.Payload.TheVariants.{Full, Differ}
use Rattle.reviews.specs.declared.outcome.Outcome.{Outcome}
use Rattle.reviews.specs.declared.outcome.Outcome.TheVariants.{Here, Next, Stuck}

-- the index of the release that a payload leads to, if it is there
abbrev pub release_to : App → Payload → Option ℕ
release_to app (Full release) = Some release
release_to app (Differ index) =
    option_and_then (λ (there : Diff). position (is_release there.to) app.releases) (slice_get app.diffs index)

-- that of the first payload of an outcome, if there is one
abbrev pub next_to : App → Outcome → Option ℕ
next_to app Here = None
next_to app (Next payload sum) = release_to app payload
next_to app (Stuck reason) = None

-- the same of the outcome at an index
abbrev pub next_at : App → List Outcome → ℕ → Option ℕ
next_at app outcomes release = option_and_then (next_to app) (slice_get outcomes release)

-- how many first payloads follow a release, one after the other, and at most so many
abbrev pub steps_within : App → List Outcome → ℕ → ℕ → ℕ
steps_within app outcomes zero release = 0
steps_within app outcomes (suc more) release =
    option_map_or (λ to. suc (steps_within app outcomes more to)) (next_at app outcomes release) 0

-- rule: Steps of a release
-- how many first payloads follow a release, one after the other; no release is met twice on the way, so there are fewer
-- than releases
abbrev pub steps_of : App → List Outcome → ℕ → ℕ
steps_of app outcomes release = steps_within app outcomes (length outcomes) release

-- the steps of a release that is before a chain
abbrev pub steps_at : App → List Outcome → ℕ → Option ℕ
steps_at app outcomes release = option_map (λ to. steps_of app outcomes release) (next_at app outcomes release)

-- those of all releases
abbrev pub all_steps : App → List Outcome → List (Option ℕ)
all_steps app outcomes = map (steps_at app outcomes) (range_with_len 0 (length outcomes))
