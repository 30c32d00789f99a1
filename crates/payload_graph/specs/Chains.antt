-- Chains of permitted payloads that lead to a track's target; this project's profile.
use Rattle.std.specs.Prelude.{◌≡◌, ℕ, IsTrue, List, [], ◌∷◌, length, Option, Some, option_and_then, option_map, position, slice_get, sum_by}
use Rattle.std.specs.List.{position_or_len}
use Rattle.std.specs.Option.{option_map_or}
use Rattle.catalogue.specs.Lookups.{is_release}
use Rattle.catalogue.specs.declared.content.App.{App}
use Rattle.catalogue.specs.declared.content.Cohort.{Cohort}
use Rattle.catalogue.specs.declared.content.Release.{Release}
use Rattle.cohorts.specs.Offers.{track_target}
use Rattle.payload_graph.specs.Permitted.{permits}
use Rattle.payload_graph.specs.declared.payload.Payload.{Payload}
use Rattle.payload_graph.specs.declared.payload.Payload.TheVariants.{Full, Differ}
use Rattle.payload_graph.specs.declared.payload.TrackKey.{TrackKey}
use Rattle.payload_graph.specs.declared.place.Place.{Place}
use Rattle.payload_graph.specs.declared.place.Place.TheVariants.{At}

-- the index of the release of a version; the number of releases if there is none
abbrev pub index_of : List Release → List ℕ → ℕ
index_of releases version = position_or_len (is_release version) releases

-- the index of the release that a payload leads to
abbrev pub destination_of : App → Payload → ℕ
destination_of app (Full release) = release
destination_of app (Differ index) =
    option_map_or (λ diff. index_of app.releases diff.to) (slice_get app.diffs index)
    (length app.releases)

-- a payload's declared bytes
abbrev pub bytes_of : App → Payload → ℕ
bytes_of app (Full release) = option_map_or (λ there. there.size) (slice_get app.releases release) 0
bytes_of app (Differ index) = option_map_or (λ there. there.size) (slice_get app.diffs index) 0

-- the index of the release that the clients of a key are meant to have in their cohort, if any
abbrev pub cohort_target : App → Cohort → TrackKey → Option ℕ
cohort_target app cohort key =
    option_and_then (λ version. position (is_release version) app.releases)
    (track_target app.releases cohort key.lane key.pin)

-- the index of the release that a track's clients are meant to have, if any
abbrev pub target_index : App → TrackKey → Option ℕ
target_index app key =
    option_and_then (λ cohort. cohort_target app cohort key) (slice_get app.cohorts key.cohort)

-- the place is the track's target
abbrev pub IsAtTarget : App → TrackKey → Place → Type 0
IsAtTarget app key place = option_map (λ release. At release) (target_index app key) ≡ Some place

-- a chain brings a client to the target: its first payload is permitted from the client's place, each
-- later one from where the one before has led; at the target itself no payload is needed
abbrev pub IsChain : App → TrackKey → Place → List Payload → Type 0
IsChain app key place [] = IsAtTarget app key place
IsChain app key place (payload ∷ payloads) =
    IsTrue (permits app key place payload)
    × IsChain app key (At (destination_of app payload)) payloads

-- a chain's sum: the bytes of its payloads
abbrev pub sum_of : App → List Payload → ℕ
sum_of app payloads = sum_by (bytes_of app) payloads
