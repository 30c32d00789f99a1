-- Which payloads a client may be offered on a track; this project's profile. Each test is one line of
-- the rule. Releases are those of the app, by ascending version.
use Rattle.std.specs.Prelude.{ℕ, ◌&&◌, ◌||◌, not, Bool, false, List, find, slice_get, Option}
use Rattle.std.specs.List.{list_any}
use Rattle.std.specs.Option.{option_map_or}
use Rattle.catalogue.specs.Versions.{is_below}
use Rattle.catalogue.specs.Lookups.{is_release}
use Rattle.catalogue.specs.declared.content.App.{App}
use Rattle.catalogue.specs.declared.content.Cohort.{Cohort}
use Rattle.catalogue.specs.declared.content.Diff.{Diff}
use Rattle.catalogue.specs.declared.content.Release.{Release}
use Rattle.cohorts.specs.Offers.{is_offered, track_target}
use Rattle.cohorts.specs.declared.pin.Pin.{Pin}
use Rattle.payload_graph.specs.Places.{version_at}
use Rattle.payload_graph.specs.declared.payload.Payload.{Payload}
use Rattle.payload_graph.specs.declared.payload.Payload.TheVariants.{Full, Differ}
use Rattle.payload_graph.specs.declared.payload.TrackKey.{TrackKey}
use Rattle.payload_graph.specs.declared.place.Place.{Place}
use Rattle.payload_graph.specs.declared.place.Place.TheVariants.{At, Outside}

-- rule: Floor
-- a client's version meets a release's floor: it isn't below it
abbrev pub meets_floor : List ℕ → Release → Bool
meets_floor from release = not (is_below from release.floor)

-- the release is offered to those of the cohort's clients of a pin that are at a version
abbrev pub is_offered_at : Cohort → Pin → List ℕ → Release → Bool
is_offered_at cohort pin from release = is_offered cohort pin release && meets_floor from release

-- a stone strictly between two versions; being withdrawn or closed makes no difference
abbrev pub is_stone_between : List ℕ → List ℕ → Release → Bool
is_stone_between lower upper release =
    release.stone && (is_below lower release.version && is_below release.version upper)

-- rule: Stone
-- the way from the one version up to the other jumps a stone
abbrev pub jumps_stone : List Release → List ℕ → List ℕ → Bool
jumps_stone releases lower upper = list_any (is_stone_between lower upper) releases

-- rule: Upward
-- the way from the one version to the other leads up, not above the target, and jumps no stone
abbrev pub leads_up : List Release → List ℕ → List ℕ → List ℕ → Bool
leads_up releases target from to =
    is_below from to && (not (is_below target to) && not (jumps_stone releases from to))

-- rule: Downward
-- the way from the one version to the other leads down from above the target
abbrev pub leads_down : List ℕ → List ℕ → List ℕ → Bool
leads_down target from to = is_below target from && is_below to from

-- rule: Rollback of a key
-- the track rolls back: its cohort and its clients allow it
abbrev pub rolls_back : Cohort → TrackKey → Bool
rolls_back cohort key = cohort.rollback && key.rollback

-- a full package of a release is permitted from a version
abbrev pub permits_full : List Release → Cohort → TrackKey → List ℕ → List ℕ → Release → Bool
permits_full releases cohort key target from to =
    is_offered_at cohort key.pin from to
    && (leads_up releases target from to.version || (rolls_back cohort key && leads_down target from to.version))

-- the differential starts at the place itself
abbrev pub starts_at : List Release → Place → Diff → Bool
starts_at releases (At release) diff =
    option_map_or (λ there. is_release diff.from there) (slice_get releases release) false
starts_at releases (Outside version) diff = false

-- the release that a differential leads to
abbrev pub end_of : List Release → Diff → Option Release
end_of releases diff = find (is_release diff.to) releases

-- a differential is permitted from the release that it starts at; it never leads down
abbrev pub permits_differ : List Release → Cohort → Pin → List ℕ → Diff → Bool
permits_differ releases cohort pin target diff =
    option_map_or (λ to. is_offered_at cohort pin diff.from to && leads_up releases target diff.from to.version)
    (end_of releases diff) false

-- a payload is permitted from a place: false if there is no such place, release or differential
abbrev pub permits_from : App → Cohort → TrackKey → List ℕ → Place → Payload → Bool
permits_from app cohort key target place (Full release) =
    option_map_or
    (λ to. option_map_or (λ from. permits_full app.releases cohort key target from to) (version_at app.releases place) false)
    (slice_get app.releases release) false
permits_from app cohort key target place (Differ index) =
    option_map_or
    (λ diff. starts_at app.releases place diff && permits_differ app.releases cohort key.pin target diff)
    (slice_get app.diffs index) false

-- a payload is permitted in a cohort; a track without a target permits nothing
abbrev pub permits_in : App → Cohort → TrackKey → Place → Payload → Bool
permits_in app cohort key place payload =
    option_map_or (λ target. permits_from app cohort key target place payload)
    (track_target app.releases cohort key.lane key.pin) false

-- rule: Permitted on a track
-- a payload of an app is permitted on a track from a place; a cohort that isn't there permits nothing
abbrev pub permits : App → TrackKey → Place → Payload → Bool
permits app key place payload =
    option_map_or (λ cohort. permits_in app cohort key place payload)
    (slice_get app.cohorts key.cohort) false

-- the same in a content; an app that isn't there permits nothing
abbrev pub permits_among : List App → TrackKey → Place → Payload → Bool
permits_among apps key place payload =
    option_map_or (λ app. permits app key place payload) (slice_get apps key.app) false
