-- Which releases the clients of a cohort are offered, and which of them they are meant to have; this project's
-- profile. Releases are those of the app, by ascending version.
use Rattle.std.specs.Prelude.{ℕ, ◌&&◌, not, Bool, true, false, if◌then◌else◌, List, find, reverse, Option, Some, option_and_then, option_map}
use Rattle.std.specs.List.{list_any}
use Rattle.std.specs.Option.{option_map_or}
use Rattle.std.specs.Str.{bytes_eq}
use Rattle.catalogue.specs.Versions.{is_below}
use Rattle.catalogue.specs.declared.content.Cohort.{Cohort}
use Rattle.catalogue.specs.declared.content.Release.{Release}
use Rattle.cohorts.specs.Pins.{matches}
use Rattle.cohorts.specs.declared.pin.Pin.{Pin}
use Rattle.cohorts.specs.declared.pin.Pin.TheVariants as pin
use Rattle.cohorts.specs.declared.track.Lane.{Lane}
use Rattle.cohorts.specs.declared.track.Lane.TheVariants.{Target, Held}

-- rule: Audience
-- the release is open to the cohort: its audience names it, or there is none
abbrev pub is_open_to : Cohort → Release → Bool
is_open_to cohort release =
    option_map_or (λ names. list_any (bytes_eq cohort.name) names) release.audience true

-- rule: Offered release
-- the release is offered to the cohort's clients of a pin
abbrev pub is_offered : Cohort → Pin → Release → Bool
is_offered cohort pin release =
    not release.withdrawn && (is_open_to cohort release && matches pin release.version)

-- the release is offered, and isn't above a version
abbrev pub is_offered_within : Cohort → Pin → List ℕ → Release → Bool
is_offered_within cohort pin limit release =
    not (is_below limit release.version) && is_offered cohort pin release

-- the version of the highest release that is offered and isn't above a version, if there is one
abbrev pub highest_offered : List Release → Cohort → Pin → List ℕ → Option (List ℕ)
highest_offered releases cohort pin limit =
    option_map (λ release. release.version) (find (is_offered_within cohort pin limit) (reverse releases))

-- rule: Target of a lane
-- the version that a lane is meant to have, if any
abbrev pub target_of : Cohort → Lane → Option (List ℕ)
target_of cohort Target = cohort.target
target_of cohort Held = cohort.held

-- the pin allows any version
abbrev pub is_any : Pin → Bool
is_any pin.Any = true
is_any (pin.Prefix version count) = false
is_any (pin.Only version) = false
is_any pin.Nothing = false

-- the version that a pin makes of a lane's target
abbrev pub pinned_target : List Release → Cohort → Pin → List ℕ → Option (List ℕ)
pinned_target releases cohort pin target =
    if is_any pin then Some target else highest_offered releases cohort pin target

-- rule: Target of a track
-- the version that the clients of a lane and a pin are meant to have, if any: the lane's target, whether or not
-- that is offered; under a pin that doesn't allow any version, the highest offered release up to it
abbrev pub track_target : List Release → Cohort → Lane → Pin → Option (List ℕ)
track_target releases cohort lane pin =
    option_and_then (pinned_target releases cohort pin) (target_of cohort lane)
