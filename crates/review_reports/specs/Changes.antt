-- What a change of a catalogue makes of its clients; this project's profile.
use Rattle.std.specs.Prelude.{ℕ, ◌==◌, ◌&&◌, ◌||◌, not, Bool, true, false, if◌then◌else◌, List, [], length, nat_lt, filter_map, position, slice_get, Option, None, Some, option_and_then, option_map}
use Rattle.std.specs.List.{flat_map, list_any, range_with_len}
use Rattle.std.specs.Option.{option_map_or}
use Rattle.std.specs.Str.{bytes_eq}
use Rattle.catalogue.specs.Lookups.{cohorts_at, has_release, is_release, releases_at}
use Rattle.catalogue.specs.declared.content.App.{App}
use Rattle.catalogue.specs.declared.content.Cohort.{Cohort}
use Rattle.catalogue.specs.declared.content.Diff.{Diff}
use Rattle.catalogue.specs.declared.content.Release.{Release}
use Rattle.cohorts.specs.declared.track.Lane.{Lane}
use Rattle.cohorts.specs.declared.track.Lane.TheVariants.{Target, Held}
use Rattle.payload_graph.specs.declared.payload.Payload.{Payload}
use Rattle.payload_graph.specs.declared.payload.Payload.TheVariants.{Full, Differ}
use Rattle.payload_graph.specs.declared.payload.TrackKey.{TrackKey}
use Rattle.reviews.specs.Reviews.{is_stuck}
use Rattle.review_reports.specs.declared.change.Change.{Change}
use Rattle.review_reports.specs.declared.change.Clients.{Clients}
use Rattle.reviews.specs.declared.review.TrackReview.{TrackReview}
use Rattle.reviews.specs.declared.outcome.Outcome.{Outcome}
use Rattle.reviews.specs.declared.outcome.Outcome.TheVariants.{Here, Next, Stuck}

-- the version of the release that a payload leads to, if the payload is there
abbrev pub version_to : App → Payload → Option (List ℕ)
version_to app (Full release) = option_map (λ (there : Release). there.version) (slice_get app.releases release)
version_to app (Differ index) = option_map (λ (there : Diff). there.to) (slice_get app.diffs index)

-- both are full packages, or both are differentials
abbrev pub is_same_form : Payload → Payload → Bool
is_same_form (Full one) (Full other) = true
is_same_form (Full one) (Differ other) = false
is_same_form (Differ one) (Full other) = false
is_same_form (Differ one) (Differ other) = true

-- two versions are there, and equal
abbrev pub is_same_version : Option (List ℕ) → Option (List ℕ) → Bool
is_same_version None other = false
is_same_version (Some one) None = false
is_same_version (Some one) (Some other) = bytes_eq one other

-- a payload of an app before and one after lead to the same version, in the same form
abbrev pub is_same_payload : App → App → Payload → Payload → Bool
is_same_payload before after one other =
    is_same_form one other && is_same_version (version_to before one) (version_to after other)

-- rule: Changed release
-- the least sum of a release or its first payload differs; a stuck release that stays stuck hasn't changed
abbrev pub is_changed : App → App → Outcome → Outcome → Bool
is_changed before after Here Here = false
is_changed before after Here (Next payload sum) = true
is_changed before after Here (Stuck reason) = true
is_changed before after (Next payload sum) Here = true
is_changed before after (Next payload sum) (Next other total) =
    not (sum == total && is_same_payload before after payload other)
is_changed before after (Next payload sum) (Stuck reason) = true
is_changed before after (Stuck reason) Here = true
is_changed before after (Stuck reason) (Next payload sum) = true
is_changed before after (Stuck reason) (Stuck other) = false

-- two lanes are the same
abbrev pub is_same_lane : Lane → Lane → Bool
is_same_lane Target Target = true
is_same_lane Target Held = false
is_same_lane Held Target = false
is_same_lane Held Held = true

-- two tracks are of the same cohort
abbrev pub is_same_cohort : TrackKey → TrackKey → Bool
is_same_cohort one other = one.app == other.app && one.cohort == other.cohort

-- two tracks are of the same lane of a cohort
abbrev pub is_same_lane_of : TrackKey → TrackKey → Bool
is_same_lane_of one other = is_same_cohort one other && is_same_lane one.lane other.lane

-- the lane of a track has a target
abbrev pub has_lane : List TrackReview → TrackKey → Bool
has_lane reviews key = list_any (λ (review : TrackReview). is_same_lane_of review.key key) reviews

-- the lane of a track has one of the clients who allow a downgrade
abbrev pub has_downgrades : List TrackReview → TrackKey → Bool
has_downgrades reviews key = list_any (λ (review : TrackReview). is_same_lane_of review.key key && review.key.rollback) reviews

-- clients who allow a downgrade are on the other track of their lane if their cohort allows none
abbrev pub is_served : List TrackReview → TrackKey → Bool → Bool
is_served reviews key rollback = if rollback then key.rollback || not (has_downgrades reviews key) else not key.rollback

-- rule: Lane before a change
-- the clients of a lane were on it if it had a target before a change, else on the other lane of their cohort
abbrev pub is_lane_before : List TrackReview → TrackKey → TrackKey → Bool
is_lane_before before old new =
    is_same_cohort old new && (is_same_lane old.lane new.lane || not (has_lane before new))

-- by the share of a cohort some of the 1000 buckets are on a lane
abbrev pub has_clients : Cohort → Lane → Bool
has_clients cohort Target = nat_lt 0 cohort.share
has_clients cohort Held = nat_lt cohort.share 1000

-- the same of the lane of a track; none are if its cohort isn't there
abbrev pub has_clients_on : List App → TrackKey → Bool
has_clients_on apps key =
    option_map_or (λ (cohort : Cohort). has_clients cohort key.lane) (slice_get (cohorts_at apps key.app) key.cohort) false

-- a track before a change has the lane of one after it, or it had clients and has the other lane of its cohort
abbrev pub is_target_of : List App → TrackKey → TrackKey → Bool
is_target_of before old new = is_same_cohort old new && (is_same_lane old.lane new.lane || has_clients_on before old)

-- rule: Target before a change
-- the clients of a track had a target before a change, that of their lane or that of the other lane of their cohort
abbrev pub had_target : List App → List TrackReview → TrackKey → Bool
had_target before olds new = list_any (λ (old : TrackReview). is_target_of before old.key new) olds

-- rule: Same clients
-- the clients who allow a downgrade, or those who don't, are on the first track before a change and on the second after it
abbrev pub are_same_clients : List TrackReview → List TrackReview → TrackReview → TrackReview → Bool
are_same_clients before after old new =
    is_lane_before before old.key new.key
    && (is_served before old.key (old.key.rollback || new.key.rollback)
    && is_served after new.key (old.key.rollback || new.key.rollback))

-- the clients of a track before a change and one after it
abbrev pub clients_of : TrackKey → TrackKey → Clients
clients_of old new =
    record { app = new.app; cohort = new.cohort; lane = new.lane; rollback = old.rollback || new.rollback }

-- the change of a release of a track that was there before, if there is one
abbrev pub change_by : App → App → Clients → ℕ → Outcome → Outcome → Option Change
change_by before after clients release was becomes =
    if is_changed before after was becomes
    then Some (record { clients = clients; release = release; was = Some was; becomes = becomes })
    else None

-- the change of a release that wasn't on the track before, if it counts and is stuck
abbrev pub arrival_by : Clients → Bool → ℕ → Outcome → Option Change
arrival_by clients counts release becomes =
    if counts && is_stuck becomes
    then Some (record { clients = clients; release = release; was = None; becomes = becomes })
    else None

-- where the clients of a track were at the release of a version; nowhere if the app didn't have it
abbrev pub was_at : App → TrackReview → List ℕ → Option Outcome
was_at before old version =
    option_and_then (λ from. slice_get old.outcomes from) (position (is_release version) before.releases)

-- the change of a release by where its clients were; one that wasn't there counts if it is below the target
abbrev pub change_from : App → App → Clients → ℕ → ℕ → Outcome → Option Outcome → Option Change
change_from before after clients target release becomes None =
    arrival_by clients (nat_lt release target) release becomes
change_from before after clients target release becomes (Some was) = change_by before after clients release was becomes

-- the change of the release at an index of the app after, by its version before
abbrev pub change_at : App → App → TrackReview → TrackReview → ℕ → Option Change
change_at before after old new index =
    option_and_then
    (λ (release : Release). option_and_then
    (λ becomes. change_from before after (clients_of old.key new.key) new.target index becomes (was_at before old release.version))
    (slice_get new.outcomes index))
    (slice_get after.releases index)

-- the changes of the releases of a track, by ascending version
abbrev pub changes_between : App → App → TrackReview → TrackReview → List Change
changes_between before after old new =
    filter_map (change_at before after old new) (range_with_len 0 (length after.releases))

-- the changes of the clients of one track before and one after, none if an app isn't there
abbrev pub changes_of_pair : List App → List App → TrackReview → TrackReview → List Change
changes_of_pair before after old new =
    option_map_or
    (λ (one : App). option_map_or (λ (other : App). changes_between one other old new) (slice_get after new.key.app) [])
    (slice_get before old.key.app) []

-- the changes of the clients of the tracks before that are on a track after the change
abbrev pub changes_to : List App → List App → List TrackReview → List TrackReview → TrackReview → List Change
changes_to before after olds news new =
    flat_map
    (λ (old : TrackReview). if are_same_clients olds news old new then changes_of_pair before after old new else [])
    olds

-- the change of a release of a track whose clients had no target before; it counts if it was there or is below the target
abbrev pub arrival_at : List Release → App → TrackReview → ℕ → Option Change
arrival_at before after new index =
    option_and_then
    (λ (release : Release). option_and_then
    (λ becomes. arrival_by (clients_of new.key new.key) (nat_lt index new.target || has_release before release.version) index becomes)
    (slice_get new.outcomes index))
    (slice_get after.releases index)

-- the changes of the releases of such a track, by ascending version
abbrev pub arrivals_between : List Release → App → TrackReview → List Change
arrivals_between before after new =
    filter_map (arrival_at before after new) (range_with_len 0 (length after.releases))

-- those of a track, none if its app isn't there
abbrev pub arrivals_of : List App → List App → TrackReview → List Change
arrivals_of before after new =
    option_map_or (λ (app : App). arrivals_between (releases_at before new.key.app) app new) (slice_get after new.key.app) []

-- the changes of the clients of a track after the change
abbrev pub changes_on : List App → List App → List TrackReview → List TrackReview → TrackReview → List Change
changes_on before after olds news new =
    if had_target before olds new.key then changes_to before after olds news new else arrivals_of before after new

-- those of some tracks after it
abbrev pub changes_from : List App → List App → List TrackReview → List TrackReview → List TrackReview → List Change
changes_from before after olds news some = flat_map (changes_on before after olds news) some

-- rule: Review of a change
-- the changes of all releases, by the tracks after the change in their order
abbrev pub changes_of : List App → List App → List TrackReview → List TrackReview → List Change
changes_of before after olds news = changes_from before after olds news news
