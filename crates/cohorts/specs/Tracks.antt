-- Which track of an app a client is on: its cohort, its bucket, and what follows from them; this
-- project's profile of the Omaha protocol's members `cohort` and `cohorthint`. The cohorts are
-- those of the app, the default one first.
use Rattle.std.specs.Prelude.{◌≡◌, ℕ, ◌&&◌, ◌%◌, Bool, false, if◌then◌else◌, List, [], nat_lt, position, slice_get, take, Option, None, Some, option_and_then, unwrap_or}
use Rattle.std.specs.Int.{w32, from_be_bytes}
use Rattle.std.specs.Option.{option_map_or, option_or}
use Rattle.sha2.specs.Sha256.{sha256}
use Rattle.catalogue.specs.Lookups.{is_cohort}
use Rattle.catalogue.specs.declared.content.Cohort.{Cohort}
use Rattle.catalogue.specs.declared.content.Release.{Release}
use Rattle.omaha_json.specs.declared.request.AppAsk.{AppAsk}
use Rattle.cohorts.specs.CohortTexts.{parsed}
use Rattle.cohorts.specs.Offers.{track_target}
use Rattle.cohorts.specs.Pins.{pin_of}
use Rattle.cohorts.specs.declared.pin.Pin.{Pin}
use Rattle.cohorts.specs.declared.pin.Pin.TheVariants as pin
use Rattle.cohorts.specs.declared.track.Lane.{Lane}
use Rattle.cohorts.specs.declared.track.Lane.TheVariants.{Target, Held}
use Rattle.cohorts.specs.declared.track.Track.{Track}

-- the cohort is open to hints, and has the name
abbrev pub is_hinted : List ℕ → Cohort → Bool
is_hinted hint cohort = cohort.hintable && is_cohort hint cohort

-- the cohort that a hint names: an open one of that name
abbrev pub hinted_cohort : List Cohort → List ℕ → Option ℕ
hinted_cohort cohorts hint = position (is_hinted hint) cohorts

-- the cohort of the name that a cohort text says, beside a bucket, open or not
abbrev pub named_cohort : List Cohort → Option (List ℕ × ℕ) → Option ℕ
named_cohort cohorts named = option_and_then (λ named. position (is_cohort named.0) cohorts) named

-- the cohort that a sent cohort text names
abbrev pub sent_cohort : List Cohort → List ℕ → Option ℕ
sent_cohort cohorts text = named_cohort cohorts (parsed text)

-- rule: Cohort of a client
-- a client's cohort: the one that its hint names, else the one that its cohort text names, else the
-- default one
abbrev pub cohort_of : List Cohort → AppAsk → ℕ
cohort_of cohorts ask =
    unwrap_or (option_or (hinted_cohort cohorts ask.hint) (sent_cohort cohorts ask.cohort)) 0

-- rule: Bucket of a session
-- the bucket of a session: the first four bytes of its SHA-256, the highest first, modulo 1000
unfoldable pub session_bucket : List ℕ → ℕ
session_bucket session = from_be_bytes w32 (take 4 (sha256 session)) % 1000

-- a bucket that is known of a session, if any, is the session's
abbrev pub IsBucketOf : List ℕ → Option ℕ → Type 0
IsBucketOf session None = Unit {0}
IsBucketOf session (Some bucket) = bucket ≡ session_bucket session

-- rule: Bucket of a client
-- a client's bucket: the one that its cohort text names, whatever the cohort, else its session's
abbrev pub bucket_of : AppAsk → List ℕ → ℕ
bucket_of ask session =
    option_map_or (λ named. named.1) (parsed ask.cohort) (session_bucket session)

-- the default of `cohort_at`: no track is in it
abbrev pub no_cohort : Cohort
no_cohort =
    record { name = []; target = None; held = None; share = 0; rollback = false; hintable = false }

-- the cohort at an index
abbrev pub cohort_at : List Cohort → ℕ → Cohort
cohort_at cohorts index = unwrap_or (slice_get cohorts index) no_cohort

-- rule: Lane
-- the lane of a bucket: the target's below the cohort's share, else the held one
abbrev pub lane_of : Cohort → ℕ → Lane
lane_of cohort bucket = if nat_lt bucket cohort.share then Target else Held

-- the client sent that it may be downgraded
abbrev pub asks_rollback : AppAsk → Bool
asks_rollback ask = option_map_or (λ check. check.rollback) ask.check false

-- the pin of the prefix that the client sent, if any
abbrev pub pin_asked : AppAsk → Pin
pin_asked ask = option_map_or (λ check. pin_of check.prefix) ask.check pin.Any

-- rule: Rollback of a track
-- the track of a bucket in the cohort at an index; the client may be downgraded if the cohort and
-- the client allow it
abbrev pub track_in : List Release → Cohort → ℕ → ℕ → AppAsk → Track
track_in releases cohort index bucket ask =
    record {
      cohort = index;
      bucket = bucket;
      lane = lane_of cohort bucket;
      rollback = cohort.rollback && asks_rollback ask;
      pin = pin_asked ask;
      target = track_target releases cohort (lane_of cohort bucket) (pin_asked ask);
    }

-- a client's track in an app of these releases and cohorts
abbrev pub track_of : List Release → List Cohort → AppAsk → List ℕ → Track
track_of releases cohorts ask session =
    track_in releases (cohort_at cohorts (cohort_of cohorts ask)) (cohort_of cohorts ask)
    (bucket_of ask session) ask
