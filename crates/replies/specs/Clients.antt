-- Who asks in a request: for each of its apps that the catalogue has, a client on its track; this
-- project's profile.
use Rattle.std.specs.Prelude.{◌≡◌, ℕ, ◌<◌, not, Bool, IfSome, List, length, Option, option_and_then, option_map, position, slice_get}
use Rattle.catalogue.specs.Lookups.{cohorts_at, is_app}
use Rattle.catalogue.specs.declared.content.App.{App}
use Rattle.catalogue.specs.declared.content.Cohort.{Cohort}
use Rattle.cohorts.specs.CohortTexts.{printed}
use Rattle.cohorts.specs.Offers.{is_any, track_target}
use Rattle.cohorts.specs.Tracks.{cohort_at, track_of}
use Rattle.cohorts.specs.declared.track.Track.{Track}
use Rattle.omaha_json.specs.declared.request.AppAsk.{AppAsk}
use Rattle.payload_graph.specs.declared.payload.TrackKey.{TrackKey}
use Rattle.replies.specs.declared.client.Assignment.{Assignment}

-- a client of an app, on its track
pub record Client : Type 0 where
  pub index : ℕ
  pub app : App
  pub track : Track

-- the client of a session that asks for the app at an index
abbrev pub client_at : List App → List ℕ → AppAsk → ℕ → Option Client
client_at apps session ask index =
    option_map (λ app. record { index = index; app = app; track = track_of app.releases app.cohorts ask session })
    (slice_get apps index)

-- rule: Client of an app
-- the client of a session that asks for an app, none if the app is unknown
abbrev pub client_of : List App → List ℕ → AppAsk → Option Client
client_of apps session ask =
    option_and_then (client_at apps session ask) (position (is_app ask.appid) apps)

-- the track of an assignment in an app
abbrev pub track_by : App → Assignment → Track
track_by app assignment =
    record {
      cohort = assignment.key.cohort;
      bucket = assignment.bucket;
      lane = assignment.key.lane;
      rollback = assignment.key.rollback;
      pin = assignment.key.pin;
      target =
          track_target app.releases (cohort_at app.cohorts assignment.key.cohort) assignment.key.lane assignment.key.pin;
    }

-- the client of an assignment, none if there is no such app
abbrev pub client_in : List App → Assignment → Option Client
client_in apps assignment =
    option_map (λ app. record { index = assignment.key.app; app = app; track = track_by app assignment })
    (slice_get apps assignment.key.app)

-- an assignment is to a cohort that its app has
abbrev pub IsInCohort : List App → Option Assignment → Type 0
IsInCohort apps assigned =
    IfSome assigned (λ assignment. assignment.key.cohort < length (cohorts_at apps assignment.key.app))

-- the client of a session that asks for an app is assigned to its track; none if the app is unknown
pub record IsAssigned (apps : List App) (session : List ℕ) (ask : AppAsk) (assigned : Option Assignment) : Type 0 where
  pub client : option_and_then (client_in apps) assigned ≡ client_of apps session ask
  pub cohort : IsInCohort apps assigned

-- so is the client of some session
abbrev pub IsClient : List App → AppAsk → Option Assignment → Type 0
IsClient apps ask assigned = (session : List ℕ) × IsAssigned apps session ask assigned

-- rule: Key of a client
-- the key of a client's track
abbrev pub key_of : Client → TrackKey
key_of client =
    record {
      app = client.index;
      cohort = client.track.cohort;
      lane = client.track.lane;
      rollback = client.track.rollback;
      pin = client.track.pin;
    }

-- the client's administrator doesn't allow any version
abbrev pub is_pinned : Client → Bool
is_pinned client = not (is_any client.track.pin)

-- rule: Cohort that a reply names
-- the cohort that serves a client
abbrev pub cohort_of : Client → Cohort
cohort_of client = cohort_at client.app.cohorts client.track.cohort

-- the string by which a client names its cohort and its bucket
abbrev pub cohort_text : Client → List ℕ
cohort_text client = printed (cohort_of client).name client.track.bucket
