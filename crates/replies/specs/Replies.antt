-- The reply to a request, as a function of the catalogue's content, the payloads that were chosen,
-- the mirrors that granted them, and the timestamp: the Omaha protocol 3.1, this project's profile.
use Rattle.std.specs.Prelude.{ℕ, ◌<◌, ⊤, List, [], map, IsSome, length, Option, Some, None, option_and_then, option_map, slice_get}
use Rattle.std.specs.List.{AllZip, zip}
use Rattle.std.specs.Option.{option_map_or}
use Rattle.catalogue.specs.declared.content.App.{App}
use Rattle.catalogue.specs.declared.mirror.Mirror.{Mirror}
use Rattle.catalogue.specs.declared.content.Diff.{Diff}
use Rattle.catalogue.specs.declared.content.Release.{Release}
use Rattle.omaha_json.specs.declared.reply.AppReply.{AppReply}
use Rattle.omaha_json.specs.declared.reply.AppState.{AppState}
use Rattle.omaha_json.specs.declared.reply.AppState.TheVariants as state
use Rattle.omaha_json.specs.declared.reply.CheckReply.{CheckReply}
use Rattle.omaha_json.specs.declared.reply.CheckReply.TheVariants as check
use Rattle.omaha_json.specs.declared.reply.KnownApp.{KnownApp}
use Rattle.omaha_json.specs.declared.reply.Offer.{Offer}
use Rattle.omaha_json.specs.declared.reply.Part.{Part}
use Rattle.omaha_json.specs.declared.reply.Reply.{Reply}
use Rattle.omaha_json.specs.declared.request.AppAsk.{AppAsk}
use Rattle.omaha_json.specs.declared.request.Request.{Request}
use Rattle.payload_graph.specs.Chains.{destination_of}
use Rattle.payload_graph.specs.Places.{fingerprint_of}
use Rattle.payload_graph.specs.declared.payload.Payload.{Payload}
use Rattle.payload_graph.specs.declared.payload.Payload.TheVariants.{Full, Differ}
use Rattle.replies.specs.Clients.{Client, client_of, cohort_of, cohort_text}
use Rattle.replies.specs.Timestamps.{elapsed_days, elapsed_seconds}
use Rattle.replies.specs.declared.choices.Choice.{Choice}

-- the codebase of the mirror at an index
abbrev pub codebase_at : List Mirror → ℕ → List ℕ
codebase_at mirrors index = option_map_or (λ mirror. mirror.codebase) (slice_get mirrors index) []

-- a release's full package at a codebase
abbrev pub full_part : List ℕ → Release → Part
full_part codebase release =
    record { codebase = codebase; name = release.name; size = release.size; hash = release.hash }

-- a differential's package at a codebase
abbrev pub diff_part : List ℕ → Diff → Part
diff_part codebase diff =
    record { codebase = codebase; name = diff.name; size = diff.size; hash = diff.hash }

-- the differential of a payload, if it is one
abbrev pub diff_of : App → Payload → Option Diff
diff_of app (Full release) = None
diff_of app (Differ index) = slice_get app.diffs index

-- rule: Offer of a payload
-- the offer of a release, by its full package and by a differential, if there is one
abbrev pub offer_of : List ℕ → Release → Option Diff → Offer
offer_of codebase release diff =
    record {
      version = release.spelled;
      fp = fingerprint_of release;
      full = full_part codebase release;
      diff = option_map (diff_part codebase) diff;
    }

-- the release that a payload leads to, none if the app has no such release
abbrev pub release_by : App → Payload → Option Release
release_by app payload = slice_get app.releases (destination_of app payload)

-- rule: Outcome of an update check
-- the reply to an update check: nothing was chosen, no mirror granted it, or the offer
abbrev pub check_reply : List Mirror → Option Release → Option Diff → Option ℕ → CheckReply
check_reply mirrors None diff outcome = check.NoUpdate
check_reply mirrors (Some release) diff None = check.Internal
check_reply mirrors (Some release) diff (Some mirror) =
    check.Offered (offer_of (codebase_at mirrors mirror) release diff)

-- what was decided for one app: the payload that was chosen, if any, and the mirror that granted
-- it, if any
abbrev pub Decision : Type 0
Decision = Option Payload × Option ℕ

-- the reply to an update check of a known app
abbrev pub update_reply : List Mirror → App → Decision → CheckReply
update_reply mirrors app decision =
    check_reply mirrors (option_and_then (release_by app) decision.0) (option_and_then (diff_of app) decision.0)
    decision.1

-- the reply to a client, with the reply to its update check, if any
abbrev pub with_check : Client → AppAsk → Option CheckReply → KnownApp
with_check client ask check =
    record {
      cohort = cohort_text client;
      name = (cohort_of client).name;
      ping = ask.ping;
      events = ask.events;
      check = check;
    }

-- the reply to a client; its update check is replied to if there is one
abbrev pub known_app : List Mirror → Client → AppAsk → Decision → KnownApp
known_app mirrors client ask decision =
    with_check client ask (option_map (λ _. update_reply mirrors client.app decision) ask.check)

-- the state of an app: unknown, or known with its reply
abbrev pub state_of : List Mirror → Option Client → AppAsk → Decision → AppState
state_of mirrors None ask decision = state.Unknown
state_of mirrors (Some client) ask decision = state.Known (known_app mirrors client ask decision)

-- the reply to one app by its client, under the client's spelling of its identifier
abbrev pub client_reply : List Mirror → Option Client → AppAsk × Decision → AppReply
client_reply mirrors client asked =
    record { appid = asked.0.appid; state = state_of mirrors client asked.0 asked.1 }

-- the reply to one app of a session's request
abbrev pub app_reply : List App → List ℕ → List Mirror → AppAsk × Decision → AppReply
app_reply apps session mirrors asked = client_reply mirrors (client_of apps session asked.0) asked

-- rule: Reply
-- the reply to a request: one for each of its apps, in its order, repeated ones too
abbrev pub reply_of : List App → Request → List (Option Payload) → List (Option ℕ)
    → List Mirror → ℕ → Reply
reply_of apps request payloads outcomes mirrors moment =
    record {
      days = elapsed_days moment;
      seconds = elapsed_seconds moment;
      apps =
          map (app_reply apps request.session mirrors)
          (zip request.apps (zip payloads outcomes));
    }

-- an outcome of an update check: no mirror, or one of the mirrors if a payload was chosen
abbrev pub IsOutcome : List Mirror → Option Choice → Option ℕ → Type 0
IsOutcome mirrors choice None = ⊤
IsOutcome mirrors choice (Some mirror) = IsSome choice × (mirror < length mirrors)

-- the outcomes of a plan: one for each of its apps
abbrev pub AreOutcomes : List Mirror → List (Option Choice) → List (Option ℕ) → Type 0
AreOutcomes mirrors plan outcomes = AllZip (IsOutcome mirrors) plan outcomes
