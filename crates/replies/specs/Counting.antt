-- What is counted of a request's update checks; this project's profile.
use Rattle.std.specs.Prelude.{ℕ, List, Option, None, Some, option_and_then, option_map, slice_get}
use Rattle.omaha_json.specs.declared.request.AppAsk.{AppAsk}
use Rattle.omaha_json.specs.declared.request.Request.{Request}
use Rattle.payload_graph.specs.declared.payload.Payload.{Payload}
use Rattle.payload_graph.specs.declared.payload.Payload.TheVariants as payload
use Rattle.replies.specs.declared.choices.Choice.{Choice}
use Rattle.replies.specs.declared.choices.Plan.{Plan}
use Rattle.replies.specs.declared.client.Assignment.{Assignment}
use Rattle.tallies.specs.declared.check.Check.{Check}
use Rattle.tallies.specs.declared.check.Check.TheVariants as check
use Rattle.tallies.specs.declared.check.Grant.{Grant}
use Rattle.tallies.specs.declared.check.Kind.{Kind}
use Rattle.tallies.specs.declared.check.Kind.TheVariants as kind
use Rattle.tallies.specs.declared.check.Track.{Track}

-- the kind of a payload
abbrev pub kind_of : Payload → Kind
kind_of (payload.Full release) = kind.Full
kind_of (payload.Differ index) = kind.Differential

-- what a mirror granted for a choice
abbrev pub grant_of : Choice → ℕ → Grant
grant_of choice mirror = record { mirror = mirror; kind = kind_of choice.payload; bytes = choice.bytes }

-- the app and the cohort of a client
abbrev pub track_of : Assignment → Track
track_of client = record { app = client.key.app; cohort = client.key.cohort }

-- what an update check came to, by its client, by what was chosen, and by the mirror that granted it: as the reply says
-- it, which has an offer if a mirror granted the choice
abbrev pub replied_check : Option Assignment → Option Choice → Option ℕ → Check
replied_check None choice mirror = check.Unknown
replied_check (Some client) None mirror = check.NoUpdate (track_of client)
replied_check (Some client) (Some choice) None = check.Internal (track_of client)
replied_check (Some client) (Some choice) (Some mirror) = check.Offered (track_of client) (grant_of choice mirror)

-- rule: Counted update check
-- what is counted for an app of a request: nothing if it has no update check
abbrev pub check_of : AppAsk → Option Assignment → Option Choice → Option ℕ → Option Check
check_of ask client choice mirror = option_map (λ _. replied_check client choice mirror) ask.check

-- the same of the app at an index
abbrev pub check_at : Request → Plan → List (Option ℕ) → ℕ → Option Check
check_at request plan outcomes index =
    option_and_then (λ ask.
    option_and_then (λ client.
    option_and_then (λ choice.
    option_and_then (λ mirror. check_of ask client choice mirror)
    (slice_get outcomes index))
    (slice_get plan.choices index))
    (slice_get plan.clients index))
    (slice_get request.apps index)
