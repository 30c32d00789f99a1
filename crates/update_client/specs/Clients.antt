-- What a client asks, and what it hears; this project's profile of the Omaha protocol 3.1.
use Rattle.std.specs.Prelude.{ℕ, List, [], ◌∷◌, ◌++◌, false, if◌then◌else◌, Option, Some, None, is_some, unwrap_or, Result, Ok, Err}
use Rattle.std.specs.Str.{str_eq_ignore_ascii_case}
use Rattle.omaha_json.specs.declared.request.Request.{Request}
use Rattle.omaha_json.specs.declared.request.AppAsk.{AppAsk}
use Rattle.omaha_json.specs.declared.request.Check.{Check}
use Rattle.omaha_json.specs.declared.reply.Reply.{Reply}
use Rattle.omaha_json.specs.declared.reply.AppReply.{AppReply}
use Rattle.omaha_json.specs.declared.reply.AppState.{AppState}
use Rattle.omaha_json.specs.declared.reply.AppState.TheVariants as state
use Rattle.omaha_json.specs.declared.reply.KnownApp.{KnownApp}
use Rattle.omaha_json.specs.declared.reply.CheckReply.{CheckReply}
use Rattle.omaha_json.specs.declared.reply.CheckReply.TheVariants as check
use Rattle.omaha_json.specs.declared.reply.Offer.{Offer}
use Rattle.omaha_json.specs.declared.reply.Part.{Part}
use Rattle.omaha_json.specs.declared.client.fault.ReplyFault.{ReplyFault}
use Rattle.omaha_json.specs.ReplyReading.{reply_of_bytes}
use Rattle.update_client.specs.Installed.{Installed}
use Rattle.update_client.specs.declared.fault.Fault.{Fault}
use Rattle.update_client.specs.declared.fault.Fault.TheVariants as fault
use Rattle.update_client.specs.declared.hearing.Accepted.{Accepted}
use Rattle.update_client.specs.declared.installer.Step.{Step}

-- the update check of a client
abbrev pub check_of : Installed → Check
check_of client = record { disabled = false; rollback = client.rollback; prefix = client.prefix }

-- what a client asks for its app
abbrev pub ask_of : Installed → AppAsk
ask_of client = record {
  appid = client.app;
  version = client.version;
  fp = client.fp;
  cohort = client.cohort;
  hint = client.hint;
  check = Some (check_of client);
  ping = false;
  events = 0;
}

-- rule: Request of a client
-- the request for that one app
abbrev pub request_of : Installed → Request
request_of client = record { session = client.session; apps = ask_of client ∷ [] }

-- the known app of a state
abbrev pub known_in : AppState → Option KnownApp
known_in (state.Known known) = Some known
known_in state.Unknown = None
known_in state.Other = None

-- the app of that identifier, in whatever case, if it is the only one and is known
abbrev pub only_known : List ℕ → List AppReply → Option KnownApp
only_known app (reply ∷ []) =
    if str_eq_ignore_ascii_case reply.appid app then known_in reply.state else None
only_known app replies = None

-- the offer with its cohort text, none if there is no update; or why neither was said
abbrev pub news_in : List ℕ → Option CheckReply → Result (Option Accepted) Fault
news_in cohort (Some (check.Offered offer)) = Ok (Some (record { cohort = cohort; offer = offer }))
news_in cohort (Some check.NoUpdate) = Ok None
news_in cohort (Some check.Internal) = Err fault.Busy
news_in cohort (Some check.Other) = Err fault.Reply
news_in cohort None = Err fault.Reply

-- the news of a known app
abbrev pub news_of : Option KnownApp → Result (Option Accepted) Fault
news_of (Some known) = news_in known.cohort known.check
news_of None = Err fault.Reply

-- the news of a reply, if it was read
abbrev pub news_from : List ℕ → Result Reply ReplyFault → Result (Option Accepted) Fault
news_from app (Ok reply) = news_of (only_known app reply.apps)
news_from app (Err refused) = Err fault.Reply

-- rule: Reply that a client hears
-- what a client of that app hears in the bytes of a reply
abbrev pub heard : List ℕ → List ℕ → Result (Option Accepted) Fault
heard app bytes = news_from app (reply_of_bytes bytes)

-- the file to download: the differential if one is offered
abbrev pub part_of : Offer → Part
part_of offer = unwrap_or offer.diff offer.full

-- rule: Address of a download
-- the address of an offer's file: its codebase followed by its name
abbrev pub address_of : Offer → List ℕ
address_of offer = (part_of offer).codebase ++ (part_of offer).name

-- the step of an offer
abbrev pub step_of : Offer → Step
step_of offer = record {
  diff = is_some offer.diff;
  version = offer.version;
  fp = offer.fp;
  bytes = (part_of offer).size;
}

-- the cohort text to send next: an empty one replaces nothing
abbrev pub cohort_after : List ℕ → List ℕ → List ℕ
cohort_after old [] = old
cohort_after old (byte ∷ rest) = byte ∷ rest

-- rule: Client after a step
-- the client that has installed what was offered
abbrev pub client_after : Installed → Accepted → Installed
client_after client accepted = record client {
  version = accepted.offer.version;
  fp = accepted.offer.fp;
  cohort = cohort_after client.cohort accepted.cohort;
}
