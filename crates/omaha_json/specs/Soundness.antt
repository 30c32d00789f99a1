-- Which replies keep their content as bytes: those whose records a server can have made.
use Rattle.std.specs.Prelude.{◌≡◌, ◌<◌, ◌≤◌, ◌^◌, List, ℕ, length, Option, Some, None, All, IsUtf8, ⊤}
use Rattle.hex.specs.Hex.{IsBytes}
use Rattle.omaha_json.specs.declared.reply.Reply.{Reply}
use Rattle.omaha_json.specs.declared.reply.AppReply.{AppReply}
use Rattle.omaha_json.specs.declared.reply.AppState.{AppState}
use Rattle.omaha_json.specs.declared.reply.AppState.TheVariants as state
use Rattle.omaha_json.specs.declared.reply.KnownApp.{KnownApp}
use Rattle.omaha_json.specs.declared.reply.CheckReply.{CheckReply}
use Rattle.omaha_json.specs.declared.reply.CheckReply.TheVariants as check
use Rattle.omaha_json.specs.declared.reply.Offer.{Offer}
use Rattle.omaha_json.specs.declared.reply.Part.{Part}

-- a SHA-256
abbrev pub IsHash : List ℕ → Type 0
IsHash hash = (length hash ≡ 32) × IsBytes hash

-- the length of a package: 1 to 2^40 bytes
abbrev pub IsSize : ℕ → Type 0
IsSize size = (0 < size) × (size ≤ 2 ^ 40)

-- a file that may be downloaded
abbrev pub IsPart : Part → Type 0
IsPart part = IsUtf8 part.codebase × IsUtf8 part.name × IsSize part.size × IsHash part.hash

-- a differential, if there is one
abbrev pub IsDiff : Option Part → Type 0
IsDiff None = ⊤
IsDiff (Some part) = IsPart part

-- an offer
abbrev pub IsOffer : Offer → Type 0
IsOffer offer = IsUtf8 offer.version × IsUtf8 offer.fp × IsPart offer.full × IsDiff offer.diff

-- the reply to an update check that has JSON
abbrev pub IsCheck : CheckReply → Type 0
IsCheck check.NoUpdate = ⊤
IsCheck check.Internal = ⊤
IsCheck (check.Offered offer) = IsOffer offer
IsCheck check.Other = ⊥

-- the reply to an update check, if there is one
abbrev pub IsOptionalCheck : Option CheckReply → Type 0
IsOptionalCheck None = ⊤
IsOptionalCheck (Some reply) = IsCheck reply

-- a known app
abbrev pub IsKnown : KnownApp → Type 0
IsKnown app = IsUtf8 app.cohort × IsUtf8 app.name × IsOptionalCheck app.check

-- the state of an app that has JSON
abbrev pub IsState : AppState → Type 0
IsState (state.Known app) = IsKnown app
IsState state.Unknown = ⊤
IsState state.Other = ⊥

-- the reply to an app
abbrev pub IsApp : AppReply → Type 0
IsApp app = IsUtf8 app.appid × IsState app.state

-- a reply that a server can write: strings are UTF-8, sizes and hashes those of packages, numbers
-- below 2^64, and no status is `Other`
abbrev pub IsSound : Reply → Type 0
IsSound reply = (reply.days < 2 ^ 64) × (reply.seconds < 2 ^ 64) × All IsApp reply.apps
