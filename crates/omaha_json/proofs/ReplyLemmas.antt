-- No reply has a float: so its bytes are the compact form of its tree. The digits of a hash are UTF-8.
use Rattle.std.proofs.Common.{◌≡◌, ℕ, zero, suc, eqb, List, [], ◌∷◌, map, Bool, true, false, cond, Option, Some, None, option_map, unwrap_or, codes, refl, ◌&&◌, nat_lt, arith}
use Rattle.std.specs.Str.{IsAscii, IsUtf8}
use Rattle.std.proofs.lemmas.Bool.{and_parts}
use Rattle.std.proofs.lemmas.Str.{IsUtf8-from_ascii}
use Rattle.std.proofs.lemmas.Str.Ascii.{IsAscii-cons, IsAscii-nil}
use Rattle.hex.specs.Hex.{encode_lower, lower_digits}
use Rattle.hex.proofs.HexLemmas.{IsAscii-encode_with}
use Rattle.serde_json.specs.Data.{Data, string, Members, no_members, member}
use Rattle.serde_json.specs.View.{items_of}
use Rattle.serde_json.specs.Written.{has_float, items_have_float, members_have_float}
use Rattle.omaha_json.specs.declared.reply.Reply.{Reply}
use Rattle.omaha_json.specs.declared.reply.AppReply.{AppReply}
use Rattle.omaha_json.specs.declared.reply.AppState.{AppState}
use Rattle.omaha_json.specs.declared.reply.AppState.TheVariants as state
use Rattle.omaha_json.specs.declared.reply.KnownApp.{KnownApp}
use Rattle.omaha_json.specs.declared.reply.CheckReply.{CheckReply}
use Rattle.omaha_json.specs.declared.reply.CheckReply.TheVariants as check
use Rattle.omaha_json.specs.declared.reply.Offer.{Offer}
use Rattle.omaha_json.specs.declared.reply.Part.{Part}
use Rattle.omaha_json.specs.ReplyWriting.{optional_member, offer_data, check_data, acknowledgements, events_data, ping_data, update_data, known_data, state_data, app_data, reply_data}

-- whether there is a value with a float
abbrev some_has_float : Option Data → Bool
some_has_float value = unwrap_or (option_map has_float value) false

members_have_float-optional_member : (name : List ℕ) (value : Option Data) (rest : Members)
    → some_has_float value ≡ false → members_have_float rest ≡ false
    → members_have_float (optional_member name value rest) ≡ false
members_have_float-optional_member name None rest plain rest_plain = rest_plain
members_have_float-optional_member name (Some value) rest plain rest_plain = rw plain rest_plain

offer_by_diff : (version fp : List ℕ) (full : Part) (diff : Option Part)
    → let offer : Offer = record { version = version; fp = fp; full = full; diff = diff } in
    has_float (offer_data offer) ≡ false
offer_by_diff version fp full None = refl
offer_by_diff version fp full (Some diff) = refl

has_float-check_data : (answer : CheckReply) → has_float (check_data answer) ≡ false
has_float-check_data check.NoUpdate = refl
has_float-check_data check.Internal = refl
has_float-check_data (check.Offered offer) =
    offer_by_diff offer.version offer.fp offer.full offer.diff
has_float-check_data check.Other = refl

some_has_float-update_data : (answer : Option CheckReply)
    → some_has_float (update_data answer) ≡ false
some_has_float-update_data None = refl
some_has_float-update_data (Some answer) = has_float-check_data answer

some_has_float-ping_data : (asked : Bool) → some_has_float (ping_data asked) ≡ false
some_has_float-ping_data true = refl
some_has_float-ping_data false = refl

has_float-acknowledgements : (events : ℕ) → has_float (acknowledgements events) ≡ false
has_float-acknowledgements zero = refl
has_float-acknowledgements (suc n) = has_float-acknowledgements n

if_none : (none : Bool) (events : ℕ)
    → some_has_float (cond none None (Some (acknowledgements events))) ≡ false
if_none true events = refl
if_none false events = has_float-acknowledgements events

has_float-known_data : (appid : List ℕ) (app : KnownApp) → has_float (known_data appid app) ≡ false
has_float-known_data appid app =
    let update = optional_member (codes "updatecheck") (update_data app.check) no_members in
    let status = member (codes "status") (string (codes "ok")) update in
    let ping = optional_member (codes "ping") (ping_data app.ping) status in
    let plain_update : members_have_float update ≡ false =
    members_have_float-optional_member (codes "updatecheck") (update_data app.check) no_members
    (some_has_float-update_data app.check) refl in
    let plain_ping : members_have_float ping ≡ false =
    members_have_float-optional_member (codes "ping") (ping_data app.ping) status
    (some_has_float-ping_data app.ping) plain_update in
    members_have_float-optional_member (codes "event") (events_data app.events) ping
    (if_none (eqb app.events 0) app.events) plain_ping

has_float-state_data : (appid : List ℕ) (answer : AppState)
    → has_float (state_data appid answer) ≡ false
has_float-state_data appid (state.Known app) = has_float-known_data appid app
has_float-state_data appid state.Unknown = refl
has_float-state_data appid state.Other = refl

items_have_float-app_data : (apps : List AppReply)
    → items_have_float (items_of (map app_data apps)) ≡ false
items_have_float-app_data [] = refl
items_have_float-app_data (app ∷ apps) =
    rw (has_float-state_data app.appid app.state) (items_have_float-app_data apps)

pub has_float-reply_data : (reply : Reply) → has_float (reply_data reply) ≡ false
unfolding reply_data
has_float-reply_data reply = rw (items_have_float-app_data reply.apps) refl

abbrev are_low : List ℕ → Bool
are_low [] = true
are_low (byte ∷ bytes) = nat_lt byte 128 && are_low bytes

IsAscii-from_low : (bytes : List ℕ) → are_low bytes ≡ true → IsAscii bytes
IsAscii-from_low [] low = IsAscii-nil
IsAscii-from_low (byte ∷ bytes) low =
    let both = and_parts (nat_lt byte 128) (are_low bytes) low in
    IsAscii-cons byte bytes (grind (arith, both.0)) (IsAscii-from_low bytes both.1)

pub IsUtf8-encode_lower : (bytes : List ℕ) → IsUtf8 (encode_lower bytes)
IsUtf8-encode_lower bytes =
    IsUtf8-from_ascii (encode_lower bytes)
    (IsAscii-encode_with lower_digits bytes (IsAscii-from_low lower_digits refl))
