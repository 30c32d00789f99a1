-- The tree of a reply that a server can write reads as that reply.
use Rattle.std.proofs.Common.{◌≡◌, ℕ, zero, suc, ◌^◌, eqb, List, [], ◌∷◌, map, replicate, Bool, true, false, cond, nat_lt, nat_le, Option, Some, None, option_map, option_and_then, unwrap_or, Ok, codes, refl, sym, ap, ◌∙◌, lt-ltb, le-leb, eqb-true}
use Rattle.std.specs.Prelude.{All}
use Rattle.std.specs.Result.{result_ok}
use Rattle.std.proofs.lemmas.List.Elements.{All-head, All-tail}
use Rattle.hex.specs.Hex.{encode_lower}
use Rattle.hex.proofs.HexLemmas.{decode_sized-encode_lower}
use Rattle.serde_json.specs.Data.{Data, object}
use Rattle.serde_json.specs.Events.{items_len}
use Rattle.serde_json.specs.Find.{as_array}
use Rattle.serde_json.specs.View.{items_of}
use Rattle.omaha_json.specs.declared.reply.Reply.{Reply}
use Rattle.omaha_json.specs.declared.reply.AppReply.{AppReply}
use Rattle.omaha_json.specs.declared.reply.AppState.{AppState}
use Rattle.omaha_json.specs.declared.reply.AppState.TheVariants as state
use Rattle.omaha_json.specs.declared.reply.KnownApp.{KnownApp}
use Rattle.omaha_json.specs.declared.reply.CheckReply.{CheckReply}
use Rattle.omaha_json.specs.declared.reply.CheckReply.TheVariants as check
use Rattle.omaha_json.specs.declared.reply.Offer.{Offer}
use Rattle.omaha_json.specs.declared.reply.Part.{Part}
use Rattle.omaha_json.specs.ReplyWriting.{status_data, package_data, offer_data, check_data, acknowledgements, events_data, ping_data, update_data, known_data, state_data, app_data, reply_data, reply_bytes}
use Rattle.omaha_json.specs.Soundness.{IsHash, IsSize, IsPart, IsOffer, IsCheck, IsOptionalCheck, IsKnown, IsState, IsApp, IsSound}
use Rattle.omaha_json.specs.ReplyReading.{string_at, size_from, hash_from, part_of, full_of, diff_of, offer_of, check_of, known_of, app_of, apps_from, apps_of, reply_of, reply_of_bytes}
use Rattle.omaha_json.proofs.ReadBack.{json_of-compact}
use Rattle.omaha_json.proofs.PlainReplies.{known_members, reply_plain, reply_depth}

size_kept : (size : ℕ) → IsSize size → size_from size ≡ Some size
size_kept size h =
    let low : nat_lt 0 size ≡ true = lt-ltb 0 size h.0 in
    let high : nat_le size (2 ^ 40) ≡ true = le-leb size (2 ^ 40) h.1 in
    rw (low, high) refl

hash_kept : (hash : List ℕ) → IsHash hash → hash_from (encode_lower hash) ≡ Some hash
hash_kept hash h = ap result_ok (decode_sized-encode_lower hash 32 h.0 h.1)

full_back : (index : ℕ) (version fp : List ℕ) (full : Part) (diff : Option Part)
    → let offer : Offer = record { version = version; fp = fp; full = full; diff = diff } in
    IsPart full → full_of index (offer_data offer) (package_data offer) ≡ Ok full
unfolding full_of part_of
full_back index version fp full None h =
    rw (size_kept full.size h.2, hash_kept full.hash h.3) refl
full_back index version fp full (Some diff) h =
    rw (size_kept full.size h.2, hash_kept full.hash h.3) refl

diff_back : (index : ℕ) (version fp : List ℕ) (full : Part) (diff : Option Part)
    → let offer : Offer = record { version = version; fp = fp; full = full; diff = diff } in
    IsOffer offer → diff_of index (offer_data offer) (package_data offer) ≡ Ok diff
unfolding part_of
diff_back index version fp full None h = refl
diff_back index version fp full (Some diff) h =
    rw (size_kept diff.size h.3.2, hash_kept diff.hash h.3.3) refl

offer_back : (index : ℕ) (version fp : List ℕ) (full : Part) (diff : Option Part)
    → let offer : Offer = record { version = version; fp = fp; full = full; diff = diff } in
    IsOffer offer → offer_of index (offer_data offer) ≡ Ok offer
unfolding offer_of
offer_back index version fp full None h =
    rw (full_back index version fp full None h.2) refl
offer_back index version fp full (Some diff) h =
    rw (
      full_back index version fp full (Some diff) h.2,
      diff_back index version fp full (Some diff) h,
    ) refl

check_back : (index : ℕ) (reply : CheckReply) → IsCheck reply
    → check_of index (check_data reply) ≡ Ok reply
check_back index check.NoUpdate h = refl
check_back index check.Internal h = refl
check_back index (check.Offered offer) h =
    rw (offer_back index offer.version offer.fp offer.full offer.diff h) refl
check_back index check.Other h = absurd h

-- how many events a value lists, if there is one
abbrev some_events : Option Data → ℕ
some_events value = unwrap_or (option_map items_len (option_and_then as_array value)) 0

items_len-acknowledged : (events : ℕ)
    → items_len (items_of (replicate events (status_data (codes "ok")))) ≡ events
items_len-acknowledged zero = refl
items_len-acknowledged (suc n) = ap suc (items_len-acknowledged n)

events_kept : (none : Bool) (events : ℕ) → eqb events 0 ≡ none
    → some_events (cond none None (Some (acknowledgements events))) ≡ events
events_kept true events is = sym (eqb-true events 0 is)
events_kept false events is = items_len-acknowledged events

-- a known app of these parts
abbrev known_of_parts : List ℕ → List ℕ → Bool → Option CheckReply → ℕ → KnownApp
known_of_parts cohort name ping check events =
    record { cohort = cohort; name = name; ping = ping; events = events; check = check }

parts_back : (index : ℕ) (appid cohort name : List ℕ) (event : Option Data) (ping : Bool)
    (check : Option CheckReply) → IsOptionalCheck check
    → known_of index
    (object (known_members appid cohort name event (ping_data ping) (update_data check)))
    ≡ Ok (state.Known (known_of_parts cohort name ping check (some_events event)))
parts_back index appid cohort name None true None h = refl
parts_back index appid cohort name None false None h = refl
parts_back index appid cohort name (Some event) true None h = refl
parts_back index appid cohort name (Some event) false None h = refl
parts_back index appid cohort name None true (Some reply) h = rw (check_back index reply h) refl
parts_back index appid cohort name None false (Some reply) h = rw (check_back index reply h) refl
parts_back index appid cohort name (Some event) true (Some reply) h =
    rw (check_back index reply h) refl
parts_back index appid cohort name (Some event) false (Some reply) h =
    rw (check_back index reply h) refl

status_kept : (appid cohort name : List ℕ) (event ping update : Option Data)
    → string_at (codes "status") (object (known_members appid cohort name event ping update))
    ≡ Some (codes "ok")
status_kept appid cohort name None None update = refl
status_kept appid cohort name None (Some ping) update = refl
status_kept appid cohort name (Some event) None update = refl
status_kept appid cohort name (Some event) (Some ping) update = refl

known_back : (index : ℕ) (appid : List ℕ) (app : KnownApp) → IsKnown app
    → known_of index (known_data appid app) ≡ Ok (state.Known app)
known_back index appid app h =
    parts_back index appid app.cohort app.name (events_data app.events) app.ping app.check h.2
    ∙ ap (λ events. Ok (state.Known (known_of_parts app.cohort app.name app.ping app.check events)))
    (events_kept (eqb app.events 0) app.events refl)

app_back : (index : ℕ) (appid : List ℕ) (app : AppState) → IsState app
    → app_of index (state_data appid app) ≡ Ok (record { appid = appid; state = app })
unfolding app_of
app_back index appid (state.Known app) h =
    rw (
      status_kept appid app.cohort app.name (events_data app.events) (ping_data app.ping) (update_data app.check),
      known_back index appid app h,
    ) refl
app_back index appid state.Unknown h = refl
app_back index appid state.Other h = absurd h

apps_back : (index : ℕ) (apps : List AppReply) → All IsApp apps
    → apps_from index (items_of (map app_data apps)) ≡ Ok apps
unfolding apps_from
apps_back index [] all = refl
apps_back index (app ∷ apps) all =
    rw (
      app_back index app.appid app.state (All-head IsApp app apps all).1,
      apps_back (suc index) apps (All-tail IsApp app apps all),
    ) refl

reply_back : (reply : Reply) → IsSound reply → reply_of (reply_data reply) ≡ Ok reply
unfolding reply_of reply_data apps_of
reply_back reply h = rw (apps_back 0 reply.apps h.2) refl

-- the bytes of a reply that a server can write read as that reply
pub text_back : (reply : Reply) → IsSound reply → reply_of_bytes (reply_bytes reply) ≡ Ok reply
unfolding reply_of_bytes
text_back reply h =
    rw (
      json_of-compact (reply_data reply) (reply_plain reply h) (reply_depth reply),
      reply_back reply h,
    ) refl
