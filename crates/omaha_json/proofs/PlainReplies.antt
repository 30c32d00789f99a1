-- The tree of a reply that a server can write is plain, and nests little.
use Rattle.std.proofs.Common.{◌≡◌, ℕ, zero, suc, ◌<◌, ◌≤◌, ◌^◌, eqb, List, [], ◌∷◌, map, replicate, Bool, true, false, cond, IsUtf8, Option, Some, None, option_map, unwrap_or, codes, refl, arith, ltb-true}
use Rattle.std.specs.Prelude.{All, ⊤}
use Rattle.std.specs.Str.{IsAscii}
use Rattle.std.proofs.lemmas.Bool.{and_parts}
use Rattle.std.proofs.lemmas.Str.Ascii.{IsAscii-nil, IsAscii-cons}
use Rattle.std.proofs.lemmas.Str.{IsUtf8-from_ascii}
use Rattle.std.proofs.lemmas.List.Elements.{All-head, All-tail}
use Rattle.json.proofs.Printed.Utf8.{are_ascii, IsUtf8-are_ascii}
use Rattle.hex.specs.Hex.{encode_lower, lower_digits}
use Rattle.hex.proofs.HexLemmas.{IsAscii-encode_with}
use Rattle.serde_json.specs.Data.{Data, string, object, Members, no_members, member, depth, items_depth, members_depth}
use Rattle.serde_json.specs.Read.{max_depth}
use Rattle.serde_json.specs.View.{items_of}
use Rattle.omaha_json.specs.declared.reply.Reply.{Reply}
use Rattle.omaha_json.specs.declared.reply.AppReply.{AppReply}
use Rattle.omaha_json.specs.declared.reply.AppState.{AppState}
use Rattle.omaha_json.specs.declared.reply.AppState.TheVariants as state
use Rattle.omaha_json.specs.declared.reply.KnownApp.{KnownApp}
use Rattle.omaha_json.specs.declared.reply.CheckReply.{CheckReply}
use Rattle.omaha_json.specs.declared.reply.CheckReply.TheVariants as check
use Rattle.omaha_json.specs.declared.reply.Offer.{Offer}
use Rattle.omaha_json.specs.declared.reply.Part.{Part}
use Rattle.omaha_json.specs.ReplyWriting.{optional_member, status_data, package_data, packages_data, manifest_data, address_data, urls_data, offer_data, check_data, acknowledgements, events_data, ping_data, update_data, known_data, state_data, app_data, apps_data, daystart_data, reply_data}
use Rattle.omaha_json.specs.Soundness.{IsPart, IsOffer, IsCheck, IsOptionalCheck, IsKnown, IsState, IsApp, IsSound}
use Rattle.omaha_json.proofs.ReadBack.{rebuilt, IsPlain, ItemsArePlain, MembersArePlain}

-- a value is plain, if there is one
abbrev SomePlain : Option Data → Type 0
SomePlain None = ⊤
SomePlain (Some value) = IsPlain value

key : (name : List ℕ) → are_ascii name ≡ true → IsUtf8 name
key name ascii = IsUtf8-are_ascii name ascii

optional_plain : (name : List ℕ) (value : Option Data) (rest : Members)
    → IsUtf8 name → SomePlain value → MembersArePlain rest
    → MembersArePlain (optional_member name value rest)
optional_plain name None rest text plain others = others
optional_plain name (Some value) rest text plain others = (text, plain, others)

ascii_of : (text : List ℕ) → are_ascii text ≡ true → IsAscii text
ascii_of [] is = IsAscii-nil
ascii_of (byte ∷ text) is =
    let parts = and_parts _ _ is in
    IsAscii-cons byte text (ltb-true _ _ parts.0) (ascii_of text parts.1)

hash_plain : (hash : List ℕ) → IsUtf8 (encode_lower hash)
hash_plain hash = IsUtf8-from_ascii (encode_lower hash) (IsAscii-encode_with lower_digits hash (ascii_of lower_digits refl))

size_plain : (size : ℕ) → (0 < size) × (size ≤ 2 ^ 40) → size < 2 ^ 64
size_plain size h = omega (arith, h.1)

package_plain : (version fp : List ℕ) (full : Part) (diff : Option Part)
    → let offer : Offer = record { version = version; fp = fp; full = full; diff = diff } in
    IsOffer offer → IsPlain (package_data offer)
package_plain version fp full None h =
    let part = h.2 in (
      (
        key (codes "fp") refl,
        h.1,
        (
          key (codes "hash_sha256") refl,
          hash_plain full.hash,
          (
            key (codes "name") refl,
            part.1,
            (key (codes "size") refl, size_plain full.size part.2, tt),
          ),
        ),
      ),
      refl,
    )
package_plain version fp full (Some diff) h =
    let part = h.2 in
    let other = h.3 in (
      (
        key (codes "fp") refl,
        h.1,
        (
          key (codes "hash_sha256") refl,
          hash_plain full.hash,
          (
            key (codes "hashdiff_sha256") refl,
            hash_plain diff.hash,
            (
              key (codes "name") refl,
              part.1,
              (
                key (codes "namediff") refl,
                other.1,
                (
                  key (codes "size") refl,
                  size_plain full.size part.2,
                  (key (codes "sizediff") refl, size_plain diff.size other.2, tt),
                ),
              ),
            ),
          ),
        ),
      ),
      refl,
    )

packages_plain : (offer : Offer) → IsOffer offer → IsPlain (packages_data offer)
packages_plain offer h =
    let bundle = package_plain offer.version offer.fp offer.full offer.diff h in
    ((key (codes "package") refl, (bundle, tt), tt), refl)

manifest_plain : (offer : Offer) → IsOffer offer → IsPlain (manifest_data offer)
manifest_plain offer h = (
  (
    key (codes "packages") refl,
    packages_plain offer h,
    (key (codes "version") refl, h.0, tt),
  ),
  refl,
)

address_plain : (name : List ℕ) (part : Part) → IsUtf8 name → IsPart part
    → IsPlain (address_data name part)
address_plain name part text h = ((text, h.0, tt), refl)

urls_plain : (version fp : List ℕ) (full : Part) (diff : Option Part)
    → let offer : Offer = record { version = version; fp = fp; full = full; diff = diff } in
    IsOffer offer → IsPlain (urls_data offer)
urls_plain version fp full None h =
    let first = address_plain (codes "codebase") full (key (codes "codebase") refl) h.2 in
    ((key (codes "url") refl, (first, tt), tt), refl)
urls_plain version fp full (Some diff) h =
    let first = address_plain (codes "codebase") full (key (codes "codebase") refl) h.2 in
    let second = address_plain (codes "codebasediff") diff (key (codes "codebasediff") refl) h.3 in
    ((key (codes "url") refl, (first, (second, tt)), tt), refl)

offer_plain : (offer : Offer) → IsOffer offer → IsPlain (offer_data offer)
offer_plain offer h =
    let urls = urls_plain offer.version offer.fp offer.full offer.diff h in (
      (
        key (codes "manifest") refl,
        manifest_plain offer h,
        (
          key (codes "status") refl,
          key (codes "ok") refl,
          (key (codes "urls") refl, urls, tt),
        ),
      ),
      refl,
    )

status_plain : (status : List ℕ) → IsUtf8 status → IsPlain (status_data status)
status_plain status h = ((key (codes "status") refl, h, tt), refl)

check_plain : (reply : CheckReply) → IsCheck reply → IsPlain (check_data reply)
check_plain check.NoUpdate h = status_plain (codes "noupdate") (key (codes "noupdate") refl)
check_plain check.Internal h =
    status_plain (codes "error-internal") (key (codes "error-internal") refl)
check_plain (check.Offered offer) h = offer_plain offer h
check_plain check.Other h = absurd h

update_plain : (reply : Option CheckReply) → IsOptionalCheck reply → SomePlain (update_data reply)
update_plain None h = tt
update_plain (Some reply) h = check_plain reply h

ping_plain : (asked : Bool) → SomePlain (ping_data asked)
ping_plain true = status_plain (codes "ok") (key (codes "ok") refl)
ping_plain false = tt

acknowledged_plain : (events : ℕ)
    → ItemsArePlain (items_of (replicate events (status_data (codes "ok"))))
acknowledged_plain zero = tt
acknowledged_plain (suc n) = (status_plain (codes "ok") (key (codes "ok") refl), acknowledged_plain n)

events_plain : (none : Bool) (events : ℕ)
    → SomePlain (cond none None (Some (acknowledgements events)))
events_plain true events = tt
events_plain false events = acknowledged_plain events

-- the members of a known app
abbrev pub known_members : List ℕ → List ℕ → List ℕ
    → Option Data → Option Data → Option Data → Members
known_members appid cohort name event ping update =
    member (codes "appid") (string appid)
    (member (codes "cohort") (string cohort)
    (member (codes "cohortname") (string name)
    (optional_member (codes "event") event
    (optional_member (codes "ping") ping
    (member (codes "status") (string (codes "ok"))
    (optional_member (codes "updatecheck") update no_members))))))

known_rebuilt : (appid cohort name : List ℕ) (event ping update : Option Data)
    → rebuilt (known_members appid cohort name event ping update) no_members
    ≡ known_members appid cohort name event ping update
known_rebuilt appid cohort name None None None = refl
known_rebuilt appid cohort name None None (Some u) = refl
known_rebuilt appid cohort name None (Some p) None = refl
known_rebuilt appid cohort name None (Some p) (Some u) = refl
known_rebuilt appid cohort name (Some e) None None = refl
known_rebuilt appid cohort name (Some e) None (Some u) = refl
known_rebuilt appid cohort name (Some e) (Some p) None = refl
known_rebuilt appid cohort name (Some e) (Some p) (Some u) = refl

known_plain : (appid : List ℕ) (app : KnownApp) → IsUtf8 appid → IsKnown app
    → IsPlain (known_data appid app)
known_plain appid app text h =
    let update = optional_member (codes "updatecheck") (update_data app.check) no_members in
    let status = member (codes "status") (string (codes "ok")) update in
    let ping = optional_member (codes "ping") (ping_data app.ping) status in
    let plain_update = optional_plain (codes "updatecheck") (update_data app.check) no_members
    (key (codes "updatecheck") refl) (update_plain app.check h.2) tt in
    let plain_ping = optional_plain (codes "ping") (ping_data app.ping) status
    (key (codes "ping") refl) (ping_plain app.ping)
    (key (codes "status") refl, key (codes "ok") refl, plain_update) in
    let plain_event = optional_plain (codes "event") (events_data app.events) ping
    (key (codes "event") refl) (events_plain (eqb app.events 0) app.events) plain_ping in (
      (
        key (codes "appid") refl,
        text,
        (
          key (codes "cohort") refl,
          h.0,
          (key (codes "cohortname") refl, h.1, plain_event),
        ),
      ),
      known_rebuilt appid app.cohort app.name (events_data app.events) (ping_data app.ping) (update_data app.check),
    )

state_plain : (appid : List ℕ) (app : AppState) → IsUtf8 appid → IsState app
    → IsPlain (state_data appid app)
state_plain appid (state.Known app) text h = known_plain appid app text h
state_plain appid state.Unknown text h = (
  (
    key (codes "appid") refl,
    text,
    (key (codes "status") refl, key (codes "error-unknownApplication") refl, tt),
  ),
  refl,
)
state_plain appid state.Other text h = absurd h

apps_plain : (apps : List AppReply) → All IsApp apps → ItemsArePlain (items_of (map app_data apps))
apps_plain [] h = tt
apps_plain (app ∷ apps) h =
    let first = All-head IsApp app apps h in
    (state_plain app.appid app.state first.0 first.1, apps_plain apps (All-tail IsApp app apps h))

daystart_plain : (reply : Reply) → IsSound reply → IsPlain (daystart_data reply)
daystart_plain reply h = (
  (
    key (codes "elapsed_days") refl,
    h.0,
    (key (codes "elapsed_seconds") refl, h.1, tt),
  ),
  refl,
)

-- the members of a response
abbrev response_data : Reply → Data
response_data reply = object
    (member (codes "app") (apps_data reply.apps)
    (member (codes "daystart") (daystart_data reply)
    (member (codes "protocol") (string (codes "3.1"))
    no_members)))

response_plain : (reply : Reply) → IsSound reply → IsPlain (response_data reply)
response_plain reply h = (
  (
    key (codes "app") refl,
    apps_plain reply.apps h.2,
    (
      key (codes "daystart") refl,
      daystart_plain reply h,
      (key (codes "protocol") refl, key (codes "3.1") refl, tt),
    ),
  ),
  refl,
)

pub reply_plain : (reply : Reply) → IsSound reply → IsPlain (reply_data reply)
unfolding reply_data
reply_plain reply h = ((key (codes "response") refl, response_plain reply h, tt), refl)

-- ---- depth

-- how deep a value nests, if there is one
abbrev some_depth : Option Data → ℕ
some_depth value = unwrap_or (option_map depth value) 0

optional_depth : (name : List ℕ) (value : Option Data) (rest : Members) (n : ℕ)
    → some_depth value ≤ n → members_depth rest ≤ n
    → members_depth (optional_member name value rest) ≤ n
optional_depth name None rest n low rest_low = rest_low
optional_depth name (Some value) rest n low rest_low = omega arith

offer_depth : (version fp : List ℕ) (full : Part) (diff : Option Part)
    → let offer : Offer = record { version = version; fp = fp; full = full; diff = diff } in
    depth (offer_data offer) ≤ 5
offer_depth version fp full None = omega arith
offer_depth version fp full (Some diff) = omega arith

check_depth : (reply : CheckReply) → depth (check_data reply) ≤ 5
check_depth check.NoUpdate = omega arith
check_depth check.Internal = omega arith
check_depth (check.Offered offer) = offer_depth offer.version offer.fp offer.full offer.diff
check_depth check.Other = omega arith

update_depth : (reply : Option CheckReply) → some_depth (update_data reply) ≤ 5
update_depth None = omega arith
update_depth (Some reply) = check_depth reply

ping_depth : (asked : Bool) → some_depth (ping_data asked) ≤ 5
ping_depth true = omega arith
ping_depth false = omega arith

acknowledged_depth : (events : ℕ)
    → items_depth (items_of (replicate events (status_data (codes "ok")))) ≤ 1
acknowledged_depth zero = omega arith
acknowledged_depth (suc n) = omega (arith, acknowledged_depth n)

events_depth : (none : Bool) (events : ℕ)
    → some_depth (cond none None (Some (acknowledgements events))) ≤ 5
events_depth true events = omega arith
events_depth false events = omega (arith, acknowledged_depth events)

known_depth : (appid : List ℕ) (app : KnownApp) → depth (known_data appid app) ≤ 6
known_depth appid app =
    let update = optional_member (codes "updatecheck") (update_data app.check) no_members in
    let status = member (codes "status") (string (codes "ok")) update in
    let ping = optional_member (codes "ping") (ping_data app.ping) status in
    let low_end : members_depth no_members ≤ 5 = omega arith in
    let low_update : members_depth update ≤ 5 =
    optional_depth (codes "updatecheck") (update_data app.check) no_members 5 (update_depth app.check) low_end in
    let low_status : members_depth status ≤ 5 = omega arith in
    let low_ping : members_depth ping ≤ 5 =
    optional_depth (codes "ping") (ping_data app.ping) status 5 (ping_depth app.ping) low_status in
    let low_event = optional_depth (codes "event") (events_data app.events) ping 5
    (events_depth (eqb app.events 0) app.events) low_ping in
    omega (arith, low_event)

state_depth : (appid : List ℕ) (app : AppState) → depth (state_data appid app) ≤ 6
state_depth appid (state.Known app) = known_depth appid app
state_depth appid state.Unknown = omega arith
state_depth appid state.Other = omega arith

apps_depth : (apps : List AppReply) → items_depth (items_of (map app_data apps)) ≤ 6
apps_depth [] = omega arith
apps_depth (app ∷ apps) = omega (arith, state_depth app.appid app.state, apps_depth apps)

pub reply_depth : (reply : Reply) → depth (reply_data reply) ≤ max_depth
unfolding reply_data
reply_depth reply = omega (arith, apps_depth reply.apps)
