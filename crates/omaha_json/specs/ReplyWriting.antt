-- Which bytes a reply has: the Omaha protocol 3.1, JSON form, after the four bytes that keep a
-- browser from running it as a script. Members are in byte order of their names.
use Rattle.std.specs.Prelude.{ℕ, ◌==◌, List, [], ◌∷◌, ◌++◌, map, replicate, Option, Some, None, option_map, All, ⊤, Bool, if◌then◌else◌, codes}
use Rattle.hex.specs.Hex.{encode_lower}
use Rattle.serde_json.specs.Data.{Data, null, number, unsigned, string, array, object, Items, no_items, item, Members, no_members, member}
use Rattle.serde_json.specs.View.{items_of}
use Rattle.serde_json.specs.Written.{compact_text}
use Rattle.omaha_json.specs.declared.reply.Reply.{Reply}
use Rattle.omaha_json.specs.declared.reply.AppReply.{AppReply}
use Rattle.omaha_json.specs.declared.reply.AppState.{AppState}
use Rattle.omaha_json.specs.declared.reply.AppState.TheVariants as state
use Rattle.omaha_json.specs.declared.reply.KnownApp.{KnownApp}
use Rattle.omaha_json.specs.declared.reply.CheckReply.{CheckReply}
use Rattle.omaha_json.specs.declared.reply.CheckReply.TheVariants as check
use Rattle.omaha_json.specs.declared.reply.Offer.{Offer}
use Rattle.omaha_json.specs.declared.reply.Part.{Part}

-- `{"status":S}`
abbrev pub status_data : List ℕ → Data
status_data status = object (member (codes "status") (string status) no_members)

-- the member, if there is a value
abbrev pub optional_member : List ℕ → Option Data → Members → Members
optional_member name None rest = rest
optional_member name (Some value) rest = member name value rest

-- a file's SHA-256 in lower-case hexadecimal digits
abbrev pub hash_data : Part → Data
hash_data part = string (encode_lower part.hash)

-- a file's name
abbrev pub name_data : Part → Data
name_data part = string part.name

-- a file's length in bytes
abbrev pub size_data : Part → Data
size_data part = number (unsigned part.size)

-- the members of a package: the full one, and beside it the differential's hash, name and size
abbrev pub package_members : List ℕ → Part → Option Part → Members
package_members fp full diff =
    member (codes "fp") (string fp)
    (member (codes "hash_sha256") (hash_data full)
    (optional_member (codes "hashdiff_sha256") (option_map hash_data diff)
    (member (codes "name") (name_data full)
    (optional_member (codes "namediff") (option_map name_data diff)
    (member (codes "size") (size_data full)
    (optional_member (codes "sizediff") (option_map size_data diff)
    no_members))))))

-- rule: Offer
-- the package
abbrev pub package_data : Offer → Data
package_data offer = object (package_members offer.fp offer.full offer.diff)

-- the list of one package
abbrev pub packages_data : Offer → Data
packages_data offer =
    object (member (codes "package") (array (item (package_data offer) no_items)) no_members)

-- the version and its packages
abbrev pub manifest_data : Offer → Data
manifest_data offer = object
    (member (codes "packages") (packages_data offer)
    (member (codes "version") (string offer.version)
    no_members))

-- one address, under its name
abbrev pub address_data : List ℕ → Part → Data
address_data name part = object (member name (string part.codebase) no_members)

-- the differential's address, if there is one
abbrev pub diff_addresses : Option Part → Items
diff_addresses None = no_items
diff_addresses (Some diff) = item (address_data (codes "codebasediff") diff) no_items

-- the address of the full package, and then that of the differential
abbrev pub addresses : Part → Option Part → Items
addresses full diff = item (address_data (codes "codebase") full) (diff_addresses diff)

-- the list of addresses
abbrev pub urls_data : Offer → Data
urls_data offer = object (member (codes "url") (array (addresses offer.full offer.diff)) no_members)

-- an offer
abbrev pub offer_data : Offer → Data
offer_data offer = object
    (member (codes "manifest") (manifest_data offer)
    (member (codes "status") (string (codes "ok"))
    (member (codes "urls") (urls_data offer)
    no_members)))

-- the reply to an update check; another status cannot be written, and counts as `null`
abbrev pub check_data : CheckReply → Data
check_data check.NoUpdate = status_data (codes "noupdate")
check_data check.Internal = status_data (codes "error-internal")
check_data (check.Offered offer) = offer_data offer
check_data check.Other = null

-- the acknowledgements of so many events
abbrev pub acknowledgements : ℕ → Data
acknowledgements events = array (items_of (replicate events (status_data (codes "ok"))))

-- the acknowledgements of the events, if there are any
abbrev pub events_data : ℕ → Option Data
events_data events = if events == 0 then None else Some (acknowledgements events)

-- the acknowledgement of a ping, if there was one
abbrev pub ping_data : Bool → Option Data
ping_data asked = if asked then Some (status_data (codes "ok")) else None

-- the reply to an update check, if there was one
abbrev pub update_data : Option CheckReply → Option Data
update_data check = option_map check_data check

-- the members of a known app
abbrev pub known_members : List ℕ → KnownApp → Members
known_members appid app =
    member (codes "appid") (string appid)
    (member (codes "cohort") (string app.cohort)
    (member (codes "cohortname") (string app.name)
    (optional_member (codes "event") (events_data app.events)
    (optional_member (codes "ping") (ping_data app.ping)
    (member (codes "status") (string (codes "ok"))
    (optional_member (codes "updatecheck") (update_data app.check)
    no_members))))))

-- a known app
abbrev pub known_data : List ℕ → KnownApp → Data
known_data appid app = object (known_members appid app)

-- an unknown app
abbrev pub unknown_data : List ℕ → Data
unknown_data appid = object
    (member (codes "appid") (string appid)
    (member (codes "status") (string (codes "error-unknownApplication"))
    no_members))

-- the reply for one app; another status cannot be written, and counts as `null`
abbrev pub state_data : List ℕ → AppState → Data
state_data appid (state.Known app) = known_data appid app
state_data appid state.Unknown = unknown_data appid
state_data appid state.Other = null

-- the reply for one app, under the client's spelling of its identifier
abbrev pub app_data : AppReply → Data
app_data app = state_data app.appid app.state

-- the replies in the request's order
abbrev pub apps_data : List AppReply → Data
apps_data apps = array (items_of (map app_data apps))

-- the time of the reply
abbrev pub daystart_data : Reply → Data
daystart_data reply = object
    (member (codes "elapsed_days") (number (unsigned reply.days))
    (member (codes "elapsed_seconds") (number (unsigned reply.seconds))
    no_members))

-- the replies, the time and the protocol's version
abbrev pub response_data : Reply → Data
response_data reply = object
    (member (codes "app") (apps_data reply.apps)
    (member (codes "daystart") (daystart_data reply)
    (member (codes "protocol") (string (codes "3.1"))
    no_members)))

-- a reply as a JSON value
unfoldable pub reply_data : Reply → Data
reply_data reply = object (member (codes "response") (response_data reply) no_members)

-- `)]}'` and a line feed
abbrev pub script_guard : List ℕ
script_guard = codes ")]}'" ++ 10 ∷ []

-- rule: Bytes of a reply
-- the bytes of a reply: the guard, and the value with no space in it
abbrev pub reply_bytes : Reply → List ℕ
reply_bytes reply = script_guard ++ compact_text (reply_data reply)

-- the reply to an update check is writable
abbrev pub IsCheckWritable : Option CheckReply → Type 0
IsCheckWritable (Some check.Other) = ⊥
IsCheckWritable _ = ⊤

-- the reply for an app is writable
abbrev pub IsStateWritable : AppState → Type 0
IsStateWritable (state.Known app) = IsCheckWritable app.check
IsStateWritable state.Unknown = ⊤
IsStateWritable state.Other = ⊥

-- each reply is writable: none is `Other`
abbrev pub IsWritable : Reply → Type 0
IsWritable reply = All (λ app. IsStateWritable app.state) reply.apps
