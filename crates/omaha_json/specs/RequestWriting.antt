-- Which bytes a request has: the Omaha protocol 3.1, JSON form, with the members that this project's
-- server reads. Members are in byte order of their names.
use Rattle.std.specs.Prelude.{ℕ, ◌==◌, ◌<◌, ◌≤◌, List, map, replicate, length, Option, Some, None, option_map, All, Bool, if◌then◌else◌, codes}
use Rattle.serde_json.specs.Data.{Data, boolean, string, array, object, no_items, item, Members, no_members, member, put}
use Rattle.serde_json.specs.View.{items_of}
use Rattle.serde_json.specs.Written.{compact_text}
use Rattle.omaha_json.specs.declared.request.Request.{Request}
use Rattle.omaha_json.specs.declared.request.AppAsk.{AppAsk}
use Rattle.omaha_json.specs.declared.request.Check.{Check}
use Rattle.omaha_json.specs.ReplyWriting.{optional_member}

-- the members, with the value at that name if there is one
abbrev pub with_some : List ℕ → Option Data → Members → Members
with_some name None members = members
with_some name (Some value) members = put name value members

-- a list of so many empty objects
abbrev pub blanks : ℕ → Data
blanks count = array (items_of (replicate count (object no_members)))

-- the events, of which only their number is said, if there are any
abbrev pub events_data : ℕ → Option Data
events_data events = if events == 0 then None else Some (blanks events)

-- the ping, if there is one
abbrev pub ping_data : Bool → Option Data
ping_data sent = if sent then Some (object no_members) else None

-- an update check
abbrev pub check_data : Check → Data
check_data check = object
    (member (codes "rollback_allowed") (boolean check.rollback)
    (member (codes "targetversionprefix") (string check.prefix)
    (member (codes "updatedisabled") (boolean check.disabled)
    no_members)))

-- the installed package, by its fingerprint
abbrev pub package_data : List ℕ → Data
package_data fp = object (member (codes "fp") (string fp) no_members)

-- the list of one installed package
abbrev pub packages_data : List ℕ → Data
packages_data fp =
    object (member (codes "package") (array (item (package_data fp) no_items)) no_members)

-- what is asked for one app
abbrev pub ask_data : AppAsk → Data
ask_data ask = object
    (member (codes "appid") (string ask.appid)
    (member (codes "cohort") (string ask.cohort)
    (member (codes "cohorthint") (string ask.hint)
    (optional_member (codes "event") (events_data ask.events)
    (member (codes "packages") (packages_data ask.fp)
    (optional_member (codes "ping") (ping_data ask.ping)
    (optional_member (codes "updatecheck") (option_map check_data ask.check)
    (member (codes "version") (string ask.version)
    no_members))))))))

-- the members, with what is asked for one app
abbrev pub with_ask : AppAsk → Members → Members
with_ask ask members =
    put (codes "version") (string ask.version)
    (with_some (codes "updatecheck") (option_map check_data ask.check)
    (with_some (codes "ping") (ping_data ask.ping)
    (put (codes "packages") (packages_data ask.fp)
    (with_some (codes "event") (events_data ask.events)
    (put (codes "cohorthint") (string ask.hint)
    (put (codes "cohort") (string ask.cohort)
    (put (codes "appid") (string ask.appid) members)))))))

-- what is asked for the apps, in order
abbrev pub asks_data : List AppAsk → Data
asks_data asks = array (items_of (map ask_data asks))

-- a request as a JSON value
unfoldable pub request_data : Request → Data
request_data request = object (member (codes "request") (object
    (member (codes "app") (asks_data request.apps)
    (member (codes "protocol") (string (codes "3.1"))
    (member (codes "sessionid") (string request.session)
    no_members)))) no_members)

-- rule: Bytes of a request
-- the bytes of a request: the value with no space in it
abbrev pub request_bytes : Request → List ℕ
request_bytes request = compact_text (request_data request)

-- the identifier has 1 to 256 bytes
abbrev pub IsAppid : List ℕ → Type 0
IsAppid appid = (0 < length appid) × (length appid ≤ 256)

-- a server accepts the request: at most 256 apps, each with an identifier of 1 to 256 bytes
abbrev pub IsWritable : Request → Type 0
IsWritable request = (length request.apps ≤ 256) × All (λ ask. IsAppid ask.appid) request.apps
