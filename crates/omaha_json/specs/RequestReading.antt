-- Which request the bytes are: the Omaha protocol 3.1, JSON form, as far as this server reads it. A
-- string that is no request has one fault, the first in the order J1 to J5.
use Rattle.std.specs.Prelude.{ℕ, suc, List, [], ◌∷◌, length, ◌&&◌, nat_lt, nat_le, if◌then◌else◌, Option, Some, None, option_map, option_and_then, is_some, unwrap_or, Result, Ok, Err, codes}
use Rattle.std.specs.Option.{ok_or}
use Rattle.std.specs.Str.{bytes_eq, is_utf8}
use Rattle.serde_json.specs.Data.{Data, Items, no_items, item}
use Rattle.serde_json.specs.Read.{read}
use Rattle.serde_json.specs.Find.{get, at, as_str, as_array}
use Rattle.serde_json.specs.Events.{items_len}
use Rattle.omaha_json.specs.Members.{string_or_empty_at, object_at, true_at}
use Rattle.omaha_json.specs.declared.request.Request.{Request}
use Rattle.omaha_json.specs.declared.request.AppAsk.{AppAsk}
use Rattle.omaha_json.specs.declared.request.Check.{Check}
use Rattle.omaha_json.specs.declared.fault.RequestFault.{RequestFault}
use Rattle.omaha_json.specs.declared.fault.RequestFault.TheVariants.{NotJson, NoRequest, BadProtocol, BadApp, TooManyApps}

-- the second step, if the first gave a value
infixl 10 ◌>>=◌
abbrev pub ◌>>=◌ : {X Y : Type 0}
    → Result X RequestFault → (X → Result Y RequestFault) → Result Y RequestFault
Ok x >>= step = step x
Err fault >>= step = Err fault

-- rule: JSON of a request
-- the JSON value that the bytes are, if they are UTF-8 and JSON as `serde_json` takes it
abbrev pub json_of : List ℕ → Option Data
json_of text = if is_utf8 text then read text else None

-- the string, if it is an identifier: one of 1 to 256 bytes
abbrev pub appid_from : List ℕ → Option (List ℕ)
appid_from text = if nat_lt 0 (length text) && nat_le (length text) 256 then Some text else None

-- rule: Identifier in a request
-- the identifier that an element of `app` names
abbrev pub appid_of : Data → Option (List ℕ)
appid_of app = option_and_then appid_from (option_and_then as_str (get (codes "appid") app))

-- the first of the installed packages, `packages.package[0]`
abbrev pub first_package : Data → Option Data
first_package app =
    option_and_then (at 0) (option_and_then (get (codes "package")) (get (codes "packages") app))

-- the fingerprint of the first installed package, else the empty string
abbrev pub fp_of : Data → List ℕ
fp_of app = unwrap_or (option_map (string_or_empty_at (codes "fp")) (first_package app)) []

-- what is said with an update check
abbrev pub check_with : Data → Check
check_with asked = record {
  disabled = true_at (codes "updatedisabled") asked;
  rollback = true_at (codes "rollback_allowed") asked;
  prefix = string_or_empty_at (codes "targetversionprefix") asked;
}

-- the update check, if `updatecheck` is an object
abbrev pub check_of : Data → Option Check
check_of app = option_map check_with (object_at (codes "updatecheck") app)

-- how many elements `event` has, if it is a list, else 0
abbrev pub event_count_of : Data → ℕ
event_count_of app =
    unwrap_or (option_map items_len (option_and_then as_array (get (codes "event") app))) 0

-- rule: Ask
-- what is asked for the app of this identifier
abbrev pub ask_with : Data → List ℕ → AppAsk
ask_with app appid = record {
  appid = appid;
  version = string_or_empty_at (codes "version") app;
  fp = fp_of app;
  cohort = string_or_empty_at (codes "cohort") app;
  hint = string_or_empty_at (codes "cohorthint") app;
  check = check_of app;
  ping = is_some (object_at (codes "ping") app);
  events = event_count_of app;
}

-- what the element of that index asks; one without an identifier is J4 there
unfoldable pub ask_of : ℕ → Data → Result AppAsk RequestFault
ask_of index app = do
  appid ← ok_or (appid_of app) (BadApp index)
  Ok (ask_with app appid)

-- what the elements from that index on ask, or the first fault of one
unfoldable pub asks_from : ℕ → Items → Result (List AppAsk) RequestFault
asks_from index no_items = Ok []
asks_from index (item app apps) = do
  ask ← ask_of index app
  asks ← asks_from (suc index) apps
  Ok (ask ∷ asks)

-- the asks, if they are at most 256
abbrev pub within_limit : List AppAsk → Result (List AppAsk) RequestFault
within_limit asks = if nat_le (length asks) 256 then Ok asks else Err TooManyApps

-- what `app` asks: nothing if it is missing, J4 of index 0 if it is no list
unfoldable pub asks_of : Option Data → Result (List AppAsk) RequestFault
asks_of None = Ok []
asks_of (Some listed) = do
  apps ← ok_or (as_array listed) (BadApp 0)
  asks ← asks_from 0 apps
  within_limit asks

-- the request, if it speaks protocol 3.1
abbrev pub spoken_request : Data → Option Data
spoken_request request =
    if bytes_eq (string_or_empty_at (codes "protocol") request) (codes "3.1") then Some request else None

-- the request of a JSON value, or its first fault after J1
unfoldable pub request_of : Data → Result Request RequestFault
request_of json = do
  found ← ok_or (object_at (codes "request") json) NoRequest
  request ← ok_or (spoken_request found) BadProtocol
  apps ← asks_of (get (codes "app") request)
  Ok (record { session = string_or_empty_at (codes "sessionid") request; apps = apps })

-- rule: Faults of a request
-- the request that the bytes are, or their first fault
unfoldable pub request_of_bytes : List ℕ → Result Request RequestFault
request_of_bytes text = do
  json ← ok_or (json_of text) NotJson
  request_of json
