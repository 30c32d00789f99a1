-- Which reply the bytes are: the Omaha protocol 3.1, JSON form, as far as this client reads it. Bytes
-- that are no reply have one fault, the first in the order K1 to K5.
use Rattle.std.specs.Prelude.{ℕ, suc, ◌^◌, List, [], ◌∷◌, take, drop, ◌&&◌, nat_lt, nat_le, Bool, if◌then◌else◌, Option, Some, None, option_map, option_and_then, is_some, unwrap_or, Result, Ok, Err, codes}
use Rattle.std.specs.Option.{ok_or, option_or}
use Rattle.std.specs.Result.{result_ok}
use Rattle.std.specs.Str.{bytes_eq}
use Rattle.hex.specs.Hex.{decode_sized}
use Rattle.serde_json.specs.Data.{Data, Items, no_items, item}
use Rattle.serde_json.specs.Find.{get, as_number, as_u64, as_str, as_array}
use Rattle.omaha_json.specs.Members.{string_or_empty_at, object_at}
use Rattle.omaha_json.specs.RequestReading.{json_of, event_count_of}
use Rattle.omaha_json.specs.declared.reply.Reply.{Reply}
use Rattle.omaha_json.specs.declared.reply.AppReply.{AppReply}
use Rattle.omaha_json.specs.declared.reply.AppState.{AppState}
use Rattle.omaha_json.specs.declared.reply.AppState.TheVariants as state
use Rattle.omaha_json.specs.declared.reply.KnownApp.{KnownApp}
use Rattle.omaha_json.specs.declared.reply.CheckReply.{CheckReply}
use Rattle.omaha_json.specs.declared.reply.CheckReply.TheVariants as check
use Rattle.omaha_json.specs.declared.reply.Offer.{Offer}
use Rattle.omaha_json.specs.declared.reply.Part.{Part}
use Rattle.omaha_json.specs.declared.client.fault.ReplyFault.{ReplyFault}
use Rattle.omaha_json.specs.declared.client.fault.ReplyFault.TheVariants.{NoPrefix, NotJson, NoResponse, BadProtocol, BadOffer}

-- the second step, if the first gave a value
infixl 10 ◌>>=◌
abbrev pub ◌>>=◌ : {X Y : Type 0}
    → Result X ReplyFault → (X → Result Y ReplyFault) → Result Y ReplyFault
Ok x >>= step = step x
Err fault >>= step = Err fault

-- the member that is a string, if there is one
abbrev pub string_at : List ℕ → Data → Option (List ℕ)
string_at name json = option_and_then as_str (get name json)

-- a whole number below 2^64
abbrev pub count_of : Data → Option ℕ
count_of json = option_and_then as_u64 (as_number json)

-- the member that is a whole number below 2^64, else 0
abbrev pub count_at : List ℕ → Data → ℕ
count_at name json = unwrap_or (option_and_then count_of (get name json)) 0

-- the number, if it is the length of a package: 1 to 2^40 bytes
abbrev pub size_from : ℕ → Option ℕ
size_from size = if nat_lt 0 size && nat_le size (2 ^ 40) then Some size else None

-- the member that is the length of a package, if there is one
abbrev pub size_at : List ℕ → Data → Option ℕ
size_at name json = option_and_then size_from (option_and_then count_of (get name json))

-- the 32 bytes of 64 hexadecimal digits of either case
abbrev pub hash_from : List ℕ → Option (List ℕ)
hash_from digits = result_ok (decode_sized digits 32)

-- the member that is a SHA-256 in hexadecimal digits, if there is one
abbrev pub hash_at : List ℕ → Data → Option (List ℕ)
hash_at name json = option_and_then hash_from (string_at name json)

-- the first string that an item has under that name
abbrev pub first_string : List ℕ → Items → Option (List ℕ)
first_string name no_items = None
first_string name (item json items) = option_or (string_at name json) (first_string name items)

-- the list `urls.url` of an update
abbrev pub urls_of : Data → Option Items
urls_of update = option_and_then as_array
    (option_and_then (get (codes "url")) (get (codes "urls") update))

-- rule: Address in a reply
-- the first address of that name, `codebase` or `codebasediff`
abbrev pub address_of : List ℕ → Data → Option (List ℕ)
address_of name update = option_and_then (first_string name) (urls_of update)

-- the item, if it is the only one
abbrev pub only_item : Items → Option Data
only_item (item json no_items) = Some json
only_item items = None

-- the only package of a manifest, `packages.package[0]`
abbrev pub package_of : Data → Option Data
package_of manifest = option_and_then only_item (option_and_then as_array
    (option_and_then (get (codes "package")) (get (codes "packages") manifest)))

-- a file that may be downloaded, under the names of its three members
unfoldable pub part_of : ℕ → List ℕ → Data → List ℕ → List ℕ → List ℕ → Result Part ReplyFault
part_of index codebase json name size hash = do
  file ← ok_or (string_at name json) (BadOffer index)
  bytes ← ok_or (size_at size json) (BadOffer index)
  digest ← ok_or (hash_at hash json) (BadOffer index)
  Ok (record { codebase = codebase; name = file; size = bytes; hash = digest })

-- the full package
unfoldable pub full_of : ℕ → Data → Data → Result Part ReplyFault
full_of index update json = do
  codebase ← ok_or (address_of (codes "codebase") update) (BadOffer index)
  part_of index codebase json (codes "name") (codes "size") (codes "hash_sha256")

-- all three members of a differential are there, of whatever type
abbrev pub names_diff : Data → Bool
names_diff json = is_some (get (codes "namediff") json) && is_some (get (codes "sizediff") json)
    && is_some (get (codes "hashdiff_sha256") json)

-- the address of a differential, if all of one is there
abbrev pub diff_address : Data → Data → Option (List ℕ)
diff_address update json =
    if names_diff json then address_of (codes "codebasediff") update else None

-- the differential at that address, if there is one
abbrev pub diff_at : ℕ → Option (List ℕ) → Data → Result (Option Part) ReplyFault
diff_at index None json = Ok None
diff_at index (Some codebase) json =
    part_of index codebase json (codes "namediff") (codes "sizediff") (codes "hashdiff_sha256")
    >>= (λ part. Ok (Some part))

-- rule: Differential in a reply
-- the differential: none unless its three members and an address are all there; then each is valid
abbrev pub diff_of : ℕ → Data → Data → Result (Option Part) ReplyFault
diff_of index update json = diff_at index (diff_address update json) json

-- rule: Offer that is read
-- the offer of an update
unfoldable pub offer_of : ℕ → Data → Result Offer ReplyFault
offer_of index update = do
  manifest ← ok_or (get (codes "manifest") update) (BadOffer index)
  version ← ok_or (string_at (codes "version") manifest) (BadOffer index)
  json ← ok_or (package_of manifest) (BadOffer index)
  fp ← ok_or (string_at (codes "fp") json) (BadOffer index)
  full ← full_of index update json
  diff ← diff_of index update json
  Ok (record { version = version; fp = fp; full = full; diff = diff })

-- the reply to an update check, by its status
abbrev pub check_with : ℕ → List ℕ → Data → Result CheckReply ReplyFault
check_with index status update =
    if bytes_eq status (codes "ok") then offer_of index update >>= (λ offer. Ok (check.Offered offer))
    else if bytes_eq status (codes "noupdate") then Ok check.NoUpdate
    else if bytes_eq status (codes "error-internal") then Ok check.Internal
    else Ok check.Other

-- the reply to an update check; one without a status is `Other`
abbrev pub check_of : ℕ → Data → Result CheckReply ReplyFault
check_of index update = check_with index (string_or_empty_at (codes "status") update) update

-- the reply to an update check, if there is one
abbrev pub optional_check : ℕ → Option Data → Result (Option CheckReply) ReplyFault
optional_check index None = Ok None
optional_check index (Some update) = check_of index update >>= (λ reply. Ok (Some reply))

-- a known app, with the reply to its update check
abbrev pub known_with : Data → Option CheckReply → KnownApp
known_with app reply = record {
  cohort = string_or_empty_at (codes "cohort") app;
  name = string_or_empty_at (codes "cohortname") app;
  ping = is_some (object_at (codes "ping") app);
  events = event_count_of app;
  check = reply;
}

-- a known app
abbrev pub known_of : ℕ → Data → Result AppState ReplyFault
known_of index app = optional_check index (get (codes "updatecheck") app)
    >>= (λ reply. Ok (state.Known (known_with app reply)))

-- the state of an app, by its status
abbrev pub state_with : ℕ → List ℕ → Data → Result AppState ReplyFault
state_with index status app =
    if bytes_eq status (codes "ok") then known_of index app
    else if bytes_eq status (codes "error-unknownApplication") then Ok state.Unknown
    else Ok state.Other

-- the reply to the app of that index
unfoldable pub app_of : ℕ → Data → Result AppReply ReplyFault
app_of index app = do
  appid ← ok_or (string_at (codes "appid") app) (BadOffer index)
  status ← ok_or (string_at (codes "status") app) (BadOffer index)
  known ← state_with index status app
  Ok (record { appid = appid; state = known })

-- the replies to the apps from that index on, or the first fault of one
unfoldable pub apps_from : ℕ → Items → Result (List AppReply) ReplyFault
apps_from index no_items = Ok []
apps_from index (item app apps) = do
  reply ← app_of index app
  replies ← apps_from (suc index) apps
  Ok (reply ∷ replies)

-- the replies to the apps: none if `app` is missing, K5 of index 0 if it is no list
unfoldable pub apps_of : Option Data → Result (List AppReply) ReplyFault
apps_of None = Ok []
apps_of (Some listed) = do
  apps ← ok_or (as_array listed) (BadOffer 0)
  apps_from 0 apps

-- a number of `daystart`, else 0
abbrev pub daystart_at : List ℕ → Data → ℕ
daystart_at name response =
    unwrap_or (option_map (count_at name) (get (codes "daystart") response)) 0

-- the response, if it speaks protocol 3.1
abbrev pub spoken_response : Data → Option Data
spoken_response response =
    if bytes_eq (string_or_empty_at (codes "protocol") response) (codes "3.1") then Some response else None

-- the reply of a JSON value, or its first fault after K2
unfoldable pub reply_of : Data → Result Reply ReplyFault
reply_of json = do
  found ← ok_or (object_at (codes "response") json) NoResponse
  response ← ok_or (spoken_response found) BadProtocol
  apps ← apps_of (get (codes "app") response)
  Ok (record {
    days = daystart_at (codes "elapsed_days") response;
    seconds = daystart_at (codes "elapsed_seconds") response;
    apps = apps;
  })

-- the four bytes before the JSON
abbrev pub guard : List ℕ
guard = codes ")]}'"

-- the bytes after the guard, if they begin with it
abbrev pub after_guard : List ℕ → Option (List ℕ)
after_guard text = if bytes_eq (take 4 text) guard then Some (drop 4 text) else None

-- rule: Faults of a reply
-- the reply that the bytes are, or their first fault
unfoldable pub reply_of_bytes : List ℕ → Result Reply ReplyFault
reply_of_bytes text = do
  json_text ← ok_or (after_guard text) NoPrefix
  json ← ok_or (json_of json_text) NotJson
  reply_of json
