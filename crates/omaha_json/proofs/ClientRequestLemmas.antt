-- A request that was written is read back: its tree has no float, nests little, and reads as the
-- request.
use Rattle.std.proofs.Common.{◌≡◌, ℕ, zero, suc, ◌≤◌, eqb, List, [], ◌∷◌, length, map, replicate, Bool, true, false, cond, nat_lt, nat_le, Option, Some, None, option_map, option_and_then, unwrap_or, Ok, codes, refl, sym, ap, ◌∙◌, arith, lt-ltb, le-leb, eqb-true}
use Rattle.std.specs.Prelude.{All}
use Rattle.std.proofs.lemmas.List.Elements.{All-head, All-tail}
use Rattle.serde_json.specs.Data.{Data, string, object, Members, no_members, member, depth, items_depth, members_depth}
use Rattle.serde_json.specs.Events.{items_len}
use Rattle.serde_json.specs.Find.{as_array}
use Rattle.serde_json.specs.Read.{max_depth}
use Rattle.serde_json.specs.View.{items_of}
use Rattle.serde_json.specs.Written.{has_float, items_have_float, members_have_float}
use Rattle.omaha_json.specs.declared.request.Request.{Request}
use Rattle.omaha_json.specs.declared.request.AppAsk.{AppAsk}
use Rattle.omaha_json.specs.declared.request.Check.{Check}
use Rattle.omaha_json.specs.ReplyWriting.{optional_member}
use Rattle.omaha_json.specs.RequestReading.{appid_from, ask_with, ask_of, asks_from, asks_of, request_of}
use Rattle.omaha_json.specs.RequestWriting.{blanks, events_data, ping_data, check_data, packages_data, ask_data, request_data, IsAppid, IsWritable}

-- ---- no float

-- whether there is a value with a float
abbrev some_has_float : Option Data → Bool
some_has_float value = unwrap_or (option_map has_float value) false

members_have_float-optional : (name : List ℕ) (value : Option Data) (rest : Members)
    → some_has_float value ≡ false → members_have_float rest ≡ false
    → members_have_float (optional_member name value rest) ≡ false
members_have_float-optional name None rest plain rest_plain = rest_plain
members_have_float-optional name (Some value) rest plain rest_plain = rw plain rest_plain

has_float-blanks : (count : ℕ) → has_float (blanks count) ≡ false
has_float-blanks zero = refl
has_float-blanks (suc n) = has_float-blanks n

float_if_none : (none : Bool) (events : ℕ)
    → some_has_float (cond none None (Some (blanks events))) ≡ false
float_if_none true events = refl
float_if_none false events = has_float-blanks events

some_has_float-ping : (sent : Bool) → some_has_float (ping_data sent) ≡ false
some_has_float-ping true = refl
some_has_float-ping false = refl

some_has_float-check : (check : Option Check) → some_has_float (option_map check_data check) ≡ false
some_has_float-check None = refl
some_has_float-check (Some check) = refl

has_float-ask_data : (ask : AppAsk) → has_float (ask_data ask) ≡ false
has_float-ask_data ask =
    let last = member (codes "version") (string ask.version) no_members in
    let check = optional_member (codes "updatecheck") (option_map check_data ask.check) last in
    let ping = optional_member (codes "ping") (ping_data ask.ping) check in
    let plain_check : members_have_float check ≡ false =
    members_have_float-optional (codes "updatecheck") (option_map check_data ask.check) last
    (some_has_float-check ask.check) refl in
    let plain_ping : members_have_float ping ≡ false =
    members_have_float-optional (codes "ping") (ping_data ask.ping) check
    (some_has_float-ping ask.ping) plain_check in
    members_have_float-optional (codes "event") (events_data ask.events)
    (member (codes "packages") (packages_data ask.fp) ping)
    (float_if_none (eqb ask.events 0) ask.events) plain_ping

items_have_float-asks : (asks : List AppAsk) → items_have_float (items_of (map ask_data asks)) ≡ false
items_have_float-asks [] = refl
items_have_float-asks (ask ∷ asks) = rw (has_float-ask_data ask) (items_have_float-asks asks)

pub has_float-request_data : (request : Request) → has_float (request_data request) ≡ false
unfolding request_data
has_float-request_data request = rw (items_have_float-asks request.apps) refl

-- ---- depth

-- how deep a value nests, if there is one
abbrev some_depth : Option Data → ℕ
some_depth value = unwrap_or (option_map depth value) 0

members_depth-optional : (name : List ℕ) (value : Option Data) (rest : Members) (n : ℕ)
    → some_depth value ≤ n → members_depth rest ≤ n
    → members_depth (optional_member name value rest) ≤ n
members_depth-optional name None rest n low rest_low = rest_low
members_depth-optional name (Some value) rest n low rest_low = omega arith

items_depth-blanks : (count : ℕ) → items_depth (items_of (replicate count (object no_members))) ≤ 1
items_depth-blanks zero = omega arith
items_depth-blanks (suc n) = omega (arith, items_depth-blanks n)

depth_if_none : (none : Bool) (events : ℕ)
    → some_depth (cond none None (Some (blanks events))) ≤ 3
depth_if_none true events = omega arith
depth_if_none false events = omega (arith, items_depth-blanks events)

some_depth-ping : (sent : Bool) → some_depth (ping_data sent) ≤ 3
some_depth-ping true = omega arith
some_depth-ping false = omega arith

some_depth-check : (check : Option Check) → some_depth (option_map check_data check) ≤ 3
some_depth-check None = omega arith
some_depth-check (Some check) = omega arith

depth-ask_data : (ask : AppAsk) → depth (ask_data ask) ≤ 4
depth-ask_data ask =
    let last = member (codes "version") (string ask.version) no_members in
    let check = optional_member (codes "updatecheck") (option_map check_data ask.check) last in
    let ping = optional_member (codes "ping") (ping_data ask.ping) check in
    let low_last : members_depth last ≤ 3 = omega arith in
    let low_check : members_depth check ≤ 3 =
    members_depth-optional (codes "updatecheck") (option_map check_data ask.check) last 3
    (some_depth-check ask.check) low_last in
    let low_ping : members_depth ping ≤ 3 =
    members_depth-optional (codes "ping") (ping_data ask.ping) check 3
    (some_depth-ping ask.ping) low_check in
    let packages = member (codes "packages") (packages_data ask.fp) ping in
    let low_packages : members_depth packages ≤ 3 = omega arith in
    let low_event = members_depth-optional (codes "event") (events_data ask.events) packages 3
    (depth_if_none (eqb ask.events 0) ask.events) low_packages in
    omega (arith, low_event)

items_depth-asks : (asks : List AppAsk) → items_depth (items_of (map ask_data asks)) ≤ 4
items_depth-asks [] = omega arith
items_depth-asks (ask ∷ asks) = omega (arith, depth-ask_data ask, items_depth-asks asks)

pub depth-request_data : (request : Request) → depth (request_data request) ≤ max_depth
unfolding request_data
depth-request_data request = omega (arith, items_depth-asks request.apps)

-- ---- reading

items_len-blanks : (count : ℕ) → items_len (items_of (replicate count (object no_members))) ≡ count
items_len-blanks zero = refl
items_len-blanks (suc n) = ap suc (items_len-blanks n)

-- how many events a value lists, if there is one
abbrev some_events : Option Data → ℕ
some_events value = unwrap_or (option_map items_len (option_and_then as_array value)) 0

events_if_none : (none : Bool) (events : ℕ) → eqb events 0 ≡ none
    → some_events (cond none None (Some (blanks events))) ≡ events
events_if_none true events is = sym (eqb-true events 0 is)
events_if_none false events is = items_len-blanks events

-- an ask of these parts
abbrev ask_of_parts : (appid version fp cohort hint : List ℕ) → Option Check → Bool → ℕ → AppAsk
ask_of_parts appid version fp cohort hint check ping events = record {
  appid = appid;
  version = version;
  fp = fp;
  cohort = cohort;
  hint = hint;
  check = check;
  ping = ping;
  events = events;
}

-- the tree of an ask of these parts
abbrev parts_data : (appid version fp cohort hint : List ℕ) → Option Check → Bool → Option Data → Data
parts_data appid version fp cohort hint check ping event = object
    (member (codes "appid") (string appid)
    (member (codes "cohort") (string cohort)
    (member (codes "cohorthint") (string hint)
    (optional_member (codes "event") event
    (member (codes "packages") (packages_data fp)
    (optional_member (codes "ping") (ping_data ping)
    (optional_member (codes "updatecheck") (option_map check_data check)
    (member (codes "version") (string version)
    no_members))))))))

parts_back : (appid version fp cohort hint : List ℕ) (check : Option Check) (ping : Bool)
    (event : Option Data)
    → ask_with (parts_data appid version fp cohort hint check ping event) appid
    ≡ ask_of_parts appid version fp cohort hint check ping (some_events event)
parts_back appid version fp cohort hint None true None = refl
parts_back appid version fp cohort hint None true (Some event) = refl
parts_back appid version fp cohort hint None false None = refl
parts_back appid version fp cohort hint None false (Some event) = refl
parts_back appid version fp cohort hint (Some check) true None = refl
parts_back appid version fp cohort hint (Some check) true (Some event) = refl
parts_back appid version fp cohort hint (Some check) false None = refl
parts_back appid version fp cohort hint (Some check) false (Some event) = refl

appid_from-kept : (appid : List ℕ) → IsAppid appid → appid_from appid ≡ Some appid
appid_from-kept appid h =
    let low : nat_lt 0 (length appid) ≡ true = lt-ltb 0 (length appid) h.0 in
    let high : nat_le (length appid) 256 ≡ true = le-leb (length appid) 256 h.1 in
    rw (low, high) refl

ask_back : (index : ℕ) (ask : AppAsk) → IsAppid ask.appid → ask_of index (ask_data ask) ≡ Ok ask
unfolding ask_of
ask_back index ask h =
    let events = events_if_none (eqb ask.events 0) ask.events refl in
    rw (appid_from-kept ask.appid h) (ap Ok
    (parts_back ask.appid ask.version ask.fp ask.cohort ask.hint ask.check ask.ping (events_data ask.events)
    ∙ ap (ask_of_parts ask.appid ask.version ask.fp ask.cohort ask.hint ask.check ask.ping) events))

asks_back : (index : ℕ) (asks : List AppAsk) → All (λ ask. IsAppid ask.appid) asks
    → asks_from index (items_of (map ask_data asks)) ≡ Ok asks
unfolding asks_from
asks_back index [] all = refl
asks_back index (ask ∷ asks) all =
    rw (
      ask_back index ask (All-head (λ ask. IsAppid ask.appid) ask asks all),
      asks_back (suc index) asks (All-tail (λ ask. IsAppid ask.appid) ask asks all),
    ) refl

-- a request's tree reads as the request
pub request_back : (request : Request) → IsWritable request
    → request_of (request_data request) ≡ Ok request
unfolding request_of request_data asks_of
request_back request h =
    let few : nat_le (length request.apps) 256 ≡ true = le-leb (length request.apps) 256 h.0 in
    rw (asks_back 0 request.apps h.1, few) refl
