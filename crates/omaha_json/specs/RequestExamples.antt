-- Whole requests, worked by hand: their bytes and their records or faults.
use Rattle.std.specs.Prelude.{◌≡◌, List, ℕ, [], ◌∷◌, ◌++◌, Some, true, false, Ok, Err, codes}
use Rattle.omaha_json.specs.declared.request.Request.{Request}
use Rattle.omaha_json.specs.declared.fault.RequestFault.{RequestFault}
use Rattle.omaha_json.specs.RequestReading.{request_of_bytes}

-- a client of one app, which has version 1.0 installed and an update check
abbrev pub update_request : Request
update_request = record {
  session = codes "abc";
  apps = record {
    appid = codes "mini";
    version = codes "1.0";
    fp = codes "1.ba7816bf8f01cfea414140de5dae2223b00361a396177a9cb410ff61f20015ad";
    cohort = codes "stable:0";
    hint = [];
    check = Some (record { disabled = false; rollback = false; prefix = [] });
    ping = false;
    events = 0;
  } ∷ [];
}

-- the bytes of that client, with a line feed at its end
abbrev pub update_request_bytes : List ℕ
update_request_bytes =
    codes "{\"request\":{\"app\":[{\"appid\":\"mini\",\"cohort\":\"stable:0\","
    ++ codes "\"packages\":{\"package\":["
    ++ codes "{\"fp\":\"1.ba7816bf8f01cfea414140de5dae2223b00361a396177a9cb410ff61f20015ad\"}"
    ++ codes "]},\"updatecheck\":{},\"version\":\"1.0\"}],"
    ++ codes "\"protocol\":\"3.1\",\"sessionid\":\"abc\"}}"
    ++ 10 ∷ []

-- the bytes read as the record
abbrev pub UpdateRequestReads : Type 0
UpdateRequestReads = request_of_bytes update_request_bytes ≡ Ok update_request

-- a client that says all that is read of an app
abbrev pub full_request : Request
full_request = record {
  session = [];
  apps = record {
    appid = codes "A";
    version = codes "2";
    fp = codes "f";
    cohort = codes "c";
    hint = codes "h";
    check = Some (record { disabled = true; rollback = true; prefix = codes "3." });
    ping = true;
    events = 2;
  } ∷ [];
}

-- the bytes of that client
abbrev pub full_request_bytes : List ℕ
full_request_bytes =
    codes "{\"request\":{\"protocol\":\"3.1\",\"app\":["
    ++ codes "{\"appid\":\"A\",\"version\":\"2\",\"cohort\":\"c\",\"cohorthint\":\"h\","
    ++ codes "\"packages\":{\"package\":[{\"fp\":\"f\"},{\"fp\":\"g\"}]},\"updatecheck\":"
    ++ codes "{\"updatedisabled\":true,\"rollback_allowed\":true,\"targetversionprefix\":\"3.\"},"
    ++ codes "\"ping\":{\"r\":1},\"event\":[{},{}]}]}}"

-- the bytes read as the record
abbrev pub FullRequestReads : Type 0
FullRequestReads = request_of_bytes full_request_bytes ≡ Ok full_request

-- a client that asks for no app
abbrev pub empty_request : Request
empty_request = record { session = []; apps = [] }

-- the 30 bytes of that client read as the record
abbrev pub EmptyRequestReads : Type 0
EmptyRequestReads =
    request_of_bytes (codes "{\"request\":{\"protocol\":\"3.1\"}}") ≡ Ok empty_request

-- the bytes are rejected with that fault
abbrev pub IsInvalid : List ℕ → RequestFault → Type 0
IsInvalid text fault = request_of_bytes text ≡ Err fault
