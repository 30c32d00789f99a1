-- How the fault of a request is printed: the fault's code and name, this project's own.
use Rattle.std.specs.Prelude.{ℕ, List, ◌++◌, codes, decimal}
use Rattle.omaha_json.specs.declared.fault.RequestFault.{RequestFault}
use Rattle.omaha_json.specs.declared.fault.RequestFault.TheVariants.{NotJson, NoRequest, BadProtocol, BadApp, TooManyApps}

-- rule: Printed fault of a request
-- the fault's code, a space and its name; of an invalid app also a space and its index in decimal
abbrev pub fault_string : RequestFault → List ℕ
fault_string NotJson = codes "J1 NotJson"
fault_string NoRequest = codes "J2 NoRequest"
fault_string BadProtocol = codes "J3 BadProtocol"
fault_string (BadApp index) = codes "J4 BadApp " ++ decimal index
fault_string TooManyApps = codes "J5 TooManyApps"
